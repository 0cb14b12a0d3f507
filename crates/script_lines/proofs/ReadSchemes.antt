-- The spelling of a scheme is read as it.
use Rattle.std.proofs.Common.{◌≡◌, inl, inr, ◌^◌, ◌<◌, ◌∷◌, [], ◌==◌, ◌&&◌, ◌||◌, nat_lt, ℕ, Bool, true, false, not, List, ◌++◌, map, Option, Some, None, option_map, Ok, refl, sym, ap, ◌∙◌, decimal, arith}
use Rattle.std.specs.Cmp.Derive.{both_true}
use Rattle.std.specs.List.{AllByRecursion, list_all}
use Rattle.std.specs.Option.{ok_or}
use Rattle.std.proofs.lemmas.Bool.Decides.{nat_tests}
use Rattle.damon_types.specs.declared.scheme.Action.{Action}
use Rattle.damon_types.specs.declared.scheme.Action.TheVariants.{Stat, Willneed, Cold as ColdAction, Pageout, Hugepage, Nohugepage, LruPrio, LruDeprio}
use Rattle.damon_types.specs.declared.scheme.Prefer.{Prefer}
use Rattle.damon_types.specs.declared.scheme.Prefer.TheVariants.{Hot, Cold}
use Rattle.damon_types.specs.declared.scheme.Scheme.{Scheme}
use Rattle.damon_types.specs.declared.scheme.Version.{Version}
use Rattle.damon_types.specs.declared.scheme.Version.TheVariants.{One, Two}
use Rattle.script_lines.specs.declared.kind.ScriptKind.TheVariants.{Form}
use Rattle.script_lines.specs.declared.keys.Key.{Key}
use Rattle.script_lines.specs.declared.keys.Key.TheVariants.{Size, Count, Age, Quota as QuotaKey, Time as TimeKey, Weights as WeightsKey, Prefer as PreferKey, Marks as MarksKey, Filter as FilterKey}
use Rattle.script_lines.specs.declared.keys.Setting.{Setting}
use Rattle.script_lines.specs.declared.keys.Setting.TheVariants.{Size as SizeOf, Count as CountOf, Age as AgeOf, Quota as QuotaOf, Time as TimeOf, Weights as WeightsOf, Prefer as PreferOf, Marks as MarksOf, Filter as FilterOf}
use Rattle.script_lines.specs.Fits.{FitsSetting}
use Rattle.script_lines.specs.Keys.{action_of, are_formed, comes_later, is_formed, is_misformed, key_and_value, may_be_timed, may_follow, place_in, scheme_in, settings_of, with_settings}
use Rattle.script_lines.specs.Refusal.{only_if}
use Rattle.script_lines.specs.Separators.{colon, comma}
use Rattle.damon_types.specs.Actions.{action_name}
use Rattle.script_lines.specs.Spelling.{kind_name, kind_value, spelled_answer, spelled_prefer, spelled_setting, spelled_side}
use Rattle.script_lines.proofs.SpelledParts.{scheme_words}
use Rattle.script_lines.specs.Words.{number_8}
use Rattle.script_lines.specs.Settings.{AreAfter, ComesLater, MayFollow, default_scheme, key_of, key_place, settled}
use Rattle.script_lines.proofs.PlainWords.{IsField, decimal_field, field_8, field_16, field_32, field_bytes, field_word, is_plain_word, is_word_byte, list_all-both, list_all-weaker}
use Rattle.script_lines.proofs.ReadFields.{number_8-decimal}
use Rattle.script_lines.proofs.ReadKeys.{answer_part, is_part_byte, key_and_value-spelled, name_part, setting_for-spelled, setting_value, settings_of-spelled, value_part}
use Rattle.script_lines.proofs.SpellSteps.{first_true, second_true, then-Ok}

action_of-spelled : (action : Action) → action_of (action_name action) ≡ Some action
action_of-spelled Stat = refl
action_of-spelled Willneed = refl
action_of-spelled ColdAction = refl
action_of-spelled Pageout = refl
action_of-spelled Hugepage = refl
action_of-spelled Nohugepage = refl
action_of-spelled LruPrio = refl
action_of-spelled LruDeprio = refl

-- only the filter has the last place
last_place : (key : Key) → (key_place key == 8) ≡ true → key ≡ FilterKey
last_place Size e = absurd cc
last_place Count e = absurd cc
last_place Age e = absurd cc
last_place QuotaKey e = absurd cc
last_place TimeKey e = absurd cc
last_place WeightsKey e = absurd cc
last_place PreferKey e = absurd cc
last_place MarksKey e = absurd cc
last_place FilterKey e = refl

-- only the quota has its place
quota_place : (key : Key) → (key_place key == 3) ≡ true → key ≡ QuotaKey
quota_place Size e = absurd cc
quota_place Count e = absurd cc
quota_place Age e = absurd cc
quota_place QuotaKey e = refl
quota_place TimeKey e = absurd cc
quota_place WeightsKey e = absurd cc
quota_place PreferKey e = absurd cc
quota_place MarksKey e = absurd cc
quota_place FilterKey e = absurd cc

-- the place of the key of a setting, if there is one
abbrev place_of : Option Setting → Option ℕ
place_of last = option_map (λ s. key_place (key_of s)) last

-- a setting that comes later passes the test of its key
comes_later-after : (earlier : Option Setting) (later : Setting) → ComesLater earlier later → comes_later (place_of earlier) (key_of later) ≡ true
comes_later-after None later after = refl
comes_later-after (Some earlier) later (inl less) =
    let rises : nat_lt (key_place (key_of earlier)) (key_place (key_of later)) ≡ true = grind (arith, nat_tests) in
    ap (λ t. t || ((key_place (key_of earlier) == 8) && (key_place (key_of later) == 8))) rises
comes_later-after (Some earlier) later (inr (first, second)) = λ i. comes_later (Some (key_place (first i))) (second i)

-- a setting whose key passes the test comes later
after_comes_later : (earlier : Option Setting) (later : Setting) → comes_later (place_of earlier) (key_of later) ≡ true → ComesLater earlier later
after_comes_later None later e = tt
after_comes_later (Some earlier) later e = by (nat_lt (key_place (key_of earlier)) (key_place (key_of later))) refl e
  where
    by : (rises : Bool) → nat_lt (key_place (key_of earlier)) (key_place (key_of later)) ≡ rises
        → (rises || ((key_place (key_of earlier) == 8) && (key_place (key_of later) == 8))) ≡ true → ComesLater (Some earlier) later
    by true is passes = let less : key_place (key_of earlier) < key_place (key_of later) = grind (arith, nat_tests) in inl less
    by false is both =
        inr (last_place (key_of earlier) (first_true (key_place (key_of earlier) == 8) _ both), last_place (key_of later) (second_true (key_place (key_of earlier) == 8) _ both))

-- a time may stand after this setting
abbrev IsTimed : Version → Option Setting → Type 0
IsTimed version earlier = (version ≡ Two) × (option_map key_of earlier ≡ Some QuotaKey)

-- where a time may stand, its test is passed
may_be_timed-after : (version : Version) (earlier : Option Setting) → IsTimed version earlier → may_be_timed version (place_of earlier) ≡ true
may_be_timed-after One earlier (two, quota) = absurd cc
may_be_timed-after Two None (two, quota) = absurd cc
may_be_timed-after Two (Some s) (two, quota) = let same : key_of s ≡ QuotaKey = cc in ap (λ k. key_place k == 3) same

-- where the test is passed, a time may stand
after_may_be_timed : (version : Version) (earlier : Option Setting) → may_be_timed version (place_of earlier) ≡ true → IsTimed version earlier
after_may_be_timed One earlier e = absurd cc
after_may_be_timed Two None e = absurd cc
after_may_be_timed Two (Some s) e = (refl, ap (λ k. Some k) (quota_place (key_of s) e))

-- only a time wants the quota before it
timed-passes : (version : Version) (earlier : Option Setting) (later : Setting) → (key_of later ≡ TimeKey → IsTimed version earlier)
    → (not (key_place (key_of later) == 4) || may_be_timed version (place_of earlier)) ≡ true
timed-passes version earlier (SizeOf x) timed = refl
timed-passes version earlier (CountOf x) timed = refl
timed-passes version earlier (AgeOf x) timed = refl
timed-passes version earlier (QuotaOf x) timed = refl
timed-passes version earlier (TimeOf x) timed = may_be_timed-after version earlier (timed refl)
timed-passes version earlier (WeightsOf x) timed = refl
timed-passes version earlier (PreferOf x) timed = refl
timed-passes version earlier (MarksOf x) timed = refl
timed-passes version earlier (FilterOf x) timed = refl

-- a setting that may follow another passes the test of its key
may_follow-after : (version : Version) (earlier : Option Setting) (later : Setting) → MayFollow version earlier later
    → may_follow version (place_of earlier) (key_of later) ≡ true
may_follow-after version earlier later follows =
    both_true (timed-passes version earlier later follows.timed) (comes_later-after earlier later follows.comes_later)

-- a setting whose key passes the test may follow the other
after_may_follow : (version : Version) (earlier : Option Setting) (later : Setting) → may_follow version (place_of earlier) (key_of later) ≡ true
    → MayFollow version earlier later
after_may_follow version earlier later e =
    let passes = first_true (not (key_place (key_of later) == 4) || may_be_timed version (place_of earlier)) _ e in
    record {
      comes_later = after_comes_later earlier later (second_true (not (key_place (key_of later) == 4) || may_be_timed version (place_of earlier)) _ e);
      timed = λ is. after_may_be_timed version earlier (sym (ap (λ k. not (key_place k == 4) || may_be_timed version (place_of earlier)) is) ∙ passes);
    }

-- the spelling of a setting that may follow has the right form
is_formed-spelled : (version : Version) (last : Option ℕ) (x : Setting) → FitsSetting x → may_follow version last (key_of x) ≡ true
    → is_formed version last (key_and_value (spelled_setting x)) ≡ true
is_formed-spelled version last x fits follows =
    ap (is_formed version last) (key_and_value-spelled x) ∙ both_true follows (ap (λ r. not (is_misformed r)) (setting_for-spelled x fits))

-- the spellings of settings in order have the right form
are_formed-spelled : (version : Version) (last : Option Setting) (xs : List Setting) → AreAfter version last xs → AllByRecursion FitsSetting xs
    → are_formed version (place_of last) (map spelled_setting xs) ≡ true
are_formed-spelled version last [] order fit = refl
are_formed-spelled version last (x ∷ xs) order fit =
    both_true (is_formed-spelled version (place_of last) x fit.0 (may_follow-after version last x order.0))
    (ap (λ r. are_formed version (place_in r) (map spelled_setting xs)) (key_and_value-spelled x) ∙ are_formed-spelled version (Some x) xs order.1 fit.1)

-- spellings of settings that have the right form are in order
pub in_order-formed : (version : Version) (last : Option Setting) (xs : List Setting) → are_formed version (place_of last) (map spelled_setting xs) ≡ true
    → AreAfter version last xs
in_order-formed version last [] formed = tt
in_order-formed version last (x ∷ xs) formed =
    let said = key_and_value-spelled x in
    let first = first_true (is_formed version (place_of last) (key_and_value (spelled_setting x))) _ formed in
    let others = second_true (is_formed version (place_of last) (key_and_value (spelled_setting x))) _ formed in
    let follows = first_true (may_follow version (place_of last) (key_of x)) _ (sym (ap (is_formed version (place_of last)) said) ∙ first) in (
      after_may_follow version last x follows,
      in_order-formed version (Some x) xs (sym (ap (λ r. are_formed version (place_in r) (map spelled_setting xs)) said) ∙ others),
    )

-- the words of a scheme are read as that scheme
pub scheme_in-words : (version : Version) (slot : ℕ) (action : Action) (settings : List Setting) (scheme : Scheme) → slot < 2 ^ 8 → AllByRecursion FitsSetting settings → AreAfter version None settings
    → settled (default_scheme action) settings ≡ Ok scheme → scheme_in version (scheme_words slot action settings) ≡ Ok (slot, scheme)
scheme_in-words version slot action settings scheme small fit order made =
    let keys = map spelled_setting settings in
    then-Ok (ok_or (action_of (action_name action)) Form) _ action _ (ap (λ o. ok_or o Form) (action_of-spelled action))
    (then-Ok (only_if (are_formed version None keys) Form (tt {0})) _ tt _ (ap (λ t. only_if t Form (tt {0})) (are_formed-spelled version None settings order fit))
    (then-Ok (number_8 (decimal slot)) _ slot _ (number_8-decimal slot small)
    (then-Ok (with_settings (default_scheme action) keys) _ scheme _
    (then-Ok (settings_of keys) (settled (default_scheme action)) settings _ (settings_of-spelled settings fit) made) refl)))

action_word : (action : Action) → is_plain_word (action_name action) ≡ true
action_word Stat = refl
action_word Willneed = refl
action_word ColdAction = refl
action_word Pageout = refl
action_word Hugepage = refl
action_word Nohugepage = refl
action_word LruPrio = refl
action_word LruDeprio = refl

-- two parts with a separator between them have bytes of a word only
between : (a : List ℕ) (byte : ℕ) (b : List ℕ) → list_all is_word_byte a ≡ true → is_word_byte byte ≡ true → list_all is_word_byte b ≡ true
    → list_all is_word_byte (a ++ byte ∷ b) ≡ true
between a byte b first separator second = list_all-both is_word_byte a (byte ∷ b) first (both_true separator second)

two_bytes : (a : List ℕ) (byte : ℕ) (b : List ℕ) → is_word_byte byte ≡ true → IsField a → IsField b → list_all is_word_byte (a ++ byte ∷ b) ≡ true
two_bytes a byte b separator first second = between a byte b (field_bytes a first) separator (field_bytes b second)

three_bytes : (a b c : List ℕ) → IsField a → IsField b → IsField c → list_all is_word_byte (a ++ comma ∷ (b ++ comma ∷ c)) ≡ true
three_bytes a b c first second third = between a comma (b ++ comma ∷ c) (field_bytes a first) refl (two_bytes b comma c refl second third)

-- the bytes of a part of a filter are bytes of a word
part_bytes : (part : List ℕ) → list_all is_part_byte part ≡ true → list_all is_word_byte part ≡ true
part_bytes part all = list_all-weaker is_part_byte is_word_byte (λ c passes. first_true (is_word_byte c) (not (c == colon)) passes) part all

prefer_bytes : (prefer : Prefer) → list_all is_word_byte (spelled_prefer prefer) ≡ true
prefer_bytes Hot = refl
prefer_bytes Cold = refl

value_bytes : (x : Setting) → FitsSetting x → list_all is_word_byte (setting_value x) ≡ true
value_bytes (SizeOf span) fits = two_bytes (decimal span.low) comma (decimal span.high) refl (field_32 span.low fits.0) (field_32 span.high fits.1)
value_bytes (CountOf span) fits = two_bytes (decimal span.low) comma (decimal span.high) refl (field_32 span.low fits.0) (field_32 span.high fits.1)
value_bytes (AgeOf span) fits = two_bytes (decimal span.low) comma (decimal span.high) refl (field_32 span.low fits.0) (field_32 span.high fits.1)
value_bytes (QuotaOf q) fits = two_bytes (decimal q.bytes) comma (decimal q.reset) refl (decimal_field q.bytes fits.0) (field_32 q.reset fits.1)
value_bytes (TimeOf time) fits = field_bytes (decimal time) (decimal_field time fits)
value_bytes (WeightsOf w) fits =
    three_bytes (decimal w.size) (decimal w.count) (decimal w.age) (field_16 w.size fits.0) (field_16 w.count fits.1) (field_16 w.age fits.2)
value_bytes (PreferOf prefer) fits = prefer_bytes prefer
value_bytes (MarksOf m) fits =
    three_bytes (decimal m.high) (decimal m.mid) (decimal m.low) (field_32 m.high fits.0) (field_32 m.mid fits.1) (field_32 m.low fits.2)
value_bytes (FilterOf f) fits =
    between (spelled_answer f.allow) colon ((spelled_side f.matching ++ kind_name f.kind) ++ colon ∷ kind_value f.kind) (part_bytes (spelled_answer f.allow) (answer_part f.allow)) refl
    (between (spelled_side f.matching ++ kind_name f.kind) colon (kind_value f.kind) (part_bytes (spelled_side f.matching ++ kind_name f.kind) (name_part f.matching f.kind))
    refl (part_bytes (kind_value f.kind) (value_part f.kind fits)))

setting_word : (x : Setting) → FitsSetting x → is_plain_word (spelled_setting x) ≡ true
setting_word (SizeOf span) fits = value_bytes (SizeOf span) fits
setting_word (CountOf span) fits = value_bytes (CountOf span) fits
setting_word (AgeOf span) fits = value_bytes (AgeOf span) fits
setting_word (QuotaOf quota) fits = value_bytes (QuotaOf quota) fits
setting_word (TimeOf time) fits = value_bytes (TimeOf time) fits
setting_word (WeightsOf weights) fits = value_bytes (WeightsOf weights) fits
setting_word (PreferOf prefer) fits = value_bytes (PreferOf prefer) fits
setting_word (MarksOf marks) fits = value_bytes (MarksOf marks) fits
setting_word (FilterOf filter) fits = value_bytes (FilterOf filter) fits

setting_words : (xs : List Setting) → AllByRecursion FitsSetting xs → list_all is_plain_word (map spelled_setting xs) ≡ true
setting_words [] fit = refl
setting_words (x ∷ xs) fit = both_true (setting_word x fit.0) (setting_words xs fit.1)

-- the words of a scheme are plain
pub scheme_words-plain : (slot : ℕ) (action : Action) (settings : List Setting) → slot < 2 ^ 8 → AllByRecursion FitsSetting settings
    → list_all is_plain_word (scheme_words slot action settings) ≡ true
scheme_words-plain slot action settings small fit =
    both_true (field_word (decimal slot) (field_8 slot small)) (both_true (action_word action) (setting_words settings fit))
