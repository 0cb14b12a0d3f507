-- A setting that is read from a word spells that word.
use Rattle.std.proofs.Common.{◌≡◌, ◌<◌, ◌+◌, ◌∷◌, [], ◌==◌, ℕ, Bool, true, false, cond, nat_lt, List, ◌++◌, take, drop, length, get_or, codes, Some, None, Ok, refl, ap, ◌∙◌, eqb-true, decimal, arith}
use Rattle.std.specs.Prelude.{Option, Result, option_map}
use Rattle.std.specs.List.{position_or_len}
use Rattle.std.specs.Option.{ok_or}
use Rattle.std.proofs.lemmas.Bool.Decides.{nat_tests}
use Rattle.std.proofs.lemmas.List.Sums.{split_at_first, passes_at_first}
use Rattle.damon_types.specs.declared.filter.FilterKind.{FilterKind}
use Rattle.damon_types.specs.declared.filter.FilterKind.TheVariants.{Addr, Target, Class}
use Rattle.damon_types.specs.declared.scheme.Prefer.TheVariants.{Hot, Cold}
use Rattle.line_text.specs.Line.{after_prefix, split_at_byte}
use Rattle.line_text.specs.Parts.{joined, one_of, parts, two_of, three_of}
use Rattle.line_text.proofs.Lemmas.{after_prefix-Some}
use Rattle.script_lines.specs.declared.kind.ScriptKind.{ScriptKind}
use Rattle.script_lines.specs.declared.kind.ScriptKind.TheVariants.{Form}
use Rattle.script_lines.specs.declared.keys.Key.{Key}
use Rattle.script_lines.specs.declared.keys.Key.TheVariants.{Size, Count, Age, Quota as QuotaKey, Time as TimeKey, Weights as WeightsKey, Prefer as PreferKey, Marks as MarksKey, Filter as FilterKey}
use Rattle.script_lines.specs.declared.keys.Setting.{Setting}
use Rattle.script_lines.specs.declared.keys.Setting.TheVariants.{Size as SizeOf, Count as CountOf, Age as AgeOf, Quota as QuotaOf, Time as TimeOf, Weights as WeightsOf, Prefer as PreferOf, Marks as MarksOf, Filter as FilterOf}
use Rattle.script_lines.specs.Keys.{addr_of, answer_of, filter_of, key_and_value, key_named, kind_of, marks_of, plain_name, prefer_of, quota_of, setting_for, setting_of, span_in, time_of, weights_of}
use Rattle.script_lines.specs.Laws.{ReadsOnly}
use Rattle.script_lines.specs.Refusal.{◌>>=◌}
use Rattle.script_lines.specs.Spelling.{kind_name, kind_value, spelled_answer, spelled_filter, spelled_marks, spelled_prefer, spelled_setting, spelled_side, spelled_span, spelled_weights}
use Rattle.script_lines.proofs.SpelledParts.{spelled_quota}
use Rattle.script_lines.specs.Words.{byte_address, number_8, number_16, number_32, number_64}
use Rattle.script_lines.proofs.SpellSteps.{bind-Ok, ok_or-Ok}
use Rattle.script_lines.proofs.SpellWords.{byte_address-Ok, number_8-Ok, number_16-Ok, number_32-Ok, number_64-Ok, one_part-Ok, same_or_other, three_parts-Ok, two_parts-Ok}

span_in-Ok : ReadsOnly span_in spelled_span
span_in-Ok value span e =
    let ends = bind-Ok (ok_or (two_of (parts 44 value)) Form) _ span e in
    let low = bind-Ok (number_32 ends.0.0) _ span ends.2 in
    let high = bind-Ok (number_32 ends.0.1) _ span low.2 in
    let is : record { low = low.0; high = high.0 } ≡ span = cc in
    two_parts-Ok 44 value ends.0 ends.1
    ∙ (λ i. joined 44 (number_32-Ok ends.0.0 low.0 low.1 i ∷ number_32-Ok ends.0.1 high.0 high.1 i ∷ []))
    ∙ ap spelled_span is

quota_of-Ok : ReadsOnly quota_of spelled_quota
quota_of-Ok value quota e =
    let fields = bind-Ok (ok_or (two_of (parts 44 value)) Form) _ quota e in
    let bytes = bind-Ok (number_64 fields.0.0) _ quota fields.2 in
    let reset = bind-Ok (number_32 fields.0.1) _ quota bytes.2 in
    let is : record { bytes = bytes.0; reset = reset.0; time = None } ≡ quota = cc in
    two_parts-Ok 44 value fields.0 fields.1
    ∙ (λ i. joined 44 (number_64-Ok fields.0.0 bytes.0 bytes.1 i ∷ number_32-Ok fields.0.1 reset.0 reset.1 i ∷ []))
    ∙ ap spelled_quota is

time_of-Ok : ReadsOnly time_of decimal
time_of-Ok value time e =
    let word = bind-Ok (ok_or (one_of (parts 44 value)) Form) _ time e in
    one_part-Ok 44 value word.0 word.1 ∙ number_64-Ok word.0 time word.2

weights_of-Ok : ReadsOnly weights_of spelled_weights
weights_of-Ok value weights e =
    let fields = bind-Ok (ok_or (three_of (parts 44 value)) Form) _ weights e in
    let size = bind-Ok (number_16 fields.0.0) _ weights fields.2 in
    let count = bind-Ok (number_16 fields.0.1) _ weights size.2 in
    let age = bind-Ok (number_16 fields.0.2) _ weights count.2 in
    let is : record { size = size.0; count = count.0; age = age.0 } ≡ weights = cc in
    three_parts-Ok 44 value fields.0 fields.1
    ∙ (λ i. joined 44 (number_16-Ok fields.0.0 size.0 size.1 i ∷ number_16-Ok fields.0.1 count.0 count.1 i ∷ number_16-Ok fields.0.2 age.0 age.1 i ∷ []))
    ∙ ap spelled_weights is

marks_of-Ok : ReadsOnly marks_of spelled_marks
marks_of-Ok value marks e =
    let fields = bind-Ok (ok_or (three_of (parts 44 value)) Form) _ marks e in
    let high = bind-Ok (number_32 fields.0.0) _ marks fields.2 in
    let mid = bind-Ok (number_32 fields.0.1) _ marks high.2 in
    let low = bind-Ok (number_32 fields.0.2) _ marks mid.2 in
    let is : record { high = high.0; mid = mid.0; low = low.0 } ≡ marks = cc in
    three_parts-Ok 44 value fields.0 fields.1
    ∙ (λ i. joined 44 (number_32-Ok fields.0.0 high.0 high.1 i ∷ number_32-Ok fields.0.1 mid.0 mid.1 i ∷ number_32-Ok fields.0.2 low.0 low.1 i ∷ []))
    ∙ ap spelled_marks is

-- a word that equals one spelling is the spelling of what is read from it
named : {A : Type 0} (spelled : A → List ℕ) (name : List ℕ) (here x : A) → name ≡ spelled here → ◌≡◌ {A = Result A ScriptKind} (Ok here) (Ok x) → name ≡ spelled x
named spelled name here x is e = let same : here ≡ x = cc in is ∙ ap spelled same

prefer_of-Ok : ReadsOnly prefer_of spelled_prefer
prefer_of-Ok value prefer e =
    same_or_other value (codes "hot") _ _ _ (named spelled_prefer value Hot prefer)
    (same_or_other value (codes "cold") _ _ _ (named spelled_prefer value Cold prefer) (λ no. absurd cc)) e

answer_of-Ok : ReadsOnly answer_of spelled_answer
answer_of-Ok value answer e =
    same_or_other value (codes "allow") _ _ _ (named spelled_answer value true answer)
    (same_or_other value (codes "reject") _ _ _ (named spelled_answer value false answer) (λ no. absurd cc)) e

addr_of-Ok : (value : List ℕ) (kind : FilterKind) → addr_of value ≡ Ok kind → (codes "addr" ≡ kind_name kind) × (value ≡ kind_value kind)
addr_of-Ok value kind e =
    let ends = bind-Ok (ok_or (two_of (parts 45 value)) Form) _ kind e in
    let from = bind-Ok (byte_address ends.0.0) _ kind ends.2 in
    let to = bind-Ok (byte_address ends.0.1) _ kind from.2 in
    let is : Addr from.0 to.0 ≡ kind = cc in (
      ap kind_name is,
      two_parts-Ok 45 value ends.0 ends.1
          ∙ (λ i. joined 45 (byte_address-Ok ends.0.0 from.0 from.1 i ∷ byte_address-Ok ends.0.1 to.0 to.1 i ∷ []))
          ∙ ap kind_value is,
    )

target_of-Ok : (value : List ℕ) (kind : FilterKind) → (number_32 value >>= λ target. Ok (Target target)) ≡ Ok kind
    → (codes "target" ≡ kind_name kind) × (value ≡ kind_value kind)
target_of-Ok value kind e =
    let target = bind-Ok (number_32 value) _ kind e in
    let is : Target target.0 ≡ kind = cc in
    (ap kind_name is, number_32-Ok value target.0 target.1 ∙ ap kind_value is)

class_of-Ok : (value : List ℕ) (kind : FilterKind) → (number_8 value >>= λ class. Ok (Class class)) ≡ Ok kind
    → (codes "class" ≡ kind_name kind) × (value ≡ kind_value kind)
class_of-Ok value kind e =
    let class = bind-Ok (number_8 value) _ kind e in
    let is : Class class.0 ≡ kind = cc in
    (ap kind_name is, number_8-Ok value class.0 class.1 ∙ ap kind_value is)

kind_of-Ok : (name value : List ℕ) (kind : FilterKind) → kind_of name value ≡ Ok kind → (name ≡ kind_name kind) × (value ≡ kind_value kind)
kind_of-Ok name value kind e =
    same_or_other name (codes "addr") _ _ _ (λ is read. let both = addr_of-Ok value kind read in (is ∙ both.0, both.1))
    (same_or_other name (codes "target") _ _ _ (λ is read. let both = target_of-Ok value kind read in (is ∙ both.0, both.1))
    (same_or_other name (codes "class") _ _ _ (λ is read. let both = class_of-Ok value kind read in (is ∙ both.0, both.1))
    (λ no. absurd cc))) e

-- a name is its `not-`, if any, and the rest of it
plain_name-whole : (name : List ℕ) → name ≡ spelled_side (plain_name name).0 ++ (plain_name name).1
plain_name-whole name = by (after_prefix (codes "not-") name) refl
  where
    by : (o : Option (List ℕ)) → after_prefix (codes "not-") name ≡ o → name ≡ spelled_side (plain_name name).0 ++ (plain_name name).1
    by None is = rw is refl
    by (Some bare) is = rw is (after_prefix-Some (codes "not-") name bare is)

-- the name of a kind is its `not-`, if any, and the kind's own name
side_name : (name : List ℕ) (kind : FilterKind) → (plain_name name).1 ≡ kind_name kind → name ≡ spelled_side (plain_name name).0 ++ kind_name kind
side_name name kind is = plain_name-whole name ∙ ap (λ n. spelled_side (plain_name name).0 ++ n) is

filter_of-Ok : ReadsOnly filter_of spelled_filter
filter_of-Ok value filter e =
    let fields = bind-Ok (ok_or (three_of (parts 58 value)) Form) _ filter e in
    let allow = bind-Ok (answer_of fields.0.0) _ filter fields.2 in
    let kind = bind-Ok (kind_of (plain_name fields.0.1).1 fields.0.2) _ filter allow.2 in
    let is : record { allow = allow.0; matching = (plain_name fields.0.1).0; kind = kind.0 } ≡ filter = cc in
    let said = kind_of-Ok (plain_name fields.0.1).1 fields.0.2 kind.0 kind.1 in
    three_parts-Ok 58 value fields.0 fields.1
    ∙ (λ i. joined 58 (answer_of-Ok fields.0.0 allow.0 allow.1 i ∷ side_name fields.0.1 kind.0 said.0 i ∷ said.1 i ∷ []))
    ∙ ap spelled_filter is

-- the name of a key
key_name : Key → List ℕ
key_name Size = codes "size"
key_name Count = codes "count"
key_name Age = codes "age"
key_name QuotaKey = codes "quota"
key_name TimeKey = codes "time"
key_name WeightsKey = codes "weights"
key_name PreferKey = codes "prefer"
key_name MarksKey = codes "marks"
key_name FilterKey = codes "filter"

key_named-Some : (name : List ℕ) (key : Key) → key_named name ≡ Some key → name ≡ key_name key
unfolding key_name
key_named-Some name key e =
    same_or_other name (codes "size") _ _ _ (named Size)
    (same_or_other name (codes "count") _ _ _ (named Count)
    (same_or_other name (codes "age") _ _ _ (named Age)
    (same_or_other name (codes "quota") _ _ _ (named QuotaKey)
    (same_or_other name (codes "time") _ _ _ (named TimeKey)
    (same_or_other name (codes "weights") _ _ _ (named WeightsKey)
    (same_or_other name (codes "prefer") _ _ _ (named PreferKey)
    (same_or_other name (codes "marks") _ _ _ (named MarksKey)
    (same_or_other name (codes "filter") _ _ _ (named FilterKey) (λ no. absurd cc))))))))) e
  where
    named : (here : Key) → name ≡ key_name here → ◌≡◌ {A = Option Key} (Some here) (Some key) → name ≡ key_name key
    named here is e = let same : here ≡ key = cc in is ∙ ap key_name same

-- bytes that are split at a byte are the part before it, the byte and the part after it
split_at_byte-whole : (byte : ℕ) (bytes : List ℕ) (sides : List ℕ × List ℕ) → split_at_byte byte bytes ≡ Some sides → bytes ≡ sides.0 ++ byte ∷ sides.1
split_at_byte-whole byte bytes sides e = by (nat_lt at (length bytes)) refl e
  where
    at : ℕ
    at = position_or_len (λ c. c == byte) bytes

    by : (t : Bool) → nat_lt at (length bytes) ≡ t
        → option_map {U = List ℕ × List ℕ} (λ n. (take n bytes, drop (n + 1) bytes)) (cond t (Some at) None) ≡ Some sides
        → bytes ≡ sides.0 ++ byte ∷ sides.1
    by false past found = absurd cc
    by true here found =
        let within : at < length bytes = grind (arith, nat_tests) in
        let is : (take at bytes, drop (at + 1) bytes) ≡ sides = cc in
        let same = eqb-true (get_or bytes at 0) byte (passes_at_first (λ c. c == byte) bytes 0 within) in
        split_at_first (λ c. c == byte) bytes 0 within
        ∙ ap (λ b. take at bytes ++ b ∷ drop (at + 1) bytes) same
        ∙ ap (λ (s : List ℕ × List ℕ). s.0 ++ byte ∷ s.1) is

setting_for-Ok : (key : Key) (value : List ℕ) (setting : Setting) → setting_for key value ≡ Ok setting → key_name key ++ 61 ∷ value ≡ spelled_setting setting
unfolding key_name
setting_for-Ok Size value setting e =
    let x = bind-Ok (span_in value) _ setting e in
    let is : SizeOf x.0 ≡ setting = cc in
    ap (λ v. codes "size=" ++ v) (span_in-Ok value x.0 x.1) ∙ ap spelled_setting is
setting_for-Ok Count value setting e =
    let x = bind-Ok (span_in value) _ setting e in
    let is : CountOf x.0 ≡ setting = cc in
    ap (λ v. codes "count=" ++ v) (span_in-Ok value x.0 x.1) ∙ ap spelled_setting is
setting_for-Ok Age value setting e =
    let x = bind-Ok (span_in value) _ setting e in
    let is : AgeOf x.0 ≡ setting = cc in
    ap (λ v. codes "age=" ++ v) (span_in-Ok value x.0 x.1) ∙ ap spelled_setting is
setting_for-Ok QuotaKey value setting e =
    let x = bind-Ok (quota_of value) _ setting e in
    let is : QuotaOf x.0 ≡ setting = cc in
    ap (λ v. codes "quota=" ++ v) (quota_of-Ok value x.0 x.1) ∙ ap spelled_setting is
setting_for-Ok TimeKey value setting e =
    let x = bind-Ok (time_of value) _ setting e in
    let is : TimeOf x.0 ≡ setting = cc in
    ap (λ v. codes "time=" ++ v) (time_of-Ok value x.0 x.1) ∙ ap spelled_setting is
setting_for-Ok WeightsKey value setting e =
    let x = bind-Ok (weights_of value) _ setting e in
    let is : WeightsOf x.0 ≡ setting = cc in
    ap (λ v. codes "weights=" ++ v) (weights_of-Ok value x.0 x.1) ∙ ap spelled_setting is
setting_for-Ok PreferKey value setting e =
    let x = bind-Ok (prefer_of value) _ setting e in
    let is : PreferOf x.0 ≡ setting = cc in
    ap (λ v. codes "prefer=" ++ v) (prefer_of-Ok value x.0 x.1) ∙ ap spelled_setting is
setting_for-Ok MarksKey value setting e =
    let x = bind-Ok (marks_of value) _ setting e in
    let is : MarksOf x.0 ≡ setting = cc in
    ap (λ v. codes "marks=" ++ v) (marks_of-Ok value x.0 x.1) ∙ ap spelled_setting is
setting_for-Ok FilterKey value setting e =
    let x = bind-Ok (filter_of value) _ setting e in
    let is : FilterOf x.0 ≡ setting = cc in
    ap (λ v. codes "filter=" ++ v) (filter_of-Ok value x.0 x.1) ∙ ap spelled_setting is

-- a word that is read as a setting is the spelling of it
pub setting_of-Ok : ReadsOnly setting_of spelled_setting
setting_of-Ok word setting e =
    let both = bind-Ok (key_and_value word) _ setting e in
    let sides = bind-Ok (ok_or (split_at_byte 61 word) Form) _ both.0 both.1 in
    let key = bind-Ok (ok_or (key_named sides.0.0) Form) _ both.0 sides.2 in
    let is : (key.0, sides.0.1) ≡ both.0 = cc in
    split_at_byte-whole 61 word sides.0 (ok_or-Ok (split_at_byte 61 word) Form sides.0 sides.1)
    ∙ ap (λ name. name ++ 61 ∷ sides.0.1) (key_named-Some sides.0.0 key.0 (ok_or-Ok (key_named sides.0.0) Form key.0 key.1))
    ∙ ap (λ (x : Key × List ℕ). key_name x.0 ++ 61 ∷ x.1) is
    ∙ setting_for-Ok both.0.0 both.0.1 setting both.2
