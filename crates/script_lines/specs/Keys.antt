-- What the words of a scheme are read as.
use Rattle.std.specs.Prelude.{ℕ, Bool, true, false, not, ◌&&◌, ◌||◌, ◌==◌, nat_lt, List, [], ◌∷◌, codes, Option, Some, None, Result, Ok, Err, if◌then◌else◌}
use Rattle.std.specs.Option.{ok_or}
use Rattle.damon_types.specs.declared.filter.Filter.{Filter}
use Rattle.damon_types.specs.declared.filter.FilterKind.{FilterKind}
use Rattle.damon_types.specs.declared.filter.FilterKind.TheVariants.{Addr, Target, Class}
use Rattle.damon_types.specs.declared.scheme.Action.{Action}
use Rattle.damon_types.specs.declared.scheme.Action.TheVariants.{Stat, Willneed, Cold as ColdAction, Pageout, Hugepage, Nohugepage, LruPrio, LruDeprio}
use Rattle.damon_types.specs.declared.scheme.Marks.{Marks}
use Rattle.damon_types.specs.declared.scheme.Prefer.{Prefer}
use Rattle.damon_types.specs.declared.scheme.Prefer.TheVariants.{Hot, Cold}
use Rattle.damon_types.specs.declared.scheme.Quota.{Quota}
use Rattle.damon_types.specs.declared.scheme.Scheme.{Scheme}
use Rattle.damon_types.specs.declared.scheme.Span.{Span}
use Rattle.damon_types.specs.declared.scheme.Version.{Version}
use Rattle.damon_types.specs.declared.scheme.Version.TheVariants.{One, Two}
use Rattle.damon_types.specs.declared.scheme.Weights.{Weights}
use Rattle.line_text.specs.Line.{after_prefix, split_at_byte}
use Rattle.line_text.specs.Parts.{one_of, parts, two_of, three_of}
use Rattle.script_lines.specs.declared.kind.ScriptKind.{ScriptKind}
use Rattle.script_lines.specs.declared.kind.ScriptKind.TheVariants.{Form}
use Rattle.script_lines.specs.declared.keys.Key.{Key}
use Rattle.script_lines.specs.declared.keys.Key.TheVariants.{Size, Count, Age, Quota as QuotaKey, Time as TimeKey, Weights as WeightsKey, Prefer as PreferKey, Marks as MarksKey, Filter as FilterKey}
use Rattle.script_lines.specs.declared.keys.Setting.{Setting}
use Rattle.script_lines.specs.declared.keys.Setting.TheVariants.{Size as SizeOf, Count as CountOf, Age as AgeOf, Quota as QuotaOf, Time as TimeOf, Weights as WeightsOf, Prefer as PreferOf, Marks as MarksOf, Filter as FilterOf}
use Rattle.script_lines.specs.Refusal.{◌>>=◌, only_if}
use Rattle.script_lines.specs.Separators.{colon, comma, dash, equals_sign}
use Rattle.script_lines.specs.Settings.{default_scheme, key_place, settled}
use Rattle.script_lines.specs.Words.{byte_address, number_8, number_16, number_32, number_64, same_word}

-- the action with this name
abbrev pub action_of : List ℕ → Option Action
action_of name =
    if same_word name (codes "stat") then Some Stat
    else if same_word name (codes "willneed") then Some Willneed
    else if same_word name (codes "cold") then Some ColdAction
    else if same_word name (codes "pageout") then Some Pageout
    else if same_word name (codes "hugepage") then Some Hugepage
    else if same_word name (codes "nohugepage") then Some Nohugepage
    else if same_word name (codes "lru_prio") then Some LruPrio
    else if same_word name (codes "lru_deprio") then Some LruDeprio
    else None

-- the key with this name
abbrev pub key_named : List ℕ → Option Key
key_named name =
    if same_word name (codes "size") then Some Size
    else if same_word name (codes "count") then Some Count
    else if same_word name (codes "age") then Some Age
    else if same_word name (codes "quota") then Some QuotaKey
    else if same_word name (codes "time") then Some TimeKey
    else if same_word name (codes "weights") then Some WeightsKey
    else if same_word name (codes "prefer") then Some PreferKey
    else if same_word name (codes "marks") then Some MarksKey
    else if same_word name (codes "filter") then Some FilterKey
    else None

-- `LOW,HIGH`
abbrev pub span_in : List ℕ → Result Span ScriptKind
span_in value = do
  ends ← ok_or (two_of (parts comma value)) Form
  low ← number_32 ends.0
  high ← number_32 ends.1
  Ok (record { low = low; high = high })

-- `BYTES,RESET`, of a quota without a time
abbrev pub quota_of : List ℕ → Result Quota ScriptKind
quota_of value = do
  fields ← ok_or (two_of (parts comma value)) Form
  bytes ← number_64 fields.0
  reset ← number_32 fields.1
  Ok (record { bytes = bytes; reset = reset; time = None })

-- `NANOSECONDS`
abbrev pub time_of : List ℕ → Result ℕ ScriptKind
time_of value = ok_or (one_of (parts comma value)) Form >>= number_64

-- `SIZE,COUNT,AGE`
abbrev pub weights_of : List ℕ → Result Weights ScriptKind
weights_of value = do
  fields ← ok_or (three_of (parts comma value)) Form
  size ← number_16 fields.0
  count ← number_16 fields.1
  age ← number_16 fields.2
  Ok (record { size = size; count = count; age = age })

-- `hot` or `cold`
abbrev pub prefer_of : List ℕ → Result Prefer ScriptKind
prefer_of value =
    if same_word value (codes "hot") then Ok Hot
    else if same_word value (codes "cold") then Ok Cold
    else Err Form

-- `HIGH,MID,LOW`
abbrev pub marks_of : List ℕ → Result Marks ScriptKind
marks_of value = do
  fields ← ok_or (three_of (parts comma value)) Form
  high ← number_32 fields.0
  mid ← number_32 fields.1
  low ← number_32 fields.2
  Ok (record { high = high; mid = mid; low = low })

-- `allow` or `reject`: whether pages pass
abbrev pub answer_of : List ℕ → Result Bool ScriptKind
answer_of name =
    if same_word name (codes "allow") then Ok true
    else if same_word name (codes "reject") then Ok false
    else Err Form

-- `FROM-TO`
abbrev pub addr_of : List ℕ → Result FilterKind ScriptKind
addr_of value = do
  ends ← ok_or (two_of (parts dash value)) Form
  from ← byte_address ends.0
  to ← byte_address ends.1
  Ok (Addr from to)

-- the kind of pages with this name and value
abbrev pub kind_of : List ℕ → List ℕ → Result FilterKind ScriptKind
kind_of name value =
    if same_word name (codes "addr") then addr_of value
    else if same_word name (codes "target") then (number_32 value >>= λ target. Ok (Target target))
    else if same_word name (codes "class") then (number_8 value >>= λ class. Ok (Class class))
    else Err Form

-- whether a name has no `not-` before it, and the name without it
abbrev pub plain_name : List ℕ → Bool × List ℕ
plain_name name = by (after_prefix (codes "not-") name)
  where
    by : Option (List ℕ) → Bool × List ℕ
    by None = (true, name)
    by (Some bare) = (false, bare)

-- `ANSWER:KIND:VALUE`
abbrev pub filter_of : List ℕ → Result Filter ScriptKind
filter_of value = do
  fields ← ok_or (three_of (parts colon value)) Form
  allow ← answer_of fields.0
  kind ← kind_of (plain_name fields.1).1 fields.2
  Ok (record { allow = allow; matching = (plain_name fields.1).0; kind = kind })

-- what a value sets under a key
abbrev pub setting_for : Key → List ℕ → Result Setting ScriptKind
setting_for Size value = span_in value >>= λ x. Ok (SizeOf x)
setting_for Count value = span_in value >>= λ x. Ok (CountOf x)
setting_for Age value = span_in value >>= λ x. Ok (AgeOf x)
setting_for QuotaKey value = quota_of value >>= λ x. Ok (QuotaOf x)
setting_for TimeKey value = time_of value >>= λ x. Ok (TimeOf x)
setting_for WeightsKey value = weights_of value >>= λ x. Ok (WeightsOf x)
setting_for PreferKey value = prefer_of value >>= λ x. Ok (PreferOf x)
setting_for MarksKey value = marks_of value >>= λ x. Ok (MarksOf x)
setting_for FilterKey value = filter_of value >>= λ x. Ok (FilterOf x)

-- the key of `KEY=VALUE`, which ends at the first equals sign, and its value
abbrev pub key_and_value : List ℕ → Result (Key × List ℕ) ScriptKind
key_and_value word = do
  sides ← ok_or (split_at_byte equals_sign word) Form
  key ← ok_or (key_named sides.0) Form
  Ok (key, sides.1)

-- what a word sets
abbrev pub setting_of : List ℕ → Result Setting ScriptKind
setting_of word = key_and_value word >>= λ both. setting_for both.0 both.1

-- whether a key comes later than the one with this place, if any: keys stand in order, and only the filter repeats
abbrev pub comes_later : Option ℕ → Key → Bool
comes_later None key = true
comes_later (Some place) key =
    nat_lt place (key_place key) || ((place == key_place FilterKey) && (key_place key == key_place FilterKey))

-- whether a time may stand after the key with this place, if any: after the quota, and in version Two alone
abbrev pub may_be_timed : Version → Option ℕ → Bool
may_be_timed One last = false
may_be_timed Two None = false
may_be_timed Two (Some place) = place == key_place QuotaKey

-- whether a key may stand after the one with this place, if any
abbrev pub may_follow : Version → Option ℕ → Key → Bool
may_follow version last key =
    (not (key_place key == key_place TimeKey) || may_be_timed version last) && comes_later last key

-- whether a word is refused for its form
abbrev pub is_misformed : Result Setting ScriptKind → Bool
is_misformed (Err Form) = true
is_misformed _ = false

-- whether a key and its value have the form of a setting, and may stand after the key with this place
abbrev pub is_formed : Version → Option ℕ → Result (Key × List ℕ) ScriptKind → Bool
is_formed version last (Err e) = false
is_formed version last (Ok both) = may_follow version last both.0 && not (is_misformed (setting_for both.0 both.1))

-- the place of the key of a setting that could be taken apart
abbrev pub place_in : Result (Key × List ℕ) ScriptKind → Option ℕ
place_in (Err e) = None
place_in (Ok both) = Some (key_place both.0)

-- whether words have the form of settings and stand in order, after the key with this place
abbrev pub are_formed : Version → Option ℕ → List (List ℕ) → Bool
are_formed version last [] = true
are_formed version last (word ∷ words) =
    is_formed version last (key_and_value word) && are_formed version (place_in (key_and_value word)) words

-- what each word sets
abbrev pub settings_of : List (List ℕ) → Result (List Setting) ScriptKind
settings_of [] = Ok []
settings_of (word ∷ words) = do
  setting ← setting_of word
  settings ← settings_of words
  Ok (setting ∷ settings)

-- a scheme with the settings of words; a bad number in any of them is refused before a ninth filter
abbrev pub with_settings : Scheme → List (List ℕ) → Result Scheme ScriptKind
with_settings scheme words = settings_of words >>= settled scheme

-- `SLOT ACTION KEYS`: the form of the whole line is refused before its numbers
abbrev pub scheme_in : Version → List (List ℕ) → Result (ℕ × Scheme) ScriptKind
scheme_in version (slot ∷ name ∷ keys) = do
  action ← ok_or (action_of name) Form
  formed ← only_if (are_formed version None keys) Form (tt {0})
  number ← number_8 slot
  scheme ← with_settings (default_scheme action) keys
  Ok (number, scheme)
scheme_in version _ = Err Form
