-- The spelling of a setting is read as it.
use Rattle.std.proofs.Common.{◌≡◌, ◌^◌, ◌<◌, ◌+◌, ◌∷◌, [], ◌==◌, nat_lt, ℕ, Bool, true, false, not, ◌&&◌, List, ◌++◌, length, take, drop, map, Ok, refl, sym, ap, ◌∙◌, decimal, arith}
use Rattle.std.specs.Prelude.{Result}
use Rattle.std.specs.List.{AllByRecursion, list_all, position_or_len}
use Rattle.std.specs.Option.{ok_or}
use Rattle.std.proofs.lemmas.Bool.Decides.{nat_tests}
use Rattle.std.proofs.lemmas.List.Elements.{All-from_recursion}
use Rattle.damon_types.specs.declared.filter.Filter.{Filter}
use Rattle.damon_types.specs.declared.filter.FilterKind.{FilterKind}
use Rattle.damon_types.specs.declared.filter.FilterKind.TheVariants.{Addr, Target, Class}
use Rattle.damon_types.specs.declared.scheme.Marks.{Marks}
use Rattle.damon_types.specs.declared.scheme.Prefer.{Prefer}
use Rattle.damon_types.specs.declared.scheme.Prefer.TheVariants.{Hot, Cold}
use Rattle.damon_types.specs.declared.scheme.Quota.{Quota}
use Rattle.damon_types.specs.declared.scheme.Span.{Span}
use Rattle.damon_types.specs.declared.scheme.Weights.{Weights}
use Rattle.line_text.specs.Address.{spelled_address}
use Rattle.line_text.specs.Line.{split_at_byte}
use Rattle.line_text.specs.Parts.{IsPiece, joined, one_of, parts, two_of, three_of}
use Rattle.line_text.proofs.Lemmas.{parts-joined}
use Rattle.script_lines.specs.declared.kind.ScriptKind.{ScriptKind}
use Rattle.script_lines.specs.declared.kind.ScriptKind.TheVariants.{Form}
use Rattle.script_lines.specs.declared.keys.Key.{Key}
use Rattle.script_lines.specs.declared.keys.Setting.{Setting}
use Rattle.script_lines.specs.declared.keys.Setting.TheVariants.{Size as SizeOf, Count as CountOf, Age as AgeOf, Quota as QuotaOf, Time as TimeOf, Weights as WeightsOf, Prefer as PreferOf, Marks as MarksOf, Filter as FilterOf}
use Rattle.script_lines.specs.Fits.{FitsKind, FitsSetting, FitsSpan}
use Rattle.script_lines.specs.Keys.{answer_of, filter_of, key_and_value, key_named, kind_of, marks_of, plain_name, prefer_of, quota_of, setting_for, setting_of, settings_of, span_in, time_of, weights_of}
use Rattle.script_lines.specs.Refusal.{◌>>=◌}
use Rattle.script_lines.specs.Separators.{colon, comma, dash, equals_sign}
use Rattle.script_lines.specs.Spelling.{kind_name, kind_value, spelled_answer, spelled_filter, spelled_marks, spelled_prefer, spelled_setting, spelled_side, spelled_span, spelled_weights}
use Rattle.script_lines.proofs.SpelledParts.{spelled_quota}
use Rattle.script_lines.specs.Words.{byte_address, number_8, number_16, number_32, number_64}
use Rattle.script_lines.specs.Settings.{key_of}
use Rattle.script_lines.proofs.PlainWords.{IsField, is_word_byte, address_field, decimal_field, field_8, field_16, field_32, field_piece, is_field_byte, lacks, list_all-both, list_all-weaker}
use Rattle.script_lines.proofs.ReadFields.{byte_address-spelled, number_8-decimal, number_16-decimal, number_32-decimal, number_64-decimal}
use Rattle.script_lines.proofs.SpellSteps.{then-Ok}

-- two fields with a separator between them are taken apart again
two_parts-joined : (separator : ℕ) → is_field_byte separator ≡ false → (a b : List ℕ) → IsField a → IsField b
    → ok_or (two_of (parts separator (joined separator (a ∷ b ∷ [])))) Form ≡ Ok (a, b)
two_parts-joined separator other a b first second =
    ap (λ pieces. ok_or (two_of pieces) Form)
    (parts-joined separator a (b ∷ [])
    (All-from_recursion (IsPiece separator) (a ∷ b ∷ []) (field_piece separator other a first, (field_piece separator other b second, tt))))

-- one field is not taken apart
one_part : (separator : ℕ) → is_field_byte separator ≡ false → (a : List ℕ) → IsField a → ok_or (one_of (parts separator a)) Form ≡ Ok a
one_part separator other a field =
    ap (λ pieces. ok_or (one_of pieces) Form)
    (parts-joined separator a [] (All-from_recursion (IsPiece separator) (a ∷ []) (field_piece separator other a field, tt)))

-- three fields with a separator between each two are taken apart again
three_parts-joined : (separator : ℕ) → is_field_byte separator ≡ false → (a b c : List ℕ) → IsField a → IsField b → IsField c
    → ok_or (three_of (parts separator (joined separator (a ∷ b ∷ c ∷ [])))) Form ≡ Ok (a, b, c)
three_parts-joined separator other a b c first second third =
    ap (λ pieces. ok_or (three_of pieces) Form)
    (parts-joined separator a (b ∷ c ∷ [])
    (All-from_recursion (IsPiece separator) (a ∷ b ∷ c ∷ [])
    (field_piece separator other a first, (field_piece separator other b second, (field_piece separator other c third, tt)))))

span_in-spelled : (s : Span) → FitsSpan s → span_in (spelled_span s) ≡ Ok s
span_in-spelled s fits =
    then-Ok (ok_or (two_of (parts comma (spelled_span s))) Form) _ (decimal s.low, decimal s.high) _
    (two_parts-joined comma refl (decimal s.low) (decimal s.high) (field_32 s.low fits.0) (field_32 s.high fits.1))
    (then-Ok (number_32 (decimal s.low)) _ s.low _ (number_32-decimal s.low fits.0)
    (then-Ok (number_32 (decimal s.high)) _ s.high _ (number_32-decimal s.high fits.1) refl))

quota_of-spelled : (q : Quota) → FitsSetting (QuotaOf q) → quota_of (spelled_quota q) ≡ Ok q
quota_of-spelled q fits =
    then-Ok (ok_or (two_of (parts comma (spelled_quota q))) Form) _ (decimal q.bytes, decimal q.reset) _
    (two_parts-joined comma refl (decimal q.bytes) (decimal q.reset) (decimal_field q.bytes fits.0) (field_32 q.reset fits.1))
    (then-Ok (number_64 (decimal q.bytes)) _ q.bytes _ (number_64-decimal q.bytes fits.0)
    (then-Ok (number_32 (decimal q.reset)) _ q.reset _ (number_32-decimal q.reset fits.1) (ap (λ t. Ok (record { bytes = q.bytes; reset = q.reset; time = t })) (sym fits.2))))

time_of-spelled : (time : ℕ) → time < 2 ^ 64 → time_of (decimal time) ≡ Ok time
time_of-spelled time fits =
    then-Ok (ok_or (one_of (parts comma (decimal time))) Form) _ (decimal time) _ (one_part comma refl (decimal time) (decimal_field time fits))
    (number_64-decimal time fits)

weights_of-spelled : (w : Weights) → FitsSetting (WeightsOf w) → weights_of (spelled_weights w) ≡ Ok w
weights_of-spelled w fits =
    then-Ok (ok_or (three_of (parts comma (spelled_weights w))) Form) _ (decimal w.size, decimal w.count, decimal w.age) _
    (three_parts-joined comma refl (decimal w.size) (decimal w.count) (decimal w.age) (field_16 w.size fits.0) (field_16 w.count fits.1) (field_16 w.age fits.2))
    (then-Ok (number_16 (decimal w.size)) _ w.size _ (number_16-decimal w.size fits.0)
    (then-Ok (number_16 (decimal w.count)) _ w.count _ (number_16-decimal w.count fits.1)
    (then-Ok (number_16 (decimal w.age)) _ w.age _ (number_16-decimal w.age fits.2) refl)))

prefer_of-spelled : (p : Prefer) → prefer_of (spelled_prefer p) ≡ Ok p
prefer_of-spelled Hot = refl
prefer_of-spelled Cold = refl

marks_of-spelled : (m : Marks) → FitsSetting (MarksOf m) → marks_of (spelled_marks m) ≡ Ok m
marks_of-spelled m fits =
    then-Ok (ok_or (three_of (parts comma (spelled_marks m))) Form) _ (decimal m.high, decimal m.mid, decimal m.low) _
    (three_parts-joined comma refl (decimal m.high) (decimal m.mid) (decimal m.low) (field_32 m.high fits.0) (field_32 m.mid fits.1) (field_32 m.low fits.2))
    (then-Ok (number_32 (decimal m.high)) _ m.high _ (number_32-decimal m.high fits.0)
    (then-Ok (number_32 (decimal m.mid)) _ m.mid _ (number_32-decimal m.mid fits.1)
    (then-Ok (number_32 (decimal m.low)) _ m.low _ (number_32-decimal m.low fits.2) refl)))

answer_of-spelled : (allow : Bool) → answer_of (spelled_answer allow) ≡ Ok allow
answer_of-spelled true = refl
answer_of-spelled false = refl

-- the name of a kind and its `not-`, if any, are taken apart again
plain_name-spelled : (matching : Bool) (kind : FilterKind) → plain_name (spelled_side matching ++ kind_name kind) ≡ (matching, kind_name kind)
plain_name-spelled true (Addr from to) = refl
plain_name-spelled true (Target target) = refl
plain_name-spelled true (Class class) = refl
plain_name-spelled false (Addr from to) = refl
plain_name-spelled false (Target target) = refl
plain_name-spelled false (Class class) = refl

kind_of-spelled : (kind : FilterKind) → FitsKind kind → kind_of (kind_name kind) (kind_value kind) ≡ Ok kind
kind_of-spelled (Addr from to) fits =
    then-Ok (ok_or (two_of (parts dash (kind_value (Addr from to)))) Form) _ (spelled_address from, spelled_address to) _
    (two_parts-joined dash refl (spelled_address from) (spelled_address to) (address_field from fits.0) (address_field to fits.1))
    (then-Ok (byte_address (spelled_address from)) _ from _ (byte_address-spelled from fits.0)
    (then-Ok (byte_address (spelled_address to)) _ to _ (byte_address-spelled to fits.1) refl))
kind_of-spelled (Target target) fits = then-Ok (number_32 (decimal target)) _ target _ (number_32-decimal target fits) refl
kind_of-spelled (Class class) fits = then-Ok (number_8 (decimal class)) _ class _ (number_8-decimal class fits) refl

-- a byte of a part of a filter: a byte of a word, but no colon
abbrev pub is_part_byte : ℕ → Bool
is_part_byte c = is_word_byte c && not (c == colon)

pub answer_part : (allow : Bool) → list_all is_part_byte (spelled_answer allow) ≡ true
answer_part true = refl
answer_part false = refl

pub name_part : (matching : Bool) (kind : FilterKind) → list_all is_part_byte (spelled_side matching ++ kind_name kind) ≡ true
name_part true (Addr from to) = refl
name_part true (Target target) = refl
name_part true (Class class) = refl
name_part false (Addr from to) = refl
name_part false (Target target) = refl
name_part false (Class class) = refl

field_part : (word : List ℕ) → IsField word → list_all is_part_byte word ≡ true
field_part word field = list_all-weaker is_field_byte is_part_byte (λ c passes. grind (arith, nat_tests)) word field.bytes

pub value_part : (kind : FilterKind) → FitsKind kind → list_all is_part_byte (kind_value kind) ≡ true
value_part (Addr from to) fits =
    list_all-both is_part_byte (spelled_address from) (dash ∷ spelled_address to) (field_part (spelled_address from) (address_field from fits.0))
    (field_part (spelled_address to) (address_field to fits.1))
value_part (Target target) fits = field_part (decimal target) (field_32 target fits)
value_part (Class class) fits = field_part (decimal class) (field_8 class fits)

-- the three parts of a filter are taken apart again
filter_parts : (f : Filter) → FitsKind f.kind
    → ok_or (three_of (parts colon (spelled_filter f))) Form ≡ Ok (spelled_answer f.allow, spelled_side f.matching ++ kind_name f.kind, kind_value f.kind)
filter_parts f fits =
    let name = spelled_side f.matching ++ kind_name f.kind in
    let piece = lacks is_part_byte colon refl in
    ap (λ pieces. ok_or (three_of pieces) Form)
    (parts-joined colon (spelled_answer f.allow) (name ∷ kind_value f.kind ∷ [])
    (All-from_recursion (IsPiece colon) (spelled_answer f.allow ∷ name ∷ kind_value f.kind ∷ [])
    (piece (spelled_answer f.allow) (answer_part f.allow), (piece name (name_part f.matching f.kind), (piece (kind_value f.kind) (value_part f.kind fits), tt)))))

filter_of-spelled : (f : Filter) → FitsKind f.kind → filter_of (spelled_filter f) ≡ Ok f
filter_of-spelled f fits =
    let name = spelled_side f.matching ++ kind_name f.kind in
    let plain = plain_name-spelled f.matching f.kind in
    then-Ok (ok_or (three_of (parts colon (spelled_filter f))) Form) _ (spelled_answer f.allow, name, kind_value f.kind) _ (filter_parts f fits)
    (then-Ok (answer_of (spelled_answer f.allow)) _ f.allow _ (answer_of-spelled f.allow)
    (then-Ok (kind_of (plain_name name).1 (kind_value f.kind)) _ f.kind _
    (ap (λ (n : Bool × List ℕ). kind_of n.1 (kind_value f.kind)) plain ∙ kind_of-spelled f.kind fits)
    (ap (λ (n : Bool × List ℕ). Ok (record { allow = f.allow; matching = n.0; kind = f.kind })) plain)))

-- the value of a setting, as a word spells it
abbrev pub setting_value : Setting → List ℕ
setting_value (SizeOf span) = spelled_span span
setting_value (CountOf span) = spelled_span span
setting_value (AgeOf span) = spelled_span span
setting_value (QuotaOf quota) = spelled_quota quota
setting_value (TimeOf time) = decimal time
setting_value (WeightsOf weights) = spelled_weights weights
setting_value (PreferOf prefer) = spelled_prefer prefer
setting_value (MarksOf marks) = spelled_marks marks
setting_value (FilterOf filter) = spelled_filter filter

pub setting_for-spelled : (x : Setting) → FitsSetting x → setting_for (key_of x) (setting_value x) ≡ Ok x
setting_for-spelled (SizeOf span) fits = then-Ok (span_in (spelled_span span)) _ span _ (span_in-spelled span fits) refl
setting_for-spelled (CountOf span) fits = then-Ok (span_in (spelled_span span)) _ span _ (span_in-spelled span fits) refl
setting_for-spelled (AgeOf span) fits = then-Ok (span_in (spelled_span span)) _ span _ (span_in-spelled span fits) refl
setting_for-spelled (QuotaOf quota) fits = then-Ok (quota_of (spelled_quota quota)) _ quota _ (quota_of-spelled quota fits) refl
setting_for-spelled (TimeOf time) fits = then-Ok (time_of (decimal time)) _ time _ (time_of-spelled time fits) refl
setting_for-spelled (WeightsOf weights) fits = then-Ok (weights_of (spelled_weights weights)) _ weights _ (weights_of-spelled weights fits) refl
setting_for-spelled (PreferOf prefer) fits = then-Ok (prefer_of (spelled_prefer prefer)) _ prefer _ (prefer_of-spelled prefer) refl
setting_for-spelled (MarksOf marks) fits = then-Ok (marks_of (spelled_marks marks)) _ marks _ (marks_of-spelled marks fits) refl
setting_for-spelled (FilterOf filter) fits = then-Ok (filter_of (spelled_filter filter)) _ filter _ (filter_of-spelled filter fits) refl

-- a word whose first equals sign is at this index is read as the key before it and the value after it
keyed : (word : List ℕ) (at : ℕ) (said : Result (Key × List ℕ) ScriptKind) → position_or_len (λ c. c == equals_sign) word ≡ at → at < length word
    → (ok_or (key_named (take at word)) Form >>= λ key. Ok (key, drop (at + 1) word)) ≡ said → key_and_value word ≡ said
keyed word at said is within read =
    let here : nat_lt at (length word) ≡ true = grind (arith, nat_tests) in
    then-Ok (ok_or (split_at_byte equals_sign word) Form) _ (take at word, drop (at + 1) word) said (rw (is, here) refl) read

-- the spelling of a setting is read as its key and its value
pub key_and_value-spelled : (x : Setting) → key_and_value (spelled_setting x) ≡ Ok (key_of x, setting_value x)
key_and_value-spelled (SizeOf span) = keyed (spelled_setting (SizeOf span)) 4 _ refl (omega arith) refl
key_and_value-spelled (CountOf span) = keyed (spelled_setting (CountOf span)) 5 _ refl (omega arith) refl
key_and_value-spelled (AgeOf span) = keyed (spelled_setting (AgeOf span)) 3 _ refl (omega arith) refl
key_and_value-spelled (QuotaOf quota) = keyed (spelled_setting (QuotaOf quota)) 5 _ refl (omega arith) refl
key_and_value-spelled (TimeOf time) = keyed (spelled_setting (TimeOf time)) 4 _ refl (omega arith) refl
key_and_value-spelled (WeightsOf weights) = keyed (spelled_setting (WeightsOf weights)) 7 _ refl (omega arith) refl
key_and_value-spelled (PreferOf prefer) = keyed (spelled_setting (PreferOf prefer)) 6 _ refl (omega arith) refl
key_and_value-spelled (MarksOf marks) = keyed (spelled_setting (MarksOf marks)) 5 _ refl (omega arith) refl
key_and_value-spelled (FilterOf filter) = keyed (spelled_setting (FilterOf filter)) 6 _ refl (omega arith) refl

pub setting_of-spelled : (x : Setting) → FitsSetting x → setting_of (spelled_setting x) ≡ Ok x
setting_of-spelled x fits = then-Ok (key_and_value (spelled_setting x)) _ (key_of x, setting_value x) _ (key_and_value-spelled x) (setting_for-spelled x fits)

pub settings_of-spelled : (xs : List Setting) → AllByRecursion FitsSetting xs → settings_of (map spelled_setting xs) ≡ Ok xs
settings_of-spelled [] fit = refl
settings_of-spelled (x ∷ xs) fit =
    then-Ok (setting_of (spelled_setting x)) _ x _ (setting_of-spelled x fit.0)
    (then-Ok (settings_of (map spelled_setting xs)) _ xs _ (settings_of-spelled xs fit.1) refl)
