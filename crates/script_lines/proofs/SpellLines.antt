-- A line of a setup that is read is the spelling of what is read, and so is a line of one number.
use Rattle.std.proofs.Common.{◌≡◌, ◌≤◌, arith, ◌∷◌, [], ℕ, ◌&&◌, nat_le, nat_lt, List, ◌++◌, length, codes, Ok, ap, ◌∙◌, decimal}
use Rattle.std.specs.Prelude.{Result, is_ok}
use Rattle.std.specs.Option.{ok_or}
use Rattle.std.proofs.lemmas.Bool.Decides.{nat_tests}
use Rattle.damon_types.specs.declared.range.RangeSpec.{RangeSpec}
use Rattle.damon_types.specs.declared.space.Target.{Target}
use Rattle.damon_types.specs.Attrs.{checked_attrs}
use Rattle.damon_types.specs.Space.{checked}
use Rattle.line_text.specs.Parts.{joined, two_of, three_of, four_of}
use Rattle.target_ranges.specs.Checked.{checked_next}
use Rattle.script_lines.specs.declared.kind.ScriptKind.{ScriptKind}
use Rattle.script_lines.specs.declared.kind.ScriptKind.TheVariants.{Form, Limit, Attrs as BadAttrs, OverCap, Range as BadRange, RangesOverMax}
use Rattle.script_lines.specs.declared.setup.Frame.{Frame}
use Rattle.script_lines.specs.Fields.{attrs_in, cost_in, range_in}
use Rattle.script_lines.specs.Head.{attrs_line, cap_line, limited, one_target, range_line, seed_line, target_in, target_line, unit_line}
use Rattle.script_lines.specs.Laws.{ReadsOnly}
use Rattle.script_lines.specs.Blocks.{passes_line}
use Rattle.script_lines.specs.Refusal.{◌>>=◌, refused_as}
use Rattle.script_lines.specs.Spelling.{spelled_attrs, spelled_range, spelled_target}
use Rattle.script_lines.proofs.SpelledParts.{attrs_words, cost_words, range_words, target_words}
use Rattle.script_lines.specs.Words.{arguments, byte_address, number_8, number_32, number_64, one_word}
use Rattle.script_lines.proofs.SpellSteps.{bind-Ok, first_true, ok_or-Ok, only_if-Ok, second_true, two_of-Some, three_of-Some, four_of-Some}
use Rattle.script_lines.proofs.SpellWords.{arguments-Ok, byte_address-Ok, number_8-Ok, number_32-Ok, number_64-Ok, one_word-Ok}

-- a limit check returns the number that it is given
pub limited-Ok : (r : Result ℕ ScriptKind) (least most n : ℕ) → (r >>= limited least most) ≡ Ok n → r ≡ Ok n
limited-Ok r least most n e =
    let within = bind-Ok r (limited least most) n e in
    within.1 ∙ ap (λ m. Ok m) (only_if-Ok (nat_le least within.0 && nat_le within.0 most) Limit within.0 n within.2).1

-- a number that passes a limit check is within the limits
pub limited-bounds : (r : Result ℕ ScriptKind) (least most n : ℕ) → (r >>= limited least most) ≡ Ok n → (least ≤ n) × (n ≤ most)
limited-bounds r least most n e =
    let within = bind-Ok r (limited least most) n e in
    let passed = only_if-Ok (nat_le least within.0 && nat_le within.0 most) Limit within.0 n within.2 in
    let same : within.0 ≡ n = passed.1 in
    let first = first_true (nat_le least within.0) (nat_le within.0 most) passed.0 in
    let second = second_true (nat_le least within.0) (nat_le within.0 most) passed.0 in
    (grind (arith, nat_tests), grind (arith, nat_tests))

pub seed_line-Ok : ReadsOnly seed_line (λ n. codes "seed " ++ decimal n)
seed_line-Ok = one_word-Ok (codes "seed") number_64 decimal (number_64-Ok)

pub unit_line-Ok : ReadsOnly unit_line (λ n. codes "unit " ++ decimal n)
unit_line-Ok line n e =
    one_word-Ok (codes "unit") number_32 decimal (number_32-Ok) line n
    (limited-Ok (arguments (codes "unit") line >>= one_word >>= number_32) 1 1048576 n e)

pub cap_line-Ok : ReadsOnly cap_line (λ n. codes "cap " ++ decimal n)
cap_line-Ok line n e =
    one_word-Ok (codes "cap") number_32 decimal (number_32-Ok) line n
    (limited-Ok (arguments (codes "cap") line >>= one_word >>= number_32) 3 4096 n e)

pub passes_line-Ok : ReadsOnly passes_line (λ n. codes "passes " ++ decimal n)
passes_line-Ok line n e =
    one_word-Ok (codes "passes") number_32 decimal (number_32-Ok) line n
    (limited-Ok (arguments (codes "passes") line >>= one_word >>= number_32) 1 1000000 n e)

-- a property of all that a reader of words returns holds of what is read from a line
pub words-have : {A : Type 0} (P : A → Type 0) (word : List ℕ) (read : List (List ℕ) → Result A ScriptKind) → ((words : List (List ℕ)) (x : A) → read words ≡ Ok x → P x)
    → (line : List ℕ) (x : A) → (arguments word line >>= read) ≡ Ok x → P x
words-have P word read has line x e = let words = bind-Ok (arguments word line) read x e in has words.0 x words.2

-- a line of a word and others is spelled by that word and the spelling of what is read
pub words-Ok : {A : Type 0} (word : List ℕ) (read : List (List ℕ) → Result A ScriptKind) (spelled : A → List (List ℕ)) → ReadsOnly read spelled
    → ReadsOnly (λ line. arguments word line >>= read) (λ x. joined 32 (word ∷ spelled x))
words-Ok word read spelled only line x e =
    let words = bind-Ok (arguments word line) read x e in
    arguments-Ok word line words.0 words.1 ∙ ap (λ ws. joined 32 (word ∷ ws)) (only words.0 x words.2)

pub attrs_in-Ok : ReadsOnly attrs_in attrs_words
attrs_in-Ok words attrs e =
    let fields = bind-Ok (ok_or (three_of words) Form) _ attrs e in
    let least = bind-Ok (number_32 fields.0.0) _ attrs fields.2 in
    let most = bind-Ok (number_32 fields.0.1) _ attrs least.2 in
    let aggr = bind-Ok (number_32 fields.0.2) _ attrs most.2 in
    let is : record { min = least.0; max = most.0; aggr = aggr.0 } ≡ attrs = cc in
    three_of-Some words fields.0 (ok_or-Ok (three_of words) Form fields.0 fields.1)
    ∙ (λ i. number_32-Ok fields.0.0 least.0 least.1 i ∷ number_32-Ok fields.0.1 most.0 most.1 i ∷ number_32-Ok fields.0.2 aggr.0 aggr.1 i ∷ [])
    ∙ ap attrs_words is

pub target_in-Ok : ReadsOnly target_in target_words
target_in-Ok words target e =
    let fields = bind-Ok (ok_or (two_of words) Form) _ target e in
    let base = bind-Ok (byte_address fields.0.0) _ target fields.2 in
    let pages = bind-Ok (number_32 fields.0.1) _ target base.2 in
    let is : record { base = base.0; pages = pages.0 } ≡ target = cc in
    two_of-Some words fields.0 (ok_or-Ok (two_of words) Form fields.0 fields.1)
    ∙ (λ i. byte_address-Ok fields.0.0 base.0 base.1 i ∷ number_32-Ok fields.0.1 pages.0 pages.1 i ∷ [])
    ∙ ap target_words is

pub cost_in-Ok : ReadsOnly cost_in cost_words
cost_in-Ok words cost e =
    let fields = bind-Ok (ok_or (two_of words) Form) _ cost e in
    let slot = bind-Ok (number_8 fields.0.0) _ cost fields.2 in
    let nanos = bind-Ok (number_64 fields.0.1) _ cost slot.2 in
    let is : record { slot = slot.0; nanos = nanos.0 } ≡ cost = cc in
    two_of-Some words fields.0 (ok_or-Ok (two_of words) Form fields.0 fields.1)
    ∙ (λ i. number_8-Ok fields.0.0 slot.0 slot.1 i ∷ number_64-Ok fields.0.1 nanos.0 nanos.1 i ∷ [])
    ∙ ap cost_words is

pub range_in-Ok : ReadsOnly range_in range_words
range_in-Ok words range e =
    let fields = bind-Ok (ok_or (four_of words) Form) _ range e in
    let target = bind-Ok (number_32 fields.0.0) _ range fields.2 in
    let from = bind-Ok (byte_address fields.0.1) _ range target.2 in
    let to = bind-Ok (byte_address fields.0.2) _ range from.2 in
    let class = bind-Ok (number_8 fields.0.3) _ range to.2 in
    let is : record { target = target.0; from = from.0; to = to.0; class = class.0 } ≡ range = cc in
    four_of-Some words fields.0 (ok_or-Ok (four_of words) Form fields.0 fields.1)
    ∙ (λ i. number_32-Ok fields.0.0 target.0 target.1 i ∷ byte_address-Ok fields.0.1 from.0 from.1 i ∷ byte_address-Ok fields.0.2 to.0 to.1 i ∷ number_8-Ok fields.0.3 class.0 class.1 i ∷ [])
    ∙ ap range_words is

pub attrs_line-Ok : (cap : ℕ) → ReadsOnly (attrs_line cap) spelled_attrs
attrs_line-Ok cap line attrs e =
    let words = bind-Ok (arguments (codes "attrs") line) _ attrs e in
    let read = bind-Ok (attrs_in words.0) _ attrs words.2 in
    let sound = bind-Ok (refused_as BadAttrs (checked_attrs read.0)) _ attrs read.2 in
    let is = (only_if-Ok (nat_le read.0.max cap) OverCap read.0 attrs sound.2).1 in
    arguments-Ok (codes "attrs") line words.0 words.1
    ∙ ap (λ ws. joined 32 (codes "attrs" ∷ ws)) (attrs_in-Ok words.0 read.0 read.1)
    ∙ ap spelled_attrs is

pub one_target-Ok : ReadsOnly one_target spelled_target
one_target-Ok = words-Ok (codes "target") target_in target_words (target_in-Ok)

pub target_line-Ok : (before : List Target) → ReadsOnly (target_line before) spelled_target
target_line-Ok before line target e =
    let one = bind-Ok (one_target line) _ target e in
    one_target-Ok line one.0 one.1
    ∙ ap spelled_target (only_if-Ok (is_ok (checked (before ++ one.0 ∷ []))) Limit one.0 target one.2).1

pub range_line-Ok : (f : Frame) (targets : List Target) (before : List RangeSpec) → ReadsOnly (range_line f targets before) spelled_range
range_line-Ok f targets before line range e =
    let words = bind-Ok (arguments (codes "range") line) _ range e in
    let read = bind-Ok (range_in words.0) _ range words.2 in
    let sound = bind-Ok (refused_as BadRange (checked_next targets f.unit f.cap before read.0)) _ range read.2 in
    let is = (only_if-Ok (nat_lt (length before) f.attrs.max) RangesOverMax read.0 range sound.2).1 in
    arguments-Ok (codes "range") line words.0 words.1
    ∙ ap (λ ws. joined 32 (codes "range" ∷ ws)) (range_in-Ok words.0 read.0 read.1)
    ∙ ap spelled_range is
