-- A line of a body or a commit that says something is read as that.
use Rattle.std.proofs.Common.{◌≡◌, inl, inr, ◌≤◌, ◌^◌, ◌-◌, ◌+◌, ◌<◌, ◌∷◌, [], ◌&&◌, ℕ, Bool, true, false, List, codes, Some, None, Ok, refl, sym, ap, ◌∙◌, decimal, arith, ◌++◌}
use Rattle.std.specs.Prelude.{Option, option_map}
use Rattle.std.specs.Cmp.Derive.{both_true}
use Rattle.std.specs.List.{list_all}
use Rattle.std.specs.Option.{ok_or}
use Rattle.damon_types.specs.declared.attrs.Attrs.{Attrs as AttrsValue}
use Rattle.damon_types.specs.declared.range.RangeSpec.{RangeSpec}
use Rattle.damon_types.specs.declared.scheme.SlotChange.{SlotChange}
use Rattle.damon_types.specs.declared.scheme.CostPart.{CostPart}
use Rattle.damon_types.specs.declared.scheme.Version.{Version}
use Rattle.damon_types.specs.declared.space.Target.{Target}
use Rattle.damon_types.specs.Space.{page_of}
use Rattle.line_text.specs.Address.{spelled_address}
use Rattle.line_text.specs.Parts.{joined}
use Rattle.live_commit.specs.Commit.{CommitValue}
use Rattle.script_lines.specs.declared.part.Part.{Part}
use Rattle.script_lines.specs.declared.part.Part.TheVariants.{Attrs, Range, Slot, Metric, Cost}
use Rattle.script_lines.specs.declared.kind.ScriptKind.TheVariants.{Limit, Outside}
use Rattle.script_lines.specs.Body.{are_swept, change_line, command_line, drop_line, part_line, step_line, sweep_line, touch_line, wants_attrs, wants_cost, wants_metric, wants_slot}
use Rattle.script_lines.specs.Command.{CommandValue, Touch, Sweep, Step, Arm, Finish, Show, Commit}
use Rattle.script_lines.specs.Fields.{attrs_in, cost_in, range_in}
use Rattle.script_lines.specs.Fits.{FitsAttrs, FitsCost, FitsRange}
use Rattle.script_lines.specs.Head.{limited}
use Rattle.script_lines.specs.Keys.{scheme_in}
use Rattle.script_lines.specs.Laws.{GivesScheme, IsCommand, IsPart, IsSweep, may_come}
use Rattle.script_lines.specs.Refusal.{◌>>=◌, only_if}
use Rattle.script_lines.specs.Spelling.{spelled_attrs, spelled_cost, spelled_range}
use Rattle.script_lines.proofs.SpelledParts.{attrs_words, cost_words, range_words, scheme_words, spelled_sweep, spelled_touch}
use Rattle.script_lines.specs.Words.{arguments, begins_with, byte_address, number_8, number_32, one_word, same_word}
use Rattle.script_lines.proofs.PlainWords.{address_field, begins_with-spaced, field_8, field_32, field_word, is_plain_word}
use Rattle.script_lines.proofs.ReadFields.{attrs_in-words, byte_address-spelled, cost_in-words, number_8-decimal, number_32-decimal, range_in-words}
use Rattle.script_lines.proofs.ReadLines.{arguments-read, attrs_words-plain, cost_words-plain, limited-within, number_line, one_word-read, range_words-plain, scheme-read}
use Rattle.script_lines.proofs.ReadSchemes.{scheme_words-plain}
use Rattle.script_lines.proofs.SpellSteps.{chosen, passed_over, then-Ok}

-- a line that begins with `touch` is read as a touch
touch_way : (space : List Target) (line : List ℕ) (command : CommandValue) → begins_with (codes "touch") line ≡ true → touch_line space line ≡ Ok command → command_line space line ≡ Ok command
touch_way space line command here read = chosen (begins_with (codes "touch") line) _ _ (Ok command) here read

-- a line that begins with `sweep` is read as a sweep
sweep_way : (space : List Target) (line : List ℕ) (command : CommandValue) → begins_with (codes "touch") line ≡ false → begins_with (codes "sweep") line ≡ true
    → sweep_line space line ≡ Ok command → command_line space line ≡ Ok command
sweep_way space line command no_touch here read =
    passed_over (begins_with (codes "touch") line) _ _ (Ok command) no_touch (chosen (begins_with (codes "sweep") line) _ _ (Ok command) here read)

-- a line that begins with `step` is read as steps
step_way : (space : List Target) (line : List ℕ) (command : CommandValue) → begins_with (codes "touch") line ≡ false → begins_with (codes "sweep") line ≡ false
    → begins_with (codes "step") line ≡ true → step_line line ≡ Ok command → command_line space line ≡ Ok command
step_way space line command no_touch no_sweep here read =
    passed_over (begins_with (codes "touch") line) _ _ (Ok command) no_touch
    (passed_over (begins_with (codes "sweep") line) _ _ (Ok command) no_sweep (chosen (begins_with (codes "step") line) _ _ (Ok command) here read))

touch_line-spelled : (space : List Target) (target addr page : ℕ) → target < 2 ^ 32 → addr < 2 ^ 64 → page_of space target addr ≡ Some page
    → command_line space (spelled_touch target addr) ≡ Ok (Touch page)
touch_line-spelled space target addr page target_fits addr_fits holds =
    let words = decimal target ∷ spelled_address addr ∷ [] in
    let plain : list_all is_plain_word words ≡ true =
    both_true (field_word (decimal target) (field_32 target target_fits)) (both_true (field_word (spelled_address addr) (address_field addr addr_fits)) refl) in
    touch_way space (spelled_touch target addr) (Touch page) (begins_with-spaced (codes "touch") (codes "touch") words plain)
    (arguments-read (codes "touch") words _ (Ok (Touch page)) refl plain
    (then-Ok (number_32 (decimal target)) _ target _ (number_32-decimal target target_fits)
    (then-Ok (byte_address (spelled_address addr)) _ addr _ (byte_address-spelled addr addr_fits)
    (then-Ok (ok_or (page_of space target addr) Outside) _ page _ (ap (λ o. ok_or o Outside) holds) refl))))

-- the page after the last is the end of a sweep
swept_end : (o : Option ℕ) (first end : ℕ) → option_map (λ last. last + 1) o ≡ Some end → (ok_or o Outside >>= λ last. Ok (Sweep first (last + 1))) ≡ Ok (Sweep first end)
swept_end None first end e = absurd cc
swept_end (Some last) first end e = let same : last + 1 ≡ end = cc in ap (λ n. Ok (Sweep first n)) same

sweep_line-spelled : (space : List Target) (line : List ℕ) (first end : ℕ) (is : IsSweep space line first end)
    → command_line space (spelled_sweep is.target is.from is.to) ≡ Ok (Sweep first end)
sweep_line-spelled space line first end is =
    let target = is.target in
    let from = is.from in
    let to = is.to in
    let words = decimal target ∷ spelled_address from ∷ spelled_address to ∷ [] in
    let said = spelled_sweep target from to in
    let plain : list_all is_plain_word words ≡ true =
    both_true (field_word (decimal target) (field_32 target is.target_fits))
    (both_true (field_word (spelled_address from) (address_field from is.from_fits)) (both_true (field_word (spelled_address to) (address_field to is.to_fits)) refl)) in
    sweep_way space said (Sweep first end) (begins_with-spaced (codes "touch") (codes "sweep") words plain) (begins_with-spaced (codes "sweep") (codes "sweep") words plain)
    (arguments-read (codes "sweep") words _ (Ok (Sweep first end)) refl plain
    (then-Ok (number_32 (decimal target)) _ target _ (number_32-decimal target is.target_fits)
    (then-Ok (byte_address (spelled_address from)) _ from _ (byte_address-spelled from is.from_fits)
    (then-Ok (byte_address (spelled_address to)) _ to _ (byte_address-spelled to is.to_fits)
    (then-Ok (only_if (are_swept from to) Limit (tt {0})) _ tt _ (ap (λ t. only_if t Limit (tt {0})) is.whole)
    (then-Ok (ok_or (page_of space target from) Outside) _ first _ (ap (λ o. ok_or o Outside) is.begins)
    (swept_end (page_of space target (to - 4096)) first end is.ends)))))))

step_line-spelled : (space : List Target) (times : ℕ) → 1 ≤ times → times ≤ 1000000 → command_line space (codes "step " ++ decimal times) ≡ Ok (Step times)
step_line-spelled space times low high =
    let said = (codes "step " ++ decimal times) in
    let words = decimal times ∷ [] in
    let plain : list_all is_plain_word words ≡ true = both_true (field_word (decimal times) (field_32 times (omega arith))) refl in
    step_way space said (Step times) (begins_with-spaced (codes "touch") (codes "step") words plain) (begins_with-spaced (codes "sweep") (codes "step") words plain)
    (begins_with-spaced (codes "step") (codes "step") words plain)
    (then-Ok (arguments (codes "step") said >>= one_word >>= number_32 >>= limited 1 1000000) _ times _
    (then-Ok (arguments (codes "step") said >>= one_word >>= number_32) (limited 1 1000000) times _ (number_line (codes "step") times refl refl (omega arith)) (limited-within 1 1000000 times low high))
    refl)

-- a line that says a command is read as that command
pub command_line-said : (space : List Target) (line : List ℕ) (command : CommandValue) → IsCommand space line command → command_line space line ≡ Ok command
command_line-said space line (Touch page) is =
    ap (command_line space) is.spelled ∙ touch_line-spelled space is.target is.addr page is.target_fits is.addr_fits is.holds
command_line-said space line (Sweep first end) is = ap (command_line space) is.spelled ∙ sweep_line-spelled space line first end is
command_line-said space line (Step times) is = ap (command_line space) is.0 ∙ step_line-spelled space times is.1 is.2
command_line-said space line Arm is = ap (command_line space) is
command_line-said space line Finish is = ap (command_line space) is
command_line-said space line Show is = ap (command_line space) is
command_line-said space line (Commit commit) is = absurd is

-- a line with another first word fails a test for this word, wherever it stands
other_word : (word first : List ℕ) (others : List (List ℕ)) (wanted : Bool) → list_all is_plain_word (first ∷ others) ≡ true → same_word first word ≡ false
    → (begins_with word (joined 32 (first ∷ others)) && wanted) ≡ false
other_word word first others wanted plain other = ap (λ b. b && wanted) (begins_with-spaced word first others plain ∙ other)

-- a line with this first word passes the test for it, where it may come
this_word : (word : List ℕ) (others : List (List ℕ)) (wanted : Bool) → list_all is_plain_word (word ∷ others) ≡ true → same_word word word ≡ true → wanted ≡ true
    → (begins_with word (joined 32 (word ∷ others)) && wanted) ≡ true
this_word word others wanted plain same comes = both_true (begins_with-spaced word word others plain ∙ same) comes

-- a line that begins with `range` is read as a range, after the test for attributes
range_way : (version : Version) (before : CommitValue) (line : List ℕ) (part : Part) → (begins_with (codes "attrs") line && wants_attrs before) ≡ false → (begins_with (codes "range") line && wants_slot before) ≡ true
    → (arguments (codes "range") line >>= range_in >>= λ range. Ok (Range range)) ≡ Ok part → part_line version before line ≡ Ok part
range_way version before line part no_attrs here read =
    passed_over (begins_with (codes "attrs") line && wants_attrs before) _ _ (Ok part) no_attrs (chosen (begins_with (codes "range") line && wants_slot before) _ _ (Ok part) here read)

-- a line that begins with `scheme` is read as a scheme, after the tests before it
scheme_way : (version : Version) (before : CommitValue) (line : List ℕ) (part : Part) → (begins_with (codes "attrs") line && wants_attrs before) ≡ false → (begins_with (codes "range") line && wants_slot before) ≡ false
    → (begins_with (codes "scheme") line && wants_slot before) ≡ true → (change_line version line >>= λ change. Ok (Slot change)) ≡ Ok part → part_line version before line ≡ Ok part
scheme_way version before line part no_attrs no_range here read =
    passed_over (begins_with (codes "attrs") line && wants_attrs before) _ _ (Ok part) no_attrs
    (passed_over (begins_with (codes "range") line && wants_slot before) _ _ (Ok part) no_range (chosen (begins_with (codes "scheme") line && wants_slot before) _ _ (Ok part) here read))

-- a line that begins with `drop` is read as an emptied slot, after the tests before it
drop_way : (version : Version) (before : CommitValue) (line : List ℕ) (part : Part) → (begins_with (codes "attrs") line && wants_attrs before) ≡ false → (begins_with (codes "range") line && wants_slot before) ≡ false
    → (begins_with (codes "scheme") line && wants_slot before) ≡ false → (begins_with (codes "drop") line && wants_slot before) ≡ true
    → (drop_line line >>= λ change. Ok (Slot change)) ≡ Ok part → part_line version before line ≡ Ok part
drop_way version before line part no_attrs no_range no_scheme here read =
    passed_over (begins_with (codes "attrs") line && wants_attrs before) _ _ (Ok part) no_attrs
    (passed_over (begins_with (codes "range") line && wants_slot before) _ _ (Ok part) no_range
    (passed_over (begins_with (codes "scheme") line && wants_slot before) _ _ (Ok part) no_scheme (chosen (begins_with (codes "drop") line && wants_slot before) _ _ (Ok part) here read)))

-- a line that begins with `metric` is read as a metric, after the tests before it
metric_way : (version : Version) (before : CommitValue) (line : List ℕ) (part : Part) → (begins_with (codes "attrs") line && wants_attrs before) ≡ false → (begins_with (codes "range") line && wants_slot before) ≡ false
    → (begins_with (codes "scheme") line && wants_slot before) ≡ false → (begins_with (codes "drop") line && wants_slot before) ≡ false
    → (begins_with (codes "metric") line && wants_metric before) ≡ true
    → (arguments (codes "metric") line >>= one_word >>= number_32 >>= λ value. Ok (Metric value)) ≡ Ok part → part_line version before line ≡ Ok part
metric_way version before line part no_attrs no_range no_scheme no_drop here read =
    passed_over (begins_with (codes "attrs") line && wants_attrs before) _ _ (Ok part) no_attrs
    (passed_over (begins_with (codes "range") line && wants_slot before) _ _ (Ok part) no_range
    (passed_over (begins_with (codes "scheme") line && wants_slot before) _ _ (Ok part) no_scheme
    (passed_over (begins_with (codes "drop") line && wants_slot before) _ _ (Ok part) no_drop
    (chosen (begins_with (codes "metric") line && wants_metric before) _ _ (Ok part) here read))))

-- a line that begins with `cost` is read as a cost, after the tests before it
cost_way : (version : Version) (before : CommitValue) (line : List ℕ) (part : Part) → (begins_with (codes "attrs") line && wants_attrs before) ≡ false → (begins_with (codes "range") line && wants_slot before) ≡ false
    → (begins_with (codes "scheme") line && wants_slot before) ≡ false → (begins_with (codes "drop") line && wants_slot before) ≡ false
    → (begins_with (codes "metric") line && wants_metric before) ≡ false → (begins_with (codes "cost") line && wants_cost version before) ≡ true
    → (arguments (codes "cost") line >>= cost_in >>= λ cost. Ok (Cost cost)) ≡ Ok part → part_line version before line ≡ Ok part
cost_way version before line part no_attrs no_range no_scheme no_drop no_metric here read =
    passed_over (begins_with (codes "attrs") line && wants_attrs before) _ _ (Ok part) no_attrs
    (passed_over (begins_with (codes "range") line && wants_slot before) _ _ (Ok part) no_range
    (passed_over (begins_with (codes "scheme") line && wants_slot before) _ _ (Ok part) no_scheme
    (passed_over (begins_with (codes "drop") line && wants_slot before) _ _ (Ok part) no_drop
    (passed_over (begins_with (codes "metric") line && wants_metric before) _ _ (Ok part) no_metric
    (chosen (begins_with (codes "cost") line && wants_cost version before) _ _ (Ok part) here read)))))

attrs_part-said : (version : Version) (before : CommitValue) (a : AttrsValue) → wants_attrs before ≡ true → FitsAttrs a → part_line version before (spelled_attrs a) ≡ Ok (Attrs a)
attrs_part-said version before a comes fits =
    let plain = attrs_words-plain a fits in
    chosen (begins_with (codes "attrs") (spelled_attrs a) && wants_attrs before) _ _ (Ok (Attrs a)) (this_word (codes "attrs") (attrs_words a) (wants_attrs before) plain refl comes)
    (then-Ok (arguments (codes "attrs") (spelled_attrs a) >>= attrs_in) _ a _ (arguments-read (codes "attrs") (attrs_words a) attrs_in (Ok a) refl plain (attrs_in-words a fits)) refl)

range_part-said : (version : Version) (before : CommitValue) (r : RangeSpec) → wants_slot before ≡ true → FitsRange r → part_line version before (spelled_range r) ≡ Ok (Range r)
range_part-said version before r comes fits =
    let plain = range_words-plain r fits in
    range_way version before (spelled_range r) (Range r) (other_word (codes "attrs") (codes "range") (range_words r) (wants_attrs before) plain refl)
    (this_word (codes "range") (range_words r) (wants_slot before) plain refl comes)
    (then-Ok (arguments (codes "range") (spelled_range r) >>= range_in) _ r _ (arguments-read (codes "range") (range_words r) range_in (Ok r) refl plain (range_in-words r fits)) refl)

change_line-said : (version : Version) (line : List ℕ) (change : SlotChange) → GivesScheme version line change → change_line version line ≡ Ok change
change_line-said version line change gives =
    then-Ok (arguments (codes "scheme") line >>= scheme_in version) _ (change.slot, gives.0) _
    (scheme-read version line change.slot gives.0 (scheme_in version) (Ok (change.slot, gives.0)) gives.2 (λ words said. said))
    (ap (λ s. Ok (record { slot = change.slot; scheme = s })) (sym gives.1))

scheme_part-said : (version : Version) (before : CommitValue) (line : List ℕ) (change : SlotChange) → wants_slot before ≡ true → GivesScheme version line change
    → part_line version before line ≡ Ok (Slot change)
scheme_part-said version before line change comes gives =
    let is = gives.2 in
    let words = scheme_words change.slot is.action is.settings in
    let plain = scheme_words-plain change.slot is.action is.settings is.small is.fit in
    scheme_way version before line (Slot change)
    (ap (λ l. begins_with (codes "attrs") l && wants_attrs before) is.spelled ∙ other_word (codes "attrs") (codes "scheme") words (wants_attrs before) plain refl)
    (ap (λ l. begins_with (codes "range") l && wants_slot before) is.spelled ∙ other_word (codes "range") (codes "scheme") words (wants_slot before) plain refl)
    (ap (λ l. begins_with (codes "scheme") l && wants_slot before) is.spelled ∙ this_word (codes "scheme") words (wants_slot before) plain refl comes)
    (then-Ok (change_line version line) _ change _ (change_line-said version line change gives) refl)

drop_line-spelled : (slot : ℕ) → slot < 2 ^ 8 → drop_line (codes "drop " ++ decimal slot) ≡ Ok (record { slot = slot; scheme = None })
drop_line-spelled slot small =
    then-Ok (arguments (codes "drop") (codes "drop " ++ decimal slot) >>= one_word >>= number_8) _ slot _
    (one_word-read (codes "drop") (decimal slot) number_8 (Ok slot) refl (both_true (field_word (decimal slot) (field_8 slot small)) refl) (number_8-decimal slot small)) refl

drop_part-said : (version : Version) (before : CommitValue) (slot : ℕ) → wants_slot before ≡ true → slot < 2 ^ 8
    → part_line version before (codes "drop " ++ decimal slot) ≡ Ok (Slot (record { slot = slot; scheme = None }))
drop_part-said version before slot comes small =
    let said = (codes "drop " ++ decimal slot) in
    let words = decimal slot ∷ [] in
    let plain : list_all is_plain_word words ≡ true = both_true (field_word (decimal slot) (field_8 slot small)) refl in
    let change : SlotChange = record { slot = slot; scheme = None } in
    drop_way version before said (Slot change) (other_word (codes "attrs") (codes "drop") words (wants_attrs before) plain refl)
    (other_word (codes "range") (codes "drop") words (wants_slot before) plain refl) (other_word (codes "scheme") (codes "drop") words (wants_slot before) plain refl)
    (this_word (codes "drop") words (wants_slot before) plain refl comes) (then-Ok (drop_line said) _ change _ (drop_line-spelled slot small) refl)

metric_part-said : (version : Version) (before : CommitValue) (value : ℕ) → wants_metric before ≡ true → value < 2 ^ 32 → part_line version before (codes "metric " ++ decimal value) ≡ Ok (Metric value)
metric_part-said version before value comes small =
    let said = (codes "metric " ++ decimal value) in
    let words = decimal value ∷ [] in
    let plain : list_all is_plain_word words ≡ true = both_true (field_word (decimal value) (field_32 value small)) refl in
    metric_way version before said (Metric value) (other_word (codes "attrs") (codes "metric") words (wants_attrs before) plain refl)
    (other_word (codes "range") (codes "metric") words (wants_slot before) plain refl) (other_word (codes "scheme") (codes "metric") words (wants_slot before) plain refl)
    (other_word (codes "drop") (codes "metric") words (wants_slot before) plain refl) (this_word (codes "metric") words (wants_metric before) plain refl comes)
    (then-Ok (arguments (codes "metric") said >>= one_word >>= number_32) _ value _ (number_line (codes "metric") value refl refl small) refl)

cost_part-said : (version : Version) (before : CommitValue) (cost : CostPart) → wants_cost version before ≡ true → FitsCost cost
    → part_line version before (spelled_cost cost) ≡ Ok (Cost cost)
cost_part-said version before cost comes fits =
    let said = spelled_cost cost in
    let words = cost_words cost in
    let plain = cost_words-plain cost fits in
    cost_way version before said (Cost cost) (other_word (codes "attrs") (codes "cost") words (wants_attrs before) plain refl)
    (other_word (codes "range") (codes "cost") words (wants_slot before) plain refl) (other_word (codes "scheme") (codes "cost") words (wants_slot before) plain refl)
    (other_word (codes "drop") (codes "cost") words (wants_slot before) plain refl) (other_word (codes "metric") (codes "cost") words (wants_metric before) plain refl)
    (this_word (codes "cost") words (wants_cost version before) plain refl comes)
    (then-Ok (arguments (codes "cost") said >>= cost_in) _ cost _ (arguments-read (codes "cost") words cost_in (Ok cost) refl plain (cost_in-words cost fits)) refl)

-- a line that says a part, where it may come, is read as that part
pub part_line-said : (version : Version) (before : CommitValue) (line : List ℕ) (part : Part) → may_come version before part ≡ true → IsPart version line part → part_line version before line ≡ Ok part
part_line-said version before line (Attrs attrs) comes is = ap (part_line version before) is.0 ∙ attrs_part-said version before attrs comes is.1
part_line-said version before line (Range range) comes is = ap (part_line version before) is.0 ∙ range_part-said version before range comes is.1
part_line-said version before line (Slot change) comes (inl gives) = scheme_part-said version before line change comes gives
part_line-said version before line (Slot change) comes (inr empties) =
    ap (part_line version before) empties.1 ∙ drop_part-said version before change.slot comes empties.2 ∙ ap (λ s. Ok (Slot (record { slot = change.slot; scheme = s }))) (sym empties.0)
part_line-said version before line (Metric value) comes is = ap (part_line version before) is.0 ∙ metric_part-said version before value comes is.1
part_line-said version before line (Cost cost) comes is = ap (part_line version before) is.0 ∙ cost_part-said version before cost comes is.1
