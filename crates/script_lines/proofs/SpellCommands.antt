-- A line of a body or a commit that is read says what is read.
use Rattle.std.proofs.Common.{◌≡◌, inl, inr, ◌∷◌, [], ℕ, ◌+◌, ◌-◌, ◌^◌, ◌<◌, true, ◌&&◌, List, codes, Some, None, Ok, refl, ap, subst, ◌∙◌, decimal}
use Rattle.std.specs.Prelude.{option_map}
use Rattle.std.specs.Option.{ok_or}
use Rattle.damon_types.specs.declared.scheme.SlotChange.{SlotChange}
use Rattle.damon_types.specs.declared.scheme.Version.{Version}
use Rattle.damon_types.specs.declared.space.Target.{Target}
use Rattle.damon_types.specs.Space.{page_of}
use Rattle.line_text.specs.Parts.{joined, two_of, three_of}
use Rattle.live_commit.specs.Commit.{CommitValue}
use Rattle.script_lines.specs.declared.part.Part.{Part}
use Rattle.script_lines.specs.declared.part.Part.TheVariants.{Attrs, Range, Slot, Metric, Cost}
use Rattle.script_lines.specs.declared.kind.ScriptKind.TheVariants.{Form, Limit, Outside}
use Rattle.script_lines.specs.Body.{are_swept, change_line, drop_line, step_line, sweep_line, touch_line, wants_attrs, wants_cost, wants_metric, wants_slot, word_line}
use Rattle.script_lines.specs.Command.{CommandValue, Touch, Sweep, Step, Arm, Finish, Show}
use Rattle.script_lines.specs.Fields.{attrs_in, cost_in, range_in}
use Rattle.script_lines.specs.Fits.{FitsAttrs, FitsCost, FitsRange}
use Rattle.script_lines.specs.Head.{limited}
use Rattle.script_lines.specs.Laws.{EmptiesSlot, IsCommand, IsPart, IsSweep, IsTouch, ReadsOnlyCommands, ReadsOnlyParts, may_come}
use Rattle.script_lines.specs.Refusal.{◌>>=◌, only_if}
use Rattle.script_lines.proofs.SpelledParts.{attrs_words, cost_words, range_words, spelled_sweep, spelled_touch}
use Rattle.script_lines.specs.Words.{alone, arguments, begins_with, byte_address, number_8, number_32, one_word}
use Rattle.script_lines.proofs.SpellFits.{attrs_in-fits, cost_in-fits, range_in-fits}
use Rattle.script_lines.proofs.SpellLines.{attrs_in-Ok, cost_in-Ok, limited-Ok, limited-bounds, range_in-Ok, words-Ok, words-have}
use Rattle.script_lines.proofs.SpellSchemes.{change_line-Ok}
use Rattle.script_lines.proofs.SpellSteps.{bind-Ok, either_way, second_true, tested_way, ok_or-Ok, only_if-Ok, two_of-Some, three_of-Some}
use Rattle.script_lines.proofs.SpellWords.{alone-Ok, arguments-Ok, byte_address-Ok, byte_address-small, number_8-Ok, number_8-small, number_32-Ok, number_32-small, one_word-Ok, one_word-has}

-- a touch that finds its page says that page
touch_page : (space : List Target) (line : List ℕ) (command : CommandValue) (target addr : ℕ) → line ≡ spelled_touch target addr → target < 2 ^ 32 → addr < 2 ^ 64
    → (ok_or (page_of space target addr) Outside >>= λ page. Ok (Touch page)) ≡ Ok command → (page : ℕ) × (Touch page ≡ command) × IsTouch space line page
touch_page space line command target addr spelled target_fits addr_fits e =
    let page = bind-Ok (ok_or (page_of space target addr) Outside) _ command e in
    let is : Touch page.0 ≡ command = cc in (
      page.0,
      is,
      record {
        target = target;
        addr = addr;
        spelled = spelled;
        target_fits = target_fits;
        addr_fits = addr_fits;
        holds = ok_or-Ok (page_of space target addr) Outside page.0 page.1;
      },
    )

-- the words of a touch spell its line
touch_words : (line : List ℕ) (words : List (List ℕ)) (fields : List ℕ × List ℕ) (target addr : ℕ) → arguments (codes "touch") line ≡ Ok words
    → two_of words ≡ Some fields → number_32 fields.0 ≡ Ok target → byte_address fields.1 ≡ Ok addr → line ≡ spelled_touch target addr
touch_words line words fields target addr said two is_target is_addr =
    arguments-Ok (codes "touch") line words said
    ∙ ap (λ ws. joined 32 (codes "touch" ∷ ws)) (two_of-Some words fields two)
    ∙ (λ i. joined 32 (codes "touch" ∷ number_32-Ok fields.0 target is_target i ∷ byte_address-Ok fields.1 addr is_addr i ∷ []))

-- a line that is read as a touch touches a page
pub touch_line-page : (space : List Target) (line : List ℕ) (command : CommandValue) → touch_line space line ≡ Ok command → (page : ℕ) × (Touch page ≡ command) × IsTouch space line page
touch_line-page space line command e =
    let words = bind-Ok (arguments (codes "touch") line) _ command e in
    let fields = bind-Ok (ok_or (two_of words.0) Form) _ command words.2 in
    let target = bind-Ok (number_32 fields.0.0) _ command fields.2 in
    let addr = bind-Ok (byte_address fields.0.1) _ command target.2 in
    let two = ok_or-Ok (two_of words.0) Form fields.0 fields.1 in
    let spelled = touch_words line words.0 fields.0 target.0 addr.0 words.1 two target.1 addr.1 in
    touch_page space line command target.0 addr.0 spelled (number_32-small fields.0.0 target.0 target.1) (byte_address-small fields.0.1 addr.0 addr.1) addr.2

touch_line-Ok : (space : List Target) (line : List ℕ) (command : CommandValue) → touch_line space line ≡ Ok command → IsCommand space line command
touch_line-Ok space line command e = let said = touch_line-page space line command e in subst (IsCommand space line) said.1 said.2

-- a sweep that finds its pages says these pages
sweep_pages : (space : List Target) (line : List ℕ) (command : CommandValue) (target from to : ℕ) → line ≡ spelled_sweep target from to
    → target < 2 ^ 32 → from < 2 ^ 64 → to < 2 ^ 64
    → (do
      whole ← only_if (are_swept from to) Limit (tt {0})
      first ← ok_or (page_of space target from) Outside
      last ← ok_or (page_of space target (to - 4096)) Outside
      Ok (Sweep first (last + 1))) ≡ Ok command
    → (first : ℕ) × (end : ℕ) × (Sweep first end ≡ command) × IsSweep space line first end
sweep_pages space line command target from to spelled target_fits from_fits to_fits e =
    let whole = bind-Ok (only_if (are_swept from to) Limit (tt {0})) _ command e in
    let first = bind-Ok (ok_or (page_of space target from) Outside) _ command whole.2 in
    let last = bind-Ok (ok_or (page_of space target (to - 4096)) Outside) _ command first.2 in
    let is : Sweep first.0 (last.0 + 1) ≡ command = cc in (
      first.0,
      last.0 + 1,
      is,
      record {
        target = target;
        from = from;
        to = to;
        spelled = spelled;
        target_fits = target_fits;
        from_fits = from_fits;
        to_fits = to_fits;
        whole = (only_if-Ok (are_swept from to) Limit (tt {0}) whole.0 whole.1).0;
        begins = ok_or-Ok (page_of space target from) Outside first.0 first.1;
        ends = ap (option_map (λ page. page + 1)) (ok_or-Ok (page_of space target (to - 4096)) Outside last.0 last.1);
      },
    )

-- the words of a sweep spell its line
sweep_words : (line : List ℕ) (words : List (List ℕ)) (fields : List ℕ × List ℕ × List ℕ) (target from to : ℕ) → arguments (codes "sweep") line ≡ Ok words
    → three_of words ≡ Some fields → number_32 fields.0 ≡ Ok target → byte_address fields.1 ≡ Ok from → byte_address fields.2 ≡ Ok to → line ≡ spelled_sweep target from to
sweep_words line words fields target from to said three is_target is_from is_to =
    arguments-Ok (codes "sweep") line words said
    ∙ ap (λ ws. joined 32 (codes "sweep" ∷ ws)) (three_of-Some words fields three)
    ∙ (λ i. joined 32 (codes "sweep" ∷ number_32-Ok fields.0 target is_target i ∷ byte_address-Ok fields.1 from is_from i ∷ byte_address-Ok fields.2 to is_to i ∷ []))

-- a line that is read as a sweep sweeps pages
pub sweep_line-pages : (space : List Target) (line : List ℕ) (command : CommandValue) → sweep_line space line ≡ Ok command
    → (first : ℕ) × (end : ℕ) × (Sweep first end ≡ command) × IsSweep space line first end
sweep_line-pages space line command e =
    let words = bind-Ok (arguments (codes "sweep") line) _ command e in
    let fields = bind-Ok (ok_or (three_of words.0) Form) _ command words.2 in
    let target = bind-Ok (number_32 fields.0.0) _ command fields.2 in
    let from = bind-Ok (byte_address fields.0.1) _ command target.2 in
    let to = bind-Ok (byte_address fields.0.2) _ command from.2 in
    let three = ok_or-Ok (three_of words.0) Form fields.0 fields.1 in
    let spelled = sweep_words line words.0 fields.0 target.0 from.0 to.0 words.1 three target.1 from.1 to.1 in
    sweep_pages space line command target.0 from.0 to.0 spelled (number_32-small fields.0.0 target.0 target.1) (byte_address-small fields.0.1 from.0 from.1)
    (byte_address-small fields.0.2 to.0 to.1) to.2

sweep_line-Ok : (space : List Target) (line : List ℕ) (command : CommandValue) → sweep_line space line ≡ Ok command → IsCommand space line command
sweep_line-Ok space line command e = let said = sweep_line-pages space line command e in subst (IsCommand space line) said.2 said.3

step_line-Ok : (space : List Target) (line : List ℕ) (command : CommandValue) → step_line line ≡ Ok command → IsCommand space line command
step_line-Ok space line command e =
    let times = bind-Ok (arguments (codes "step") line >>= one_word >>= number_32 >>= limited 1 1000000) _ command e in
    let read = limited-Ok (arguments (codes "step") line >>= one_word >>= number_32) 1 1000000 times.0 times.1 in
    let is : Step times.0 ≡ command = cc in
    let within = limited-bounds (arguments (codes "step") line >>= one_word >>= number_32) 1 1000000 times.0 times.1 in
    subst (IsCommand space line) is (one_word-Ok (codes "step") number_32 decimal (number_32-Ok) line times.0 read, within.0, within.1)

word_line-Ok : (space : List Target) (word : List ℕ) (said : CommandValue) (line : List ℕ) (command : CommandValue) → word_line word said line ≡ Ok command
    → (line ≡ word → IsCommand space line said) → IsCommand space line command
word_line-Ok space word said line command e says =
    let only = bind-Ok (alone word line) _ command e in
    let is : said ≡ command = cc in
    subst (IsCommand space line) is (says (alone-Ok word line only.1))

-- a line that a command is read from says that command
pub command_line-Ok : ReadsOnlyCommands
command_line-Ok space line command e =
    either_way (begins_with (codes "touch") line) _ _ _ (touch_line-Ok space line command)
    (either_way (begins_with (codes "sweep") line) _ _ _ (sweep_line-Ok space line command)
    (either_way (begins_with (codes "step") line) _ _ _ (step_line-Ok space line command)
    (either_way (begins_with (codes "arm") line) _ _ _ (λ read. word_line-Ok space (codes "arm") Arm line command read (λ is. is))
    (either_way (begins_with (codes "finish") line) _ _ _ (λ read. word_line-Ok space (codes "finish") Finish line command read (λ is. is))
    (λ read. word_line-Ok space (codes "show") Show line command read (λ is. is)))))) e

drop_line-Ok : (line : List ℕ) (change : SlotChange) → drop_line line ≡ Ok change → EmptiesSlot line change
drop_line-Ok line change e =
    let slot = bind-Ok (arguments (codes "drop") line >>= one_word >>= number_8) _ change e in
    let is : record { slot = slot.0; scheme = None } ≡ change = cc in
    subst (EmptiesSlot line) is (
      refl,
      one_word-Ok (codes "drop") number_8 decimal (number_8-Ok) line slot.0 slot.1,
      one_word-has (λ n. n < 2 ^ 8) (codes "drop") number_8 (number_8-small) line slot.0 slot.1,
    )

-- a line says a part that may come after those of a commit
abbrev SaysPart : Version → CommitValue → List ℕ → Part → Type 0
SaysPart version before line part = (may_come version before part ≡ true) × IsPart version line part

attrs_part : (version : Version) (before : CommitValue) (line : List ℕ) (part : Part) → wants_attrs before ≡ true → (arguments (codes "attrs") line >>= attrs_in >>= λ attrs. Ok (Attrs attrs)) ≡ Ok part
    → SaysPart version before line part
attrs_part version before line part wanted e =
    let attrs = bind-Ok (arguments (codes "attrs") line >>= attrs_in) _ part e in
    let is : Attrs attrs.0 ≡ part = cc in
    subst (SaysPart version before line) is (
      wanted,
      (words-Ok (codes "attrs") attrs_in attrs_words (attrs_in-Ok) line attrs.0 attrs.1, words-have FitsAttrs (codes "attrs") attrs_in (attrs_in-fits) line attrs.0 attrs.1),
    )

range_part : (version : Version) (before : CommitValue) (line : List ℕ) (part : Part) → wants_slot before ≡ true → (arguments (codes "range") line >>= range_in >>= λ range. Ok (Range range)) ≡ Ok part
    → SaysPart version before line part
range_part version before line part wanted e =
    let range = bind-Ok (arguments (codes "range") line >>= range_in) _ part e in
    let is : Range range.0 ≡ part = cc in
    subst (SaysPart version before line) is (
      wanted,
      (words-Ok (codes "range") range_in range_words (range_in-Ok) line range.0 range.1, words-have FitsRange (codes "range") range_in (range_in-fits) line range.0 range.1),
    )

scheme_part : (version : Version) (before : CommitValue) (line : List ℕ) (part : Part) → wants_slot before ≡ true → (change_line version line >>= λ change. Ok (Slot change)) ≡ Ok part → SaysPart version before line part
scheme_part version before line part wanted e =
    let change = bind-Ok (change_line version line) _ part e in
    let is : Slot change.0 ≡ part = cc in
    subst (SaysPart version before line) is (wanted, inl (change_line-Ok version line change.0 change.1))

drop_part : (version : Version) (before : CommitValue) (line : List ℕ) (part : Part) → wants_slot before ≡ true → (drop_line line >>= λ change. Ok (Slot change)) ≡ Ok part → SaysPart version before line part
drop_part version before line part wanted e =
    let change = bind-Ok (drop_line line) _ part e in
    let is : Slot change.0 ≡ part = cc in
    subst (SaysPart version before line) is (wanted, inr (drop_line-Ok line change.0 change.1))

metric_part : (version : Version) (before : CommitValue) (line : List ℕ) (part : Part) → wants_metric before ≡ true
    → (arguments (codes "metric") line >>= one_word >>= number_32 >>= λ value. Ok (Metric value)) ≡ Ok part → SaysPart version before line part
metric_part version before line part wanted e =
    let value = bind-Ok (arguments (codes "metric") line >>= one_word >>= number_32) _ part e in
    let is : Metric value.0 ≡ part = cc in
    subst (SaysPart version before line) is (
      wanted,
      (
        one_word-Ok (codes "metric") number_32 decimal (number_32-Ok) line value.0 value.1,
        one_word-has (λ n. n < 2 ^ 32) (codes "metric") number_32 (number_32-small) line value.0 value.1,
      ),
    )

cost_part : (version : Version) (before : CommitValue) (line : List ℕ) (part : Part) → wants_cost version before ≡ true
    → (arguments (codes "cost") line >>= cost_in >>= λ cost. Ok (Cost cost)) ≡ Ok part → SaysPart version before line part
cost_part version before line part wanted e =
    let cost = bind-Ok (arguments (codes "cost") line >>= cost_in) _ part e in
    let is : Cost cost.0 ≡ part = cc in
    subst (SaysPart version before line) is (
      wanted,
      (words-Ok (codes "cost") cost_in cost_words (cost_in-Ok) line cost.0 cost.1, words-have FitsCost (codes "cost") cost_in (cost_in-fits) line cost.0 cost.1),
    )

-- a line that a part of a commit is read from says that part, and it may come there
pub part_line-Ok : ReadsOnlyParts
part_line-Ok version before line part e =
    tested_way (begins_with (codes "attrs") line && wants_attrs before) _ _ _ (λ both. attrs_part version before line part (second_true (begins_with (codes "attrs") line) _ both))
    (tested_way (begins_with (codes "range") line && wants_slot before) _ _ _ (λ both. range_part version before line part (second_true (begins_with (codes "range") line) _ both))
    (tested_way (begins_with (codes "scheme") line && wants_slot before) _ _ _ (λ both. scheme_part version before line part (second_true (begins_with (codes "scheme") line) _ both))
    (tested_way (begins_with (codes "drop") line && wants_slot before) _ _ _ (λ both. drop_part version before line part (second_true (begins_with (codes "drop") line) _ both))
    (tested_way (begins_with (codes "metric") line && wants_metric before) _ _ _ (λ both. metric_part version before line part (second_true (begins_with (codes "metric") line) _ both))
    (tested_way (begins_with (codes "cost") line && wants_cost version before) _ _ _ (λ both. cost_part version before line part (second_true (begins_with (codes "cost") line) _ both))
    (λ no. absurd cc)))))) e
