-- What a line adds to what the lines of a live script before it say.
use Rattle.std.proofs.Common.{◌≡◌, ◌∷◌, [], ◌+◌, ◌<◌, ◌≤◌, ◌==◌, inl, inr, ℕ, true, false, nat_le, nat_lt, List, ◌++◌, length, codes, Ok, refl, sym, ap, subst, ◌∙◌, append_assoc, arith, decimal}
use Rattle.std.proofs.lemmas.Bool.Decides.{nat_tests}
use Rattle.std.proofs.lemmas.List.{append-nil, length-append}
use Rattle.std.proofs.lemmas.List.Folds.{concat-append}
use Rattle.std.proofs.lemmas.List.Sums.{sum_by-cons}
use Rattle.damon_types.specs.declared.scheme.Version.{Version}
use Rattle.damon_types.specs.declared.space.Target.{Target}
use Rattle.script_lines.specs.declared.kind.ScriptKind.TheVariants.{Limit, TooMuch}
use Rattle.damon_control.specs.declared.grammar.Grammar.TheVariants.{OfLive}
use Rattle.damon_control.specs.declared.live.TheConstants.{MAX_CALLS, MAX_CONTROLLERS, MAX_WORKERS}
use Rattle.script_lines.specs.declared.blocks.TheConstants.{MAX_TOUCHES}
use Rattle.script_lines.specs.Body.{no_commit}
use Rattle.script_lines.specs.Command.{CommandValue}
use Rattle.damon_control.specs.Live.{CallValue, LiveValue, ShowCall, call_within, controller_line, count_all, has_controller, show_line, to_last, touches_line, with_call, worker_line}
use Rattle.script_lines.specs.Blocks.{block_line, touched, touches_within, touching}
use Rattle.damon_control.specs.LiveText.{SayCall, SayController, SayWorker, SaysPages}
use Rattle.script_lines.specs.Refusal.{◌>>=◌}
use Rattle.damon_control.specs.Script.{AtEnd, InBody, InCommit, Place, after_live, header_of, live_within}
use Rattle.damon_control.specs.Text.{EachSays, all_lines}
use Rattle.script_lines.specs.Lines.{lines_text}
use Rattle.script_lines.specs.Words.{alone, begins_with}
use Rattle.script_lines.proofs.Lemmas.{alone-Ok, sweep_line-pages, touch_line-page}
use Rattle.damon_control.proofs.LiveLemmas.{count_all-more, none_of, some_of}
use Rattle.damon_control.proofs.SayPlaces.{SayBlocks, Says, all_lines-more, both_ways, each_more, read_to}
use Rattle.damon_control.proofs.Steps.{bind-Ok, either_way, only_if-Ok}

-- ---- the last of some lists

count-to_last : {A : Type 0} (lists : List (List A)) (items : List A) → 1 ≤ length lists → count_all (to_last lists items) ≡ count_all lists + length items
count-to_last [] items some = absurd (omega (arith, some))
count-to_last (last ∷ []) items some =
    omega (arith, sum_by-cons length (last ++ items) [], sum_by-cons length last [], length-append last items)
count-to_last (list ∷ next ∷ more) items some =
    omega (arith, sum_by-cons length list (to_last (next ∷ more) items), sum_by-cons length list (next ∷ more), count-to_last (next ∷ more) items (omega arith))

length-to_last : {A : Type 0} (lists : List (List A)) (items : List A) → length (to_last lists items) ≡ length lists
length-to_last [] items = refl
length-to_last (last ∷ []) items = refl
length-to_last (list ∷ next ∷ more) items = omega (arith, length-to_last (next ∷ more) items)

-- more lines of the last group are lines after all others
all_lines-last : (groups : List (List (List ℕ))) (more : List (List ℕ)) → 1 ≤ length groups → all_lines (to_last groups more) ≡ all_lines groups ++ more
all_lines-last [] more some = absurd (omega (arith, some))
all_lines-last (last ∷ []) more some =
    append-nil (last ++ more) ∙ ap (λ ls. ls ++ more) (sym (append-nil last))
all_lines-last (group ∷ next ∷ groups) more some =
    ap (λ ls. group ++ ls) (all_lines-last (next ∷ groups) more (omega arith)) ∙ sym (append_assoc group (all_lines (next ∷ groups)) more)

-- groups of lines still say their lists after more lines of the last group and what they add to its list
says_last : {L A : Type 0} (says : List L → List A → Type 0) (groups : List (List L)) (lists : List (List A)) (more : List L) (items : List A)
    → ((group : List L) (list : List A) → says group list → says (group ++ more) (list ++ items)) → EachSays says groups lists → EachSays says (to_last groups more) (to_last lists items)
says_last says [] [] more items adds each = tt
says_last says (group ∷ []) (list ∷ []) more items adds each = (adds group list each.0, tt)
says_last says (group ∷ next ∷ groups) (list ∷ second ∷ lists) more items adds each = (each.0, says_last says (next ∷ groups) (second ∷ lists) more items adds each.1)
says_last says (group ∷ []) (list ∷ second ∷ lists) more items adds each = absurd each.1
says_last says (group ∷ next ∷ groups) (list ∷ []) more items adds each = absurd each.1
says_last says [] (list ∷ lists) more items adds each = absurd each
says_last says (group ∷ groups) [] more items adds each = absurd each

-- the number of lines, or of groups, is that of the values that they say
same_number : {L A : Type 0} (says : L → A → Type 0) (lines : List L) (values : List A) → EachSays says lines values → length lines ≡ length values
same_number says [] [] each = refl
same_number says (line ∷ lines) (value ∷ values) each = omega (arith, same_number says lines values each.1)
same_number says [] (value ∷ values) each = absurd each
same_number says (line ∷ lines) [] each = absurd each

none_is : {A : Type 0} (xs : List A) → length xs ≡ 0 → xs ≡ []
none_is [] is = refl
none_is (x ∷ xs) is = absurd (omega (arith, is))

-- ---- blocks and lines after them

-- the lines up to the blocks, and those of the blocks
abbrev live_lines : Version → List (List ℕ) → ℕ → List (List ℕ) → List (List ℕ)
live_lines version setup passes blocks = header_of OfLive version ∷ (setup ++ (codes "passes " ++ decimal passes) ∷ blocks)

more_lines : (version : Version) (lines setup : List (List ℕ)) (passes : ℕ) (blocks more : List (List ℕ)) → lines ≡ live_lines version setup passes blocks
    → lines ++ more ≡ live_lines version setup passes (blocks ++ more)
more_lines version lines setup passes blocks more is =
    ap (λ ls. ls ++ more) is
    ∙ ap (λ ls. header_of OfLive version ∷ ls) (append_assoc setup ((codes "passes " ++ decimal passes) ∷ blocks) more)

-- ---- workers

-- a line that is read as touches says their pages
touching-Ok : (space : List Target) (line : List ℕ) (c : CommandValue) → touching space line ≡ Ok c → SaysPages space line (touched c)
touching-Ok space line c e =
    either_way (begins_with (codes "touch") line) _ _ _
    (λ read. let said = touch_line-page space line c read in inl (said.0, sym (ap touched said.1), said.2))
    (λ read. let said = sweep_line-pages space line c read in inr (said.0, said.1, sym (ap touched said.2), said.3)) e

-- a line that is read as touches within the limit of all touches
record SayTouches (space : List Target) (line : List ℕ) (before : ℕ) (pages : List ℕ) : Type 0 where
  says : SaysPages space line pages
  few : before + length pages ≤ MAX_TOUCHES

touches_within-Ok : (space : List Target) (line : List ℕ) (before : ℕ) (pages : List ℕ) → touches_within space line before ≡ Ok pages → SayTouches space line before pages
touches_within-Ok space line before pages e =
    let command = bind-Ok (touching space line) _ pages e in
    let passes = only_if-Ok (nat_le (before + length (touched command.0)) MAX_TOUCHES) TooMuch (touched command.0) pages command.2 in
    subst (SayTouches space line before) passes.1 (record {
      says = touching-Ok space line command.0 command.1;
      few = grind (arith, nat_tests, passes.0);
    })

-- a worker with one more line of touches
worker_more : (space : List Target) (line pages : List ℕ) → SaysPages space line pages → (group : List (List ℕ)) (trace : List ℕ) → SayWorker space group trace → SayWorker space (group ++ line ∷ []) (trace ++ pages)
worker_more space line pages here group trace says = record {
  touches = says.touches ++ line ∷ [];
  pages = says.pages ++ pages ∷ [];
  spelled = ap (λ ls. ls ++ line ∷ []) says.spelled;
  each = each_more (SaysPages space) says.touches says.pages line pages says.each here;
  joined = concat-append says.pages (pages ∷ []) ∙ (λ i. says.joined i ++ append-nil pages i);
}

-- lines of the workers, where no controller follows
behind_workers : (workers controllers grown more : List (List ℕ)) → controllers ≡ [] → grown ≡ workers ++ more → (workers ++ controllers) ++ more ≡ grown ++ controllers
behind_workers workers controllers grown more none is =
    ap (λ ls. (workers ++ ls) ++ more) none
    ∙ ap (λ ls. ls ++ more) (append-nil workers)
    ∙ sym is
    ∙ sym (append-nil grown)
    ∙ ap (λ ls. grown ++ ls) (sym none)

-- without a controller there are no lines of controllers
no_lines : (v : LiveValue) (groups : List (List (List ℕ))) → EachSays (SayController v.setup.version) groups v.controllers → has_controller v ≡ false → all_lines groups ≡ []
no_lines v groups each none =
    let empty : length v.controllers ≡ 0 = ap (λ (cs : List (List CallValue)). length cs) (none_of v.controllers none) in
    ap all_lines (none_is groups (same_number (SayController v.setup.version) groups v.controllers each ∙ empty))

some_workers : (v : LiveValue) → (length v.workers == 0) ≡ false → 1 ≤ length v.workers
some_workers v some = grind (arith, nat_tests)

more_touches : (lines : List (List ℕ)) (v : LiveValue) (line : List ℕ) (w : LiveValue) → SayBlocks lines v → has_controller v ≡ false → touches_line v line ≡ Ok w → SayBlocks (lines ++ line ∷ []) w
more_touches lines v line w before none e = both_ways (length v.workers == 0) _ _ _ (λ _ no. absurd cc) past e
  where
    past : (length v.workers == 0) ≡ false → (touches_within v.setup.space line (count_all v.workers) >>= λ pages. Ok (record v { workers = to_last v.workers pages })) ≡ Ok w
        → SayBlocks (lines ++ line ∷ []) w
    past some = read_to (SayBlocks (lines ++ line ∷ [])) (touches_within v.setup.space line (count_all v.workers)) (λ pages. record v { workers = to_last v.workers pages }) w (λ pages read.
        let said = touches_within-Ok v.setup.space line (count_all v.workers) pages read in
        let at_least = some_workers v some in
        let groups : 1 ≤ length before.workers = omega (arith, at_least, same_number (SayWorker v.setup.space) before.workers v.workers before.say_workers) in
        record {
          setup = before.setup;
          workers = to_last before.workers (line ∷ []);
          controllers = before.controllers;
          spelled =
              more_lines v.setup.version lines before.setup v.passes (all_lines before.workers ++ all_lines before.controllers) (line ∷ []) before.spelled
              ∙ ap (live_lines v.setup.version before.setup v.passes) (behind_workers (all_lines before.workers) (all_lines before.controllers) (all_lines (to_last before.workers (line ∷ []))) (line ∷ [])
              (no_lines v before.controllers before.say_controllers none) (all_lines-last before.workers (line ∷ []) groups));
          says_setup = before.says_setup;
          say_workers = says_last (SayWorker v.setup.space) before.workers v.workers (line ∷ []) pages (worker_more v.setup.space line pages said.says) before.say_workers;
          say_controllers = before.say_controllers;
          limits = record {
            some_pass = before.limits.some_pass;
            passes = before.limits.passes;
            workers = omega (arith, before.limits.workers, length-to_last v.workers pages);
            controllers = before.limits.controllers;
            touches = omega (arith, said.few, count-to_last v.workers pages at_least);
            calls = before.limits.calls;
          };
        })

-- a line that begins a block
record BeginsBlock (word line : List ℕ) (count most : ℕ) : Type 0 where
  is : line ≡ word
  few : count < most

block_line-Ok : (word line : List ℕ) (count most : ℕ) (t : Unit {0}) → block_line word line count most ≡ Ok t → BeginsBlock word line count most
block_line-Ok word line count most t e =
    let word_is = bind-Ok (alone word line) _ t e in
    let passes = only_if-Ok (nat_lt count most) Limit (tt {0}) t word_is.2 in
    record { is = alone-Ok word line word_is.1; few = grind (arith, nat_tests, passes.0) }

more_workers : (lines : List (List ℕ)) (v : LiveValue) (line : List ℕ) (w : LiveValue) → SayBlocks lines v → has_controller v ≡ false → worker_line v line ≡ Ok w → SayBlocks (lines ++ line ∷ []) w
more_workers lines v line w before none =
    read_to (SayBlocks (lines ++ line ∷ [])) (block_line (codes "worker") line (length v.workers) MAX_WORKERS) (λ _. record v { workers = v.workers ++ [] ∷ [] }) w (λ t read.
    let begins = block_line-Ok (codes "worker") line (length v.workers) MAX_WORKERS t read in
    record {
      setup = before.setup;
      workers = before.workers ++ (line ∷ []) ∷ [];
      controllers = before.controllers;
      spelled =
          more_lines v.setup.version lines before.setup v.passes (all_lines before.workers ++ all_lines before.controllers) (line ∷ []) before.spelled
          ∙ ap (live_lines v.setup.version before.setup v.passes) (behind_workers (all_lines before.workers) (all_lines before.controllers) (all_lines (before.workers ++ (line ∷ []) ∷ [])) (line ∷ [])
          (no_lines v before.controllers before.say_controllers none) (all_lines-more before.workers (line ∷ [])));
      says_setup = before.says_setup;
      say_workers = each_more (SayWorker v.setup.space) before.workers v.workers (line ∷ []) [] before.say_workers
          (record { touches = []; pages = []; spelled = ap (λ l. l ∷ []) begins.is; each = tt; joined = refl });
      say_controllers = before.say_controllers;
      limits = record {
        some_pass = before.limits.some_pass;
        passes = before.limits.passes;
        workers = omega (arith, begins.few, length-append v.workers ([] ∷ []));
        controllers = before.limits.controllers;
        touches = omega (arith, before.limits.touches, count_all-more v.workers []);
        calls = before.limits.calls;
      };
    })

-- ---- controllers

more_controllers : (lines : List (List ℕ)) (v : LiveValue) (line : List ℕ) (w : LiveValue) → SayBlocks lines v → controller_line v line ≡ Ok w → SayBlocks (lines ++ line ∷ []) w
more_controllers lines v line w before =
    read_to (SayBlocks (lines ++ line ∷ [])) (block_line (codes "controller") line (length v.controllers) MAX_CONTROLLERS) (λ _. record v { controllers = v.controllers ++ [] ∷ [] }) w (λ t read.
    let begins = block_line-Ok (codes "controller") line (length v.controllers) MAX_CONTROLLERS t read in
    record {
      setup = before.setup;
      workers = before.workers;
      controllers = before.controllers ++ (line ∷ []) ∷ [];
      spelled =
          more_lines v.setup.version lines before.setup v.passes (all_lines before.workers ++ all_lines before.controllers) (line ∷ []) before.spelled
          ∙ ap (live_lines v.setup.version before.setup v.passes) (append_assoc (all_lines before.workers) (all_lines before.controllers) (line ∷ [])
          ∙ ap (λ ls. all_lines before.workers ++ ls) (sym (all_lines-more before.controllers (line ∷ []))));
      says_setup = before.says_setup;
      say_workers = before.say_workers;
      say_controllers = each_more (SayController v.setup.version) before.controllers v.controllers (line ∷ []) [] before.say_controllers
          (record { groups = []; spelled = ap (λ l. l ∷ []) begins.is; each = tt });
      limits = record {
        some_pass = before.limits.some_pass;
        passes = before.limits.passes;
        workers = before.limits.workers;
        controllers = omega (arith, begins.few, length-append v.controllers ([] ∷ []));
        touches = before.limits.touches;
        calls = omega (arith, before.limits.calls, count_all-more v.controllers []);
      };
    })

-- a controller with the lines of one more call
controller_more : (version : Version) (group : List (List ℕ)) (call : CallValue) → SayCall version group call → (lines : List (List ℕ)) (calls : List CallValue) → SayController version lines calls → SayController version (lines ++ group) (calls ++ call ∷ [])
controller_more version group call here lines calls says = record {
  groups = says.groups ++ group ∷ [];
  spelled = ap (λ ls. ls ++ group) says.spelled ∙ ap (λ ls. codes "controller" ∷ ls) (sym (all_lines-more says.groups group));
  each = each_more (SayCall version) says.groups calls group call says.each here;
}

-- a call of the last controller, whose lines were read
pub more_call : (lines front : List (List ℕ)) (v : LiveValue) (group : List (List ℕ)) (call : CallValue) (next : Place OfLive) → SayBlocks front v → has_controller v ≡ true → lines ≡ front ++ group → SayCall v.setup.version group call
    → live_within (with_call v call) ≡ Ok next → Says OfLive lines next
more_call lines front v group call next before has_one is says = read_to (Says OfLive lines) (with_call v call) (λ w. InBody w) next (λ w. called w)
  where
    called : (w : LiveValue) → with_call v call ≡ Ok w → SayBlocks lines w
    called w = read_to (SayBlocks lines) (call_within (count_all v.controllers)) (λ _. record v { controllers = to_last v.controllers (call ∷ []) }) w (λ t read.
        let passes = only_if-Ok (nat_le (count_all v.controllers + 1) MAX_CALLS) TooMuch (tt {0}) t read in
        let some = some_of v.controllers has_one in
        let groups : 1 ≤ length before.controllers = omega (arith, some, same_number (SayController v.setup.version) before.controllers v.controllers before.say_controllers) in
        let few : count_all v.controllers + 1 ≤ MAX_CALLS = grind (arith, nat_tests, passes.0) in
        record {
          setup = before.setup;
          workers = before.workers;
          controllers = to_last before.controllers group;
          spelled =
              is
              ∙ more_lines v.setup.version front before.setup v.passes (all_lines before.workers ++ all_lines before.controllers) group before.spelled
              ∙ ap (live_lines v.setup.version before.setup v.passes) (append_assoc (all_lines before.workers) (all_lines before.controllers) group
              ∙ ap (λ ls. all_lines before.workers ++ ls) (sym (all_lines-last before.controllers group groups)));
          says_setup = before.says_setup;
          say_workers = before.say_workers;
          say_controllers = says_last (SayController v.setup.version) before.controllers v.controllers group (call ∷ []) (controller_more v.setup.version group call says) before.say_controllers;
          limits = record {
            some_pass = before.limits.some_pass;
            passes = before.limits.passes;
            workers = before.limits.workers;
            controllers = omega (arith, before.limits.controllers, length-to_last v.controllers (call ∷ []));
            touches = before.limits.touches;
            calls = omega (arith, few, count-to_last v.controllers (call ∷ []) some);
          };
        })

-- ---- a line of the blocks

pub in_blocks : (lines : List (List ℕ)) (v : LiveValue) (line : List ℕ) (next : Place OfLive) → SayBlocks lines v → after_live v line ≡ Ok next → Says OfLive (lines ++ line ∷ []) next
in_blocks lines v line next before e =
    either_way (begins_with (codes "end") line) _ _ _ at_end
    (either_way (begins_with (codes "controller") line) _ _ _ (read_to (Says OfLive (lines ++ line ∷ [])) (controller_line v line) (λ w. InBody w) next (λ w. more_controllers lines v line w before))
    (both_ways (has_controller v) _ _ _ (λ has_one. either_way (begins_with (codes "commit") line) _ _ _ (at_commit has_one) (at_show has_one))
    (λ none. either_way (begins_with (codes "worker") line) _ _ _
    (read_to (Says OfLive (lines ++ line ∷ [])) (worker_line v line) (λ w. InBody w) next (λ w. more_workers lines v line w before none))
    (read_to (Says OfLive (lines ++ line ∷ [])) (touches_line v line) (λ w. InBody w) next (λ w. more_touches lines v line w before none))))) e
  where
    at_end : (alone (codes "end") line >>= λ _. Ok (AtEnd v)) ≡ Ok next → Says OfLive (lines ++ line ∷ []) next
    at_end = read_to (Says OfLive (lines ++ line ∷ [])) (alone (codes "end") line) (λ _. AtEnd v) next (λ t read. record {
      setup = before.setup;
      workers = before.workers;
      controllers = before.controllers;
      spelled =
          ap lines_text (ap (λ l. lines ++ l ∷ []) (alone-Ok (codes "end") line read)
          ∙ more_lines v.setup.version lines before.setup v.passes (all_lines before.workers ++ all_lines before.controllers) (codes "end" ∷ []) before.spelled
          ∙ ap (live_lines v.setup.version before.setup v.passes) (append_assoc (all_lines before.workers) (all_lines before.controllers) (codes "end" ∷ [])));
      says_setup = before.says_setup;
      say_workers = before.say_workers;
      say_controllers = before.say_controllers;
      limits = before.limits;
    })

    at_commit : has_controller v ≡ true → (alone (codes "commit") line >>= λ _. Ok (InCommit v no_commit)) ≡ Ok next → Says OfLive (lines ++ line ∷ []) next
    at_commit has_one = read_to (Says OfLive (lines ++ line ∷ [])) (alone (codes "commit") line) (λ _. InCommit v no_commit) next (λ t read. record {
      front = lines;
      between = [];
      parts = [];
      spelled = λ i. lines ++ alone-Ok (codes "commit") line read i ∷ [];
      body = before;
      begins = has_one;
      each = tt;
      in_order = refl;
      made = refl;
    })

    at_show : has_controller v ≡ true → live_within (show_line v line) ≡ Ok next → Says OfLive (lines ++ line ∷ []) next
    at_show has_one read =
        let shown = bind-Ok (show_line v line) (λ w. Ok (InBody w)) next read in
        let word = bind-Ok (alone (codes "show") line) (λ _. with_call v ShowCall) shown.0 shown.1 in
        let called : live_within (with_call v ShowCall) ≡ Ok next = ap live_within word.2 ∙ shown.2 in
        more_call (lines ++ line ∷ []) lines v (line ∷ []) ShowCall next before has_one refl (ap (λ l. l ∷ []) (alone-Ok (codes "show") line word.1)) called
