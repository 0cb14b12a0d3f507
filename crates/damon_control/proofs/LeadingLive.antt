-- Lines that say a live script lead from its header to its end.
use Rattle.std.proofs.Common.{◌≡◌, inl, inr, ◌∷◌, [], ◌+◌, ◌≤◌, ◌<◌, ◌||◌, ℕ, Bool, true, false, nat_le, nat_lt, List, ◌++◌, length, codes, Ok, refl, sym, ap, subst, ◌∙◌, append_assoc, arith, decimal}
use Rattle.std.proofs.lemmas.Bool.Decides.{nat_tests}
use Rattle.std.proofs.lemmas.List.{append-nil, length-append}
use Rattle.std.proofs.lemmas.List.Sums.{sum_by-append, sum_by-cons}
use Rattle.std.specs.List.{concat}
use Rattle.damon_types.specs.declared.range.Range.{Range}
use Rattle.damon_types.specs.declared.space.Target.{Target}
use Rattle.live_commit.specs.Commit.{CommitValue}
use Rattle.live_commit.specs.Setup.{SetupValue}
use Rattle.target_ranges.specs.Made.{ranges_of}
use Rattle.script_lines.specs.declared.kind.ScriptKind.TheVariants.{TooMuch}
use Rattle.damon_control.specs.declared.grammar.Grammar.TheVariants.{OfLive}
use Rattle.damon_control.specs.declared.live.TheConstants.{MAX_CALLS, MAX_CONTROLLERS, MAX_WORKERS}
use Rattle.script_lines.specs.declared.blocks.TheConstants.{MAX_PASSES, MAX_TOUCHES}
use Rattle.script_lines.specs.Body.{command_line, no_commit, step_line, word_line}
use Rattle.script_lines.specs.Command.{Arm, CommandValue, Finish, Show, Step, Sweep, Touch}
use Rattle.script_lines.specs.Head.{limited}
use Rattle.damon_control.specs.Live.{CallValue, CommitCall, LiveValue, ShowCall, call_within, count_all, live_begun, to_last, with_call}
use Rattle.script_lines.specs.Blocks.{touched, touches_within, touching}
use Rattle.damon_control.specs.LiveText.{IsLiveText, SayCall, SayController, SayWorker, SaysPages}
use Rattle.damon_control.specs.LiveView.{with_controllers, with_workers}
use Rattle.script_lines.specs.Refusal.{◌>>=◌, only_if}
use Rattle.damon_control.specs.Script.{AtEnd, AtHeader, InBody, InCommit, header_of, live_of, live_within, place_after}
use Rattle.damon_control.specs.Text.{AreCommit, EachSays, all_lines}
use Rattle.script_lines.specs.Words.{alone, arguments, begins_with, number_32, one_word}
use Rattle.damon_control.proofs.Leading.{Opens, either_true, else_way, led_read, parts_lead, setup_leads, then_way}
use Rattle.damon_control.proofs.Leads.{leads, leads-line}
use Rattle.script_lines.proofs.Lemmas.{begins_other, lines_read_back}
use Rattle.damon_control.proofs.LineWords.{passes_begins}
use Rattle.damon_control.proofs.LiveLemmas.{count_all-more, some_more, to_last-more, touches_after}
use Rattle.damon_control.proofs.OneSpelling.{each_in_any}
use Rattle.damon_control.proofs.SayPlaces.{both_ways}
use Rattle.damon_control.proofs.Steps.{bind-Ok, either_way}
use Rattle.damon_control.proofs.CommitFields.{commit_parts}

-- ---- touches

-- a touch or a sweep
abbrev pub touches : CommandValue → Bool
touches (Touch page) = true
touches (Sweep from to) = true
touches _ = false

-- a line that touches pages is read as a command that touches them
pub record IsTouching (space : List Target) (line : List ℕ) (pages : List ℕ) : Type 0 where
  pub begins : (begins_with (codes "touch") line || begins_with (codes "sweep") line) ≡ true
  pub command : CommandValue
  pub read : touching space line ≡ Ok command
  pub touched_is : touched command ≡ pages

word_touches : (word : List ℕ) (said : CommandValue) (line : List ℕ) (c : CommandValue) → touches said ≡ false → word_line word said line ≡ Ok c → touches c ≡ true → ⊥
word_touches word said line c differs e is_touching =
    let only = bind-Ok (alone word line) _ c e in
    let is : said ≡ c = cc in
    let same : touches said ≡ true = ap touches is ∙ is_touching in
    absurd cc

-- a line that is read as a touch or a sweep begins with its word
pub touching_read : (space : List Target) (line : List ℕ) (c : CommandValue) → touches c ≡ true → command_line space line ≡ Ok c → IsTouching space line (touched c)
touching_read space line c is e =
    both_ways (begins_with (codes "touch") line) _ _ _
    (λ begins read. record {
      begins = either_true (begins_with (codes "touch") line) (begins_with (codes "sweep") line) begins;
      command = c;
      read = then_way (begins_with (codes "touch") line) _ _ begins ∙ read;
      touched_is = refl;
    })
    (λ other. both_ways (begins_with (codes "sweep") line) _ _ _
    (λ begins read. record {
      begins = rw (other, begins) refl;
      command = c;
      read = else_way (begins_with (codes "touch") line) _ _ other ∙ read;
      touched_is = refl;
    })
    (λ _. either_way (begins_with (codes "step") line) _ _ _ at_step
    (either_way (begins_with (codes "arm") line) _ _ _ (λ read. absurd (word_touches (codes "arm") Arm line c refl read is))
    (either_way (begins_with (codes "finish") line) _ _ _ (λ read. absurd (word_touches (codes "finish") Finish line c refl read is))
    (λ read. absurd (word_touches (codes "show") Show line c refl read is)))))) e
  where
    at_step : step_line line ≡ Ok c → IsTouching space line (touched c)
    at_step read =
        let times = bind-Ok (arguments (codes "step") line >>= one_word >>= number_32 >>= limited 1 1000000) _ c read in
        let step : Step times.0 ≡ c = cc in
        let same : false ≡ true = ap touches step ∙ is in
        absurd cc

pages_read : (space : List Target) (line pages : List ℕ) → SaysPages space line pages → IsTouching space line pages
pages_read space line pages (inl (page, is, touch)) =
    subst (IsTouching space line) (sym is) (touching_read space line (Touch page) refl (lines_read_back.command space line (Touch page) touch))
pages_read space line pages (inr (first, end, is, sweep)) =
    subst (IsTouching space line) (sym is) (touching_read space line (Sweep first end) refl (lines_read_back.command space line (Sweep first end) sweep))

within_read : (space : List Target) (line : List ℕ) (before : ℕ) (pages : List ℕ) (is : IsTouching space line pages) → before + length pages ≤ MAX_TOUCHES → touches_within space line before ≡ Ok pages
within_read space line before pages is few =
    let test : nat_le (before + length pages) MAX_TOUCHES ≡ true = grind (arith, nat_tests) in
    ap (λ r. r >>= λ command. only_if (nat_le (before + length (touched command)) MAX_TOUCHES) TooMuch (touched command)) is.read
    ∙ ap (λ ps. only_if (nat_le (before + length ps) MAX_TOUCHES) TooMuch ps) is.touched_is
    ∙ ap (λ t. only_if t TooMuch pages) test

-- a line of touches of the last worker
pages_lead : (v : LiveValue) (ws : List (List ℕ)) (t line pages : List ℕ) → SaysPages v.setup.space line pages → count_all ws + length t + length pages ≤ MAX_TOUCHES
    → place_after OfLive (InBody (with_workers v (ws ++ t ∷ []))) line ≡ Ok (InBody (with_workers v (ws ++ (t ++ pages) ∷ [])))
pages_lead v ws t line pages says few =
    let is = pages_read v.setup.space line pages says in
    touches_after v ws t line is.begins
    ∙ ap (λ r. live_within (r >>= λ ps. Ok (with_workers v (ws ++ (t ++ ps) ∷ [])))) (within_read v.setup.space line (count_all ws + length t) pages is few)

touches_lead : (v : LiveValue) (ws : List (List ℕ)) (t : List ℕ) (front pages lines : List (List ℕ)) → EachSays (SaysPages v.setup.space) front pages
    → count_all ws + length t + length (concat pages) ≤ MAX_TOUCHES
    → leads OfLive (InBody (with_workers v (ws ++ t ∷ []))) (front ++ lines) ≡ leads OfLive (InBody (with_workers v (ws ++ (t ++ concat pages) ∷ []))) lines
touches_lead v ws t [] [] lines each few = ap (λ (ps : List ℕ). leads OfLive (InBody (with_workers v (ws ++ ps ∷ []))) lines) (sym (append-nil t))
touches_lead v ws t (line ∷ front) (here ∷ pages) lines each few =
    leads-line OfLive (InBody (with_workers v (ws ++ t ∷ []))) (InBody (with_workers v (ws ++ (t ++ here) ∷ []))) line (front ++ lines)
    (pages_lead v ws t line here each.0 (omega (arith, few, length-append here (concat pages))))
    ∙ touches_lead v ws (t ++ here) front pages lines each.1 (omega (arith, few, length-append here (concat pages), length-append t here))
    ∙ ap (λ (ps : List ℕ). leads OfLive (InBody (with_workers v (ws ++ ps ∷ []))) lines) (append_assoc t here (concat pages))
touches_lead v ws t [] (here ∷ pages) lines each few = absurd each
touches_lead v ws t (line ∷ front) [] lines each few = absurd each

-- ---- workers

few_more : {A : Type 0} (lists : List (List A)) (most : ℕ) → length lists < most → nat_lt (length lists) most ≡ true
few_more lists most few = grind (arith, nat_tests)

worker_begins : (v : LiveValue) (ws : List (List ℕ)) → length ws < MAX_WORKERS → place_after OfLive (InBody (with_workers v ws)) (codes "worker") ≡ Ok (InBody (with_workers v (ws ++ [] ∷ [])))
worker_begins v ws few = rw (few_more ws MAX_WORKERS few) refl

-- the lines of a worker
worker_leads : (v : LiveValue) (ws : List (List ℕ)) (t : List ℕ) (group lines : List (List ℕ)) → SayWorker v.setup.space group t → length ws < MAX_WORKERS → count_all ws + length t ≤ MAX_TOUCHES
    → leads OfLive (InBody (with_workers v ws)) (group ++ lines) ≡ leads OfLive (InBody (with_workers v (ws ++ t ∷ []))) lines
worker_leads v ws t group lines says few touches_few =
    let sum : count_all ws + length (concat says.pages) ≤ MAX_TOUCHES = subst (λ (ps : List ℕ). count_all ws + length ps ≤ MAX_TOUCHES) (sym says.joined) touches_few in
    ap (λ ls. leads OfLive (InBody (with_workers v ws)) (ls ++ lines)) says.spelled
    ∙ leads-line OfLive (InBody (with_workers v ws)) (InBody (with_workers v (ws ++ [] ∷ []))) (codes "worker") (says.touches ++ lines) (worker_begins v ws few)
    ∙ touches_lead v ws [] says.touches says.pages lines says.each (omega (arith, sum))
    ∙ ap (λ (ps : List ℕ). leads OfLive (InBody (with_workers v (ws ++ ps ∷ []))) lines) says.joined

count-cons : {A : Type 0} (lists more : List (List A)) (list : List A) → count_all (lists ++ list ∷ more) ≡ count_all lists + length list + count_all more
count-cons lists more list = omega (arith, sum_by-append length lists (list ∷ more), sum_by-cons length list more)

workers_lead : (v : LiveValue) (ws : List (List ℕ)) (groups : List (List (List ℕ))) (more : List (List ℕ)) (lines : List (List ℕ)) → EachSays (SayWorker v.setup.space) groups more
    → length (ws ++ more) ≤ MAX_WORKERS → count_all (ws ++ more) ≤ MAX_TOUCHES
    → leads OfLive (InBody (with_workers v ws)) (all_lines groups ++ lines) ≡ leads OfLive (InBody (with_workers v (ws ++ more))) lines
workers_lead v ws [] [] lines each few sum = ap (λ (us : List (List ℕ)). leads OfLive (InBody (with_workers v us)) lines) (sym (append-nil ws))
workers_lead v ws (group ∷ groups) (t ∷ more) lines each few sum =
    let all = append_assoc ws (t ∷ []) more in
    ap (leads OfLive (InBody (with_workers v ws))) (append_assoc group (all_lines groups) lines)
    ∙ worker_leads v ws t group (all_lines groups ++ lines) each.0 (omega (arith, few, length-append ws (t ∷ more))) (omega (arith, sum, count-cons ws more t))
    ∙ workers_lead v (ws ++ t ∷ []) groups more lines each.1 (subst (λ (us : List (List ℕ)). length us ≤ MAX_WORKERS) (sym all) few) (subst (λ (us : List (List ℕ)). count_all us ≤ MAX_TOUCHES) (sym all) sum)
    ∙ ap (λ (us : List (List ℕ)). leads OfLive (InBody (with_workers v us)) lines) all
workers_lead v ws [] (t ∷ more) lines each few sum = absurd each
workers_lead v ws (group ∷ groups) [] lines each few sum = absurd each

-- ---- calls

-- one more call of the last controller
call_taken : (v : LiveValue) (cs : List (List CallValue)) (t : List CallValue) (call : CallValue) → count_all cs + length t < MAX_CALLS
    → live_within (with_call (with_controllers v (cs ++ t ∷ [])) call) ≡ Ok (InBody (with_controllers v (cs ++ (t ++ call ∷ []) ∷ [])))
call_taken v cs t call few =
    let test : nat_le (count_all cs + length t + 1) MAX_CALLS ≡ true = grind (arith, nat_tests) in
    ap (λ n. live_within (call_within n >>= λ x. Ok (with_controllers v (to_last (cs ++ t ∷ []) (call ∷ []))))) (count_all-more cs t)
    ∙ ap (λ (ls : List (List CallValue)). live_within (call_within (count_all cs + length t) >>= λ x. Ok (with_controllers v ls))) (to_last-more cs t (call ∷ []))
    ∙ ap (λ b. live_within (only_if b TooMuch (tt {0}) >>= λ x. Ok (with_controllers v (cs ++ (t ++ call ∷ []) ∷ [])))) test

show_leads : (v : LiveValue) (cs : List (List CallValue)) (t : List CallValue) → count_all cs + length t < MAX_CALLS
    → place_after OfLive (InBody (with_controllers v (cs ++ t ∷ []))) (codes "show") ≡ Ok (InBody (with_controllers v (cs ++ (t ++ ShowCall ∷ []) ∷ [])))
show_leads v cs t few = rw (some_more cs t) (call_taken v cs t ShowCall few)

commit_begins : (v : LiveValue) (cs : List (List CallValue)) (t : List CallValue)
    → place_after OfLive (InBody (with_controllers v (cs ++ t ∷ []))) (codes "commit") ≡ Ok (InCommit (with_controllers v (cs ++ t ∷ [])) no_commit)
commit_begins v cs t = rw (some_more cs t) refl

-- the lines of a commit
commit_leads : (v : LiveValue) (cs : List (List CallValue)) (t : List CallValue) (commit : CommitValue) (group lines : List (List ℕ)) → AreCommit v.setup.version group commit → count_all cs + length t < MAX_CALLS
    → leads OfLive (InBody (with_controllers v (cs ++ t ∷ []))) (group ++ lines) ≡ leads OfLive (InBody (with_controllers v (cs ++ (t ++ CommitCall commit ∷ []) ∷ []))) lines
commit_leads v cs t commit group lines says few =
    let are = commit_parts v.setup.version group commit says in
    let here = with_controllers v (cs ++ t ∷ []) in
    ap (λ ls. leads OfLive (InBody here) (ls ++ lines)) are.spelled
    ∙ leads-line OfLive (InBody here) (InCommit here no_commit) (codes "commit") ((are.between ++ codes "apply" ∷ []) ++ lines) (commit_begins v cs t)
    ∙ ap (leads OfLive (InCommit here no_commit)) (append_assoc are.between (codes "apply" ∷ []) lines)
    ∙ parts_lead OfLive here no_commit are.between are.parts (codes "apply" ∷ lines) are.each are.in_order
    ∙ ap (λ c. leads OfLive (InCommit here c) (codes "apply" ∷ lines)) are.made
    ∙ leads-line OfLive (InCommit here commit) (InBody (with_controllers v (cs ++ (t ++ CommitCall commit ∷ []) ∷ []))) (codes "apply") lines (call_taken v cs t (CommitCall commit) few)

-- the lines of a call
call_leads : (v : LiveValue) (cs : List (List CallValue)) (t : List CallValue) (call : CallValue) (group lines : List (List ℕ)) → SayCall v.setup.version group call → count_all cs + length t < MAX_CALLS
    → leads OfLive (InBody (with_controllers v (cs ++ t ∷ []))) (group ++ lines) ≡ leads OfLive (InBody (with_controllers v (cs ++ (t ++ call ∷ []) ∷ []))) lines
call_leads v cs t ShowCall group lines says few =
    ap (λ ls. leads OfLive (InBody (with_controllers v (cs ++ t ∷ []))) (ls ++ lines)) says
    ∙ leads-line OfLive (InBody (with_controllers v (cs ++ t ∷ []))) (InBody (with_controllers v (cs ++ (t ++ ShowCall ∷ []) ∷ []))) (codes "show") lines (show_leads v cs t few)
call_leads v cs t (CommitCall commit) group lines says few = commit_leads v cs t commit group lines says few

calls_lead : (v : LiveValue) (cs : List (List CallValue)) (t : List CallValue) (groups : List (List (List ℕ))) (calls : List CallValue) (lines : List (List ℕ)) → EachSays (SayCall v.setup.version) groups calls
    → count_all cs + length t + length calls ≤ MAX_CALLS
    → leads OfLive (InBody (with_controllers v (cs ++ t ∷ []))) (all_lines groups ++ lines) ≡ leads OfLive (InBody (with_controllers v (cs ++ (t ++ calls) ∷ []))) lines
calls_lead v cs t [] [] lines each few = ap (λ (ks : List CallValue). leads OfLive (InBody (with_controllers v (cs ++ ks ∷ []))) lines) (sym (append-nil t))
calls_lead v cs t (group ∷ groups) (call ∷ calls) lines each few =
    ap (leads OfLive (InBody (with_controllers v (cs ++ t ∷ [])))) (append_assoc group (all_lines groups) lines)
    ∙ call_leads v cs t call group (all_lines groups ++ lines) each.0 (omega (arith, few))
    ∙ calls_lead v cs (t ++ call ∷ []) groups calls lines each.1 (omega (arith, few, length-append t (call ∷ [])))
    ∙ ap (λ (ks : List CallValue). leads OfLive (InBody (with_controllers v (cs ++ ks ∷ []))) lines) (append_assoc t (call ∷ []) calls)
calls_lead v cs t [] (call ∷ calls) lines each few = absurd each
calls_lead v cs t (group ∷ groups) [] lines each few = absurd each

-- ---- controllers

controller_begins : (v : LiveValue) (cs : List (List CallValue)) → length cs < MAX_CONTROLLERS → place_after OfLive (InBody (with_controllers v cs)) (codes "controller") ≡ Ok (InBody (with_controllers v (cs ++ [] ∷ [])))
controller_begins v cs few = rw (few_more cs MAX_CONTROLLERS few) refl

-- the lines of a controller
controller_leads : (v : LiveValue) (cs : List (List CallValue)) (t : List CallValue) (group lines : List (List ℕ)) → SayController v.setup.version group t → length cs < MAX_CONTROLLERS → count_all cs + length t ≤ MAX_CALLS
    → leads OfLive (InBody (with_controllers v cs)) (group ++ lines) ≡ leads OfLive (InBody (with_controllers v (cs ++ t ∷ []))) lines
controller_leads v cs t group lines says few calls_few =
    ap (λ ls. leads OfLive (InBody (with_controllers v cs)) (ls ++ lines)) says.spelled
    ∙ leads-line OfLive (InBody (with_controllers v cs)) (InBody (with_controllers v (cs ++ [] ∷ []))) (codes "controller") (all_lines says.groups ++ lines) (controller_begins v cs few)
    ∙ calls_lead v cs [] says.groups t lines says.each (omega (arith, calls_few))

controllers_lead : (v : LiveValue) (cs : List (List CallValue)) (groups : List (List (List ℕ))) (more : List (List CallValue)) (lines : List (List ℕ)) → EachSays (SayController v.setup.version) groups more
    → length (cs ++ more) ≤ MAX_CONTROLLERS → count_all (cs ++ more) ≤ MAX_CALLS
    → leads OfLive (InBody (with_controllers v cs)) (all_lines groups ++ lines) ≡ leads OfLive (InBody (with_controllers v (cs ++ more))) lines
controllers_lead v cs [] [] lines each few sum = ap (λ (us : List (List CallValue)). leads OfLive (InBody (with_controllers v us)) lines) (sym (append-nil cs))
controllers_lead v cs (group ∷ groups) (t ∷ more) lines each few sum =
    let all = append_assoc cs (t ∷ []) more in
    ap (leads OfLive (InBody (with_controllers v cs))) (append_assoc group (all_lines groups) lines)
    ∙ controller_leads v cs t group (all_lines groups ++ lines) each.0 (omega (arith, few, length-append cs (t ∷ more))) (omega (arith, sum, count-cons cs more t))
    ∙ controllers_lead v (cs ++ t ∷ []) groups more lines each.1 (subst (λ (us : List (List CallValue)). length us ≤ MAX_CONTROLLERS) (sym all) few) (subst (λ (us : List (List CallValue)). count_all us ≤ MAX_CALLS) (sym all) sum)
    ∙ ap (λ (us : List (List CallValue)). leads OfLive (InBody (with_controllers v us)) lines) all
controllers_lead v cs [] (t ∷ more) lines each few sum = absurd each
controllers_lead v cs (group ∷ groups) [] lines each few sum = absurd each

-- ---- a whole text

-- `passes N` opens the blocks of a live script
pub passes_opens : (seed : ℕ) (setup : SetupValue) (n : ℕ) → 1 ≤ n → n ≤ MAX_PASSES → Opens OfLive seed setup (codes "passes " ++ decimal n) (InBody (live_begun seed setup n))
passes_opens seed setup n some few =
    let read = lines_read_back.passes n some few in
    let begins = passes_begins (codes "passes " ++ decimal n) n read in
    record {
      no_range = begins_other (codes "passes") (codes "range") (codes "passes " ++ decimal n) begins.begins refl;
      no_scheme = begins_other (codes "passes") (codes "scheme") (codes "passes " ++ decimal n) begins.begins refl;
      opens = λ specs watched.
          ap (λ r. r >>= λ passes. Ok (InBody (live_begun seed (record setup { ranges = ranges_of setup.space specs }) passes))) read
          ∙ ap (λ (gs : List Range). Ok (InBody (live_begun seed (record setup { ranges = gs }) n))) watched;
    }

-- the lines of a text that says a live script
abbrev live_lines : (text : List ℕ) (v : LiveValue) → IsLiveText text v → List (List ℕ)
live_lines text v says =
    header_of OfLive v.setup.version ∷ (says.setup ++ (codes "passes " ++ decimal v.passes) ∷ (all_lines says.workers ++ (all_lines says.controllers ++ codes "end" ∷ [])))

-- lines that say a live script lead to its end
lines_lead : (text : List ℕ) (v : LiveValue) (says : IsLiveText text v) → leads OfLive AtHeader (live_lines text v says) ≡ Ok (AtEnd v)
lines_lead text v says =
    let ends = codes "end" ∷ [] in
    setup_leads OfLive v.seed v.setup says.setup (codes "passes " ++ decimal v.passes) (InBody (live_begun v.seed v.setup v.passes)) (all_lines says.workers ++ (all_lines says.controllers ++ ends)) says.says_setup
    (each_in_any OfLive (λ line c. tt) says.says_setup.schemes v.setup.slots says.says_setup.give)
    (passes_opens v.seed v.setup v.passes says.limits.some_pass says.limits.passes)
    ∙ workers_lead v [] says.workers v.workers (all_lines says.controllers ++ ends) says.say_workers says.limits.workers says.limits.touches
    ∙ controllers_lead v [] says.controllers v.controllers ends says.say_controllers says.limits.controllers says.limits.calls

-- a text that says a live script is read as it
pub IsLiveText-live_of : (text : List ℕ) (v : LiveValue) → IsLiveText text v → live_of text ≡ Ok v
IsLiveText-live_of text v says = ap live_of says.spelled ∙ led_read OfLive (live_lines text v says) v (lines_lead text v says)
