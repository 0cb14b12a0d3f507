-- Lines that say a script lead from its header to its end.
use Rattle.std.proofs.Common.{◌≡◌, inl, inr, ◌∷◌, [], ◌+◌, ◌≤◌, ℕ, nat_le, List, ◌++◌, codes, Ok, refl, sym, ap, subst, ◌∙◌, append_assoc, arith}
use Rattle.std.proofs.lemmas.Bool.Decides.{nat_tests}
use Rattle.std.proofs.lemmas.List.{append-nil}
use Rattle.std.proofs.lemmas.List.Sums.{sum_by-cons}
use Rattle.damon_types.specs.declared.range.Range.{Range}
use Rattle.live_commit.specs.Commit.{CommitValue}
use Rattle.live_commit.specs.Setup.{SetupValue}
use Rattle.damon_control.specs.declared.grammar.Grammar.TheVariants.{OfScript}
use Rattle.damon_control.specs.declared.script.TheConstants.{MAX_WORK}
use Rattle.script_lines.specs.Body.{no_commit}
use Rattle.script_lines.specs.Command.{CommandValue, Commit, weight, work_of}
use Rattle.script_lines.specs.Laws.{IsCommand}
use Rattle.script_lines.specs.Refusal.{◌>>=◌}
use Rattle.damon_control.specs.Script.{AtEnd, AtHeader, Body, InBody, InCommit, ScriptValue, begun, header_of, place_after, script_of, with_command}
use Rattle.damon_control.specs.Text.{AreCommit, EachSays, IsText, SayCommand, all_lines, TextsAreRead}
use Rattle.script_lines.specs.Words.{begins_with}
use Rattle.script_lines.proofs.Lemmas.{lines_read_back}
use Rattle.damon_control.proofs.Leading.{Opens, else_way, led_read, parts_lead, setup_leads, then_way}
use Rattle.damon_control.proofs.Leads.{leads, leads-line, lines_joined}
use Rattle.damon_control.proofs.LineWords.{command_begins}
use Rattle.damon_control.proofs.OneSpelling.{each_in_any}
use Rattle.damon_control.proofs.Says.{script_of-IsText}
use Rattle.damon_control.proofs.CommitFields.{commit_parts}

-- a body with more commands, and their work
abbrev with_commands : Body → List CommandValue → Body
with_commands b commands =
    record { said = record b.said { commands = b.said.commands ++ commands }; work = b.work + work_of b.said.setup.cap commands }

-- a body with one command more
abbrev with_one : Body → CommandValue → Body
with_one b c = record { said = record b.said { commands = b.said.commands ++ c ∷ [] }; work = b.work + weight b.said.setup.cap c }

no_more : (b : Body) → b ≡ with_commands b []
no_more b =
    let all = sym (append-nil b.said.commands) in
    let sum : b.work ≡ b.work + work_of b.said.setup.cap [] = omega arith in
    λ i. record { said = record b.said { commands = all i }; work = sum i }

one_and_more : (b : Body) (c : CommandValue) (commands : List CommandValue) → with_commands (with_one b c) commands ≡ with_commands b (c ∷ commands)
one_and_more b c commands =
    let all = append_assoc b.said.commands (c ∷ []) commands in
    let sum : b.work + weight b.said.setup.cap c + work_of b.said.setup.cap commands ≡ b.work + work_of b.said.setup.cap (c ∷ commands) =
    omega (arith, sum_by-cons (weight b.said.setup.cap) c commands)
    in
    λ i. record { said = record b.said { commands = all i }; work = sum i }

-- a command that is not too much work is taken
command_taken : (b : Body) (c : CommandValue) → b.work + weight b.said.setup.cap c ≤ MAX_WORK → with_command b c ≡ Ok (InBody (with_one b c))
command_taken b c few = then_way (nat_le (b.work + weight b.said.setup.cap c) MAX_WORK) _ _ (grind (arith, nat_tests))

-- the line of a command
line_leads : (b : Body) (line : List ℕ) (c : CommandValue) → IsCommand b.said.setup.space line c → b.work + weight b.said.setup.cap c ≤ MAX_WORK
    → place_after OfScript (InBody b) line ≡ Ok (InBody (with_one b c))
line_leads b line c is few =
    let read = lines_read_back.command b.said.setup.space line c is in
    let begins = command_begins b.said.setup.space line c read in
    else_way (begins_with (codes "end") line) _ _ begins.not_first
    ∙ else_way (begins_with (codes "commit") line) _ _ begins.not_second
    ∙ ap (λ r. r >>= with_command b) read
    ∙ command_taken b c few

-- the lines of a commit
commit_leads : (b : Body) (commit : CommitValue) (group lines : List (List ℕ)) → AreCommit b.said.setup.version group commit → b.work + weight b.said.setup.cap (Commit commit) ≤ MAX_WORK
    → leads OfScript (InBody b) (group ++ lines) ≡ leads OfScript (InBody (with_one b (Commit commit))) lines
commit_leads b commit group lines says few =
    let are = commit_parts b.said.setup.version group commit says in
    ap (λ ls. leads OfScript (InBody b) (ls ++ lines)) are.spelled
    ∙ leads-line OfScript (InBody b) (InCommit b no_commit) (codes "commit") ((are.between ++ codes "apply" ∷ []) ++ lines) refl
    ∙ ap (leads OfScript (InCommit b no_commit)) (append_assoc are.between (codes "apply" ∷ []) lines)
    ∙ parts_lead OfScript b no_commit are.between are.parts (codes "apply" ∷ lines) are.each are.in_order
    ∙ ap (λ c. leads OfScript (InCommit b c) (codes "apply" ∷ lines)) are.made
    ∙ leads-line OfScript (InCommit b commit) (InBody (with_one b (Commit commit))) (codes "apply") lines (command_taken b (Commit commit) few)

-- the lines of one command
group_leads : (b : Body) (group : List (List ℕ)) (c : CommandValue) (lines : List (List ℕ)) → SayCommand b.said.setup group c → b.work + weight b.said.setup.cap c ≤ MAX_WORK
    → leads OfScript (InBody b) (group ++ lines) ≡ leads OfScript (InBody (with_one b c)) lines
group_leads b group c lines (inl (line, is, says)) few =
    ap (λ ls. leads OfScript (InBody b) (ls ++ lines)) is
    ∙ leads-line OfScript (InBody b) (InBody (with_one b c)) line lines (line_leads b line c says few)
group_leads b group c lines (inr (commit, is, are)) few =
    commit_leads b commit group lines are (subst (λ (d : CommandValue). b.work + weight b.said.setup.cap d ≤ MAX_WORK) is few)
    ∙ ap (λ d. leads OfScript (InBody (with_one b d)) lines) (sym is)

commands_lead : (b : Body) (groups : List (List (List ℕ))) (commands : List CommandValue) (lines : List (List ℕ)) → EachSays (SayCommand b.said.setup) groups commands
    → b.work + work_of b.said.setup.cap commands ≤ MAX_WORK → leads OfScript (InBody b) (all_lines groups ++ lines) ≡ leads OfScript (InBody (with_commands b commands)) lines
commands_lead b [] [] lines each few = ap (λ d. leads OfScript (InBody d) lines) (no_more b)
commands_lead b (group ∷ groups) (c ∷ commands) lines each few =
    let sum = sum_by-cons (weight b.said.setup.cap) c commands in
    ap (leads OfScript (InBody b)) (append_assoc group (all_lines groups) lines)
    ∙ group_leads b group c (all_lines groups ++ lines) each.0 (omega (arith, sum, few))
    ∙ commands_lead (with_one b c) groups commands lines each.1 (omega (arith, sum, few))
    ∙ ap (λ d. leads OfScript (InBody d) lines) (one_and_more b c commands)
commands_lead b [] (c ∷ commands) lines each few = absurd each
commands_lead b (group ∷ groups) [] lines each few = absurd each

-- ---- a whole text

-- `begin` opens the body of a script
pub begin_opens : (seed : ℕ) (setup : SetupValue) → Opens OfScript seed setup (codes "begin") (InBody (begun seed setup))
begin_opens seed setup = record {
  no_range = refl;
  no_scheme = refl;
  opens = λ specs watched. ap (λ (gs : List Range). Ok (InBody (begun seed (record setup { ranges = gs })))) watched;
}

-- the lines of a text that says a script
abbrev script_lines : (text : List ℕ) (s : ScriptValue) → IsText text s → List (List ℕ)
script_lines text s says = header_of OfScript s.setup.version ∷ (says.setup ++ codes "begin" ∷ (all_lines says.commands ++ codes "end" ∷ []))

-- lines that say a script lead to its end
lines_lead : (text : List ℕ) (s : ScriptValue) (says : IsText text s) → leads OfScript AtHeader (script_lines text s says) ≡ Ok (AtEnd s)
lines_lead text s says =
    setup_leads OfScript s.seed s.setup says.setup (codes "begin") (InBody (begun s.seed s.setup)) (all_lines says.commands ++ codes "end" ∷ []) says.says_setup
    (each_in_any OfScript (λ line c. tt) says.says_setup.schemes s.setup.slots says.says_setup.give)
    (begin_opens s.seed s.setup)
    ∙ commands_lead (begun s.seed s.setup) says.commands s.commands (codes "end" ∷ []) says.say_commands (omega (arith, says.work))

-- a text that says a script is read as it
IsText-script_of : (text : List ℕ) (s : ScriptValue) → IsText text s → script_of text ≡ Ok s
IsText-script_of text s says = ap script_of (says.spelled ∙ sym (lines_joined (script_lines text s says))) ∙ led_read OfScript (script_lines text s says) s (lines_lead text s says)

-- the texts that are read as a script are those that say it
pub texts_read : TextsAreRead
texts_read text s = (script_of-IsText text s, IsText-script_of text s)
