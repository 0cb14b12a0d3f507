-- What a line adds to what the lines of a script's body before it say.
use Rattle.std.proofs.Common.{◌≡◌, ◌∷◌, [], ◌+◌, ◌≤◌, inl, ℕ, nat_le, List, ◌++◌, codes, Ok, refl, sym, ap, subst, ◌∙◌, append_assoc, arith}
use Rattle.std.proofs.lemmas.Bool.Decides.{nat_tests}
use Rattle.script_lines.specs.declared.kind.ScriptKind.TheVariants.{TooMuch}
use Rattle.damon_control.specs.declared.grammar.Grammar.TheVariants.{OfScript}
use Rattle.damon_control.specs.declared.script.TheConstants.{MAX_WORK}
use Rattle.script_lines.specs.Body.{command_line, no_commit}
use Rattle.script_lines.specs.Command.{CommandValue, weight}
use Rattle.script_lines.specs.Refusal.{◌>>=◌}
use Rattle.damon_control.specs.Script.{AtEnd, Body, InBody, InCommit, Place, after_body, header_of, with_command}
use Rattle.damon_control.specs.Text.{SayCommand, all_lines}
use Rattle.script_lines.specs.Lines.{lines_text}
use Rattle.script_lines.specs.Words.{alone, begins_with}
use Rattle.script_lines.proofs.Lemmas.{alone-Ok, command_line-Ok}
use Rattle.damon_control.proofs.SayPlaces.{SayBody, Says, all_lines-more, each_more, read_to, work-more}
use Rattle.damon_control.proofs.Steps.{bind-Ok, either_way, only_if-Ok}
use Rattle.damon_control.proofs.Leads.{lines_joined}

pub more_command : (lines front : List (List ℕ)) (b : Body) (group : List (List ℕ)) (command : CommandValue) (next : Place OfScript) → SayBody front b → lines ≡ front ++ group → SayCommand b.said.setup group command
    → with_command b command ≡ Ok next → Says OfScript lines next
more_command lines front b group command next before is says e =
    let work = b.work + weight b.said.setup.cap command in
    let now : Body = record { said = record b.said { commands = b.said.commands ++ command ∷ [] }; work = work } in
    let passes = only_if-Ok (nat_le work MAX_WORK) TooMuch (InBody now) next e in
    subst (Says OfScript lines) passes.1 (record {
      setup = before.setup;
      commands = before.commands ++ group ∷ [];
      spelled =
          is
          ∙ ap (λ ls. ls ++ group) before.spelled
          ∙ ap (λ ls. header_of OfScript b.said.setup.version ∷ ls) (append_assoc before.setup (codes "begin" ∷ all_lines before.commands) group)
          ∙ ap (λ ls. header_of OfScript b.said.setup.version ∷ (before.setup ++ codes "begin" ∷ ls)) (sym (all_lines-more before.commands group));
      says_setup = before.says_setup;
      say_commands = each_more (SayCommand b.said.setup) before.commands b.said.commands group command before.say_commands says;
      sum = ap (λ n. n + weight b.said.setup.cap command) before.sum ∙ sym (work-more b.said.setup.cap b.said.commands command);
      work = grind (arith, nat_tests, passes.0);
    })

pub in_body : (lines : List (List ℕ)) (b : Body) (line : List ℕ) (next : Place OfScript) → SayBody lines b → after_body b line ≡ Ok next → Says OfScript (lines ++ line ∷ []) next
in_body lines b line next before e =
    either_way (begins_with (codes "end") line) _ _ _ at_end (either_way (begins_with (codes "commit") line) _ _ _ at_commit at_command) e
  where
    at_end : (alone (codes "end") line >>= λ _. Ok (AtEnd b.said)) ≡ Ok next → Says OfScript (lines ++ line ∷ []) next
    at_end = read_to (Says OfScript (lines ++ line ∷ [])) (alone (codes "end") line) (λ _. AtEnd b.said) next (λ t read. record {
      setup = before.setup;
      commands = before.commands;
      spelled =
          ap lines_text ((λ i. before.spelled i ++ alone-Ok (codes "end") line read i ∷ [])
          ∙ ap (λ ls. header_of OfScript b.said.setup.version ∷ ls) (append_assoc before.setup (codes "begin" ∷ all_lines before.commands) (codes "end" ∷ [])))
          ∙ lines_joined (header_of OfScript b.said.setup.version ∷ (before.setup ++ codes "begin" ∷ (all_lines before.commands ++ codes "end" ∷ [])));
      says_setup = before.says_setup;
      say_commands = before.say_commands;
      work = subst (λ n. n ≤ MAX_WORK) before.sum before.work;
    })

    at_commit : (alone (codes "commit") line >>= λ _. Ok (InCommit b no_commit)) ≡ Ok next → Says OfScript (lines ++ line ∷ []) next
    at_commit = read_to (Says OfScript (lines ++ line ∷ [])) (alone (codes "commit") line) (λ _. InCommit b no_commit) next (λ t read. record {
      front = lines;
      between = [];
      parts = [];
      spelled = λ i. lines ++ alone-Ok (codes "commit") line read i ∷ [];
      body = before;
      begins = tt;
      each = tt;
      in_order = refl;
      made = refl;
    })

    at_command : (command_line b.said.setup.space line >>= with_command b) ≡ Ok next → Says OfScript (lines ++ line ∷ []) next
    at_command read =
        let command = bind-Ok (command_line b.said.setup.space line) (with_command b) (next) read in
        let says = command_line-Ok b.said.setup.space line command.0 command.1 in
        more_command (lines ++ line ∷ []) lines b (line ∷ []) command.0 next before refl (inl (line, refl, says)) command.2
