-- What a text says keeps the limits of a script.
use Rattle.std.proofs.Common.{◌≡◌, inl, inr, ◌+◌, ◌-◌, ◌%◌, ◌<◌, ◌≤◌, ◌∷◌, [], ℕ, true, List, Some, None, refl, sym, subst, arith}
use Rattle.std.proofs.lemmas.Bool.Decides.{nat_tests}
use Rattle.std.specs.Prelude.{Option, option_map}
use Rattle.damon_types.specs.declared.space.Target.{Target}
use Rattle.damon_types.specs.Space.{page_of, pages_of}
use Rattle.live_commit.specs.Setup.{SetupValue}
use Rattle.script_lines.specs.Body.{are_swept}
use Rattle.script_lines.specs.Command.{Arm, CommandValue, Commit, Finish, Show, Step, Sweep, Touch}
use Rattle.script_lines.specs.Laws.{IsCommand, IsSweep}
use Rattle.script_lines.specs.Limits.{AreCommandsWithin, IsCommandWithin}
use Rattle.damon_control.specs.Sound.{ScriptsAreSound}
use Rattle.damon_control.specs.Text.{EachSays, SayCommand}
use Rattle.damon_types.proofs.Lemmas.{page_of-below, page_of-rises}
use Rattle.damon_control.proofs.Says.{script_of-IsText}
use Rattle.damon_control.proofs.SetupLimits.{SaySetup-InOrder, SaySetup-IsSetup}

swept_before : (from to : ℕ) → are_swept from to ≡ true → from ≤ to - 4096
swept_before from to e =
    let begins : from % 4096 ≡ 0 = grind (arith, nat_tests) in
    let ends : to % 4096 ≡ 0 = grind (arith, nat_tests) in
    let some : from < to = grind (arith, nat_tests) in
    omega (arith, begins, ends, some)

sweep_within : (space : List Target) (line : List ℕ) (first end : ℕ) → IsSweep space line first end → (first < end) × (end ≤ pages_of space)
sweep_within space line first end is = by (page_of space is.target (is.to - 4096)) refl is.ends
  where
    by : (last : Option ℕ) → page_of space is.target (is.to - 4096) ≡ last → option_map (λ p. p + 1) last ≡ Some end → (first < end) × (end ≤ pages_of space)
    by None found ends = absurd cc
    by (Some last) found ends =
        let same : last + 1 ≡ end = cc in
        let rises = page_of-rises space is.target is.from (is.to - 4096) first last is.begins found (swept_before is.from is.to is.whole) in
        let below = page_of-below space is.target (is.to - 4096) last found in
        (omega (arith, same, rises), omega (arith, same, below))

command_within : (space : List Target) (line : List ℕ) (c : CommandValue) → IsCommand space line c → IsCommandWithin (pages_of space) c
command_within space line (Touch page) is = page_of-below space is.target is.addr page is.holds
command_within space line (Sweep first end) is = sweep_within space line first end is
command_within space line (Step times) is = (is.1, is.2)
command_within space line Arm is = tt
command_within space line Finish is = tt
command_within space line Show is = tt
command_within space line (Commit commit) is = tt

group_within : (setup : SetupValue) (group : List (List ℕ)) (c : CommandValue) → SayCommand setup group c → IsCommandWithin (pages_of setup.space) c
group_within setup group c (inl (line, is, says)) = command_within setup.space line c says
group_within setup group c (inr (commit, is, are)) = subst (IsCommandWithin (pages_of setup.space)) (sym is) tt

commands_within : (setup : SetupValue) (groups : List (List (List ℕ))) (commands : List CommandValue) → EachSays (SayCommand setup) groups commands → AreCommandsWithin (pages_of setup.space) commands
commands_within setup [] [] each = tt
commands_within setup (group ∷ groups) (c ∷ commands) each = (group_within setup group c each.0, commands_within setup groups commands each.1)
commands_within setup [] (c ∷ commands) each = absurd each
commands_within setup (group ∷ groups) [] each = absurd each

-- each text that is read as a script gives one within its limits
pub scripts_sound : ScriptsAreSound
scripts_sound text s read =
    let says = script_of-IsText text s read in
    record {
      space = says.says_setup.space;
      setup = SaySetup-IsSetup says.setup s.seed s.setup says.says_setup;
      order = SaySetup-InOrder says.setup s.seed s.setup says.says_setup;
      commands = commands_within s.setup says.commands s.commands says.say_commands;
      work = says.work;
    }
