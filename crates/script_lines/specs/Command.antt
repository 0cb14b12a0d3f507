-- The commands of a script, and their work.
use Rattle.std.specs.Prelude.{ℕ, ◌+◌, ◌-◌, ◌*◌, List, Result, Ok, Err, sum_by}
use Rattle.std.specs.Global.{Box}
use denote.Ref.{Bor}
use Rattle.live_commit.specs.declared.commit.Commit.{Commit as CommitOfCode}
use Rattle.live_commit.specs.Commit.{CommitValue, commit_value}
use Rattle.script_lines.specs.declared.command.Command.{Command}
use Rattle.script_lines.specs.declared.command.Command.TheVariants.{Touch as TouchCommand, Sweep as SweepCommand, Step as StepCommand, Arm as ArmCommand, Finish as FinishCommand, Show as ShowCommand, Commit as CommitCommand}
use Rattle.script_lines.specs.declared.kind.ScriptKind.{ScriptKind}

-- what a command says
pub data CommandValue : Type 0 where
  Touch : ℕ → CommandValue
  Sweep : ℕ → ℕ → CommandValue
  Step : ℕ → CommandValue
  Arm : CommandValue
  Finish : CommandValue
  Show : CommandValue
  Commit : CommitValue → CommandValue

-- what a command of the program says, where `parts` gives the parts of its commit as it is held
abbrev pub value_by : {C : Type 0} → (C → CommitValue) → Command C → CommandValue
value_by parts (TouchCommand page) = Touch page
value_by parts (SweepCommand from to) = Sweep from to
value_by parts (StepCommand times) = Step times
value_by parts ArmCommand = Arm
value_by parts FinishCommand = Finish
value_by parts ShowCommand = Show
value_by parts (CommitCommand commit) = Commit (parts commit)

-- what a command says whose commit is in a box, as it is read
abbrev pub command_value : Command (Box CommitOfCode) → CommandValue
command_value command = value_by (λ commit. commit_value commit.value) command

-- what a command says whose commit is lent
abbrev pub lent_value : Command (Bor CommitOfCode) → CommandValue
lent_value command = value_by (λ commit. commit_value commit.now) command

-- what a command that was read says, or why it was rejected
abbrev pub command_said : Result (Command (Box CommitOfCode)) ScriptKind → Result CommandValue ScriptKind
command_said (Ok command) = Ok (command_value command)
command_said (Err kind) = Err kind

-- the most steps that the arming or the finishing of a pass takes, under a cap
abbrev pub pass_limit : ℕ → ℕ
pass_limit cap = 2 * cap + 3

-- the work of a command under a cap: its touches, or the steps that it may need, or one show or commit
abbrev pub weight : ℕ → CommandValue → ℕ
weight cap (Touch page) = 1
weight cap (Sweep from to) = to - from
weight cap (Step times) = times
weight cap Arm = pass_limit cap
weight cap Finish = pass_limit cap
weight cap Show = 1
weight cap (Commit commit) = 1

-- the work of commands in all
abbrev pub work_of : ℕ → List CommandValue → ℕ
work_of cap commands = sum_by (weight cap) commands
