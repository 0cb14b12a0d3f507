-- What is left of a command.
use Rattle.std.specs.Prelude.{ℕ}
use Rattle.live_commit.specs.Commit.{CommitValue, commit_value}
use Rattle.script_run.specs.declared.part.Part.{Part as PartOfCode}
use Rattle.script_run.specs.declared.part.Part.TheVariants as code
use Rattle.script_run.specs.declared.part.Start.{Start}
use Rattle.script_run.specs.declared.part.Start.TheVariants as start
use Rattle.script_run.specs.declared.part.Until.{Until}

-- One touch of each of `count` pages, ascending, the first of which is `page`; at most `most` steps; one show; one commit.
pub data Part : Type 0 where
  Touches : (page count : ℕ) → Part
  Steps : (until : Until) → (most : ℕ) → Part
  Show : Part
  Commit : (parts : CommitValue) → Part

-- what is left of a command under way
abbrev pub part_value : PartOfCode → Part
part_value (code.Touches page count) = Touches page count
part_value (code.Steps until most) = Steps until most
part_value code.Show = Show

-- what is left of a command that begins
abbrev pub start_value : Start → Part
start_value (start.Part p) = part_value p
start_value (start.Commit commit) = Commit (commit_value commit.now)
