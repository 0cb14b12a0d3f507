-- What parts of a script keep.
use Rattle.std.specs.Prelude.{◌≡◌, ℕ, ◌<◌, ◌≤◌, List, Ok}
use Rattle.std.specs.List.{AllByRecursion}
use Rattle.live_commit.specs.Checked.{checked_limits}
use Rattle.script_lines.specs.declared.setup.Frame.{Frame}
use Rattle.script_lines.specs.declared.command.TheConstants.{MAX_STEPS}
use Rattle.script_lines.specs.Command.{CommandValue, Touch, Sweep, Step, Arm, Finish, Show, Commit}

-- the numbers of a frame are those of a setup
abbrev pub AreLimits : Frame → Type 0
AreLimits f = checked_limits f.unit f.cap f.attrs ≡ Ok tt

-- a command within its limits: its pages are below `pages`, a sweep has at least one, and steps are from 1 to MAX_STEPS
abbrev pub IsCommandWithin : ℕ → CommandValue → Type 0
IsCommandWithin pages (Touch page) = page < pages
IsCommandWithin pages (Sweep from to) = (from < to) × (to ≤ pages)
IsCommandWithin pages (Step times) = (1 ≤ times) × (times ≤ MAX_STEPS)
IsCommandWithin pages Arm = Unit {0}
IsCommandWithin pages Finish = Unit {0}
IsCommandWithin pages Show = Unit {0}
IsCommandWithin pages (Commit commit) = Unit {0}

-- each command is within these limits
abbrev pub AreCommandsWithin : ℕ → List CommandValue → Type 0
AreCommandsWithin pages commands = AllByRecursion (IsCommandWithin pages) commands
