-- How the commands of a script are stored. No public clause cites this file.
use Rattle.std.specs.Prelude.{◌≡◌, ℕ, ◌<◌, ◌≤◌, List, length, map, option_map, slice_get, unwrap_or}
use Rattle.std.specs.Global.{Box}
use Rattle.live_commit.specs.declared.commit.Commit.{Commit}
use Rattle.live_commit.specs.Commit.{CommitValue, commit_value}
use Rattle.script_lines.specs.declared.command.Command.{Command}
use Rattle.script_lines.specs.declared.command.Command.TheVariants.{Commit as CommitEntry}
use Rattle.script_lines.specs.Command.{CommandValue, value_by}
use Rattle.script_lines.specs.Body.{no_commit}

-- the commit with an index, which is below the number of commits
abbrev pub commit_at : List (Box Commit) → ℕ → CommitValue
commit_at commits i = unwrap_or (option_map (λ commit. commit_value commit.value) (slice_get commits i)) no_commit

-- what an entry says
abbrev pub entry_value : List (Box Commit) → Command ℕ → CommandValue
entry_value commits entry = value_by (commit_at commits) entry

-- what entries say
abbrev pub entry_values : List (Box Commit) → List (Command ℕ) → List CommandValue
entry_values commits entries = map (entry_value commits) entries

-- the commit of an entry, if it has one, is there
abbrev pub NamesCommit : List (Box Commit) → Command ℕ → Type 0
NamesCommit commits (CommitEntry i) = i < length commits
NamesCommit commits _ = Unit {0}

-- an entry with a commit that was there says the same as before
abbrev pub StaysSame : List (Box Commit) → List (Box Commit) → Type 0
StaysSame old new = (entry : Command ℕ) → NamesCommit old entry → NamesCommit new entry × (entry_value new entry ≡ entry_value old entry)

-- the commit of a command, if it has one, fits into this many places
abbrev pub FitsIn : ℕ → Command (Box Commit) → Type 0
FitsIn places (CommitEntry commit) = 1 ≤ places
FitsIn places _ = Unit {0}
