-- The lines of a commit, one by one: each part is a line, and a part more is a line more.
use Rattle.std.specs.Prelude.{◌≡◌, Bool, true, ◌&&◌, List, [], ◌∷◌, Ok}
use Rattle.std.specs.List.{fold}
use Rattle.damon_types.specs.declared.scheme.Version.{Version}
use Rattle.live_commit.specs.Commit.{CommitValue}
use Rattle.script_lines.specs.declared.part.Part.{Part}
use Rattle.script_lines.specs.Body.{no_commit, part_line, with_part}
use Rattle.script_lines.specs.Laws.{may_come}
use Rattle.damon_control.specs.Written.{part_text, parts_of}

-- whether parts may follow those of a commit, one after another
abbrev pub come_in_order : Version → CommitValue → List Part → Bool
come_in_order version commit [] = true
come_in_order version commit (part ∷ parts) =
    may_come version commit part && come_in_order version (with_part commit part) parts

-- the lines of parts are read as them, one after another, from a commit with the parts before them
abbrev pub AreReadAfter : Version → CommitValue → List Part → Type 0
AreReadAfter version before [] = Unit {0}
AreReadAfter version before (part ∷ parts) =
    (part_line version before (part_text part) ≡ Ok part) × AreReadAfter version (with_part before part) parts

-- the parts of a commit come in order, make it, and their lines are read as them
pub record IsReadInParts (version : Version) (commit : CommitValue) : Type 0 where
  pub in_order : come_in_order version no_commit (parts_of commit) ≡ true
  pub made : fold with_part no_commit (parts_of commit) ≡ commit
  pub each : AreReadAfter version no_commit (parts_of commit)
