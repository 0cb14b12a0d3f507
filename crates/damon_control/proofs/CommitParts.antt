-- The lines of a commit are those of its parts, one after another.
use Rattle.std.proofs.Common.{◌≡◌, ◌∷◌, [], ◌++◌, true, List, map, ap, ◌∙◌}
use Rattle.std.specs.List.{AllByRecursion}
use Rattle.std.proofs.lemmas.List.{map-append}
use Rattle.damon_types.specs.declared.scheme.Version.{Version}
use Rattle.live_commit.specs.Commit.{CommitValue}
use Rattle.script_lines.specs.declared.part.Part.{Part}
use Rattle.script_lines.specs.Body.{no_commit, with_part}
use Rattle.script_lines.specs.Laws.{may_come}
use Rattle.damon_control.specs.CommitLines.{AreReadAfter, IsReadInParts, come_in_order}
use Rattle.damon_control.specs.WriteBack.{FitsCommit, IsSpelledIn, SpellsRanges}
use Rattle.damon_control.specs.Written.{part_text, parts_of, written_commit}
use Rattle.script_lines.proofs.Lemmas.{lines_read_back}
use Rattle.damon_control.proofs.LineWords.{both_true}
use Rattle.damon_control.proofs.ReadWritten.{IsSaid, parts_said}
use Rattle.damon_control.proofs.PartsInOrder.{cost_is_in, parts_in, parts_more}

-- the lines of a commit with one part more
pub parts_written : (version : Version) (commit : CommitValue) (part : Part) → may_come version commit part ≡ true
    → written_commit (with_part commit part) ≡ written_commit commit ++ part_text part ∷ []
parts_written version c p may =
    ap (map part_text) (parts_more version c.attrs c.ranges c.slot c.metric c.cost p may) ∙ map-append part_text (parts_of c) (p ∷ [])

-- ---- all parts

each_read : (version : Version) (before : CommitValue) (parts : List Part) → AllByRecursion (IsSaid version) parts → come_in_order version before parts ≡ true → AreReadAfter version before parts
each_read version before [] said order = tt
each_read version before (p ∷ parts) said order =
    let both = both_true (may_come version before p) (come_in_order version (with_part before p) parts) order in
    (lines_read_back.part version before (part_text p) p both.0 said.0, each_read version (with_part before p) parts said.1 both.1)

-- what is written of a commit is read part by part
pub parts_read_back : (version : Version) (commit : CommitValue) → FitsCommit commit → SpellsRanges commit → IsSpelledIn version commit → IsReadInParts version commit
parts_read_back version c fits some spelled =
    let are = parts_in version c.attrs c.ranges (record { slot = c.slot; metric = c.metric; cost = c.cost }) (cost_is_in version c spelled) some in
    record {
      in_order = are.in_order;
      made = are.made;
      each = each_read version no_commit (parts_of c) (parts_said version c fits spelled) are.in_order;
    }
