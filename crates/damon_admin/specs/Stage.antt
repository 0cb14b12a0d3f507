-- How far a context is in its script.
use Rattle.std.specs.Prelude.{Bool, true, false, List, ℕ, codes, if◌then◌else◌}
use Rattle.script_lines.specs.Words.{begins_with}
use Rattle.damon_control.specs.declared.grammar.Grammar.TheVariants.{OfScript}
use Rattle.damon_control.specs.Script.{AtEnd, InBody, InCommit, Place}
use Rattle.damon_admin.specs.declared.stage.Stage.{Stage}
use Rattle.damon_admin.specs.declared.stage.Stage.TheVariants.{Setup, Body, Commit, End}

-- the part of a script to which a place belongs
abbrev pub stage_of : Place OfScript → Stage
stage_of (InBody b) = Body
stage_of (InCommit b commit) = Commit
stage_of (AtEnd s) = End
stage_of _ = Setup

-- the part after a line that is accepted, by its first word
abbrev pub stage_after : Stage → List ℕ → Stage
stage_after Setup line = if begins_with (codes "begin") line then Body else Setup
stage_after Body line =
    if begins_with (codes "end") line then End
    else if begins_with (codes "commit") line then Commit
    else Body
stage_after Commit line = if begins_with (codes "apply") line then Body else Commit
stage_after End line = End

-- whether a line that leads from a part of a script to another completes a command
abbrev pub completes : Stage → Stage → Bool
completes Body Body = true
completes Commit Body = true
completes _ _ = false
