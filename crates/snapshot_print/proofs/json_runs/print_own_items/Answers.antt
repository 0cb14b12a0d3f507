use Rattle.std.proofs.Common.{◌≡◌, ◌++◌, ◌∙◌, ap, subst}
use Rattle.std.specs.Prelude.{OnOk, flat_map}
use Rattle.snapshot_print.specs.Pieces.{run_parts}
use Rattle.snapshot_print.proofs.JsonRuns.{own_items}
use Rattle.snapshot_print.proofs.json_runs.print_own_items.Goals as goal

pub returns-clause-ok : goal.returns-clause-ok
returns-clause-ok c =
    let space = c.args.space.now in
    let items = ap (λ a. flat_map (run_parts space a) c.args.runs.now) c.action_in.ensures ∙ own_items space c.args.engine.now.slots c.args.slot c.args.runs.now c.requires.own in
    subst (λ text. OnOk c.print_with_action.result (c.print_with_action.new.out.items ≡ c.args.out.now.items ++ text)) items c.print_with_action.ensures.ok
