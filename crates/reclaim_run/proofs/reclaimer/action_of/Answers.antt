use Rattle.std.proofs.Common.{ap, sym, ◌∙◌}
use Rattle.std.specs.Option.{option_map_or}
use Rattle.damon_types.specs.declared.scheme.Action.TheVariants.{Stat}
use Rattle.scheme_engine.specs.declared.slot.SlotView.{SlotView}
use Rattle.reclaim_run.proofs.Applying.{action_shown}
use Rattle.reclaim_run.proofs.reclaimer.action_of.Goals as goal

pub returns-in-Some : goal.returns-in-Some
returns-in-Some c notes same =
    ap (λ shown. option_map_or (λ (v : SlotView). v.action) shown Stat) (sym c.in-Some.is)
    ∙ action_shown c.args.engine.now.slots notes c.args.slot c.slot.result c.requires c.slot.ensures same

pub returns-in-None : goal.returns-in-None
returns-in-None c notes same =
    ap (λ shown. option_map_or (λ (v : SlotView). v.action) shown Stat) (sym c.in-None.is)
    ∙ action_shown c.args.engine.now.slots notes c.args.slot c.slot.result c.requires c.slot.ensures same
