use Rattle.std.proofs.Common.{◌<◌, length, subst, arith}
use Rattle.std.proofs.lemmas.List.{get_or_default}
use Rattle.scheme_engine.specs.Engine.{FitsSlot}
use Rattle.scheme_engine.specs.Kept.{AreTiled}
use Rattle.scheme_engine.specs.Served.{slot_served}
use Rattle.scheme_engine.specs.Slots.{SlotValue, empty_slot}
use Rattle.scheme_engine.proofs.BestLemmas.{served_best}
use Rattle.scheme_engine.proofs.EngineLemmas.{serving_fits}
use Rattle.scheme_engine.proofs.engine.Engine.run.Goals as goal

pub serve-requires-clause-fits : goal.serve-requires-clause-fits
serve-requires-clause-fits c =
    let n = c.loop-number.number in
    let slots = c.loop-number.self-inside.slots in
    let kept = c.loop-number.invariant in
    let within : n < length slots = omega (arith, c.loop-number-test.true, kept.size) in
    let fits = serving_fits kept.serving within c.requires.fits in
    let same = get_or_default slots n empty_slot c.index-self-number.result within in
    subst (λ (s : SlotValue). FitsSlot (slot_served n c.args.space.now c.args.aggr c.args.tick c.loop-number.regions s).slot) same fits

pub returns-clause-best : goal.returns-clause-best
returns-clause-best c =
    let rows = c.len-rows.ensures in
    let regions = c.args.regions.now in
    let tiled : AreTiled regions = record { unit = rows.unit; order = rows.order; tiling = rows.tiling; few = omega (arith, rows.len, rows.few) } in
    served_best 0 c.args.aggr c.args.tick c.args.space.now regions c.args.self.now.slots tiled
