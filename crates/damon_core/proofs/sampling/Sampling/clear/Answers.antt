use Rattle.std.proofs.Common.{length, ap, arith}
use Rattle.damon_core.specs.Event.{clear_index}
use Rattle.damon_core.specs.Kept.{SamplingView}
use Rattle.damon_core.proofs.sampling.Sampling.clear.Goals as goal

pub overflow_add-next : goal.overflow_add-next
overflow_add-next c =
    omega (arith, ap clear_index c.in-Clearing.is, ap (λ (s : SamplingView). clear_index s.phase) c.self.view_is, ap (λ (s : SamplingView). length s.regions.rows) c.self.view_is, c.requires.within, c.len-rows.ensures.len)
