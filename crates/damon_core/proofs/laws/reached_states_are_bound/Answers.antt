use Rattle.std.proofs.Common.{arith}
use Rattle.damon_core.proofs.Bounding.{reached_bound}
use Rattle.damon_core.proofs.Choosing.{serves_best}
use Rattle.damon_core.proofs.Keeping.{any_result, reached_keeps}
use Rattle.damon_core.proofs.Adapting.{merged_tiled}
use Rattle.damon_core.proofs.Passes.{HasPasses, passes_kept}
use Rattle.damon_core.proofs.Picks.{picks_rise}
use Rattle.damon_core.proofs.Rows.{HasRows, rows_kept, rows_of}
use Rattle.damon_core.proofs.Serving.{served_alike}
use Rattle.damon_core.proofs.laws.reached_states_are_bound.Goals as goal

pub returns : goal.returns
returns c =
    record {
      in_phase = λ s reached. (let rows = reached_keeps HasRows (rows_kept any_result) s reached in record { some = rows.some; few = omega (arith, rows.few, rows.most); pick = rows.within });
      picks = λ s reached. picks_rise s (reached_keeps HasPasses (passes_kept any_result) s reached);
      choices = λ s reached. serves_best s (reached_keeps HasRows (rows_kept any_result) s reached);
      alike = λ s reached. (let rows = reached_keeps HasRows (rows_kept any_result) s reached in served_alike s (merged_tiled s.core rows.wide rows.order (rows_of s rows)));
      bound = reached_bound;
    }
