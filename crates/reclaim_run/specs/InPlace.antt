-- What proactive reclaim adds, it adds directly after aggregations.
use Rattle.std.specs.Prelude.{◌≡◌, [], refl}
use Rattle.damon_core.specs.After.{after}
use Rattle.damon_core.specs.Event.{Event, aggregate}
use Rattle.damon_core.specs.State.{State}
use Rattle.script_run.specs.Callbacks.{AddInPlace, IsAlone, IsQuiet}
use Rattle.reclaim_run.specs.Reclaimed.{line_after, reclaim_callbacks, share_after}

share_in_place : (s : State) (e : Event) → IsAlone e → share_after s e ≡ []
share_in_place s (aggregate words) alone = absurd alone
share_in_place s _ alone = refl

line_in_place : (s : State) (e : Event) → IsQuiet e → line_after s e ≡ []
line_in_place s (aggregate words) quiet = absurd quiet
line_in_place s _ quiet = refl

pub reclaim_in_place : AddInPlace reclaim_callbacks
reclaim_in_place = record {
  keeps = λ memory s e alone. refl;
  puts = λ memory s e alone. share_in_place (after s e) e alone;
  writes = λ memory s e quiet. line_in_place s e quiet;
}
