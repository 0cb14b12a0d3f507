-- What a world keeps, and what its private calls tell. No public contract rests on this file.
use Rattle.std.specs.Prelude.{◌≡◌, ℕ, ◌+◌, ◌*◌, ◌≤◌, length}
use Rattle.rand_core.specs.Stream.{Stream}
use Rattle.damon_types.specs.Space.{pages_of}
use Rattle.damon_core.specs.Reached.{Reached}
use Rattle.damon_core.specs.Stands.{MonitorView}
use Rattle.damon_world.specs.Stands.{WorldView, StandsAt}
use Rattle.damon_world.specs.Moment.{Moment, events_of_steps}
use Rattle.damon_world.specs.Pages.{PagesView}
use Rattle.damon_world.specs.Plays.{Plays}
use Rattle.damon_world.specs.Advance.{AreAmid}

-- each page has a mark, and there is room for the random words of a step: an aggregation takes the most
pub record IsWorld (monitor : MonitorView) (pages : PagesView) (capacity : ℕ) : Type 0 where
  pub each : length pages.marks ≡ pages_of monitor.core.space
  pub room : 2 * monitor.core.regions.cap ≤ capacity

-- the world made the next n steps, which are of one kind
pub record IsAdvance {R : Type 0} (stream : R → Stream) (old new : WorldView R) (n : ℕ) : Type 0 where
  pub plays : Plays stream old new (events_of_steps n)
  pub amid : (m : Moment) → Reached m.state → StandsAt stream old m → AreAmid n m
  pub passes : new.monitor.core.ticks ≤ old.monitor.core.ticks + 1
  pub space : new.monitor.core.space ≡ old.monitor.core.space
  pub cap : new.monitor.core.regions.cap ≡ old.monitor.core.regions.cap
  pub tags : length new.pages.tags ≡ length old.pages.tags
