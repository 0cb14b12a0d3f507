-- What a world shows, and for which states it stands.
use Rattle.std.specs.Prelude.{◌≡◌, length}
use Rattle.rand_core.specs.Stream.{Stream}
use Rattle.damon_types.specs.Space.{pages_of}
use Rattle.damon_core.specs.State.{State}
use Rattle.damon_core.specs.Stands.{MonitorView, Stands}
use Rattle.damon_world.specs.Moment.{Moment}
use Rattle.damon_world.specs.Pages.{ArePagesOf, PagesView}

-- a world: its monitor, its pages, and its source of random words
pub record WorldView (R : Type 0) : Type 0 where
  pub monitor : MonitorView
  pub pages : PagesView
  pub source : R

-- the world stands for the state: its monitor does, and its pages are those that the notes give
pub record StandsFor {R : Type 0} (w : WorldView R) (s : State) : Type 0 where
  pub monitor : Stands w.monitor s
  pub pages : ArePagesOf w.pages s.notes (pages_of w.monitor.core.space)

-- the world stands for the state, and these are the random words that its source still gives
pub record StandsAt {R : Type 0} (stream : R → Stream) (w : WorldView R) (m : Moment) : Type 0 where
  pub state : StandsFor w m.state
  pub words : stream w.source ≡ m.stream

-- the world keeps the tag of each page
abbrev pub KeepsTags : {R : Type 0} → WorldView R → Type 0
KeepsTags w = length w.pages.tags ≡ pages_of w.monitor.core.space
