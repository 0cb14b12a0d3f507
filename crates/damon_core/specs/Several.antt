-- Several events of one kind.
use Rattle.std.specs.Prelude.{ℕ, Bool, List, map, replicate}
use Rattle.sampler.specs.Loaded.{mark_of}
use Rattle.damon_core.specs.Event.{Event, clear, load}

-- n clears
abbrev pub clears : ℕ → List Event
clears n = replicate n clear

-- loads of these pages, each with the mark of its page as its result
abbrev pub loads : List Bool → List ℕ → List Event
loads marks pages = map (λ page. load (mark_of marks page)) pages
