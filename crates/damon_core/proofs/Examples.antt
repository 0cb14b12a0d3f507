-- Examples of what notes say of runs and costs.
use Rattle.std.specs.Prelude.{◌≡◌, ◌-◌, ◌^◌, false, List, [], ◌∷◌, Some, None, refl}
use Rattle.damon_types.specs.declared.scheme.Scheme.{Scheme}
use Rattle.scheme_engine.specs.declared.applied.AppliedRun.{AppliedRun}
use Rattle.damon_core.specs.Commit.{committed_notes}
use Rattle.damon_core.specs.Note.{Note, cost, dropped, metric, ran, set, turned}
use Rattle.damon_core.specs.Slots.{applied_of, charged_of, cost_of}

-- ten pages in one run
abbrev ten_pages : List AppliedRun
ten_pages = record { slot = 3; target = 0; start = 0; pages = 10; score = 50 } ∷ []

-- a scheme of slot 3 was run in two windows, and dropped; a time was measured twice
abbrev two_windows : List Note
two_windows =
    cost 3 7 ∷ dropped 3 ∷ ran 3 20 1 ten_pages false ∷ turned 3 20 ∷ cost 3 5 ∷ cost 2 1000 ∷ ran 3 10 1 ten_pages false ∷ []

-- the pages that are charged are those of the window
example_of_windows : charged_of two_windows 3 ≡ 10
example_of_windows = refl

-- the statistics are of the runs since the slot was set; to set it ends no window
example_of_statistics : (scheme : Scheme) → applied_of (ran 3 20 1 ten_pages false ∷ set 3 scheme ∷ two_windows) 3 ≡ 10
example_of_statistics scheme = refl

example_of_set_slots : (scheme : Scheme) → charged_of (ran 3 20 1 ten_pages false ∷ set 3 scheme ∷ two_windows) 3 ≡ 20
example_of_set_slots scheme = refl

-- a cost has all pages and all nanoseconds of its slot
example_of_costs : cost_of two_windows 3 ≡ record { pages = 20; nanos = 12 }
example_of_costs = refl

example_of_other_slots : cost_of two_windows 2 ≡ record { pages = 0; nanos = 1000 }
example_of_other_slots = refl

-- the nanoseconds stop at the greatest number of 64 bits
example_of_limit : (cost_of (cost 0 1 ∷ cost 0 (2 ^ 64 - 1) ∷ []) 0).nanos ≡ 2 ^ 64 - 1
example_of_limit = refl

-- the cost of a commit comes after its metric
example_of_order : committed_notes (record { attrs = None; ranges = None; slot = None; metric = Some 3; cost = Some (record { slot = 1; nanos = 5 }) }) [] ≡ cost 1 5 ∷ metric 3 ∷ []
example_of_order = refl
