-- Pages that go out and come back, worked out by hand.
use Rattle.std.specs.Prelude.{◌≡◌, ℕ, Bool, true, false, List, [], ◌∷◌, map, None, refl}
use Rattle.std.specs.List.{range_with_len}
use Rattle.damon_types.specs.declared.scheme.Action.{Action}
use Rattle.damon_types.specs.declared.scheme.Action.TheVariants.{Pageout, Willneed, Cold}
use Rattle.damon_types.specs.declared.scheme.Prefer.TheVariants.{Hot}
use Rattle.damon_types.specs.declared.scheme.Scheme.{Scheme}
use Rattle.scheme_engine.specs.declared.applied.AppliedRun.{AppliedRun}
use Rattle.damon_core.specs.Note.{Note, touched, set, dropped, ran}
use Rattle.reclaim_module.specs.Calls.{after_action, after_touch, all_resident}
use Rattle.reclaim_module.specs.Counts.{pageouts_of, prefetches_of, refaults_of}
use Rattle.reclaim_module.specs.Out.{is_out}
use Rattle.reclaim_module.specs.Pages.{ReclaimView, out_count}

abbrev scheme : Action → Scheme
scheme action = record {
  action = action;
  pattern = record {
    size = record { low = 0; high = 9 };
    count = record { low = 0; high = 9 };
    age = record { low = 0; high = 9 };
  };
  quota = None;
  weights = record { size = 1; count = 1; age = 1 };
  prefer = Hot;
  marks = None;
  filters = [];
}

abbrev pages : ℕ → ℕ → AppliedRun
pages start count = record { slot = 0; target = 0; start = start; pages = count; score = 0 }

-- slot 0 pages out two runs that share pages 3 and 4, of eight pages
abbrev gone : List Note
gone = ran 0 20 1 (pages 1 4 ∷ pages 3 3 ∷ []) false ∷ set 0 (scheme Pageout) ∷ []

abbrev out_of_eight : List Note → List Bool
out_of_eight notes = map (is_out notes) (range_with_len 0 8)

pages_of_all_runs_go_out : out_of_eight gone ≡ false ∷ true ∷ true ∷ true ∷ true ∷ true ∷ false ∷ false ∷ []
pages_of_all_runs_go_out = refl

a_page_of_two_runs_counts_once : pageouts_of 8 gone ≡ 5
a_page_of_two_runs_counts_once = refl

pages_that_are_out_do_not_go_out_again : pageouts_of 8 (ran 0 40 1 (pages 0 3 ∷ []) false ∷ gone) ≡ 6
pages_that_are_out_do_not_go_out_again = refl

a_touch_brings_one_page_back : out_of_eight (touched 3 ∷ gone) ≡ false ∷ true ∷ true ∷ false ∷ true ∷ true ∷ false ∷ false ∷ []
a_touch_brings_one_page_back = refl

-- a second touch, and one of a page that never went out, are no refaults
only_the_first_touch_is_a_refault : refaults_of (touched 3 ∷ touched 7 ∷ touched 3 ∷ gone) ≡ 1
only_the_first_touch_is_a_refault = refl

-- the page went out once more after its touch
a_page_goes_out_again : pageouts_of 8 (ran 0 40 1 (pages 3 1 ∷ []) false ∷ touched 3 ∷ gone) ≡ 6
a_page_goes_out_again = refl

-- slot 1 prefetches pages 4 to 6, of which page 6 is resident
abbrev fetched : List Note
fetched = ran 1 20 1 (pages 4 3 ∷ []) false ∷ set 1 (scheme Willneed) ∷ gone

prefetched_pages_come_back : out_of_eight fetched ≡ false ∷ true ∷ true ∷ true ∷ false ∷ false ∷ false ∷ false ∷ []
prefetched_pages_come_back = refl

only_pages_that_are_out_are_prefetched : prefetches_of 8 fetched ≡ 2
only_pages_that_are_out_are_prefetched = refl

a_prefetch_is_no_refault : refaults_of (touched 4 ∷ fetched) ≡ 0
a_prefetch_is_no_refault = refl

other_actions_move_nothing : out_of_eight (ran 0 20 1 (pages 0 8 ∷ []) false ∷ set 0 (scheme Cold) ∷ []) ≡ out_of_eight []
other_actions_move_nothing = refl

-- what counts is the scheme that the slot held when it was run
a_later_scheme_changes_nothing : out_of_eight (set 0 (scheme Willneed) ∷ gone) ≡ out_of_eight gone
a_later_scheme_changes_nothing = refl

a_dropped_scheme_moves_nothing : out_of_eight (ran 0 40 1 (pages 0 8 ∷ []) false ∷ dropped 0 ∷ gone) ≡ out_of_eight gone
a_dropped_scheme_moves_nothing = refl

-- the calls: pages 2 to 5 go out, page 3 is touched twice, and pages 0 to 2 are prefetched
abbrev called : ReclaimView
called = after_action Willneed 0 3 (after_touch 3 (after_touch 3 (after_action Pageout 2 4 (all_resident 6))))

the_calls_do_the_same : called ≡ record {
  out = false ∷ false ∷ false ∷ false ∷ true ∷ true ∷ [];
  counts = record { pageouts = 4; refaults = 1; prefetches = 1 };
}
the_calls_do_the_same = refl

two_are_out : out_count called.out ≡ 2
two_are_out = refl
