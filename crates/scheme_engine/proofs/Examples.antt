-- Worked examples of runs of schemes, computed by hand.
use Rattle.std.proofs.Common.{◌≡◌, ℕ, true, false, List, [], ◌∷◌, Option, Some, None, refl}
use Rattle.damon_types.specs.declared.filter.Filter.{Filter}
use Rattle.damon_types.specs.declared.filter.FilterKind.TheVariants.{Addr}
use Rattle.damon_types.specs.declared.row.Row.{Row}
use Rattle.damon_types.specs.declared.scheme.Action.{Action}
use Rattle.damon_types.specs.declared.scheme.Action.TheVariants.{Pageout, Stat}
use Rattle.damon_types.specs.declared.scheme.Prefer.TheVariants.{Hot}
use Rattle.damon_types.specs.declared.scheme.Quota.{Quota}
use Rattle.damon_types.specs.declared.scheme.Scheme.{Scheme}
use Rattle.damon_types.specs.declared.scheme.Span.{Span}
use Rattle.damon_types.specs.declared.space.Target.{Target}
use Rattle.region_list.specs.Regions.{RegionList}
use Rattle.scheme_engine.specs.declared.applied.AppliedRun.{AppliedRun}
use Rattle.scheme_engine.specs.Outcome.{Outcome, outcome_of}
use Rattle.scheme_engine.specs.Served.{left_in, slot_served, slots_served}
use Rattle.scheme_engine.specs.Slots.{SlotValue, changed, set_scheme, empty_slot}

-- a row that nothing has touched
abbrev row : ℕ → ℕ → ℕ → Row
row start pages age = record { target = 0; start = start; pages = pages; count = 0; last = 0; age = age }

-- three rows of two pages whose ages are 50, 50 and 90, with room for `max` rows of at least one page
abbrev three_rows : ℕ → RegionList
three_rows max = record { ranges = record { target = 0; first = 0; pages = 6; class = 0 } ∷ []; rows = row 0 2 50 ∷ row 2 2 50 ∷ row 4 2 90 ∷ []; unit = 1; cap = 9; max = max }

-- one target of six pages
abbrev space : List Target
space = record { base = 0; pages = 6 } ∷ []

-- a scheme for all rows, in which older ones come first
abbrev oldest_first : Action → Option Quota → List Filter → Scheme
oldest_first action quota filters =
    let any : Span = record { low = 0; high = 4294967295 } in
    record { action = action; pattern = record { size = any; count = any; age = any }; quota = quota; weights = record { size = 0; count = 0; age = 1 }; prefer = Hot; marks = None; filters = filters }

-- a run of slot 3
abbrev run : ℕ → ℕ → ℕ → AppliedRun
run start pages score = record { slot = 3; target = 0; start = start; pages = pages; score = score }

abbrev outcome : Action → ℕ → Option ℕ → Outcome
outcome action max left = outcome_of 3 space 20 (oldest_first action None []) left (three_rows max)

-- three pages are left: both of the oldest row, and then the first page of the first row
three_pages_left : outcome Pageout 4 (Some 3) ≡ record {
  runs = run 4 2 90 ∷ run 0 1 50 ∷ [];
  tried = 3;
  taken = 3;
  lowest = Some 50;
  exceeds = true;
  rows = row 0 1 0 ∷ row 1 1 50 ∷ row 2 2 50 ∷ row 4 2 0 ∷ [];
}
three_pages_left = refl

-- without room for one row more the first row stays as it is, and its page is taken all the same
no_room : outcome Pageout 3 (Some 3) ≡ record {
  runs = run 4 2 90 ∷ run 0 1 50 ∷ [];
  tried = 3;
  taken = 3;
  lowest = Some 50;
  exceeds = true;
  rows = row 0 2 50 ∷ row 2 2 50 ∷ row 4 2 0 ∷ [];
}
no_room = refl

nothing_left : outcome Pageout 4 (Some 0) ≡ record {
  runs = [];
  tried = 3;
  taken = 0;
  lowest = None;
  exceeds = true;
  rows = (three_rows 4).rows;
}
nothing_left = refl

-- without a quota all pages are taken
no_quota : outcome Pageout 4 None ≡ record {
  runs = run 4 2 90 ∷ run 0 2 50 ∷ run 2 2 50 ∷ [];
  tried = 3;
  taken = 6;
  lowest = Some 50;
  exceeds = false;
  rows = row 0 2 0 ∷ row 2 2 0 ∷ row 4 2 0 ∷ [];
}
no_quota = refl

-- `stat` takes the same pages and leaves the rows as they are
stat_leaves_rows : outcome Stat 4 (Some 3) ≡ record {
  runs = run 4 2 90 ∷ run 0 1 50 ∷ [];
  tried = 3;
  taken = 3;
  lowest = Some 50;
  exceeds = true;
  rows = (three_rows 4).rows;
}
stat_leaves_rows = refl

-- One row of six pages, of which the second, the third and the sixth are rejected: the runs are those of the others. The row is
-- cut after the last page taken, which is its fourth.
abbrev one_row : RegionList
one_row = record (three_rows 4) { rows = row 0 6 7 ∷ [] }

abbrev reject : ℕ → ℕ → Filter
reject from to = record { allow = false; matching = true; kind = Addr from to }

some_pages_rejected : outcome_of 3 space 20 (oldest_first Pageout None (reject 4096 12288 ∷ reject 20480 24576 ∷ [])) (Some 2) one_row ≡ record {
  runs = run 0 1 7 ∷ run 3 1 7 ∷ [];
  tried = 1;
  taken = 2;
  lowest = Some 7;
  exceeds = true;
  rows = row 0 4 0 ∷ row 4 2 7 ∷ [];
}
some_pages_rejected = refl

-- a slot of a scheme that was run at tick 20 for the last time
abbrev quota_slot : ℕ → ℕ → SlotValue
quota_slot bytes charged =
    record {
      set = Some (record (set_scheme (oldest_first Pageout (Some (record { bytes = bytes; reset = 40; time = None })) [])) { tried = 1; applied = charged; exceeds = 1 });
      window = record { start = 0; charged = charged };
      cost = record { pages = charged; nanos = 0 };
    }

-- The quota was lowered to two pages after three were charged: before tick 40 none is left, and nothing is taken.
lowered_quota : (slot_served 3 space 20 30 (three_rows 4) (quota_slot 8192 3)).choices ≡ record { slot = 3; active = true; left = Some 0; taken = 0; lowest = None } ∷ []
lowered_quota = refl

-- at tick 40 the window begins anew, and two pages are left
new_window : (slot_served 3 space 20 40 (three_rows 4) (quota_slot 8192 3)).slot ≡ record {
  set = Some (record (set_scheme (oldest_first Pageout (Some (record { bytes = 8192; reset = 40; time = None })) [])) { tried = 4; applied = 5; exceeds = 2 });
  window = record { start = 40; charged = 2 };
  cost = record { pages = 5; nanos = 0 };
}
new_window = refl

-- dropping the slot and setting it again leaves the charge, and clears the statistics
set_again : changed (Some (oldest_first Stat None [])) (changed None (quota_slot 8192 3)) ≡ record { set = Some (set_scheme (oldest_first Stat None [])); window = record { start = 0; charged = 3 }; cost = record { pages = 3; nanos = 0 } }
set_again = refl

-- The second slot finds the rows as the first leaves them: the oldest row is new now.
two_slots : (slots_served 3 space 20 30 (three_rows 3) (quota_slot 8192 0 ∷ empty_slot ∷ quota_slot 4096 0 ∷ [])).runs ≡ run 4 2 90 ∷ record { slot = 5; target = 0; start = 0; pages = 1; score = 50 } ∷ []
two_slots = refl

-- with a time of 1,000 ns and 10,000 ns for 100 pages, ten pages are left of a hundred
abbrev timed_slot : SlotValue
timed_slot = record (quota_slot 409600 0) {
  set = Some (set_scheme (oldest_first Pageout (Some (record { bytes = 409600; reset = 20; time = Some 1000 })) []));
  cost = record { pages = 100; nanos = 10000 };
}

time_left : left_in timed_slot ≡ Some 10
time_left = refl
