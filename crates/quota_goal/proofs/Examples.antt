-- Bytes that follow a goal, worked out by hand.
use Rattle.std.proofs.Common.{◌≡◌, ℕ, List, [], ◌∷◌, Some, None, refl}
use Rattle.std.specs.Prelude.{Option}
use Rattle.damon_types.specs.declared.scheme.Action.TheVariants.{Stat}
use Rattle.damon_types.specs.declared.scheme.Marks.{Marks}
use Rattle.damon_types.specs.declared.scheme.Prefer.TheVariants.{Hot as preferred}
use Rattle.damon_types.specs.declared.scheme.Scheme.{Scheme}
use Rattle.damon_types.specs.declared.row.Row.{Row}
use Rattle.quota_goal.specs.declared.goals.Goal.{Goal}
use Rattle.quota_goal.specs.declared.goals.GoalKind.TheVariants.{Metric}
use Rattle.quota_goal.specs.declared.moment.Moment.TheVariants.{Metric as metric}
use Rattle.quota_goal.specs.Next.{asked, next}
use Rattle.quota_goal.specs.Seen.{seen}
use Rattle.quota_goal.specs.Tuned.{TunerView, after_change, bytes_at, change_at, given, untuned}

-- a metric of 100 is to be reached, with 4,096 to 81,920 bytes
abbrev goal : Goal
goal = record { slot = 0; kind = Metric; target = 100; low = 4096; high = 81920 }

-- half of the target asks for half as many bytes more, and the top holds them down
half_asks_for_more : asked goal 40960 50 ≡ 61440
half_asks_for_more = refl

top_holds : next goal 40960 40960 50 ≡ 40960
top_holds = refl

-- twice the target, or more, asks for nothing, and the low bound stays
twice_asks_for_nothing : asked goal 40960 200 ≡ 0
twice_asks_for_nothing = refl

low_stays : next goal 40960 40960 300 ≡ 4096
low_stays = refl

rises_again : next goal 4096 40960 50 ≡ 6144
rises_again = refl

-- at the target the bytes stay
target_is_reached : next goal 6144 40960 100 ≡ 6144
target_is_reached = refl

-- a top below the low bound wins
top_wins_over_low : next goal 1000 2000 200 ≡ 2000
top_wins_over_low = refl

-- two of six pages were accessed
abbrev rows : List Row
rows =
    record { target = 0; start = 0; pages = 2; count = 3; last = 0; age = 0 }
    ∷ record { target = 0; start = 2; pages = 4; count = 0; last = 1; age = 0 }
    ∷ []

thousandths_of_six : seen rows ≡ record { hot = 333; cold = 666 }
thousandths_of_six = refl

-- a scheme with a quota, with these marks
abbrev scheme : ℕ → Option Marks → Scheme
scheme bytes marks = record {
  action = Stat;
  pattern = record {
    size = record { low = 0; high = 9 };
    count = record { low = 0; high = 9 };
    age = record { low = 0; high = 9 };
  };
  quota = Some (record { bytes = bytes; reset = 10; time = None });
  weights = record { size = 1; count = 1; age = 1 };
  prefer = preferred;
  marks = marks;
  filters = [];
}

abbrev tuned_by : List Goal → Scheme → TunerView
tuned_by goals s = given (record { slot = 0; scheme = Some s }) (untuned goals)

-- the bytes after a change
abbrev bytes_after : TunerView → ℕ → Option ℕ
bytes_after t value = bytes_at (after_change (change_at t 0 (metric value)) t) 0

-- the top holds the bytes, so nothing changes
stays_at_the_top : change_at (tuned_by (goal ∷ []) (scheme 40960 None)) 0 (metric 50) ≡ None
stays_at_the_top = refl

falls_to_the_low_bound : bytes_after (tuned_by (goal ∷ []) (scheme 40960 None)) 200 ≡ Some 4096
falls_to_the_low_bound = refl

-- the least of the next bytes counts
least_counts : bytes_after (tuned_by (goal ∷ record goal { low = 2048 } ∷ []) (scheme 40960 None)) 200 ≡ Some 2048
least_counts = refl

-- a scheme with marks is not tuned
marks_are_left_alone : change_at (tuned_by (goal ∷ []) (scheme 40960 (Some (record { high = 9; mid = 5; low = 1 })))) 0 (metric 200) ≡ None
marks_are_left_alone = refl

-- the bytes after changes by one metric after another
abbrev after_metrics : List ℕ → TunerView → TunerView
after_metrics [] t = t
after_metrics (value ∷ values) t = after_metrics values (after_change (change_at t 0 (metric value)) t)

-- they fall to the low bound, and rise again by half
rises_after_a_fall : bytes_at (after_metrics (50 ∷ 200 ∷ 50 ∷ []) (tuned_by (goal ∷ []) (scheme 40960 None))) 0 ≡ Some 6144
rises_after_a_fall = refl
