-- Runs with tuned quotas, worked out by hand.
use Rattle.std.proofs.Common.{◌≡◌, ℕ, List, [], ◌∷◌, ◌++◌, Some, refl}
use Rattle.std.specs.Prelude.{Option, codes}
use Rattle.std.specs.Option.{option_map}
use Rattle.std.specs.Result.{result_ok}
use Rattle.std.specs.Fmt.{digits}
use Rattle.damon_core.specs.Slots.{slot_count}
use Rattle.damon_control.specs.Script.{script_of}
use Rattle.quota_goal.specs.declared.goals.Goal.{Goal}
use Rattle.quota_goal.specs.declared.goals.GoalKind.TheVariants.{Hot, Metric}
use Rattle.tune_run.specs.Report.{tuned_report}

-- three pages, a scheme with 40,960 bytes
abbrev setup : List ℕ
setup =
    codes "damon script 1\nseed 42\nunit 1\ncap 8\nattrs 3 8 5\n"
    ++ codes "target 0x10000 3\nrange 0 0x10000 0x13000 0\nscheme 0 stat quota=40960,10\nbegin\n"

-- a metric of 100 is to be reached, with 4,096 to 81,920 bytes
abbrev goal : Goal
goal = record { slot = 0; kind = Metric; target = 100; low = 4096; high = 81920 }

-- what is written of the script with this body
abbrev written : List Goal → List ℕ → Option (List ℕ)
written goals body = option_map (tuned_report goals) (result_ok (script_of (setup ++ body ++ codes "end\n")))

-- commits of a metric that is half of the target, and of one that is twice the target
abbrev half : List ℕ
half = codes "commit\nmetric 50\napply\n"

abbrev twice : List ℕ
twice = codes "commit\nmetric 200\napply\n"

-- the line of a commit, and the last line of a report
abbrev accepted : List ℕ
accepted = codes "commit tick=0 ok rows=3 void=no\n"

abbrev last : List ℕ
last = codes "end ticks=0 rows=3 checks=0 hits=0\n"

-- half of the target leaves the bytes at the top, and twice the target leaves the low bound
falls_to_the_low_bound : written (goal ∷ []) (half ++ twice) ≡ Some (accepted ++ accepted ++ accepted ++ last ++ codes "tuned 0 bytes=4096\n")
unfolding digits slot_count
falls_to_the_low_bound = refl

-- then half of the target asks for half as many bytes more
rises_again : written (goal ∷ []) (half ++ twice ++ half)
    ≡ Some (accepted ++ accepted ++ accepted ++ accepted ++ accepted ++ last ++ codes "tuned 0 bytes=6144\n")
unfolding digits slot_count
rises_again = refl

-- a slot that is not set is not tunable
none_is_written : written (record { slot = 3; kind = Hot; target = 100; low = 0; high = 1 } ∷ []) [] ≡ Some (last ++ codes "tuned 3 bytes=none\n")
unfolding digits slot_count
none_is_written = refl
