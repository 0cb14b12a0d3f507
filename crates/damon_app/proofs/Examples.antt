-- What words ask for, worked out by hand.
use Rattle.std.proofs.Common.{◌≡◌, ℕ, List, [], ◌∷◌, Some, None, codes, refl}
use Rattle.std.specs.Prelude.{replicate}
use Rattle.quota_goal.specs.declared.goals.Goal.{Goal}
use Rattle.quota_goal.specs.declared.goals.GoalKind.TheVariants.{Metric, Hot}
use Rattle.damon_app.specs.GoalWords.{goal_of, goals_of}
use Rattle.damon_app.specs.Request.{request_of}
use Rattle.damon_app.specs.declared.request.Request.TheVariants.{Report, Admin}
use Rattle.damon_app.specs.declared.request.Run.TheVariants.{Reclaim, Tune}

abbrev metric_word : List ℕ
metric_word = codes "0:metric:100:4096:81920"

abbrev metric_goal : Goal
metric_goal = record { slot = 0; kind = Metric; target = 100; low = 4096; high = 81920 }

-- ---- goals

a_metric : goal_of metric_word ≡ Some metric_goal
a_metric = refl

the_greatest_numbers : goal_of (codes "15:hot:4294967295:18446744073709551615:18446744073709551615")
    ≡ Some (record { slot = 15; kind = Hot; target = 4294967295; low = 18446744073709551615; high = 18446744073709551615 })
the_greatest_numbers = refl

slot_16 : goal_of (codes "16:metric:100:0:1") ≡ None
slot_16 = refl

another_spelling : goal_of (codes "00:metric:100:0:1") ≡ None
another_spelling = refl

another_kind : goal_of (codes "0:warm:100:0:1") ≡ None
another_kind = refl

no_target : goal_of (codes "0:metric:0:0:1") ≡ None
no_target = refl

bounds_out_of_order : goal_of (codes "0:metric:100:2:1") ≡ None
bounds_out_of_order = refl

four_fields : goal_of (codes "0:metric:100:0") ≡ None
four_fields = refl

six_fields : goal_of (codes "0:metric:100:0:1:") ≡ None
six_fields = refl

sixteen_goals : goals_of (replicate 16 metric_word) ≡ Some (replicate 16 metric_goal)
sixteen_goals = refl

seventeen_goals : goals_of (replicate 17 metric_word) ≡ None
seventeen_goals = refl

-- ---- requests

admin_alone : request_of (codes "admin" ∷ []) ≡ Some Admin
admin_alone = refl

admin_and_a_word : request_of (codes "admin" ∷ codes "1" ∷ []) ≡ None
admin_and_a_word = refl

reclaim_alone : request_of (codes "reclaim" ∷ []) ≡ Some (Report Reclaim)
reclaim_alone = refl

reclaim_and_a_word : request_of (codes "reclaim" ∷ codes "1" ∷ []) ≡ None
reclaim_and_a_word = refl

tune_with_a_goal : request_of (codes "tune" ∷ metric_word ∷ []) ≡ Some (Report (Tune (metric_goal ∷ [])))
tune_with_a_goal = refl

tune_alone : request_of (codes "tune" ∷ []) ≡ None
tune_alone = refl
