-- Worked examples of quotas and windows, computed by hand.
use Rattle.std.proofs.Common.{◌≡◌, ℕ, Some, None, refl}
use Rattle.damon_types.specs.declared.scheme.Quota.{Quota}
use Rattle.quota_charge.specs.declared.cost.Cost.{Cost}
use Rattle.quota_charge.specs.declared.window.Window.{Window}
use Rattle.quota_charge.specs.Quota.{effective_pages, left_of}
use Rattle.quota_charge.specs.Window.{turned}

abbrev quota : ℕ → ℕ → Quota
quota bytes reset = record { bytes = bytes; reset = reset; time = None }

abbrev cost : ℕ → ℕ → Cost
cost pages nanos = record { pages = pages; nanos = nanos }

-- 40,960 bytes in 1,000 ns
abbrev timed : Quota
timed = record { bytes = 40960; reset = 10; time = Some 1000 }

abbrev window : ℕ → ℕ → Window
window start charged = record { start = start; charged = charged }

whole_pages : effective_pages (quota 12289 40) (cost 8 4000) ≡ 3
whole_pages = refl

less_than_a_page : effective_pages (quota 4095 40) (cost 0 0) ≡ 0
less_than_a_page = refl

some_left : left_of (Some (quota 12289 40)) (cost 0 0) 1 ≡ Some 2
some_left = refl

-- more is charged than the quota, which was lowered, allows
nothing_left : left_of (Some (quota 8192 40)) (cost 0 0) 3 ≡ Some 0
nothing_left = refl

-- the same quota in the next window
whole_quota_left : left_of (Some (quota 8192 40)) (cost 0 0) 0 ≡ Some 2
whole_quota_left = refl

no_quota : left_of None (cost 0 0) 3 ≡ None
no_quota = refl

time_allows : effective_pages timed (cost 8 4000) ≡ 2
time_allows = refl

time_used_up : left_of (Some timed) (cost 8 4000) 3 ≡ Some 0
time_used_up = refl

no_nanoseconds : effective_pages timed (cost 8 0) ≡ 10
no_nanoseconds = refl

no_pages : effective_pages timed (cost 0 4000) ≡ 10
no_pages = refl

-- the reset interval of 40 ticks
too_early : turned (quota 8192 40) 39 (window 0 3) ≡ window 0 3
too_early = refl

in_time : turned (quota 8192 40) 40 (window 0 3) ≡ window 40 0
in_time = refl

late : turned (quota 8192 40) 60 (window 0 3) ≡ window 60 0
late = refl

-- an interval begins where the window does
next_window : turned (quota 8192 40) 79 (window 40 2) ≡ window 40 2
next_window = refl
