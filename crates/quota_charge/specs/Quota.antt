-- Quotas in pages.
use Rattle.std.specs.Prelude.{ℕ, ◌-◌, ◌*◌, ◌/◌, Bool, ◌&&◌, min, nat_le, nat_lt, Option, Some, None, if◌then◌else◌}
use Rattle.std.specs.Option.{option_map}
use Rattle.damon_types.specs.declared.space.TheConstants.{PAGE_SIZE}
use Rattle.damon_types.specs.declared.scheme.Quota.{Quota}
use Rattle.quota_charge.specs.declared.cost.Cost.{Cost}

-- a number of pages, or as many as a time allows at this cost where these are fewer; a cost says how long a page takes where it has
-- both pages and nanoseconds
abbrev pub within_time : Option ℕ → Cost → ℕ → ℕ
within_time None cost pages = pages
within_time (Some time) cost pages =
    if nat_lt 0 cost.pages && nat_lt 0 cost.nanos then min pages (time * cost.pages / cost.nanos) else pages

-- the effective quota: its whole pages, or those that its time allows where these are fewer
abbrev pub effective_pages : Quota → Cost → ℕ
effective_pages q cost = within_time q.time cost (q.bytes / PAGE_SIZE)

-- the pages that are left of a quota once some are charged, 0 where these are more than it allows; None without a quota
abbrev pub left_of : Option Quota → Cost → ℕ → Option ℕ
left_of quota cost charged = option_map (λ q. effective_pages q cost - charged) quota

-- whether a window that began at tick `start` has ended at a tick: at least the quota's reset interval has passed
abbrev pub has_ended : Quota → ℕ → ℕ → Bool
has_ended q start tick = nat_le q.reset (tick - start)
