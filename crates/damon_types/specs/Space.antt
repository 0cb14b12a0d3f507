-- A space as its list of targets.
use Rattle.std.specs.Prelude.{◌≡◌, ◌⊎◌, ℕ, ◌+◌, ◌-◌, ◌*◌, ◌/◌, ◌%◌, ◌<◌, ◌≤◌, ◌&&◌, All, ◌==◌, nat_lt, nat_le, List, [], ◌∷◌, length, take, sum_by, slice_get, Option, Some, None, Result, Ok, Err, if◌then◌else◌}
use Rattle.std.specs.Result.{result_and}
use Rattle.damon_types.specs.declared.space.TheConstants.{ADDRESS_END, MAX_PAGES, MAX_TARGETS, PAGE_SIZE}
use Rattle.damon_types.specs.declared.space.Target.{Target}
use Rattle.damon_types.specs.declared.space.SpaceFault.{SpaceFault}
use Rattle.damon_types.specs.declared.space.SpaceFault.TheVariants.{NoTarget, TooManyTargets, BadPages, BadBase, TooManyPages, Memory}
use Rattle.damon_types.specs.declared.space.Place.{Place}

-- the pages of all targets
abbrev pub pages_of : List Target → ℕ
pages_of ts = sum_by (λ t. t.pages) ts

-- the first page of target i
abbrev pub offset : List Target → ℕ → ℕ
offset ts i = pages_of (take i ts)

-- the page of the byte at an address, if there is a target and the byte lies in it; the target's first page has this number
abbrev pub page_in : ℕ → ℕ → Option Target → Option ℕ
page_in first addr None = None
page_in first addr (Some t) =
    if nat_le t.base addr && nat_lt addr (t.base + PAGE_SIZE * t.pages) then Some (first + (addr - t.base) / PAGE_SIZE) else None

-- the page that holds the byte at an address of target i, if there is one
abbrev pub page_of : List Target → ℕ → ℕ → Option ℕ
page_of ts i addr = page_in (offset ts i) addr (slice_get ts i)

-- the place of a page of these targets, the first of which has index i; pages are counted from its first
abbrev pub place_from : ℕ → List Target → ℕ → Place
place_from i [] page = record { target = i; addr = 0 }
place_from i (t ∷ ts) page =
    if nat_lt page t.pages then record { target = i; addr = t.base + PAGE_SIZE * page }
    else place_from (i + 1) ts (page - t.pages)

-- the place of a page
abbrev pub place_of : List Target → ℕ → Place
place_of ts page = place_from 0 ts page

-- a target within its limits
pub record IsTarget (t : Target) : Type 0 where
  pub some : 1 ≤ t.pages
  pub few : t.pages ≤ MAX_PAGES
  pub aligned : t.base % PAGE_SIZE ≡ 0
  pub end : t.base + PAGE_SIZE * t.pages ≤ ADDRESS_END

-- targets within their limits
pub record IsSpace (ts : List Target) : Type 0 where
  pub some : 0 < length ts
  pub few : length ts ≤ MAX_TARGETS
  pub each : All IsTarget ts
  pub total : pages_of ts ≤ MAX_PAGES

-- the first limit that the target with index i breaks
abbrev pub checked_target : ℕ → Target → Result (Unit {0}) SpaceFault
checked_target i t =
    if nat_le 1 t.pages && nat_le t.pages MAX_PAGES then
    (if (t.base % PAGE_SIZE == 0) && nat_le (t.base + PAGE_SIZE * t.pages) ADDRESS_END then Ok tt else Err (BadBase i))
    else Err (BadPages i)

-- the first limit that a target of a list breaks, the first of which has index i
abbrev pub checked_targets_from : ℕ → List Target → Result (Unit {0}) SpaceFault
checked_targets_from i [] = Ok tt
checked_targets_from i (t ∷ ts) = result_and (checked_target i t) (checked_targets_from (i + 1) ts)

-- the first limit that a list of targets breaks: their number, then each target in order, then their pages in all
abbrev pub checked : List Target → Result (Unit {0}) SpaceFault
checked ts =
    if length ts == 0 then Err NoTarget
    else if nat_lt MAX_TARGETS (length ts) then Err (TooManyTargets (length ts))
    else result_and (checked_targets_from 0 ts) (if nat_le (pages_of ts) MAX_PAGES then Ok tt else Err (TooManyPages (pages_of ts)))

-- the result is the number of pages of the targets, or the first limit that they break
abbrev pub ChecksTo : List Target → Result ℕ SpaceFault → Type 0
ChecksTo ts (Ok pages) = (checked ts ≡ Ok tt) × IsSpace ts × (pages ≡ pages_of ts)
ChecksTo ts (Err e) = checked ts ≡ Err e

-- the result is these targets, or the first limit that they break; Memory comes only where they break none
abbrev pub MadeOf : List Target → Result (List Target) SpaceFault → Type 0
MadeOf ts (Ok made) = (made ≡ ts) × (checked ts ≡ Ok tt)
MadeOf ts (Err e) = (checked ts ≡ Err e) ⊎ ((e ≡ Memory) × (checked ts ≡ Ok tt))
