-- What holds of each state that is reached.
use Rattle.std.specs.Prelude.{◌≡◌, ℕ, ◌+◌, ◌≤◌, ◌<◌, Bool, true, List, [], ◌∷◌, ◌++◌, Contains, Some, IfSome}
use Rattle.std.specs.List.{AllZip, enumerate_from}
use Rattle.damon_types.specs.Span.{Span, spans}
use Rattle.region_list.specs.Tiles.{Tiles}
use Rattle.damon_types.specs.declared.scheme.Scheme.{Scheme}
use Rattle.quota_charge.specs.Quota.{effective_pages}
use Rattle.scheme_engine.specs.declared.applied.AppliedRun.{AppliedRun}
use Rattle.damon_core.specs.Note.{Note, touched, cleared, checked, finished, voided, ran, clears_of, checks_of}
use Rattle.damon_core.specs.Slots.{charged_of, cost_of, is_active_in, pages_in, scheme_of}
use Rattle.damon_core.specs.State.{State, row_count}

-- The pass cleared one page of each row, which lies in it, and checked the same page of each row, in order and once each.
pub record ChecksEachRow (notes : List Note) (pass : ℕ) (rows : List Span) : Type 0 where
  pub pages : List ℕ
  pub one_in_each : AllZip (λ p s. (s.start ≤ p) × (p < s.start + s.pages)) pages rows
  pub cleared : clears_of notes pass ≡ enumerate_from 0 pages
  pub checked : checks_of notes pass ≡ enumerate_from 0 pages

-- A run of a slot's scheme, after these notes: the slot is set and active, and where its scheme has a quota and is applied to a
-- page, the pages charged to the slot with these are at most the effective quota, by the cost before this run. Each of the runs of
-- pages has a page, so it is applied to a page exactly where there is one.
pub record IsRunWithin (earlier : List Note) (slot : ℕ) (runs : List AppliedRun) : Type 0 where
  pub scheme : Scheme
  pub is_set : scheme_of earlier slot ≡ Some scheme
  pub active : is_active_in earlier slot scheme ≡ true
  pub within : 1 ≤ pages_in runs → IfSome scheme.quota (λ q. charged_of earlier slot + pages_in runs ≤ effective_pages q (cost_of earlier slot))

-- The rows tile their ranges with at least `unit` pages each; there are at most `max`, which is the maximum of
-- the attributes and of the regions alike and at most `cap`; each finished pass checks one page of each row, and a void one
-- checks nothing; each check that was a hit rests on a touch of its page since the pass cleared it; and each run of a scheme is
-- within its quota.
pub record Bound (s : State) : Type 0 where
  pub tiles : Tiles s.core.regions.ranges (spans s.core.regions.rows) s.core.regions.unit
  pub few : row_count s.core ≤ s.core.attrs.max
  pub max : s.core.regions.max ≡ s.core.attrs.max
  pub most : s.core.attrs.max ≤ s.core.regions.cap
  pub passes : (pass : ℕ) (rows : List Span) → Contains s.notes (finished pass rows) → ChecksEachRow s.notes pass rows
  pub voids : (pass : ℕ) → Contains s.notes (voided pass) → checks_of s.notes pass ≡ []
  pub hits :
      (later earlier : List Note) (pass k page : ℕ) → s.notes ≡ later ++ checked pass k page true ∷ earlier
      → (since : List Note) × (before : List Note) × (earlier ≡ since ++ touched page ∷ before) × Contains before (cleared pass k page)
  pub runs :
      (later earlier : List Note) (slot tick tried : ℕ) (applied : List AppliedRun) (exceeds : Bool)
      → s.notes ≡ later ++ ran slot tick tried applied exceeds ∷ earlier → IsRunWithin earlier slot applied
