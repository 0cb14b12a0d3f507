-- What a commit leaves of the phase, and of the number of ranges.
use Rattle.std.proofs.Common.{◌≡◌, ℕ, ◌≤◌, true, false, cond, List, length, Option, Some, None, Ok, Err, refl, sym, subst}
use Rattle.std.specs.Prelude.{Result}
use Rattle.std.proofs.lemmas.List.{length-map}
use Rattle.damon_types.specs.declared.attrs.Attrs.{Attrs}
use Rattle.damon_types.specs.declared.range.RangeSpec.{RangeSpec}
use Rattle.damon_types.specs.declared.row.Row.{Row}
use Rattle.damon_types.specs.declared.scheme.CostPart.{CostPart}
use Rattle.damon_types.specs.declared.scheme.SlotChange.{SlotChange}
use Rattle.target_ranges.specs.Made.{range_of}
use Rattle.live_commit.specs.declared.fault.CommitFault.{CommitFault}
use Rattle.live_commit.specs.declared.phase.Phase.{Phase}
use Rattle.live_commit.specs.declared.phase.Phase.TheVariants.{Idle, Clearing, Armed, Checking, Due, Void as VoidPhase}
use Rattle.live_commit.specs.Accepts.{max_after, ranges_after}
use Rattle.live_commit.specs.Commit.{CommitValue}
use Rattle.damon_core.specs.Commit.{becomes_void, committed_core, if_accepted, phase_after_commit}
use Rattle.damon_core.specs.State.{Core}

-- there are no more ranges than regions allowed
pub few_after : (c : Core) (attrs : Option Attrs) (ranges : Option (List RangeSpec)) (slot : Option SlotChange) (metric : Option ℕ) (cost : Option CostPart)
    → ranges_after ranges (length c.regions.ranges) ≤ max_after attrs c.attrs.max
    → (let parts : CommitValue = record { attrs = attrs; ranges = ranges; slot = slot; metric = metric; cost = cost } in
    length (committed_core parts c).regions.ranges ≤ (committed_core parts c).attrs.max)
few_after c None None slot metric cost few = few
few_after c None (Some specs) slot metric cost few = subst (λ n. n ≤ c.attrs.max) (sym (length-map specs (range_of c.space))) few
few_after c (Some a) None slot metric cost few = few
few_after c (Some a) (Some specs) slot metric cost few = subst (λ n. n ≤ a.max) (sym (length-map specs (range_of c.space))) few

-- what is the same of an armed and of a void pass stays as it is in a commit
pub kept_if_void : (f : Phase → ℕ) → f Armed ≡ f VoidPhase → (old new : List Row) (ph : Phase) → f (phase_after_commit ph old new) ≡ f ph
kept_if_void f same old new Armed = elim (becomes_void Armed old new) as (λ b. f (cond b VoidPhase Armed) ≡ f Armed) [ true ↦ sym same | false ↦ refl ]
kept_if_void f same old new Idle = refl
kept_if_void f same old new (Clearing k) = refl
kept_if_void f same old new (Checking k) = refl
kept_if_void f same old new VoidPhase = refl
kept_if_void f same old new Due = refl

pub phase_kept : (f : Phase → ℕ) → f Armed ≡ f VoidPhase → (parts : CommitValue) (r : Result (Unit {0}) CommitFault) (c : Core) → f (if_accepted r (committed_core parts c) c).phase ≡ f c.phase
phase_kept f same parts (Ok t) c = kept_if_void f same c.regions.rows (committed_core parts c).regions.rows c.phase
phase_kept f same parts (Err fault) c = refl
