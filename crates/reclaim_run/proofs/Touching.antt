-- Touches of pages one after another.
use Rattle.std.proofs.Common.{◌≡◌, ℕ, zero, suc, ◌+◌, ◌<◌, false, length, length-set, ◌∙◌, arith}
use Rattle.damon_types.specs.Space.{pages_of}
use Rattle.damon_core.specs.After.{after}
use Rattle.damon_core.specs.Event.{touch}
use Rattle.damon_core.specs.Reached.{AllFit}
use Rattle.damon_core.specs.State.{State}
use Rattle.damon_world.specs.Touches.{touches}
use Rattle.reclaim_module.specs.Calls.{after_touch, touched_run}
use Rattle.reclaim_module.specs.Pages.{ReclaimView}
use Rattle.reclaim_module.specs.Stands.{after_events}
use Rattle.reclaim_module.proofs.Lemmas.{touched_first, touched_none}

-- touches that fit are of pages of the space
pub touches_are_within : (page n : ℕ) (s : State) → AllFit s (touches page n) → (i : ℕ) → i < n → page + i < pages_of s.core.space
touches_are_within page zero s fit i below = absurd (omega (arith, below))
touches_are_within page (suc n) s fit zero below = omega (arith, fit.0)
touches_are_within page (suc n) s fit (suc i) below = omega (arith, touches_are_within (page + 1) n (after s (touch page)) fit.1 i (omega (arith, below)))

-- a run of pages that is touched is its touches, one after another
pub run_is_touches : (page n : ℕ) (s : State) (r : ReclaimView) → ((i : ℕ) → i < n → page + i < length r.out) → touched_run page n r ≡ after_events (touches page n) s r
run_is_touches page zero s r within = touched_none page r
run_is_touches page (suc n) s r within =
    touched_first page n r (omega (arith, within 0 (omega arith)))
    ∙ run_is_touches (page + 1) n (after s (touch page)) (after_touch page r) (λ i below. omega (arith, within (suc i) (omega (arith, below)), length-set r.out page false))
