-- What an aggregation applies, and that what goes out fits in 64 bits.
use Rattle.std.proofs.Common.{◌≡◌, ℕ, ◌+◌, ◌*◌, ◌^◌, ◌≤◌, ◌<◌, List, [], ◌∷◌, length, refl, sym, ap, subst, ◌∙◌, arith}
use Rattle.std.specs.List.{AllByRecursion}
use Rattle.std.proofs.lemmas.Nat.{mul-le}
use Rattle.damon_types.specs.declared.scheme.TheConstants.{MAX_SLOT}
use Rattle.damon_types.specs.Space.{IsSpace, pages_of}
use Rattle.damon_types.proofs.Lemmas.{all_weaker}
use Rattle.scheme_engine.specs.declared.applied.AppliedRun.{AppliedRun}
use Rattle.scheme_engine.specs.Slots.{SlotValue}
use Rattle.damon_core.specs.After.{after}
use Rattle.damon_core.specs.Aggregate.{aggregated, served}
use Rattle.damon_core.specs.Event.{aggregate}
use Rattle.damon_core.proofs.Lemmas.{Reached-run}
use Rattle.damon_core.specs.Slots.{slots_of}
use Rattle.damon_core.specs.Stands.{MonitorView}
use Rattle.damon_core.specs.State.{Core, State}
use Rattle.script_run.specs.Calls.{IsAggregated}
use Rattle.reclaim_module.specs.Pages.{ReclaimView}
use Rattle.reclaim_module.specs.Stands.{after_applied, after_event}
use Rattle.reclaim_run.specs.Stands.{Models}
use Rattle.reclaim_module.proofs.Lemmas.{applied_alike, few_went_out, runs_of_slots, schemes_stay, space_stays}
use Rattle.reclaim_run.proofs.Following.{models_follow}

-- 16 times the pages of a space in each of fewer than 2^40 passes
few_fit : (n pages ticks : ℕ) → n ≤ ticks * (16 * pages) → pages ≤ 1048576 → ticks < 2 ^ 40 → n < 2 ^ 64
few_fit n pages ticks most few short =
    omega (arith, most, mul-le ticks (16 * pages) 1099511627775 (16 * 1048576) (omega (arith, short)) (omega (arith, few)))

module _ (old : ReclaimView) (m : MonitorView) (memory : List ℕ) (s : State) (words : List ℕ)
    (is : IsAggregated (λ memory t. Models old t) m memory s words) where
  -- the runs that the monitor reports are those that were applied
  reported : (runs : List AppliedRun) → runs ≡ m.core.report.runs → runs ≡ (served s).runs
  reported runs shown = shown ∙ ap (λ (q : Core). q.report.runs) is.shows.same

  pub slots_few : (runs : List AppliedRun) → runs ≡ m.core.report.runs → AllByRecursion (λ run. run.slot ≤ MAX_SLOT) runs
  slots_few runs shown = subst (AllByRecursion (λ run. run.slot ≤ MAX_SLOT)) (sym (reported runs shown)) (runs_of_slots s)

  same_space : m.core.space ≡ s.core.space
  same_space = ap (λ (q : Core). q.space) is.shows.same ∙ space_stays (aggregate words) s

  pub runs_within : (runs : List AppliedRun) → runs ≡ m.core.report.runs
      → AllByRecursion (λ r. (1 ≤ r.pages) × (r.start + r.pages ≤ pages_of m.core.space)) m.core.report.runs
      → AllByRecursion (λ run. run.start + run.pages ≤ length old.out) runs
  runs_within runs shown all =
      let pages : pages_of m.core.space ≡ length old.out = ap pages_of same_space ∙ sym is.stood.pages in
      subst (AllByRecursion (λ run. run.start + run.pages ≤ length old.out)) (sym shown)
      (all_weaker (λ r. (1 ≤ r.pages) × (r.start + r.pages ≤ pages_of m.core.space)) (λ run. run.start + run.pages ≤ length old.out) (λ run within. omega (arith, within.1, pages)) m.core.report.runs all)

  -- what the runs make of the model
  pub applied_is : (runs : List AppliedRun) → runs ≡ m.core.report.runs
      → after_applied (aggregated words s).notes runs old ≡ after_event (aggregate words) s old
  applied_is runs shown =
      ap (λ all. after_applied (aggregated words s).notes all old) (reported runs shown)
      ∙ applied_alike (aggregated words s).notes s.notes (served s).runs old (schemes_stay words s)

  -- the model after it stands for the state after it
  pub stands_after : (new : ReclaimView) (runs : List AppliedRun) → runs ≡ m.core.report.runs
      → new ≡ after_applied (aggregated words s).notes runs old → Models new (after s (aggregate words))
  stands_after new runs shown made =
      models_follow (aggregate words ∷ []) s old new (made ∙ applied_is runs shown) is.stood (is.fits, tt)

  -- and what went out fits
  pub few_go_out : (runs : List AppliedRun) → runs ≡ m.core.report.runs → IsSpace m.core.space
      → (after_applied (aggregated words s).notes runs old).counts.pageouts < 2 ^ 64
  few_go_out runs shown space =
      let next = after s (aggregate words) in
      let new = after_applied (aggregated words s).notes runs old in
      let here : Models new next = stands_after new runs shown refl in
      let most = few_went_out (length new.out) next (Reached-run s (aggregate words ∷ []) is.reached (is.fits, tt)) in
      let pages = subst (λ ts. pages_of ts ≤ 1048576) (ap (λ (q : Core). q.space) is.shows.same) space.total in
      few_fit new.counts.pageouts (length new.out) next.core.ticks (omega (arith, here.stands.pageouts, most)) (omega (arith, pages, here.pages)) (omega (arith, is.few))

  -- the slots of the monitor after it
  pub slots_after : (slots : List SlotValue) → slots ≡ m.slots → slots ≡ slots_of (aggregated words s).notes
  slots_after slots shown = shown ∙ is.shows.slots
