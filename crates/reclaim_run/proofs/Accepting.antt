-- The commit of the share is accepted: there are no more ranges than regions allowed.
use Rattle.std.proofs.Common.{◌≡◌, ℕ, ◌≤◌, Bool, List, [], ◌∷◌, length, Result, Ok, Err, refl, sym, ap, ◌∙◌, subst, arith}
use Rattle.std.specs.Result.{result_and}
use Rattle.std.proofs.lemmas.Bool.Decides.{nat_tests}
use Rattle.damon_types.proofs.Lemmas.{both_ok}
use Rattle.live_commit.specs.declared.fault.CommitFault.{CommitFault}
use Rattle.live_commit.specs.declared.phase.Phase.{Phase}
use Rattle.live_commit.specs.declared.phase.Phase.TheVariants.{Idle, Clearing, Armed, Checking, Void}
use Rattle.live_commit.specs.Accepts.{checked_cost, checked_new_attrs, checked_new_ranges, checked_new_slot, checked_number, checked_phase, max_after, ranges_after}
use Rattle.live_commit.specs.Commit.{CommitValue}
use Rattle.damon_core.specs.After.{after, by_clear, by_load, by_observe}
use Rattle.damon_core.specs.Commit.{check_of, committed, if_accepted, view_of}
use Rattle.damon_core.specs.Event.{Event, clear, load, observe, aggregate, commit}
use Rattle.damon_core.specs.Reached.{run}
use Rattle.damon_core.specs.State.{Core, State, opening, row_count}
use Rattle.damon_core.proofs.Lemmas.{few_after}
use Rattle.damon_control.specs.Script.{ScriptValue}
use Rattle.damon_control.specs.Sound.{IsSound}
use Rattle.script_run.specs.Course.{going_with, with_puts}
use Rattle.script_run.proofs.Lemmas.{onward-state}
use Rattle.script_run.specs.Going.{onward}
use Rattle.script_run.specs.PutIn.{AllAccepted, PutsAreAccepted}
use Rattle.script_run.specs.RunWith.{start_with}
use Rattle.reclaim_run.specs.Reclaimed.{figures_in, metric_commit, pages_in, reclaim_callbacks, share_after, thousandths}

-- ---- there are no more ranges than regions allowed

abbrev RangesAreFew : State → Type 0
RangesAreFew s = length s.core.regions.ranges ≤ s.core.attrs.max

number_fits : (ranges max : ℕ) → checked_number ranges max ≡ Ok tt → ranges ≤ max
number_fits ranges max ok = grind (arith, nat_tests)

few_committed : (parts : CommitValue) (s : State) (check : Result (Unit {0}) CommitFault) → check_of parts s.core ≡ check → RangesAreFew s → RangesAreFew (if_accepted check (committed parts s) s)
few_committed parts s (Err fault) is few = few
few_committed parts s (Ok t) is few =
    let c = s.core in
    let v = view_of c in
    let slot_and_cost = result_and (checked_new_slot c.version parts.slot) (checked_cost c.version parts.cost) in
    let number = checked_number (ranges_after parts.ranges v.ranges) (max_after parts.attrs v.max) in
    let later = result_and number (result_and (checked_new_attrs v.cap parts.attrs) slot_and_cost) in
    let phase = both_ok (checked_phase c.phase (row_count c)) (result_and (checked_new_ranges c.space v.unit v.cap parts.ranges) later) is in
    let ranges = both_ok (checked_new_ranges c.space v.unit v.cap parts.ranges) later phase.1 in
    few_after c parts.attrs parts.ranges parts.slot parts.metric parts.cost (number_fits (ranges_after parts.ranges v.ranges) (max_after parts.attrs v.max) (both_ok number _ ranges.1).0)

few_cleared : (phase : Phase) (s : State) → RangesAreFew s → RangesAreFew (by_clear phase s)
few_cleared (Clearing k) s few = few
few_cleared _ s few = few

few_loaded : (phase : Phase) (hit : Bool) (s : State) → RangesAreFew s → RangesAreFew (by_load phase hit s)
few_loaded Armed hit s few = few
few_loaded (Checking k) hit s few = few
few_loaded _ hit s few = few

few_observed : (phase : Phase) (s : State) → RangesAreFew s → RangesAreFew (by_observe phase s)
few_observed (Checking k) s few = few
few_observed Void s few = few
few_observed _ s few = few

few_then : (e : Event) (s : State) → RangesAreFew s → RangesAreFew (after s e)
few_then clear s few = few_cleared s.core.phase s few
few_then (load hit) s few = few_loaded s.core.phase hit s few
few_then observe s few = few_observed s.core.phase s few
few_then (commit parts) s few = few_committed parts s (check_of parts s.core) refl few
few_then _ s few = few

few_run : (es : List Event) (s : State) → RangesAreFew s → RangesAreFew (run s es)
few_run [] s few = few
few_run (e ∷ es) s few = few_run es (after s e) (few_then e s few)

-- ---- so the commit of a metric is accepted

number_is_few : (ranges max : ℕ) → ranges ≤ max → checked_number ranges max ≡ Ok tt
number_is_few ranges max few = grind (arith, nat_tests)

metric_accepted : (c : Core) (value : ℕ) → c.phase ≡ Idle → length c.regions.ranges ≤ c.attrs.max → check_of (metric_commit value) c ≡ Ok tt
metric_accepted c value idle few =
    let number = checked_number (length c.regions.ranges) c.attrs.max in
    ap (λ ph. result_and (checked_phase ph (row_count c)) (result_and number (Ok tt))) idle
    ∙ ap (λ r. result_and r (Ok tt)) (number_is_few (length c.regions.ranges) c.attrs.max few)

share_accepted : (s : State) (e : Event) → RangesAreFew s → AllAccepted (after s e) (share_after (after s e) e)
share_accepted s (aggregate words) few =
    let t = after s (aggregate words) in
    (metric_accepted t.core (thousandths (figures_in t).out (pages_in t)) refl (few_then (aggregate words) s few), tt)
share_accepted s _ few = tt

pub shares_accepted : (s : ScriptValue) → IsSound s → PutsAreAccepted reclaim_callbacks s
shares_accepted s sound made rest e own =
    let r = onward (going_with reclaim_callbacks) (start_with reclaim_callbacks s) made in
    let all = with_puts reclaim_callbacks (start_with reclaim_callbacks s) made in
    let first : RangesAreFew (opening s.setup) = sound.setup.ranges_most in
    let few : RangesAreFew r.moment.state = subst RangesAreFew (sym (onward-state reclaim_callbacks (start_with reclaim_callbacks s) made)) (few_run all (opening s.setup) first) in
    share_accepted r.moment.state e few
