-- How many pages went out at most in each state that is reached.
use Rattle.std.proofs.Common.{◌≡◌, ℕ, zero, suc, ◌+◌, ◌*◌, ◌≤◌, Bool, true, false, not, ◌&&◌, List, [], ◌∷◌, refl, ap, subst, ◌∙◌, arith}
use Rattle.std.specs.Prelude.{◌==◌, Result, Ok, Err, if◌then◌else◌}
use Rattle.std.specs.List.{AllByRecursion}
use Rattle.std.proofs.lemmas.Nat.{mul-le}
use Rattle.damon_types.specs.declared.scheme.Scheme.{Scheme}
use Rattle.damon_types.specs.declared.space.Target.{Target}
use Rattle.region_list.specs.Regions.{RegionList}
use Rattle.live_commit.specs.declared.fault.CommitFault.{CommitFault}
use Rattle.live_commit.specs.declared.phase.Phase.{Phase}
use Rattle.live_commit.specs.declared.phase.Phase.TheVariants.{Clearing, Armed, Checking, Void, Due}
use Rattle.live_commit.specs.Commit.{CommitValue}
use Rattle.scheme_engine.specs.Outcome.{outcome_of}
use Rattle.damon_core.specs.After.{after, by_clear, by_load, by_observe, phase_after_pass}
use Rattle.damon_core.specs.Aggregate.{merged_regions}
use Rattle.damon_core.specs.Commit.{becomes_void, check_of, committed, if_accepted}
use Rattle.damon_core.specs.Event.{Event, Fits, touch, clear, load, observe, aggregate, commit}
use Rattle.damon_core.specs.Note.{Note, ran}
use Rattle.damon_core.specs.Reached.{AllFit, Reached, run}
use Rattle.damon_core.specs.Serve.{left_then, serve_slot, serve_slots, with_turn}
use Rattle.damon_core.specs.Slots.{slot_count}
use Rattle.damon_core.specs.State.{Core, State, opening, opening_notes, row_count}
use Rattle.page_bits.proofs.Lemmas.{count_none}
use Rattle.reclaim_module.specs.Counts.{pageouts_of}
use Rattle.reclaim_module.specs.Out.{is_out, is_paged_out}
use Rattle.reclaim_module.specs.Stands.{LeavesPages, MovesNothing}
use Rattle.reclaim_module.proofs.Moving.{count_le}
use Rattle.reclaim_module.proofs.Serving.{opening_is_still, other_keeps, slot_by, turn_keeps}
use Rattle.reclaim_module.proofs.Standing.{still_by, still_pageouts}

-- each note pages out each page once at most, and most notes none
note_few : (pages : ℕ) (note : Note) (notes : List Note) → pageouts_of pages (note ∷ notes) ≤ pageouts_of pages notes + pages
note_few pages note notes = omega (arith, count_le pages (λ p. is_paged_out notes note p && not (is_out notes p)))

still_few : (pages most : ℕ) (note : Note) (notes : List Note) → MovesNothing note → pageouts_of pages notes ≤ most → pageouts_of pages (note ∷ notes) ≤ most
still_few pages most note notes m few = omega (arith, few, still_pageouts pages note notes (still_by note notes m))

-- so does serving a slot
slot_few : (pages slot : ℕ) (space : List Target) (aggr tick : ℕ) (regions : RegionList) (notes : List Note) → pageouts_of pages (serve_slot slot space aggr tick regions notes).notes ≤ pageouts_of pages notes + pages
slot_few pages slot space aggr tick regions notes =
    let most = pageouts_of pages notes in
    let turned = λ (scheme : Scheme). turn_keeps (λ ns. pageouts_of pages ns ≤ most) (still_few pages most) slot tick scheme.quota notes (omega arith) in
    slot_by slot space aggr tick regions notes (λ y. pageouts_of pages y.notes ≤ most + pages) (omega arith) (λ scheme held. omega (arith, turned scheme)) (λ scheme held.
    let o = outcome_of slot space aggr scheme (left_then slot tick notes scheme) regions in
    omega (arith, turned scheme, note_few pages (ran slot tick o.tried o.runs o.exceeds) (with_turn slot tick scheme.quota notes)))

slots_few : (pages n slot : ℕ) (space : List Target) (aggr tick : ℕ) (regions : RegionList) (notes : List Note) → pageouts_of pages (serve_slots n slot space aggr tick regions notes).notes ≤ pageouts_of pages notes + n * pages
slots_few pages zero slot space aggr tick regions notes = omega arith
slots_few pages (suc n) slot space aggr tick regions notes =
    let first = serve_slot slot space aggr tick regions notes in
    let sum : suc n * pages ≡ n * pages + pages = grind arith in
    omega (arith, slot_few pages slot space aggr tick regions notes, slots_few pages n (slot + 1) space aggr tick (record regions { rows = first.rows }) first.notes, sum)

pub sixteen : slot_count ≡ 16
unfolding slot_count
sixteen = refl

-- 1 where an aggregation is due
abbrev due : Phase → ℕ
due Due = 1
due _ = 0

due_most : (phase : Phase) → due phase ≤ 1
due_most Due = omega arith
due_most _ = omega arith

-- no fewer passes ended than these aggregations and the one that is due
abbrev Ended : ℕ → Core → Type 0
Ended n c = n + due c.phase ≤ c.ticks

clear_ended : (n : ℕ) (phase : Phase) (s : State) → Ended n s.core → Ended n (by_clear phase s).core
clear_ended n (Clearing k) s here = elim (k + 1 == row_count s.core) as (λ b. n + due (if b then Armed else Clearing (k + 1)) ≤ s.core.ticks) [ true ↦ omega (arith, here) | false ↦ omega (arith, here) ]
clear_ended n _ s here = here

load_ended : (n : ℕ) (phase : Phase) (hit : Bool) (s : State) → Ended n s.core → Ended n (by_load phase hit s).core
load_ended n Armed hit s here = omega (arith, here)
load_ended n (Checking k) hit s here = omega (arith, here)
load_ended n _ hit s here = here

observe_ended : (n : ℕ) (phase : Phase) (s : State) → Ended n s.core → Ended n (by_observe phase s).core
observe_ended n (Checking k) s here = omega (arith, here, due_most (phase_after_pass (s.core.since + 1) s.core.attrs.aggr))
observe_ended n Void s here = omega (arith, here, due_most (phase_after_pass (s.core.since + 1) s.core.attrs.aggr))
observe_ended n _ s here = here

commit_ended : (n : ℕ) (parts : CommitValue) (s : State) (check : Result (Unit {0}) CommitFault) → Ended n s.core → Ended n (if_accepted check (committed parts s) s).core
commit_ended n parts s (Ok t) here =
    elim (becomes_void s.core.phase s.core.regions.rows (committed parts s).core.regions.rows) as (λ b. n + due (if b then Void else s.core.phase) ≤ s.core.ticks) [ true ↦ omega (arith, here) | false ↦ here ]
commit_ended n parts s (Err fault) here = here

other_ended : (n : ℕ) (e : Event) (s : State) → LeavesPages e → Ended n s.core → Ended n (after s e).core
other_ended n (touch page) s other here = absurd other
other_ended n (aggregate words) s other here = absurd other
other_ended n clear s other here = clear_ended n s.core.phase s here
other_ended n (load hit) s other here = load_ended n s.core.phase hit s here
other_ended n observe s other here = observe_ended n s.core.phase s here
other_ended n (commit parts) s other here = commit_ended n parts s (check_of parts s.core) here
other_ended n _ s other here = omega (arith, here)

-- What is carried along events: after so many aggregations, each of which pages out each page 16 times at most.
record IsFollowed (pages : ℕ) (s : State) : Type 0 where
  aggregations : ℕ
  ended : Ended aggregations s.core
  few : pageouts_of pages s.notes ≤ aggregations * (16 * pages)

followed : (pages : ℕ) (e : Event) (s : State) → Fits s e → IsFollowed pages s → IsFollowed pages (after s e)
followed pages (touch page) s fits here = record {
  aggregations = here.aggregations;
  ended = here.ended;
  few = omega (arith, here.few, count_none pages (λ p. false) (λ p below. refl));
}
followed pages (aggregate words) s fits here =
    let all = slots_few pages slot_count 0 s.core.space s.core.attrs.aggr s.core.ticks (merged_regions s.core) s.notes in
    let sum : slot_count * pages ≡ 16 * pages = ap (λ n. n * pages) sixteen in
    let more : (here.aggregations + 1) * (16 * pages) ≡ here.aggregations * (16 * pages) + 16 * pages = grind arith in
    record {
      aggregations = here.aggregations + 1;
      ended = omega (arith, here.ended, ap due fits.0);
      few = omega (arith, here.few, all, sum, more);
    }
followed pages e s fits here = record {
  aggregations = here.aggregations;
  ended = other_ended here.aggregations e s tt here.ended;
  few = other_keeps (λ notes. pageouts_of pages notes ≤ here.aggregations * (16 * pages)) (still_few pages (here.aggregations * (16 * pages))) e s tt here.few;
}

followed_along : (pages : ℕ) (es : List Event) (s : State) → AllFit s es → IsFollowed pages s → IsFollowed pages (run s es)
followed_along pages [] s fit here = here
followed_along pages (e ∷ es) s fit here = followed_along pages es (after s e) fit.1 (followed pages e s fit.0 here)

no_pageouts : (pages : ℕ) (notes : List Note) → AllByRecursion MovesNothing notes → pageouts_of pages notes ≡ 0
no_pageouts pages [] all = refl
no_pageouts pages (note ∷ notes) all = still_pageouts pages note notes (still_by note notes all.0) ∙ no_pageouts pages notes all.1

pub few_went_out : (pages : ℕ) (s : State) → Reached s → pageouts_of pages s.notes ≤ s.core.ticks * (16 * pages)
few_went_out pages s reached =
    let v = reached.setup in
    let first : IsFollowed pages (opening v) = record {
      aggregations = 0;
      ended = omega arith;
      few = omega (arith, no_pageouts pages (opening_notes v) (opening_is_still v));
    } in
    let last : IsFollowed pages s = subst (IsFollowed pages) reached.is (followed_along pages reached.events (opening v) reached.fit first) in
    omega (arith, last.few, mul-le last.aggregations (16 * pages) s.core.ticks (16 * pages) (omega (arith, last.ended)) (omega arith))
