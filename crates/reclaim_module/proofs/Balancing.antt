-- Each page that went out is out or came back, and how many go out in an aggregation.
use Rattle.std.proofs.Common.{◌≡◌, ℕ, zero, suc, ◌+◌, ◌≤◌, Bool, false, cond, not, List, [], ◌∷◌, length, take, subst, arith}
use Rattle.std.proofs.lemmas.List.{length-replicate}
use Rattle.std.proofs.lemmas.List.Folds.{sum_by-replicate}
use Rattle.damon_types.specs.declared.scheme.Action.{Action}
use Rattle.damon_types.specs.declared.scheme.Action.TheVariants.{Willneed, Pageout}
use Rattle.damon_types.specs.Space.{pages_of}
use Rattle.scheme_engine.specs.declared.applied.AppliedRun.{AppliedRun}
use Rattle.damon_core.specs.Aggregate.{served}
use Rattle.damon_core.specs.Event.{Event, Fits, touch, aggregate}
use Rattle.damon_core.specs.Note.{Note}
use Rattle.damon_core.specs.Reached.{Reached, run}
use Rattle.damon_core.specs.State.{State, opening, opening_notes}
use Rattle.page_bits.specs.Runs.{count_pages}
use Rattle.page_bits.specs.Sets.{each_page}
use Rattle.page_bits.proofs.Lemmas.{count_run_le}
use Rattle.reclaim_module.specs.Calls.{after_action, all_resident}
use Rattle.reclaim_module.specs.Counts.{pageouts_of, prefetches_of, refaults_of}
use Rattle.reclaim_module.specs.Out.{is_out}
use Rattle.reclaim_module.specs.Pages.{ReclaimView, is_out_in, out_count}
use Rattle.reclaim_module.specs.Stands.{ReclaimStands, action_in, after_applied, after_event, after_events}
use Rattle.reclaim_module.proofs.Following.{events_keep}
use Rattle.reclaim_module.proofs.Moving.{length_pages, others_count, out_count_is, out_gain, out_loss, resident_count_is, touch_loss}
use Rattle.reclaim_module.proofs.Serving.{event_stands, opening_is_still}
use Rattle.reclaim_module.proofs.Standing.{out_by_notes, stands_at_first}

-- all pages are out or resident
pub others_are_resident : (pages : ℕ) (notes : List Note) → count_pages pages (is_out notes) + count_pages pages (λ p. not (is_out notes p)) ≡ pages
others_are_resident pages notes =
    omega (arith, others_count (each_page pages (is_out notes)), out_count_is pages (is_out notes), resident_count_is pages (is_out notes), length_pages pages (is_out notes))

-- each page that went out is out, or came back
abbrev IsEven : ReclaimView → Type 0
IsEven r = r.counts.pageouts ≡ out_count r.out + (r.counts.refaults + r.counts.prefetches)

even_acted : (a : Action) (start pages : ℕ) (r : ReclaimView) → IsEven r → IsEven (after_action a start pages r)
even_acted Pageout start pages r even = omega (arith, even, out_gain start pages r.out)
even_acted Willneed start pages r even = omega (arith, even, out_loss start pages r.out)
even_acted _ start pages r even = even

even_applied : (notes : List Note) (runs : List AppliedRun) (r : ReclaimView) → IsEven r → IsEven (after_applied notes runs r)
even_applied notes [] r even = even
even_applied notes (run ∷ runs) r even =
    even_applied notes runs (after_action (action_in notes run.slot) run.start run.pages r) (even_acted (action_in notes run.slot) run.start run.pages r even)

even_after : (e : Event) (s : State) (r : ReclaimView) → length r.out ≡ pages_of s.core.space → Fits s e → IsEven r → IsEven (after_event e s r)
even_after (touch page) s r len fits even = omega (arith, even, touch_loss page r.out (omega (arith, fits, len)))
even_after (aggregate words) s r len fits even = even_applied s.notes (served s).runs r even
even_after _ s r len fits even = even

-- so it is by the notes
abbrev pub IsEvenBy : ℕ → List Note → Type 0
IsEvenBy pages notes = pageouts_of pages notes ≡ count_pages pages (is_out notes) + (refaults_of notes + prefetches_of pages notes)

even_by : (r : ReclaimView) (notes : List Note) → ReclaimStands r notes → IsEven r → IsEvenBy (length r.out) notes
even_by r notes s even = omega (arith, s.pageouts, s.refaults, s.prefetches, even, out_by_notes r notes s)

pub balance : (s : State) → Reached s → IsEvenBy (pages_of s.core.space) s.notes
balance s reached =
    let v = reached.setup in
    let n = pages_of v.space in
    let first = all_resident n in
    let both : ReclaimView → State → Type 0 = λ r t. ReclaimStands r t.notes × IsEven r in
    let all = events_keep both (λ e t r len fits here. (event_stands e t r len fits here.0, even_after e t r len fits here.1)) reached.events (opening v) first (length-replicate {A = Bool} n false) reached.fit
    (stands_at_first n (opening_notes v) (opening_is_still v), omega (arith, sum_by-replicate (λ (b : Bool). cond b 1 0) n false)) in
    let r = after_events reached.events (opening v) first in
    let t = run (opening v) reached.events in
    subst (λ x. IsEvenBy (pages_of x.core.space) x.notes) reached.is (subst (λ k. IsEvenBy k t.notes) all.0 (even_by r t.notes all.1.0 all.1.1))

-- an action takes nothing from the pages that went out
action_keeps : (a : Action) (start pages : ℕ) (r : ReclaimView) → r.counts.pageouts ≤ (after_action a start pages r).counts.pageouts
action_keeps Pageout start pages r = omega arith
action_keeps _ start pages r = omega arith

-- and adds at most the pages of the run
pub action_few : (a : Action) (start pages : ℕ) (r : ReclaimView) → (after_action a start pages r).counts.pageouts ≤ r.counts.pageouts + pages
action_few Pageout start pages r = omega (arith, count_run_le (length r.out) start pages (λ p. not (is_out_in r.out p)))
action_few _ start pages r = omega arith

-- so the first runs do not page out more than all
pub first_runs_few : (i : ℕ) (notes : List Note) (runs : List AppliedRun) (r : ReclaimView) → (after_applied notes (take i runs) r).counts.pageouts ≤ (after_applied notes runs r).counts.pageouts
first_runs_few zero notes [] r = omega arith
first_runs_few zero notes (run ∷ runs) r =
    let next = after_action (action_in notes run.slot) run.start run.pages r in
    omega (arith, action_keeps (action_in notes run.slot) run.start run.pages r, first_runs_few zero notes runs next)
first_runs_few (suc i) notes [] r = omega arith
first_runs_few (suc i) notes (run ∷ runs) r = first_runs_few i notes runs (after_action (action_in notes run.slot) run.start run.pages r)
