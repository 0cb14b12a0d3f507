-- What one note more makes of the pages that are out, and of the numbers.
use Rattle.std.proofs.Common.{◌≡◌, ◌≢◌, inl, inr, ℕ, ◌+◌, ◌<◌, Bool, true, false, cond, not, ◌&&◌, ◌||◌, List, [], ◌∷◌, length, set, length-set, get_or-set_same, get_or-set_other, replicate, refl, sym, ap, subst, ◌∙◌, arith}
use Rattle.std.specs.Prelude.{◌==◌, Some, count_by, if◌then◌else◌}
use Rattle.std.specs.List.{AllByRecursion}
use Rattle.std.proofs.lemmas.Bool.{cases_eq}
use Rattle.std.proofs.lemmas.Bool.Decides.{nat_tests}
use Rattle.std.proofs.lemmas.List.{get_or-replicate, length-replicate}
use Rattle.damon_types.specs.declared.scheme.Action.{Action}
use Rattle.damon_types.specs.declared.scheme.Action.TheVariants.{Willneed, Pageout}
use Rattle.damon_types.specs.declared.scheme.Scheme.{Scheme}
use Rattle.scheme_engine.specs.declared.applied.AppliedRun.{AppliedRun}
use Rattle.damon_core.specs.Note.{Note, touched, ran}
use Rattle.damon_core.specs.Slots.{scheme_of}
use Rattle.page_bits.specs.Runs.{count_pages, in_run}
use Rattle.page_bits.specs.Sets.{each_page, with_run}
use Rattle.page_bits.proofs.Lemmas.{both_bits, count_none, count_same}
use Rattle.reclaim_module.specs.Calls.{after_action, after_touch, all_resident, paged_out, prefetched}
use Rattle.reclaim_module.specs.Counts.{pageouts_of, prefetches_of, refaults_of}
use Rattle.reclaim_module.specs.Out.{is_in, is_out, is_paged_out, is_pageout, is_prefetched, is_touch_of, is_willneed, holds_pageout, holds_willneed}
use Rattle.reclaim_module.specs.Pages.{ReclaimView, is_out_in, out_count}
use Rattle.reclaim_module.specs.Stands.{MovesNothing, ReclaimStands, after_runs}
use Rattle.reclaim_module.proofs.Moving.{at_page, each_page_again, each_page_is, each_page_same, gain, length_pages, length_with_run, loss, out_count_is, out_gain, out_loss, resident_count_is}

-- a model of n pages stands for notes
stands_by : (n : ℕ) (r : ReclaimView) (notes : List Note) → length r.out ≡ n → r.out ≡ each_page n (is_out notes) → r.counts.pageouts ≡ pageouts_of n notes → r.counts.refaults ≡ refaults_of notes → r.counts.prefetches ≡ prefetches_of n notes → ReclaimStands r notes
stands_by n r notes len out pageouts refaults prefetches = record {
  out = out ∙ ap (λ k. each_page k (is_out notes)) (sym len);
  pageouts = pageouts ∙ ap (λ k. pageouts_of k notes) (sym len);
  refaults = refaults;
  prefetches = prefetches ∙ ap (λ k. prefetches_of k notes) (sym len);
}

-- a page is out by the notes
out_by : (r : ReclaimView) (notes : List Note) (p : ℕ) → ReclaimStands r notes → p < length r.out → is_out_in r.out p ≡ is_out notes p
out_by r notes p s below = ap (λ xs. is_out_in xs p) s.out ∙ at_page (length r.out) (is_out notes) p below

-- A note that moves no page.
pub record IsStill (note : Note) (notes : List Note) : Type 0 where
  pub gone : (p : ℕ) → is_paged_out notes note p ≡ false
  pub back : (p : ℕ) → is_prefetched notes note p ≡ false
  pub touch : (p : ℕ) → is_touch_of note p ≡ false
  pub refaults : refaults_of (note ∷ notes) ≡ refaults_of notes

pub still_out : (note : Note) (notes : List Note) (p : ℕ) → IsStill note notes → is_out (note ∷ notes) p ≡ is_out notes p
still_out note notes p still =
    by (is_out notes p) (is_paged_out notes note p) (is_touch_of note p) (is_prefetched notes note p) (still.gone p) (still.touch p) (still.back p) where
      by : (o g t b : Bool) → g ≡ false → t ≡ false → b ≡ false → (g || (o && not (t || b))) ≡ o
      by o g t b gone touch back = grind arith

pub still_pageouts : (n : ℕ) (note : Note) (notes : List Note) → IsStill note notes → pageouts_of n (note ∷ notes) ≡ pageouts_of n notes
still_pageouts n note notes still =
    let none = count_none n (λ p. is_paged_out notes note p && not (is_out notes p)) (λ p below. ap (λ b. b && not (is_out notes p)) (still.gone p)) in
    omega (arith, none)

still_prefetches : (n : ℕ) (note : Note) (notes : List Note) → IsStill note notes → prefetches_of n (note ∷ notes) ≡ prefetches_of n notes
still_prefetches n note notes still =
    let none = count_none n (λ p. is_prefetched notes note p && is_out notes p) (λ p below. ap (λ b. b && is_out notes p) (still.back p)) in
    omega (arith, none)

pub stands_still : (note : Note) (r : ReclaimView) (notes : List Note) → IsStill note notes → ReclaimStands r notes → ReclaimStands r (note ∷ notes)
stands_still note r notes still s = record {
  out = s.out ∙ each_page_same (length r.out) (is_out notes) (is_out (note ∷ notes)) (λ p below. sym (still_out note notes p still));
  pageouts = s.pageouts ∙ sym (still_pageouts (length r.out) note notes still);
  refaults = s.refaults ∙ sym still.refaults;
  prefetches = s.prefetches ∙ sym (still_prefetches (length r.out) note notes still);
}

-- which notes move no page
pub still_by : (note : Note) (notes : List Note) → MovesNothing note → IsStill note notes
still_by (touched page) notes m = absurd m
still_by (ran slot tick tried runs exceeds) notes m = absurd m
still_by _ notes m = record { gone = λ p. refl; back = λ p. refl; touch = λ p. refl; refaults = refl }

-- nothing has moved
pub stands_at_first : (pages : ℕ) (notes : List Note) → AllByRecursion MovesNothing notes → ReclaimStands (all_resident pages) notes
stands_at_first pages [] all =
    let len = length-replicate {A = Bool} pages false in
    stands_by pages (all_resident pages) [] len (each_page_is (is_out []) (replicate pages false) pages len (λ p below. get_or-replicate pages p false false below)) refl refl refl
stands_at_first pages (note ∷ notes) all = stands_still note (all_resident pages) notes (still_by note notes all.0) (stands_at_first pages notes all.1)

-- a touch
touched_other : (notes : List Note) (page p : ℕ) → p ≢ page → is_out (touched page ∷ notes) p ≡ is_out notes p
touched_other notes page p isnt = by (is_out notes p) (page == p) (grind (arith, nat_tests)) where
  by : (o b : Bool) → b ≡ false → (o && not (b || false)) ≡ o
  by o b is = grind arith

touched_same : (notes : List Note) (page : ℕ) → is_out (touched page ∷ notes) page ≡ false
touched_same notes page = by (is_out notes page) (page == page) (grind (arith, nat_tests)) where
  by : (o b : Bool) → b ≡ true → (o && not (b || false)) ≡ false
  by o b is = grind arith

pub stands_touched : (page : ℕ) (r : ReclaimView) (notes : List Note) → page < length r.out → ReclaimStands r notes → ReclaimStands (after_touch page r) (touched page ∷ notes)
stands_touched page r notes here s =
    let n = length r.out in
    let len : length (set r.out page false) ≡ n = length-set r.out page false in
    let out : set r.out page false ≡ each_page n (is_out (touched page ∷ notes)) = each_page_is (is_out (touched page ∷ notes)) (set r.out page false) n len (λ p below. elim (cases_eq p page) [
      | inl is ↦ subst (λ q. is_out_in (set r.out page false) q ≡ is_out (touched page ∷ notes) q) (sym is) (get_or-set_same r.out page false false here ∙ sym (touched_same notes page))
      | inr isnt ↦
          let kept : is_out_in (set r.out page false) p ≡ is_out_in r.out p = rw get_or-set_other refl in
          kept ∙ out_by r notes p s below ∙ sym (touched_other notes page p isnt)
    ]) in
    let none = count_none n (λ p. false) (λ p below. refl) in
    let found : cond {A = ℕ} (is_out_in r.out page) 1 0 ≡ cond (is_out notes page) 1 0 = ap (λ (b : Bool). cond b 1 0) (out_by r notes page s here) in
    stands_by n (after_touch page r) (touched page ∷ notes) len out
    (omega (arith, s.pageouts, none))
    (omega (arith, s.refaults, found))
    (omega (arith, s.prefetches, none))

-- what runs of an action put into a model, where the action puts each page of a run
runs_out : (a : Action) (now : Bool) → ((start pages : ℕ) (r : ReclaimView) → (after_action a start pages r).out ≡ with_run start pages now r.out) → (runs : List AppliedRun) (r : ReclaimView) → (after_runs a runs r).out ≡ each_page (length r.out) (λ p. if is_in runs p then now else is_out_in r.out p)
runs_out a now puts [] r = each_page_again r.out
runs_out a now puts (run ∷ runs) r =
    let next = after_action a run.start run.pages r in
    let n = length r.out in
    let x = in_run run.start run.pages in
    let is = puts run.start run.pages r in
    runs_out a now puts runs next
    ∙ ap (λ xs. each_page (length xs) (λ p. if is_in runs p then now else is_out_in xs p)) is
    ∙ ap (λ k. each_page k (λ p. if is_in runs p then now else is_out_in (with_run run.start run.pages now r.out) p)) (length_with_run run.start run.pages now r.out)
    ∙ each_page_same n (λ p. if is_in runs p then now else is_out_in (with_run run.start run.pages now r.out) p) (λ p. if is_in (run ∷ runs) p then now else is_out_in r.out p) (λ p below.
    ap (λ b. if is_in runs p then now else b) (at_page n (λ q. if x q then now else is_out_in r.out q) p below)
    ∙ both_bits now (x p) (is_in runs p) (is_out_in r.out p))

-- what they leave
runs_keep : {X : Type 0} (f : ReclaimView → X) (a : Action) → ((start pages : ℕ) (r : ReclaimView) → f (after_action a start pages r) ≡ f r) → (runs : List AppliedRun) (r : ReclaimView) → f (after_runs a runs r) ≡ f r
runs_keep f a kept [] r = refl
runs_keep f a kept (run ∷ runs) r = runs_keep f a kept runs (after_action a run.start run.pages r) ∙ kept run.start run.pages r

-- what goes out is counted, and so is what comes back
gone_even : (runs : List AppliedRun) (r : ReclaimView) → (after_runs Pageout runs r).counts.pageouts + out_count r.out ≡ r.counts.pageouts + out_count (after_runs Pageout runs r).out
gone_even [] r = refl
gone_even (run ∷ runs) r = omega (arith, gone_even runs (paged_out run.start run.pages r), out_gain run.start run.pages r.out)

back_even : (runs : List AppliedRun) (r : ReclaimView) → (after_runs Willneed runs r).counts.prefetches + out_count (after_runs Willneed runs r).out ≡ r.counts.prefetches + out_count r.out
back_even [] r = refl
back_even (run ∷ runs) r = omega (arith, back_even runs (prefetched run.start run.pages r), out_loss run.start run.pages r.out)

-- a run of a scheme, by the action of the scheme
module _ (slot tick tried : ℕ) (runs : List AppliedRun) (exceeds : Bool) (r : ReclaimView) (notes : List Note) (s : ReclaimStands r notes) where
  abbrev all : List Note
  all = ran slot tick tried runs exceeds ∷ notes

  abbrev gone : Bool
  gone = holds_pageout (scheme_of notes slot)

  abbrev back : Bool
  back = holds_willneed (scheme_of notes slot)

  by_action : (a : Action) → gone ≡ is_pageout a → back ≡ is_willneed a → ReclaimStands (after_runs a runs r) all
  by_action Pageout po pf =
      let n = length r.out in
      let put = runs_out Pageout true (λ start pages x. refl) runs r in
      let moved = count_same n (λ p. is_in runs p && not (is_out_in r.out p)) (λ p. (gone && is_in runs p) && not (is_out notes p)) (λ p below.
      ap (λ b. is_in runs p && not b) (out_by r notes p s below) ∙ ap (λ b. (b && is_in runs p) && not (is_out notes p)) (sym po)) in
      let none = count_none n (λ p. (back && is_in runs p) && is_out notes p) (λ p below. ap (λ b. (b && is_in runs p) && is_out notes p) pf) in
      stands_by n (after_runs Pageout runs r) all (ap length put ∙ length_pages n (λ p. if is_in runs p then true else is_out_in r.out p))
      (put ∙ each_page_same n (λ p. if is_in runs p then true else is_out_in r.out p) (is_out all) (λ p below. out (is_out_in r.out p) (is_out notes p) gone back (is_in runs p) po pf (out_by r notes p s below)))
      (omega (arith, gone_even runs r, ap out_count put, gain (is_in runs) r.out, s.pageouts, moved))
      (runs_keep (λ (x : ReclaimView). x.counts.refaults) Pageout (λ start pages x. refl) runs r ∙ s.refaults)
      (omega (arith, runs_keep (λ (x : ReclaimView). x.counts.prefetches) Pageout (λ start pages x. refl) runs r, s.prefetches, none)) where
        out : (q o g b d : Bool) → g ≡ true → b ≡ false → q ≡ o → (if d then true else q) ≡ ((g && d) || (o && not (false || (b && d))))
        out q o g b d gs bs qs = grind arith
  by_action Willneed po pf =
      let n = length r.out in
      let put = runs_out Willneed false (λ start pages x. refl) runs r in
      let moved = count_same n (λ p. is_in runs p && is_out_in r.out p) (λ p. (back && is_in runs p) && is_out notes p) (λ p below.
      ap (λ b. is_in runs p && b) (out_by r notes p s below) ∙ ap (λ b. (b && is_in runs p) && is_out notes p) (sym pf)) in
      let none = count_none n (λ p. (gone && is_in runs p) && not (is_out notes p)) (λ p below. ap (λ b. (b && is_in runs p) && not (is_out notes p)) po) in
      stands_by n (after_runs Willneed runs r) all (ap length put ∙ length_pages n (λ p. if is_in runs p then false else is_out_in r.out p))
      (put ∙ each_page_same n (λ p. if is_in runs p then false else is_out_in r.out p) (is_out all) (λ p below. out (is_out_in r.out p) (is_out notes p) gone back (is_in runs p) po pf (out_by r notes p s below)))
      (omega (arith, runs_keep (λ (x : ReclaimView). x.counts.pageouts) Willneed (λ start pages x. refl) runs r, s.pageouts, none))
      (runs_keep (λ (x : ReclaimView). x.counts.refaults) Willneed (λ start pages x. refl) runs r ∙ s.refaults)
      (omega (arith, back_even runs r, ap out_count put, loss (is_in runs) r.out, s.prefetches, moved)) where
        out : (q o g b d : Bool) → g ≡ false → b ≡ true → q ≡ o → (if d then false else q) ≡ ((g && d) || (o && not (false || (b && d))))
        out q o g b d gs bs qs = grind arith
  by_action a po pf =
      let still : IsStill (ran slot tick tried runs exceeds) notes = record {
        gone = λ p. ap (λ b. b && is_in runs p) po;
        back = λ p. ap (λ b. b && is_in runs p) pf;
        touch = λ p. refl;
        refaults = refl;
      } in
      subst (λ x. ReclaimStands x all) (sym (runs_keep (λ x. x) a (λ start pages x. refl) runs r)) (stands_still (ran slot tick tried runs exceeds) r notes still s)

  pub stands_ran : (scheme : Scheme) → scheme_of notes slot ≡ Some scheme → ReclaimStands (after_runs scheme.action runs r) all
  stands_ran scheme held = by_action scheme.action (ap holds_pageout held) (ap holds_willneed held)

-- the figures of a model are those of the notes
pub out_by_notes : (r : ReclaimView) (notes : List Note) → ReclaimStands r notes → out_count r.out ≡ count_pages (length r.out) (is_out notes)
out_by_notes r notes here = ap out_count here.out ∙ out_count_is (length r.out) (is_out notes)

pub resident_by_notes : (r : ReclaimView) (notes : List Note) → ReclaimStands r notes → count_by not r.out ≡ count_pages (length r.out) (λ page. not (is_out notes page))
resident_by_notes r notes here = ap (count_by not) here.out ∙ resident_count_is (length r.out) (is_out notes)

-- the number of pages stays
pub length_after_action : (action : Action) (start pages : ℕ) (r : ReclaimView) → length (after_action action start pages r).out ≡ length r.out
length_after_action Pageout start pages r = length_with_run start pages true r.out
length_after_action Willneed start pages r = length_with_run start pages false r.out
length_after_action _ start pages r = refl
