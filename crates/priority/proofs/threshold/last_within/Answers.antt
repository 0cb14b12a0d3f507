use Rattle.std.proofs.Common.{◌≡◌, ◌⊎◌, inl, inr, ℕ, ◌+◌, ◌<◌, ◌≤◌, List, Option, Some, length, take, ap, ◌∙◌, sym, subst, arith}
use Rattle.std.specs.Prelude.{slice_index_or, sum_by}
use Rattle.std.proofs.lemmas.Bool.{cases_lt}
use Rattle.std.proofs.lemmas.List.{take_more}
use Rattle.std.proofs.lemmas.List.Sums.{sum_by_more}
use Rattle.priority.specs.declared.candidates.Candidate.{Candidate}
use Rattle.priority.specs.Histogram.{sum_from}
use Rattle.priority.specs.Kept.{later_of}
use Rattle.priority.proofs.HistogramLemmas.{sum_from_end}
use Rattle.priority.proofs.ThresholdLemmas.{IsLatestOf, at_score, found, latest_skip, latest_step, off_score, with_score}
use Rattle.priority.proofs.WalkLemmas.{no_candidate}
use Rattle.priority.proofs.threshold.last_within.Goals.{then-candidate-cut+else-used-room, else-candidate-cut}
use Rattle.priority.proofs.threshold.last_within.Goals as goal

room : (sums : List ℕ) (cut from left : ℕ) → length sums ≡ 100 → from ≡ sum_from sums (cut + 1) → ((j : ℕ) → cut < j → j < 100 → sum_from sums j < left) → from ≤ left
room sums cut from left size is greatest = by (cases_lt (cut + 1) 100)
  where
    by : (cut + 1 < 100) ⊎ (100 ≤ cut + 1) → from ≤ left
    by (inl less) = omega (arith, is, greatest (cut + 1) (omega arith) less)
    by (inr end) = omega (arith, is, sum_from_end sums (cut + 1) (omega (arith, size, end)))

-- the candidate at the index is of this score
latest_more : (cut i : ℕ) (items : List Candidate) (last next : Option Candidate) → i < length items → (slice_index_or items i no_candidate).score ≡ cut → next ≡ Some (later_of last (slice_index_or items i no_candidate)) → IsLatestOf cut (take i items) last → IsLatestOf cut (take (i + 1) items) next
latest_more cut i items last next within same is before =
    let x = slice_index_or items i no_candidate in
    subst (λ o. IsLatestOf cut (take (i + 1) items) o) (sym is)
    (subst (λ cs. IsLatestOf cut cs (Some (later_of last x))) (sym (take_more items i no_candidate within)) (latest_step cut (take i items) x last same before))

-- or it is not
latest_same : (cut i : ℕ) (items : List Candidate) (last next : Option Candidate) → i < length items → ((slice_index_or items i no_candidate).score ≡ cut → ⊥) → next ≡ last → IsLatestOf cut (take i items) last → IsLatestOf cut (take (i + 1) items) next
latest_same cut i items last next within differ is before =
    subst (λ o. IsLatestOf cut (take (i + 1) items) o) (sym is)
    (subst (λ cs. IsLatestOf cut cs last) (sym (take_more items i no_candidate within)) (latest_skip cut (take i items) (slice_index_or items i no_candidate) last differ before))

pub overflow_sub-room : goal.overflow_sub-room
overflow_sub-room c = room c.args.sums.now c.in_ok-cut.cut c.from.result c.args.left c.from.ensures.len c.from.ensures.sum c.in_ok-cut.ensures.greatest

pub returns-then-used-room : goal.returns-then-used-room
returns-then-used-room c =
    let items = c.args.items.now in
    let cut = c.in_ok-cut.cut in
    let i = c.loop-candidate.candidate-index in
    let x = slice_index_or items i no_candidate in
    let kept = c.loop-candidate.invariant in
    let within = c.loop-candidate-test.true in
    let latest = latest_more cut i items c.loop-candidate.last (Some c.later-later.result) within c.if-candidate-cut.true (ap (λ r. Some r) c.later-later.ensures) kept.latest in
    let used = c.loop-candidate.used + c.from-used.result in
    let total : used ≡ sum_by (with_score cut) (take (i + 1) items) = omega (arith, kept.used, c.from-used.ensures, sum_by_more (with_score cut) items i no_candidate within, at_score cut x c.if-candidate-cut.true) in
    found items (i + 1) cut c.args.left c.from.result used c.later-later.result latest total (c.from.ensures.sum ∙ c.requires.sums (cut + 1)) (omega (arith, c.if-used-room.true))

pub loop-candidate-preserved : goal.loop-candidate-preserved
loop-candidate-preserved c =
    let items = c.args.items.now in
    let cut = c.in_ok-cut.cut in
    let i = c.loop-candidate.candidate-index in
    let x = slice_index_or items i no_candidate in
    let kept = c.loop-candidate.invariant in
    let within = c.loop-candidate-test.true in
    let more = sum_by_more (with_score cut) items i no_candidate within in
    elim c.if-candidate-cut.branch [
      | then-candidate-cut+else-used-room w ↦ record {
        latest = latest_more cut i items c.loop-candidate.last c.if-candidate-cut.last within w.if-candidate-cut.true (w.last-is ∙ ap (λ r. Some r) w.later-later.ensures) kept.latest;
        used = omega (arith, w.used-is, w.from-used.ensures, kept.used, more, at_score cut x w.if-candidate-cut.true);
        most = omega (arith, w.used-is, w.from-used.ensures, kept.most);
      }
      | else-candidate-cut w ↦ record {
        latest = latest_same cut i items c.loop-candidate.last c.if-candidate-cut.last within w.if-candidate-cut.false w.last-is kept.latest;
        used = omega (arith, w.used-is, kept.used, more, off_score cut x w.if-candidate-cut.false);
        most = omega (arith, w.used-is, kept.most);
      }
    ]
