use Rattle.std.proofs.Common.{◌≡◌, ℕ, ◌+◌, ◌-◌, ◌<◌, ◌≤◌, List, length, ap, ◌∙◌, arith, inl, inr, ◌⊎◌, subst}
use Rattle.std.specs.Prelude.{slice_index_or}
use Rattle.std.proofs.lemmas.Bool.{cases_lt}
use Rattle.priority.specs.Histogram.{sum_from}
use Rattle.priority.proofs.HistogramLemmas.{sum_from_le, sum_from_more}
use Rattle.priority.proofs.histogram.cut_of.Goals as goal

-- one index down
step : (ns : List ℕ) (i : ℕ) → 0 < i → i ≤ length ns → sum_from ns (i - 1) ≡ slice_index_or ns (i - 1) 0 + sum_from ns i
step ns i some within = let next : i - 1 + 1 ≡ i = omega (arith, some) in sum_from_more ns (i - 1) 0 (omega (arith, some, within)) ∙ ap (λ k. slice_index_or ns (i - 1) 0 + sum_from ns k) next

lower : (ns : List ℕ) (i left : ℕ) → 0 < i → sum_from ns (i - 1) < left → ((j : ℕ) → i ≤ j → j < length ns → sum_from ns j < left) → (j : ℕ) → i - 1 ≤ j → j < length ns → sum_from ns j < left
lower ns i left some here low j from within = by (cases_lt (i - 1) j)
  where
    by : (i - 1 < j) ⊎ (j ≤ i - 1) → sum_from ns j < left
    by (inl above) = low j (omega (arith, above)) within
    by (inr same) = let is : i - 1 ≡ j = omega (arith, same, from) in subst (λ k. sum_from ns k < left) is here

pub overflow_add-sum : goal.overflow_add-sum
overflow_add-sum c =
    omega (arith, step c.args.sums.now c.loop-index.index c.loop-index-test.true c.loop-index.invariant.within, sum_from_le c.args.sums.now (c.loop-index.index - 1), c.loop-index.invariant.is, c.requires.fits)

pub returns-then-sum-left-clause-none : goal.returns-then-sum-left-clause-none
returns-then-sum-left-clause-none c = (
  λ no. absurd (cc no),
  λ less. absurd (omega (arith, less, step c.args.sums.now c.loop-index.index c.loop-index-test.true c.loop-index.invariant.within, sum_from_le c.args.sums.now (c.loop-index.index - 1), c.loop-index.invariant.is, c.if-sum-left.true)),
)

pub loop-index-preserved : goal.loop-index-preserved
loop-index-preserved c =
    let is = step c.args.sums.now c.loop-index.index c.loop-index-test.true c.loop-index.invariant.within in
    record {
      within = omega (arith, c.loop-index.invariant.within);
      is = omega (arith, is, c.loop-index.invariant.is);
      low = lower c.args.sums.now c.loop-index.index c.args.left c.loop-index-test.true (omega (arith, is, c.loop-index.invariant.is, c.if-sum-left.false)) c.loop-index.invariant.low;
    }
