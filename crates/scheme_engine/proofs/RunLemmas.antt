-- The runs of candidates: how many pages they have, and where they lie.
use Rattle.std.proofs.Common.{◌≡◌, ℕ, ◌+◌, Bool, List, [], ◌∷◌, refl, sym, ap, ◌∙◌, subst, arith}
use Rattle.std.specs.Prelude.{All, Any, sum_by}
use Rattle.std.specs.List.{range_with_len}
use Rattle.std.specs.Option.{unwrap_or}
use Rattle.std.proofs.lemmas.List.Elements.{All-append, All-head, All-map, All-nil, All-tail}
use Rattle.std.proofs.lemmas.List.Folds.{fold-map}
use Rattle.std.proofs.lemmas.List.Sums.{length-filter, sum_by-append, sum_by-cons}
use Rattle.std.proofs.lemmas.Option.{get_or_from_slice_get, slice_get_within}
use Rattle.damon_types.specs.Span.{Span}
use Rattle.scheme_filter.specs.declared.runs.Run.{Run}
use Rattle.scheme_filter.specs.Runs.{AreLongest, runs_of}
use Rattle.priority.specs.declared.candidates.Candidate.{Candidate}
use Rattle.priority.specs.Chosen.{taken_of}
use Rattle.scheme_filter.proofs.Lemmas.{runs_of-longest, runs_of-pages}
use Rattle.scheme_engine.specs.declared.applied.AppliedRun.{AppliedRun}
use Rattle.scheme_engine.specs.Applying.{IsCandidateOf}
use Rattle.scheme_engine.specs.Kept.{LiesInRow}
use Rattle.scheme_engine.specs.Taken.{applied_run, applied_runs, candidate_runs, span_at, taken_pages, taken_runs}
use Rattle.scheme_engine.proofs.PlaceLemmas.{Ascend, found_by_start, no_span}
use Rattle.scheme_engine.proofs.TakenLemmas.{first_pages_sum, is_among, taken_are_first}

-- where the row of a candidate lies
pub span_is : (passes : ℕ → Bool) (ss : List Span) (c : Candidate) → Ascend 0 ss → (is : IsCandidateOf passes ss c) → span_at ss c ≡ is.span
span_is passes ss c ascend is = ap (λ o. unwrap_or o no_span) (found_by_start 0 ss is.index is.span c.start ascend is.at is.start)

pub candidate_sum : (slot : ℕ) (passes : ℕ → Bool) (ss : List Span) (c : Candidate) → Ascend 0 ss → IsCandidateOf passes ss c → sum_by (λ r. r.pages) (candidate_runs slot passes ss c) ≡ c.share
candidate_sum slot passes ss c ascend is =
    let s = is.span in
    let all : sum_by (λ (r : Run). r.pages) (runs_of passes s.start s.pages) ≡ c.passing = runs_of-pages passes s.pages s.start ∙ sym (length-filter passes (range_with_len s.start s.pages)) ∙ sym is.passing in
    fold-map (λ (n : ℕ) (r : AppliedRun). n + r.pages) (applied_run slot c) 0 (taken_runs passes c.share (span_at ss c))
    ∙ ap (λ t. sum_by (λ (r : Run). r.pages) (taken_runs passes c.share t)) (span_is passes ss c ascend is)
    ∙ ap (sum_by (λ (r : Run). r.pages)) (taken_are_first passes c.share s.start s.pages)
    ∙ first_pages_sum c.share (runs_of passes s.start s.pages)
    ∙ omega (arith, all, is.share)

pub applied_sum : (slot : ℕ) (passes : ℕ → Bool) (ss : List Span) (cs : List Candidate) → Ascend 0 ss → All (IsCandidateOf passes ss) cs → sum_by (λ r. r.pages) (applied_runs slot passes ss cs) ≡ taken_of cs
applied_sum slot passes ss [] ascend all = refl
applied_sum slot passes ss (c ∷ cs) ascend all =
    let here = candidate_sum slot passes ss c ascend (All-head (IsCandidateOf passes ss) c cs all) in
    let rest = applied_sum slot passes ss cs ascend (All-tail (IsCandidateOf passes ss) c cs all) in
    omega (arith, sum_by-append (λ (r : AppliedRun). r.pages) (candidate_runs slot passes ss c) (applied_runs slot passes ss cs), here, rest, sum_by-cons (λ (d : Candidate). d.share) c cs)

-- each run lies in the row of its candidate
candidate_lies : (slot : ℕ) (passes : ℕ → Bool) (ss : List Span) (c : Candidate) → Ascend 0 ss → IsCandidateOf passes ss c → All (λ r. Any (LiesInRow r) ss) (candidate_runs slot passes ss c)
candidate_lies slot passes ss c ascend is =
    All-map (λ r. Any (LiesInRow r) ss) (applied_run slot c) (taken_runs passes c.share (span_at ss c))
    (subst (λ s. All (λ r. Any (LiesInRow (applied_run slot c r)) ss) (taken_runs passes c.share s)) (sym (span_is passes ss c ascend is)) each)
  where
    longest : AreLongest (is_among (taken_pages passes c.share is.span)) is.span.start (is.span.start + is.span.pages) (taken_runs passes c.share is.span)
    longest = runs_of-longest (is_among (taken_pages passes c.share is.span)) is.span.pages is.span.start

    each : All (λ r. Any (LiesInRow (applied_run slot c r)) ss) (taken_runs passes c.share is.span)
    each k d within =
        let low = longest.within k d within in (
          is.index,
          is.span,
          slice_get_within ss is.index is.span is.at,
          get_or_from_slice_get ss is.index is.span is.span is.at,
          record { target = is.target; some = longest.some k d within; from = low.0; to = low.1 },
        )

pub applied_lie : (slot : ℕ) (passes : ℕ → Bool) (ss : List Span) (cs : List Candidate) → Ascend 0 ss → All (IsCandidateOf passes ss) cs → All (λ r. Any (LiesInRow r) ss) (applied_runs slot passes ss cs)
applied_lie slot passes ss [] ascend all = All-nil (λ r. Any (LiesInRow r) ss)
applied_lie slot passes ss (c ∷ cs) ascend all =
    All-append (λ r. Any (LiesInRow r) ss) (candidate_runs slot passes ss c) (applied_runs slot passes ss cs) (candidate_lies slot passes ss c ascend (All-head (IsCandidateOf passes ss) c cs all))
    (applied_lie slot passes ss cs ascend (All-tail (IsCandidateOf passes ss) c cs all))
