use Rattle.std.proofs.Common.{◌≡◌, ℕ, ap, ◌∙◌, ◌+◌, ◌<◌, true, sym, arith, lit<}
use Rattle.std.specs.Prelude.{nat_le, slice_index_or, if◌then◌else◌}
use Rattle.std.proofs.lemmas.Bool.Decides.{nat_tests}
use Rattle.std.proofs.lemmas.List.{take_all}
use Rattle.std.proofs.lemmas.List.Sums.{sum_by_more}
use Rattle.priority.specs.declared.candidates.Candidate.{Candidate}
use Rattle.priority.specs.Histogram.{sum_from}
use Rattle.priority.specs.Kept.{passing_from}
use Rattle.priority.proofs.WalkLemmas.{no_candidate}
use Rattle.priority.proofs.threshold.passing_by_score.Goals as goal

all_scores : (k pages : ℕ) → (if nat_le 0 k then pages else 0) ≡ pages
all_scores k pages = let test : nat_le 0 k ≡ true = grind (arith, nat_tests) in ap (λ b. if b then pages else 0) test

pub loop-candidate-init : goal.loop-candidate-init
loop-candidate-init c = record { from = c.new-sums.ensures.from; most = omega (arith, c.new-sums.ensures.from 0) }

pub add-requires : goal.add-requires
add-requires c =
    let one = c.requires.each c.loop-candidate.candidate-index no_candidate c.loop-candidate-test.true in
    let score : (slice_index_or c.args.items.now c.loop-candidate.candidate-index no_candidate).score < 100 = omega (arith, one.score) in
    (lit< tt, (score, omega (arith, c.loop-candidate.invariant.most, c.from.ensures, c.requires.few, c.loop-candidate-test.true)))

pub loop-candidate-preserved : goal.loop-candidate-preserved
loop-candidate-preserved c =
    let items = c.args.items.now in
    let i = c.loop-candidate.candidate-index in
    let x = slice_index_or items i no_candidate in
    let kept = c.loop-candidate.invariant in
    record {
      from = λ score.
          c.add.ensures.from score
          ∙ ap (λ p. sum_from c.loop-candidate.sums score + (if nat_le score x.score then p else 0)) c.from.ensures
          ∙ ap (λ n. n + (if nat_le score x.score then x.passing else 0)) (kept.from score)
          ∙ sym (sum_by_more (λ (c : Candidate). if nat_le score c.score then c.passing else 0) items i no_candidate c.loop-candidate-test.true);
      most = omega (arith, kept.most, c.add.ensures.from 0, all_scores x.score c.from.result, c.from.ensures);
    }

pub returns : goal.returns
returns c = λ score.
    c.loop-candidate.invariant.from score
    ∙ ap (λ cs. passing_from cs score) (take_all c.loop-candidate.candidate-index c.args.items.now c.loop-candidate-test.false)
