use Rattle.std.proofs.Common.{◌≡◌, inl, inr, ◌+◌, ◌*◌, ◌/◌, ◌<◌, length, length-set, set, refl, sym, ap, ◌∙◌, arith}
use Rattle.sampler.specs.Draws.{drawn_rest}
use Rattle.sampler.proofs.Lemmas.{drawn_rest-append}
use Rattle.damon_world.specs.Drawing.{AreDrawn}
use Rattle.damon_world.proofs.Drawn.{all_drawn, drawn_apart, drawn_joined, drawn_more, drawn_to, quarters_drawn, rest_at, rest_next, word_next}
use Rattle.damon_world.proofs.drawing.draw_in_quarters.Goals as goal

pub loop-index-init : goal.loop-index-init
loop-index-init g c =
    let s = g.R.Rng.stream c.args.source.now in
    let words = c.args.words.now in
    let q = length words / 4 in
    let first = c.after-first.ensures in
    let second : g.R.Rng.stream c.after-second.result ≡ drawn_rest q s = c.after-second.ensures ∙ ap (drawn_rest q) first in
    let third : g.R.Rng.stream c.after-third.result ≡ drawn_rest (q + q) s = c.after-third.ensures ∙ ap (drawn_rest q) second ∙ sym (drawn_rest-append q q s) in
    let fourth : g.R.Rng.stream c.after-fourth.result ≡ drawn_rest (q + q + q) s = c.after-fourth.ensures ∙ ap (drawn_rest q) third ∙ sym (drawn_rest-append (q + q) q s) in
    record {
      len = refl;
      quarters = omega arith;
      first_part = λ p after before. absurd (omega arith);
      second_part = λ p after before. absurd (omega arith);
      third_part = λ p after before. absurd (omega arith);
      fourth_part = λ p after before. absurd (omega arith);
      first = first;
      second = second ∙ rest_at s q (q + 0) (omega arith);
      third = third ∙ rest_at s (q + q) (2 * q + 0) (omega arith);
      fourth = fourth ∙ rest_at s (q + q + q) (3 * q + 0) (omega arith);
    }

pub loop-index-preserved : goal.loop-index-preserved
loop-index-preserved g c =
    let s = g.R.Rng.stream c.args.source.now in
    let q = length c.args.words.now / 4 in
    let l = c.loop-index in
    let kept = l.invariant in
    let i = l.index in
    let below : i < q = c.loop-index-test.true in
    let a = c.next_u32-one.result in
    let b = c.next_u32-two.result in
    let d = c.next_u32-three.result in
    let e = c.next_u32-four.result in
    let one = set l.words i a in
    let two = set one (q + i) b in
    let three = set two (2 * q + i) d in
    let four = set three (3 * q + i) e in
    let len_one : length one ≡ length c.args.words.now = length-set l.words i a ∙ kept.len in
    let len_two : length two ≡ length c.args.words.now = length-set one (q + i) b ∙ len_one in
    let len_three : length three ≡ length c.args.words.now = length-set two (2 * q + i) d ∙ len_two in
    let first = drawn_more s l.words 0 i a (omega (arith, kept.len)) (word_next a s _ _ i kept.first c.next_u32-one.ensures) kept.first_part in
    let second = drawn_more s one q (q + i) b (omega (arith, len_one)) (word_next b s _ _ (q + i) kept.second c.next_u32-two.ensures) (drawn_apart s l.words q (q + i) i a (inl (omega arith)) kept.second_part) in
    let third = drawn_more s two (2 * q) (2 * q + i) d (omega (arith, len_two)) (word_next d s _ _ (2 * q + i) kept.third c.next_u32-three.ensures)
    (drawn_apart s one (2 * q) (2 * q + i) (q + i) b (inl (omega arith)) (drawn_apart s l.words (2 * q) (2 * q + i) i a (inl (omega arith)) kept.third_part)) in
    let fourth = drawn_more s three (3 * q) (3 * q + i) e (omega (arith, len_three)) (word_next e s _ _ (3 * q + i) kept.fourth c.next_u32-four.ensures)
    (drawn_apart s two (3 * q) (3 * q + i) (2 * q + i) d (inl (omega arith)) (drawn_apart s one (3 * q) (3 * q + i) (q + i) b (inl (omega arith)) (drawn_apart s l.words (3 * q) (3 * q + i) i a (inl (omega arith)) kept.fourth_part))) in
    record {
      len = length-set three (3 * q + i) e ∙ len_three;
      quarters = kept.quarters;
      first_part = drawn_apart s three 0 (i + 1) (3 * q + i) e (inr (omega arith)) (drawn_apart s two 0 (i + 1) (2 * q + i) d (inr (omega arith)) (drawn_apart s one 0 (i + 1) (q + i) b (inr (omega arith)) first));
      second_part = drawn_to s four q (q + i + 1) (q + (i + 1)) (omega arith) (drawn_apart s three q (q + i + 1) (3 * q + i) e (inr (omega arith)) (drawn_apart s two q (q + i + 1) (2 * q + i) d (inr (omega arith)) second));
      third_part = drawn_to s four (2 * q) (2 * q + i + 1) (2 * q + (i + 1)) (omega arith) (drawn_apart s three (2 * q) (2 * q + i + 1) (3 * q + i) e (inr (omega arith)) third);
      fourth_part = drawn_to s four (3 * q) (3 * q + i + 1) (3 * q + (i + 1)) (omega arith) fourth;
      first = rest_next a s _ _ i kept.first c.next_u32-one.ensures;
      second = rest_next b s _ _ (q + i) kept.second c.next_u32-two.ensures ∙ rest_at s (q + i + 1) (q + (i + 1)) (omega arith);
      third = rest_next d s _ _ (2 * q + i) kept.third c.next_u32-three.ensures ∙ rest_at s (2 * q + i + 1) (2 * q + (i + 1)) (omega arith);
      fourth = rest_next e s _ _ (3 * q + i) kept.fourth c.next_u32-four.ensures ∙ rest_at s (3 * q + i + 1) (3 * q + (i + 1)) (omega arith);
    }

pub returns-clause-words : goal.returns-clause-words
returns-clause-words g c =
    let s = g.R.Rng.stream c.args.source.now in
    let n = length c.args.words.now in
    let q = n / 4 in
    let l = c.loop-index in
    let kept = l.invariant in
    let all : l.index ≡ q = omega (arith, c.loop-index-test.false, l.auto.index-end) in
    let whole = quarters_drawn s l.words q l.index all kept.first_part kept.second_part kept.third_part kept.fourth_part in
    let at : g.R.Rng.stream l.fourth ≡ drawn_rest (4 * q) s = kept.fourth ∙ rest_at s (3 * q + l.index) (4 * q) (omega (arith, all)) in
    let new = c.draw_from.new.words in
    let len : length new ≡ n = c.draw_from.ensures.len ∙ kept.len in
    let front : AreDrawn s new 0 (4 * q) = λ p after before. (c.draw_from.ensures.kept p before ∙ whole p after before) in
    let rest : AreDrawn s new (4 * q) n = drawn_to s new (4 * q) (length l.words) n kept.len (c.draw_from.ensures.words s at) in
    all_drawn s new n len (drawn_joined s new 0 (4 * q) n front rest)
