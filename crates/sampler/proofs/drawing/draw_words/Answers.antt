use Rattle.std.proofs.Common.{◌≡◌, ℕ, ◌+◌, ◌*◌, ◌/◌, [], ◌∷◌, ◌++◌, length, length-append, ap, sym, ◌∙◌, arith}
use Rattle.rand_core.specs.Stream.{Stream}
use Rattle.sampler.specs.Draws.{drawn, drawn_rest}
use Rattle.sampler.proofs.Words.{drawn-append, drawn-one, drawn_rest-append, drawn_rest-one, length-drawn}
use Rattle.sampler.proofs.drawing.draw_words.Goals as goal

pub fours-preserved : goal.fours-preserved
fours-preserved g c =
    let s : Stream = g.R.Rng.stream c.args.source.now in
    let n : ℕ = 4 * c.fours.counter in
    let here : Stream = g.R.Rng.stream c.fours.source in
    let kept = c.fours.invariant in
    let more : n + 4 ≡ 4 * (c.fours.counter + 1) = omega arith in
    record {
      words = c.draw_four.ensures.words ∙ ap (λ ws. ws ++ drawn 4 here) kept.words ∙ ap (λ t. drawn n s ++ drawn 4 t) kept.rest
          ∙ sym (drawn-append n 4 s) ∙ ap (λ k. drawn k s) more;
      rest = c.draw_four.ensures.rest ∙ ap (drawn_rest 4) kept.rest ∙ sym (drawn_rest-append n 4 s) ∙ ap (λ k. drawn_rest k s) more;
      len = ap length c.draw_four.ensures.words ∙ omega (arith, length-append c.fours.words.items (drawn 4 here), length-drawn 4 here, kept.len);
      room = c.draw_four.ensures.capacity ∙ kept.room;
    }

pub others-preserved : goal.others-preserved
others-preserved g c =
    let s : Stream = g.R.Rng.stream c.args.source.now in
    let n : ℕ = 4 * (c.args.count / 4) + c.others.counter in
    let here : Stream = g.R.Rng.stream c.others.source in
    let there : Stream = g.R.Rng.stream c.next_u32.new.self in
    let kept = c.others.invariant in
    let more : n + 1 ≡ 4 * (c.args.count / 4) + (c.others.counter + 1) = omega arith in
    record {
      words = c.push_reserved.ensures.items ∙ ap (λ ws. ws ++ c.next_u32.result ∷ []) kept.words
          ∙ ap (λ ws. drawn n s ++ ws) (drawn-one c.next_u32.result here there c.next_u32.ensures) ∙ ap (λ t. drawn n s ++ drawn 1 t) kept.rest
          ∙ sym (drawn-append n 1 s) ∙ ap (λ k. drawn k s) more;
      rest = drawn_rest-one c.next_u32.result here there c.next_u32.ensures ∙ ap (drawn_rest 1) kept.rest ∙ sym (drawn_rest-append n 1 s) ∙ ap (λ k. drawn_rest k s) more;
      len = ap length c.push_reserved.ensures.items ∙ omega (arith, length-append c.others.words.items (c.next_u32.result ∷ []), kept.len);
      room = c.push_reserved.ensures.capacity ∙ kept.room;
    }
