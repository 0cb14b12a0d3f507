use Rattle.std.proofs.Common.{◌≡◌, ◌≢◌, length-set, get_or-set_other, refl, set, ◌∙◌, arith}
use Rattle.std.specs.Prelude.{slice_index}
use Rattle.damon_world.proofs.Drawn.{drawn_more, rest_next, word_next}
use Rattle.damon_world.proofs.drawing.draw_from.Goals as goal

pub loop-place-preserved : goal.loop-place-preserved
loop-place-preserved g c =
    let l = c.loop-place in
    let kept = l.invariant in
    let w = c.next_u32.result in
    let here = g.R.Rng.stream l.source in
    let there = g.R.Rng.stream c.next_u32.new.self in
    record {
      len = length-set l.words l.place w ∙ kept.len;
      kept = λ p before.
          (let apart : p ≢ l.place = λ is. absurd (omega arith) in
          let same : slice_index (set l.words l.place w) p ≡ slice_index l.words p = rw get_or-set_other refl in
          same ∙ kept.kept p before);
      words = λ s at.
          drawn_more s l.words c.args.from l.place w (omega (arith, kept.len)) (word_next w s here there l.place (kept.rest s at) c.next_u32.ensures) (kept.words s at);
      rest = λ s at. rest_next w s here there l.place (kept.rest s at) c.next_u32.ensures;
    }
