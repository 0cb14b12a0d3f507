use Rattle.std.proofs.Common.{◌≡◌, ℕ, ◌+◌, ◌*◌, ◌<◌, take, length, set, refl, ap, sym, ◌∙◌, arith}
use Rattle.std.proofs.lemmas.List.{length-set}
use Rattle.rand_core.specs.Stream.{Stream}
use Rattle.sampler.specs.Draws.{drawn, drawn_rest}
use Rattle.sampler.specs.Pick.{picks_of}
use Rattle.sampler.proofs.Picking.{picks-next}
use Rattle.sampler.proofs.Words.{drawn-next, drawn_rest-append, drawn_rest-next}
use Rattle.sampler.proofs.picks.pick_drawn.Goals as goal

pub fours-preserved : goal.fours-preserved
fours-preserved g c =
    let s : Stream = g.R.Rng.stream c.args.source.now in
    let rows = c.args.regions.now.rows in
    let n : ℕ = 4 * c.fours.four in
    let kept = c.fours.invariant in
    let more : n + 4 ≡ 4 * (c.fours.four + 1) = omega arith in
    record {
      pages = ap (λ k. take k c.pick_four.new.pages) (sym more) ∙ c.pick_four.ensures.pages s kept.rest kept.pages ∙ ap (λ k. picks_of (take k rows) (drawn (length rows) s)) more;
      rest = c.pick_four.ensures.rest ∙ ap (drawn_rest 4) kept.rest ∙ sym (drawn_rest-append n 4 s) ∙ ap (λ k. drawn_rest k s) more;
      each = c.pick_four.ensures.each ∙ kept.each;
    }

pub others-preserved : goal.others-preserved
others-preserved g c =
    let s : Stream = g.R.Rng.stream c.args.source.now in
    let here : Stream = g.R.Rng.stream c.others.source in
    let there : Stream = g.R.Rng.stream c.next_u32-word.new.self in
    let rows = c.args.regions.now.rows in
    let i = c.others.index in
    let kept = c.others.invariant in
    let word = c.next_u32-word in
    let below : i < length rows = omega (arith, c.others-test.true, c.len-rows.ensures.len) in
    let got = drawn-next (length rows) i s here there word.result below kept.rest word.ensures in
    record {
      pages = picks-next rows (drawn (length rows) s) i (i + 1) c.pick_at.result c.others.pages (set c.others.pages i c.pick_at.result) kept.pages (c.pick_at.ensures.page (drawn (length rows) s) got) refl (omega (arith, below, kept.each)) (omega arith);
      rest = drawn_rest-next i (i + 1) s here there word.result (omega arith) kept.rest word.ensures;
      each = length-set c.others.pages i c.pick_at.result ∙ kept.each;
    }
