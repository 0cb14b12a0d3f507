use Rattle.std.proofs.Common.{◌+◌, ◌<◌, length, set, refl, ◌∙◌, arith}
use Rattle.std.proofs.lemmas.List.{length-set}
use Rattle.std.proofs.lemmas.Option.{slice_get-get_or}
use Rattle.sampler.proofs.Picking.{picks-next}
use Rattle.sampler.proofs.picks.pick_given.Goals as goal

pub loop-index-preserved : goal.loop-index-preserved
loop-index-preserved c =
    let rows = c.args.regions.now.rows in
    let ws = c.args.words.now in
    let i = c.loop-index.index in
    let kept = c.loop-index.invariant in
    let p = c.pick_at-page in
    let below : i < length rows = omega (arith, c.loop-index-test.true, c.len-index-end.ensures.len) in
    let got = slice_get-get_or ws i 0 (omega (arith, below, c.requires.words)) in
    record {
      pages = picks-next rows ws i (i + 1) p.result c.loop-index.pages (set c.loop-index.pages i p.result) kept.pages (p.ensures.page ws got) refl (omega (arith, below, kept.each)) (omega arith);
      each = length-set c.loop-index.pages i p.result ∙ kept.each;
    }
