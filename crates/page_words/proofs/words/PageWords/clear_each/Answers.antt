use Rattle.std.proofs.Common.{ℕ, ◌<◌, length, get_or, arith}
use Rattle.std.proofs.lemmas.Option.{slice_get-get_or}
use Rattle.page_words.proofs.StepsOfPass.{cleared_more}
use Rattle.page_words.proofs.words.PageWords.clear_each.Goals as goal

pub loop-k-preserved : goal.loop-k-preserved
loop-k-preserved c =
    let pages = c.args.pages.now in
    let k : ℕ = c.loop-k.k in
    let below : k < length pages = omega (arith, c.loop-k-test.true) in
    record {
      seat = cleared_more c.args.seat.now c.loop-k.seat c.clear-old.new.seat c.args.pass pages k (get_or pages k 0) c.loop-k.invariant.seat c.clear-old.ensures.entries (slice_get-get_or pages k 0 below);
      last = omega (arith, c.clear-old.ensures.last);
    }
