use Rattle.std.proofs.Common.{◌<◌, ap, arith}
use Rattle.page_words.proofs.AtSeats.{touch_keeps}
use Rattle.page_words.proofs.words.PageWords.touch.Goals as goal

pub touch-requires-clause-keeps : goal.touch-requires-clause-keeps
touch-requires-clause-keeps c =
    let inside : c.args.page < c.self.inside.table.shared.key = let k = c.self.invariant.0 in let e = ap (λ t. t.words) c.self.view_is in let l = c.requires.page in omega (arith, k, e, l) in
    touch_keeps _ _ _ _ _ inside c.seat.invariant
