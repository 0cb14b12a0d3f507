use Rattle.std.proofs.Common.{◌<◌, ◌≤◌, ap, sym, arith}
use Rattle.page_words.specs.Clears.{last_clear_pass}
use Rattle.page_words.specs.Seats.{entries_of}
use Rattle.page_words.proofs.AtSeats.{clear_keeps, after_clear}
use Rattle.page_words.proofs.words.PageWords.clear.Goals as goal

pub clear-found-requires-clause-keeps : goal.clear-found-requires-clause-keeps
clear-found-requires-clause-keeps c =
    let inside : c.args.page < c.self.inside.table.shared.key = let k = c.self.invariant.0 in let e = ap (λ t. t.words) c.self.view_is in let l = c.requires.page in omega (arith, k, e, l) in
    let later : last_clear_pass (entries_of c.seat.inside.seat.me.0) ≤ c.args.pass = let e = ap (λ v. last_clear_pass v.entries) c.seat.view_is in let l = c.requires.later in omega (arith, e, l) in
    clear_keeps _ _ _ _ _ c.args.pass _ inside c.requires.some later c.seat.invariant.0

pub invariant_of-seat : goal.invariant_of-seat
invariant_of-seat c = let t = after_clear _ _ _ _ _ c.seat.invariant.0 c.clear-found.ensures.me in (t.0, sym t.1)

pub returns-clause-last : goal.returns-clause-last
returns-clause-last c = (after_clear _ _ _ _ _ c.seat.invariant.0 c.clear-found.ensures.me).1
