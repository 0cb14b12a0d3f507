use Rattle.std.proofs.Common.{◌≡◌, ℕ, ◌+◌, ◌++◌, ◌∷◌, subst, sym, ap, ◌∙◌, drop, arith}
use Rattle.region_list.specs.Rows.{row_at}
use Rattle.range_update.specs.Order.{row_end}
use Rattle.range_update.specs.Updated.{boundaries}
use Rattle.range_update.specs.OpenPiece.{pieces_from}
use Rattle.range_update.proofs.OrderLemmas.{drop_row}
use Rattle.range_update.proofs.PieceLemmas.{pieces_some, room_on}
use Rattle.range_update.proofs.pieces.cut_at_row.Goals as goal

pub cut_at_start-current-requires-clause-room : goal.cut_at_start-current-requires-clause-room
cut_at_start-current-requires-clause-room c =
    omega (arith, c.requires.room, pieces_some c.args.cut.now.rows.now.rows c.args.current.target c.args.cut.now.unit c.args.cut.now.end c.args.current.start (boundaries (drop c.args.index c.args.cut.now.rows.now.rows)))

pub cut_at_end-requires-clause-room : goal.cut_at_end-requires-clause-room
cut_at_end-requires-clause-room c =
    let rows = c.args.cut.now.rows.now.rows in
    let next = drop_row c.args.index rows c.requires.here in
    let xs = row_end (row_at rows c.args.index) ∷ boundaries (drop (c.args.index + 1) rows) in
    let same = c.cut_at_start-current.ensures.made xs ∙ ap (λ rs. c.args.made.now.rows ++ pieces_from rows c.args.current.target c.args.cut.now.unit c.args.cut.now.end c.args.current.start (boundaries rs)) (sym next) in
    let t = c.cut_at_start-current.result in
    omega (arith, room_on c.args.made.now.rows c.cut_at_start-current.new.made.rows (pieces_from rows c.args.current.target c.args.cut.now.unit c.args.cut.now.end t.start xs) (pieces_from rows c.args.current.target c.args.cut.now.unit c.args.cut.now.end c.args.current.start (boundaries (drop c.args.index rows))) c.args.made.now.cap same c.requires.room (pieces_some rows c.args.current.target c.args.cut.now.unit c.args.cut.now.end t.start xs), c.cut_at_start-current.ensures.cap)

pub returns-clause-made : goal.returns-clause-made
returns-clause-made c =
    let rows = c.args.cut.now.rows.now.rows in
    let next = drop_row c.args.index rows c.requires.here in
    let rest = boundaries (drop (c.args.index + 1) rows) in
    let xs = row_end (row_at rows c.args.index) ∷ rest in
    let first = c.cut_at_start-current.ensures.made xs in
    let t = c.cut_at_start-current.result in
    let then = subst (λ (q : ℕ). c.cut_at_end.new.made.rows ++ pieces_from rows q c.args.cut.now.unit c.args.cut.now.end c.cut_at_end.result.start rest ≡ c.cut_at_start-current.new.made.rows ++ pieces_from rows q c.args.cut.now.unit c.args.cut.now.end t.start xs) c.cut_at_start-current.ensures.target (c.cut_at_end.ensures.made rest) in
    then ∙ first ∙ ap (λ rs. c.args.made.now.rows ++ pieces_from rows c.args.current.target c.args.cut.now.unit c.args.cut.now.end c.args.current.start (boundaries rs)) (sym next)
