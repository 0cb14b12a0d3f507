use Rattle.std.proofs.Common.{◌+◌, ◌++◌, ◌∷◌, [], sym, ap, ◌∙◌, drop, arith}
use Rattle.region_list.specs.Rows.{row_at}
use Rattle.range_update.specs.Order.{row_end}
use Rattle.range_update.specs.Updated.{boundaries, piece}
use Rattle.range_update.specs.OpenPiece.{pieces_from}
use Rattle.range_update.proofs.OrderLemmas.{drop_row}
use Rattle.range_update.proofs.PieceLemmas.{pieces_some, room_on, last_start, row_list}
use Rattle.range_update.proofs.pieces.push_last.Goals as goal

pub cut_at_start-last-requires-clause-room : goal.cut_at_start-last-requires-clause-room
cut_at_start-last-requires-clause-room c =
    omega (arith, c.requires.room, pieces_some c.args.cut.now.rows.now.rows c.args.current.target c.args.cut.now.unit c.args.cut.now.end c.args.current.start (boundaries (drop c.args.index c.args.cut.now.rows.now.rows)))

pub push_piece-requires-clause-room : goal.push_piece-requires-clause-room
push_piece-requires-clause-room c =
    let rows = c.args.cut.now.rows.now.rows in
    let next = drop_row c.args.index rows (omega arith) in
    let xs = row_end (row_at rows c.args.index) ∷ boundaries (drop (c.args.index + 1) rows) in
    let same = c.cut_at_start-last.ensures.made xs ∙ ap (λ rs. c.args.made.now.rows ++ pieces_from rows c.args.current.target c.args.cut.now.unit c.args.cut.now.end c.args.current.start (boundaries rs)) (sym next) in
    let t = c.cut_at_start-last.result in
    omega (arith, room_on c.args.made.now.rows c.cut_at_start-last.new.made.rows (pieces_from rows c.args.current.target c.args.cut.now.unit c.args.cut.now.end t.start xs) (pieces_from rows c.args.current.target c.args.cut.now.unit c.args.cut.now.end c.args.current.start (boundaries (drop c.args.index rows))) c.args.made.now.cap same c.requires.room (pieces_some rows c.args.current.target c.args.cut.now.unit c.args.cut.now.end t.start xs), c.cut_at_start-last.ensures.cap)

pub returns-then-index-count : goal.returns-then-index-count
returns-then-index-count c =
    let rows = c.args.cut.now.rows.now.rows in
    let i = c.args.index in
    let next = drop_row i rows (omega arith) in
    let xs = row_end (row_at rows i) ∷ boundaries (drop (i + 1) rows) in
    let last = c.cut_at_start-last.result in
    let made = c.cut_at_start-last.new.made.rows in
    let all =
    ap (λ r. made ++ r ∷ []) (c.cut_at_start-last.ensures.open c.args.cut.now.end ∙ ap (λ t. piece rows t last.start c.args.cut.now.end) c.cut_at_start-last.ensures.target)
    ∙ ap (λ rs. made ++ rs) (sym (last_start rows c.args.current.target c.args.cut.now.unit c.args.cut.now.end last.start i c.requires.unit c.requires.order (omega arith) (c.requires.next (omega arith))))
    ∙ c.cut_at_start-last.ensures.made xs
    ∙ ap (λ rs. c.args.made.now.rows ++ pieces_from rows c.args.current.target c.args.cut.now.unit c.args.cut.now.end c.args.current.start (boundaries rs)) (sym next) in
    c.push_piece.ensures
    ∙ ap (λ rs. row_list rs c.cut_at_start-last.new.made.cap) all
    ∙ ap (λ n. row_list (c.args.made.now.rows ++ pieces_from rows c.args.current.target c.args.cut.now.unit c.args.cut.now.end c.args.current.start (boundaries (drop i rows))) n) c.cut_at_start-last.ensures.cap
