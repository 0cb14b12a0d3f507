use Rattle.std.proofs.Common.{◌≡◌, ℕ, ◌+◌, ◌++◌, length-append, refl, sym, ap, ◌∙◌, subst, drop, arith}
use Rattle.damon_types.specs.Ranges.{end_of}
use Rattle.range_update.specs.Updated.{boundaries, pieces, range_pieces}
use Rattle.range_update.specs.OpenPiece.{pieces_from}
use Rattle.range_update.proofs.OrderLemmas.{past_weaker, past_more}
use Rattle.range_update.proofs.PieceLemmas.{opened, kept_skip, room_here}
use Rattle.range_update.proofs.pieces.cut_range.Goals as goal

pub rows-init : goal.rows-init
rows-init c =
    let rows = c.args.rows.now.rows in
    let g = c.args.range in
    let i = c.skip_rows-index.result in
    let same = kept_skip c.args.unit (end_of g) g.first rows i c.requires.unit c.skip_rows-index.ensures.past in
    record {
      within = c.skip_rows-index.ensures.within;
      forward = c.skip_rows-index.ensures.forward;
      past = past_weaker g.first (end_of g) rows i (omega arith) c.skip_rows-index.ensures.past;
      piece = opened rows g.target g.first c.covering_row-first.result c.begin_piece-current.result c.begin_piece-current.ensures.target c.begin_piece-current.ensures.start c.begin_piece-current.ensures.values c.covering_row-first.ensures;
      target = c.begin_piece-current.ensures.target;
      start = omega (arith, c.begin_piece-current.ensures.start);
      cap = refl;
      so_far =
          ap (λ n. c.args.made.now.rows ++ pieces_from rows g.target c.args.unit (end_of g) n (boundaries (drop i rows))) c.begin_piece-current.ensures.start
          ∙ ap (λ ks. c.args.made.now.rows ++ pieces rows g.target (end_of g) g.first ks) (sym same);
    }

pub cut_at_row-piece-requires-clause-room : goal.cut_at_row-piece-requires-clause-room
cut_at_row-piece-requires-clause-room c =
    let rows = c.args.rows.now.rows in
    let g = c.args.range in
    let k = c.rows.invariant in
    room_here rows c.args.unit (end_of g) g.target c.rows.current (boundaries (drop c.rows.index rows)) c.rows.made.rows (c.args.made.now.rows ++ range_pieces c.args.unit rows g) c.rows.made.cap k.target k.so_far (omega (arith, c.requires.room, length-append c.args.made.now.rows (range_pieces c.args.unit rows g), k.cap))

pub push_last-requires-clause-room : goal.push_last-requires-clause-room
push_last-requires-clause-room c =
    let rows = c.args.rows.now.rows in
    let g = c.args.range in
    let k = c.rows.invariant in
    room_here rows c.args.unit (end_of g) g.target c.rows.current (boundaries (drop c.rows.index rows)) c.rows.made.rows (c.args.made.now.rows ++ range_pieces c.args.unit rows g) c.rows.made.cap k.target k.so_far (omega (arith, c.requires.room, length-append c.args.made.now.rows (range_pieces c.args.unit rows g), k.cap))

pub push_whole_rows-progress-requires-clause-past : goal.push_whole_rows-progress-requires-clause-past
push_whole_rows-progress-requires-clause-past c =
    past_more (end_of c.args.range) c.args.rows.now.rows c.rows.index c.rows.invariant.past (c.rows-test.ensures.yes refl).1

pub push_whole_rows-progress-requires-clause-room : goal.push_whole_rows-progress-requires-clause-room
push_whole_rows-progress-requires-clause-room c =
    let rows = c.args.rows.now.rows in
    let g = c.args.range in
    let k = c.rows.invariant in
    let cut = c.cut_at_row-piece in
    let so_far =
    subst (λ (t : ℕ). cut.new.made.rows ++ pieces_from rows t c.args.unit (end_of g) cut.result.start (boundaries (drop (c.rows.index + 1) rows)) ≡ c.rows.made.rows ++ pieces_from rows t c.args.unit (end_of g) c.rows.current.start (boundaries (drop c.rows.index rows))) k.target cut.ensures.made
    ∙ k.so_far in
    room_here rows c.args.unit (end_of g) g.target cut.result (boundaries (drop (c.rows.index + 1) rows)) cut.new.made.rows (c.args.made.now.rows ++ range_pieces c.args.unit rows g) cut.new.made.cap (cut.ensures.target ∙ k.target) so_far (omega (arith, c.requires.room, length-append c.args.made.now.rows (range_pieces c.args.unit rows g), k.cap, cut.ensures.cap))

pub rows-preserved : goal.rows-preserved
rows-preserved c =
    let rows = c.args.rows.now.rows in
    let g = c.args.range in
    let k = c.rows.invariant in
    let here = c.rows-test.ensures.yes refl in
    let cut = c.cut_at_row-piece in
    let on = c.push_whole_rows-progress in
    let target = cut.ensures.target ∙ k.target in
    record {
      within = on.ensures.within;
      forward = omega (arith, k.forward, on.ensures.forward);
      past = on.ensures.past;
      piece = on.ensures.open;
      target = on.ensures.target ∙ target;
      start = on.ensures.start (cut.ensures.within k.start);
      cap = on.ensures.cap ∙ cut.ensures.cap ∙ k.cap;
      so_far =
          subst (λ (t : ℕ). on.new.made.rows ++ pieces_from rows t c.args.unit (end_of g) on.result.current.start (boundaries (drop on.result.next rows)) ≡ cut.new.made.rows ++ pieces_from rows t c.args.unit (end_of g) cut.result.start (boundaries (drop (c.rows.index + 1) rows))) target on.ensures.made
          ∙ subst (λ (t : ℕ). cut.new.made.rows ++ pieces_from rows t c.args.unit (end_of g) cut.result.start (boundaries (drop (c.rows.index + 1) rows)) ≡ c.rows.made.rows ++ pieces_from rows t c.args.unit (end_of g) c.rows.current.start (boundaries (drop c.rows.index rows))) k.target cut.ensures.made
          ∙ k.so_far;
    }
