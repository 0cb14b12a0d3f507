use Rattle.std.proofs.Common.{◌≡◌, ℕ, ◌+◌, ◌-◌, ◌++◌, ◌∷◌, [], append_assoc, take, refl, sym, ap, ◌∙◌, subst, drop, arith}
use Rattle.region_list.specs.Rows.{row_at}
use Rattle.range_update.specs.Order.{row_end}
use Rattle.range_update.specs.Updated.{boundaries}
use Rattle.range_update.specs.OpenPiece.{pieces_from}
use Rattle.range_update.proofs.OrderLemmas.{past_end, past_more, next_after}
use Rattle.range_update.proofs.PieceLemmas.{whole_row, kept_within, stretch_more}
use Rattle.range_update.proofs.pieces.push_whole_rows.Goals as goal

pub whole-preserved : goal.whole-preserved
whole-preserved c =
    let rows = c.args.cut.now.rows.now.rows in
    let t = c.args.current.target in
    let k = c.whole.invariant in
    let i = c.whole.next in
    let here = c.whole-test.ensures.here refl in
    let starts = c.whole-test.ensures.start refl in
    let keeps = c.whole-test.ensures.end refl in
    let x = row_end (row_at rows i) in
    let within = kept_within c.args.cut.now.unit c.args.cut.now.end c.whole.start x keeps in
    let rest = pieces_from rows t c.args.cut.now.unit c.args.cut.now.end x (boundaries (drop (i + 1) rows)) in
    let stretch = take (i - c.args.from) (drop c.args.from rows) in
    let next = subst (λ (q : ℕ). pieces_from rows q c.args.cut.now.unit c.args.cut.now.end c.whole.start (boundaries (drop i rows)) ≡ row_at rows i ∷ pieces_from rows q c.args.cut.now.unit c.args.cut.now.end x (boundaries (drop (i + 1) rows))) (c.whole-test.ensures.target refl) (whole_row rows c.args.cut.now.unit c.args.cut.now.end c.whole.start i c.requires.unit c.requires.order here starts keeps) in
    record {
      within = omega (arith, here);
      forward = omega (arith, k.forward);
      past = past_more c.args.cut.now.end rows i k.past within;
      none = λ same. absurd (omega (arith, same, k.forward));
      before = λ _. rw c.row_end-start.ensures (past_end rows i c.requires.order here);
      after = λ _ more. rw c.row_end-start.ensures (next_after 0 rows i c.requires.order more);
      low = λ _. omega (arith, within, c.row_end-start.ensures);
      so_far =
          ap (λ n. take (i + 1 - c.args.from) (drop c.args.from rows) ++ pieces_from rows t c.args.cut.now.unit c.args.cut.now.end n (boundaries (drop (i + 1) rows))) c.row_end-start.ensures
          ∙ ap (λ rs. rs ++ rest) (stretch_more rows c.args.from i k.forward here)
          ∙ append_assoc stretch (row_at rows i ∷ []) rest
          ∙ ap (λ rs. stretch ++ rs) (sym next)
          ∙ k.so_far;
    }
