use Rattle.std.proofs.Common.{◌≡◌, ◌<◌, ℕ, List, length, ap, ◌∙◌, get_or, arith}
use Rattle.std.specs.Prelude.{◌&&◌}
use Rattle.std.proofs.lemmas.List.{get_or-map, length-map, length-set}
use Rattle.damon_types.specs.declared.row.Row.{Row}
use Rattle.scheme_match.specs.Match.{AreTested, is_in_span, is_match}
use Rattle.scheme_match.proofs.BlockLemmas.{no_row, tested_more}
use Rattle.scheme_match.proofs.block.test_rows.Goals as goal

pub loop-place-preserved : goal.loop-place-preserved
loop-place-preserved c =
    let p = c.args.pattern in
    let i = c.loop-place.place in
    let kept = c.loop-place.invariant in
    let within : (rows : List Row) → AreTested rows c.args.pages.now c.args.counts.now c.args.ages.now → i < length rows = λ rows is. omega (arith, c.loop-place-test.true, ap (λ (ns : List ℕ). length ns) is.size, length-map rows (λ r. r.pages)) in
    let here : (rows : List Row) → AreTested rows c.args.pages.now c.args.counts.now c.args.ages.now → c.fits.result ≡ is_match p (get_or rows i no_row) = λ rows is.
    let r = get_or rows i no_row in
    c.fits.ensures
    ∙ ap (λ n. is_in_span p.size n && is_in_span p.count (get_or c.args.counts.now i 0) && is_in_span p.age (get_or c.args.ages.now i 0)) (ap (λ (ns : List ℕ). get_or ns i 0) is.size ∙ get_or-map (λ r. r.pages) rows i no_row 0 (within rows is))
    ∙ ap (λ n. is_in_span p.size r.pages && is_in_span p.count n && is_in_span p.age (get_or c.args.ages.now i 0)) (ap (λ (ns : List ℕ). get_or ns i 0) is.count ∙ get_or-map (λ r. r.count) rows i no_row 0 (within rows is))
    ∙ ap (λ n. is_in_span p.size r.pages && is_in_span p.count r.count && is_in_span p.age n) (ap (λ (ns : List ℕ). get_or ns i 0) is.age ∙ get_or-map (λ r. r.age) rows i no_row 0 (within rows is)) in
    record {
      long = length-set c.loop-place.hits i c.fits.result ∙ kept.long;
      tested = λ rows is. tested_more (is_match p) rows c.loop-place.hits i c.fits.result (within rows is) (omega (arith, kept.long, c.loop-place-test.true, c.requires.few)) (kept.tested rows is) (here rows is);
    }
