use Rattle.std.proofs.Common.{◌≡◌, ℕ, length, true, false, refl, sym, ap, ◌∙◌, arith}
use Rattle.std.proofs.lemmas.Bool.Decides.{nat_tests}
use Rattle.std.proofs.lemmas.Option.{get_or_from_slice_get}
use Rattle.damon_types.specs.declared.row.Row.{Row}
use Rattle.region_list.specs.Rows.{cut_after, no_row, row_at, with_values}
use Rattle.region_list.specs.Regions.{RegionList}
use Rattle.scheme_engine.specs.Outcome.{may_cut_row}
use Rattle.scheme_engine.proofs.CutLemmas.{cut_and_renewed, length-cut_after}
use Rattle.scheme_engine.proofs.cut.cut.Goals as goal
use Rattle.scheme_engine.proofs.cut.cut.Goals.{else-room-gt0-via-then-room-gt0+then-part-unit+else-row-part, else-room-gt0-via-then-room-gt0+else-part-unit, else-room-gt0-via-else-room-gt0}

-- a region list with the counts of a row at an index, and age 0
abbrev renewed : RegionList → ℕ → Row → RegionList
renewed n i x = record n { rows = with_values n.rows i x.count x.last 0 }

pub cut-requires-clause-room : goal.cut-requires-clause-room
cut-requires-clause-room c = omega (arith, c.if-room-gt0.true, c.room.ensures)

pub cut-requires-clause-second : goal.cut-requires-clause-second
cut-requires-clause-second c =
    let p = c.args.part in
    let r = c.args.regions.now in
    let is : row_at r.rows p.index ≡ c.row-row.result = get_or_from_slice_get r.rows p.index c.row-row.result no_row c.row-row.ensures.row in
    omega (arith, c.if-row-part.true, c.unit-unit.ensures, ap (λ (x : Row). x.pages) is)

pub set_values-requires : goal.set_values-requires
set_values-requires c =
    let p = c.args.part in
    let r = c.args.regions.now in
    omega (arith, c.requires.index, length-cut_after p.index p.pages r.rows c.requires.index, ap (λ (n : RegionList). length n.rows) c.cut.ensures)

pub returns-then-row-part : goal.returns-then-row-part
returns-then-row-part c =
    let p = c.args.part in
    let r = c.args.regions.now in
    let is : row_at r.rows p.index ≡ c.row-row.result = get_or_from_slice_get r.rows p.index c.row-row.result no_row c.row-row.ensures.row in
    let pages = ap (λ (x : Row). x.pages) is in
    let may : may_cut_row r p.pages (row_at r.rows p.index) ≡ true = grind (arith, nat_tests, c.if-room-gt0.true, c.room.ensures, c.if-part-unit.true, c.if-row-part.true, c.unit-unit.ensures, pages) in
    c.set_values.ensures
    ∙ ap (λ n. renewed n p.index c.row-row.result) c.cut.ensures
    ∙ ap (renewed (record r { rows = cut_after r.rows p.index p.pages }) p.index) (sym is)
    ∙ ap (λ rs. record r { rows = rs }) (cut_and_renewed p.index p.pages r.rows c.requires.index)
    ∙ rw may refl

pub returns-else-room-gt0 : goal.returns-else-room-gt0
returns-else-room-gt0 c =
    let p = c.args.part in
    let r = c.args.regions.now in
    let is : row_at r.rows p.index ≡ c.row-row.result = get_or_from_slice_get r.rows p.index c.row-row.result no_row c.row-row.ensures.row in
    let pages = ap (λ (x : Row). x.pages) is in
    let may : may_cut_row r p.pages (row_at r.rows p.index) ≡ false =
    elim c.else-room-gt0.branch [
      | else-room-gt0-via-then-room-gt0+then-part-unit+else-row-part w ↦ grind (arith, nat_tests, w.if-row-part.false, c.unit-unit.ensures, pages)
      | else-room-gt0-via-then-room-gt0+else-part-unit w ↦ grind (arith, nat_tests, w.if-part-unit.false, c.unit-unit.ensures)
      | else-room-gt0-via-else-room-gt0 w ↦ grind (arith, nat_tests, w.if-room-gt0.false, c.room.ensures)
    ] in
    rw may refl
