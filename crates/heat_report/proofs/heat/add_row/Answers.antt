use Rattle.std.proofs.Common.{◌≡◌, ◌⊎◌, inl, inr, ◌+◌, ◌≤◌, arith}
use Rattle.std.proofs.lemmas.Bool.Decides.{nat_tests}
use Rattle.heat_report.specs.Heat.{border}
use Rattle.heat_report.proofs.Adding.{IsAdded, added_all, added_fits, added_next, added_none, added_sum, part_is}
use Rattle.heat_report.proofs.heat.add_row.Goals as goal
use Rattle.heat_report.proofs.heat.add_row.Goals.{Joined-then-column-columns, then-column-columns-via-then-column-columns, then-column-columns-via-else-column-columns+then-border-end}
use Rattle.heat_report.proofs.heat.add_row.Given.{Over}

pub columns-init : goal.columns-init
columns-init g c = record {
  within = c.requires.from;
  begun = omega (arith, c.requires.after);
  added = added_none c.args.columns.now.first c.args.columns.now.pages g.row.N c.args.row.now c.args.from c.args.out.now (omega (arith, c.requires.from)) c.requires.after c.requires.len;
}

pub add-requires : goal.add-requires
add-requires g c =
    let first = c.args.columns.now.first in
    let pages = c.args.columns.now.pages in
    let r = c.args.row.now in
    let k = c.columns.column in
    let part = part_is first pages g.row.N c.args.columns.now.number k r c.from.result c.from-in-columns.result c.pages_in-pages.result c.requires.number c.from.ensures c.from-in-columns.ensures c.pages_in-pages.ensures.exact in
    let fits = added_fits first pages g.row.N r k c.args.out.now c.columns.out (omega (arith, c.requires.from)) c.columns.invariant.added in
    (omega (arith, c.requires.few), (c.columns.invariant.within, omega (arith, part, fits, c.requires.fits)))

pub columns-preserved : goal.columns-preserved
columns-preserved g c =
    let first = c.args.columns.now.first in
    let pages = c.args.columns.now.pages in
    let r = c.args.row.now in
    let k = c.columns.column in
    let part = part_is first pages g.row.N c.args.columns.now.number k r c.from.result c.from-in-columns.result c.pages_in-pages.result c.requires.number c.from.ensures c.from-in-columns.ensures c.pages_in-pages.ensures.exact in
    record {
      within = grind (arith, nat_tests, c.if-column-columns.false, c.columns.invariant.within, c.requires.number);
      begun = grind (arith, nat_tests, c.if-border-end.false, c.border.ensures.exact, c.requires.number);
      added = added_next first pages g.row.N r k _ c.args.out.now c.columns.out c.add.new.self c.columns.invariant.within part c.add.ensures.at c.columns.invariant.added;
    }

-- the part of the column is added
stepped : (g : Over) (c : Joined-then-column-columns g) → IsAdded c.args.columns.now.first c.args.columns.now.pages g.row.N c.args.row.now (c.columns.column + 1) c.args.out.now c.add.new.self
stepped g c =
    let first = c.args.columns.now.first in
    let pages = c.args.columns.now.pages in
    let r = c.args.row.now in
    let k = c.columns.column in
    let part = part_is first pages g.row.N c.args.columns.now.number k r c.from.result c.from-in-columns.result c.pages_in-pages.result c.requires.number c.from.ensures c.from-in-columns.ensures c.pages_in-pages.ensures.exact in
    added_next first pages g.row.N r k _ c.args.out.now c.columns.out c.add.new.self c.columns.invariant.within part c.add.ensures.at c.columns.invariant.added

pub returns-then-column-columns-clause-sum : goal.returns-then-column-columns-clause-sum
returns-then-column-columns-clause-sum g c =
    added_sum c.args.columns.now.first c.args.columns.now.pages g.row.N c.args.row.now (c.columns.column + 1) c.args.out.now c.add.new.self (stepped g c)

pub returns-then-column-columns-clause-heat : goal.returns-then-column-columns-clause-heat
returns-then-column-columns-clause-heat g c =
    let done : (c.columns.column + 1 ≡ g.row.N) ⊎ (c.args.row.now.start + c.args.row.now.pages ≤ border c.args.columns.now.first c.args.columns.now.pages g.row.N (c.columns.column + 1)) =
    elim c.then-column-columns.branch [
      | then-column-columns-via-then-column-columns w ↦ inl (grind (arith, nat_tests, w.if-column-columns.true, c.requires.number))
      | then-column-columns-via-else-column-columns+then-border-end w ↦ inr (grind (arith, nat_tests, w.if-border-end.true, w.border.ensures.exact, c.requires.number))
    ] in
    added_all c.args.columns.now.first c.args.columns.now.pages g.row.N c.args.row.now c.columns.column c.args.out.now c.add.new.self done (stepped g c)
