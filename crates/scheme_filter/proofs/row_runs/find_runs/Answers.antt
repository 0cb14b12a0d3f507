use Rattle.std.proofs.Common.{sym, subst}
use Rattle.scheme_filter.proofs.FoundLemmas.{Found, found_first, found_next}
use Rattle.scheme_filter.proofs.row_runs.find_runs.Goals as goal

pub runs-init : goal.runs-init
runs-init c =
    let row = c.args.row.now in
    let fs = c.args.filters.now in
    let from = c.first_with-from in
    subst (λ rs. Found fs row from.result rs) (sym c.clear.ensures)
    (found_first fs row from.result c.requires.few from.ensures.first from.ensures.change)

pub runs-preserved : goal.runs-preserved
runs-preserved c =
    let row = c.args.row.now in
    let fs = c.args.filters.now in
    let to = c.first_with-to in
    let next = c.first_with-from-in-runs in
    subst (λ rs. Found fs row next.result rs) (sym c.push.ensures)
    (found_next fs row c.runs.from to.result next.result c.runs.runs c.runs-test.true c.runs.invariant to.ensures.first to.ensures.change next.ensures.first next.ensures.change)
