use Rattle.std.proofs.Common.{◌≡◌, refl, ◌-◌, ◌+◌, sym, nat_le, true, false, length, arith}
use Rattle.std.proofs.lemmas.Bool.Decides.{nat_tests}
use Rattle.std.proofs.lemmas.List.FromFn.{length-range_with_len}
use Rattle.std.proofs.lemmas.Result.{err_from_is_err_and}
use Rattle.script_lines.specs.Blocks.{touching, page_list}
use Rattle.script_lines.proofs.BlockLemmas.{counted-Err, counted-Ok}
use Rattle.script_lines.proofs.blocks.read_touches.Goals as goal

pub returns-in_err-pages-clause-exact : goal.returns-in_err-pages-clause-exact
returns-in_err-pages-clause-exact c =
    let said = touching c.args.space.now c.args.line.now in
    let p = err_from_is_err_and c.from_residual.result c.from_residual.ensures.1 in
    rw (p.1, p.2) (sym (counted-Err said c.args.touches c.in_err-pages.field-0.0 c.in_err-pages.ensures.exact))

pub returns-then-pages-touches-clause-exact : goal.returns-then-pages-touches-clause-exact
returns-then-pages-touches-clause-exact c =
    let pages = c.in_ok-pages.pages in
    let said = touching c.args.space.now c.args.line.now in
    let count = length-range_with_len pages.from (pages.to - pages.from) in
    let fits : nat_le (c.args.touches + length (page_list pages)) 1048576 ≡ true = grind (arith, nat_tests, count, c.if-pages-touches.true, c.requires) in
    rw (counted-Ok said c.args.touches (page_list pages) c.in_ok-pages.ensures.exact, fits) refl

pub returns-else-pages-touches-clause-exact : goal.returns-else-pages-touches-clause-exact
returns-else-pages-touches-clause-exact c =
    let pages = c.in_ok-pages.pages in
    let said = touching c.args.space.now c.args.line.now in
    let count = length-range_with_len pages.from (pages.to - pages.from) in
    let over : nat_le (c.args.touches + length (page_list pages)) 1048576 ≡ false = grind (arith, nat_tests, count, c.if-pages-touches.false, c.requires) in
    rw (counted-Ok said c.args.touches (page_list pages) c.in_ok-pages.ensures.exact, over) refl
