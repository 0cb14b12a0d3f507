use Rattle.std.proofs.Common.{ℕ, List, subst, ap, ◌∙◌, arith}
use Rattle.std.specs.Prelude.{IsPermutation, slice_get}
use Rattle.heat_report.proofs.Medians.{spread_read, spread_of_is}
use Rattle.heat_report.proofs.sizes.Sizes.spread.Goals as goal

pub returns-clause-spread : goal.returns-clause-spread
returns-clause-spread c =
    spread_read c.args.self.now c.sort_unstable.new.self.items c.in_ok-least.field-0.now c.index.result.now c.index-2.result.now c.len-last.result (subst (λ (xs : List ℕ). IsPermutation xs c.sort_unstable.new.self.items) c.self.view_is c.sort_unstable.ensures.permutation) c.sort_unstable.ensures.sorted (c.in_ok-least.ensures.value ∙ ap (λ (xs : List ℕ). slice_get xs 0) c.deref.ensures.value) (omega (arith, c.len-last.ensures, c.deref.ensures.len)) c.index.ensures c.index-2.ensures

pub returns-clause-exact : goal.returns-clause-exact
returns-clause-exact c = spread_of_is c.args.self.now _ (returns-clause-spread c)
