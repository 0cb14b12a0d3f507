use Rattle.std.proofs.Common.{◌≡◌, ℕ, length, map, ap, sym, ◌∙◌}
use Rattle.std.specs.Prelude.{replicate}
use Rattle.std.proofs.lemmas.List.{length-map}
use Rattle.damon_types.specs.declared.row.Row.{Row}
use Rattle.aggregator.proofs.RowLemmas.{cleared_ages, cleared_counts, cleared_lasts}
use Rattle.aggregator.proofs.clearing.ClearingValuePass.run.Goals as goal

pub returns : goal.returns
returns c rows is =
    let count : Row → ℕ = λ r. r.count in
    record {
      count = c.fill.ensures.after (λ y same. same) ∙ ap (λ ns. replicate (length ns) 0) is.count ∙ ap (λ n. replicate n 0) (length-map rows count) ∙ sym (cleared_counts rows);
      last = c.copy_from_slice.ensures.after ∙ is.count ∙ sym (cleared_lasts rows);
      age = is.age ∙ sym (cleared_ages rows);
    }
