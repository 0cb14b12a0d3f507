use Rattle.std.proofs.Common.{◌≡◌, ℕ, ◌/◌, map, sym, ap, ◌∙◌}
use Rattle.std.specs.Prelude.{max, fold}
use Rattle.std.proofs.lemmas.List.Folds.{fold-map}
use Rattle.damon_types.specs.declared.row.Row.{Row}
use Rattle.aggregator.proofs.thresholds.threshold.Goals as goal

pub returns : goal.returns
returns c =
    let count : Row → ℕ = λ r. r.count in
    let most : ℕ → ℕ → ℕ = λ m n. max m n in
    ap (λ n. n / 10) (c.highest.ensures ∙ ap (λ ns. fold most 0 ns) (c.counts.ensures ∙ ap (λ rs. map count rs) c.rows.ensures.rows) ∙ fold-map most count 0 c.args.regions.now.rows)
