use Rattle.std.proofs.Common.{◌≡◌, ℕ, ◌+◌, ◌<◌, ◌||◌, List, length, map, min, nat_lt, set, if◌then◌else◌, sym, ap, ◌∙◌, add-one, arith}
use Rattle.std.specs.Int.{abs_diff}
use Rattle.std.specs.Prelude.{slice_index}
use Rattle.std.proofs.lemmas.List.{length-map}
use Rattle.damon_types.specs.declared.row.Row.{Row}
use Rattle.region_list.specs.Rows.{row_at}
use Rattle.aggregator.specs.Aged.{aged_row, is_anew, max_age}
use Rattle.aggregator.proofs.RowLemmas.{ages_so_far, aged_more, in_column, next_is_old}
use Rattle.aggregator.proofs.ages.Aging.age_values.Goals as goal

pub loop-index-preserved : goal.loop-index-preserved
loop-index-preserved c rows is =
    let t = c.args.self.threshold in
    let v = c.args.self.version in
    let i = c.loop-index.index in
    let row = row_at rows i in
    let counts = c.args.counts.now in
    let lasts = c.args.lasts.now in
    let within : i < length rows = omega (arith, c.loop-index-test.true, ap (λ (ns : List ℕ). length ns) is.age, length-map rows (λ r. r.age)) in
    let ages : c.loop-index.ages ≡ ages_so_far t v rows i = c.loop-index.invariant rows is in
    let count : slice_index counts i ≡ row.count = ap (λ ns. slice_index ns i) is.count ∙ in_column (λ r. r.count) rows i within in
    let last : slice_index lasts i ≡ row.last = ap (λ ns. slice_index ns i) is.last ∙ in_column (λ r. r.last) rows i within in
    let age : slice_index c.loop-index.ages i ≡ row.age = ap (λ ns. slice_index ns i) ages ∙ next_is_old t v rows i within in
    let next : ℕ → ℕ → ℕ → ℕ = λ n l a. if nat_lt t (abs_diff n l) || is_anew v n l then 0 else min (a + 1) max_age in
    let result : c.next_age.result ≡ (aged_row t v row).age =
    c.next_age.ensures
    ∙ ap (λ n. next n (slice_index lasts i) (slice_index c.loop-index.ages i)) count
    ∙ ap (λ n. next row.count n (slice_index c.loop-index.ages i)) last
    ∙ ap (λ n. next row.count row.last n) age in
    ap (λ n. set c.loop-index.ages i n) result
    ∙ ap (λ ns. set ns i (aged_row t v row).age) ages
    ∙ aged_more t v rows i within
    ∙ ap (λ n. ages_so_far t v rows n) (sym (add-one i))
