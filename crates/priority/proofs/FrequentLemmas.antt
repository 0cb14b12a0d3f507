-- A listed score is the score of the row.
use Rattle.std.proofs.Common.{◌≡◌, true, ℕ, ◌*◌, ◌+◌, ◌/◌, ◌<◌, ◌≤◌, ap, ◌∙◌, arith}
use Rattle.std.specs.Prelude.{◌&&◌, nat_lt, min, slice_index_or}
use Rattle.std.proofs.lemmas.Bool.Decides.{nat_tests}
use Rattle.std.proofs.Math.Nat.{div-eq_of_lt}
use Rattle.damon_types.specs.declared.row.Row.{Row}
use Rattle.priority.specs.declared.frequent.FrequentScores.{FrequentScores}
use Rattle.priority.specs.Frequent.{AreFrequent}
use Rattle.priority.specs.Score.{Scoring, preferred, scaled, score_by, weighted_mean}

-- a number of which the part is 0
small : (number whole least : ℕ) → least * 99 < whole + 99 → number < least → 0 ≡ scaled number whole
small number whole least is less =
    let below : 99 * number < whole = omega (arith, is, less) in
    let none : 99 * number / whole ≡ 0 = div-eq_of_lt below in
    omega (arith, none)

pub listed_score : (by : Scoring) (row : Row) (f : FrequentScores) (age : ℕ) → AreFrequent by.total by.aggr by.weights by.prefer f → row.pages < f.pages → row.count < f.count → age ≡ min row.age 99 → slice_index_or f.by_age age 0 ≡ score_by by row
listed_score by row f age is few rare aged =
    let w = by.weights in
    let p = by.prefer in
    let some : 1 ≤ f.pages = omega (arith, few) in
    (is.scores some).each age (omega (arith, aged))
    ∙ ap (λ s. weighted_mean w s (preferred p 0) age) (small row.pages by.total f.pages is.pages few)
    ∙ ap (λ n. weighted_mean w (scaled row.pages by.total) (preferred p n) age) (small row.count by.aggr f.count is.count rare)
    ∙ ap (λ a. weighted_mean w (scaled row.pages by.total) (preferred p (scaled row.count by.aggr)) a) aged

-- both of two tests hold
pub first_less : (a b c d : ℕ) → nat_lt a b && nat_lt c d ≡ true → a < b
first_less a b c d both = grind (arith, nat_tests)

pub second_less : (a b c d : ℕ) → nat_lt a b && nat_lt c d ≡ true → c < d
second_less a b c d both = grind (arith, nat_tests)
