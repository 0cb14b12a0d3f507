-- Rows of which no two adjacent ones are joined stay as they are.
use Rattle.std.proofs.Common.{◌≡◌, ℕ, zero, suc, ◌+◌, ◌-◌, ◌≤◌, ◌<◌, Bool, true, false, List, [], ◌∷◌, ◌++◌, length, take, drop, append_assoc, refl, sym, ap, ◌∙◌, subst, arith}
use Rattle.std.specs.Prelude.{◌&&◌}
use Rattle.std.proofs.lemmas.List.{append_cancel_left, drop-take, length-append, length-drop, length-take-le, take-append-drop}
use Rattle.damon_types.specs.declared.range.Range.{Range}
use Rattle.damon_types.specs.declared.row.Row.{Row}
use Rattle.damon_types.proofs.Lemmas.{and_false}
use Rattle.region_list.specs.Rows.{row_at}
use Rattle.region_list.specs.Shrink.{in_one_range}
use Rattle.region_merge.specs.Merged.{is_within, may_join, merged_from, merged}
use Rattle.region_merge.proofs.StepLemmas.{next_row}

module _ (gs : List Range) (threshold limit : ℕ) where
  stays_at : (rows : List Row) (j : ℕ) → suc j < length rows → is_within threshold limit (row_at rows j) (row_at rows (suc j)) ≡ false
      → take j rows ++ merged gs threshold limit (drop j rows) ≡ take (suc j) rows ++ merged gs threshold limit (drop (suc j) rows)
  stays_at [] j within apart = absurd (omega arith)
  stays_at (a ∷ []) zero within apart = absurd (omega arith)
  stays_at (a ∷ b ∷ rows) zero within apart =
      let test : may_join gs threshold limit a b ≡ false = ap (λ v. in_one_range gs a b && v) apart ∙ and_false (in_one_range gs a b) in
      rw test refl
  stays_at (a ∷ rows) (suc j) within apart = ap (λ rs. a ∷ rs) (stays_at rows j (omega arith) apart)

  -- the rows up to one stay if it is not joined to the one before it
  pub one_stays : (rows : List Row) (n : ℕ) → 1 ≤ n → n < length rows → is_within threshold limit (row_at rows (n - 1)) (row_at rows n) ≡ false
      → take (n - 1) rows ++ merged gs threshold limit (drop (n - 1) rows) ≡ take (n + 1 - 1) rows ++ merged gs threshold limit (drop (n + 1 - 1) rows)
  one_stays rows zero some within apart = absurd (omega arith)
  one_stays rows (suc j) some within apart =
      let here : suc j - 1 ≡ j = omega arith in
      let next : suc j + 1 - 1 ≡ suc j = omega arith in
      let at : ℕ → List Row = λ k. take k rows ++ merged gs threshold limit (drop k rows) in
      let same = subst (λ k. is_within threshold limit (row_at rows k) (row_at rows (suc j)) ≡ false) here apart in
      ap at here ∙ stays_at rows j within same ∙ sym (ap at next)

  last_stays : (rows : List Row) (j : ℕ) → length rows ≤ suc j → take j rows ++ merged gs threshold limit (drop j rows) ≡ rows
  last_stays [] zero few = refl
  last_stays [] (suc j) few = refl
  last_stays (a ∷ []) zero few = refl
  last_stays (a ∷ b ∷ rows) zero few = absurd (omega arith)
  last_stays (a ∷ rows) (suc j) few = ap (λ rs. a ∷ rs) (last_stays rows j (omega arith))

  pub all_stay : (rows : List Row) (n : ℕ) → length rows ≤ n → 1 ≤ n → take (n - 1) rows ++ merged gs threshold limit (drop (n - 1) rows) ≡ rows
  all_stay rows n few some = last_stays rows (n - 1) (omega arith)

  stays_next : (rows : List Row) (k : ℕ) (a b : Row) (left rest : List Row) → drop k rows ≡ a ∷ left → left ≡ b ∷ rest → may_join gs threshold limit a b ≡ false
      → take (suc k) rows ++ merged gs threshold limit left ≡ take k rows ++ merged gs threshold limit (drop k rows)
  stays_next [] zero a b left rest first second apart = absurd (cc first)
  stays_next [] (suc k) a b left rest first second apart = absurd (cc first)
  stays_next (r ∷ rows) zero a b left rest first second apart =
      let here : r ≡ a = cc first in
      let same : rows ≡ b ∷ rest = cc (first, second) in
      let test : may_join gs threshold limit r b ≡ false = ap (λ x. may_join gs threshold limit x b) here ∙ apart in
      let begins : merged_from gs threshold limit r (b ∷ rest) ≡ r ∷ merged_from gs threshold limit b rest = rw test refl in
      ap (λ rs. r ∷ merged gs threshold limit rs) second ∙ sym (ap (λ rs. merged_from gs threshold limit r rs) same ∙ begins)
  stays_next (r ∷ rows) (suc k) a b left rest first second apart = ap (λ rs. r ∷ rs) (stays_next rows k a b left rest first second apart)

  -- the rows up to one stay if it is not joined to the one before it, in whatever ranges they lie
  pub next_stays : (rows : List Row) (k : ℕ) (a b : Row) (left rest : List Row) → drop k rows ≡ a ∷ left → left ≡ b ∷ rest → may_join gs threshold limit a b ≡ false
      → take (k + 1) rows ++ merged gs threshold limit left ≡ take k rows ++ merged gs threshold limit (drop k rows)
  next_stays rows k a b left rest first second apart =
      let next : k + 1 ≡ suc k = omega arith in
      ap (λ n. take n rows ++ merged gs threshold limit left) next ∙ stays_next rows k a b left rest first second apart

take_front : (n p : ℕ) (rows : List Row) → n ≤ p → take n (take p rows) ≡ take n rows
take_front zero p rows low = refl
take_front (suc n) zero rows low = absurd (omega arith)
take_front (suc n) (suc p) [] low = refl
take_front (suc n) (suc p) (r ∷ rows) low = ap (λ rs. r ∷ rs) (take_front n p rows (omega arith))

take_between : (rows : List Row) (i k : ℕ) → i ≤ k → take k rows ≡ take i rows ++ take (k - i) (drop i rows)
take_between rows i k low =
    let sum : k ≡ i + (k - i) = omega arith in
    let all : List Row = take (i + (k - i)) rows in
    ap (λ n. take n rows) sum
    ∙ sym (take-append-drop i all)
    ∙ ap (λ rs. rs ++ drop i all) (take_front i (i + (k - i)) rows (omega arith))
    ∙ ap (λ rs. take i rows ++ rs) (drop-take i (k - i) rows)

-- so do the rows between two of them, where all before either of them stay
pub between_stay : (gs : List Range) (threshold limit : ℕ) (rows : List Row) (i k : ℕ) → i ≤ k
    → take k rows ++ merged gs threshold limit (drop k rows) ≡ take i rows ++ merged gs threshold limit (drop i rows)
    → take (k - i) (drop i rows) ++ merged gs threshold limit (drop k rows) ≡ merged gs threshold limit (drop i rows)
between_stay gs threshold limit rows i k low stay =
    append_cancel_left (take i rows) _ _
    (sym (append_assoc (take i rows) (take (k - i) (drop i rows)) (merged gs threshold limit (drop k rows))) ∙ ap (λ rs. rs ++ merged gs threshold limit (drop k rows)) (sym (take_between rows i k low)) ∙ stay)

-- a group that ends before row i, the rows from there to row k, which stay, and those behind them
pub stretch_stays : (gs : List Range) (threshold limit : ℕ) (made all rows rest : List Row) (a b : Row) (i k : ℕ) → i ≤ k
    → drop i rows ≡ b ∷ rest → may_join gs threshold limit a b ≡ false
    → take k rows ++ merged gs threshold limit (drop k rows) ≡ take i rows ++ merged gs threshold limit (drop i rows)
    → made ++ merged_from gs threshold limit a (drop i rows) ≡ all
    → (made ++ a ∷ []) ++ (take (k - i) (drop i rows) ++ merged gs threshold limit (drop k rows)) ≡ all
stretch_stays gs threshold limit made all rows rest a b i k low is apart stay so_far =
    let left : merged_from gs threshold limit a (drop i rows) ≡ a ∷ merged gs threshold limit (drop i rows) = next_row gs threshold limit a b (drop i rows) rest is apart ∙ ap (λ rs. a ∷ merged gs threshold limit rs) (sym is) in
    append_assoc made (a ∷ []) (take (k - i) (drop i rows) ++ merged gs threshold limit (drop k rows))
    ∙ ap (λ rs. made ++ a ∷ rs) (between_stay gs threshold limit rows i k low stay)
    ∙ ap (λ rs. made ++ rs) (sym left)
    ∙ so_far

-- so there is room for the group and these rows
pub stretch_fits : (made all stretch behind : List Row) (a : Row) → (made ++ a ∷ []) ++ (stretch ++ behind) ≡ all → length (made ++ a ∷ []) + length stretch ≤ length all
stretch_fits made all stretch behind a is =
    omega (arith, ap length is, length-append (made ++ a ∷ []) (stretch ++ behind), length-append stretch behind)

-- and how many they are
pub length_stretch : (rows : List Row) (i k : ℕ) → i ≤ k → k < length rows → length (take (k - i) (drop i rows)) ≡ k - i
length_stretch rows i k low within = length-take-le (k - i) (drop i rows) (omega (arith, within, length-drop i rows))
