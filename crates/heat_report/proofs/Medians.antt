-- Medians of lists, and of sorted lists.
use Rattle.std.proofs.Common.{◌≡◌, ◌⊎◌, inl, inr, ℕ, ◌+◌, ◌-◌, ◌*◌, ◌/◌, ◌≤◌, ◌<◌, Bool, true, false, List, [], ◌∷◌, Some, length, take, drop, get_or, refl, sym, ap, ◌∙◌, subst, arith, rules}
use Rattle.std.specs.Prelude.{nat_le, slice_get, unwrap_or, cond, count_by, filter, All, Contains, IfSome, IsPermutation}
use Rattle.std.specs.List.Sorted.{IsSortedBy, IsNonDecreasingBy}
use Rattle.std.specs.Ordering.{is_lt, nat_cmp}
use Rattle.std.proofs.lemmas.Bool.{cases_lt}
use Rattle.std.proofs.lemmas.Bool.Decides.{nat_tests}
use Rattle.std.proofs.lemmas.List.{get_or_default, get_or-drop, get_or-take, length-drop, length-take}
use Rattle.std.proofs.lemmas.List.Elements.{All-contains, All-head, All-tail, All-weaker, Contains-get_or}
use Rattle.std.proofs.lemmas.List.Sorted.{All-permutation, Contains-permutation, IsNonDecreasingBy-from_sort, IsPermutation-sym, length_permutation, sum_by-IsPermutation}
use Rattle.std.proofs.lemmas.List.Sums.{count_by-le-length, sum_by-cons, sum_by-take-drop}
use Rattle.region_list.specs.Shrink.{least}
use Rattle.heat_report.specs.declared.sizes.Spread.{Spread}
use Rattle.heat_report.specs.Sizes.{IsMedian, IsSpread, greatest, is_half, median, spread_of, up_to}
use Rattle.heat_report.proofs.Ends.{IsGreatest, IsLeast, contains_filter, filter_contains, greatest_is, greatest_once, least_is, least_once}

-- all numbers are counted where all pass
count_all : (p : ℕ → Bool) (xs : List ℕ) → All (λ x. p x ≡ true) xs → count_by p xs ≡ length xs
count_all p [] all = refl
count_all p (x ∷ xs) all =
    let here : ◌≡◌ {A = ℕ} (cond (p x) 1 0) 1 = rw (All-head (λ y. p y ≡ true) x xs all) refl in
    omega (arith, here, sum_by-cons (λ (y : ℕ). cond (p y) 1 0) x xs, count_all p xs (All-tail (λ y. p y ≡ true) x xs all))

-- no number is counted where none passes
count_none : (p : ℕ → Bool) (xs : List ℕ) → All (λ x. p x ≡ false) xs → count_by p xs ≡ 0
count_none p [] none = refl
count_none p (x ∷ xs) none =
    let here : ◌≡◌ {A = ℕ} (cond (p x) 1 0) 0 = rw (All-head (λ y. p y ≡ false) x xs none) refl in
    omega (arith, here, sum_by-cons (λ (y : ℕ). cond (p y) 1 0) x xs, count_none p xs (All-tail (λ y. p y ≡ false) x xs none))

at_most : (n s : ℕ) → n ≤ s → nat_le n s ≡ true
at_most n s low = grind (arith, nat_tests)

more_than : (n s : ℕ) → s < n → nat_le n s ≡ false
more_than n s high = grind (arith, nat_tests)

half_is : (sizes : List ℕ) (s : ℕ) → is_half sizes s ≡ true → length sizes ≤ 2 * up_to sizes s
half_is sizes s test = grind (arith, nat_tests, test)

is_half_where : (sizes : List ℕ) (s : ℕ) → length sizes ≤ 2 * up_to sizes s → is_half sizes s ≡ true
is_half_where sizes s half = grind (arith, nat_tests, half)

-- all sizes are at most the greatest
half_of_greatest : (sizes : List ℕ) (s : ℕ) → All (λ n. n ≤ s) sizes → is_half sizes s ≡ true
half_of_greatest sizes s high =
    is_half_where sizes s (omega (arith, count_all (λ n. nat_le n s) sizes (All-weaker (λ n. n ≤ s) (λ n. nat_le n s ≡ true) (λ n low. at_most n s low) sizes high)))

-- the least of those that are half of the sizes is the median
median_from : (sizes : List ℕ) (s : ℕ) → IsLeast (filter (is_half sizes) sizes) s → IsMedian sizes s
median_from sizes s is =
    let inside = filter_contains (is_half sizes) sizes s is.member in
    record {
      member = inside.0;
      half = half_is sizes s inside.1;
      smallest = λ k d within half. All-contains (λ n. s ≤ n) (filter (is_half sizes) sizes) (get_or sizes k d) is.low (contains_filter (is_half sizes) sizes (get_or sizes k d) (Contains-get_or sizes k d within) (is_half_where sizes (get_or sizes k d) half));
    }

-- some size is half of the sizes
median_exists : (n : ℕ) (ns : List ℕ) → IsMedian (n ∷ ns) (median (n ∷ ns))
median_exists n ns = by (filter (is_half (n ∷ ns)) (n ∷ ns)) refl
  where
    top : IsGreatest (n ∷ ns) (greatest (n ∷ ns))
    top = greatest_is n ns

    some : Contains (filter (is_half (n ∷ ns)) (n ∷ ns)) (greatest (n ∷ ns))
    some = contains_filter (is_half (n ∷ ns)) (n ∷ ns) (greatest (n ∷ ns)) top.member (half_of_greatest (n ∷ ns) (greatest (n ∷ ns)) top.high)

    by : (halves : List ℕ) → filter (is_half (n ∷ ns)) (n ∷ ns) ≡ halves → IsMedian (n ∷ ns) (median (n ∷ ns))
    by [] none =
        let inside : Contains [] (greatest (n ∷ ns)) = subst (λ xs. Contains xs (greatest (n ∷ ns))) none some in
        absurd (omega (arith, inside.1))
    by (h ∷ hs) is =
        median_from (n ∷ ns) (median (n ∷ ns)) (subst (λ xs. IsLeast xs (least xs)) (sym is) (least_is h hs))

-- what the definition gives is the spread
pub spread_exists : (n : ℕ) (ns : List ℕ) → IsSpread (n ∷ ns) (record { least = least (n ∷ ns); median = median (n ∷ ns); greatest = greatest (n ∷ ns) })
spread_exists n ns =
    let low = least_is n ns in
    let high = greatest_is n ns in
    record { least_in = low.member; least_is = low.low; median_is = median_exists n ns; greatest_in = high.member; greatest_is = high.high }

pub spread_is : (sizes : List ℕ) → IfSome (spread_of sizes) (IsSpread sizes)
spread_is [] = tt {0}
spread_is (n ∷ ns) = spread_exists n ns

-- there is one median
median_once : (sizes : List ℕ) (a b : ℕ) → IsMedian sizes a → IsMedian sizes b → a ≡ b
median_once sizes a b first second =
    let low : a ≤ b = All-contains (λ n. length sizes ≤ 2 * up_to sizes n → a ≤ n) sizes b first.smallest second.member second.half in
    let high : b ≤ a = All-contains (λ n. length sizes ≤ 2 * up_to sizes n → b ≤ n) sizes a second.smallest first.member first.half in
    omega (arith, low, high)

-- there is one spread
spread_once : (sizes : List ℕ) (a b : Spread) → IsSpread sizes a → IsSpread sizes b → a ≡ b
spread_once sizes a b first second =
    let low : a.least ≡ b.least = least_once sizes a.least b.least (record { member = first.least_in; low = first.least_is }) (record { member = second.least_in; low = second.least_is }) in
    let mid = median_once sizes a.median b.median first.median_is second.median_is in
    let high : a.greatest ≡ b.greatest = greatest_once sizes a.greatest b.greatest (record { member = first.greatest_in; high = first.greatest_is }) (record { member = second.greatest_in; high = second.greatest_is }) in
    ap (λ n. record { least = n; median = a.median; greatest = a.greatest }) low
    ∙ ap (λ n. record { least = b.least; median = n; greatest = a.greatest }) mid
    ∙ ap (λ n. record { least = b.least; median = b.median; greatest = n }) high

-- a spread is the one that the definition gives
pub spread_of_is : (sizes : List ℕ) (s : Spread) → IsSpread sizes s → Some s ≡ spread_of sizes
spread_of_is [] s is = absurd (omega (arith, is.least_in.1))
spread_of_is (n ∷ ns) s is = ap (λ (t : Spread). Some t) (spread_once (n ∷ ns) s _ is (spread_exists n ns))

-- the place of the median of sorted sizes
abbrev pub middle : List ℕ → ℕ
middle ns = (length ns - 1) / 2

-- as many as stand up to a place are at most the number there
counted_to : (ys : List ℕ) (k : ℕ) → IsNonDecreasingBy (λ n. n) ys → k < length ys → k + 1 ≤ up_to ys (get_or ys k 0)
counted_to ys k up within =
    omega (arith, sum_by-take-drop (λ (n : ℕ). cond (nat_le n (get_or ys k 0)) 1 0) ys (k + 1), count_all (λ n. nat_le n (get_or ys k 0)) (take (k + 1) ys) all, len)
  where
    len : length (take (k + 1) ys) ≡ k + 1
    len = omega (arith, length-take (k + 1) ys, within)

    all : All (λ n. nat_le n (get_or ys k 0) ≡ true) (take (k + 1) ys)
    all i d inside =
        let below : i < k + 1 = omega (arith, inside, len) in
        let same = get_or_default ys k d 0 within in
        at_most (get_or (take (k + 1) ys) i d) (get_or ys k 0) (omega (arith, get_or-take (k + 1) ys i d below, up i k d (omega arith) within, same))

-- at most as many as stand before a place are less than the number there
counted_before : (ys : List ℕ) (k s : ℕ) → IsNonDecreasingBy (λ n. n) ys → k < length ys → s < get_or ys k 0 → up_to ys s ≤ k
counted_before ys k s up within less =
    omega (arith, sum_by-take-drop (λ (n : ℕ). cond (nat_le n s) 1 0) ys k, count_by-le-length (λ n. nat_le n s) (take k ys), length-take k ys, count_none (λ n. nat_le n s) (drop k ys) none)
  where
    none : All (λ n. nat_le n s ≡ false) (drop k ys)
    none i d inside =
        let there : k + i < length ys = omega (arith, inside, length-drop k ys) in
        let same = get_or_default ys k d 0 within in
        more_than (get_or (drop k ys) i d) s (omega (arith, get_or-drop k ys i d, up k (k + i) d (omega arith) there, same, less))

-- the middle of sorted sizes is their median
middle_is : (xs ys : List ℕ) → IsPermutation xs ys → IsNonDecreasingBy (λ n. n) ys → 0 < length ys → IsMedian xs (get_or ys (middle ys) 0)
middle_is xs ys same up some = record {
  member = Contains-permutation ys xs (get_or ys (middle ys) 0) (IsPermutation-sym xs ys same) (Contains-get_or ys (middle ys) 0 within);
  half = omega (arith, counted_to ys (middle ys) up within, count (get_or ys (middle ys) 0), len);
  smallest = λ k d inside half. not_below (get_or xs k d) half (cases_lt (get_or xs k d) (get_or ys (middle ys) 0));
}
  where
    within : middle ys < length ys
    within = omega (arith, some)

    len : length ys ≡ length xs
    len = length_permutation xs ys same

    count : (s : ℕ) → up_to ys s ≡ up_to xs s
    count s = sum_by-IsPermutation (λ (n : ℕ). cond (nat_le n s) 1 0) xs ys same

    not_below : (s : ℕ) → length xs ≤ 2 * up_to xs s → (s < get_or ys (middle ys) 0) ⊎ (get_or ys (middle ys) 0 ≤ s) → get_or ys (middle ys) 0 ≤ s
    not_below s half (inl less) = absurd (omega (arith, half, counted_before ys (middle ys) s up within less, count s, len, some))
    not_below s half (inr low) = low

-- the spread of sizes that were sorted
pub sorted_spread : (xs ys : List ℕ) → IsPermutation xs ys → IsSortedBy (λ x y. is_lt (nat_cmp x y)) ys → 0 < length ys → IsSpread xs (record { least = get_or ys 0 0; median = get_or ys (middle ys) 0; greatest = get_or ys (length ys - 1) 0 })
sorted_spread xs ys same sorted some =
    let up = IsNonDecreasingBy-from_sort (λ n. n) ys sorted in
    let back = IsPermutation-sym xs ys same in
    let last : length ys - 1 < length ys = omega (arith, some) in
    record {
      least_in = Contains-permutation ys xs (get_or ys 0 0) back (Contains-get_or ys 0 0 some);
      least_is = All-permutation (λ n. get_or ys 0 0 ≤ n) ys xs back (λ k d within. omega (arith, up 0 k d (omega arith) within, get_or_default ys 0 d 0 some));
      median_is = middle_is xs ys same up some;
      greatest_in = Contains-permutation ys xs (get_or ys (length ys - 1) 0) back (Contains-get_or ys (length ys - 1) 0 last);
      greatest_is = All-permutation (λ n. n ≤ get_or ys (length ys - 1) 0) ys xs back (λ k d within. omega (arith, up k (length ys - 1) d (omega (arith, within)) last, get_or_default ys (length ys - 1) d 0 last));
    }

-- the first number of a list that was read
first_read : (ys : List ℕ) (a : ℕ) → Some a ≡ slice_get ys 0 → (0 < length ys) × (get_or ys 0 0 ≡ a)
first_read [] a is = absurd (search rules)
first_read (y ∷ ys) a is = (omega arith, ap (λ o. unwrap_or o 0) (sym is))

-- the spread of sizes that were sorted, as its numbers are read
pub spread_read : (xs ys : List ℕ) (a b e n : ℕ) → IsPermutation xs ys → IsSortedBy (λ x y. is_lt (nat_cmp x y)) ys → Some a ≡ slice_get ys 0 → n ≡ length ys → b ≡ get_or ys ((n - 1) / 2) b → e ≡ get_or ys (n - 1) e → IsSpread xs (record { least = a; median = b; greatest = e })
spread_read xs ys a b e n same sorted first len mid last =
    let read = first_read ys a first in
    let some = read.0 in
    let mid_is : get_or ys (middle ys) 0 ≡ b =
    get_or_default ys (middle ys) 0 b (omega (arith, some)) ∙ ap (λ k. get_or ys ((k - 1) / 2) b) (sym len) ∙ sym mid in
    let last_is : get_or ys (length ys - 1) 0 ≡ e =
    get_or_default ys (length ys - 1) 0 e (omega (arith, some)) ∙ ap (λ k. get_or ys (k - 1) e) (sym len) ∙ sym last in
    subst (λ k. IsSpread xs (record { least = a; median = b; greatest = k })) last_is
    (subst (λ k. IsSpread xs (record { least = a; median = k; greatest = get_or ys (length ys - 1) 0 })) mid_is
    (subst (λ k. IsSpread xs (record { least = k; median = get_or ys (middle ys) 0; greatest = get_or ys (length ys - 1) 0 })) read.1 (sorted_spread xs ys same sorted some)))
