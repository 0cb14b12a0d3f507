-- The boundaries that are kept are those of the rule, and no others.
use Rattle.std.proofs.Common.{◌≡◌, ◌⊎◌, inl, inr, ℕ, ◌+◌, ◌≤◌, ◌<◌, Bool, true, false, List, [], ◌∷◌, ◌++◌, refl, sym, ap, ◌∙◌, subst, arith}
use Rattle.std.specs.Prelude.{◌&&◌, ◌||◌, ◌==◌, nat_le, nat_lt, max}
use Rattle.std.specs.List.{list_any}
use Rattle.std.proofs.lemmas.Bool.{cases_lt}
use Rattle.std.proofs.lemmas.Bool.Decides.{nat_tests}
use Rattle.damon_types.specs.declared.range.Range.{Range}
use Rattle.damon_types.specs.declared.row.Row.{Row}
use Rattle.damon_types.specs.Ranges.{end_of}
use Rattle.damon_types.proofs.Lemmas.{and_false}
use Rattle.range_update.specs.Order.{row_end, RowsInOrder}
use Rattle.range_update.specs.Updated.{boundaries, may_keep, kept, pieces, all_pieces}
use Rattle.range_update.specs.Kept.{is_in, is_boundary, greatest_below, AscendingFrom, IsKept, ArePieces}

-- each page is at or above the one before it
abbrev SortedFrom : ℕ → List ℕ → Type 0
SortedFrom p [] = Unit {0}
SortedFrom p (x ∷ xs) = (p ≤ x) × SortedFrom x xs

boundaries_sorted : (p : ℕ) (rows : List Row) → RowsInOrder p rows → SortedFrom p (boundaries rows)
boundaries_sorted p [] order = tt
boundaries_sorted p (r ∷ rows) order = (order.0, (omega arith, boundaries_sorted (row_end r) rows order.3))

or_assoc : (a b c : Bool) → (a || (b || c)) ≡ ((a || b) || c)
or_assoc true b c = refl
or_assoc false b c = refl

one_boundary : (x : ℕ) (rows : List Row) → is_in x (boundaries rows) ≡ list_any (λ r. (r.start == x) || (row_end r == x)) rows
one_boundary x [] = refl
one_boundary x (r ∷ rows) =
    or_assoc (r.start == x) (row_end r == x) (is_in x (boundaries rows))
    ∙ ap (λ v. ((r.start == x) || (row_end r == x)) || v) (one_boundary x rows)

kept_rise : (unit b a : ℕ) (xs : List ℕ) → 1 ≤ unit → AscendingFrom a (kept unit b a xs)
kept_rise unit b a [] some = tt
kept_rise unit b a (x ∷ xs) some = by (may_keep unit b a x) refl (λ c. kept_rise unit b c xs some)
  where
    by : (v : Bool) → may_keep unit b a x ≡ v → ((c : ℕ) → AscendingFrom c (kept unit b c xs)) → AscendingFrom a (kept unit b a (x ∷ xs))
    by true keeps rest =
        let far : a + unit ≤ x = grind (arith, nat_tests) in
        rw keeps (omega arith, rest x)
    by false lost rest = rw lost (rest a)

-- a page at or below p is not among pages that ascend from p
none_by : (p x : ℕ) (ks : List ℕ) → AscendingFrom p ks → x ≤ p → is_in x ks ≡ false
none_by p x [] rise low = refl
none_by p x (k ∷ ks) rise low =
    let other : (k == x) ≡ false = grind (arith, nat_tests, rise.0) in
    rw other (none_by k x ks rise.1 (omega (arith, rise.0)))

none_under : (p x : ℕ) (xs : List ℕ) → SortedFrom p xs → x < p → is_in x xs ≡ false
none_under p x [] up low = refl
none_under p x (y ∷ ys) up low =
    let other : (y == x) ≡ false = grind (arith, nat_tests, up.0) in
    rw other (none_under y x ys up.1 (omega (arith, up.0)))

greatest_none : (a p x : ℕ) (ks : List ℕ) → AscendingFrom p ks → x ≤ p → greatest_below a ks x ≡ a
greatest_none a p x [] rise low = refl
greatest_none a p x (k ∷ ks) rise low =
    let over : nat_lt k x ≡ false = grind (arith, nat_tests, rise.0) in
    rw over (greatest_none a k x ks rise.1 (omega (arith, rise.0)))

-- a page k above a may replace a as the lower limit
greatest_more : (a k x : ℕ) (ks : List ℕ) → a ≤ k → max k (greatest_below a ks x) ≡ greatest_below k ks x
greatest_more a k x [] low = omega arith
greatest_more a k x (j ∷ ks) low = by (nat_lt j x) refl (greatest_more a k x ks low)
  where
    by : (v : Bool) → nat_lt j x ≡ v → max k (greatest_below a ks x) ≡ greatest_below k ks x → max k (greatest_below a (j ∷ ks) x) ≡ greatest_below k (j ∷ ks) x
    by true under rest = rw under (omega (arith, rest))
    by false over rest = rw over rest

greatest_first : (a k x : ℕ) (ks : List ℕ) → a ≤ k → k < x → greatest_below a (k ∷ ks) x ≡ greatest_below k ks x
greatest_first a k x ks low high =
    let under : nat_lt k x ≡ true = grind (arith, nat_tests) in
    rw under (greatest_more a k x ks low)

greatest_kept : (c unit b a x q : ℕ) (ys : List ℕ) → SortedFrom q ys → x ≤ q → greatest_below c (kept unit b a ys) x ≡ c
greatest_kept c unit b a x q [] up low = refl
greatest_kept c unit b a x q (y ∷ ys) up low = by (may_keep unit b a y) refl (λ d. greatest_kept c unit b d x y ys up.1 (omega (arith, up.0)))
  where
    by : (v : Bool) → may_keep unit b a y ≡ v → ((d : ℕ) → greatest_below c (kept unit b d ys) x ≡ c) → greatest_below c (kept unit b a (y ∷ ys)) x ≡ c
    by true keeps rest =
        let over : nat_lt y x ≡ false = grind (arith, nat_tests, up.0) in
        rw (keeps, over) (rest y)
    by false lost rest = rw lost (rest a)

-- whether page x is kept, where `boundary` says that an old row starts or ends there
abbrev is_far : ℕ → ℕ → ℕ → List ℕ → ℕ → Bool → Bool
is_far unit b a ks x boundary = (boundary && (nat_lt a x && nat_lt x b)) && (nat_le (greatest_below a ks x + unit) x && nat_le (x + unit) b)

kept_each : (unit b a q : ℕ) (xs : List ℕ) → 1 ≤ unit → SortedFrom q xs → (x : ℕ) → is_in x (kept unit b a xs) ≡ is_far unit b a (kept unit b a xs) x (is_in x xs)
kept_each unit b a q [] some up x = refl
kept_each unit b a q (y ∷ ys) some up x = by (may_keep unit b a y) refl (λ c. kept_each unit b c y ys some up.1 x) (cases_lt x y) (cases_lt y x)
  where
    by : (v : Bool) → may_keep unit b a y ≡ v → ((c : ℕ) → is_in x (kept unit b c ys) ≡ is_far unit b c (kept unit b c ys) x (is_in x ys)) → (x < y) ⊎ (y ≤ x) → (y < x) ⊎ (x ≤ y) → is_in x (kept unit b a (y ∷ ys)) ≡ is_far unit b a (kept unit b a (y ∷ ys)) x (is_in x (y ∷ ys))
    by true keeps rest (inl under) d =
        let ks = kept unit b y ys in
        let other : (y == x) ≡ false = grind (arith, nat_tests) in
        let none : is_in x ks ≡ false = none_by y x ks (kept_rise unit b y ys some) (omega arith) in
        let no_boundary : is_in x ys ≡ false = none_under y x ys up.1 under in
        rw (keeps, other, none, no_boundary) refl
    by true keeps rest (inr e) (inl over) =
        let ks = kept unit b y ys in
        let other : (y == x) ≡ false = grind (arith, nat_tests) in
        let far : a + unit ≤ y = grind (arith, nat_tests) in
        let first : greatest_below a (y ∷ ks) x ≡ greatest_below y ks x = greatest_first a y x ks (omega arith) over in
        let after : nat_lt y x ≡ true = grind (arith, nat_tests) in
        let before : nat_lt a x ≡ true = grind (arith, nat_tests) in
        rw (keeps, first, other, before) (rest y ∙ ap (λ v. (is_in x ys && (v && nat_lt x b)) && (nat_le (greatest_below y ks x + unit) x && nat_le (x + unit) b)) after)
    by true keeps rest (inr e) (inr low) =
        let ks = kept unit b y ys in
        let same : (y == x) ≡ true = grind (arith, nat_tests) in
        let far : a + unit ≤ y = grind (arith, nat_tests) in
        let end : y + unit ≤ b = grind (arith, nat_tests) in
        let over : nat_lt y x ≡ false = grind (arith, nat_tests) in
        let none : greatest_below a ks x ≡ a = greatest_none a y x ks (kept_rise unit b y ys some) low in
        let before : nat_lt a x ≡ true = grind (arith, nat_tests) in
        let after : nat_lt x b ≡ true = grind (arith, nat_tests) in
        let left : nat_le (a + unit) x ≡ true = grind (arith, nat_tests) in
        let right : nat_le (x + unit) b ≡ true = grind (arith, nat_tests) in
        rw (keeps, same, over, none, before, after, left, right) refl
    by false lost rest (inl under) d =
        let other : (y == x) ≡ false = grind (arith, nat_tests) in
        rw (lost, other) (rest a)
    by false lost rest (inr e) (inl over) =
        let other : (y == x) ≡ false = grind (arith, nat_tests) in
        rw (lost, other) (rest a)
    by false lost rest (inr e) (inr low) =
        let ks = kept unit b a ys in
        let same : y ≡ x = omega arith in
        let none : greatest_below a ks x ≡ a = greatest_kept a unit b a x y ys up.1 low in
        let not_far : (nat_le (greatest_below a ks x + unit) x && nat_le (x + unit) b) ≡ false = ap (λ n. nat_le (n + unit) x && nat_le (x + unit) b) none ∙ ap (λ n. nat_le (a + unit) n && nat_le (n + unit) b) (sym same) ∙ lost in
        let never : (m : Bool) → is_far unit b a ks x m ≡ false = λ m. ap (λ v. (m && (nat_lt a x && nat_lt x b)) && v) not_far ∙ and_false (m && (nat_lt a x && nat_lt x b)) in
        rw lost (rest a ∙ never (is_in x ys) ∙ sym (never (is_in x (y ∷ ys))))

pub kept_is : (rows : List Row) (unit a b : ℕ) → RowsInOrder 0 rows → 1 ≤ unit → IsKept rows unit a b (kept unit b a (boundaries rows))
kept_is rows unit a b order some = record {
  ascending = kept_rise unit b a (boundaries rows) some;
  each = λ x. kept_each unit b a 0 (boundaries rows) some (boundaries_sorted 0 rows order) x ∙ ap (λ m. is_far unit b a (kept unit b a (boundaries rows)) x m) (one_boundary x rows);
}

-- the first boundary that is kept fulfils the rule from page a on
first_far : (rows : List Row) (unit a b k : ℕ) (ks : List ℕ) → IsKept rows unit a b (k ∷ ks) → (is_boundary rows a b k && (nat_le (a + unit) k && nat_le (k + unit) b)) ≡ true
first_far rows unit a b k ks is =
    let same : (k == k) ≡ true = grind (arith, nat_tests) in
    let over : nat_lt k k ≡ false = grind (arith, nat_tests) in
    let none : greatest_below a (k ∷ ks) k ≡ a = rw over (greatest_none a k k ks is.ascending.1 (omega arith)) in
    ap (λ n. is_boundary rows a b k && (nat_le (n + unit) k && nat_le (k + unit) b)) (sym none) ∙ sym (is.each k) ∙ ap (λ v. v || is_in k ks) same

-- so each list of the rule has it, where that list keeps no boundary before it
member : (rows : List Row) (unit a b k : ℕ) (ks ls : List ℕ) → IsKept rows unit a b (k ∷ ks) → IsKept rows unit a b ls → greatest_below a ls k ≡ a → is_in k ls ≡ true
member rows unit a b k ks ls is other none =
    other.each k ∙ ap (λ n. is_boundary rows a b k && (nat_le (n + unit) k && nat_le (k + unit) b)) none ∙ first_far rows unit a b k ks is

not_before : (rows : List Row) (unit a b k l : ℕ) (ks ls : List ℕ) → IsKept rows unit a b (k ∷ ks) → IsKept rows unit a b (l ∷ ls) → k < l → ⊥
not_before rows unit a b k l ks ls is other low =
    let over : nat_lt l k ≡ false = grind (arith, nat_tests) in
    let none : greatest_below a (l ∷ ls) k ≡ a = rw over (greatest_none a l k ls other.ascending.1 (omega arith)) in
    let differs : (l == k) ≡ false = grind (arith, nat_tests) in
    let out : is_in k (l ∷ ls) ≡ false = rw differs (none_by l k ls other.ascending.1 (omega arith)) in
    let one = member rows unit a b k ks (l ∷ ls) is other none in
    absurd (cc (out, one))

tail_kept : (rows : List Row) (unit a b k : ℕ) (ks : List ℕ) → IsKept rows unit a b (k ∷ ks) → IsKept rows unit k b ks
tail_kept rows unit a b k ks is = record { ascending = is.ascending.1; each = λ x. by x (cases_lt k x) }
  where
    by : (x : ℕ) → (k < x) ⊎ (x ≤ k) → is_in x ks ≡ (is_boundary rows k b x && (nat_le (greatest_below k ks x + unit) x && nat_le (x + unit) b))
    by x (inl over) =
        let other : (k == x) ≡ false = grind (arith, nat_tests) in
        let first : greatest_below a (k ∷ ks) x ≡ greatest_below k ks x = greatest_first a k x ks (omega (arith, is.ascending.0)) over in
        let after : nat_lt k x ≡ true = grind (arith, nat_tests) in
        let before : nat_lt a x ≡ true = grind (arith, nat_tests, is.ascending.0) in
        let boundary = λ (v : Bool). list_any (λ (r : Row). (r.start == x) || (row_end r == x)) rows && (v && nat_lt x b) in
        ap (λ v. v || is_in x ks) (sym other) ∙ is.each x
        ∙ ap (λ n. is_boundary rows a b x && (nat_le (n + unit) x && nat_le (x + unit) b)) first
        ∙ ap (λ v. boundary v && (nat_le (greatest_below k ks x + unit) x && nat_le (x + unit) b)) (before ∙ sym after)
    by x (inr low) =
        let after : nat_lt k x ≡ false = grind (arith, nat_tests) in
        let none : is_in x ks ≡ false = none_by k x ks is.ascending.1 low in
        rw (none, after) (ap (λ v. v && (nat_le (greatest_below k ks x + unit) x && nat_le (x + unit) b)) (sym (and_false (list_any (λ (r : Row). (r.start == x) || (row_end r == x)) rows))))

pub kept_one : (rows : List Row) (unit a b : ℕ) (ks ls : List ℕ) → IsKept rows unit a b ks → IsKept rows unit a b ls → ks ≡ ls
kept_one rows unit a b [] [] is other = refl
kept_one rows unit a b [] (l ∷ ls) is other = absurd (cc (member rows unit a b l ls [] other is refl))
kept_one rows unit a b (k ∷ ks) [] is other = absurd (cc (member rows unit a b k ks [] is other refl))
kept_one rows unit a b (k ∷ ks) (l ∷ ls) is other = by (cases_lt k l) (cases_lt l k) (λ n next. kept_one rows unit n b ks ls (tail_is n next).0 (tail_is n next).1)
  where
    tail_is : (n : ℕ) → (n ≡ k) × (n ≡ l) → IsKept rows unit n b ks × IsKept rows unit n b ls
    tail_is n next = (subst (λ (m : ℕ). IsKept rows unit m b ks) (sym next.0) (tail_kept rows unit a b k ks is), subst (λ (m : ℕ). IsKept rows unit m b ls) (sym next.1) (tail_kept rows unit a b l ls other))

    by : (k < l) ⊎ (l ≤ k) → (l < k) ⊎ (k ≤ l) → ((n : ℕ) → (n ≡ k) × (n ≡ l) → ks ≡ ls) → k ∷ ks ≡ l ∷ ls
    by (inl low) d rest = absurd (not_before rows unit a b k l ks ls is other low)
    by (inr e) (inl low) rest = absurd (not_before rows unit a b l k ls ks other is low)
    by (inr e) (inr f) rest =
        let same : k ≡ l = omega arith in
        ap (λ n. n ∷ ks) same ∙ ap (λ ns. l ∷ ns) (rest k (refl, same))

pub all_pieces_are : (unit : ℕ) (rows : List Row) (gs : List Range) → RowsInOrder 0 rows → 1 ≤ unit → ArePieces unit rows gs (all_pieces unit rows gs)
all_pieces_are unit rows [] order some = refl
all_pieces_are unit rows (g ∷ gs) order some =
    (kept unit (end_of g) g.first (boundaries rows), all_pieces unit rows gs, kept_is rows unit g.first (end_of g) order some, refl, all_pieces_are unit rows gs order some)

pub pieces_one : (unit : ℕ) (rows : List Row) (gs : List Range) (a b : List Row) → ArePieces unit rows gs a → ArePieces unit rows gs b → a ≡ b
pieces_one unit rows [] a b is other = is ∙ sym other
pieces_one unit rows (g ∷ gs) a b is other =
    is.3
    ∙ ap (λ ks. pieces rows g.target (end_of g) g.first ks ++ is.1) (kept_one rows unit g.first (end_of g) is.0 other.0 is.2 other.2)
    ∙ ap (λ rs. pieces rows g.target (end_of g) g.first other.0 ++ rs) (pieces_one unit rows gs is.1 other.1 is.4 other.4)
    ∙ sym other.3
