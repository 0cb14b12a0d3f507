-- The range of a row, and the passing pages of a row counted from the runs of its range.
use Rattle.std.proofs.Common.{◌≡◌, ◌⊎◌, inl, inr, ℕ, zero, suc, ◌+◌, ◌-◌, ◌^◌, ◌<◌, ◌≤◌, min, Bool, true, false, cond, List, [], ◌∷◌, length, refl, sym, ap, ◌∙◌, subst, arith}
use Rattle.std.specs.Prelude.{max, Some, slice_get, slice_index_or, ◌||◌, All, AllPairs, Any, count_by, filter, sum_by}
use Rattle.std.specs.List.{list_any, range_with_len}
use Rattle.std.proofs.lemmas.Bool.{cases_lt}
use Rattle.std.proofs.lemmas.Bool.Decides.{nat_tests}
use Rattle.std.proofs.lemmas.List.Sums.{sum_by-cons, length-filter, count_by-le-length}
use Rattle.std.proofs.lemmas.List.FromFn.{length-range_with_len}
use Rattle.std.proofs.lemmas.Option.{get_or_from_slice_get, slice_get_within}
use Rattle.damon_types.specs.declared.range.Range.{Range}
use Rattle.damon_types.specs.Ranges.{OrderedFrom, InOrder, end_of}
use Rattle.damon_types.specs.declared.row.Row.{Row}
use Rattle.damon_types.specs.Span.{Span, span_of}
use Rattle.region_list.specs.Tiles.{LiesIn}
use Rattle.scheme_filter.specs.declared.runs.Run.{Run}
use Rattle.scheme_filter.specs.Runs.{run_end, run_holds}
use Rattle.scheme_filter.specs.RangeRuns.{RunsWithin, AreRunsOf, IsInFirst, first_end, first_start, shared_of}
use Rattle.scheme_filter.proofs.LongestLemmas.{after_first, all_later, rest_apart}
use Rattle.scheme_filter.proofs.RowLemmas.{range_fits, range_from}

-- a range ends where a later one begins, or before
pub ranges_apart : (t b : ℕ) (gs : List Range) (i j : ℕ) (d e : Range) → OrderedFrom t b gs → i < j → j < length gs → end_of (slice_index_or gs i d) ≤ (slice_index_or gs j e).first
ranges_apart t b [] i j d e order less within = absurd (omega (arith, within))
ranges_apart t b (g ∷ gs) i zero d e order less within = absurd (omega (arith, less))
ranges_apart t b (g ∷ gs) zero (suc j) d e order less within = range_from g.target (end_of g) gs j e order.3 (omega (arith, within))
ranges_apart t b (g ∷ gs) (suc i) (suc j) d e order less within = ranges_apart g.target (end_of g) gs i j d e order.3 (omega (arith, less)) (omega (arith, within))

-- the pages of a range lie in it
pub lies_in_itself : (gs : List Range) (g : Range) (s : Span) (i : ℕ) → slice_get gs i ≡ Some g → s ≡ record { target = g.target; start = g.first; pages = g.pages } → Any (LiesIn s) gs
lies_in_itself gs g s i at is =
    subst (λ t. Any (LiesIn t) gs) (sym is)
    (i, g, slice_get_within gs i g at, get_or_from_slice_get gs i g g at, record { target = refl; from = omega arith; to = omega arith })

-- and end where it does
pub range_ends : (gs : List Range) (g : Range) (i : ℕ) → InOrder gs → slice_get gs i ≡ Some g → end_of g < 2 ^ 32
range_ends gs g i order at = subst (λ h. end_of h < 2 ^ 32) (get_or_from_slice_get gs i g g at) (range_fits 0 0 gs i g order (slice_get_within gs i g at)).end

-- the range that stands for an index past the end
abbrev pub no_range : Range
no_range = record { target = 0; first = 0; pages = 0; class = 0 }

-- within a list the default makes no difference
slice_index_any : (gs : List Range) (i : ℕ) (d e : Range) → i < length gs → slice_index_or gs i e ≡ slice_index_or gs i d
slice_index_any [] i d e within = absurd (omega (arith, within))
slice_index_any (g ∷ gs) zero d e within = refl
slice_index_any (g ∷ gs) (suc i) d e within = slice_index_any gs i d e (omega (arith, within))

-- the pages from `start` to before `end` lie in a range before index `high`, and the range with index `low` does not begin after `start`
pub record Searched (gs : List Range) (start end low high : ℕ) : Type 0 where
  pub less : low < high
  pub most : high ≤ length gs
  pub first : (slice_index_or gs low no_range).first ≤ start
  pub index : ℕ
  pub before : index < high
  pub from : (slice_index_or gs index no_range).first ≤ start
  pub to : end ≤ end_of (slice_index_or gs index no_range)

not_after : (gs : List Range) (start i j : ℕ) → InOrder gs → j < length gs → i ≤ j → (slice_index_or gs j no_range).first ≤ start → (slice_index_or gs i no_range).first ≤ start
not_after gs start i j order within low from = by (cases_lt i j)
  where
    by : (i < j) ⊎ (j ≤ i) → (slice_index_or gs i no_range).first ≤ start
    by (inl less) = omega (arith, ranges_apart 0 0 gs i j no_range no_range order less within, from)
    by (inr same) = let is : j ≡ i = omega (arith, same, low) in subst (λ k. (slice_index_or gs k no_range).first ≤ start) is from

pub searched_first : (gs : List Range) (r : Row) → Any (LiesIn (span_of r)) gs → InOrder gs → Searched gs r.start (r.start + r.pages) 0 (length gs)
searched_first gs r held order = record {
  less = omega (arith, held.2);
  most = omega arith;
  first = not_after gs r.start 0 held.0 order held.2 (omega arith) (rw (lies) (held.4.from));
  index = held.0;
  before = held.2;
  from = rw (lies) (held.4.from);
  to = rw (lies) (held.4.to);
}
  where
    lies : slice_index_or gs held.0 no_range ≡ held.1
    lies = slice_index_any gs held.0 held.1 no_range held.2 ∙ held.3

pub searched_above : (gs : List Range) (start end low high middle : ℕ) → middle < high → (slice_index_or gs middle no_range).first ≤ start → Searched gs start end low high → Searched gs start end middle high
searched_above gs start end low high middle less first searched = record {
  less = less;
  most = searched.most;
  first = first;
  index = searched.index;
  before = searched.before;
  from = searched.from;
  to = searched.to;
}

pub searched_below : (gs : List Range) (start end low high middle : ℕ) → InOrder gs → low < middle → middle < high → start < (slice_index_or gs middle no_range).first → Searched gs start end low high → Searched gs start end low middle
searched_below gs start end low high middle order more less later searched = record {
  less = more;
  most = omega (arith, less, searched.most);
  first = searched.first;
  index = searched.index;
  before = by (cases_lt searched.index middle);
  from = searched.from;
  to = searched.to;
}
  where
    by : (searched.index < middle) ⊎ (middle ≤ searched.index) → searched.index < middle
    by (inl before) = before
    by (inr after) = absurd (omega (arith, later, not_after gs start middle searched.index order (omega (arith, searched.before, searched.most)) after searched.from))

-- the last range that does not begin after the pages ends after them
pub searched_to : (gs : List Range) (start end low high : ℕ) → InOrder gs → high ≤ low + 1 → Searched gs start end low high → end ≤ end_of (slice_index_or gs low no_range)
searched_to gs start end low high order done searched = by (cases_lt searched.index low)
  where
    by : (searched.index < low) ⊎ (low ≤ searched.index) → end ≤ end_of (slice_index_or gs low no_range)
    by (inl earlier) = omega (arith, searched.to, ranges_apart 0 0 gs searched.index low no_range no_range order earlier (omega (arith, searched.less, searched.most)))
    by (inr same) = let is : searched.index ≡ low = omega (arith, same, searched.before, done) in subst (λ k. end ≤ end_of (slice_index_or gs k no_range)) is searched.to

count-cons : (p : ℕ → Bool) (s n : ℕ) → count_by p (range_with_len s (suc n)) ≡ cond (p s) 1 0 + count_by p (range_with_len (s + 1) n)
count-cons p s n = sum_by-cons (λ q. cond (p q) 1 0) s (range_with_len (s + 1) n)

-- the pages that a run holds
count_run : (r : Run) (n s : ℕ) → count_by (λ p. run_holds p r) (range_with_len s n) ≡ shared_of s (s + n) r
count_run r zero s = omega arith
count_run r (suc n) s =
    let rest : count_by (λ p. run_holds p r) (range_with_len (s + 1) n) ≡ min (run_end r) (s + 1 + n) - max r.start (s + 1) = count_run r n (s + 1) in
    let here : cond (run_holds s r) 1 0 + (min (run_end r) (s + 1 + n) - max r.start (s + 1)) ≡ min (run_end r) (s + suc n) - max r.start s = grind (arith, nat_tests) in
    count-cons (λ p. run_holds p r) s n ∙ ap (λ k. cond (run_holds s r) 1 0 + k) rest ∙ here

-- tests that agree on the pages
count_same : (p q : ℕ → Bool) (n s : ℕ) → ((k : ℕ) → s ≤ k → k < s + n → p k ≡ q k) → count_by p (range_with_len s n) ≡ count_by q (range_with_len s n)
count_same p q zero s same = refl
count_same p q (suc n) s same =
    count-cons p s n
    ∙ ap (λ v. cond v 1 0 + count_by p (range_with_len (s + 1) n)) (same s (omega arith) (omega arith))
    ∙ ap (λ k. cond (q s) 1 0 + k) (count_same p q n (s + 1) (λ k low high. same k (omega (arith, low)) (omega (arith, high))))
    ∙ sym (count-cons q s n)

-- tests of which at most one holds
count_either : (p q : ℕ → Bool) (n s : ℕ) → ((k : ℕ) → p k ≡ true → q k ≡ false) → count_by (λ k. p k || q k) (range_with_len s n) ≡ count_by p (range_with_len s n) + count_by q (range_with_len s n)
count_either p q zero s apart = omega arith
count_either p q (suc n) s apart =
    count-cons (λ k. p k || q k) s n
    ∙ split (p s) (q s) (apart s) (count_either p q n (s + 1) apart)
    ∙ sym (ap (λ k. k + count_by q (range_with_len s (suc n))) (count-cons p s n) ∙ ap (λ k. cond (p s) 1 0 + count_by p (range_with_len (s + 1) n) + k) (count-cons q s n))
  where
    both : ℕ
    both = count_by (λ k. p k || q k) (range_with_len (s + 1) n)

    one : ℕ
    one = count_by p (range_with_len (s + 1) n)

    other : ℕ
    other = count_by q (range_with_len (s + 1) n)

    split : (v w : Bool) → (v ≡ true → w ≡ false) → both ≡ one + other → cond (v || w) 1 0 + both ≡ cond v 1 0 + one + (cond w 1 0 + other)
    split true true not rest = let no = not refl in absurd (cc no)
    split true false not rest = omega (arith, rest)
    split false true not rest = omega (arith, rest)
    split false false not rest = omega (arith, rest)

count_none : (n s : ℕ) → count_by (λ p. false) (range_with_len s n) ≡ 0
count_none zero s = refl
count_none (suc n) s = omega (arith, count-cons (λ p. false) s n, count_none n (s + 1))

-- the pages that runs hold
count_runs : (runs : List Run) (n s : ℕ) → AllPairs (λ r t. run_end r < t.start) runs → count_by (λ p. list_any (run_holds p) runs) (range_with_len s n) ≡ sum_by (shared_of s (s + n)) runs
count_runs [] n s apart = count_none n s
count_runs (r ∷ rs) n s apart =
    count_either (λ p. run_holds p r) (λ p. list_any (run_holds p) rs) n s (λ k here. others k here)
    ∙ ap (λ m. m + count_by (λ p. list_any (run_holds p) rs) (range_with_len s n)) (count_run r n s)
    ∙ ap (λ m. shared_of s (s + n) r + m) (count_runs rs n s (rest_apart r rs apart))
    ∙ sym (sum_by-cons (shared_of s (s + n)) r rs)
  where
    others : (k : ℕ) → run_holds k r ≡ true → list_any (run_holds k) rs ≡ false
    others k here =
        let before : k < run_end r = grind (arith, nat_tests) in
        all_later k rs (λ i d inside. omega (arith, before, after_first r rs apart i d inside))

-- the pages of a row that pass, counted from the longest runs of pages around it
pub count_is : (passes : ℕ → Bool) (near : RunsWithin) (s n : ℕ) → near.from ≤ s → s + n ≤ near.to → AreRunsOf passes near → sum_by (shared_of s (s + n)) near.runs ≡ length (filter passes (range_with_len s n))
count_is passes near s n from to longest =
    sym (count_runs near.runs n s longest.apart)
    ∙ count_same (λ p. list_any (run_holds p) near.runs) passes n s (λ k low high. longest.exact k (omega (arith, from, low)) (omega (arith, to, high)))
    ∙ sym (length-filter passes (range_with_len s n))

pub count_few : (passes : ℕ → Bool) (s n : ℕ) → length (filter passes (range_with_len s n)) ≤ n
count_few passes s n = omega (arith, length-filter passes (range_with_len s n), count_by-le-length passes (range_with_len s n), length-range_with_len s n)

-- where there are no runs, no page passes
pub none_pass : (passes : ℕ → Bool) (near : RunsWithin) (s n : ℕ) → length near.runs ≡ 0 → near.from ≤ s → s + n ≤ near.to → AreRunsOf passes near → 0 ≡ length (filter passes (range_with_len s n))
none_pass passes near s n none from to longest = by near.runs none ∙ count_is passes near s n from to longest
  where
    by : (runs : List Run) → length runs ≡ 0 → 0 ≡ sum_by (shared_of s (s + n)) runs
    by [] empty = refl
    by (r ∷ rs) empty = absurd (omega (arith, empty))

count_all : (n s : ℕ) → count_by (λ p. true) (range_with_len s n) ≡ n
count_all zero s = refl
count_all (suc n) s = omega (arith, count-cons (λ p. true) s n, count_all n (s + 1))

-- pages within the bounds of the first run are held by it
pub bounds_hold : (runs : List Run) (s e : ℕ) → s ≤ e → first_start runs ≤ s → e ≤ first_end runs → IsInFirst s e runs
bounds_hold [] s e order from to = absurd (omega (arith, order, from, to))
bounds_hold (r ∷ rs) s e order from to = record { first = r; is = refl; from = from; to = to }

-- what the first run holds lies where the runs do
pub in_first_within : (near : RunsWithin) (s e : ℕ) → All (λ r. (near.from ≤ r.start) × (run_end r ≤ near.to)) near.runs → IsInFirst s e near.runs → (near.from ≤ s) × (e ≤ near.to)
in_first_within near s e within first =
    let is = get_or_from_slice_get near.runs 0 first.first first.first first.is in
    let lies = within 0 first.first (slice_get_within near.runs 0 first.first first.is) in (
      omega (arith, lies.0, first.from, ap (λ (r : Run). r.start) is),
      omega (arith, lies.1, first.to, ap run_end is),
    )

-- where the first run holds all pages of a row, they all pass
pub all_pass : (passes : ℕ → Bool) (near : RunsWithin) (s n : ℕ) → near.from ≤ s → s + n ≤ near.to → AreRunsOf passes near → IsInFirst s (s + n) near.runs → n ≡ length (filter passes (range_with_len s n))
all_pass passes near s n from to longest in_first =
    sym (count_all n s)
    ∙ count_same (λ p. true) passes n s (λ k low high. sym (held near.runs in_first k low high) ∙ longest.exact k (omega (arith, from, low)) (omega (arith, to, high)))
    ∙ sym (length-filter passes (range_with_len s n))
  where
    held : (runs : List Run) → IsInFirst s (s + n) runs → (k : ℕ) → s ≤ k → k < s + n → list_any (run_holds k) runs ≡ true
    held [] first k low high = absurd (cc first.is)
    held (r ∷ rs) first k low high =
        let same : r ≡ first.first = cc first.is in
        let start = ap (λ (q : Run). q.start) same in
        let end = ap run_end same in
        let here : run_holds k r ≡ true = grind (arith, nat_tests, start, end, first.from, first.to) in
        rw here refl
