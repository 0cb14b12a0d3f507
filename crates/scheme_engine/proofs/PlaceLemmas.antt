-- Where rows lie: they do not overlap, and each is found by its first page.
use Rattle.std.proofs.Common.{◌≡◌, ℕ, zero, suc, ◌+◌, ◌≤◌, ◌<◌, Bool, true, false, List, [], ◌∷◌, ◌++◌, Some, length, get_or, refl, sym, ap, ◌∙◌, subst, arith}
use Rattle.std.specs.Prelude.{◌==◌, Any, find, position, slice_get}
use Rattle.std.specs.List.{AllByRecursion, position_or_len}
use Rattle.std.proofs.lemmas.Bool.Decides.{nat_tests}
use Rattle.std.proofs.lemmas.List.{get_or-map, length-map}
use Rattle.std.proofs.lemmas.List.Elements.{All-from_recursion}
use Rattle.std.proofs.lemmas.List.Sums.{position_or_len_is, get_or-le-sum_by}
use Rattle.std.proofs.lemmas.Option.{get_or_from_slice_get, slice_get_read, slice_get_within}
use Rattle.damon_types.specs.declared.range.Range.{Range}
use Rattle.damon_types.specs.declared.row.Row.{Row}
use Rattle.damon_types.specs.Ranges.{OrderedFrom, InOrder, end_of, page_total}
use Rattle.damon_types.specs.Span.{Span, span_of, spans}
use Rattle.region_list.specs.Rows.{no_row, row_at}
use Rattle.region_list.specs.Find.{holds_page, row_index}
use Rattle.region_list.specs.Tiles.{LiesIn}
use Rattle.region_list.specs.Tiling.{Chain, Tiling}

-- where a row lies that does not exist
abbrev pub no_span : Span
no_span = record { target = 0; start = 0; pages = 0 }

-- each has a page and begins at or after the end of the one before it, the first at or after page p
abbrev pub Ascend : ℕ → List Span → Type 0
Ascend p [] = Unit {0}
Ascend p (s ∷ ss) = (p ≤ s.start) × (1 ≤ s.pages) × Ascend (s.start + s.pages) ss

ascend_lower : (p q : ℕ) (ss : List Span) → p ≤ q → Ascend q ss → Ascend p ss
ascend_lower p q [] low ascend = tt
ascend_lower p q (s ∷ ss) low ascend = (omega (arith, ascend.0), ascend.1, ascend.2)

chain_ascends : (unit t p from to : ℕ) (front back : List Span) → 1 ≤ unit → p ≤ from → Chain unit t from to front → Ascend to back → Ascend p (front ++ back)
chain_ascends unit t p from to [] back some low chain ascend = ascend_lower p to back (omega (arith, chain)) ascend
chain_ascends unit t p from to (s ∷ front) back some low chain ascend =
    (omega (arith, chain.1), omega (arith, chain.2), chain_ascends unit t (s.start + s.pages) (from + s.pages) to front back some (omega (arith, chain.1)) chain.3 ascend)

tiling_ascends : (unit t p : ℕ) (gs : List Range) (ss : List Span) → 1 ≤ unit → OrderedFrom t p gs → Tiling unit gs ss → Ascend p ss
tiling_ascends unit t p [] ss some order tiling = subst (Ascend p) (sym tiling) tt
tiling_ascends unit t p (g ∷ gs) ss some order tiling =
    subst (Ascend p) (sym tiling.2)
    (chain_ascends unit g.target p g.first (end_of g) tiling.0 tiling.1 some order.1 tiling.3 (tiling_ascends unit g.target (end_of g) gs tiling.1 some order.3 tiling.4))

pub rows_ascend : (unit : ℕ) (gs : List Range) (ss : List Span) → 1 ≤ unit → InOrder gs → Tiling unit gs ss → Ascend 0 ss
rows_ascend unit gs ss some order tiling = tiling_ascends unit 0 0 gs ss some order tiling

-- none begins before the page from which they ascend
starts_from : (p : ℕ) (ss : List Span) (j : ℕ) (d : Span) → Ascend p ss → j < length ss → p ≤ (get_or ss j d).start
starts_from p [] j d ascend within = absurd (omega arith)
starts_from p (s ∷ ss) zero d ascend within = ascend.0
starts_from p (s ∷ ss) (suc j) d ascend within = omega (arith, ascend.0, starts_from (s.start + s.pages) ss j d ascend.2 (omega arith))

-- each has a page
pub has_pages : (p : ℕ) (ss : List Span) (j : ℕ) (d : Span) → Ascend p ss → j < length ss → 1 ≤ (get_or ss j d).pages
has_pages p [] j d ascend within = absurd (omega arith)
has_pages p (s ∷ ss) zero d ascend within = ascend.1
has_pages p (s ∷ ss) (suc j) d ascend within = has_pages (s.start + s.pages) ss j d ascend.2 (omega arith)

-- each ends at or before the start of a later one
pub ends_before : (p : ℕ) (ss : List Span) (i j : ℕ) (d : Span) → Ascend p ss → i < j → j < length ss → (get_or ss i d).start + (get_or ss i d).pages ≤ (get_or ss j d).start
ends_before p [] i j d ascend later within = absurd (omega arith)
ends_before p (s ∷ ss) i zero d ascend later within = absurd (omega arith)
ends_before p (s ∷ ss) zero (suc j) d ascend later within = starts_from (s.start + s.pages) ss j d ascend.2 (omega arith)
ends_before p (s ∷ ss) (suc i) (suc j) d ascend later within = ends_before (s.start + s.pages) ss i j d ascend.2 (omega arith) (omega arith)

-- the one that starts at the page where one of them does is that one
pub found_by_start : (p : ℕ) (ss : List Span) (i : ℕ) (s : Span) (page : ℕ) → Ascend p ss → slice_get ss i ≡ Some s → page ≡ s.start → find (λ t. t.start == page) ss ≡ Some s
found_by_start p [] i s page ascend at is = absurd (cc at)
found_by_start p (t ∷ ss) zero s page ascend at is =
    let same : t ≡ s = cc at in
    let here : (t.start == page) ≡ true = rw (same, is) (grind (arith, nat_tests)) in
    rw here at
found_by_start p (t ∷ ss) (suc i) s page ascend at is =
    let within = slice_get_within ss i s at in
    let after = starts_from (t.start + t.pages) ss i s ascend.2 within in
    let read = get_or_from_slice_get ss i s s at in
    let other : (t.start == page) ≡ false = grind (arith, nat_tests, ap (λ (u : Span). u.start) read, ascend.1) in
    rw other (found_by_start (t.start + t.pages) ss i s page ascend.2 at is)

-- the first place at which a test passes
position_at : {X : Type 0} (p : X → Bool) (xs : List X) (i : ℕ) → position_or_len p xs ≡ i → i < length xs → position p xs ≡ Some i
position_at p xs i is within = rw is (grind (arith, nat_tests))

pub place_by_start : (ss : List Span) (i : ℕ) (s : Span) (page : ℕ) → Ascend 0 ss → slice_get ss i ≡ Some s → page ≡ s.start → position (λ t. t.start == page) ss ≡ Some i
place_by_start ss i s page ascend at is =
    position_at (λ t. t.start == page) ss i (position_or_len_is (λ t. t.start == page) ss i no_span (omega (arith, within)) earlier (λ _. here)) within
  where
    within : i < length ss
    within = slice_get_within ss i s at

    read : get_or ss i no_span ≡ s
    read = get_or_from_slice_get ss i s no_span at

    here : ((get_or ss i no_span).start == page) ≡ true
    here = rw (read, is) (grind (arith, nat_tests))

    earlier : (k : ℕ) → k < i → ((get_or ss k no_span).start == page) ≡ false
    earlier k before =
        let low = ends_before 0 ss k i no_span ascend before within in
        let some = has_pages 0 ss k no_span ascend (omega (arith, within)) in
        grind (arith, nat_tests, ap (λ (u : Span). u.start) read, is)

-- a row of a list, by where it lies
pub span_read : (rows : List Row) (i : ℕ) → i < length rows → get_or (spans rows) i no_span ≡ span_of (row_at rows i)
span_read rows i within = get_or-map span_of rows i no_row no_span within

-- and so is the row that holds this page
pub row_by_start : (rows : List Row) (i : ℕ) (s : Span) (page : ℕ) → Ascend 0 (spans rows) → slice_get (spans rows) i ≡ Some s → page ≡ s.start → row_index rows page ≡ Some i
row_by_start rows i s page ascend at is =
    position_at (holds_page page) rows i (position_or_len_is (holds_page page) rows i no_row (omega (arith, within)) earlier (λ _. here)) within
  where
    inside : i < length (spans rows)
    inside = slice_get_within (spans rows) i s at

    within : i < length rows
    within = omega (arith, inside, length-map rows span_of)

    read : span_of (row_at rows i) ≡ s
    read = sym (span_read rows i within) ∙ get_or_from_slice_get (spans rows) i s no_span at

    start : (row_at rows i).start ≡ page
    start = ap (λ (u : Span). u.start) read ∙ sym is

    here : holds_page page (row_at rows i) ≡ true
    here =
        let some = has_pages 0 (spans rows) i no_span ascend inside in
        grind (arith, nat_tests, start, ap (λ (u : Span). u.pages) (span_read rows i within))

    earlier : (k : ℕ) → k < i → holds_page page (row_at rows k) ≡ false
    earlier k before =
        let low = ends_before 0 (spans rows) k i no_span ascend before inside in
        let one = span_read rows k (omega (arith, within)) in
        let two = span_read rows i within in
        grind (arith, nat_tests, start, ap (λ (u : Span). u.start) one, ap (λ (u : Span). u.pages) one, ap (λ (u : Span). u.start) two)

-- a range in order has a page
pages_at : (t p : ℕ) (gs : List Range) (i : ℕ) (g : Range) → OrderedFrom t p gs → slice_get gs i ≡ Some g → 1 ≤ g.pages
pages_at t p [] i g order is = absurd (cc is)
pages_at t p (h ∷ gs) zero g order is = let e : h ≡ g = cc in subst (λ x. 1 ≤ x.pages) e order.2.pages
pages_at t p (h ∷ gs) (suc i) g order is = pages_at h.target (end_of h) gs i g order.3 is

-- where a row lies in a range, the ranges have a page
pub some_pages : (gs : List Range) (s : Span) → InOrder gs → Any (LiesIn s) gs → 1 ≤ page_total gs
some_pages gs s order any =
    let one = get_or-le-sum_by (λ (g : Range). g.pages) gs any.0 any.1 any.2 in
    let pages = pages_at 0 0 gs any.0 any.1 order (slice_get_read gs (length gs) any.0 any.1 refl any.2 (sym any.3)) in
    omega (arith, one, pages, ap (λ (g : Range). g.pages) any.3)

-- each row lies in a range
pub row_held : (gs : List Range) (rows : List Row) (i : ℕ) → AllByRecursion (λ s. Any (LiesIn s) gs) (spans rows) → i < length rows → Any (LiesIn (span_of (row_at rows i))) gs
row_held gs rows i all within =
    subst (λ s. Any (LiesIn s) gs) (span_read rows i within) (All-from_recursion (λ s. Any (LiesIn s) gs) (spans rows) all i no_span (omega (arith, within, length-map rows span_of)))
