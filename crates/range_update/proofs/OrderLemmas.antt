-- Rows that tile ranges are in order of their pages.
use Rattle.std.proofs.Common.{◌≡◌, ℕ, zero, suc, ◌+◌, ◌^◌, ◌≤◌, ◌<◌, List, [], ◌∷◌, ◌++◌, length, drop, refl, sym, ap, ◌∙◌, subst, add-one, arith}
use Rattle.damon_types.specs.declared.range.Range.{Range}
use Rattle.damon_types.specs.declared.row.Row.{Row}
use Rattle.damon_types.specs.Ranges.{OrderedFrom, InOrder, end_of}
use Rattle.damon_types.specs.Span.{Span, span_of, spans}
use Rattle.region_list.specs.Rows.{row_at}
use Rattle.region_list.specs.Tiling.{Chain, Tiling}
use Rattle.range_update.specs.Order.{row_end, RowsInOrder, EndBy}

pub order_lower : (q p : ℕ) (rows : List Row) → q ≤ p → RowsInOrder p rows → RowsInOrder q rows
order_lower q p [] low order = tt
order_lower q p (r ∷ rows) low order = (omega (arith, order.0), order.1, order.2, order.3)

-- the rows of one range are in order, and so are those of the ranges after it
chain_order : (t p from to : ℕ) (front back : List Span) (rows : List Row) → p ≤ from → to < 2 ^ 32 → spans rows ≡ front ++ back → Chain 1 t from to front → ((others : List Row) → spans others ≡ back → RowsInOrder to others) → RowsInOrder p rows
chain_order t p from to [] back rows low small is chain rest = order_lower p to rows (omega (arith, chain)) (rest rows is)
chain_order t p from to (s ∷ front) back [] low small is chain rest = absurd (cc is)
chain_order t p from to (s ∷ front) back (r ∷ rows) low small is chain rest =
    let here : span_of r ≡ s = cc is in
    let others : spans rows ≡ front ++ back = cc is in
    let start : r.start ≡ s.start = ap (λ (x : Span). x.start) here in
    let pages : r.pages ≡ s.pages = ap (λ (x : Span). x.pages) here in
    let later = chain_order t (row_end r) (from + s.pages) to front back rows (omega (arith, chain.1)) small others chain.3 rest in
    (omega (arith, chain.1), omega (arith, chain.2), omega (arith, chain_ends (from + s.pages) front chain.3, chain.1), later)
  where
    chain_ends : (at : ℕ) (ss : List Span) → Chain 1 t at to ss → at ≤ to
    chain_ends at [] chain = omega (arith, chain)
    chain_ends at (u ∷ ss) chain = omega (arith, chain_ends (at + u.pages) ss chain.3)

pub rows_in_order_from : (t p : ℕ) (gs : List Range) (rows : List Row) → OrderedFrom t p gs → Tiling 1 gs (spans rows) → RowsInOrder p rows
rows_in_order_from t p [] [] ordered tiling = tt
rows_in_order_from t p [] (r ∷ rows) ordered tiling = absurd (cc tiling)
rows_in_order_from t p (g ∷ gs) rows ordered tiling =
    chain_order g.target p g.first (end_of g) tiling.0 tiling.1 rows ordered.1 ordered.2.end tiling.2 tiling.3 (λ others is. rows_in_order_from g.target (end_of g) gs others ordered.3 (subst (λ ss. Tiling 1 gs ss) (sym is) tiling.4))

pub rows_in_order : (gs : List Range) (rows : List Row) → InOrder gs → Tiling 1 gs (spans rows) → RowsInOrder 0 rows
rows_in_order gs rows ordered tiling = rows_in_order_from 0 0 gs rows ordered tiling

-- the rows from index i on: the one there and the others
drop_suc : (i : ℕ) (rows : List Row) → i < length rows → drop i rows ≡ row_at rows i ∷ drop (suc i) rows
drop_suc i [] here = absurd (omega arith)
drop_suc zero (r ∷ rows) here = refl
drop_suc (suc i) (r ∷ rows) here = drop_suc i rows (omega arith)

pub drop_row : (i : ℕ) (rows : List Row) → i < length rows → drop i rows ≡ row_at rows i ∷ drop (i + 1) rows
drop_row i rows here = drop_suc i rows here ∙ ap (λ n. row_at rows i ∷ drop n rows) (sym (add-one i))

pub record OrderAt (p : ℕ) (rows : List Row) (i : ℕ) : Type 0 where
  pub low : p ≤ (row_at rows i).start
  pub some : 1 ≤ (row_at rows i).pages
  pub small : row_end (row_at rows i) < 2 ^ 32
  pub after : RowsInOrder (row_end (row_at rows i)) (drop (suc i) rows)

order_suc : (p : ℕ) (rows : List Row) (i : ℕ) → RowsInOrder p rows → i < length rows → OrderAt p rows i
order_suc p [] i order here = absurd (omega arith)
order_suc p (r ∷ rows) zero order here = record { low = order.0; some = order.1; small = order.2; after = order.3 }
order_suc p (r ∷ rows) (suc i) order here =
    let at = order_suc (row_end r) rows i order.3 (omega arith) in
    record { low = omega (arith, at.low, order.0); some = at.some; small = at.small; after = at.after }

pub order_at : (p : ℕ) (rows : List Row) (i : ℕ) → RowsInOrder p rows → i < length rows → OrderAt p rows i
order_at p rows i order here = order_suc p rows i order here

-- the rows after index i begin at or after its end
pub order_after : (p : ℕ) (rows : List Row) (i : ℕ) → RowsInOrder p rows → i < length rows → RowsInOrder (row_end (row_at rows i)) (drop (i + 1) rows)
order_after p rows i order here = subst (λ (n : ℕ). RowsInOrder (row_end (row_at rows i)) (drop n rows)) (sym (add-one i)) (order_suc p rows i order here).after

pub past_weaker : (p q : ℕ) (rows : List Row) (i : ℕ) → p ≤ q → EndBy p rows i → EndBy q rows i
past_weaker p q rows zero low past = tt
past_weaker p q [] (suc i) low past = tt
past_weaker p q (r ∷ rows) (suc i) low past = (omega (arith, past.0), past_weaker p q rows i low past.1)

past_suc : (p : ℕ) (rows : List Row) (i : ℕ) → EndBy p rows i → row_end (row_at rows i) ≤ p → EndBy p rows (suc i)
past_suc p [] zero past ends = tt
past_suc p [] (suc i) past ends = tt
past_suc p (r ∷ rows) zero past ends = (ends, tt)
past_suc p (r ∷ rows) (suc i) past ends = (past.0, past_suc p rows i past.1 ends)

pub past_more : (p : ℕ) (rows : List Row) (i : ℕ) → EndBy p rows i → row_end (row_at rows i) ≤ p → EndBy p rows (i + 1)
past_more p rows i past ends = subst (λ (n : ℕ). EndBy p rows n) (sym (add-one i)) (past_suc p rows i past ends)

-- the rows before index i end by the start of the row there
pub past_start : (p : ℕ) (rows : List Row) (i : ℕ) → RowsInOrder p rows → i < length rows → EndBy (row_at rows i).start rows i
past_start p [] i order here = absurd (omega arith)
past_start p (r ∷ rows) zero order here = tt
past_start p (r ∷ rows) (suc i) order here =
    ((order_at (row_end r) rows i order.3 (omega arith)).low, past_start (row_end r) rows i order.3 (omega arith))

-- the rows up to index i end by the end of the row there
pub past_end : (rows : List Row) (i : ℕ) → RowsInOrder 0 rows → i < length rows → EndBy (row_end (row_at rows i)) rows (i + 1)
past_end rows i order here =
    past_more (row_end (row_at rows i)) rows i (past_weaker (row_at rows i).start (row_end (row_at rows i)) rows i (omega arith) (past_start 0 rows i order here)) (omega arith)

-- the next row ends after the end of the row before it
next_suc : (p : ℕ) (rows : List Row) (i : ℕ) → RowsInOrder p rows → suc i < length rows → row_end (row_at rows i) < row_end (row_at rows (suc i))
next_suc p [] i order here = absurd (omega arith)
next_suc p (r ∷ []) i order here = absurd (omega arith)
next_suc p (r ∷ s ∷ rows) zero order here = omega (arith, order.3.0, order.3.1)
next_suc p (r ∷ s ∷ rows) (suc i) order here = next_suc (row_end r) (s ∷ rows) i order.3 (omega arith)

pub next_after : (p : ℕ) (rows : List Row) (i : ℕ) → RowsInOrder p rows → i + 1 < length rows → row_end (row_at rows i) < row_end (row_at rows (i + 1))
next_after p rows i order here = subst (λ (n : ℕ). row_end (row_at rows i) < row_end (row_at rows n)) (sym (add-one i)) (next_suc p rows i order (omega arith))

-- the first i rows end by the first page of the next range, if any
abbrev pub IsReady : List Row → ℕ → List Range → Type 0
IsReady rows i [] = Unit {0}
IsReady rows i (g ∷ gs) = EndBy g.first rows i

pub ready_next : (rows : List Row) (i t p : ℕ) (gs : List Range) → OrderedFrom t p gs → EndBy p rows i → IsReady rows i gs
ready_next rows i t p [] ordered past = tt
ready_next rows i t p (g ∷ gs) ordered past = past_weaker p g.first rows i ordered.1 past

pub ready_start : (rows : List Row) (gs : List Range) → IsReady rows 0 gs
ready_start rows [] = tt
ready_start rows (g ∷ gs) = tt
