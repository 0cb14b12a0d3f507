-- The values and the boundaries of pieces, from the old rows.
use Rattle.std.proofs.Common.{◌≡◌, ◌⊎◌, inl, inr, ℕ, zero, suc, ◌+◌, ◌-◌, ◌≤◌, ◌<◌, Bool, true, false, List, [], ◌∷◌, ◌++◌, length, length-append, take, drop, refl, sym, ap, ◌∙◌, Option, Some, None, arith}
use Rattle.std.specs.Prelude.{◌&&◌, nat_le, nat_lt, if◌then◌else◌}
use Rattle.std.proofs.lemmas.Bool.{cases_lt}
use Rattle.std.proofs.Math.Seq.{take-suc}
use Rattle.std.proofs.lemmas.List.{drop_all, get_or-drop, length-drop}
use Rattle.std.proofs.lemmas.Bool.Decides.{nat_tests}
use Rattle.damon_types.specs.declared.row.Row.{Row}
use Rattle.region_list.specs.Rows.{no_row, row_at, RowList}
use Rattle.range_update.specs.Order.{row_end, RowsInOrder, EndBy}
use Rattle.range_update.specs.Updated.{covering_row, piece_of, piece, boundaries, may_keep, kept, pieces}
use Rattle.range_update.specs.OpenPiece.{with_end, IsOpenPiece, pieces_from}
use Rattle.range_update.proofs.OrderLemmas.{drop_row, order_at, order_after, past_start}

-- whether a row covers a page
abbrev pub covers : ℕ → Row → Bool
covers page r = nat_le r.start page && nat_lt page (row_end r)

-- rows that end by a page do not cover it
pub covering_skip : (p : ℕ) (rows : List Row) (i : ℕ) → EndBy p rows i → covering_row rows p ≡ covering_row (drop i rows) p
covering_skip p rows zero past = refl
covering_skip p [] (suc i) past = refl
covering_skip p (r ∷ rows) (suc i) past =
    let out : covers p r ≡ false = grind (arith, nat_tests, past.0) in
    rw out (covering_skip p rows i past.1)

-- rows that start after a page do not cover it
pub covering_none : (p q : ℕ) (rows : List Row) → p < q → RowsInOrder q rows → covering_row rows p ≡ None
covering_none p q [] low order = refl
covering_none p q (r ∷ rows) low order =
    let out : covers p r ≡ false = grind (arith, nat_tests, order.0) in
    rw out (covering_none p (row_end r) rows (omega (arith, order.0)) order.3)

pub covering_first : (p : ℕ) (r : Row) (rows : List Row) → r.start ≤ p → p < row_end r → covering_row (r ∷ rows) p ≡ Some r
covering_first p r rows low high =
    let in_it : covers p r ≡ true = grind (arith, nat_tests) in
    rw in_it refl

-- where the rows before index i end by the page, the row there covers the page if it starts by it and ends after it
pub covering_here : (p : ℕ) (rows : List Row) (i : ℕ) → EndBy p rows i → i < length rows → (row_at rows i).start ≤ p → p < row_end (row_at rows i) → covering_row rows p ≡ Some (row_at rows i)
covering_here p rows i past here low high =
    covering_skip p rows i past ∙ ap (λ rs. covering_row rs p) (drop_row i rows here) ∙ covering_first p (row_at rows i) (drop (i + 1) rows) low high

-- no row covers the page if the row there starts after it
pub covering_before : (p : ℕ) (rows : List Row) (i : ℕ) → RowsInOrder 0 rows → EndBy p rows i → i < length rows → p < (row_at rows i).start → covering_row rows p ≡ None
covering_before p rows i order past here low =
    let at = order_at 0 rows i order here in
    let r = row_at rows i in
    covering_skip p rows i past ∙ ap (λ rs. covering_row rs p) (drop_row i rows here) ∙ covering_none p r.start (r ∷ drop (i + 1) rows) low (omega arith, at.some, at.small, order_after 0 rows i order here)

-- the same, where there may be no row with index i
pub covering_out : (p : ℕ) (rows : List Row) (i : ℕ) → RowsInOrder 0 rows → EndBy p rows i → (i < length rows → p < (row_at rows i).start) → covering_row rows p ≡ None
covering_out p rows i order past before = by (cases_lt i (length rows))
  where
    by : (i < length rows) ⊎ (length rows ≤ i) → covering_row rows p ≡ None
    by (inl here) = covering_before p rows i order past here (before here)
    by (inr over) = covering_skip p rows i past ∙ ap (λ rs. covering_row rs p) (drop_all i rows over)

-- a row covers its first page
pub covering_start : (rows : List Row) (i : ℕ) → RowsInOrder 0 rows → i < length rows → covering_row rows (row_at rows i).start ≡ Some (row_at rows i)
covering_start rows i order here =
    let at = order_at 0 rows i order here in
    covering_here (row_at rows i).start rows i (past_start 0 rows i order here) here (omega arith) (omega (arith, at.some))

-- boundaries at or before the first page of a range are not kept
pub kept_skip : (unit b a : ℕ) (rows : List Row) (i : ℕ) → 1 ≤ unit → EndBy a rows i → kept unit b a (boundaries rows) ≡ kept unit b a (boundaries (drop i rows))
kept_skip unit b a rows zero some past = refl
kept_skip unit b a [] (suc i) some past = refl
kept_skip unit b a (r ∷ rows) (suc i) some past =
    let start : may_keep unit b a r.start ≡ false = grind (arith, nat_tests, past.0) in
    let end : may_keep unit b a (row_end r) ≡ false = grind (arith, nat_tests, past.0) in
    rw (start, end) (kept_skip unit b a rows i some past.1)

-- boundaries at or near the end of a range, and after it, are not kept
pub kept_none : (unit b a q : ℕ) (rows : List Row) → b < q + unit → RowsInOrder q rows → kept unit b a (boundaries rows) ≡ []
kept_none unit b a q [] high order = refl
kept_none unit b a q (r ∷ rows) high order =
    let start : may_keep unit b a r.start ≡ false = grind (arith, nat_tests, order.0) in
    let end : may_keep unit b a (row_end r) ≡ false = grind (arith, nat_tests, order.0) in
    rw (start, end) (kept_none unit b a (row_end r) rows (omega (arith, order.0)) order.3)

-- the piece after a boundary, kept or not, has the values of the row that covers its first page
pub stays_open : (all : List Row) (unit end x : ℕ) (row : Option Row) (current new : Row) → IsOpenPiece all current → row ≡ covering_row all x → new.target ≡ current.target → new.start ≡ (if may_keep unit end current.start x then x else current.start) → ((to : ℕ) → with_end to new ≡ (if may_keep unit end current.start x then piece_of row current.target x to else with_end to current)) → IsOpenPiece all new
stays_open all unit end x row current new is_open held target start values to = by (may_keep unit end current.start x) refl
  where
    by : (v : Bool) → may_keep unit end current.start x ≡ v → with_end to new ≡ piece all new.target new.start to
    by true keeps =
        let on : new.start ≡ x = start ∙ ap (λ v. if v then x else current.start) keeps in
        values to ∙ ap (λ v. if v then piece_of row current.target x to else with_end to current) keeps ∙ rw (on, target) (ap (λ o. piece_of o current.target x to) held)
    by false lost =
        let on : new.start ≡ current.start = start ∙ ap (λ v. if v then x else current.start) lost in
        values to ∙ ap (λ v. if v then piece_of row current.target x to else with_end to current) lost ∙ rw (on, target) (is_open to)

pub length-pieces : (rows : List Row) (t b from : ℕ) (ks : List ℕ) → length (pieces rows t b from ks) ≡ 1 + length ks
length-pieces rows t b from [] = refl
length-pieces rows t b from (k ∷ ks) = omega (arith, length-pieces rows t b k ks)

pub pieces_some : (rows : List Row) (t unit b from : ℕ) (xs : List ℕ) → 1 ≤ length (pieces_from rows t unit b from xs)
pieces_some rows t unit b from xs = omega (arith, length-pieces rows t b from (kept unit b from xs))

-- there is room for one piece where there is room for all pieces still to come
pub room_on : (old new more rest : List Row) (cap : ℕ) → new ++ more ≡ old ++ rest → length old + length rest ≤ cap → 1 ≤ length more → length new < cap
room_on old new more rest cap same room some = omega (arith, ap length same, length-append new more, length-append old rest)

-- only one piece is left after the start of a row that ends after the range
pub last_start : (rows : List Row) (t unit end from : ℕ) (i : ℕ) → 1 ≤ unit → RowsInOrder 0 rows → i < length rows → end < row_end (row_at rows i) → pieces_from rows t unit end from (row_end (row_at rows i) ∷ boundaries (drop (i + 1) rows)) ≡ piece rows t from end ∷ []
last_start rows t unit end from i some order here high =
    let r = row_at rows i in
    let out : may_keep unit end from (row_end r) ≡ false = grind (arith, nat_tests) in
    rw (out, kept_none unit end from (row_end r) (drop (i + 1) rows) (omega arith) (order_after 0 rows i order here)) refl

-- a list of rows and its capacity
abbrev pub row_list : List Row → ℕ → RowList
row_list rows cap = record { rows = rows; cap = cap }

pub opened : (all : List Row) (t from : ℕ) (row : Option Row) (current : Row) → current.target ≡ t → current.start ≡ from → ((to : ℕ) → with_end to current ≡ piece_of row t from to) → row ≡ covering_row all from → IsOpenPiece all current
opened all t from row current target start values held to = values to ∙ rw (target, start) (ap (λ o. piece_of o t from to) held)

pub room_here : (all : List Row) (unit end t : ℕ) (current : Row) (xs : List ℕ) (made whole : List Row) (cap : ℕ) → current.target ≡ t → made ++ pieces_from all t unit end current.start xs ≡ whole → length whole ≤ cap → length made + length (pieces_from all current.target unit end current.start xs) ≤ cap
room_here all unit end t current xs made whole cap target same room = rw target (omega (arith, ap length same, length-append made (pieces_from all t unit end current.start xs), room))

-- a row of the target that starts where the current piece does, and whose end may be kept, is the next piece
pub whole_row : (rows : List Row) (unit end from i : ℕ) → 1 ≤ unit → RowsInOrder 0 rows → i < length rows → (row_at rows i).start ≡ from → may_keep unit end from (row_end (row_at rows i)) ≡ true → pieces_from rows (row_at rows i).target unit end from (boundaries (drop i rows)) ≡ row_at rows i ∷ pieces_from rows (row_at rows i).target unit end (row_end (row_at rows i)) (boundaries (drop (i + 1) rows))
whole_row rows unit end from i some order here start keeps =
    let r = row_at rows i in
    let out : may_keep unit end from r.start ≡ false = grind (arith, nat_tests) in
    let pages : row_end r - r.start ≡ r.pages = omega arith in
    let first : piece rows r.target from (row_end r) ≡ r =
    ap (λ n. piece rows r.target n (row_end r)) (sym start)
    ∙ ap (λ o. piece_of o r.target r.start (row_end r)) (covering_start rows i order here)
    ∙ ap (λ (n : ℕ). record r { pages = n }) pages in
    let rest = pieces_from rows r.target unit end (row_end r) (boundaries (drop (i + 1) rows)) in
    ap (λ rs. pieces_from rows r.target unit end from (boundaries rs)) (drop_row i rows here) ∙ rw (out, keeps) (ap (λ x. x ∷ rest) first)

-- a boundary that may be kept is not after the end of the range
pub kept_within : (unit end from x : ℕ) → may_keep unit end from x ≡ true → x ≤ end
kept_within unit end from x keeps = grind (arith, nat_tests)

-- the rows from one index to before another, and one more
pub stretch_more : (rows : List Row) (from next : ℕ) → from ≤ next → next < length rows → take (next + 1 - from) (drop from rows) ≡ take (next - from) (drop from rows) ++ row_at rows next ∷ []
stretch_more rows from next low here =
    let n = next - from in
    let at : from + n ≡ next = omega arith in
    let within : n < length (drop from rows) = omega (arith, length-drop from rows) in
    let one_more : next + 1 - from ≡ suc n = omega arith in
    ap (λ k. take k (drop from rows)) one_more
    ∙ take-suc (drop from rows) n no_row within
    ∙ ap (λ r. take n (drop from rows) ++ r ∷ []) (get_or-drop from rows n no_row ∙ ap (λ k. row_at rows k) at)
