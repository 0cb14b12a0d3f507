-- Splitting from left to right splits each row by the rule, and no other list does.
use Rattle.std.proofs.Common.{◌≡◌, ℕ, suc, ◌+◌, ◌-◌, Bool, List, [], ◌∷◌, ◌++◌, length, length-append, map, refl, sym, ap, ◌∙◌, subst, append_assoc, arith}
use Rattle.std.proofs.lemmas.List.{length-map}
use Rattle.damon_types.specs.declared.row.Row.{Row}
use Rattle.region_split.specs.Cut.{SplitLimits}
use Rattle.region_split.specs.Split.{parts_of, split_from, split_rows, wants_three}
use Rattle.region_split.specs.RowByRow.{Piece, parts_in, AreSplit, IsSplit}
use Rattle.region_split.proofs.SplitLemmas.{parts_some}

-- the rows from row i on with their parts, `count` being the number of rows now
abbrev pieces_from : SplitLimits → Bool → List ℕ → ℕ → ℕ → List Row → List Piece
pieces_from limits three words count i [] = []
pieces_from limits three words count i (r ∷ rows) =
    let new = parts_of limits three words i count r in
    record { row = r; parts = new } ∷ pieces_from limits three words (count + length new - 1) (i + 1) rows

rows_of_pieces : (limits : SplitLimits) (three : Bool) (words : List ℕ) (count i : ℕ) (rows : List Row) → map (λ (p : Piece). p.row) (pieces_from limits three words count i rows) ≡ rows
rows_of_pieces limits three words count i [] = refl
rows_of_pieces limits three words count i (r ∷ rows) =
    let new = parts_of limits three words i count r in
    ap (λ rs. r ∷ rs) (rows_of_pieces limits three words (count + length new - 1) (i + 1) rows)

parts_of_pieces : (limits : SplitLimits) (three : Bool) (words : List ℕ) (count i : ℕ) (rows : List Row) → split_from limits three words count i rows ≡ parts_in (pieces_from limits three words count i rows)
parts_of_pieces limits three words count i [] = refl
parts_of_pieces limits three words count i (r ∷ rows) =
    let new = parts_of limits three words i count r in
    ap (λ rs. new ++ rs) (parts_of_pieces limits three words (count + length new - 1) (i + 1) rows)

length_pieces : (limits : SplitLimits) (three : Bool) (words : List ℕ) (count i : ℕ) (rows : List Row) → length (pieces_from limits three words count i rows) ≡ length rows
length_pieces limits three words count i [] = refl
length_pieces limits three words count i (r ∷ rows) =
    let new = parts_of limits three words i count r in
    ap (λ n. suc n) (length_pieces limits three words (count + length new - 1) (i + 1) rows)

-- where `given` rows were given before row i, each row from there on is split at the number of rows at that moment
split_at : (limits : SplitLimits) (three : Bool) (words : List ℕ) (given count i : ℕ) (rows : List Row) → given + length rows ≡ count
    → (before : List Piece) (p : Piece) (behind : List Piece) → pieces_from limits three words count i rows ≡ before ++ p ∷ behind
    → p.parts ≡ parts_of limits three words (i + length before) (given + length (parts_in before) + length (p ∷ behind)) p.row
split_at limits three words given count i [] is [] p behind same = absurd (cc same)
split_at limits three words given count i [] is (b ∷ before) p behind same = absurd (cc same)
split_at limits three words given count i (r ∷ rows) is [] p behind same =
    let new = parts_of limits three words i count r in
    let here : record { row = r; parts = new } ≡ p = cc same in
    let rest : pieces_from limits three words (count + length new - 1) (i + 1) rows ≡ behind = cc same in
    let many : length rows ≡ length behind = sym (length_pieces limits three words (count + length new - 1) (i + 1) rows) ∙ ap length rest in
    let place : i ≡ i + 0 = omega arith in
    let now : count ≡ given + 0 + length (p ∷ behind) = omega (arith, is, many) in
    ap (λ (q : Piece). q.parts) (sym here)
    ∙ ap (λ n. parts_of limits three words n count r) place
    ∙ ap (λ n. parts_of limits three words (i + 0) n r) now
    ∙ ap (λ (q : Piece). parts_of limits three words (i + 0) (given + 0 + length (p ∷ behind)) q.row) here
split_at limits three words given count i (r ∷ rows) is (b ∷ before) p behind same =
    let new = parts_of limits three words i count r in
    let here : record { row = r; parts = new } ≡ b = cc same in
    let rest : pieces_from limits three words (count + length new - 1) (i + 1) rows ≡ before ++ p ∷ behind = cc same in
    let later = split_at limits three words (given + length new) (count + length new - 1) (i + 1) rows (omega (arith, is, parts_some limits three words i count r)) before p behind rest in
    let place : i + 1 + length before ≡ i + length (b ∷ before) = omega arith in
    let given_now : given + length new + length (parts_in before) ≡ given + length (parts_in (b ∷ before)) =
    omega (arith, length-append b.parts (parts_in before), ap (λ (q : Piece). length q.parts) here) in
    later
    ∙ ap (λ n. parts_of limits three words n (given + length new + length (parts_in before) + length (p ∷ behind)) p.row) place
    ∙ ap (λ n. parts_of limits three words (i + length (b ∷ before)) (n + length (p ∷ behind)) p.row) given_now

-- splitting from left to right splits each row so
pub split_row_by_row : (max unit before : ℕ) (words : List ℕ) (rows : List Row) → IsSplit max unit before words rows (split_rows max unit before words rows)
split_row_by_row max unit before words rows =
    let limits : SplitLimits = record { max = max; unit = unit } in
    let three = wants_three max before (length rows) in
    record {
      pieces = pieces_from limits three words (length rows) 0 rows;
      of_rows = rows_of_pieces limits three words (length rows) 0 rows;
      split = λ front p behind same.
          let place : 0 + length front ≡ length front = omega arith in
          let given : 0 + length (parts_in front) ≡ length (parts_in front) = omega arith in
          split_at limits three words 0 (length rows) 0 rows (omega arith) front p behind same
          ∙ ap (λ n. parts_of limits three words n (0 + length (parts_in front) + length (p ∷ behind)) p.row) place
          ∙ ap (λ n. parts_of limits three words (length front) (n + length (p ∷ behind)) p.row) given;
      made = parts_of_pieces limits three words (length rows) 0 rows;
    }

-- pieces of the same rows, behind the same pieces, are the same
same_pieces : (limits : SplitLimits) (three : Bool) (words : List ℕ) (before xs ys : List Piece) → AreSplit limits three words (before ++ xs) → AreSplit limits three words (before ++ ys)
    → map (λ (p : Piece). p.row) xs ≡ map (λ (p : Piece). p.row) ys → xs ≡ ys
same_pieces limits three words before [] [] split_x split_y same = refl
same_pieces limits three words before [] (y ∷ ys) split_x split_y same = absurd (cc same)
same_pieces limits three words before (x ∷ xs) [] split_x split_y same = absurd (cc same)
same_pieces limits three words before (x ∷ xs) (y ∷ ys) split_x split_y same =
    let row : x.row ≡ y.row = cc same in
    let rows : map (λ (p : Piece). p.row) xs ≡ map (λ (p : Piece). p.row) ys = cc same in
    let many : length xs ≡ length ys = sym (length-map xs (λ (p : Piece). p.row)) ∙ ap length rows ∙ length-map ys (λ (p : Piece). p.row) in
    let at : List Piece → Row → List Row = λ zs r. parts_of limits three words (length before) (length (parts_in before) + suc (length zs)) r in
    let parts : x.parts ≡ y.parts = split_x before x xs refl ∙ ap (at xs) row ∙ ap (λ n. parts_of limits three words (length before) (length (parts_in before) + suc n) y.row) many ∙ sym (split_y before y ys refl) in
    let here : x ≡ y = ap (λ r. record { row = r; parts = x.parts }) row ∙ ap (λ ps. record { row = y.row; parts = ps }) parts in
    let front : (zs : List Piece) (z : Piece) → (before ++ z ∷ []) ++ zs ≡ before ++ z ∷ zs = λ zs z. append_assoc before (z ∷ []) zs in
    let next_x : AreSplit limits three words ((before ++ y ∷ []) ++ xs) = subst (AreSplit limits three words) (ap (λ z. before ++ z ∷ xs) here ∙ sym (front xs y)) split_x in
    let next_y : AreSplit limits three words ((before ++ y ∷ []) ++ ys) = subst (AreSplit limits three words) (sym (front ys y)) split_y in
    let others = same_pieces limits three words (before ++ y ∷ []) xs ys next_x next_y rows in
    ap (λ z. z ∷ xs) here ∙ ap (λ zs. y ∷ zs) others

pub one_split : (max unit before : ℕ) (words : List ℕ) (rows a b : List Row) → IsSplit max unit before words rows a → IsSplit max unit before words rows b → a ≡ b
one_split max unit before words rows a b x y =
    let limits : SplitLimits = record { max = max; unit = unit } in
    x.made ∙ ap parts_in (same_pieces limits (wants_three max before (length rows)) words [] x.pieces y.pieces x.split y.split (x.of_rows ∙ sym y.of_rows)) ∙ sym y.made
