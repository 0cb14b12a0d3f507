-- The picks of rows.
use Rattle.std.proofs.Common.{◌≡◌, ℕ, zero, suc, ◌+◌, ◌<◌, List, [], ◌∷◌, ◌++◌, length, map, set, take, get_or, Some, refl, ap, sym, ◌∙◌, arith}
use Rattle.std.specs.Prelude.{slice_get, ◌%◌}
use Rattle.std.proofs.lemmas.Grind.{take-set_at}
use Rattle.damon_types.specs.declared.row.Row.{Row}
use Rattle.sampler.specs.Pick.{picks_of}

-- the picks of one row more
pub picks_of-more : (rows : List Row) (ws : List ℕ) (i : ℕ) (r : Row) (w : ℕ) → slice_get rows i ≡ Some r → slice_get ws i ≡ Some w → picks_of (take (suc i) rows) ws ≡ picks_of (take i rows) ws ++ (r.start + w % r.pages) ∷ []
picks_of-more [] ws i r w is word = absurd (cc is)
picks_of-more (q ∷ rows) [] i r w is word = absurd (cc word)
picks_of-more (q ∷ rows) (v ∷ ws) zero r w is word = let e : q ≡ r = cc in let f : v ≡ w = cc in ap (λ (x : Row). (x.start + v % x.pages) ∷ []) e ∙ ap (λ x. (r.start + x % r.pages) ∷ []) f
picks_of-more (q ∷ rows) (v ∷ ws) (suc i) r w is word = ap (λ ps. (q.start + v % q.pages) ∷ ps) (picks_of-more rows ws i r w is word)

-- a number of a column is that of its row
in_column : (f : Row → ℕ) (rows : List Row) (i : ℕ) (r : Row) → slice_get rows i ≡ Some r → get_or (map f rows) i 0 ≡ f r
in_column f [] i r is = absurd (cc is)
in_column f (q ∷ rows) zero r is = let e : q ≡ r = cc is in ap f e
in_column f (q ∷ rows) (suc i) r is = in_column f rows i r is

pub place_at : (f : Row → ℕ) (rows : List Row) (column : List ℕ) (i : ℕ) (r : Row) → column ≡ map f rows → slice_get rows i ≡ Some r → get_or column i 0 ≡ f r
place_at f rows column i r are is = ap (λ (ns : List ℕ). get_or ns i 0) are ∙ in_column f rows i r is

-- as many picks as rows
pub length-picks_of : (rows : List Row) (ws : List ℕ) → length ws ≡ length rows → length (picks_of rows ws) ≡ length rows
length-picks_of [] ws same = refl
length-picks_of (r ∷ rows) [] same = absurd (omega arith)
length-picks_of (r ∷ rows) (w ∷ ws) same = ap suc (length-picks_of rows ws (omega arith))

-- the picks so far, and that of one row more stored behind them
pub picks-next : (rows : List Row) (ws : List ℕ) (i j p : ℕ) (before after : List ℕ) → take i before ≡ picks_of (take i rows) ws → picks_of (take (suc i) rows) ws ≡ picks_of (take i rows) ws ++ p ∷ [] → after ≡ set before i p → i < length before → j ≡ i + 1 → take j after ≡ picks_of (take j rows) ws
picks-next rows ws i j p before after so_far more stored here next =
    let last : j ≡ suc i = omega (arith, next) in
    ap (take j) stored ∙ take-set_at before i j p next here ∙ ap (λ b. b ++ p ∷ []) so_far ∙ sym more ∙ ap (λ k. picks_of (take k rows) ws) (sym last)
