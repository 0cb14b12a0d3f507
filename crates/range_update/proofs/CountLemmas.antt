-- A bound on the counts of old rows holds of the counts of pieces.
use Rattle.std.proofs.Common.{ℕ, ◌≤◌, Bool, true, false, cond, List, [], ◌∷◌, ◌++◌, Option, Some, arith}
use Rattle.std.specs.List.{AllByRecursion}
use Rattle.damon_types.specs.declared.range.Range.{Range}
use Rattle.damon_types.specs.declared.row.Row.{Row}
use Rattle.damon_types.specs.Ranges.{end_of}
use Rattle.damon_types.proofs.Lemmas.{all_append}
use Rattle.range_update.specs.Updated.{covering_row, piece_of, piece, boundaries, kept, pieces, range_pieces, all_pieces}
use Rattle.range_update.proofs.PieceLemmas.{covers}

-- the count of a row is at most n
abbrev pub IsFew : ℕ → Row → Type 0
IsFew n r = r.count ≤ n

by_row : (n t from to : ℕ) (b : Bool) (r : Row) (other : Option Row) → r.count ≤ n → IsFew n (piece_of other t from to) → IsFew n (piece_of (cond b (Some r) other) t from to)
by_row n t from to true r other here rest = here
by_row n t from to false r other here rest = rest

piece_few : (n t from to : ℕ) (rows : List Row) → AllByRecursion (IsFew n) rows → IsFew n (piece rows t from to)
piece_few n t from to [] all = omega arith
piece_few n t from to (r ∷ rows) all = by_row n t from to (covers from r) r (covering_row rows from) all.0 (piece_few n t from to rows all.1)

pieces_few : (n t end from : ℕ) (rows : List Row) (ks : List ℕ) → AllByRecursion (IsFew n) rows → AllByRecursion (IsFew n) (pieces rows t end from ks)
pieces_few n t end from rows [] all = (piece_few n t from end rows all, tt)
pieces_few n t end from rows (k ∷ ks) all = (piece_few n t from k rows all, pieces_few n t end k rows ks all)

-- the counts of all pieces
pub all_pieces_few : (n unit : ℕ) (rows : List Row) (gs : List Range) → AllByRecursion (IsFew n) rows → AllByRecursion (IsFew n) (all_pieces unit rows gs)
all_pieces_few n unit rows [] all = tt
all_pieces_few n unit rows (g ∷ gs) all =
    all_append (IsFew n) (range_pieces unit rows g) (all_pieces unit rows gs)
    (pieces_few n g.target (end_of g) g.first rows (kept unit (end_of g) g.first (boundaries rows)) all)
    (all_pieces_few n unit rows gs all)
