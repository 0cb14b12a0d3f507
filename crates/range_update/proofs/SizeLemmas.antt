-- How many pieces there are, and how large they are.
use Rattle.std.proofs.Common.{◌≡◌, ℕ, ◌+◌, ◌-◌, ◌*◌, ◌≤◌, ◌<◌, Bool, true, false, cond, List, [], ◌∷◌, length, length-append, refl, subst, Option, Some, None, arith}
use Rattle.std.specs.Prelude.{nat_lt}
use Rattle.std.specs.List.{AllByRecursion}
use Rattle.std.proofs.lemmas.Bool.Decides.{nat_tests}
use Rattle.std.proofs.lemmas.List.{map-append}
use Rattle.damon_types.specs.declared.range.Range.{Range}
use Rattle.damon_types.specs.declared.row.Row.{Row}
use Rattle.damon_types.specs.Ranges.{OrderedFrom, InOrder, end_of}
use Rattle.damon_types.specs.Span.{span_of, spans}
use Rattle.region_list.specs.Tiling.{Chain, Tiling}
use Rattle.range_update.specs.Updated.{covering_row, piece_of, piece, boundaries, may_keep, kept, pieces, range_pieces, all_pieces}
use Rattle.range_update.proofs.PieceLemmas.{length-pieces}

-- 1 where page x is below page q, else 0; and how many of a list are
abbrev one_below : ℕ → ℕ → ℕ
one_below q x = cond (nat_lt x q) 1 0

abbrev below : ℕ → List ℕ → ℕ
below q [] = 0
below q (x ∷ xs) = one_below q x + below q xs

below_more : (p q : ℕ) (xs : List ℕ) → p ≤ q → below p xs ≤ below q xs
below_more p q [] low = omega arith
below_more p q (x ∷ xs) low =
    let here : one_below p x ≤ one_below q x = grind (arith, nat_tests) in
    omega (arith, here, below_more p q xs low)

below_all : (q : ℕ) (xs : List ℕ) → below q xs ≤ length xs
below_all q [] = omega arith
below_all q (x ∷ xs) =
    let here : one_below q x ≤ 1 = grind (arith, nat_tests) in
    omega (arith, here, below_all q xs)

-- the two distances of a boundary that is kept
record IsFar (unit b a x : ℕ) : Type 0 where
  left : a + unit ≤ x
  right : x + unit ≤ b

is_far : (unit b a x : ℕ) → may_keep unit b a x ≡ true → IsFar unit b a x
is_far unit b a x keeps = record { left = grind (arith, nat_tests); right = grind (arith, nat_tests) }

-- the boundaries that are kept are strictly between both ends of the range, so ranges do not share one
kept_few : (unit b a : ℕ) (xs : List ℕ) → 1 ≤ unit → a < b → length (kept unit b a xs) + below (a + 1) xs ≤ below b xs
kept_few unit b a [] some wide = omega arith
kept_few unit b a (x ∷ xs) some wide = by (may_keep unit b a x) refl (λ c low. kept_few unit b c xs some low)
  where
    by : (v : Bool) → may_keep unit b a x ≡ v → ((c : ℕ) → c < b → length (kept unit b c xs) + below (c + 1) xs ≤ below b xs) → length (kept unit b a (x ∷ xs)) + below (a + 1) (x ∷ xs) ≤ below b (x ∷ xs)
    by true keeps rest =
        let far = is_far unit b a x keeps in
        let out : one_below (a + 1) x ≡ 0 = grind (arith, nat_tests, far.left) in
        let in_it : one_below b x ≡ 1 = grind (arith, nat_tests, far.right) in
        rw keeps (omega (arith, out, in_it, below_more (a + 1) (x + 1) xs (omega (arith, far.left)), rest x (omega (arith, far.right))))
    by false lost rest =
        let here : one_below (a + 1) x ≤ one_below b x = grind (arith, nat_tests) in
        rw lost (omega (arith, here, rest a wide))

length-boundaries : (rows : List Row) → length (boundaries rows) ≡ 2 * length rows
length-boundaries [] = refl
length-boundaries (r ∷ rows) = omega (arith, length-boundaries rows)

all_pieces_below : (unit t p : ℕ) (rows : List Row) (gs : List Range) → 1 ≤ unit → OrderedFrom t p gs → length (all_pieces unit rows gs) + below p (boundaries rows) ≤ length gs + length (boundaries rows)
all_pieces_below unit t p rows [] some ordered = omega (arith, below_all p (boundaries rows))
all_pieces_below unit t p rows (g ∷ gs) some ordered =
    let xs = boundaries rows in
    let ks = kept unit (end_of g) g.first xs in
    omega (
      arith,
      length-append (range_pieces unit rows g) (all_pieces unit rows gs),
      length-pieces rows g.target (end_of g) g.first ks,
      kept_few unit (end_of g) g.first xs some (omega (arith, ordered.2.pages)),
      below_more p (g.first + 1) xs (omega (arith, ordered.1)),
      all_pieces_below unit g.target (end_of g) rows gs some ordered.3,
    )

pub all_pieces_few : (unit : ℕ) (rows : List Row) (gs : List Range) → 1 ≤ unit → InOrder gs → length (all_pieces unit rows gs) ≤ length gs + 2 * length rows
all_pieces_few unit rows gs some ordered = omega (arith, all_pieces_below unit 0 0 rows gs some ordered, length-boundaries rows)

-- the target, the start and the pages of a piece
pub piece_of_target : (o : Option Row) (t from to : ℕ) → (piece_of o t from to).target ≡ t
piece_of_target None t from to = refl
piece_of_target (Some r) t from to = refl

pub piece_of_start : (o : Option Row) (t from to : ℕ) → (piece_of o t from to).start ≡ from
piece_of_start None t from to = refl
piece_of_start (Some r) t from to = refl

pub piece_of_pages : (o : Option Row) (t from to : ℕ) → (piece_of o t from to).pages ≡ to - from
piece_of_pages None t from to = refl
piece_of_pages (Some r) t from to = refl

pieces_chain : (unit : ℕ) (rows : List Row) (t b a : ℕ) (xs : List ℕ) → a + unit ≤ b → Chain unit t a b (spans (pieces rows t b a (kept unit b a xs)))
pieces_chain unit rows t b a [] wide =
    let pages = piece_of_pages (covering_row rows a) t a b in
    (piece_of_target (covering_row rows a) t a b, piece_of_start (covering_row rows a) t a b, omega (arith, pages), omega (arith, pages))
pieces_chain unit rows t b a (x ∷ xs) wide = by (may_keep unit b a x) refl (λ c low. pieces_chain unit rows t b c xs low)
  where
    by : (v : Bool) → may_keep unit b a x ≡ v → ((c : ℕ) → c + unit ≤ b → Chain unit t c b (spans (pieces rows t b c (kept unit b c xs)))) → Chain unit t a b (spans (pieces rows t b a (kept unit b a (x ∷ xs))))
    by true keeps rest =
        let far = is_far unit b a x keeps in
        let pages = piece_of_pages (covering_row rows a) t a x in
        let next : x ≡ a + (piece rows t a x).pages = omega (arith, pages, far.left) in
        rw keeps (piece_of_target (covering_row rows a) t a x, piece_of_start (covering_row rows a) t a x, omega (arith, pages, far.left), subst (λ (n : ℕ). Chain unit t n b (spans (pieces rows t b x (kept unit b x xs)))) next (rest x far.right))
    by false lost rest = rw lost (rest a wide)

pub all_pieces_tiling : (unit : ℕ) (rows : List Row) (gs : List Range) → AllByRecursion (λ g. unit ≤ g.pages) gs → Tiling unit gs (spans (all_pieces unit rows gs))
all_pieces_tiling unit rows [] wide = refl
all_pieces_tiling unit rows (g ∷ gs) wide = (
  spans (range_pieces unit rows g),
  spans (all_pieces unit rows gs),
  map-append span_of (range_pieces unit rows g) (all_pieces unit rows gs),
  pieces_chain unit rows g.target (end_of g) g.first (boundaries rows) (omega (arith, wide.0)),
  all_pieces_tiling unit rows gs wide.1,
)
