-- Rows that are tested one after another, and the places of those that match.
use Rattle.std.proofs.Common.{◌≡◌, ◌⊎◌, inl, inr, ℕ, ◌+◌, ◌≤◌, ◌<◌, Bool, true, false, cond, List, [], ◌∷◌, ◌++◌, length, map, take, get_or, set, refl, sym, ap, ◌∙◌, arith}
use Rattle.std.specs.Prelude.{filter, slice_index}
use Rattle.std.proofs.lemmas.Bool.{cases_lt}
use Rattle.std.proofs.lemmas.List.{get_or-map, get_or-set_other, get_or-set_same, get_or-take, length-map, length-take, append-nil, map-append, take_more, take_more_set, take-set}
use Rattle.std.proofs.lemmas.List.Elements.{filter_more}
use Rattle.damon_types.specs.declared.row.Row.{Row}

-- the default of a read past the last row
abbrev pub no_row : Row
no_row = record { target = 0; start = 0; pages = 0; count = 0; last = 0; age = 0 }

-- one row more is tested
pub tested_more : (p : Row → Bool) (rows : List Row) (hits : List Bool) (i : ℕ) (hit : Bool) → i < length rows → i < length hits → take i hits ≡ map p (take i rows) → hit ≡ p (get_or rows i no_row) → take (i + 1) (set hits i hit) ≡ map p (take (i + 1) rows)
tested_more p rows hits i hit within room before here =
    take_more_set hits i hit room
    ∙ ap (λ bs. bs ++ hit ∷ []) before
    ∙ ap (λ b. map p (take i rows) ++ b ∷ []) here
    ∙ sym (map-append p (take i rows) (get_or rows i no_row ∷ []))
    ∙ sym (ap (map p) (take_more rows i no_row within))

-- one hit more is looked at: its place is stored, and it stays if the row matches
pub found_more : (p : Row → Bool) (rows : List Row) (d : Row) (hits : List Bool) (count : ℕ) (found : List ℕ) (number place more : ℕ) → count ≤ length hits → take count hits ≡ map p rows → place < count → number < length found → more ≡ cond (get_or hits place false) 1 0 → map (λ i. get_or rows i d) (take number found) ≡ filter p (take place rows) → map (λ i. get_or rows i d) (take (number + more) (set found number place)) ≡ filter p (take (place + 1) rows)
found_more p rows d hits count found number place more long are within room is before = by (get_or hits place false) refl
  where
    f : ℕ → Row
    f i = get_or rows i d

    there : place < length rows
    there = omega (arith, ap length are, length-map rows p, length-take count hits)

    hit : get_or hits place false ≡ p (get_or rows place d)
    hit = sym (get_or-take count hits place false within) ∙ ap (λ (bs : List Bool). get_or bs place false) are ∙ get_or-map p rows place d false there

    next : filter p (take (place + 1) rows) ≡ filter p (take place rows) ++ cond (get_or hits place false) (get_or rows place d ∷ []) []
    next = filter_more p rows place d there ∙ ap (λ b. filter p (take place rows) ++ cond b (get_or rows place d ∷ []) []) (sym hit)

    by : (b : Bool) → get_or hits place false ≡ b → map f (take (number + more) (set found number place)) ≡ filter p (take (place + 1) rows)
    by true here =
        let one : number + more ≡ number + 1 = omega (arith, is ∙ ap (λ b. cond b 1 0) here) in
        ap (λ n. map f (take n (set found number place))) one
        ∙ ap (map f) (take_more_set found number place room)
        ∙ map-append f (take number found) (place ∷ [])
        ∙ ap (λ rs. rs ++ f place ∷ []) before
        ∙ sym (next ∙ ap (λ b. filter p (take place rows) ++ cond b (get_or rows place d ∷ []) []) here)
    by false none =
        let same : number + more ≡ number = omega (arith, is ∙ ap (λ b. cond b 1 0) none) in
        ap (λ n. map f (take n (set found number place))) same
        ∙ ap (map f) (take-set found number place)
        ∙ before
        ∙ sym (append-nil (filter p (take place rows)))
        ∙ sym (next ∙ ap (λ b. filter p (take place rows) ++ cond b (get_or rows place d ∷ []) []) none)

pub at_most_one : (b : Bool) → cond b 1 0 ≤ 1
at_most_one true = omega arith
at_most_one false = omega arith

-- the places so far are below the next one
pub within_more : (found : List ℕ) (number place more : ℕ) → more ≤ 1 → number < length found → ((k : ℕ) → k < number → slice_index found k < place) → (k : ℕ) → k < number + more → slice_index (set found number place) k < place + 1
within_more found number place more few room before k low = by (cases_lt k number)
  where
    by : (k < number) ⊎ (number ≤ k) → slice_index (set found number place) k < place + 1
    by (inl under) =
        let same : slice_index (set found number place) k ≡ slice_index found k = get_or-set_other found number k place 0 (λ is. omega (arith, is)) in
        omega (arith, same, before k under)
    by (inr over) =
        let here : number ≡ k = omega arith in
        let same : slice_index (set found number place) k ≡ place = ap (λ n. slice_index (set found number place) n) (sym here) ∙ get_or-set_same found number place 0 room in
        omega (arith, same)
