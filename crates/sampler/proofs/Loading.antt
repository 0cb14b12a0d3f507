-- The checks of one pick more.
use Rattle.std.proofs.Common.{◌≡◌, ℕ, zero, suc, ◌+◌, ◌<◌, Bool, List, [], ◌∷◌, ◌++◌, cond, length, set, take, drop, refl, ap, ◌∙◌, arith}
use Rattle.std.specs.Prelude.{count_by, map, slice_index}
use Rattle.std.proofs.lemmas.List.{take_more, get_or-drop, length-drop}
use Rattle.std.proofs.lemmas.List.Sums.{sum_by_push}
use Rattle.sampler.specs.Loaded.{loaded_bits, loaded_hits, mark_of, next_picks}

-- one pick more
pub next_picks_more : (picks : List ℕ) (from n : ℕ) → from + n < length picks → next_picks picks from (n + 1) ≡ next_picks picks from n ++ slice_index picks (from + n) ∷ []
next_picks_more picks from n below =
    take_more (drop from picks) n 0 (omega (arith, below, length-drop from picks))
    ∙ ap (λ p. next_picks picks from n ++ p ∷ []) (get_or-drop from picks n 0)

pub loaded_hits_more : (marks : List Bool) (picks : List ℕ) (from n : ℕ) → from + n < length picks → loaded_hits marks picks from (n + 1) ≡ loaded_hits marks picks from n + cond (mark_of marks (slice_index picks (from + n))) 1 0
loaded_hits_more marks picks from n below = ap (count_by (mark_of marks)) (next_picks_more picks from n below) ∙ sum_by_push (λ p. cond (mark_of marks p) 1 0) (next_picks picks from n) (slice_index picks (from + n))

-- the bits from the first one on
first_bits_more : (f : ℕ → Bool) (picks : List ℕ) (bits : List Bool) (n : ℕ) → n < length picks → length bits ≡ length picks → map f (take (suc n) picks) ++ drop (suc n) bits ≡ set (map f (take n picks) ++ drop n bits) n (f (slice_index picks n))
first_bits_more f [] bits n below each = absurd (omega arith)
first_bits_more f (p ∷ picks) [] n below each = absurd (omega arith)
first_bits_more f (p ∷ picks) (b ∷ bits) zero below each = refl
first_bits_more f (p ∷ picks) (b ∷ bits) (suc n) below each = ap (λ bs. f p ∷ bs) (first_bits_more f picks bits n (omega arith) (omega arith))

-- the same after the first `from` bits, which stay
bits_more : (f : ℕ → Bool) (picks : List ℕ) (bits : List Bool) (from n i j : ℕ) → i ≡ from + n → j ≡ suc i → i < length picks → length bits ≡ length picks → take from bits ++ map f (take (suc n) (drop from picks)) ++ drop j bits ≡ set (take from bits ++ map f (take n (drop from picks)) ++ drop i bits) i (f (slice_index picks i))
bits_more f [] bits from n i j is next below each = absurd (omega arith)
bits_more f (p ∷ picks) [] from n i j is next below each = absurd (omega arith)
bits_more f (p ∷ picks) (b ∷ bits) zero n i j is next below each =
    let first : i ≡ n = omega (arith, is) in
    let second : j ≡ suc n = omega (arith, is, next) in
    rw (first, second) (first_bits_more f (p ∷ picks) (b ∷ bits) n (omega (arith, first, below)) each)
bits_more f (p ∷ picks) (b ∷ bits) (suc from) n zero j is next below each = absurd (omega (arith, is))
bits_more f (p ∷ picks) (b ∷ bits) (suc from) n (suc i) zero is next below each = absurd (omega (arith, next))
bits_more f (p ∷ picks) (b ∷ bits) (suc from) n (suc i) (suc j) is next below each = ap (λ bs. b ∷ bs) (bits_more f picks bits from n i j (omega (arith, is)) (omega (arith, next)) (omega (arith, below)) (omega (arith, each)))

pub loaded_bits_more : (marks : List Bool) (picks : List ℕ) (from n : ℕ) (bits : List Bool) → from + n < length picks → length bits ≡ length picks → loaded_bits marks picks from (n + 1) bits ≡ set (loaded_bits marks picks from n bits) (from + n) (mark_of marks (slice_index picks (from + n)))
loaded_bits_more marks picks from n bits below each =
    let more : n + 1 ≡ suc n = omega arith in
    ap (λ k. take from bits ++ map (mark_of marks) (take k (drop from picks)) ++ drop (from + (n + 1)) bits) more
    ∙ bits_more (mark_of marks) picks bits from n (from + n) (from + (n + 1)) refl (omega arith) below each
