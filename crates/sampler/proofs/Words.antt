-- Random words one after another.
use Rattle.std.proofs.Common.{◌≡◌, ℕ, zero, suc, ◌+◌, ◌<◌, [], ◌∷◌, ◌++◌, length, Some, refl, ap, sym, ◌∙◌, arith}
use Rattle.std.specs.Prelude.{slice_get}
use Rattle.rand_core.specs.Steps.{steps_u32}
use Rattle.rand_core.specs.Stream.{Stream, next_u32}
use Rattle.rand_core.proofs.StepsLemmas.{next_u32-stream_of}
use Rattle.rand_pcg.specs.Lcg.{Lcg, advance, next}
use Rattle.rand_pcg.specs.Pcg.{multiplier_64, pcg32}
use Rattle.rand_pcg.proofs.LcgLemmas.{advance_more, advance_zero}
use Rattle.sampler.specs.Draws.{drawn, drawn_rest}
use Rattle.sampler.specs.Seeds.{words_from}

-- one word
pub drawn-one : (w : ℕ) (s t : Stream) → (w, t) ≡ next_u32 s → w ∷ [] ≡ drawn 1 s
drawn-one w s t next = ap (λ (x : ℕ × Stream). x.0 ∷ []) next

pub drawn_rest-one : (w : ℕ) (s t : Stream) → (w, t) ≡ next_u32 s → t ≡ drawn_rest 1 s
drawn_rest-one w s t next = ap (λ (x : ℕ × Stream). x.1) next

pub length-drawn : (n : ℕ) (s : Stream) → length (drawn n s) ≡ n
length-drawn zero s = refl
length-drawn (suc n) s = ap suc (length-drawn n (next_u32 s).1)

-- some words and then others
pub drawn-append : (n m : ℕ) (s : Stream) → drawn (n + m) s ≡ drawn n s ++ drawn m (drawn_rest n s)
drawn-append zero m s = let none : 0 + m ≡ m = omega arith in ap (λ k. drawn k s) none
drawn-append (suc n) m s =
    let one : suc n + m ≡ suc (n + m) = omega arith in
    ap (λ k. drawn k s) one ∙ ap (λ ws. (next_u32 s).0 ∷ ws) (drawn-append n m (next_u32 s).1)

pub drawn_rest-append : (n m : ℕ) (s : Stream) → drawn_rest (n + m) s ≡ drawn_rest m (drawn_rest n s)
drawn_rest-append zero m s = let none : 0 + m ≡ m = omega arith in ap (λ k. drawn_rest k s) none
drawn_rest-append (suc n) m s =
    let one : suc n + m ≡ suc (n + m) = omega arith in
    ap (λ k. drawn_rest k s) one ∙ drawn_rest-append n m (next_u32 s).1

-- a word of those that are drawn
pub drawn-get : (n k : ℕ) (s : Stream) → k < n → slice_get (drawn n s) k ≡ Some (next_u32 (drawn_rest k s)).0
drawn-get zero k s below = absurd (omega arith)
drawn-get (suc n) zero s below = refl
drawn-get (suc n) (suc k) s below = drawn-get n k (next_u32 s).1 (omega arith)

-- the next word, where some are drawn
pub drawn-next : (n k : ℕ) (s here left : Stream) (w : ℕ) → k < n → here ≡ drawn_rest k s → (w, left) ≡ next_u32 here → slice_get (drawn n s) k ≡ Some w
drawn-next n k s here left w below at next =
    drawn-get n k s below ∙ ap (λ t. Some (next_u32 t).0) (sym at) ∙ ap (λ (x : ℕ × Stream). Some x.0) (sym next)

-- what is left after one word more
pub drawn_rest-next : (k j : ℕ) (s here left : Stream) (w : ℕ) → j ≡ k + 1 → here ≡ drawn_rest k s → (w, left) ≡ next_u32 here → left ≡ drawn_rest j s
drawn_rest-next k j s here left w more at next =
    drawn_rest-one w here left next ∙ ap (drawn_rest 1) at ∙ sym (drawn_rest-append k 1 s) ∙ ap (λ i. drawn_rest i s) (sym more)

-- the words after a jump are those after as many words
pub words_jumped : (n : ℕ) (g : Lcg) → words_from (advance 64 multiplier_64 n g) ≡ drawn_rest n (words_from g)
words_jumped zero g = ap words_from (advance_zero 64 multiplier_64 g)
words_jumped (suc n) g =
    let one : suc n ≡ n + 1 = omega arith in
    ap (λ k. words_from (advance 64 multiplier_64 k g)) one
    ∙ (ap words_from (sym (advance_more 64 multiplier_64 n g))
    ∙ (words_jumped n (next 64 multiplier_64 g)
    ∙ sym (ap (λ (x : ℕ × Stream). drawn_rest n x.1) (next_u32-stream_of (steps_u32 pcg32) g))))
