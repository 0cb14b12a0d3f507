-- Random words that are drawn at their places.
use Rattle.std.proofs.Common.{◌≡◌, ◌≢◌, inl, inr, ℕ, zero, suc, ◌+◌, ◌*◌, ◌≤◌, ◌<◌, ◌⊎◌, true, false, List, [], ◌∷◌, length, set, get_or-set_same, get_or-set_other, refl, sym, ap, ◌∙◌, subst, arith}
use Rattle.std.specs.Prelude.{nat_lt, slice_index}
use Rattle.std.proofs.lemmas.Bool.{cases_eq}
use Rattle.std.proofs.lemmas.Bool.Decides.{nat_tests}
use Rattle.rand_core.specs.Stream.{Stream, next_u32}
use Rattle.sampler.specs.Draws.{drawn, drawn_rest}
use Rattle.sampler.proofs.Lemmas.{drawn_rest-append}
use Rattle.damon_world.specs.Drawing.{AreDrawn, word_at}

-- words of which each is the one at its place
pub all_drawn : (s : Stream) (words : List ℕ) (n : ℕ) → length words ≡ n → AreDrawn s words 0 n → words ≡ drawn n s
all_drawn s [] zero len each = refl
all_drawn s [] (suc n) len each = absurd (omega arith)
all_drawn s (w ∷ words) zero len each = absurd (omega arith)
all_drawn s (w ∷ words) (suc n) len each =
    let rest = all_drawn (next_u32 s).1 words n (omega arith) (λ p from below. each (suc p) (omega arith) (omega arith)) in
    let first : w ≡ (next_u32 s).0 = each 0 (omega arith) (omega arith) in
    ap (λ x. x ∷ words) first ∙ ap (λ ws. (next_u32 s).0 ∷ ws) rest

-- the same place, written otherwise
pub rest_at : (s : Stream) (n m : ℕ) → n ≡ m → drawn_rest n s ≡ drawn_rest m s
rest_at s n m is = ap (λ k. drawn_rest k s) is

-- the next word of a source that is at a place, and where the source is then
pub word_next : (w : ℕ) (s here there : Stream) (p : ℕ) → here ≡ drawn_rest p s → (w, there) ≡ next_u32 here → w ≡ word_at s p
word_next w s here there p at next = ap (λ (x : ℕ × Stream). x.0) next ∙ ap (λ t. (next_u32 t).0) at

pub rest_next : (w : ℕ) (s here there : Stream) (p : ℕ) → here ≡ drawn_rest p s → (w, there) ≡ next_u32 here → there ≡ drawn_rest (p + 1) s
rest_next w s here there p at next =
    ap (λ (x : ℕ × Stream). x.1) next ∙ ap (λ t. (next_u32 t).1) at ∙ sym (drawn_rest-append p 1 s)

-- one word more is at its place
pub drawn_more : (s : Stream) (words : List ℕ) (from to w : ℕ) → to < length words → w ≡ word_at s to → AreDrawn s words from to → AreDrawn s (set words to w) from (to + 1)
drawn_more s words from to w here is each p after before = elim (cases_eq p to) [
  | inl at ↦ subst (λ q. slice_index (set words to w) q ≡ word_at s q) (sym at) (get_or-set_same words to w 0 here ∙ is)
  | inr beside ↦
      let kept : slice_index (set words to w) p ≡ slice_index words p = rw get_or-set_other refl in
      kept ∙ each p after (omega arith)
]

-- a word elsewhere changes none of these
pub drawn_apart : (s : Stream) (words : List ℕ) (from to at w : ℕ) → (at < from) ⊎ (to ≤ at) → AreDrawn s words from to → AreDrawn s (set words at w) from to
drawn_apart s words from to at w apart each p after before =
    let beside : p ≢ at = elim apart [ inl low ↦ λ is. absurd (omega arith) | inr high ↦ λ is. absurd (omega arith) ] in
    let kept : slice_index (set words at w) p ≡ slice_index words p = rw get_or-set_other refl in
    kept ∙ each p after before

-- words that are drawn up to a place, and from there on
pub drawn_joined : (s : Stream) (words : List ℕ) (from between to : ℕ) → AreDrawn s words from between → AreDrawn s words between to → AreDrawn s words from to
drawn_joined s words from between to front rest p after before = elim (nat_lt p between) as (λ b. nat_lt p between ≡ b → slice_index words p ≡ word_at s p) [
  | true ↦ λ t. (let below : p < between = grind (arith, nat_tests) in front p after below)
  | false ↦ λ f. (let above : between ≤ p = grind (arith, nat_tests) in rest p above before)
] refl

-- the same words, up to a place that is written otherwise
pub drawn_to : (s : Stream) (words : List ℕ) (from to end : ℕ) → to ≡ end → AreDrawn s words from to → AreDrawn s words from end
drawn_to s words from to end is drawn = subst (AreDrawn s words from) is drawn

-- four quarters that are drawn
pub quarters_drawn : (s : Stream) (words : List ℕ) (q i : ℕ) → i ≡ q → AreDrawn s words 0 i → AreDrawn s words q (q + i) → AreDrawn s words (2 * q) (2 * q + i) → AreDrawn s words (3 * q) (3 * q + i) → AreDrawn s words 0 (4 * q)
quarters_drawn s words q i all first second third fourth =
    let one = drawn_joined s words 0 q (2 * q) (drawn_to s words 0 i q all first) (drawn_to s words q (q + i) (2 * q) (omega arith) second) in
    let two = drawn_joined s words (2 * q) (3 * q) (4 * q) (drawn_to s words (2 * q) (2 * q + i) (3 * q) (omega arith) third) (drawn_to s words (3 * q) (3 * q + i) (4 * q) (omega arith) fourth) in
    drawn_joined s words 0 (2 * q) (4 * q) one two
