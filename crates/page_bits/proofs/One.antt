-- One bit of words, set or cleared.
use Rattle.std.proofs.Common.{◌≡◌, ◌≢◌, inl, inr, ℕ, ◌/◌, ◌%◌, ◌<◌, Bool, true, false, List, length, set, get_or-set_same, get_or-set_other, refl, sym, ap, ◌∙◌, arith}
use Rattle.std.specs.Prelude.{◌==◌, slice_index, if◌then◌else◌}
use Rattle.std.specs.Int.{bit_at}
use Rattle.std.proofs.lemmas.Bool.{cases_eq}
use Rattle.std.proofs.lemmas.Bool.Decides.{nat_tests}
use Rattle.page_bits.specs.Bits.{bit_in, is_set}

-- Words of which one is new: it has another bit for one page, and the bits of the others.
pub one_bit : (words : List ℕ) (page new : ℕ) (now : Bool) → page / 64 < length words → is_set new (page % 64) ≡ now → ((i : ℕ) → i < 64 → i ≢ page % 64 → bit_at new i ≡ bit_at (slice_index words (page / 64)) i) → (p : ℕ) → bit_in (set words (page / 64) new) p ≡ (if page == p then now else bit_in words p)
one_bit words page new now here is same p = elim (cases_eq (p / 64) (page / 64)) [
  | inl in_word ↦
      let word : bit_in (set words (page / 64) new) p ≡ is_set new (p % 64) = ap (λ k. is_set (slice_index (set words (page / 64) new) k) (p % 64)) in_word ∙ ap (λ w. is_set w (p % 64)) (get_or-set_same words (page / 64) new 0 here) in
      elim (cases_eq (p % 64) (page % 64)) [
        | inl at ↦
            let test : (page == p) ≡ true = (let e : p ≡ page = omega (arith, in_word, at) in grind (arith, nat_tests)) in
            word ∙ ap (is_set new) at ∙ is ∙ sym (ap (λ b. if b then now else bit_in words p) test)
        | inr beside ↦
            let test : (page == p) ≡ false = (let e : p ≢ page = λ w. beside (ap (λ q. q % 64) w) in grind (arith, nat_tests)) in
            word
            ∙ ap (λ n. n == 1) (same (p % 64) (omega arith) beside)
            ∙ ap (λ k. is_set (slice_index words k) (p % 64)) (sym in_word)
            ∙ sym (ap (λ b. if b then now else bit_in words p) test)
      ]
  | inr apart ↦
      let test : (page == p) ≡ false = (let e : p ≢ page = λ w. apart (ap (λ q. q / 64) w) in grind (arith, nat_tests)) in
      let kept : slice_index (set words (page / 64) new) (p / 64) ≡ slice_index words (p / 64) = rw get_or-set_other refl in
      ap (λ w. is_set w (p % 64)) kept ∙ sym (ap (λ b. if b then now else bit_in words p) test)
]
