-- The value of decimal digits only grows.
use Rattle.std.proofs.Common.{◌≡◌, ℕ, ◌+◌, ◌-◌, ◌*◌, ◌≤◌, ◌<◌, List, [], ◌∷◌, length, drop, get_or, suc, None, ap, ◌∙◌, arith}
use Rattle.std.proofs.Math.Seq.{drop-cons}
use Rattle.std.proofs.lemmas.Bool.Decides.{nat_tests}
use Rattle.std.specs.Str.{all_ascii_digits}
use Rattle.line_text.specs.Number.{value_on, digits_up_to, with_digit_up_to}

pub value_grows : (n : ℕ) (bs : List ℕ) → n ≤ value_on n bs
value_grows n [] = omega arith
value_grows n (c ∷ cs) = omega (arith, value_grows (10 * n + (c - 48)) cs)

no_more : (most n c : ℕ) (cs word : List ℕ) → value_on 0 word ≡ value_on n (c ∷ cs) → all_ascii_digits word ≡ all_ascii_digits (c ∷ cs)
    → with_digit_up_to most n c ≡ None → None ≡ digits_up_to most word
no_more most n c cs word value digits none =
    let grown = value_grows (10 * n + (c - 48)) cs in grind (arith, nat_tests)

-- where the next byte is no digit or takes the number above the limit, the word spells no number
pub no_number : (most n i : ℕ) (word : List ℕ) → i < length word → value_on 0 word ≡ value_on n (drop i word)
    → all_ascii_digits word ≡ all_ascii_digits (drop i word) → with_digit_up_to most n (get_or word i 0) ≡ None
    → None ≡ digits_up_to most word
no_number most n i word here value digits none =
    let next = drop-cons word i 0 here in
    no_more most n (get_or word i 0) (drop (suc i) word) word (value ∙ ap (value_on n) next) (digits ∙ ap all_ascii_digits next) none
