-- The bits of pages on worked words.
use Rattle.std.specs.Prelude.{◌≡◌, true, false, [], ◌∷◌, refl}
use Rattle.page_bits.specs.Bits.{IsLast, bit_in, is_set}
use Rattle.page_bits.specs.Sets.{with_each}

-- 5 has the bits 0 and 2
first_bit : is_set 5 0 ≡ true
first_bit = refl

second_bit : is_set 5 1 ≡ false
second_bit = refl

-- page 66 has bit 2 of the second word
page_of_second_word : bit_in (0 ∷ 4 ∷ []) 66 ≡ true
page_of_second_word = refl

page_of_first_word : bit_in (0 ∷ 4 ∷ []) 2 ≡ false
page_of_first_word = refl

-- a page without a word has no bit
page_beyond : bit_in (7 ∷ []) 64 ≡ false
page_beyond = refl

-- the second word was changed last, to 4
second_word_is_last : IsLast (7 ∷ 4 ∷ []) (record { index = 1; word = 4 })
second_word_is_last = refl

-- page 1 of four leaves the set, and page 2 comes into it
two_of_four : with_each 1 (false ∷ true ∷ []) (true ∷ true ∷ false ∷ true ∷ []) ≡ true ∷ false ∷ true ∷ true ∷ []
two_of_four = refl
