-- The bits of pages.
use Rattle.std.specs.Prelude.{◌≡◌, ℕ, ◌/◌, ◌%◌, Bool, ◌==◌, List, slice_index}
use Rattle.std.specs.Int.{bit_at}
use Rattle.page_bits.specs.declared.last_word.LastWord.{LastWord}

-- whether bit i of a word is 1
abbrev pub is_set : ℕ → ℕ → Bool
is_set word i = bit_at word i == 1

-- whether the bit of a page is 1, of 64 in each word
abbrev pub bit_in : List ℕ → ℕ → Bool
bit_in words page = is_set (slice_index words (page / 64)) (page % 64)

-- the word that was changed last stands in the list like this
abbrev pub IsLast : List ℕ → LastWord → Type 0
IsLast words last = slice_index words last.index ≡ last.word
