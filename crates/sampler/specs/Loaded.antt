-- The checks of picks by the marks of their pages.
use Rattle.std.specs.Prelude.{ℕ, ◌+◌, Bool, false, List, ◌++◌, count_by, drop, map, slice_index_or, take}

-- the mark of a page, false for a page that has none
abbrev pub mark_of : List Bool → ℕ → Bool
mark_of marks page = slice_index_or marks page false

-- the n picks that begin with pick `from`
abbrev pub next_picks : List ℕ → ℕ → ℕ → List ℕ
next_picks picks from n = take n (drop from picks)

-- the bits after the checks of n picks that begin with pick `from`: each of these has the mark of its page
abbrev pub loaded_bits : List Bool → List ℕ → ℕ → ℕ → List Bool → List Bool
loaded_bits marks picks from n bits =
    take from bits ++ map (mark_of marks) (next_picks picks from n) ++ drop (from + n) bits

-- how many of these checks are hits
abbrev pub loaded_hits : List Bool → List ℕ → ℕ → ℕ → ℕ
loaded_hits marks picks from n = count_by (mark_of marks) (next_picks picks from n)
