-- The pass that a word names, and the passes in which pages were cleared.
use Rattle.std.specs.Prelude.{◌≡◌, ℕ, ◌/◌, ◌%◌, ◌≤◌, ◌==◌, List, [], ◌∷◌, if◌then◌else◌}
use Rattle.std.specs.List.{count_by, flat_map}
use Rattle.page_words.specs.declared.view.Entry.{Entry}
use Rattle.page_words.specs.declared.view.Entry.TheVariants.{Clear, Load, Gathered}

-- the pass that a word names
abbrev pub pass_of : ℕ → ℕ
pass_of word = word / 2

-- the word says that its page was touched since
abbrev pub IsOdd : ℕ → Type 0
IsOdd word = word % 2 ≡ 1

-- the pass of a clear, as a list of one; other entries have none
abbrev pub clear_in : Entry → List ℕ
clear_in (Clear page pass) = pass ∷ []
clear_in (Load page word) = []
clear_in (Gathered worker touches) = []

-- the passes of all clears, in order
abbrev pub clear_passes : List Entry → List ℕ
clear_passes entries = flat_map clear_in entries

-- the pass of a clear of this page, as a list of one; other entries have none
abbrev pub clear_of : ℕ → Entry → List ℕ
clear_of page (Clear cleared pass) = if cleared == page then pass ∷ [] else []
clear_of page (Load loaded word) = []
clear_of page (Gathered worker touches) = []

-- the passes in which a page was cleared, in order
abbrev pub clear_passes_of : ℕ → List Entry → List ℕ
clear_passes_of page entries = flat_map (clear_of page) entries

-- the last of some numbers, 0 where there is none
abbrev pub last_of : List ℕ → ℕ
last_of [] = 0
last_of (n ∷ []) = n
last_of (n ∷ m ∷ ns) = last_of (m ∷ ns)

-- the pass of the last clear, 0 where there is none
abbrev pub last_clear_pass : List Entry → ℕ
last_clear_pass entries = last_of (clear_passes entries)

-- the pass that last cleared a page, 0 where none did
abbrev pub last_clear_of : ℕ → List Entry → ℕ
last_clear_of page entries = last_of (clear_passes_of page entries)

-- the page was cleared at most once in this pass
abbrev pub IsSingle : ℕ → ℕ → List Entry → Type 0
IsSingle page pass entries = count_by (λ p. p == pass) (clear_passes_of page entries) ≤ 1
