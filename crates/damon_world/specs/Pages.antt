-- The pages of one thread.
use Rattle.std.specs.Prelude.{◌≡◌, ℕ, zero, suc, ◌+◌, ◌-◌, ◌*◌, ◌/◌, ◌≤◌, ◌<◌, Bool, true, false, ◌==◌, ◌||◌, List, [], ◌∷◌, length, slice_index, refl, if◌then◌else◌}
use Rattle.sampler.specs.Loaded.{mark_of}
use Rattle.page_bits.specs.Bits.{bit_in}
use Rattle.page_bits.specs.Runs.{in_run}
use Rattle.page_bits.specs.Sets.{each_page}
use Rattle.damon_core.specs.Note.{Note, is_touched, last_clear}

-- The mark of each page: whether it was touched since it was cleared last, or ever. And the tag of each page, or of none: the pass that cleared it last.
pub record PagesView : Type 0 where
  pub marks : List Bool
  pub tags : List ℕ

-- the first `count` pages have the marks that the notes give, and those that have tags have the tags
pub record ArePagesOf (pages : PagesView) (notes : List Note) (count : ℕ) : Type 0 where
  pub marks : (p : ℕ) → p < count → mark_of pages.marks p ≡ is_touched notes p
  pub tags : (p : ℕ) → p < length pages.tags → slice_index pages.tags p ≡ last_clear notes p

-- the n pages from `from` on are touched, and all else is as before
pub record AreTouched (from n : ℕ) (old new : PagesView) : Type 0 where
  pub len : length new.marks ≡ length old.marks
  pub marks : (p : ℕ) → p < length old.marks → mark_of new.marks p ≡ (if in_run from n p then true else mark_of old.marks p)
  pub tags : new.tags ≡ old.tags

-- whether a page is one of the n picks that begin with pick `from`
abbrev pub is_picked : List ℕ → ℕ → ℕ → ℕ → Bool
is_picked picks from zero page = false
is_picked picks from (suc n) page = slice_index picks (from + n) == page || is_picked picks from n page

-- this pass clears the n picks that begin with pick `from`, and all else is as before
pub record AreCleared (picks : List ℕ) (from n pass : ℕ) (old new : PagesView) : Type 0 where
  pub len : length new.marks ≡ length old.marks
  pub marks : (p : ℕ) → p < length old.marks → mark_of new.marks p ≡ (if is_picked picks from n p then false else mark_of old.marks p)
  pub tagged : length new.tags ≡ length old.tags
  pub tags : (p : ℕ) → p < length old.tags → slice_index new.tags p ≡ (if is_picked picks from n p then pass else slice_index old.tags p)

-- How they are stored. Only proofs need what follows.

-- the pages of the picks from `from` to before `to` have a bit each in this many words
pub record HaveBits (picks : List ℕ) (from to words : ℕ) : Type 0 where
  pub order : from ≤ to
  pub within : to ≤ length picks
  pub pages : (k : ℕ) → k < to → slice_index picks k / 64 < words

-- the bits of the pages of the n picks that begin with pick `from` are cleared, and all else is as before
pub record AreBitsCleared (picks : List ℕ) (from n : ℕ) (old new : List ℕ) : Type 0 where
  pub len : length new ≡ length old
  pub bits : (p : ℕ) → bit_in new p ≡ (if is_picked picks from n p then false else bit_in old p)

-- whether a page is marked: it was swept, from page `from` to before page `to`, or its bit is 1
abbrev pub is_marked : List ℕ → ℕ → ℕ → ℕ → Bool
is_marked words from to p = if in_run from (to - from) p then true else bit_in words p

-- the marks of this many pages, by their bits and the run that was swept
abbrev pub marks_of : ℕ → List ℕ → ℕ → ℕ → List Bool
marks_of pages words from to = each_page pages (is_marked words from to)

-- of four pages, the first has its bit set, the second and third were swept, and the fourth was not touched
touched_or_swept : marks_of 4 (1 ∷ []) 1 3 ≡ true ∷ true ∷ true ∷ false ∷ []
touched_or_swept = refl

-- there is room for a bit of each page, and none of them are written yet or all are
pub record HaveRoomForBits (pages : ℕ) (words : List ℕ) (capacity : ℕ) : Type 0 where
  pub room : pages ≤ 64 * capacity
  pub written : 0 < length words → pages ≤ 64 * length words

-- there is room for the bits, the run that was swept is of the pages, and there is a tag for each or for none
pub record IsStored (pages : ℕ) (words : List ℕ) (capacity from to : ℕ) (tags : List ℕ) : Type 0 where
  pub bits : HaveRoomForBits pages words capacity
  pub order : from ≤ to
  pub within : to ≤ pages
  pub tagged : 0 < length tags → length tags ≡ pages
