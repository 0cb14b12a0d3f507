-- The touches that views hold.
use Rattle.std.specs.Prelude.{◌≡◌, ℕ, ◌≤◌, Bool, true, false, List}
use Rattle.std.specs.List.{Contains, AllPairs}
use mathlib.Core.Option.{some}
use lib.ListN.{get_elem?}
use Rattle.page_words.specs.declared.view.Touch.{Touch}
use Rattle.page_words.specs.declared.view.Entry.{Entry}
use Rattle.page_words.specs.declared.view.Entry.TheVariants.{Gathered}
use Rattle.page_words.specs.declared.view.View.{View}
use Rattle.page_words.specs.declared.view.View.TheVariants.{Toucher, Monitor, Spent}

-- the touch of a page with a tag
abbrev pub touch : ℕ → ℕ → Touch
touch page tag = record { page = page; tag = tag }

-- a list that was gathered holds the touch
abbrev pub Told : List Entry → ℕ → ℕ → Type 0
Told entries page tag = (worker : ℕ) × (touches : List Touch) × Contains entries (Gathered worker touches) × Contains touches (touch page tag)

-- the view holds the touch: a touch view in its list, the monitor's view in a gathered list
abbrev pub Holds : View → ℕ → ℕ → Type 0
Holds (Toucher worker touches) page tag = Contains touches (touch page tag)
Holds (Monitor entries out) page tag = Told entries page tag
Holds Spent page tag = ⊥

-- the view is one of these
abbrev pub IsAmong : List View → View → Type 0
IsAmong views view = (seat : ℕ) × (get_elem? views seat ≡ some view)

-- some view holds the touch
abbrev pub IsKnown : List View → ℕ → ℕ → Type 0
IsKnown views page tag = (view : View) × IsAmong views view × Holds view page tag

-- the tags of one page never fall
abbrev pub TagsRise : List Touch → Type 0
TagsRise touches = AllPairs (λ t u. t.page ≡ u.page → t.tag ≤ u.tag) touches

-- in each list that was gathered the tags of one page never fall
abbrev pub GatheredTagsRise : List Entry → Type 0
GatheredTagsRise entries = (worker : ℕ) (touches : List Touch) → Contains entries (Gathered worker touches) → TagsRise touches

-- in each list of the view the tags of one page never fall
abbrev pub TagsRiseIn : View → Type 0
TagsRiseIn (Toucher worker touches) = TagsRise touches
TagsRiseIn (Monitor entries out) = GatheredTagsRise entries
TagsRiseIn Spent = Unit {0}

-- the view is the monitor's
abbrev pub is_monitor : View → Bool
is_monitor (Toucher worker touches) = false
is_monitor (Monitor entries out) = true
is_monitor Spent = false

-- the view is that of a touch seat
abbrev pub is_toucher : View → Bool
is_toucher (Toucher worker touches) = true
is_toucher (Monitor entries out) = false
is_toucher Spent = false
