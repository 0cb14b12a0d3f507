-- What has happened to a monitor and its pages.
use Rattle.std.specs.Prelude.{ℕ, ◌+◌, ◌*◌, Bool, false, ◌&&◌, ◌||◌, ◌==◌, List, [], ◌∷◌, ◌++◌, if◌then◌else◌, cond}
use Rattle.damon_types.specs.Span.{Span}
use Rattle.damon_types.specs.declared.scheme.Scheme.{Scheme}
use Rattle.scheme_engine.specs.declared.applied.AppliedRun.{AppliedRun}

-- one thing that has happened; a list of notes has the newest first; a cost is a time that was measured for a slot, in nanoseconds
pub data Note : Type 0 where
  touched : (page : ℕ) → Note
  cleared : (pass index page : ℕ) → Note
  checked : (pass index page : ℕ) → (hit : Bool) → Note
  finished : (pass : ℕ) → (rows : List Span) → Note
  voided : (pass : ℕ) → Note
  set : (slot : ℕ) → (scheme : Scheme) → Note
  dropped : (slot : ℕ) → Note
  metric : (value : ℕ) → Note
  turned : (slot tick : ℕ) → Note
  ran : (slot tick tried : ℕ) → (runs : List AppliedRun) → (exceeds : Bool) → Note
  cost : (slot nanos : ℕ) → Note

-- the pass that cleared the page last, 0 where none did
abbrev pub last_clear : List Note → ℕ → ℕ
last_clear [] page = 0
last_clear (cleared n k p ∷ earlier) page = if p == page then n else last_clear earlier page
last_clear (_ ∷ earlier) page = last_clear earlier page

-- whether the page was ever cleared
abbrev pub is_cleared : List Note → ℕ → Bool
is_cleared [] page = false
is_cleared (cleared n k p ∷ earlier) page = (p == page) || is_cleared earlier page
is_cleared (_ ∷ earlier) page = is_cleared earlier page

-- whether the page was touched since it was cleared last, or ever where it was not
abbrev pub is_touched : List Note → ℕ → Bool
is_touched [] page = false
is_touched (touched p ∷ earlier) page = (p == page) || is_touched earlier page
is_touched (cleared n k p ∷ earlier) page = if p == page then false else is_touched earlier page
is_touched (_ ∷ earlier) page = is_touched earlier page

-- whether a load of the page is a hit: it was cleared, and touched since
abbrev pub hit : List Note → ℕ → Bool
hit notes page = is_cleared notes page && is_touched notes page

-- the word of the page: the pass that cleared it last, and whether it was touched since
abbrev pub word_of : List Note → ℕ → ℕ
word_of notes page = 2 * last_clear notes page + cond (is_touched notes page) 1 0

-- the clears of a pass, each with its index and its page, in the order in which they were made
abbrev pub clears_of : List Note → ℕ → List (ℕ × ℕ)
clears_of [] pass = []
clears_of (cleared n k p ∷ earlier) pass = if n == pass then clears_of earlier pass ++ (k, p) ∷ [] else clears_of earlier pass
clears_of (_ ∷ earlier) pass = clears_of earlier pass

-- the checks of a pass in the same way
abbrev pub checks_of : List Note → ℕ → List (ℕ × ℕ)
checks_of [] pass = []
checks_of (checked n k p hit ∷ earlier) pass = if n == pass then checks_of earlier pass ++ (k, p) ∷ [] else checks_of earlier pass
checks_of (_ ∷ earlier) pass = checks_of earlier pass

-- whether check k of the pass was a hit
abbrev pub was_hit : List Note → ℕ → ℕ → Bool
was_hit [] pass k = false
was_hit (checked n j p hit ∷ earlier) pass k = ((n == pass) && ((j == k) && hit)) || was_hit earlier pass k
was_hit (_ ∷ earlier) pass k = was_hit earlier pass k
