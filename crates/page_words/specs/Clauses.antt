-- The clauses of the rule of the page words, each under a name. `Known page tag` says that some view holds the touch of
-- this page with this tag.
use Rattle.std.specs.Prelude.{◌≡◌, ℕ, ◌≤◌, ◌⊎◌, List, ◌∷◌, ◌++◌, slice_index}
use Rattle.std.specs.List.{All, AllPairs, Contains, count_by}
use Rattle.page_words.specs.declared.view.Entry.{Entry}
use Rattle.page_words.specs.declared.view.Entry.TheVariants.{Load}
use Rattle.page_words.specs.declared.view.View.{View}
use Rattle.page_words.specs.declared.view.View.TheVariants.{Monitor}
use Rattle.page_words.specs.Clears.{pass_of, IsOdd, clear_passes, clear_passes_of, last_clear_of, IsSingle}
use Rattle.page_words.specs.Views.{Told, IsAmong, TagsRiseIn, is_monitor, is_toucher}

-- exactly one view is the monitor's: it has these entries, and `out` is the number of touch views
pub record HasOneMonitor (views : List View) (entries : List Entry) (out : ℕ) : Type 0 where
  pub one : count_by is_monitor views ≡ 1
  pub view : IsAmong views (Monitor entries out)
  pub touchers : count_by is_toucher views ≡ out

-- each word names the last clear of its page, and the passes of clears are at least 1 and never fall
abbrev pub WordsNameClears : List ℕ → List Entry → Type 0
WordsNameClears words entries =
    ((page : ℕ) → pass_of (slice_index words page) ≡ last_clear_of page entries)
    × All (λ pass. 1 ≤ pass) (clear_passes entries)
    × AllPairs (λ pass later. pass ≤ later) (clear_passes entries)

-- the tag of each touch is 0, or a pass in which its page was cleared
abbrev pub TagsNameClears : List Entry → (ℕ → ℕ → Type 0) → Type 0
TagsNameClears entries Known = (page tag : ℕ) → Known page tag → (tag ≡ 0) ⊎ Contains (clear_passes_of page entries) tag

-- where a word is odd, some view holds a touch of its page whose tag is the pass that the word names
abbrev pub OddWordsHaveTouches : List ℕ → (ℕ → ℕ → Type 0) → Type 0
OddWordsHaveTouches words Known =
    (page : ℕ) → IsOdd (slice_index words page) → Known page (pass_of (slice_index words page))

-- where some view holds that touch and the page was cleared in that pass only once, the word is odd
abbrev pub TouchesMakeOdd : List ℕ → List Entry → (ℕ → ℕ → Type 0) → Type 0
TouchesMakeOdd words entries Known =
    (page : ℕ) → Known page (pass_of (slice_index words page)) → IsSingle page (pass_of (slice_index words page)) entries
    → IsOdd (slice_index words page)

-- the entries before one of the entries, in order
abbrev pub AreBefore : List Entry → List Entry → Entry → Type 0
AreBefore entries before entry = (after : List Entry) × (entries ≡ before ++ entry ∷ after)

-- the word of each load names the last clear of its page before the load, and where it is odd, some view holds a touch of
-- the page with that tag
abbrev pub LoadsFindClears : List Entry → (ℕ → ℕ → Type 0) → Type 0
LoadsFindClears entries Known =
    (before : List Entry) (page word : ℕ) → AreBefore entries before (Load page word)
    → (pass_of word ≡ last_clear_of page before) × (IsOdd word → Known page (pass_of word))

-- where a list with a touch of the page and the tag that the load's word names was gathered before the load, and the page
-- was cleared in that pass only once, the word is odd
abbrev pub LoadsFindToldTouches : List Entry → Type 0
LoadsFindToldTouches entries =
    (before : List Entry) (page word : ℕ) → AreBefore entries before (Load page word)
    → Told before page (pass_of word) → IsSingle page (pass_of word) entries → IsOdd word

-- in each list of touches the tags of one page never fall
abbrev pub TagsNeverFall : List View → Type 0
TagsNeverFall views = (view : View) → IsAmong views view → TagsRiseIn view
