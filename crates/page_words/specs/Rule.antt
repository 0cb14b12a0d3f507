-- The rule of the page words.
use Rattle.std.specs.Prelude.{◌≡◌, ℕ, List, length}
use Rattle.atomic_table.specs.Table.{State}
use Rattle.page_words.specs.declared.view.Entry.{Entry}
use Rattle.page_words.specs.declared.view.View.{View}
use Rattle.page_words.specs.Clauses.{HasOneMonitor, WordsNameClears, TagsNameClears, OddWordsHaveTouches, TouchesMakeOdd, LoadsFindClears, LoadsFindToldTouches, TagsNeverFall}
use Rattle.page_words.specs.Views.{IsKnown}

-- the words, the monitor's entries and the known touches agree
pub record Agree (words : List ℕ) (entries : List Entry) (Known : ℕ → ℕ → Type 0) : Type 0 where
  pub clears : WordsNameClears words entries
  pub tags : TagsNameClears entries Known
  pub odd : OddWordsHaveTouches words Known
  pub touched : TouchesMakeOdd words entries Known
  pub loads : LoadsFindClears entries Known
  pub told : LoadsFindToldTouches entries

-- the rule: what holds of the words and of all views between any two atomic steps
pub record WordRule {S : Type 0} (pages : ℕ) (state : State S View) : Type 0 where
  pub count : length state.words ≡ pages
  pub entries : List Entry
  pub out : ℕ
  pub monitor : HasOneMonitor state.views entries out
  pub agree : Agree state.words entries (IsKnown state.views)
  pub tags : TagsNeverFall state.views
