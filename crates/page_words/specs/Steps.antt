-- What each atomic step makes of its seat's view, and what it tells. Public contracts cite `ShowsTold` alone; the rest is
-- internal to the proofs.
use Rattle.std.specs.Prelude.{◌≡◌, ℕ, ◌+◌, ◌-◌, List, [], ◌∷◌, ◌++◌}
use Rattle.page_words.specs.declared.view.Entry.{Entry}
use Rattle.page_words.specs.declared.view.Entry.TheVariants.{Gathered}
use Rattle.page_words.specs.declared.view.View.{View}
use Rattle.page_words.specs.declared.view.View.TheVariants.{Toucher, Monitor, Spent}
use Rattle.page_words.specs.Clears.{pass_of, IsOdd, last_clear_of, IsSingle}
use Rattle.page_words.specs.Views.{touch, Told}

-- a touch view after a touch
abbrev pub after_touch : View → ℕ → ℕ → View
after_touch (Toucher worker touches) page tag = Toucher worker (touches ++ touch page tag ∷ [])
after_touch (Monitor entries out) page tag = Monitor entries out
after_touch Spent page tag = Spent

-- a view with one more entry, where it is the monitor's
abbrev pub with_entry : View → Entry → View
with_entry (Toucher worker touches) entry = Toucher worker touches
with_entry (Monitor entries out) entry = Monitor (entries ++ entry ∷ []) out
with_entry Spent entry = Spent

-- the monitor's view after a seat was split off
abbrev pub after_split : View → View
after_split (Toucher worker touches) = Toucher worker touches
after_split (Monitor entries out) = Monitor entries (out + 1)
after_split Spent = Spent

-- the monitor's view after it gathered a touch view
abbrev pub after_gather : View → View → View
after_gather (Monitor entries out) (Toucher worker touches) = Monitor (entries ++ Gathered worker touches ∷ []) (out - 1)
after_gather (Monitor entries out) (Monitor others n) = Monitor entries out
after_gather (Monitor entries out) Spent = Monitor entries out
after_gather (Toucher worker touches) gathered = Toucher worker touches
after_gather Spent gathered = Spent

-- the word shows a touch that was gathered: where a gathered list holds a touch of the page with the word's pass as its
-- tag, and the page was cleared in that pass only once, the word is odd
abbrev pub ShowsTold : List Entry → ℕ → ℕ → Type 0
ShowsTold entries page word = Told entries page (pass_of word) → IsSingle page (pass_of word) entries → IsOdd word

-- what the monitor finds in the word of a page
abbrev pub Finds : View → ℕ → ℕ → Type 0
Finds (Toucher worker touches) page word = Unit {0}
Finds (Monitor entries out) page word = (pass_of word ≡ last_clear_of page entries) × ShowsTold entries page word
Finds Spent page word = Unit {0}
