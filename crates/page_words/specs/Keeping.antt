-- Internal to the proofs: what each atomic step must show. Whatever the words and the other views are at that moment, the
-- step keeps the rule and tells its seat the fact that is stated here. `id` is the number of the seat, and `me` its view
-- with its slots, of which there are none.
use Rattle.std.specs.Prelude.{◌≡◌, ℕ, ◌*◌, [], bit_or}
use Rattle.atomic_table.specs.Table.{Me, Allows, Splits, Joins}
use Rattle.page_words.specs.declared.view.Entry.TheVariants.{Clear, Load}
use Rattle.page_words.specs.declared.view.View.{View}
use Rattle.page_words.specs.declared.view.View.TheVariants.{Toucher, Spent}
use Rattle.page_words.specs.Clears.{pass_of}
use Rattle.page_words.specs.Rule.{WordRule}
use Rattle.page_words.specs.Steps.{after_touch, with_entry, after_split, after_gather, Finds}
use Rattle.page_words.specs.Views.{TagsRiseIn}

-- the lowest bit of the page's word is set, and the touch is tagged with the pass that the word named
abbrev pub TouchKeeps : {S : Type 0} → ℕ → ℕ → ℕ → Me S View → ℕ → Type 0
TouchKeeps pages slots id me page =
    Allows (WordRule pages) slots id me page (λ word. bit_or word 1)
    (λ found after. (after ≡ (after_touch me.0 page (pass_of found), me.1)) × TagsRiseIn after.0)

-- the page's word becomes twice the pass
abbrev pub ClearKeeps : {S : Type 0} → ℕ → ℕ → ℕ → Me S View → ℕ → ℕ → Type 0
ClearKeeps pages slots id me page pass =
    Allows (WordRule pages) slots id me page (λ word. 2 * pass)
    (λ found after. (after ≡ (with_entry me.0 (Clear page (pass_of (2 * pass))), me.1)) × Finds me.0 page found)

-- the page's word stays
abbrev pub LoadKeeps : {S : Type 0} → ℕ → ℕ → ℕ → Me S View → ℕ → Type 0
LoadKeeps pages slots id me page =
    Allows (WordRule pages) slots id me page (λ word. word)
    (λ found after. (after ≡ (with_entry me.0 (Load page found), me.1)) × Finds me.0 page found)

-- a touch view of this worker is added to the views
abbrev pub SplitKeeps : Type 0 → ℕ → ℕ → View → ℕ → Type 0
SplitKeeps S pages id view worker = Splits {S = S} (WordRule pages) id view (after_split view) (Toucher worker [])

-- the monitor's view takes in another seat's, which is spent
abbrev pub GatherKeeps : Type 0 → ℕ → ℕ → View → ℕ → View → Type 0
GatherKeeps S pages id view other gathered =
    Joins {S = S} (WordRule pages) id view other gathered (after_gather view gathered) Spent
