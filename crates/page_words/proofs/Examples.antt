-- The definitions at a few values.
use Rattle.std.proofs.Common.{◌≡◌, List, [], ◌∷◌, refl, arith}
use Rattle.page_words.specs.declared.view.Entry.{Entry}
use Rattle.page_words.specs.declared.view.Entry.TheVariants.{Clear, Load, Gathered}
use Rattle.page_words.specs.declared.view.View.TheVariants.{Toucher, Monitor}
use Rattle.page_words.specs.Clears.{pass_of, IsOdd, clear_passes, clear_passes_of, last_clear_of, last_clear_pass, IsSingle}
use Rattle.page_words.specs.Views.{touch, Told}
use Rattle.page_words.specs.Steps.{after_touch, after_gather}

word_of_pass_three : (pass_of 7 ≡ 3) × (pass_of 6 ≡ 3) × IsOdd 7
word_of_pass_three = (refl, refl, refl)

-- page 0 is cleared in passes 1 and 3, page 5 in pass 2
abbrev some_entries : List Entry
some_entries = Clear 0 1 ∷ Load 0 3 ∷ Clear 5 2 ∷ Clear 0 3 ∷ Gathered 4 (touch 0 1 ∷ []) ∷ Load 5 4 ∷ []

last_clears : (last_clear_of 0 some_entries ≡ 3) × (last_clear_of 5 some_entries ≡ 2) × (last_clear_of 1 some_entries ≡ 0) × (last_clear_pass some_entries ≡ 3)
last_clears = (refl, refl, refl, refl)

all_clears : (clear_passes some_entries ≡ 1 ∷ 2 ∷ 3 ∷ []) × (clear_passes_of 0 some_entries ≡ 1 ∷ 3 ∷ [])
all_clears = (refl, refl)

single_and_twice : IsSingle 0 1 some_entries × ((IsSingle 0 1 (Clear 0 1 ∷ Clear 0 1 ∷ [])) → ⊥)
single_and_twice = (omega arith, λ two. omega arith)

told_touch : Told some_entries 0 1
told_touch = (4, touch 0 1 ∷ [], (4, omega arith, refl), (0, omega arith, refl))

touch_at_the_end : after_touch (Toucher 4 (touch 0 1 ∷ [])) 5 2 ≡ Toucher 4 (touch 0 1 ∷ touch 5 2 ∷ [])
touch_at_the_end = refl

gathered_at_the_end : after_gather (Monitor (Clear 0 1 ∷ []) 2) (Toucher 4 (touch 0 1 ∷ [])) ≡ Monitor (Clear 0 1 ∷ Gathered 4 (touch 0 1 ∷ []) ∷ []) 1
gathered_at_the_end = refl
