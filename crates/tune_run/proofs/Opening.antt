-- The tuner of a setup is that of the opening.
use Rattle.std.proofs.Common.{◌≡◌, ℕ, List, [], ◌∷◌, Option, Some, None, refl, sym, ap, ap₂, ◌∙◌}
use Rattle.std.specs.Prelude.{IsSome, filter_map}
use Rattle.std.specs.List.{AllByRecursion}
use Rattle.std.proofs.lemmas.List.Elements.{recursion_from_All}
use mathlib.Core.List.{reverse_aux}
use Rattle.damon_types.specs.declared.scheme.Scheme.{Scheme}
use Rattle.damon_types.specs.declared.scheme.SlotChange.{SlotChange}
use Rattle.damon_core.specs.Note.{Note, set}
use Rattle.damon_core.specs.Slots.{slot_count}
use Rattle.damon_core.specs.State.{opening}
use Rattle.live_commit.specs.Setup.{IsSetup, SetupValue}
use Rattle.quota_goal.specs.declared.goals.Goal.{Goal}
use Rattle.quota_goal.specs.Tuned.{TunerView, all_given, given, untuned}
use Rattle.tune_run.specs.Callbacks.{tuner_in}
use Rattle.tune_run.specs.Tops.{tops_of}
use Rattle.tune_run.proofs.Slots.{schemes_of, slot_changed, tops_set}
use Rattle.damon_core.proofs.Lemmas.{set_note}

-- the tuner of notes that only a setup made
abbrev tuner_of : List Goal → List Note → TunerView
tuner_of goals notes = record { goals = goals; schemes = schemes_of notes; tops = tops_of notes }

pub none_set : (goals : List Goal) → untuned goals ≡ tuner_of goals []
unfolding slot_count
none_set goals = refl

one_set : (goals : List Goal) (slot : ℕ) (scheme : Scheme) (notes : List Note)
    → given (record { slot = slot; scheme = Some scheme }) (tuner_of goals notes) ≡ tuner_of goals (set slot scheme ∷ notes)
one_set goals slot scheme notes =
    ap₂ (λ (schemes : List (Option Scheme)) (tops : List ℕ). record { goals = goals; schemes = schemes; tops = tops })
    (sym (slot_changed notes slot (Some scheme))) (sym (tops_set slot scheme notes))

all_set : (goals : List Goal) (changes : List SlotChange) (notes : List Note) → AllByRecursion (λ (c : SlotChange). IsSome c.scheme) changes
    → all_given changes (tuner_of goals notes) ≡ tuner_of goals (reverse_aux (filter_map set_note changes) notes)
all_set goals [] notes each = refl
all_set goals (c ∷ changes) notes each = by_scheme c.slot c.scheme each.0 (λ earlier. all_set goals changes earlier each.1)
  where
    by_scheme : (slot : ℕ) (scheme : Option Scheme) → IsSome scheme
        → ((earlier : List Note) → all_given changes (tuner_of goals earlier) ≡ tuner_of goals (reverse_aux (filter_map set_note changes) earlier))
        → all_given changes (given (record { slot = slot; scheme = scheme }) (tuner_of goals notes))
        ≡ tuner_of goals (reverse_aux (filter_map set_note (record { slot = slot; scheme = scheme } ∷ changes)) notes)
    by_scheme slot None is rest = absurd (cc is)
    by_scheme slot (Some scheme) is rest = ap (all_given changes) (one_set goals slot scheme notes) ∙ rest (set slot scheme ∷ notes)

pub opening_tuner : (goals : List Goal) (v : SetupValue) → IsSetup v
    → all_given v.slots (untuned goals) ≡ tuner_in goals (tops_of (opening v).notes) (opening v)
opening_tuner goals v sound =
    ap (all_given v.slots) (none_set goals)
    ∙ all_set goals v.slots [] (recursion_from_All (λ (c : SlotChange). IsSome c.scheme) v.slots sound.set)
