-- The schemes and the tops of all slots, by the notes.
use Rattle.std.proofs.Common.{◌≡◌, ℕ, ◌<◌, true, false, List, ◌∷◌, length, map, set as put, get_or, Option, Some, None, refl, sym, ap, ◌∙◌, arith}
use Rattle.std.specs.Prelude.{◌==◌, if◌then◌else◌}
use Rattle.std.specs.List.{range_with_len}
use Rattle.std.proofs.lemmas.Bool.Decides.{nat_tests}
use Rattle.std.proofs.lemmas.Grind.{get_or-set_at}
use Rattle.std.proofs.lemmas.List.{get_or-set_other, length-set}
use Rattle.std.proofs.lemmas.List.FromFn.{fill_by_all, get_or-map-range_with_len, length-map-range_with_len}
use Rattle.damon_types.specs.declared.scheme.CostPart.{CostPart}
use Rattle.damon_types.specs.declared.scheme.Scheme.{Scheme}
use Rattle.live_commit.specs.Commit.{CommitValue}
use Rattle.damon_core.specs.Commit.{committed_notes}
use Rattle.damon_core.specs.Note.{Note, set}
use Rattle.damon_core.specs.Slots.{scheme_of, slot_count}
use Rattle.damon_core.proofs.Lemmas.{with_cost, with_metric, with_slot}
use Rattle.quota_goal.specs.declared.goals.Goal.{Goal}
use Rattle.quota_goal.specs.Tuned.{TunerView, top_after}
use Rattle.tune_run.specs.Tops.{top_of, tops_of}

pub count_is : slot_count ≡ 16
unfolding slot_count
count_is = refl

-- the tuner with these goals and tops, and these schemes by slot
abbrev pub tuner_by : List Goal → List ℕ → (ℕ → Option Scheme) → TunerView
tuner_by goals tops scheme = record { goals = goals; schemes = map scheme (range_with_len 0 slot_count); tops = tops }

-- the schemes of all slots
abbrev pub schemes_of : List Note → List (Option Scheme)
schemes_of notes = map (scheme_of notes) (range_with_len 0 slot_count)

-- the list over all slots once one slot has another value
one_slot : {X : Type 0} (d : X) (f : ℕ → X) (i : ℕ) (x : ℕ → X) (y : X) → (i < slot_count → x i ≡ y)
    → map (λ j. if i == j then x j else f j) (range_with_len 0 slot_count) ≡ put (map f (range_with_len 0 slot_count)) i y
one_slot {X} d f i x y is = sym (fill_by_all (λ j. if i == j then x j else f j) (put old i y) slot_count d (length-set old i y ∙ size) at)
  where
    old : List X
    old = map f (range_with_len 0 slot_count)

    size : length old ≡ slot_count
    size = length-map-range_with_len f 0 slot_count

    at : (k : ℕ) → k < slot_count → get_or (put old i y) k d ≡ (if i == k then x k else f k)
    at k below =
        (elim (i == k) as (λ b. (i == k) ≡ b → get_or (put old i y) k d ≡ (if b then x k else f k)) [
          | true ↦ λ test.
              let same : k ≡ i = grind (arith, nat_tests) in
              get_or-set_at old i k y d same (omega (arith, size)) ∙ sym (is (omega arith)) ∙ ap x (sym same)
          | false ↦ λ test.
              get_or-set_other old i k y d (λ e. grind (arith, nat_tests)) ∙ get_or-map-range_with_len f 0 slot_count k k d below (omega arith)
        ]) refl

-- the schemes after a slot change, and the tops after a slot is set
pub slot_changed : (notes : List Note) (i : ℕ) (scheme : Option Scheme)
    → schemes_of (with_slot (Some (record { slot = i; scheme = scheme })) notes) ≡ put (schemes_of notes) i scheme
slot_changed notes i None = one_slot None (scheme_of notes) i (λ j. None) None (λ below. refl)
slot_changed notes i (Some scheme) = one_slot None (scheme_of notes) i (λ j. Some scheme) (Some scheme) (λ below. refl)

pub tops_set : (i : ℕ) (scheme : Scheme) (notes : List Note)
    → tops_of (set i scheme ∷ notes) ≡ put (tops_of notes) i (top_after (Some scheme) (get_or (tops_of notes) i 0))
tops_set i scheme notes =
    one_slot 0 (top_of notes) i (λ j. top_after (Some scheme) (top_of notes j)) (top_after (Some scheme) (get_or (tops_of notes) i 0))
    (λ below. ap (top_after (Some scheme)) (sym (get_or-map-range_with_len (top_of notes) 0 slot_count i i 0 below (omega arith))))

pub scheme_is : (notes : List Note) (i : ℕ) → i < slot_count → get_or (schemes_of notes) i None ≡ scheme_of notes i
scheme_is notes i below = get_or-map-range_with_len (scheme_of notes) 0 slot_count i i None below (omega arith)

-- of a commit that is accepted only its slot change sets or drops a slot
pub only_slot : (parts : CommitValue) (notes : List Note) (i : ℕ) → scheme_of (committed_notes parts notes) i ≡ scheme_of (with_slot parts.slot notes) i
only_slot parts notes i = by_parts parts.metric parts.cost
  where
    by_parts : (measured : Option ℕ) (paid : Option CostPart)
        → scheme_of (with_cost paid (with_metric measured (with_slot parts.slot notes))) i ≡ scheme_of (with_slot parts.slot notes) i
    by_parts None None = refl
    by_parts None (Some part) = refl
    by_parts (Some value) None = refl
    by_parts (Some value) (Some part) = refl
