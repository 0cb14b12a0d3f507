-- Setting the slots of a setup one after another.
use Rattle.std.proofs.Common.{◌≡◌, ℕ, ◌+◌, ◌≤◌, List, [], ◌∷◌, drop, set as put, get_or, Option, Some, None, refl, sym, ap, ◌∙◌}
use Rattle.std.specs.Prelude.{IsSome, filter_map, replicate, reverse}
use Rattle.std.specs.List.{AllByRecursion, cons_option}
use Rattle.std.specs.Option.{option_map}
use mathlib.Core.List.{reverse_aux}
use Rattle.damon_types.specs.declared.scheme.Scheme.{Scheme}
use Rattle.damon_types.specs.declared.scheme.SlotChange.{SlotChange}
use Rattle.damon_types.specs.declared.scheme.TheConstants.{MAX_SLOT}
use Rattle.scheme_engine.specs.declared.slot.TheConstants.{SLOTS}
use Rattle.scheme_engine.specs.Slots.{SlotValue, changed, empty_slot}
use Rattle.damon_core.specs.Note.{Note, set}
use Rattle.damon_core.specs.Slots.{slots_of}
use Rattle.damon_core.specs.Kept.{IsUnused}
use Rattle.damon_core.proofs.SlotFacts.{all_changed, all_replicate, one_of_all, unused_changed, unused_empty}
use Rattle.damon_core.proofs.SlotNotes.{slot_counted_below, slots_of-none, slots_of-set}
use Rattle.damon_core.proofs.NoteParts.{set_note}

-- The slots are those that some notes tell of; the notes of the changes that are left, in front of these, are those of all changes.
pub record AreSetSoFar (changes : List SlotChange) (i : ℕ) (slots : List SlotValue) : Type 0 where
  pub notes : List Note
  pub is : slots ≡ slots_of notes
  pub left : reverse_aux (filter_map set_note (drop i changes)) notes ≡ reverse (filter_map set_note changes)
  pub unused : AllByRecursion IsUnused slots

pub none_set : (changes : List SlotChange) → AreSetSoFar changes 0 (replicate SLOTS empty_slot)
none_set changes = record { notes = []; is = sym slots_of-none; left = refl; unused = all_replicate IsUnused SLOTS empty_slot unused_empty }

pub one_more_set : (changes : List SlotChange) (i : ℕ) (c : SlotChange) (slots : List SlotValue) → drop i changes ≡ c ∷ drop (i + 1) changes → IsSome c.scheme → c.slot ≤ MAX_SLOT → AreSetSoFar changes i slots
    → AreSetSoFar changes (i + 1) (put slots c.slot (changed c.scheme (get_or slots c.slot empty_slot)))
one_more_set changes i c slots next some below so_far = by_scheme c.scheme some refl
  where
    by_scheme : (o : Option Scheme) → IsSome o → c.scheme ≡ o → AreSetSoFar changes (i + 1) (put slots c.slot (changed c.scheme (get_or slots c.slot empty_slot)))
    by_scheme None some is = absurd (cc some)
    by_scheme (Some scheme) some is = record {
      notes = set c.slot scheme ∷ so_far.notes;
      is =
          ap (λ (ss : List SlotValue). put ss c.slot (changed c.scheme (get_or ss c.slot empty_slot))) so_far.is
          ∙ ap (λ o. put (slots_of so_far.notes) c.slot (changed o (get_or (slots_of so_far.notes) c.slot empty_slot))) is
          ∙ sym (slots_of-set c.slot scheme so_far.notes (slot_counted_below c.slot below));
      left =
          ap (λ o. reverse_aux (cons_option (option_map (set c.slot) o) (filter_map set_note (drop (i + 1) changes))) so_far.notes) (sym is)
          ∙ ap (λ cs. reverse_aux (filter_map set_note cs) so_far.notes) (sym next)
          ∙ so_far.left;
      unused = all_changed IsUnused slots c.slot (changed c.scheme (get_or slots c.slot empty_slot)) (unused_changed c.scheme (get_or slots c.slot empty_slot) (one_of_all IsUnused slots c.slot empty_slot unused_empty so_far.unused)) so_far.unused;
    }

pub all_set : (changes : List SlotChange) (slots : List SlotValue) (i : ℕ) → drop i changes ≡ [] → AreSetSoFar changes i slots → slots ≡ slots_of (reverse (filter_map set_note changes))
all_set changes slots i done so_far = so_far.is ∙ ap slots_of (sym (ap (λ cs. reverse_aux (filter_map set_note cs) so_far.notes) done) ∙ so_far.left)
