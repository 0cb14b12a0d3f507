-- Slots that were not changed before.
use Rattle.std.proofs.Common.{◌≡◌, ℕ, Bool, true, false, ◌==◌, List, [], ◌∷◌, length, Ok, Some, refl}
use Rattle.damon_types.specs.declared.scheme.Scheme.{Scheme}
use Rattle.damon_types.specs.declared.scheme.SlotChange.{SlotChange}
use Rattle.damon_types.specs.declared.scheme.Version.{Version}
use Rattle.damon_types.specs.Scheme.{checked_in}
use Rattle.live_commit.specs.Slots.{checked_slot, has_scheme, is_set}
use Rattle.script_lines.specs.Head.{is_changed}

-- a slot that no change is of, none sets
sets_none : (slot : ℕ) (changes : List SlotChange) → is_changed slot changes ≡ false → is_set slot changes ≡ false
sets_none slot [] none = refl
sets_none slot (c ∷ changes) none = by (c.slot == slot) (has_scheme c) refl refl none (sets_none slot changes)
  where
    by : (same set : Bool) → (c.slot == slot) ≡ same → has_scheme c ≡ set → is_changed slot (c ∷ changes) ≡ false
        → (is_changed slot changes ≡ false → is_set slot changes ≡ false) → is_set slot (c ∷ changes) ≡ false
    by true set is held none rest = absurd (cc (is, none))
    by false true is held none rest = let here = rw is at none in rw (is, held) (rest here)
    by false false is held none rest = let here = rw is at none in rw (is, held) (rest here)

-- a sound scheme for a slot that was not changed is accepted
pub checked_slot_accepted : (version : Version) (changes : List SlotChange) (slot : ℕ) (s : Scheme) → checked_in version slot s ≡ Ok tt → is_changed slot changes ≡ false → checked_slot version (length changes) changes (record { slot = slot; scheme = Some s }) ≡ Ok tt
checked_slot_accepted version changes slot s sound other = rw (sound, sets_none slot changes other) refl
