-- Slot changes that are checked and kept one after another.
use Rattle.std.proofs.Common.{◌≡◌, ℕ, ◌||◌, true, false, List, [], ◌∷◌, ◌++◌, length, Ok, Err, Some, None, refl, ap, subst, ◌∙◌}
use Rattle.std.specs.Prelude.{if◌then◌else◌, Bool, Option, Result, ◌&&◌, ◌==◌}
use Rattle.std.specs.Result.{result_and}
use Rattle.std.proofs.lemmas.List.{append_assoc, append-nil}
use Rattle.std.proofs.lemmas.List.Elements.{filter-append}
use Rattle.damon_types.specs.Faults.{fault_as}
use Rattle.damon_types.specs.declared.scheme.Scheme.{Scheme}
use Rattle.damon_types.specs.declared.scheme.SchemeFault.{SchemeFault}
use Rattle.damon_types.specs.declared.scheme.Version.{Version}
use Rattle.damon_types.specs.declared.scheme.SlotChange.{SlotChange}
use Rattle.damon_types.specs.Scheme.{checked_in}
use Rattle.damon_types.proofs.Lemmas.{and_ok, both_ok}
use Rattle.live_commit.specs.declared.fault.SetupFault.TheVariants.{BadScheme, RepeatedSlot}
use Rattle.live_commit.specs.Slots.{checked_after, checked_set, checked_slot, checked_slots, has_scheme, kept_slots, is_set}

-- a change that is accepted is accepted at any index
free_at : (i j : ℕ) (set : Bool) (checked : Result (Unit {0}) SchemeFault) → result_and (fault_as (BadScheme i) checked) (if set then Err (RepeatedSlot i) else Ok (tt {0})) ≡ Ok tt → result_and (fault_as (BadScheme j) checked) (if set then Err (RepeatedSlot j) else Ok (tt {0})) ≡ Ok tt
free_at i j false (Ok t) ok = refl
free_at i j true (Ok t) ok = absurd (cc)
free_at i j set (Err why) ok = absurd (cc)

index_free : (version : Version) (i j : ℕ) (set : Bool) (slot : ℕ) (o : Option Scheme) → checked_set version i set slot o ≡ Ok tt → checked_set version j set slot o ≡ Ok tt
index_free version i j set slot None ok = refl
index_free version i j set slot (Some s) ok = free_at i j set (checked_in version slot s) ok

-- the first change is kept or left out
kept_first : (c : SlotChange) (changes : List SlotChange) → has_scheme c ≡ true → kept_slots (c ∷ changes) ≡ c ∷ kept_slots changes
kept_first c changes is = rw is refl

dropped_first : (c : SlotChange) (changes : List SlotChange) → has_scheme c ≡ false → kept_slots (c ∷ changes) ≡ kept_slots changes
dropped_first c changes is = rw is refl

-- the changes that are kept set the same slots
sets_kept_by : (slot : ℕ) (c : SlotChange) (changes : List SlotChange) (b : Bool) → has_scheme c ≡ b → is_set slot (kept_slots changes) ≡ is_set slot changes → is_set slot (kept_slots (c ∷ changes)) ≡ is_set slot (c ∷ changes)
sets_kept_by slot c changes true is rest = rw (kept_first c changes is) (ap (λ b. (has_scheme c && (c.slot == slot)) || b) rest)
sets_kept_by slot c changes false is rest = rw (dropped_first c changes is, is) rest

sets_kept : (slot : ℕ) (changes : List SlotChange) → is_set slot (kept_slots changes) ≡ is_set slot changes
sets_kept slot [] = refl
sets_kept slot (c ∷ changes) = sets_kept_by slot c changes (has_scheme c) refl (sets_kept slot changes)

-- a change that is accepted after some changes is accepted after those of them that are kept
slot_kept : (version : Version) (before : List SlotChange) (c : SlotChange) → checked_slot version (length before) before c ≡ Ok tt → checked_slot version (length (kept_slots before)) (kept_slots before) c ≡ Ok tt
slot_kept version before c ok = index_free version (length before) (length (kept_slots before)) (is_set c.slot (kept_slots before)) c.slot c.scheme (rw (sets_kept c.slot before) ok)

-- of changes that are accepted, those that are kept are accepted
behind_kept_by : (version : Version) (before : List SlotChange) (c : SlotChange) (changes : List SlotChange) (b : Bool) → has_scheme c ≡ b → checked_slot version (length before) before c ≡ Ok tt → checked_after version (kept_slots (before ++ c ∷ [])) (kept_slots changes) ≡ Ok tt → checked_after version (kept_slots before) (kept_slots (c ∷ changes)) ≡ Ok tt
behind_kept_by version before c changes true is here rest =
    let parts : kept_slots (before ++ c ∷ []) ≡ kept_slots before ++ c ∷ [] = filter-append has_scheme before (c ∷ []) ∙ ap (λ cs. kept_slots before ++ cs) (kept_first c [] is) in
    rw (kept_first c changes is, slot_kept version before c here) (subst (λ (cs : List SlotChange). checked_after version cs (kept_slots changes) ≡ Ok tt) parts rest)
behind_kept_by version before c changes false is here rest =
    let parts : kept_slots (before ++ c ∷ []) ≡ kept_slots before = filter-append has_scheme before (c ∷ []) ∙ ap (λ cs. kept_slots before ++ cs) (dropped_first c [] is) ∙ append-nil (kept_slots before) in
    rw (dropped_first c changes is) (subst (λ (cs : List SlotChange). checked_after version cs (kept_slots changes) ≡ Ok tt) parts rest)

behind_kept : (version : Version) (before changes : List SlotChange) → checked_after version before changes ≡ Ok tt → checked_after version (kept_slots before) (kept_slots changes) ≡ Ok tt
behind_kept version before [] ok = refl
behind_kept version before (c ∷ changes) ok =
    let both = both_ok (checked_slot version (length before) before c) (checked_after version (before ++ c ∷ []) changes) ok in
    behind_kept_by version before c changes (has_scheme c) refl both.0 (behind_kept version (before ++ c ∷ []) changes both.1)

pub slots_kept : (version : Version) (changes : List SlotChange) → checked_slots version changes ≡ Ok tt → checked_slots version (kept_slots changes) ≡ Ok tt
slots_kept version changes ok = behind_kept version [] changes ok

-- with one change more after changes that are accepted, only that one can be rejected
behind-push : (version : Version) (front before : List SlotChange) (c : SlotChange) → checked_after version front before ≡ Ok tt → checked_after version front (before ++ c ∷ []) ≡ checked_slot version (length (front ++ before)) (front ++ before) c
behind-push version front [] c ok = rw (append-nil front) (and_ok (checked_slot version (length front) front c))
behind-push version front (b ∷ before) c ok =
    let both = both_ok (checked_slot version (length front) front b) (checked_after version (front ++ b ∷ []) before) ok in
    let same : (front ++ b ∷ []) ++ before ≡ front ++ b ∷ before = append_assoc front (b ∷ []) before in
    rw (both.0) (behind-push version (front ++ b ∷ []) before c both.1 ∙ ap (λ cs. checked_slot version (length cs) cs c) same)

pub checked_slots-push : (version : Version) (before : List SlotChange) (c : SlotChange) → checked_slots version before ≡ Ok tt → checked_slots version (before ++ c ∷ []) ≡ checked_slot version (length before) before c
checked_slots-push version before c ok = behind-push version [] before c ok
