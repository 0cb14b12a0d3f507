-- The slot changes of a setup: which are accepted, and which set a slot.
use Rattle.std.specs.Prelude.{ℕ, Bool, ◌&&◌, ◌==◌, List, [], ◌∷◌, ◌++◌, length, Option, Some, None, Result, Ok, Err, if◌then◌else◌}
use Rattle.std.specs.List.{filter, list_any}
use Rattle.std.specs.Option.{is_some}
use Rattle.std.specs.Result.{result_and}
use Rattle.damon_types.specs.declared.scheme.Scheme.{Scheme}
use Rattle.damon_types.specs.declared.scheme.Version.{Version}
use Rattle.damon_types.specs.declared.scheme.SlotChange.{SlotChange}
use Rattle.damon_types.specs.Faults.{fault_as}
use Rattle.damon_types.specs.Scheme.{checked_in}
use Rattle.live_commit.specs.declared.fault.SetupFault.{SetupFault}
use Rattle.live_commit.specs.declared.fault.SetupFault.TheVariants.{BadScheme, RepeatedSlot}

-- whether a change has a scheme
abbrev pub has_scheme : SlotChange → Bool
has_scheme c = is_some c.scheme

-- whether one of these changes sets this slot: it is of the slot, and has a scheme
abbrev pub is_set : ℕ → List SlotChange → Bool
is_set slot changes = list_any (λ c. has_scheme c && (c.slot == slot)) changes

-- the changes that have a scheme
abbrev pub kept_slots : List SlotChange → List SlotChange
kept_slots changes = filter has_scheme changes

-- a slot may get a scheme where the scheme is within the limits of the version, and no earlier change sets the slot
abbrev pub checked_set : Version → ℕ → Bool → ℕ → Option Scheme → Result (Unit {0}) SetupFault
checked_set version index set slot None = Ok tt
checked_set version index set slot (Some s) =
    result_and (fault_as (BadScheme index) (checked_in version slot s)) (if set then Err (RepeatedSlot index) else Ok tt)

-- the fault of a change with this index, after these changes
abbrev pub checked_slot : Version → ℕ → List SlotChange → SlotChange → Result (Unit {0}) SetupFault
checked_slot version index before c = checked_set version index (is_set c.slot before) c.slot c.scheme

-- the first fault of changes that come after these
abbrev pub checked_after : Version → List SlotChange → List SlotChange → Result (Unit {0}) SetupFault
checked_after version before [] = Ok tt
checked_after version before (c ∷ changes) =
    result_and (checked_slot version (length before) before c) (checked_after version (before ++ c ∷ []) changes)

-- the first fault of changes
abbrev pub checked_slots : Version → List SlotChange → Result (Unit {0}) SetupFault
checked_slots version changes = checked_after version [] changes
