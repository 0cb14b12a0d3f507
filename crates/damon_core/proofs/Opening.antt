-- The notes of an opening set slots, and say nothing of pages and passes.
use Rattle.std.proofs.Common.{ℕ, List, [], ◌∷◌, None, Some}
use Rattle.std.specs.Prelude.{Option, filter_map}
use Rattle.std.specs.Option.{option_map}
use Rattle.std.specs.List.{cons_option}
use mathlib.Core.List.{reverse_aux}
use Rattle.damon_types.specs.declared.scheme.Scheme.{Scheme}
use Rattle.damon_types.specs.declared.scheme.SlotChange.{SlotChange}
use Rattle.live_commit.specs.Setup.{SetupValue}
use Rattle.damon_core.specs.Note.{Note, touched, cleared, checked, finished, voided, set, dropped, metric, turned, ran, cost}
use Rattle.damon_core.specs.State.{opening_notes}
use Rattle.damon_core.proofs.NoteParts.{set_note}

-- each note sets a slot
abbrev SetSlots : List Note → Type 0
SetSlots [] = Unit {0}
SetSlots (set slot scheme ∷ notes) = SetSlots notes
SetSlots (_ ∷ notes) = ⊥

set_option : (slot : ℕ) (scheme : Option Scheme) (notes : List Note) → SetSlots notes → SetSlots (cons_option (option_map (set slot) scheme) notes)
set_option slot None notes all = all
set_option slot (Some scheme) notes all = all

set_changes : (changes : List SlotChange) → SetSlots (filter_map set_note changes)
set_changes [] = tt
set_changes (c ∷ changes) = set_option c.slot c.scheme (filter_map set_note changes) (set_changes changes)

set_reversed : (notes onto : List Note) → SetSlots notes → SetSlots onto → SetSlots (reverse_aux notes onto)
set_reversed [] onto all more = more
set_reversed (set slot scheme ∷ notes) onto all more = set_reversed notes (set slot scheme ∷ onto) all more
set_reversed (touched p ∷ notes) onto all more = absurd all
set_reversed (cleared n k p ∷ notes) onto all more = absurd all
set_reversed (checked n k p h ∷ notes) onto all more = absurd all
set_reversed (finished n rows ∷ notes) onto all more = absurd all
set_reversed (voided n ∷ notes) onto all more = absurd all
set_reversed (dropped slot ∷ notes) onto all more = absurd all
set_reversed (metric v ∷ notes) onto all more = absurd all
set_reversed (turned slot t ∷ notes) onto all more = absurd all
set_reversed (ran slot t tried runs exceeds ∷ notes) onto all more = absurd all
set_reversed (cost slot ns ∷ notes) onto all more = absurd all

of_set_slots : (P : List Note → Type 0) → P [] → ((slot : ℕ) (scheme : Scheme) (notes : List Note) → P notes → P (set slot scheme ∷ notes)) → (notes : List Note) → SetSlots notes → P notes
of_set_slots P none more [] all = none
of_set_slots P none more (set slot scheme ∷ notes) all = more slot scheme notes (of_set_slots P none more notes all)
of_set_slots P none more (touched p ∷ notes) all = absurd all
of_set_slots P none more (cleared n k p ∷ notes) all = absurd all
of_set_slots P none more (checked n k p h ∷ notes) all = absurd all
of_set_slots P none more (finished n rows ∷ notes) all = absurd all
of_set_slots P none more (voided n ∷ notes) all = absurd all
of_set_slots P none more (dropped slot ∷ notes) all = absurd all
of_set_slots P none more (metric v ∷ notes) all = absurd all
of_set_slots P none more (turned slot t ∷ notes) all = absurd all
of_set_slots P none more (ran slot t tried runs exceeds ∷ notes) all = absurd all
of_set_slots P none more (cost slot ns ∷ notes) all = absurd all

-- what holds of no notes, and with a set slot more, holds of the notes of an opening
pub opening_holds : (P : List Note → Type 0) → P [] → ((slot : ℕ) (scheme : Scheme) (notes : List Note) → P notes → P (set slot scheme ∷ notes)) → (v : SetupValue) → P (opening_notes v)
opening_holds P none more v = of_set_slots P none more (opening_notes v) (set_reversed (filter_map set_note v.slots) [] (set_changes v.slots) tt)
