-- The actions of the slots, and the runs that they are applied to.
use Rattle.std.proofs.Common.{◌≡◌, ℕ, ◌+◌, ◌≤◌, Some, None, List, [], ◌∷◌, refl, ap, ◌∙◌, arith}
use Rattle.std.specs.Prelude.{Option, slice_index_or}
use Rattle.std.specs.Option.{option_map, option_map_or}
use Rattle.std.proofs.lemmas.List.FromFn.{get_or-map-range_with_len}
use Rattle.std.proofs.lemmas.List.Sums.{sum_by-cons}
use Rattle.damon_types.specs.declared.scheme.Action.{Action}
use Rattle.damon_types.specs.declared.scheme.Action.TheVariants.{Stat}
use Rattle.damon_types.specs.declared.scheme.Scheme.{Scheme}
use Rattle.damon_types.specs.declared.scheme.TheConstants.{MAX_SLOT}
use Rattle.damon_types.specs.declared.space.Target.{Target}
use Rattle.damon_types.specs.Space.{IsSpace, pages_of}
use Rattle.scheme_engine.specs.declared.slot.SlotView.{SlotView}
use Rattle.scheme_engine.specs.Slots.{SlotValue, empty_slot, slot_view}
use Rattle.damon_core.specs.Note.{Note}
use Rattle.damon_core.specs.Slots.{scheme_of, set_scheme_of, slot_count, slot_of, slots_of}
use Rattle.reclaim_module.specs.Stands.{action_in}
use Rattle.reclaim_module.proofs.Lemmas.{action_few, applied_next, first_runs_few, length_after_action}

all_slots : MAX_SLOT + 1 ≡ slot_count
unfolding slot_count
all_slots = refl

-- a slot as the notes tell of it
slot_at : (slots : List SlotValue) (notes : List Note) (slot : ℕ) → slot ≤ MAX_SLOT → slots ≡ slots_of notes → slice_index_or slots slot empty_slot ≡ slot_of notes slot
slot_at slots notes slot few is =
    ap (λ xs. slice_index_or xs slot empty_slot) is
    ∙ get_or-map-range_with_len (slot_of notes) 0 slot_count slot slot empty_slot (omega (arith, few, all_slots)) (omega arith)

-- the action that a slot shows is that of its scheme
abbrev shown_action : Option SlotView → Action
shown_action shown = option_map_or (λ (v : SlotView). v.action) shown Stat

pub action_shown : (slots : List SlotValue) (notes : List Note) (slot : ℕ) (shown : Option SlotView) → slot ≤ MAX_SLOT → shown ≡ slot_view (slice_index_or slots slot empty_slot) → slots ≡ slots_of notes → option_map_or (λ (v : SlotView). v.action) shown Stat ≡ action_in notes slot
action_shown slots notes slot shown few is same =
    ap shown_action (is ∙ ap slot_view (slot_at slots notes slot few same))
    ∙ by (scheme_of notes slot) where
      by : (held : Option Scheme) → shown_action (slot_view (record (slot_of notes slot) { set = option_map (λ scheme. set_scheme_of notes slot scheme) held })) ≡ option_map_or (λ (scheme : Scheme). scheme.action) held Stat
      by None = refl
      by (Some scheme) = refl

-- a space has a page
pub some_page : (ts : List Target) → IsSpace ts → 1 ≤ pages_of ts
some_page [] sound = absurd (omega (arith, sound.some))
some_page (t ∷ ts) sound = (let one = sound.each 0 t (omega arith) in omega (arith, one.some, sum_by-cons (λ (x : Target). x.pages) t ts))

-- one run after another is applied, and the first ones page out no more than all
pub ruleset applies_runs = (applied_next, first_runs_few, action_few, length_after_action)
