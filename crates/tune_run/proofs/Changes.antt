-- The changes that tune slots, one slot after another.
use Rattle.std.proofs.Common.{◌≡◌, ℕ, zero, suc, ◌+◌, ◌-◌, ◌<◌, ◌≤◌, [], ◌∷◌, Option, Some, None, refl, sym, ap, subst, ◌∙◌, arith}
use Rattle.std.specs.Prelude.{filter_map}
use Rattle.std.specs.List.{cons_option, range_with_len}
use Rattle.std.specs.Option.{option_and_then, option_map, option_map_or}
use Rattle.std.proofs.lemmas.List.{get_or-set_other}
use Rattle.damon_types.specs.declared.scheme.Scheme.{Scheme}
use Rattle.damon_types.specs.declared.scheme.SlotChange.{SlotChange}
use Rattle.damon_core.specs.Slots.{slot_count}
use Rattle.quota_goal.specs.declared.moment.Moment.{Moment}
use Rattle.quota_goal.specs.Tuned.{TunerView, after_change, change_at, new_bytes, retuned, scheme_at, tunable_bytes, with_bytes}
use Rattle.tune_run.specs.Callbacks.{changes_at}
use Rattle.tune_run.specs.Kept.{IsNextChange, changes_from}
use Rattle.tune_run.proofs.Slots.{count_is}

-- what changes a slot: its scheme in force, with other bytes
pub record IsRetuned (t : TunerView) (slot : ℕ) (c : SlotChange) : Type 0 where
  pub scheme : Scheme
  pub bytes : ℕ
  pub held : scheme_at t slot ≡ Some scheme
  pub is : c ≡ record { slot = slot; scheme = Some (with_bytes scheme bytes) }

-- the change of a slot to a scheme, if there is one
abbrev pub change_to : ℕ → Option Scheme → Option SlotChange
change_to slot held = option_map (λ s. record { slot = slot; scheme = Some s }) held

-- the scheme of a slot once it was tuned at a moment: that of its change, if there is one, or as it was
abbrev pub tuned_from : TunerView → ℕ → Moment → Option Scheme → Option Scheme
tuned_from t slot moment held = option_map_or (λ (c : SlotChange). c.scheme) (change_to slot (option_and_then (retuned t slot moment) held)) held

abbrev pub tuned_scheme : TunerView → ℕ → Moment → Option Scheme
tuned_scheme t slot moment = tuned_from t slot moment (scheme_at t slot)

pub retuned_is : (t : TunerView) (slot : ℕ) (moment : Moment) (c : SlotChange) → change_at t slot moment ≡ Some c → IsRetuned t slot c
retuned_is t slot moment c is =
    (elim (scheme_at t slot) as (λ held. scheme_at t slot ≡ held → change_to slot (option_and_then (retuned t slot moment) held) ≡ Some c → IsRetuned t slot c) [
      | None ↦ λ held here. absurd (cc here)
      | Some scheme ↦ λ held.
          elim (option_and_then (new_bytes t slot moment) (tunable_bytes scheme)) as (λ new. change_to slot (option_map (with_bytes scheme) new) ≡ Some c → IsRetuned t slot c) [
            | None ↦ λ here. absurd (cc here)
            | Some bytes ↦ λ here. record { scheme = scheme; bytes = bytes; held = held; is = sym (cc here) }
          ]
    ]) refl is

-- a change is of its slot
pub slot_is : (t : TunerView) (slot : ℕ) (moment : Moment) (c : SlotChange) → change_at t slot moment ≡ Some c → c.slot ≡ slot
slot_is t slot moment c is = ap (λ (x : SlotChange). x.slot) (retuned_is t slot moment c is).is

-- a change of one slot leaves that of another as it was
other_stays : (t : TunerView) (c : SlotChange) (slot : ℕ) (moment : Moment) → (slot ≡ c.slot → ⊥)
    → change_at (after_change (Some c) t) slot moment ≡ change_at t slot moment
other_stays t c slot moment apart =
    ap (λ held. change_to slot (option_and_then (retuned t slot moment) held)) (get_or-set_other t.schemes c.slot slot c.scheme None apart)

pub later_stay : (t : TunerView) (c : SlotChange) (moment : Moment) (from n : ℕ) → c.slot < from
    → changes_at (after_change (Some c) t) moment (range_with_len from n) ≡ changes_at t moment (range_with_len from n)
later_stay t c moment from zero below = refl
later_stay t c moment from (suc n) below =
    let h : ℕ → Option SlotChange = λ slot. change_at (after_change (Some c) t) slot moment in
    ap (λ o. cons_option o (filter_map h (range_with_len (from + 1) n))) (other_stays t c from moment (λ e. absurd (omega arith)))
    ∙ ap (cons_option (change_at t from moment)) (later_stay t c moment (from + 1) n (omega arith))

-- the changes from a slot on: that of the slot, if there is one, and those from the next one on
next_slot : (t : TunerView) (moment : Moment) (from : ℕ) → from < slot_count
    → changes_from t from moment ≡ cons_option (change_at t from moment) (changes_from t (from + 1) moment)
next_slot t moment from below =
    let left : slot_count - from ≡ suc (slot_count - (from + 1)) = omega arith in
    ap (λ n. changes_at t moment (range_with_len from n)) left

pub slot_passed : (t : TunerView) (moment : Moment) (from : ℕ) → from < slot_count → change_at t from moment ≡ None
    → changes_from t from moment ≡ changes_from t (from + 1) moment
slot_passed t moment from below none = next_slot t moment from below ∙ ap (λ o. cons_option o (changes_from t (from + 1) moment)) none

pub none_left : (t : TunerView) (moment : Moment) (from : ℕ) → slot_count ≤ from → changes_from t from moment ≡ []
none_left t moment from past =
    let left : slot_count - from ≡ 0 = omega arith in
    ap (λ n. changes_at t moment (range_with_len from n)) left

-- the first change that is left
pub next_is : (t : TunerView) (moment : Moment) (next slot : ℕ) (c : SlotChange) → slot < slot_count
    → changes_from t next moment ≡ changes_from t slot moment → change_at t slot moment ≡ Some c
    → IsNextChange t (after_change (Some c) t) next moment c
next_is t moment next slot c below passed is =
    let of = slot_is t slot moment c is in
    record {
      slot = omega (arith, count_is, of);
      is = subst (λ k. change_at t k moment ≡ Some c) (sym of) is;
      after = refl;
      left =
          passed
          ∙ next_slot t moment slot below
          ∙ ap (λ o. cons_option o (changes_from t (slot + 1) moment)) is
          ∙ ap (λ cs. c ∷ cs) (sym (later_stay t c moment (slot + 1) (slot_count - (slot + 1)) (omega (arith, of))))
          ∙ ap (λ k. c ∷ changes_from (after_change (Some c) t) (k + 1) moment) (sym of);
    }

pub from_the_first : (t : TunerView) (moment : Moment) → changes_from t 0 moment ≡ changes_at t moment (range_with_len 0 slot_count)
from_the_first t moment =
    let all : slot_count - 0 ≡ slot_count = omega arith in
    ap (λ n. changes_at t moment (range_with_len 0 n)) all
