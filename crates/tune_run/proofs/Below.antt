-- In each state of a run the bytes in force of a tunable slot are at most its top.
use Rattle.std.proofs.Common.{◌≡◌, ℕ, zero, suc, ◌<◌, ◌≤◌, true, false, List, [], ◌∷◌, ◌++◌, length, replicate, set as put, get_or, Option, Some, None, Ok, Err, refl, sym, ap, subst, subst₂, ◌∙◌, arith}
use Rattle.std.specs.Prelude.{◌==◌, IfSome, is_none, is_ok, if◌then◌else◌}
use Rattle.std.specs.List.{AllByRecursion}
use Rattle.std.specs.Option.{option_and_then, option_map, option_map_or}
use Rattle.std.proofs.lemmas.Bool.Decides.{nat_tests}
use Rattle.std.proofs.lemmas.Grind.{get_or-set_at}
use Rattle.std.proofs.lemmas.List.{get_or-set_other, get_or-set_same, length-set}
use Rattle.damon_types.specs.declared.scheme.Marks.{Marks}
use Rattle.damon_types.specs.declared.scheme.Quota.{Quota}
use Rattle.damon_types.specs.declared.scheme.Scheme.{Scheme}
use Rattle.damon_types.specs.declared.scheme.SlotChange.{SlotChange}
use Rattle.damon_types.specs.declared.scheme.TheConstants.{MAX_SLOT}
use Rattle.live_commit.specs.Commit.{CommitValue}
use Rattle.live_commit.specs.Setup.{IsSetup, SetupValue}
use Rattle.live_commit.proofs.Lemmas.{commit_accepted, setup_accepted}
use Rattle.damon_core.specs.After.{after}
use Rattle.damon_core.specs.Commit.{check_of, committed, if_accepted, view_of}
use Rattle.damon_core.specs.Event.{Event, touch, prepare, clear, load, observe, aggregate, commit, show}
use Rattle.damon_core.specs.Reached.{run}
use Rattle.damon_core.specs.Slots.{slot_count}
use Rattle.damon_core.specs.State.{State, opening}
use Rattle.damon_core.proofs.Lemmas.{IsNoCommit}
use Rattle.quota_goal.specs.declared.goals.Goal.{Goal}
use Rattle.quota_goal.specs.declared.moment.Moment.{Moment}
use Rattle.quota_goal.specs.Tuned.{TunerView, after_change, all_given, bytes_at, change_at, given, scheme_at, top_after, top_at, tunable_bytes, untuned}
use Rattle.tune_run.specs.Along.{AreBelowTops}
use Rattle.tune_run.specs.Callbacks.{tuner_in}
use Rattle.tune_run.specs.Tops.{tops_after, tops_kept, tops_of}
use Rattle.tune_run.proofs.Accepting.{TakesChanges, commit_takes, event_takes, opening_takes}
use Rattle.tune_run.proofs.Bytes.{bytes_tuned, new_of}
use Rattle.tune_run.proofs.Committing.{given_is}
use Rattle.tune_run.proofs.Least.{new_below}
use Rattle.tune_run.proofs.Opening.{opening_tuner}
use Rattle.tune_run.proofs.Slots.{count_is}
use Rattle.tune_run.proofs.Staying.{tuner_stays}

-- ---- one slot changes

-- what is asked of a slot, by its scheme and its top
abbrev below_at : Option Scheme → ℕ → Type 0
below_at held top = IfSome (option_and_then tunable_bytes held) (λ bytes. bytes ≤ top)

own_top : (scheme : Option Scheme) (top : ℕ) → below_at scheme (top_after scheme top)
own_top None top = tt
own_top (Some s) top = by_parts s.marks s.quota
  where
    by_parts : (marks : Option Marks) (quota : Option Quota)
        → IfSome (if is_none marks then option_map (λ (q : Quota). q.bytes) quota else None)
        (λ bytes. bytes ≤ option_map_or (λ n. n) (option_map (λ (q : Quota). q.bytes) quota) top)
    by_parts None None = tt
    by_parts None (Some q) = omega arith
    by_parts (Some m) quota = tt

-- each slot has a scheme or none, and a top, and the bytes in force of each tunable slot are at most its top
pub record IsHeld (t : TunerView) : Type 0 where
  pub schemes : length t.schemes ≡ slot_count
  pub tops : length t.tops ≡ slot_count
  pub below : AreBelowTops t

put_below : (schemes : List (Option Scheme)) (old new : List ℕ) (i : ℕ) (x : Option Scheme) → i < length schemes → below_at x (get_or new i 0)
    → ((k : ℕ) → (k ≡ i → ⊥) → get_or new k 0 ≡ get_or old k 0) → ((k : ℕ) → below_at (get_or schemes k None) (get_or old k 0))
    → (k : ℕ) → below_at (get_or (put schemes i x) k None) (get_or new k 0)
put_below schemes old new i x room own others below k =
    (elim (k == i) as (λ b. (k == i) ≡ b → below_at (get_or (put schemes i x) k None) (get_or new k 0)) [
      | true ↦ λ is.
          let same : k ≡ i = grind (arith, nat_tests) in
          subst₂ below_at (sym (get_or-set_at schemes i k x None same room)) (ap (λ j. get_or new j 0) (sym same)) own
      | false ↦ λ is.
          let apart : k ≡ i → ⊥ = λ e. grind (arith, nat_tests) in
          subst₂ below_at (sym (get_or-set_other schemes i k x None apart)) (sym (others k apart)) (below k)
    ]) refl

-- a change of the setup or of the script
given_held : (t : TunerView) (c : SlotChange) → c.slot ≤ MAX_SLOT → IsHeld t → IsHeld (given c t)
given_held t c within held =
    let new = top_after c.scheme (top_at t c.slot) in
    record {
      schemes = length-set t.schemes c.slot c.scheme ∙ held.schemes;
      tops = length-set t.tops c.slot new ∙ held.tops;
      below =
          put_below t.schemes t.tops (put t.tops c.slot new) c.slot c.scheme (omega (arith, count_is, within, held.schemes))
          (subst (below_at c.scheme) (sym (get_or-set_same t.tops c.slot new 0 (omega (arith, count_is, within, held.tops)))) (own_top c.scheme (top_at t c.slot)))
          (λ k apart. get_or-set_other t.tops c.slot k new 0 apart) held.below;
    }

-- a change that is put in
pub change_held : (t : TunerView) (c : SlotChange) (moment : Moment) → change_at t c.slot moment ≡ Some c → c.slot ≤ MAX_SLOT → IsHeld t
    → IsHeld (after_change (Some c) t)
change_held t c moment is within held = record {
  schemes = length-set t.schemes c.slot c.scheme ∙ held.schemes;
  tops = held.tops;
  below =
      put_below t.schemes t.tops t.tops c.slot c.scheme (omega (arith, count_is, within, held.schemes))
      (subst (λ (o : Option ℕ). IfSome o (λ bytes. bytes ≤ top_at t c.slot)) (sym bytes) (stay_below (bytes_at t c.slot) (held.below c.slot)))
      (λ k apart. refl) held.below;
}
  where
    bytes : option_and_then tunable_bytes c.scheme ≡ option_map (new_of t c.slot moment) (bytes_at t c.slot)
    bytes =
        ap (λ o. option_and_then tunable_bytes (option_map_or (λ (x : SlotChange). x.scheme) o (scheme_at t c.slot))) (sym is) ∙ bytes_tuned t c.slot moment

    stay_below : (o : Option ℕ) → IfSome o (λ n. n ≤ top_at t c.slot) → IfSome (option_map (new_of t c.slot moment) o) (λ n. n ≤ top_at t c.slot)
    stay_below None most = tt
    stay_below (Some n) most = new_below c.slot moment n (top_at t c.slot) t.goals most

-- ---- along a run

-- what is carried along a run
pub record IsCarried (goals : List Goal) (tops : List ℕ) (s : State) : Type 0 where
  pub takes : TakesChanges s
  pub held : IsHeld (tuner_in goals tops s)

-- something holds after each of these events
abbrev pub HoldsAfterEach : (State → Type 0) → State → List Event → Type 0
HoldsAfterEach P s [] = Unit {0}
HoldsAfterEach P s (e ∷ es) = P (after s e) × HoldsAfterEach P (after s e) es

pub holds_at : (P : State → Type 0) (s : State) (es puts later : List Event) → P s → HoldsAfterEach P s es → es ≡ puts ++ later → P (run s puts)
holds_at P s es [] later here each is = here
holds_at P s [] (p ∷ puts) later here each is = absurd (cc is)
holds_at P s (e ∷ es) (p ∷ puts) later here each is =
    let same : e ≡ p = cc is in
    subst (λ (x : Event). P (run (after s x) puts)) same (holds_at P (after s e) es puts later each.0 each.1 (cc is))

module _ (goals : List Goal) where
  pub first_carried : (v : SetupValue) → IsSetup v → IsCarried goals (tops_of (opening v).notes) (opening v)
  first_carried v sound = record {
    takes = opening_takes v sound;
    held = subst IsHeld (opening_tuner goals v sound) (all_held v.slots (untuned goals) (setup_accepted v sound) none_held);
  }
    where
      none_at : (n slot top : ℕ) → below_at (get_or (replicate n None) slot None) top
      none_at zero slot top = tt
      none_at (suc n) zero top = tt
      none_at (suc n) (suc slot) top = none_at n slot top

      none_held : IsHeld (untuned goals)
      none_held = record { schemes = sym count_is; tops = sym count_is; below = λ slot. none_at 16 slot (top_at (untuned goals) slot) }

      all_held : (changes : List SlotChange) (t : TunerView) → AllByRecursion (λ (x : SlotChange). x.slot ≤ MAX_SLOT) changes → IsHeld t → IsHeld (all_given changes t)
      all_held [] t within held = held
      all_held (c ∷ changes) t within held = all_held changes (given c t) within.1 (given_held t c within.0 held)

  stays : (tops : List ℕ) (s : State) (e : Event) → IsNoCommit e → IsCarried goals tops s → IsCarried goals tops (after s e)
  stays tops s e other here = record { takes = event_takes e s here.takes; held = subst IsHeld (sym (tuner_stays goals tops s e other)) here.held }

  commits : (tops : List ℕ) (s : State) (parts : CommitValue) → IsCarried goals tops s → IsCarried goals (tops_kept tops s (commit parts)) (after s (commit parts))
  commits tops s parts here =
      (elim (check_of parts s.core) as (λ r. check_of parts s.core ≡ r → IsCarried goals (if is_ok r then tops_after parts.slot tops else tops) (if_accepted r (committed parts s) s)) [
        | Ok t ↦ λ ok. record {
          takes = commit_takes parts s ok here.takes;
          held = subst IsHeld (given_is goals tops parts s) (by_slot parts.slot (commit_accepted s.core.space (view_of s.core) parts ok).slot);
        }
        | Err fault ↦ λ refused. here
      ]) refl
    where
      by_slot : (slot : Option SlotChange) → ((c : SlotChange) → slot ≡ Some c → c.slot ≤ MAX_SLOT)
          → (let t = tuner_in goals tops s in IsHeld (option_map_or (λ c. given c t) slot t))
      by_slot None within = here.held
      by_slot (Some c) within = given_held (tuner_in goals tops s) c (within c refl) here.held

  -- after an event of the script
  pub event_carries : (tops : List ℕ) (s : State) (e : Event) → IsCarried goals tops s → IsCarried goals (tops_kept tops s e) (after s e)
  event_carries tops s (touch page) here = stays tops s (touch page) tt here
  event_carries tops s (prepare words) here = stays tops s (prepare words) tt here
  event_carries tops s clear here = stays tops s clear tt here
  event_carries tops s (load hit) here = stays tops s (load hit) tt here
  event_carries tops s observe here = stays tops s observe tt here
  event_carries tops s (aggregate words) here = stays tops s (aggregate words) tt here
  event_carries tops s (commit parts) here = commits tops s parts here
  event_carries tops s show here = stays tops s show tt here
