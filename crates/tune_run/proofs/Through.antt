-- What the commits that are put in at a moment make of the slots.
use Rattle.std.proofs.Common.{◌≡◌, ℕ, zero, suc, ◌+◌, ◌<◌, ◌≤◌, true, false, List, ◌∷◌, Some, None, refl, sym, ap, subst, ◌∙◌, arith}
use Rattle.std.specs.Prelude.{◌==◌}
use Rattle.std.specs.List.{cons_option, range_with_len}
use Rattle.std.specs.Option.{option_map_or}
use Rattle.std.proofs.lemmas.Bool.Decides.{nat_tests}
use Rattle.std.proofs.lemmas.Grind.{get_or-set_at}
use Rattle.std.proofs.lemmas.List.{get_or-set_other}
use Rattle.std.proofs.Math.ListN.{get_or-eq_default}
use Rattle.damon_types.specs.declared.scheme.SlotChange.{SlotChange}
use Rattle.live_commit.specs.Accepted.{AllowsCommit}
use Rattle.damon_core.specs.After.{after}
use Rattle.damon_core.specs.Event.{Event, commit}
use Rattle.damon_core.specs.Reached.{run}
use Rattle.damon_core.specs.Slots.{slot_count}
use Rattle.damon_core.specs.State.{State}
use Rattle.quota_goal.specs.declared.goals.Goal.{Goal}
use Rattle.quota_goal.specs.declared.moment.Moment.{Moment}
use Rattle.quota_goal.specs.Tuned.{TunerView, after_change, change_at, scheme_at}
use Rattle.script_run.specs.PutIn.{AllAccepted}
use Rattle.tune_run.specs.Callbacks.{change_alone, changes_at, commits_of, tuner_in}
use Rattle.tune_run.proofs.Accepting.{event_takes}
use Rattle.tune_run.proofs.Below.{HoldsAfterEach, IsCarried, IsHeld, change_held}
use Rattle.tune_run.proofs.Changes.{later_stay, next_is, slot_is, tuned_from, tuned_scheme}
use Rattle.tune_run.proofs.Committing.{next_stands}

-- These events, from a state on, are accepted; slots before one with this number keep their schemes, and the others are tuned.
pub record Tunes (goals : List Goal) (tops : List ℕ) (moment : Moment) (from : ℕ) (s : State) (puts : List Event) : Type 0 where
  pub accepted : AllAccepted s puts
  pub each : HoldsAfterEach (IsCarried goals tops) s puts
  pub earlier : (slot : ℕ) → slot < from → scheme_at (tuner_in goals tops (run s puts)) slot ≡ scheme_at (tuner_in goals tops s) slot
  pub tuned : (slot : ℕ) → from ≤ slot → scheme_at (tuner_in goals tops (run s puts)) slot ≡ tuned_scheme (tuner_in goals tops s) slot moment

-- a number, and all above it
at_or_above : (P : ℕ → Type 0) (from : ℕ) → P from → ((k : ℕ) → from + 1 ≤ k → P k) → (k : ℕ) → from ≤ k → P k
at_or_above P from here above k there =
    (elim (from == k) as (λ b. (from == k) ≡ b → P k) [
      | true ↦ λ is. let same : from ≡ k = grind (arith, nat_tests) in subst P same here
      | false ↦ λ is. above k (grind (arith, nat_tests))
    ]) refl

module _ (goals : List Goal) (tops : List ℕ) (moment : Moment) where
  -- all slots from one on
  pub all_tuned : (n from : ℕ) (s : State) → from + n ≡ slot_count → AllowsCommit s.core.phase → IsCarried goals tops s
      → Tunes goals tops moment from s (commits_of (changes_at (tuner_in goals tops s) moment (range_with_len from n)))
  all_tuned zero from s all free here =
      let t = tuner_in goals tops s in
      record {
        accepted = tt;
        each = tt;
        earlier = λ slot before. refl;
        tuned = λ slot there.
            let none : scheme_at t slot ≡ None = get_or-eq_default t.schemes None (omega (arith, here.held.schemes, all, there)) in
            none ∙ sym (ap (tuned_from t slot moment) none);
      }
  all_tuned (suc n) from s all free here =
      let t = tuner_in goals tops s in
      let others = changes_at t moment (range_with_len (from + 1) n) in
      (elim (change_at t from moment) as (λ o. change_at t from moment ≡ o → Tunes goals tops moment from s (commits_of (cons_option o others))) [
        | None ↦ λ none.
            let rest = all_tuned n (from + 1) s (omega arith) free here in
            record {
              accepted = rest.accepted;
              each = rest.each;
              earlier = λ slot before. rest.earlier slot (omega arith);
              tuned =
                  at_or_above (λ k. scheme_at (tuner_in goals tops (run s (commits_of others))) k ≡ tuned_scheme t k moment) from
                  (rest.earlier from (omega arith) ∙ ap (λ o. option_map_or (λ (x : SlotChange). x.scheme) o (scheme_at t from)) (sym none)) rest.tuned;
            }
        | Some c ↦ λ some.
            let of : c.slot ≡ from = slot_is t from moment c some in
            let next = next_is t moment from from c (omega arith) refl some in
            let e = commit (change_alone c) in
            let s' = after s e in
            let stands = next_stands goals tops s t (after_change (Some c) t) from moment c here.takes (record { is = refl; free = free }) next in
            let now : tuner_in goals tops s' ≡ after_change (Some c) t = sym stands.1.is in
            let there : IsCarried goals tops s' = record { takes = event_takes e s here.takes; held = subst IsHeld (sym now) (change_held t c moment next.is next.slot here.held) } in
            let same : commits_of (changes_at (tuner_in goals tops s') moment (range_with_len (from + 1) n)) ≡ commits_of others =
            ap (λ (x : TunerView). commits_of (changes_at x moment (range_with_len (from + 1) n))) now
            ∙ ap commits_of (later_stay t c moment (from + 1) n (omega (arith, of))) in
            let rest = subst (λ (es : List Event). Tunes goals tops moment (from + 1) s' es) same (all_tuned n (from + 1) s' (omega arith) stands.1.free there) in
            record {
              accepted = (stands.0, rest.accepted);
              each = (there, rest.each);
              earlier = λ slot before.
                  rest.earlier slot (omega arith)
                  ∙ ap (λ (x : TunerView). scheme_at x slot) now
                  ∙ get_or-set_other t.schemes c.slot slot c.scheme None (λ e. absurd (omega (arith, e, of, before)));
              tuned =
                  at_or_above (λ k. scheme_at (tuner_in goals tops (run s (e ∷ commits_of others))) k ≡ tuned_scheme t k moment) from
                  (rest.earlier from (omega arith)
                  ∙ ap (λ (x : TunerView). scheme_at x from) now
                  ∙ get_or-set_at t.schemes c.slot from c.scheme None (sym of) (omega (arith, of, all, here.held.schemes))
                  ∙ ap (λ o. option_map_or (λ (x : SlotChange). x.scheme) o (scheme_at t from)) (sym some))
                  (λ k above.
                  rest.tuned k above
                  ∙ ap (λ (x : TunerView). tuned_scheme x k moment) now
                  ∙ ap (tuned_from t k moment) (get_or-set_other t.schemes c.slot k c.scheme None (λ e. absurd (omega (arith, e, of, above)))));
            }
      ]) refl
