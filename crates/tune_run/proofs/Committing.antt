-- The tuner after a commit of the script, and after one that is put in.
use Rattle.std.proofs.Common.{◌≡◌, ℕ, true, false, List, [], Ok, Err, Option, Some, None, refl, sym, ap, subst, ◌∙◌, get_or, arith}
use Rattle.std.proofs.Math.Path.{fun_ext}
use Rattle.std.specs.Prelude.{IfSome, Result, is_ok, if◌then◌else◌}
use Rattle.std.specs.Option.{option_map, option_map_or}
use Rattle.std.specs.Result.{result_and}
use Rattle.damon_types.specs.declared.scheme.Scheme.{Scheme}
use Rattle.damon_types.specs.declared.scheme.SlotChange.{SlotChange}
use Rattle.live_commit.specs.declared.fault.CommitFault.{CommitFault}
use Rattle.live_commit.specs.Accepted.{AllowsCommit}
use Rattle.live_commit.specs.Commit.{CommitValue}
use Rattle.damon_core.specs.After.{after}
use Rattle.damon_core.specs.Commit.{check_of, committed, if_accepted}
use Rattle.damon_core.specs.Event.{Event, commit}
use Rattle.damon_core.specs.Slots.{scheme_of}
use Rattle.damon_core.specs.declared.changed.Changed.{Changed}
use Rattle.damon_core.specs.State.{State}
use Rattle.damon_core.proofs.Lemmas.{with_slot}
use Rattle.script_run.specs.Callbacks.{put_after}
use Rattle.quota_goal.specs.declared.goals.Goal.{Goal}
use Rattle.quota_goal.specs.declared.moment.Moment.{Moment}
use Rattle.quota_goal.specs.declared.moment.Moment.TheVariants.{Metric}
use Rattle.quota_goal.specs.Tuned.{TunerView, after_change, given}
use Rattle.tune_run.specs.Callbacks.{change_alone, commits_of, tune_callbacks, tuned_by, tuner_in}
use Rattle.tune_run.specs.Kept.{IsNextChange, StandsTuned, left_at}
use Rattle.tune_run.specs.Tops.{tops_after, tops_kept}
use Rattle.tune_run.proofs.Accepting.{TakesChanges, free_again, tuned_is_accepted}
use Rattle.tune_run.proofs.Changes.{from_the_first, retuned_is}
use Rattle.tune_run.proofs.Slots.{count_is, only_slot, scheme_is, slot_changed, tuner_by}

-- ---- commits of the script

-- the tuner after one that is accepted
pub given_is : (goals : List Goal) (tops : List ℕ) (parts : CommitValue) (s : State)
    → (let t = tuner_in goals tops s in option_map_or (λ c. given c t) parts.slot t ≡ tuner_in goals (tops_after parts.slot tops) (committed parts s))
given_is goals tops parts s = by_slot parts.slot ∙ ap (tuner_by goals (tops_after parts.slot tops)) (sym (fun_ext (only_slot parts s.notes)))
  where
    by_slot : (slot : Option SlotChange)
        → (let t = tuner_in goals tops s in option_map_or (λ c. given c t) slot t ≡ tuner_by goals (tops_after slot tops) (scheme_of (with_slot slot s.notes)))
    by_slot None = refl
    by_slot (Some c) =
        ap (λ (schemes : List (Option Scheme)). record { goals = goals; schemes = schemes; tops = tops_after (Some c) tops }) (sym (slot_changed s.notes c.slot c.scheme))

all_some : {X : Type 0} (P : Type 0) (o : Option X) → P → IfSome o (λ x. P)
all_some P None holds = tt
all_some P (Some x) holds = holds

module _ (goals : List Goal) (tops : List ℕ) (parts : CommitValue) (s : State) where
  -- for which state a tuner stands after a commit, by the result of its check
  abbrev Stands : TunerView → Option Moment → Result (Unit {0}) CommitFault → Type 0
  Stands t moment r = StandsTuned goals t moment (if is_ok r then tops_after parts.slot tops else tops) (if_accepted r (committed parts s) s)

  -- what is put in after it, by the result of its check
  abbrev puts_by : Result (Unit {0}) CommitFault → List Event
  puts_by r =
      option_map_or (tuned_by (tuner_in goals (tops_kept tops s (commit parts)) (after s (commit parts))))
      (if is_ok r then option_map (λ value. Metric value) parts.metric else None) []

  pub accepted_stands : (old new : TunerView) (before moment : Option Moment) → StandsTuned goals old before tops s → check_of parts s.core ≡ Ok tt
      → new ≡ option_map_or (λ c. given c old) parts.slot old → StandsTuned goals new moment (tops_kept tops s (commit parts)) (after s (commit parts))
  accepted_stands old new before moment stands ok is =
      subst (Stands new moment) (sym ok) (record {
        is = is ∙ ap (λ (t : TunerView). option_map_or (λ c. given c t) parts.slot t) stands.is ∙ given_is goals tops parts s;
        free = all_some (AllowsCommit (committed parts s).core.phase) moment (free_again parts s.core ok);
      })

  pub refused_stands : (old : TunerView) (before : Option Moment) (fault : CommitFault) → StandsTuned goals old before tops s
      → check_of parts s.core ≡ Err fault → StandsTuned goals old None (tops_kept tops s (commit parts)) (after s (commit parts))
  refused_stands old before fault stands refused = subst (Stands old None) (sym refused) (record { is = stands.is; free = tt })

  pub accepted_puts : (new : TunerView) → check_of parts s.core ≡ Ok tt → new ≡ tuner_in goals (tops_kept tops s (commit parts)) (after s (commit parts))
      → left_at new (option_map (λ value. Metric value) parts.metric) 0 ≡ put_after (tune_callbacks goals) tops s (commit parts)
  accepted_puts new ok is =
      ap (λ (f : Moment → List Event). option_map_or f (option_map (λ value. Metric value) parts.metric) [])
      (fun_ext (λ (m : Moment). ap commits_of (from_the_first new m) ∙ ap (λ (t : TunerView). tuned_by t m) is))
      ∙ ap puts_by (sym ok)

  pub refused_puts : (fault : CommitFault) → check_of parts s.core ≡ Err fault → [] ≡ put_after (tune_callbacks goals) tops s (commit parts)
  refused_puts fault refused = ap puts_by (sym refused)

-- ---- commits that are put in

-- the next change is accepted, and the tuner after it is that of the state after it
pub next_stands : (goals : List Goal) (tops : List ℕ) (s : State) (old new : TunerView) (next : ℕ) (moment : Moment) (c : SlotChange) → TakesChanges s
    → StandsTuned goals old (Some moment) tops s → IsNextChange old new next moment c
    → (check_of (change_alone c) s.core ≡ Ok tt) × StandsTuned goals new (Some moment) tops (after s (commit (change_alone c)))
next_stands goals tops s old new next moment c takes stands is =
    let parts = change_alone c in
    let re = retuned_is old c.slot moment c is.is in
    let held : scheme_of s.notes c.slot ≡ Some re.scheme =
    sym (scheme_is s.notes c.slot (omega (arith, count_is, is.slot))) ∙ ap (λ (t : TunerView). get_or t.schemes c.slot None) (sym stands.is) ∙ re.held in
    let ok : check_of parts s.core ≡ Ok tt =
    subst (λ (x : SlotChange). check_of (change_alone x) s.core ≡ Ok tt) (sym re.is) (tuned_is_accepted s c.slot re.scheme re.bytes takes stands.free held) in (
      ok,
      subst (λ (r : Result (Unit {0}) CommitFault). StandsTuned goals new (Some moment) tops (if_accepted r (committed parts s) s)) (sym ok) (record {
        is =
            is.after
            ∙ ap (after_change (Some c)) stands.is
            ∙ ap (λ (schemes : List (Option Scheme)). record { goals = goals; schemes = schemes; tops = tops }) (sym (slot_changed s.notes c.slot c.scheme));
        free = free_again parts s.core ok;
      }),
    )

-- ---- what the answer of a commit says of its check

pub answered_ok : (check : Result (Unit {0}) CommitFault) (changed : Changed) (answer : Result Changed CommitFault) → answer ≡ result_and check (Ok changed)
    → is_ok answer ≡ true → check ≡ Ok tt
answered_ok (Ok t) changed answer is ok = refl
answered_ok (Err fault) changed answer is ok = let bad : false ≡ true = sym (ap is_ok is) ∙ ok in absurd (cc bad)

pub answered_err : (check : Result (Unit {0}) CommitFault) (changed : Changed) (answer : Result Changed CommitFault) → answer ≡ result_and check (Ok changed)
    → is_ok answer ≡ false → (fault : CommitFault) × (check ≡ Err fault)
answered_err (Ok t) changed answer is err = let bad : true ≡ false = sym (ap is_ok is) ∙ err in absurd (cc bad)
answered_err (Err fault) changed answer is err = (fault, refl)
