-- What holds at each event of the run of a script.
use Rattle.std.proofs.Common.{◌≡◌, ℕ, List, [], ◌∷◌, ◌++◌, get_or, Option, Some, None, Ok, Err, refl, sym, ap, subst, ◌∙◌, arith, append-nil}
use Rattle.std.specs.Prelude.{IfSome, is_ok, if◌then◌else◌}
use Rattle.std.specs.List.{AllByRecursion}
use Rattle.std.specs.Option.{option_and_then, option_map, option_map_or, unwrap_or}
use Rattle.live_commit.specs.Accepted.{AllowsCommit}
use Rattle.damon_core.specs.After.{after}
use Rattle.damon_core.specs.Commit.{check_of, committed, if_accepted}
use Rattle.damon_core.specs.Event.{Event, touch, prepare, clear, load, observe, aggregate, commit, show}
use Rattle.damon_core.specs.Reached.{run}
use Rattle.damon_core.specs.Slots.{slot_count}
use Rattle.damon_core.specs.State.{State}
use Rattle.damon_world.proofs.Lemmas.{along-state}
use Rattle.damon_control.specs.Script.{ScriptValue}
use Rattle.damon_control.specs.Sound.{IsSound}
use Rattle.script_run.specs.Course.{Course, course_after, going_with}
use Rattle.script_run.specs.Going.{onward}
use Rattle.script_run.specs.PutIn.{AllAccepted}
use Rattle.script_run.specs.RunWith.{start_with}
use Rattle.quota_goal.specs.declared.goals.Goal.{Goal}
use Rattle.quota_goal.specs.declared.moment.Moment.{Moment}
use Rattle.quota_goal.specs.declared.moment.Moment.TheVariants.{Metric}
use Rattle.quota_goal.specs.Goals.{IsGoal}
use Rattle.quota_goal.specs.Next.{next}
use Rattle.quota_goal.specs.Tuned.{TunerView, bytes_at, tunable_bytes}
use Rattle.quota_goal.proofs.Lemmas.{bytes_fall, bytes_rise}
use Rattle.tune_run.specs.Along.{AreTunedWithin, DoFollow, FollowTheScore, LiesBetween, put_in, scored_goals, tuner_past, tuner_then}
use Rattle.tune_run.specs.Callbacks.{moment_after, tune_callbacks, tuned_by, tuner_in}
use Rattle.tune_run.specs.Tops.{tops_kept}
use Rattle.tune_run.proofs.Accepting.{free_again}
use Rattle.tune_run.proofs.Below.{HoldsAfterEach, IsCarried, event_carries, first_carried, holds_at}
use Rattle.tune_run.proofs.Bytes.{bytes_tuned, new_of}
use Rattle.tune_run.proofs.Least.{new_lies_between, one_scored}
use Rattle.tune_run.proofs.Through.{Tunes, all_tuned}

-- where goals are scored, commits are allowed
scored_is_free : (s : State) (e : Event) (m : Moment) → moment_after s e ≡ Some m → AllowsCommit (after s e).core.phase
scored_is_free s (touch page) m scored = absurd (cc scored)
scored_is_free s (prepare words) m scored = absurd (cc scored)
scored_is_free s clear m scored = absurd (cc scored)
scored_is_free s (load hit) m scored = absurd (cc scored)
scored_is_free s observe m scored = absurd (cc scored)
scored_is_free s (aggregate words) m scored = tt
scored_is_free s (commit parts) m scored =
    (elim (check_of parts s.core) as (λ r. check_of parts s.core ≡ r → (if is_ok r then option_map (λ value. Metric value) parts.metric else None) ≡ Some m
    → AllowsCommit (if_accepted r (committed parts s) s).core.phase) [
      | Ok t ↦ λ ok some. free_again parts s.core ok
      | Err fault ↦ λ refused none. absurd (cc none)
    ]) refl scored
scored_is_free s show m scored = absurd (cc scored)

-- ---- one event of the script and what is put in after it

module _ (goals : List Goal) (r : Course) (e : Event) (here : IsCarried goals r.memory r.moment.state) where
  abbrev pub then_state : State
  then_state = after r.moment.state e

  abbrev pub then_tops : List ℕ
  then_tops = tops_kept r.memory r.moment.state e

  abbrev pub then_tuner : TunerView
  then_tuner = tuner_in goals then_tops then_state

  carried : IsCarried goals then_tops then_state
  carried = event_carries goals r.memory r.moment.state e here

  -- what is put in at a moment
  tunes : (m : Moment) → moment_after r.moment.state e ≡ Some m → Tunes goals then_tops m 0 then_state (tuned_by then_tuner m)
  tunes m some = all_tuned goals then_tops m slot_count 0 then_state (omega arith) (scored_is_free r.moment.state e m some) carried

  puts_carried : AllAccepted then_state (put_in goals r e) × HoldsAfterEach (IsCarried goals then_tops) then_state (put_in goals r e)
  puts_carried =
      (elim (moment_after r.moment.state e) as (λ o. moment_after r.moment.state e ≡ o → (let puts = option_map_or (tuned_by then_tuner) o [] in
      AllAccepted then_state puts × HoldsAfterEach (IsCarried goals then_tops) then_state puts)) [
        | None ↦ λ none. (tt, tt)
        | Some m ↦ λ some. ((tunes m some).accepted, (tunes m some).each)
      ]) refl

  pub puts_accepted : AllAccepted then_state (put_in goals r e)
  puts_accepted = puts_carried.0

  pub put_carried : (puts later : List Event) → put_in goals r e ≡ puts ++ later → IsCarried goals then_tops (run then_state puts)
  put_carried puts later is = holds_at (IsCarried goals then_tops) then_state (put_in goals r e) puts later carried puts_carried.1 is

  -- the bytes of a slot once all is put in
  pub bytes_then : (m : Moment) (slot : ℕ) → moment_after r.moment.state e ≡ Some m
      → bytes_at (tuner_then goals r e) slot ≡ option_map (new_of then_tuner slot m) (bytes_at then_tuner slot)
  bytes_then m slot some =
      ap (λ o. bytes_at (tuner_past goals r e (option_map_or (tuned_by then_tuner) o [])) slot) some
      ∙ ap (option_and_then tunable_bytes) ((tunes m some).tuned slot (omega arith))
      ∙ bytes_tuned then_tuner slot m

  abbrev is_within : Moment → ℕ → Option ℕ → Type 0
  is_within m slot bytes = IfSome bytes (LiesBetween (scored_goals goals slot m) (get_or then_tops slot 0))

  pub tuned_within : AllByRecursion IsGoal goals → AreTunedWithin goals r e
  tuned_within each =
      (elim (moment_after r.moment.state e) as (λ o. moment_after r.moment.state e ≡ o → IfSome o (λ m. (slot : ℕ) → is_within m slot (bytes_at (tuner_then goals r e) slot))) [
        | None ↦ λ none. tt
        | Some m ↦ λ some slot. subst (is_within m slot) (sym (bytes_then m slot some)) (by_bytes m slot (bytes_at then_tuner slot))
      ]) refl
    where
      by_bytes : (m : Moment) (slot : ℕ) (o : Option ℕ) → is_within m slot (option_map (new_of then_tuner slot m) o)
      by_bytes m slot None = tt
      by_bytes m slot (Some bytes) = new_lies_between slot m bytes (get_or then_tops slot 0) goals each

  pub follow : FollowTheScore goals r e
  follow m slot g score bytes new some alone scored was is =
      let top = get_or then_tops slot 0 in
      let now : Some (next g bytes top score) ≡ Some new =
      ap (λ o. Some (unwrap_or o bytes)) (sym (one_scored slot m bytes top goals g score alone scored))
      ∙ ap (option_map (new_of then_tuner slot m)) (sym was) ∙ sym (bytes_then m slot some) ∙ is in
      let same : next g bytes top score ≡ new = cc now in
      subst (DoFollow g top score bytes) same (bytes_rise g bytes top score, bytes_fall g bytes top score)

  pub course_carries : IsCarried goals (course_after (tune_callbacks goals) r e).memory (course_after (tune_callbacks goals) r e).moment.state
  course_carries =
      subst (IsCarried goals then_tops) (sym (along-state r.moment (e ∷ put_in goals r e)))
      (put_carried (put_in goals r e) [] (sym (append-nil (put_in goals r e))))

-- ---- all events of a run

module _ (goals : List Goal) where
  carried_on : (es : List Event) (r : Course) → IsCarried goals r.memory r.moment.state
      → IsCarried goals (onward (going_with (tune_callbacks goals)) r es).memory (onward (going_with (tune_callbacks goals)) r es).moment.state
  carried_on [] r here = here
  carried_on (e ∷ es) r here = carried_on es (course_after (tune_callbacks goals) r e) (course_carries goals r e here)

  pub carried_to : (s : ScriptValue) → IsSound s → (made : List Event) → (let r = onward (going_with (tune_callbacks goals)) (start_with (tune_callbacks goals) s) made in IsCarried goals r.memory r.moment.state)
  carried_to s sound made = carried_on made (start_with (tune_callbacks goals) s) (first_carried goals s.setup sound.setup)
