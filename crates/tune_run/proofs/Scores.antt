-- The bytes of a slot with one goal, as long as the scores stay on one side of the target.
use Rattle.std.proofs.Common.{◌≡◌, ℕ, ◌<◌, ◌≤◌, min, true, false, List, [], ◌∷◌, get_or, Option, Some, None, Ok, Err, refl, sym, ap, subst, ◌∙◌, arith}
use Rattle.std.proofs.Math.Path.{fun_ext}
use Rattle.std.specs.Prelude.{◌==◌, IfSome, cond, filter_map, is_ok, if◌then◌else◌}
use Rattle.std.specs.List.{AllByRecursion, cons_option}
use Rattle.std.specs.Option.{option_and_then, option_map, option_map_or, unwrap_or}
use Rattle.std.proofs.lemmas.Iterator.Adapters.{option_map_id}
use Rattle.std.proofs.lemmas.List.{get_or-set_other}
use Rattle.damon_types.specs.declared.scheme.SlotChange.{SlotChange}
use Rattle.live_commit.specs.Commit.{CommitValue}
use Rattle.damon_core.specs.After.{after}
use Rattle.damon_core.specs.Commit.{check_of, committed, if_accepted}
use Rattle.damon_core.specs.Event.{Event, touch, prepare, clear, load, observe, aggregate, commit, show}
use Rattle.damon_core.specs.State.{State}
use Rattle.damon_core.proofs.Lemmas.{IsNoCommit}
use Rattle.damon_world.proofs.Lemmas.{along-state}
use Rattle.script_run.specs.Course.{Course, course_after, going_with}
use Rattle.script_run.specs.Going.{onward}
use Rattle.quota_goal.specs.declared.goals.Goal.{Goal}
use Rattle.quota_goal.specs.declared.moment.Moment.{Moment}
use Rattle.quota_goal.specs.Goals.{IsGoal}
use Rattle.quota_goal.specs.Moment.{score_of}
use Rattle.quota_goal.specs.Next.{next}
use Rattle.quota_goal.specs.Tuned.{TunerView, bytes_at, given, least_of, nexts, scheme_at, top_after, top_at, tunable_bytes}
use Rattle.quota_goal.proofs.Lemmas.{bytes_fall, bytes_rise, least_of_bounds, most_of_bounds}
use Rattle.tune_run.specs.Along.{LeavesSlot, ScoresAre, StayWithTheScores, bytes_in, goals_of, put_in, score_at, tuner_before, tuner_past, tuner_then}
use Rattle.tune_run.specs.Callbacks.{moment_after, schemes_in, tune_callbacks, tuned_by, tuner_in}
use Rattle.tune_run.specs.Tops.{tops_after, tops_kept}
use Rattle.tune_run.proofs.Below.{IsCarried}
use Rattle.tune_run.proofs.Committing.{given_is}
use Rattle.tune_run.proofs.Least.{kept_goals}
use Rattle.tune_run.proofs.Running.{bytes_then, course_carries}
use Rattle.tune_run.proofs.Staying.{tuner_stays}

-- ---- one goal

-- the next bytes by the goals of a slot
by_goals : (slot : ℕ) (moment : Moment) (bytes top : ℕ) (goals : List Goal)
    → nexts goals slot moment bytes top ≡ filter_map (λ g. option_map (next g bytes top) (score_of g.kind moment)) (goals_of goals slot)
by_goals slot moment bytes top [] = refl
by_goals slot moment bytes top (g ∷ goals) =
    let by : Goal → Option ℕ = λ x. option_map (next x bytes top) (score_of x.kind moment) in
    let others = goals_of goals slot in
    elim (g.slot == slot) as (λ b. cons_option (if b then by g else None) (nexts goals slot moment bytes top) ≡ filter_map by (cond b (g ∷ others) others)) [
      | true ↦ ap (cons_option (by g)) (by_goals slot moment bytes top goals)
      | false ↦ by_goals slot moment bytes top goals
    ]

least_of_one : (o : Option ℕ) → least_of (cons_option o []) ≡ o
least_of_one None = refl
least_of_one (Some n) = refl

by_one : (slot : ℕ) (moment : Moment) (bytes top : ℕ) (goals : List Goal) (g : Goal) → goals_of goals slot ≡ g ∷ []
    → least_of (nexts goals slot moment bytes top) ≡ option_map (next g bytes top) (score_of g.kind moment)
by_one slot moment bytes top goals g one =
    let by : Goal → Option ℕ = λ x. option_map (next x bytes top) (score_of x.kind moment) in
    ap least_of (by_goals slot moment bytes top goals ∙ ap (filter_map by) one) ∙ least_of_one (by g)

-- bytes within the bounds of a goal
abbrev IsIn : Goal → ℕ → ℕ → Type 0
IsIn g top bytes = (min g.low top ≤ bytes) × (bytes ≤ min g.high top)

-- the bytes after a score, if there is one
abbrev new_by : Goal → ℕ → ℕ → Option ℕ → ℕ
new_by g top bytes score = unwrap_or (option_map (next g bytes top) score) bytes

-- ---- events that leave a slot

-- two tuners with the same scheme and top of a slot
abbrev AreAlike : ℕ → TunerView → TunerView → Type 0
AreAlike slot t u = (scheme_at t slot ≡ scheme_at u slot) × (top_at t slot ≡ top_at u slot)

module _ (goals : List Goal) (tops : List ℕ) (s : State) (slot : ℕ) where
  abbrev old_tuner : TunerView
  old_tuner = tuner_in goals tops s

  no_commit : (e : Event) → IsNoCommit e → AreAlike slot (tuner_in goals tops (after s e)) old_tuner
  no_commit e other = (ap (λ (x : TunerView). scheme_at x slot) (tuner_stays goals tops s e other), refl)

  by_change : (change : Option SlotChange) → IfSome change (λ c. c.slot ≡ slot → ⊥) → AreAlike slot (option_map_or (λ c. given c old_tuner) change old_tuner) old_tuner
  by_change None leaves = (refl, refl)
  by_change (Some c) leaves =
      let apart : slot ≡ c.slot → ⊥ = λ e. leaves (sym e) in
      (get_or-set_other (schemes_in s) c.slot slot c.scheme None apart, get_or-set_other tops c.slot slot (top_after c.scheme (get_or tops c.slot 0)) 0 apart)

  by_commit : (parts : CommitValue) → IfSome parts.slot (λ c. c.slot ≡ slot → ⊥)
      → AreAlike slot (tuner_in goals (tops_kept tops s (commit parts)) (after s (commit parts))) old_tuner
  by_commit parts leaves =
      elim (check_of parts s.core)
      as (λ r. AreAlike slot (tuner_in goals (if is_ok r then tops_after parts.slot tops else tops) (if_accepted r (committed parts s) s)) old_tuner) [
        | Ok t ↦ subst (λ (x : TunerView). AreAlike slot x old_tuner) (given_is goals tops parts s) (by_change parts.slot leaves)
        | Err fault ↦ (refl, refl)
      ]

  leaves_alike : (e : Event) → LeavesSlot slot e → AreAlike slot (tuner_in goals (tops_kept tops s e) (after s e)) old_tuner
  leaves_alike (touch page) leaves = no_commit (touch page) tt
  leaves_alike (prepare words) leaves = no_commit (prepare words) tt
  leaves_alike clear leaves = no_commit clear tt
  leaves_alike (load hit) leaves = no_commit (load hit) tt
  leaves_alike observe leaves = no_commit observe tt
  leaves_alike (aggregate words) leaves = no_commit (aggregate words) tt
  leaves_alike (commit parts) leaves = by_commit parts leaves
  leaves_alike show leaves = no_commit show tt

-- ---- one event

module _ (goals : List Goal) (g : Goal) (one : goals_of goals g.slot ≡ g ∷ []) where
  abbrev next_course : Course → Event → Course
  next_course r e = course_after (tune_callbacks goals) r e

  -- the bytes once all is put in
  bytes_next : (r : Course) (e : Event) → IsCarried goals r.memory r.moment.state
      → bytes_in goals (next_course r e) g.slot
      ≡ option_map (λ b. new_by g (top_at (tuner_before goals r e) g.slot) b (score_at g r e)) (bytes_at (tuner_before goals r e) g.slot)
  bytes_next r e here =
      let t = tuner_before goals r e in
      let top = top_at t g.slot in
      let tops = tops_kept r.memory r.moment.state e in
      ap (λ (x : State). bytes_at (tuner_in goals tops x) g.slot) (along-state r.moment (e ∷ put_in goals r e))
      ∙ (elim (moment_after r.moment.state e) as (λ o. moment_after r.moment.state e ≡ o
      → bytes_at (tuner_then goals r e) g.slot ≡ option_map (λ b. new_by g top b (option_and_then (score_of g.kind) o)) (bytes_at t g.slot)) [
        | None ↦ λ none.
            ap (λ o. bytes_at (tuner_past goals r e (option_map_or (tuned_by t) o [])) g.slot) none ∙ sym (option_map_id (bytes_at t g.slot))
        | Some m ↦ λ some.
            bytes_then goals r e here m g.slot some
            ∙ ap (λ (f : ℕ → ℕ). option_map f (bytes_at t g.slot)) (fun_ext (λ b. ap (λ o. unwrap_or o b) (by_one g.slot m b top goals g one)))
      ]) refl

  -- bytes after a score lie within the bounds
  inside : (top bytes : ℕ) (score : Option ℕ) → g.low ≤ g.high → IsIn g top bytes → IsIn g top (new_by g top bytes score)
  inside top bytes None order here = here
  inside top bytes (Some score) order here = (least_of_bounds g bytes top score, most_of_bounds g bytes top score order)

  -- ---- many events

  -- a relation of bytes that each score with a property keeps
  module _ (P : ℕ → Type 0) (R : ℕ → ℕ → Type 0) (itself : (n : ℕ) → R n n) (chain : (a b c : ℕ) → R a b → R b c → R a c)
      (step : (score bytes top : ℕ) → P score → IsIn g top bytes → R bytes (next g bytes top score)) (order : g.low ≤ g.high) where
    moved : (top bytes : ℕ) (score : Option ℕ) → IfSome score P → IsIn g top bytes → R bytes (new_by g top bytes score)
    moved top bytes None is here = itself bytes
    moved top bytes (Some score) is here = step score bytes top is here

    stretch : (es : List Event) (q : Course) → IsCarried goals q.memory q.moment.state → (bytes new : ℕ) → bytes_in goals q g.slot ≡ Some bytes
        → IsIn g (get_or q.memory g.slot 0) bytes → bytes_in goals (onward (going_with (tune_callbacks goals)) q es) g.slot ≡ Some new → ScoresAre goals g P q es
        → R bytes new
    stretch [] q here bytes new was within is scores =
        let alike : Some bytes ≡ Some new = sym was ∙ is in
        let same : bytes ≡ new = cc alike in
        subst (R bytes) same (itself bytes)
    stretch (e ∷ es) q here bytes new was within is scores =
        let t = tuner_before goals q e in
        let alike = leaves_alike goals q.memory q.moment.state g.slot e scores.0 in
        let top = top_at t g.slot in
        let before : bytes_at t g.slot ≡ Some bytes = ap (option_and_then tunable_bytes) alike.0 ∙ was in
        let now : IsIn g top bytes = subst (λ n. IsIn g n bytes) (sym alike.1) within in
        let score = score_at g q e in
        let then_bytes = new_by g top bytes score in
        let next_is = bytes_next q e here ∙ ap (option_map (λ b. new_by g top b score)) before in
        chain bytes then_bytes new (moved top bytes score scores.1 now)
        (stretch es (next_course q e) (course_carries goals q e here) then_bytes new next_is (inside top bytes score order now) is scores.2)

pub stay : (goals : List Goal) (r : Course) (e : Event) → IsCarried goals r.memory r.moment.state → AllByRecursion IsGoal goals
    → StayWithTheScores goals r e
stay goals r e here each es g score bytes new one scored was is =
    by_before (bytes_at t g.slot)
    (ap (λ o. option_map (λ b. new_by g top b o) (bytes_at t g.slot)) (sym scored) ∙ sym (bytes_next goals g one r e here) ∙ was)
  where
    q : Course
    q = course_after (tune_callbacks goals) r e

    t : TunerView
    t = tuner_before goals r e

    top : ℕ
    top = top_at t g.slot

    order : g.low ≤ g.high
    order = (subst (λ (gs : List Goal). AllByRecursion IsGoal gs) one (kept_goals (λ x. x.slot == g.slot) goals each)).0.bounds

    by_before : (o : Option ℕ) → option_map (λ b. new_by g top b (Some score)) o ≡ Some bytes
        → (ScoresAre goals g (λ n. n < g.target) q es → bytes ≤ new) × (ScoresAre goals g (λ n. g.target ≤ n) q es → new ≤ bytes)
    by_before None now = absurd (cc now)
    by_before (Some earlier) now =
        let same : new_by g top earlier (Some score) ≡ bytes = cc now in
        let within : IsIn g top bytes = subst (λ n. IsIn g top n) same (least_of_bounds g earlier top score, most_of_bounds g earlier top score order) in
        let there = course_carries goals r e here in (
          stretch goals g one (λ n. n < g.target) (λ a b. a ≤ b) (λ n. omega arith) (λ a b c first second. omega (arith, first, second))
              (λ n held at low in_bounds. bytes_rise g held at n low in_bounds.1) order es q there bytes new was within is,
          stretch goals g one (λ n. g.target ≤ n) (λ a b. b ≤ a) (λ n. omega arith) (λ a b c first second. omega (arith, first, second))
              (λ n held at high in_bounds. bytes_fall g held at n high in_bounds.0) order es q there bytes new was within is,
        )
