-- What a world and callbacks make together.
use Rattle.std.proofs.Common.{◌≡◌, ℕ, ◌*◌, ◌^◌, ◌<◌, List, [], ◌∷◌, ◌++◌, refl, sym, ap, ◌∙◌, subst, append_assoc, append-nil, min}
use Rattle.std.specs.List.{AllByRecursion}
use Rattle.rand_core.specs.Stream.{Stream}
use Rattle.live_commit.specs.declared.phase.Phase.TheVariants.{Due}
use Rattle.live_commit.specs.declared.phase.Phase.{Phase}
use Rattle.live_commit.specs.Commit.{CommitValue}
use Rattle.damon_core.specs.After.{after}
use Rattle.damon_core.specs.Commit.{commit_answer}
use Rattle.damon_core.specs.Event.{Event, Fits, aggregate, commit}
use Rattle.damon_core.specs.Makes.{Makes}
use Rattle.damon_core.proofs.Lemmas.{AllFit-append, Reached-run}
use Rattle.damon_core.specs.Reached.{AllFit, Reached}
use Rattle.damon_core.specs.Stands.{MonitorView, Stands}
use Rattle.damon_core.specs.State.{Core, State, row_count}
use Rattle.sampler.specs.Draws.{drawn}
use Rattle.damon_world.specs.Advance.{steps_of_kind}
use Rattle.damon_world.specs.Moment.{Moment, along, event_in, events_of_steps, moved, next_event}
use Rattle.damon_world.specs.Plays.{Plays}
use Rattle.damon_world.proofs.Lemmas.{Reached-along, along-append, along-state}
use Rattle.damon_world.specs.Stands.{StandsFor, WorldView}
use Rattle.snapshot_print.specs.Writing.{Writing}
use Rattle.snapshot_print.specs.Printed.{printed_monitor, printed_state}
use Rattle.snapshot_print.proofs.Lemmas.{printed_monitor-stands}
use Rattle.script_run.specs.Callbacks.{AddInPlace, Callbacks, IsAlone, put_after}
use Rattle.script_run.specs.Calls.{Follows, IsAggregated}
use Rattle.script_run.specs.Course.{Course, going_with, with_puts}
use Rattle.script_run.proofs.Continuing.{onward-state, Reached-onward, with_puts-append}
use Rattle.script_run.specs.Going.{onward}
use Rattle.script_run.proofs.Continuing.{onward-append}
use Rattle.script_run.specs.Report.{event_text, events_text}
use Rattle.script_run.proofs.Continuing.{events_text-append}
use Rattle.script_run.specs.RunWith.{lines_after}
use Rattle.script_run.specs.Kept.{ArePutIn, IsMade, StandSomewhere, beyond}
use Rattle.script_run.specs.Player.{PlayTogether, StandAt}
use Rattle.script_run.proofs.Events.{alone_onward, alone_puts}

-- the course directly after an event of the script, before those that are put in after it
abbrev pub told : Callbacks → Course → Event → Course
told c r e = record { moment = moved r.moment e; memory = c.keeps r.memory r.moment.state e }

module _ {R C : Type 0} (stream : R → Stream) (c : Callbacks) (stands : C → List ℕ → State → Type 0) where
  -- what plays events, and then others from where these lead, plays them all
  pub plays-then : (w w' w'' : WorldView R) (k k' k'' : C) (es fs : Course → List Event)
      → PlayTogether stream c stands w w' k k' es → PlayTogether stream c stands w' w'' k' k'' fs
      → PlayTogether stream c stands w w'' k k'' (λ r. es r ++ fs (onward (going_with c) r (es r)))
  plays-then w w' w'' k k' k'' es fs first second r reached here =
      let made = first r reached here in
      let q = onward (going_with c) r (es r) in
      let more = second q (Reached-onward c r (es r) reached made.0) made.1 in
      let fit = AllFit-append r.moment.state (with_puts c r (es r)) (with_puts c q (fs q)) made.0
      (subst (λ s. AllFit s (with_puts c q (fs q))) (onward-state c r (es r)) more.0) in (
        subst (λ xs. AllFit r.moment.state xs) (sym (with_puts-append c r (es r) (fs q))) fit,
        subst (λ x. StandAt stream stands w'' k'' x) (sym (onward-append (going_with c) r (es r) (fs q))) more.1,
      )

  -- a world and callbacks that stood somewhere still do
  pub somewhere-then : (w w' : WorldView R) (k k' : C) (es : Course → List Event) → PlayTogether stream c stands w w' k k' es
      → StandSomewhere stream stands w k → StandSomewhere stream stands w' k'
  somewhere-then w w' k k' es plays there =
      let made = plays there.course there.reached there.here in
      record { course = onward (going_with c) there.course (es there.course); reached = Reached-onward c there.course (es there.course) there.reached made.0; here = made.1 }

  -- events that the world makes, that callbacks follow, and after which these remember and add nothing
  pub plays-follow : (in_place : AddInPlace c) (w w' : WorldView R) (k k' : C) (es : Moment → List Event) → Plays stream w w' es
      → ((r : Course) → Reached r.moment.state → StandAt stream stands w k r → AllByRecursion IsAlone (es r.moment))
      → ((r : Course) → Reached r.moment.state → StandAt stream stands w k r → Follows stands k k' (es r.moment))
      → PlayTogether stream c stands w w' k k' (λ r. es r.moment)
  plays-follow in_place w w' k k' es plays alone follow r reached here =
      let made = plays r.moment reached here.world in
      let all = alone r reached here in
      let there : StandAt stream stands w' k' (beyond r (es r.moment)) = record {
        world = made.1;
        callbacks = subst (λ s. stands k' r.memory s) (sym (along-state r.moment (es r.moment))) (follow r reached here r.memory r.moment.state reached here.callbacks made.0);
      } in (
        subst (λ xs. AllFit r.moment.state xs) (sym (alone_puts c in_place r (es r.moment) all)) made.0,
        subst (λ x. StandAt stream stands w' k' x) (sym (alone_onward c in_place r (es r.moment) all)) there,
      )

  -- ---- an event of the script before those that are put in after it

  -- a world and callbacks made an event of the script, and nothing was put in yet
  abbrev pub PlaysOne : (w w' : WorldView R) (k k' : C) (e : Course → Event) → Type 0
  PlaysOne w w' k k' e = (r : Course) → Reached r.moment.state → StandAt stream stands w k r
      → Fits r.moment.state (e r) × StandAt stream stands w' k' (told c r (e r))

  -- the text grew by that of the event and the lines of callbacks
  abbrev pub WritesOne : (w : WorldView R) (k : C) (writing : Writing) (x y : List ℕ) (e : Course → Event) → Type 0
  WritesOne w k writing x y e = (r : Course) → Reached r.moment.state → StandAt stream stands w k r
      → y ≡ x ++ (event_text writing r.moment.state (e r) ++ lines_after c r (e r))

  pub somewhere-one : (w w' : WorldView R) (k k' : C) (e : Course → Event) → PlaysOne w w' k k' e
      → StandSomewhere stream stands w k → StandSomewhere stream stands w' k'
  somewhere-one w w' k k' e plays there =
      let r = there.course in
      let made = plays r there.reached there.here in
      record { course = told c r (e r); reached = Reached-run r.moment.state (e r ∷ []) there.reached (made.0, tt); here = made.1 }

  -- an event, and then those that callbacks put in after it
  pub made-puts : (w w' w'' : WorldView R) (k k' k'' : C) (writing : Writing) (x y z : List ℕ) (e : Course → Event) (ps : List Event)
      → PlaysOne w w' k k' e → WritesOne w k writing x y e → ArePutIn stream stands w' w'' k' k'' writing y z ps
      → ((r : Course) → Reached r.moment.state → StandAt stream stands w k r → ps ≡ put_after c r.memory r.moment.state (e r))
      → IsMade stream c stands w w'' k k'' writing x z (λ r. e r ∷ [])
  made-puts w w' w'' k k' k'' writing x y z e ps plays writes more puts = record {
    plays = λ r reached here. (
        let s = r.moment.state in
        let one = plays r reached here in
        let q = told c r (e r) in
        let then = more.plays q (Reached-run s (e r ∷ []) reached (one.0, tt)) one.1 in
        let is = puts r reached here in (
          (one.0, subst (AllFit (after s (e r))) (is ∙ sym (append-nil (put_after c r.memory s (e r)))) then.0),
          subst (λ qs. StandAt stream stands w'' k'' (beyond q qs)) is then.1,
        ));
    text = λ r reached here. (
        let s = r.moment.state in
        let one = plays r reached here in
        let q = told c r (e r) in
        let own = event_text writing s (e r) in
        let lines = lines_after c r (e r) in
        let text = events_text writing (after s (e r)) ps in
        more.text q (Reached-run s (e r ∷ []) reached (one.0, tt)) one.1
        ∙ ap (λ t. t ++ text) (writes r reached here)
        ∙ append_assoc x (own ++ lines) text
        ∙ ap (λ t. x ++ t) (append_assoc own lines text)
        ∙ ap (λ t. x ++ (own ++ (lines ++ t))) (sym (append-nil text))
        ∙ ap (λ qs. x ++ (own ++ (lines ++ (events_text writing (after s (e r)) qs ++ [])))) (puts r reached here));
  }

  -- ---- a commit of the script

  pub commit_plays : (w w' : WorldView R) (k k' : C) (parts : CommitValue) → w'.source ≡ w.source → Makes StandsFor w w' (commit parts ∷ [])
      → ((memory : List ℕ) (s : State) → Reached s → stands k memory s → commit_answer parts w.monitor.core ≡ commit_answer parts s.core
      → stands k' (c.keeps memory s (commit parts)) (after s (commit parts)))
      → PlaysOne w w' k k' (λ r. commit parts)
  commit_plays w w' k k' parts source makes follow r reached here =
      let made = makes r.moment.state reached here.world.state in (
        tt,
        record {
          world = record { state = made.1; words = ap stream source ∙ here.world.words };
          callbacks = follow r.memory r.moment.state reached here.callbacks (ap (λ (x : Core). commit_answer parts x) here.world.state.monitor.same);
        },
      )

  pub commit_writes : (in_place : AddInPlace c) (w : WorldView R) (k : C) (writing : Writing) (x y : List ℕ) (parts : CommitValue)
      → y ≡ x ++ writing.commit w.monitor.core.ticks (commit_answer parts w.monitor.core)
      → WritesOne w k writing x y (λ r. commit parts)
  commit_writes in_place w k writing x y parts grew r reached here =
      let e = commit parts in
      let s = r.moment.state in
      let own = event_text writing s e in
      grew
      ∙ ap (λ (q : Core). x ++ writing.commit q.ticks (commit_answer parts q)) here.world.state.monitor.same
      ∙ ap (λ t. x ++ t) (sym (append-nil own))
      ∙ ap (λ t. x ++ (own ++ t)) (sym (in_place.writes (c.keeps r.memory s e) (after s e) e tt))

  -- ---- an aggregation

  -- the event of the next step where an aggregation is due
  due_is : (m : Moment) → m.state.core.phase ≡ Due → next_event m.state m.stream ≡ aggregate (drawn (2 * m.state.core.attrs.max) m.stream)
  due_is m due = ap (λ ph. event_in ph m.state m.stream) due

  -- an aggregation is due, and the passes in all are below 2^40
  abbrev pub IsDue : WorldView R → Type 0
  IsDue w = (w.monitor.core.phase ≡ Due) × (w.monitor.core.ticks < 2 ^ 40)

  due_at : (w : WorldView R) (k : C) (r : Course) → w.monitor.core.phase ≡ Due → StandAt stream stands w k r → r.moment.state.core.phase ≡ Due
  due_at w k r due here = ap (λ (q : Core). q.phase) (sym here.world.state.monitor.same) ∙ due

  -- the aggregation that is due is one step
  pub one_step : (w w' : WorldView R) (n : ℕ) → w.monitor.core.phase ≡ Due → n ≡ min 1 (steps_of_kind w.monitor.core.phase (row_count w.monitor.core))
      → Plays stream w w' (λ m. events_of_steps n m) → Plays stream w w' (λ m. events_of_steps 1 m)
  one_step w w' n due count plays =
      let one : n ≡ 1 = count ∙ ap (λ (ph : Phase). min 1 (steps_of_kind ph (row_count w.monitor.core))) due in
      subst (λ i. Plays stream w w' (λ m. events_of_steps i m)) one plays

  -- the random words of the next aggregation
  abbrev pub words_at : Course → List ℕ
  words_at r = drawn (2 * r.moment.state.core.attrs.max) r.moment.stream

  -- what callbacks are told of the aggregation that was due
  pub aggregated_at : (w w' : WorldView R) (k : C) → IsDue w → Plays stream w w' (λ m. events_of_steps 1 m)
      → (r : Course) → Reached r.moment.state → StandAt stream stands w k r → IsAggregated (λ memory s. stands k memory s) w'.monitor r.memory r.moment.state (words_at r)
  aggregated_at w w' k due plays r reached here =
      let made = plays r.moment reached here.world in
      let is = due_is r.moment (due_at w k r due.0 here) in
      record {
        reached = reached;
        stood = here.callbacks;
        fits = subst (λ e. Fits r.moment.state e) is made.0.0;
        shows = subst (λ e. Stands w'.monitor (after r.moment.state e)) is made.1.state.monitor;
        few = subst (λ (q : Core). q.ticks < 2 ^ 40) here.world.state.monitor.same due.1;
      }

  -- the callbacks stand for the state after each aggregation that they may have been told of
  abbrev pub GoesAlong : (monitor : MonitorView) (k k' : C) → Type 0
  GoesAlong monitor k k' = (memory : List ℕ) (s : State) (words : List ℕ) → IsAggregated (λ memory s. stands k memory s) monitor memory s words
      → stands k' (c.keeps memory s (aggregate words)) (after s (aggregate words))

  pub aggregation_plays : (w w' : WorldView R) (k k' : C) → IsDue w → Plays stream w w' (λ m. events_of_steps 1 m)
      → GoesAlong w'.monitor k k'
      → PlaysOne w w' k k' (λ r. next_event r.moment.state r.moment.stream)
  aggregation_plays w w' k k' due plays follow r reached here =
      let made = plays r.moment reached here.world in
      let is = due_is r.moment (due_at w k r due.0 here) in (
        made.0.0,
        record {
          world = made.1;
          callbacks =
              subst (λ e. stands k' (c.keeps r.memory r.moment.state e) (after r.moment.state e)) (sym is)
              (follow r.memory r.moment.state (words_at r) (aggregated_at w w' k due plays r reached here));
        },
      )

  pub somewhere-aggregated : (w w' : WorldView R) (k k' : C) → IsDue w → Plays stream w w' (λ m. events_of_steps 1 m)
      → GoesAlong w'.monitor k k' → StandSomewhere stream stands w k → StandSomewhere stream stands w' k'
  somewhere-aggregated w w' k k' due plays follow there =
      somewhere-one w w' k k' (λ r. next_event r.moment.state r.moment.stream) (aggregation_plays w w' k k' due plays follow) there

  -- the text of the aggregation that was due and the lines of callbacks
  pub aggregation_writes : (w w' : WorldView R) (k k' : C) (writing : Writing) (x y z : List ℕ) → IsDue w → Plays stream w w' (λ m. events_of_steps 1 m)
      → GoesAlong w'.monitor k k'
      → y ≡ x ++ writing.aggregate (printed_monitor w'.monitor)
      → ((memory : List ℕ) (s : State) (words : List ℕ) → stands k' memory s → Stands w'.monitor s → z ≡ y ++ c.writes memory s (aggregate words))
      → WritesOne w k writing x z (λ r. next_event r.moment.state r.moment.stream)
  aggregation_writes w w' k k' writing x y z due plays follow grew lines r reached here =
      let is = due_is r.moment (due_at w k r due.0 here) in
      let words = words_at r in
      let shown = aggregated_at w w' k due plays r reached here in
      let s = after r.moment.state (aggregate words) in
      let own = writing.aggregate (printed_state s) in
      let added = lines_after c r (aggregate words) in
      subst (λ e. z ≡ x ++ (event_text writing r.moment.state e ++ lines_after c r e)) (sym is)
      (lines (c.keeps r.memory r.moment.state (aggregate words)) s words (follow r.memory r.moment.state words shown) shown.shows
      ∙ ap (λ t. t ++ added) (grew ∙ ap (λ p. x ++ writing.aggregate p) (printed_monitor-stands w'.monitor s shown.shows))
      ∙ append_assoc x own added)

  -- what was still to be put in then is what callbacks put in after it
  pub aggregation_puts : (w w' : WorldView R) (k : C) (ps : List Event) → IsDue w → Plays stream w w' (λ m. events_of_steps 1 m)
      → ((memory : List ℕ) (s : State) (words : List ℕ) → IsAggregated (λ memory s. stands k memory s) w'.monitor memory s words
      → ps ≡ put_after c memory s (aggregate words))
      → (r : Course) → Reached r.moment.state → StandAt stream stands w k r
      → ps ≡ put_after c r.memory r.moment.state (next_event r.moment.state r.moment.stream)
  aggregation_puts w w' k ps due plays puts r reached here =
      let is = due_is r.moment (due_at w k r due.0 here) in
      subst (λ e. ps ≡ put_after c r.memory r.moment.state e) (sym is) (puts r.memory r.moment.state (words_at r) (aggregated_at w w' k due plays r reached here))

-- ---- commits that are put in one after another

module _ {R C : Type 0} (stream : R → Stream) (stands : C → List ℕ → State → Type 0) where
  put-none : (w : WorldView R) (k : C) (writing : Writing) (x : List ℕ) → ArePutIn stream stands w w k k writing x x []
  put-none w k writing x = record { plays = λ r reached here. (tt, here); text = λ r reached here. sym (append-nil x) }

  put-then : (w w' w'' : WorldView R) (k k' k'' : C) (writing : Writing) (x y z : List ℕ) (es fs : List Event)
      → ArePutIn stream stands w w' k k' writing x y es → ArePutIn stream stands w' w'' k' k'' writing y z fs
      → ArePutIn stream stands w w'' k k'' writing x z (es ++ fs)
  put-then w w' w'' k k' k'' writing x y z es fs first second = record {
    plays = λ r reached here. (
        let made = first.plays r reached here in
        let more = second.plays (beyond r es) (Reached-along r.moment es reached made.0) made.1 in (
          AllFit-append r.moment.state es fs made.0 (subst (λ s. AllFit s fs) (along-state r.moment es) more.0),
          subst (λ (m : Moment). StandAt stream stands w'' k'' (record { moment = m; memory = r.memory })) (sym (along-append r.moment es fs)) more.1,
        ));
    text = λ r reached here. (
        let made = first.plays r reached here in
        let s = r.moment.state in
        let own = events_text writing s es in
        second.text (beyond r es) (Reached-along r.moment es reached made.0) made.1
        ∙ ap (λ t. t ++ events_text writing (along r.moment es).state fs) (first.text r reached here)
        ∙ append_assoc x own (events_text writing (along r.moment es).state fs)
        ∙ ap (λ (t : State). x ++ (own ++ events_text writing t fs)) (along-state r.moment es)
        ∙ ap (λ t. x ++ t) (sym (events_text-append writing s es fs)));
  }

  put-commit-plays : (w w' : WorldView R) (k k' : C) (parts : CommitValue) → w'.source ≡ w.source → Makes StandsFor w w' (commit parts ∷ [])
      → Follows stands k k' (commit parts ∷ [])
      → (r : Course) → Reached r.moment.state → StandAt stream stands w k r
      → AllFit r.moment.state (commit parts ∷ []) × StandAt stream stands w' k' (beyond r (commit parts ∷ []))
  put-commit-plays w w' k k' parts source makes follow r reached here =
      let made = makes r.moment.state reached here.world.state in (
        made.0,
        record {
          world = record { state = made.1; words = ap stream source ∙ here.world.words };
          callbacks = follow r.memory r.moment.state reached here.callbacks made.0;
        },
      )

  -- one commit with its line
  pub put-commit : (w w' : WorldView R) (k k' : C) (writing : Writing) (x y : List ℕ) (parts : CommitValue) → w'.source ≡ w.source → Makes StandsFor w w' (commit parts ∷ [])
      → Follows stands k k' (commit parts ∷ [])
      → y ≡ x ++ writing.commit w.monitor.core.ticks (commit_answer parts w.monitor.core)
      → ArePutIn stream stands w w' k k' writing x y (commit parts ∷ [])
  put-commit w w' k k' writing x y parts source makes follow grew = record {
    plays = put-commit-plays w w' k k' parts source makes follow;
    text = λ r reached here. (
        grew
        ∙ ap (λ (q : Core). x ++ writing.commit q.ticks (commit_answer parts q)) here.world.state.monitor.same
        ∙ ap (λ t. x ++ t) (sym (append-nil (event_text writing r.moment.state (commit parts)))));
  }

  -- a world and callbacks that stood somewhere still do
  pub somewhere-commit : (w w' : WorldView R) (k k' : C) (parts : CommitValue) → w'.source ≡ w.source → Makes StandsFor w w' (commit parts ∷ [])
      → Follows stands k k' (commit parts ∷ [])
      → StandSomewhere stream stands w k → StandSomewhere stream stands w' k'
  somewhere-commit w w' k k' parts source makes follow there =
      let r = there.course in
      let all = put-commit-plays w w' k k' parts source makes follow r there.reached there.here in
      record { course = beyond r (commit parts ∷ []); reached = Reached-along r.moment (commit parts ∷ []) there.reached all.0; here = all.1 }

-- some of the commits that callbacks put in were made
pub record PutsSoFar {R C : Type 0} (stream : R → Stream) (stands : C → List ℕ → State → Type 0) (pending : C → List Event)
    (w w' : WorldView R) (k k' : C) (writing : Writing) (x y : List ℕ) : Type 0 where
  pub done : List Event
  pub split : pending k ≡ done ++ pending k'
  pub made : ArePutIn stream stands w w' k k' writing x y done

module _ {R C : Type 0} (stream : R → Stream) (stands : C → List ℕ → State → Type 0) (pending : C → List Event) where
  pub puts-none : (w : WorldView R) (k : C) (writing : Writing) (x : List ℕ) → PutsSoFar stream stands pending w w k k writing x x
  puts-none w k writing x = record { done = []; split = refl; made = put-none stream stands w k writing x }

  pub puts-more : (w w' w'' : WorldView R) (k k' k'' : C) (writing : Writing) (x y z : List ℕ) (e : Event)
      → PutsSoFar stream stands pending w w' k k' writing x y → pending k' ≡ e ∷ pending k''
      → ArePutIn stream stands w' w'' k' k'' writing y z (e ∷ [])
      → PutsSoFar stream stands pending w w'' k k'' writing x z
  puts-more w w' w'' k k' k'' writing x y z e so_far next made = record {
    done = so_far.done ++ e ∷ [];
    split = so_far.split ∙ ap (λ es. so_far.done ++ es) next ∙ sym (append_assoc so_far.done (e ∷ []) (pending k''));
    made = put-then stream stands w w' w'' k k' k'' writing x y z so_far.done (e ∷ []) so_far.made made;
  }

  pub puts-all : (w w' : WorldView R) (k k' : C) (writing : Writing) (x y : List ℕ)
      → PutsSoFar stream stands pending w w' k k' writing x y → pending k' ≡ []
      → ArePutIn stream stands w w' k k' writing x y (pending k)
  puts-all w w' k k' writing x y so_far none =
      let all : so_far.done ≡ pending k = sym (so_far.split ∙ ap (λ es. so_far.done ++ es) none ∙ append-nil so_far.done) in
      subst (λ es. ArePutIn stream stands w w' k k' writing x y es) all so_far.made

  -- one commit more, with its line
  pub puts-next : (w w' w'' : WorldView R) (k k' k'' : C) (writing : Writing) (x y z : List ℕ) (parts : CommitValue)
      → PutsSoFar stream stands pending w w' k k' writing x y → StandSomewhere stream stands w' k' → pending k' ≡ commit parts ∷ pending k''
      → w''.source ≡ w'.source → Makes StandsFor w' w'' (commit parts ∷ []) → Follows stands k' k'' (commit parts ∷ [])
      → z ≡ y ++ writing.commit w'.monitor.core.ticks (commit_answer parts w'.monitor.core)
      → PutsSoFar stream stands pending w w'' k k'' writing x z × StandSomewhere stream stands w'' k''
  puts-next w w' w'' k k' k'' writing x y z parts so_far there next source makes follow grew = (
    puts-more w w' w'' k k' k'' writing x y z (commit parts) so_far next (put-commit stream stands w' w'' k' k'' writing y z parts source makes follow grew),
    somewhere-commit stream stands w' w'' k' k'' parts source makes follow there,
  )
