-- What a player makes at once.
use Rattle.std.proofs.Common.{◌≡◌, ℕ, zero, suc, ◌+◌, ◌-◌, ◌≤◌, Bool, true, false, List, [], ◌∷◌, ◌++◌, refl, sym, ap, ◌∙◌, subst, append_assoc, append-nil, arith, Result, Ok, Err, OnOk, OnErr, take, length}
use Rattle.std.specs.Prelude.{◌==◌, ◌||◌}
use Rattle.std.specs.List.{AllByRecursion}
use Rattle.rand_core.specs.Stream.{Stream}
use Rattle.live_commit.specs.declared.phase.Phase.{Phase}
use Rattle.live_commit.specs.declared.phase.Phase.TheVariants.{Due}
use Rattle.damon_core.specs.State.{Core, State}
use Rattle.live_commit.specs.Commit.{CommitValue}
use Rattle.damon_core.specs.Event.{Event, commit, show}
use Rattle.damon_core.specs.Makes.{Makes}
use Rattle.damon_core.specs.Reached.{Reached}
use Rattle.damon_world.specs.Advance.{AreAmid}
use Rattle.damon_world.specs.Moment.{Moment, events_of_steps, next_event}
use Rattle.damon_world.specs.Plays.{Plays}
use Rattle.damon_world.proofs.Lemmas.{along-state}
use Rattle.damon_world.specs.Stands.{StandsAt, StandsFor, WorldView}
use Rattle.damon_world.specs.Touches.{touches}
use Rattle.snapshot_print.specs.Forms.{writing_of}
use Rattle.snapshot_print.specs.Printed.{printed_monitor, printed_state}
use Rattle.snapshot_print.proofs.Lemmas.{printed_monitor-stands}
use Rattle.script_run.specs.Callbacks.{AddInPlace, Callbacks, IsAlone, IsStep}
use Rattle.script_run.specs.Calls.{Follows}
use Rattle.script_run.specs.Course.{Course, going_with}
use Rattle.script_run.proofs.Continuing.{Reached-onward}
use Rattle.script_run.specs.Going.{onward}
use Rattle.script_run.proofs.Continuing.{onward-append}
use Rattle.script_run.specs.Report.{events_text}
use Rattle.script_run.specs.RunWith.{lines_after, text_from}
use Rattle.script_run.proofs.Continuing.{text_from-append}
use Rattle.script_run.specs.Unfold.{steps_until, stops_at}
use Rattle.script_run.specs.Part as part
use Rattle.script_run.specs.declared.part.Until.{Until}
use Rattle.line_text.specs.Appended.{KeepsFront}
use Rattle.line_text.proofs.Lemmas.{keeps-append, keeps_self, keeps_through}
use Rattle.script_run.specs.Kept.{IsMade, beyond}
use Rattle.script_run.specs.Parts.{is_done, part_events, parts_events}
use Rattle.script_run.specs.Player.{GoesOnWith, IsAt, IsOverWith, PlayTogether, PlayerOf, WritesSomeWith, left_events}
use Rattle.script_run.proofs.Events.{NoneDue, all_steps, alone_onward, along-touches, none_due, none_stops, parts_events-done, parts_events-made, steps_alone, steps_until-due, steps_until-split, suc_not_zero, text_from-steps, text_from-touches, touches_alone}
use Rattle.script_run.proofs.Making.{plays-follow, plays-then}

-- what follows where there is a value
pub OnOk-map : {T E X Y : Type 0} (r : Result T E) → (X → Y) → OnOk r X → OnOk r Y
OnOk-map (Ok x) f holds = f holds
OnOk-map (Err e) f holds = holds

-- what follows where there is an error
pub OnErr-map : {T E X Y : Type 0} (r : Result T E) → (X → Y) → OnErr r X → OnErr r Y
OnErr-map (Ok x) f holds = holds
OnErr-map (Err e) f holds = f holds

-- a text of which what was appended is removed where there is an error
pub whole-ok : {T E : Type 0} (P : List ℕ → Type 0) (made result : Result T E) (y z : List ℕ) → result ≡ made → OnOk made (P y) → OnOk result (z ≡ y) → OnOk result (P z)
whole-ok P made (Ok x) y z same holds is = subst P (sym is) (subst (λ r. OnOk r (P y)) (sym same) holds)
whole-ok P made (Err e) y z same holds is = is

pub whole-err : {T E : Type 0} (made result : Result T E) (n : ℕ) (x y z : List ℕ) → n ≡ length x → result ≡ made → OnErr made (KeepsFront x y) → OnErr result (z ≡ take n y) → OnErr result (z ≡ x)
whole-err made (Ok v) n x y z all same kept is = is
whole-err made (Err e) n x y z all same kept is =
    let front : KeepsFront x y = subst (λ r. OnErr r (KeepsFront x y)) (sym same) kept in
    is ∙ ap (λ i. take i y) all ∙ front.front

-- a text that grew keeps what it began with
pub keeps-more : (x y z added : List ℕ) → y ≡ x ++ added → KeepsFront y z → KeepsFront x z
keeps-more x y z added grew front = keeps_through x y z (subst (KeepsFront x) (sym grew) (keeps-append x added)) front

pub keeps-none : (x y : List ℕ) → y ≡ x → KeepsFront x y
keeps-none x y is = subst (KeepsFront x) (sym is) (keeps_self x)

-- a step is left where steps are not done
pub some_steps : (u : Until) (most : ℕ) (ph : Phase) → is_done (part.Steps u most) ph ≡ false → 1 ≤ most
some_steps u zero ph going = absurd (cc going)
some_steps u (suc n) ph going = omega arith

first_goes : (n : ℕ) (stop : Bool) → ((n == 0) || stop) ≡ false → stop ≡ false
first_goes zero stop e = absurd (cc e)
first_goes (suc n) stop e = ap (λ b. b || stop) (sym (suc_not_zero n)) ∙ e

-- ---- what a world plays and callbacks follow

module _ {R C : Type 0} (stream : R → Stream) (c : Callbacks) (stands : C → List ℕ → State → Type 0) where
  -- touches
  pub touches_play : (in_place : AddInPlace c) (w w' : WorldView R) (k k' : C) (page count : ℕ) → w'.source ≡ w.source → Makes StandsFor w w' (touches page count) → Follows stands k k' (touches page count)
      → PlayTogether stream c stands w w' k k' (λ r. touches page count)
  touches_play in_place w w' k k' page count source makes follow =
      plays-follow stream c stands in_place w w' k k' (λ m. touches page count) (λ m reached here. (
      let made = makes m.state reached here.state in (
        made.0,
        record {
          state = subst (λ s. StandsFor w' s) (sym (along-state m (touches page count))) made.1;
          words = ap stream source ∙ here.words ∙ sym (along-touches m page count);
        },
      ))) (λ r reached here. touches_alone page count) (λ r reached here. follow)

  -- no aggregation is due where steps begin, nor amid them
  pub not_due : (w : WorldView R) (n : ℕ) → (w.monitor.core.phase ≡ Due → ⊥) → ((m : Moment) → Reached m.state → StandsAt stream w m → AreAmid n m) → (m : Moment) → Reached m.state → StandsAt stream w m → NoneDue n m
  not_due w n early amid m reached here = none_due n m (λ due. early (ap (λ (q : Core). q.phase) here.state.monitor.same ∙ due)) (amid m reached here)

  -- steps of one kind
  pub steps_play : (in_place : AddInPlace c) (w w' : WorldView R) (k k' : C) (n : ℕ) → (w.monitor.core.phase ≡ Due → ⊥) → Plays stream w w' (λ m. events_of_steps n m) → ((m : Moment) → Reached m.state → StandsAt stream w m → AreAmid n m)
      → ((steps : List Event) → AllByRecursion IsStep steps → Follows stands k k' steps) → PlayTogether stream c stands w w' k k' (λ r. events_of_steps n r.moment)
  steps_play in_place w w' k k' n early plays amid follow =
      plays-follow stream c stands in_place w w' k k' (λ m. events_of_steps n m) plays
      (λ r reached here. steps_alone (events_of_steps n r.moment) (all_steps n r.moment (not_due w n early amid r.moment reached here.world)))
      (λ r reached here. follow (events_of_steps n r.moment) (all_steps n r.moment (not_due w n early amid r.moment reached here.world)))

  -- a player that made nothing
  pub on-none : (a : PlayerOf R C) (text : List ℕ) → GoesOnWith stream c stands a a text text
  on-none a text = record {
    events = λ r. [];
    plays = λ r reached here. (tt, here);
    left = λ r reached here. refl;
    text = λ r reached here. sym (append-nil text);
    form = refl;
  }

  -- one part of the way and another
  pub on-then : (a b d : PlayerOf R C) (x y z : List ℕ) → GoesOnWith stream c stands a b x y → GoesOnWith stream c stands b d y z → GoesOnWith stream c stands a d x z
  on-then a b d x y z first second = record {
    events = λ r. first.events r ++ second.events (onward (going_with c) r (first.events r));
    plays = plays-then stream c stands a.world b.world d.world a.callbacks b.callbacks d.callbacks first.events second.events first.plays second.plays;
    left = λ r reached here. (
        let es = first.events r in
        let n = onward (going_with c) r es in
        let made = first.plays r reached here in
        let fs = second.events n in
        first.left r reached here
        ∙ ap (λ xs. es ++ xs) (second.left n (Reached-onward c r es reached made.0) made.1)
        ∙ sym (append_assoc es fs (left_events c d (onward (going_with c) n fs)))
        ∙ ap (λ t. (es ++ fs) ++ left_events c d t) (sym (onward-append (going_with c) r es fs)));
    text = λ r reached here. (
        let es = first.events r in
        let n = onward (going_with c) r es in
        let made = first.plays r reached here in
        let fs = second.events n in
        second.text n (Reached-onward c r es reached made.0) made.1
        ∙ ap (λ t. t ++ text_from c (writing_of b.form) n fs) (first.text r reached here)
        ∙ append_assoc x (text_from c (writing_of a.form) r es) (text_from c (writing_of b.form) n fs)
        ∙ ap (λ f. x ++ (text_from c (writing_of a.form) r es ++ text_from c (writing_of f) n fs)) first.form
        ∙ ap (λ t. x ++ t) (sym (text_from-append c (writing_of a.form) r es fs)));
    form = second.form ∙ first.form;
  }

  -- what was made wrote a prefix of what was left to write
  pub on-writes : (a b : PlayerOf R C) (x y : List ℕ) → GoesOnWith stream c stands a b x y → WritesSomeWith stream c stands a x y
  on-writes a b x y on r reached here =
      let es = on.events r in
      let n = onward (going_with c) r es in
      let rest = left_events c b n in
      record {
        added = text_from c (writing_of a.form) r es;
        unwritten = text_from c (writing_of a.form) n rest;
        gained = on.text r reached here;
        parts = ap (text_from c (writing_of a.form) r) (on.left r reached here) ∙ text_from-append c (writing_of a.form) r es rest;
      }

  -- nothing is left of a player's part where it stands
  done_at : (p : PlayerOf R C) (r : Course) → IsAt stream stands p r → is_done p.part p.world.monitor.core.phase ≡ true → is_done p.part r.moment.state.core.phase ≡ true
  done_at p r here done = ap (λ (q : Core). is_done p.part q.phase) (sym here.world.state.monitor.same) ∙ done

  -- no command is left, and nothing of the one under way
  pub is_over : (p : PlayerOf R C) → p.later ≡ [] → is_done p.part p.world.monitor.core.phase ≡ true → IsOverWith stream c stands p
  is_over p none done r here = parts_events-done c r p.part p.later (done_at p r here done) ∙ ap (parts_events (going_with c) r) none

  -- ---- what is made at once

  -- the next command begins
  pub next_begins : (a b : PlayerOf R C) (text : List ℕ) → is_done a.part a.world.monitor.core.phase ≡ true → b.world ≡ a.world → b.callbacks ≡ a.callbacks → b.form ≡ a.form → a.later ≡ b.part ∷ b.later → GoesOnWith stream c stands a b text text
  next_begins a b text done world callbacks form later = record {
    events = λ r. [];
    plays = λ r reached here. (
      tt,
      record {
        world = subst (λ w. StandsAt stream w r.moment) (sym world) here.world;
        callbacks = subst (λ k. stands k r.memory r.moment.state) (sym callbacks) here.callbacks;
      },
    );
    left = λ r reached here. parts_events-done c r a.part a.later (done_at a r here done) ∙ ap (parts_events (going_with c) r) later;
    text = λ r reached here. sym (append-nil text);
    form = form;
  }

  -- events of a part after which callbacks remember and add nothing, where a part is left after them
  alone_left : (in_place : AddInPlace c) (a b : PlayerOf R C) (r : Course) (es : List Event) → AllByRecursion IsAlone es → b.later ≡ a.later
      → part_events (going_with c) r a.part ≡ es ++ part_events (going_with c) (beyond r es) b.part
      → left_events c a r ≡ es ++ left_events c b (onward (going_with c) r es)
  alone_left in_place a b r es alone later is =
      let all = is ∙ ap (λ q. es ++ part_events (going_with c) q b.part) (sym (alone_onward c in_place r es alone)) in
      parts_events-made c r es a.part b.part a.later all ∙ ap (λ ps. es ++ parts_events (going_with c) (onward (going_with c) r es) (b.part ∷ ps)) (sym later)

  -- a show
  pub show_made : (in_place : AddInPlace c) (a b : PlayerOf R C) (x y : List ℕ) → a.part ≡ part.Show → b.part ≡ part.Touches 0 0 → b.later ≡ a.later → b.form ≡ a.form → b.world ≡ a.world → b.callbacks ≡ a.callbacks → y ≡ x ++ (writing_of a.form).show (printed_monitor a.world.monitor) → GoesOnWith stream c stands a b x y
  show_made in_place a b x y old new later form world callbacks grew = record {
    events = λ r. es;
    plays =
        plays-follow stream c stands in_place a.world b.world a.callbacks b.callbacks (λ m. es)
        (λ m reached here. ((tt, tt), subst (λ w. StandsAt stream w m) (sym world) here))
        (λ r reached here. (tt, tt))
        (λ r reached here memory s there stood fit. subst (λ k. stands k memory s) (sym callbacks) stood);
    left = λ r reached here. alone_left in_place a b r es (tt, tt) later (ap (part_events (going_with c) r) old ∙ ap (λ q. es ++ part_events (going_with c) (beyond r es) q) (sym new));
    text = λ r reached here. (
        let s = r.moment.state in
        let own = (writing_of a.form).show (printed_state s) in
        grew
        ∙ ap (λ p. x ++ (writing_of a.form).show p) (printed_monitor-stands a.world.monitor s here.world.state.monitor)
        ∙ ap (λ t. x ++ t) (sym (append-nil own))
        ∙ ap (λ t. x ++ (own ++ (t ++ []))) (sym (in_place.writes (c.keeps r.memory s show) s show tt))
        ∙ ap (λ ps. x ++ (own ++ (lines_after c r show ++ (events_text (writing_of a.form) s ps ++ [])))) (sym (in_place.puts (c.keeps r.memory s show) s show tt)));
    form = form;
  }
    where
      es : List Event
      es = show ∷ []

  -- all touches of a part
  pub touches_made : (in_place : AddInPlace c) (a b : PlayerOf R C) (text : List ℕ) (page count : ℕ) → a.part ≡ part.Touches page count → b.part ≡ part.Touches 0 0 → b.later ≡ a.later → b.form ≡ a.form → b.world.source ≡ a.world.source → Makes StandsFor a.world b.world (touches page count) → Follows stands a.callbacks b.callbacks (touches page count) → GoesOnWith stream c stands a b text text
  touches_made in_place a b text page count old new later form source makes follow = record {
    events = λ r. es;
    plays = touches_play in_place a.world b.world a.callbacks b.callbacks page count source makes follow;
    left = λ r reached here. (
        let none : part_events (going_with c) (beyond r es) b.part ≡ [] = ap (part_events (going_with c) (beyond r es)) new in
        alone_left in_place a b r es (touches_alone page count) later (ap (part_events (going_with c) r) old ∙ sym (append-nil es) ∙ ap (λ fs. es ++ fs) (sym none)));
    text = λ r reached here. sym (ap (λ t. text ++ t) (text_from-touches c in_place (writing_of a.form) r page count) ∙ append-nil text);
    form = form;
  }
    where
      es : List Event
      es = touches page count

  -- the next command, which is a touch of one page
  pub touch_made : (in_place : AddInPlace c) (a b : PlayerOf R C) (text : List ℕ) (page : ℕ) → is_done a.part a.world.monitor.core.phase ≡ true → a.later ≡ part.Touches page 1 ∷ b.later → b.part ≡ part.Touches 0 0 → b.form ≡ a.form → b.world.source ≡ a.world.source → Makes StandsFor a.world b.world (touches page 1) → Follows stands a.callbacks b.callbacks (touches page 1) → GoesOnWith stream c stands a b text text
  touch_made in_place a b text page done later new form source makes follow =
      let m : PlayerOf R C = record { world = a.world; callbacks = a.callbacks; form = a.form; part = part.Touches page 1; later = b.later } in
      on-then a m b text text text (next_begins a m text done refl refl refl later) (touches_made in_place m b text page 1 refl new refl form source makes follow)

  -- the events that are left before steps of one kind and after them
  steps_left : (in_place : AddInPlace c) (a b : PlayerOf R C) (u : Until) (most n : ℕ) → a.part ≡ part.Steps u most → b.part ≡ part.Steps u (most - n) → b.later ≡ a.later → n ≤ most → is_done a.part a.world.monitor.core.phase ≡ false → (a.world.monitor.core.phase ≡ Due → ⊥) → ((m : Moment) → Reached m.state → StandsAt stream a.world m → AreAmid n m)
      → (r : Course) → Reached r.moment.state → IsAt stream stands a r → (let es = events_of_steps n r.moment in left_events c a r ≡ es ++ left_events c b (onward (going_with c) r es))
  steps_left in_place a b u most n old new later within going early amid r reached here =
      let m = r.moment in
      let es = events_of_steps n m in
      let begun : stops_at u a.world.monitor.core.phase ≡ false = first_goes most (stops_at u a.world.monitor.core.phase) (ap (λ q. is_done q a.world.monitor.core.phase) (sym old) ∙ going) in
      let now : stops_at u m.state.core.phase ≡ false = ap (λ (q : Core). stops_at u q.phase) (sym here.world.state.monitor.same) ∙ begun in
      let index : most ≡ n + (most - n) = omega (arith, within) in
      let none = not_due a.world n early amid m reached here.world in
      alone_left in_place a b r es (steps_alone es (all_steps n m none)) later
      (ap (part_events (going_with c) r) old
      ∙ ap (λ i. steps_until (going_with c) u i r) index
      ∙ steps_until-split c in_place u n (most - n) r none (none_stops u n m now (amid m reached here.world))
      ∙ ap (λ q. es ++ part_events (going_with c) (beyond r es) q) (sym new))

  -- steps of one kind
  pub steps_made : (in_place : AddInPlace c) (a b : PlayerOf R C) (text : List ℕ) (u : Until) (most n : ℕ) → a.part ≡ part.Steps u most → b.part ≡ part.Steps u (most - n) → b.later ≡ a.later → b.form ≡ a.form → n ≤ most → is_done a.part a.world.monitor.core.phase ≡ false → (a.world.monitor.core.phase ≡ Due → ⊥) → Plays stream a.world b.world (λ m. events_of_steps n m) → ((m : Moment) → Reached m.state → StandsAt stream a.world m → AreAmid n m)
      → ((steps : List Event) → AllByRecursion IsStep steps → Follows stands a.callbacks b.callbacks steps) → GoesOnWith stream c stands a b text text
  steps_made in_place a b text u most n old new later form within going early plays amid follow = record {
    events = λ r. events_of_steps n r.moment;
    plays = steps_play in_place a.world b.world a.callbacks b.callbacks n early plays amid follow;
    left = steps_left in_place a b u most n old new later within going early amid;
    text = λ r reached here. (
        let steps = all_steps n r.moment (not_due a.world n early amid r.moment reached here.world) in
        sym (ap (λ t. text ++ t) (text_from-steps c in_place (writing_of a.form) r (events_of_steps n r.moment) steps) ∙ append-nil text));
    form = form;
  }

  -- the next command is a commit
  pub commit_made : (a b : PlayerOf R C) (x y : List ℕ) (parts : CommitValue) → is_done a.part a.world.monitor.core.phase ≡ true → a.later ≡ part.Commit parts ∷ b.later → b.part ≡ part.Touches 0 0 → b.form ≡ a.form → IsMade stream c stands a.world b.world a.callbacks b.callbacks (writing_of a.form) x y (λ r. commit parts ∷ []) → GoesOnWith stream c stands a b x y
  commit_made a b x y parts done later new form made = record {
    events = λ r. commit parts ∷ [];
    plays = made.plays;
    left = λ r reached here. (
        let es : List Event = commit parts ∷ [] in
        parts_events-done c r a.part a.later (done_at a r here done)
        ∙ ap (parts_events (going_with c) r) later
        ∙ ap (λ q. es ++ parts_events (going_with c) (onward (going_with c) r es) (q ∷ b.later)) (sym new));
    text = made.text;
    form = form;
  }

  -- the aggregation that is due
  pub aggregate_made : (a b : PlayerOf R C) (x y : List ℕ) (u : Until) (most : ℕ) → a.part ≡ part.Steps u most → b.part ≡ part.Steps u (most - 1) → b.later ≡ a.later → b.form ≡ a.form → 1 ≤ most → is_done a.part a.world.monitor.core.phase ≡ false → IsMade stream c stands a.world b.world a.callbacks b.callbacks (writing_of a.form) x y (λ r. next_event r.moment.state r.moment.stream ∷ []) → GoesOnWith stream c stands a b x y
  aggregate_made a b x y u most old new later form some going made = record {
    events = λ r. next_event r.moment.state r.moment.stream ∷ [];
    plays = made.plays;
    left = λ r reached here. (
        let es : List Event = next_event r.moment.state r.moment.stream ∷ [] in
        let begun : stops_at u a.world.monitor.core.phase ≡ false = first_goes most (stops_at u a.world.monitor.core.phase) (ap (λ q. is_done q a.world.monitor.core.phase) (sym old) ∙ going) in
        let now : stops_at u r.moment.state.core.phase ≡ false = ap (λ (q : Core). stops_at u q.phase) (sym here.world.state.monitor.same) ∙ begun in
        let index : most ≡ suc (most - 1) = omega (arith, some) in
        let all : part_events (going_with c) r a.part ≡ es ++ part_events (going_with c) (onward (going_with c) r es) b.part =
        ap (part_events (going_with c) r) old
        ∙ ap (λ i. steps_until (going_with c) u i r) index
        ∙ steps_until-due c u (most - 1) r now
        ∙ ap (λ q. es ++ part_events (going_with c) (onward (going_with c) r es) q) (sym new) in
        parts_events-made c r es a.part b.part a.later all ∙ ap (λ ps. es ++ parts_events (going_with c) (onward (going_with c) r es) (b.part ∷ ps)) (sym later));
    text = made.text;
    form = form;
  }
