-- How a player stays on its way, and what was written where it stops.
use Rattle.std.specs.Prelude.{◌≡◌, ℕ, List, [], ◌++◌, refl}
use Rattle.std.proofs.Common.{◌∙◌, ap, sym, subst, append-nil, append_assoc}
use Rattle.rand_core.specs.Stream.{Stream}
use Rattle.damon_core.specs.State.{State, opening}
use Rattle.damon_core.specs.Reached.{AllFit, CanOpen, Reached, run}
use Rattle.damon_core.proofs.Lemmas.{AllFit-append}
use Rattle.damon_world.specs.Stands.{StandsFor}
use Rattle.damon_control.specs.Script.{ScriptValue}
use Rattle.snapshot_print.specs.declared.form.Form.{Form}
use Rattle.snapshot_print.specs.Forms.{writing_of}
use Rattle.script_run.proofs.Alone.{last_state-alone, report-alone}
use Rattle.script_run.specs.Callbacks.{Callbacks, no_callbacks}
use Rattle.script_run.specs.Course.{going_with, with_puts}
use Rattle.script_run.proofs.Continuing.{Reached-onward, onward-state, with_puts-append, onward-append, text_from-append}
use Rattle.script_run.specs.Going.{onward}
use Rattle.script_run.specs.Report.{last_state, report}
use Rattle.script_run.specs.RunWith.{last_memory, last_state_with, last_text_with, own_events, report_with, start_with, text_from}
use Rattle.script_run.specs.Player.{AnyState, GoesOn, GoesOnWith, IsAt, IsOver, IsOverWith, PlayerOf, PlayerView, WritesLast, WritesLastWith, left_events}
use Rattle.script_run.specs.Way.{IsOnItsWayWith, IsOnItsWay}

-- the state at the start of a script is reached
pub Reached-start : (s : ScriptValue) → CanOpen s.setup → Reached (opening s.setup)
Reached-start s can = record { setup = s.setup; events = []; can_open = can; fit = tt; is = refl }

module _ {R C : Type 0} (stream : R → Stream) (c : Callbacks) (stands : C → List ℕ → State → Type 0) (s : ScriptValue) (f : Form) where
  -- a player that goes on is on its way
  pub way-on-with : (a b : PlayerOf R C) (text added : List ℕ) → IsOnItsWayWith stream c stands s f a text
      → GoesOnWith stream c stands a b [] added → IsOnItsWayWith stream c stands s f b (text ++ added)
  way-on-with a b text added way on =
      let first = start_with c s in
      let made = way.made in
      let r = onward (going_with c) first made in
      let reached : Reached r.moment.state = Reached-onward c first made (Reached-start s way.can_open) way.fit in
      let more = on.events r in
      let plays = on.plays r reached way.stands in
      let there : onward (going_with c) first (made ++ more) ≡ onward (going_with c) r more = onward-append (going_with c) first made more in
      record {
        can_open = way.can_open;
        made = made ++ more;
        fit =
            subst (AllFit (opening s.setup)) (sym (with_puts-append c first made more))
            (AllFit-append (opening s.setup) (with_puts c first made) (with_puts c r more) way.fit
            (subst (λ t. AllFit t (with_puts c r more)) (onward-state c first made) plays.0));
        stands = subst (λ x. IsAt stream stands b x) (sym there) plays.1;
        left =
            way.left
            ∙ ap (λ es. made ++ es) (on.left r reached way.stands)
            ∙ sym (append_assoc made more (left_events c b (onward (going_with c) r more)))
            ∙ ap (λ x. (made ++ more) ++ left_events c b x) (sym there);
        written =
            ap (λ t. t ++ added) way.written
            ∙ ap (λ t. text_from c (writing_of f) first made ++ t) (on.text r reached way.stands)
            ∙ ap (λ g. text_from c (writing_of f) first made ++ text_from c (writing_of g) r more) way.form
            ∙ sym (text_from-append c (writing_of f) first made more);
        form = on.form ∙ way.form;
      }

  -- what was written is a prefix of the report
  pub way-prefix-with : (p : PlayerOf R C) (text : List ℕ) → IsOnItsWayWith stream c stands s f p text
      → (rest : List ℕ) × (report_with c (writing_of f) s ≡ text ++ rest)
  way-prefix-with p text way =
      let first = start_with c s in
      let r = onward (going_with c) first way.made in
      let left = left_events c p r in
      let last = last_text_with c (writing_of f) (last_memory c s) (last_state_with c s) in
      let joined : text_from c (writing_of f) first (own_events c s) ≡ text ++ text_from c (writing_of f) r left =
      ap (text_from c (writing_of f) first) way.left
      ∙ text_from-append c (writing_of f) first way.made left
      ∙ ap (λ t. t ++ text_from c (writing_of f) r left) (sym way.written) in
      (text_from c (writing_of f) r left ++ last, ap (λ t. t ++ last) joined ∙ append_assoc text (text_from c (writing_of f) r left) last)

  -- where no event is left, all events were made
  way-all : (p : PlayerOf R C) (text : List ℕ) (way : IsOnItsWayWith stream c stands s f p text) → IsOverWith stream c stands p
      → own_events c s ≡ way.made
  way-all p text way over =
      way.left
      ∙ ap (λ es. way.made ++ es) (over (onward (going_with c) (start_with c s) way.made) way.stands)
      ∙ append-nil way.made

  -- where no event is left, what was written is the report with its last line
  way-report : (p : PlayerOf R C) (text : List ℕ) (way : IsOnItsWayWith stream c stands s f p text) → IsOverWith stream c stands p
      → (let r = onward (going_with c) (start_with c s) way.made in text ++ last_text_with c (writing_of p.form) r.memory r.moment.state ≡ report_with c (writing_of f) s)
  way-report p text way over =
      let first = start_with c s in
      let r = onward (going_with c) first way.made in
      ap (λ t. t ++ last_text_with c (writing_of p.form) r.memory r.moment.state) way.written
      ∙ ap (λ g. text_from c (writing_of f) first way.made ++ last_text_with c (writing_of g) r.memory r.moment.state) way.form
      ∙ ap (λ t. text_from c (writing_of f) first way.made ++ last_text_with c (writing_of f) r.memory t) (onward-state c first way.made)
      ∙ ap (λ es. text_from c (writing_of f) first es ++ last_text_with c (writing_of f) (onward (going_with c) first es).memory (run (opening s.setup) (with_puts c first es)))
      (sym (way-all p text way over))

  -- what was written before, what was filled, and what ends it are the report
  pub way-finished-with : (p : PlayerOf R C) (written filled last : List ℕ) → IsOnItsWayWith stream c stands s f p (written ++ filled)
      → IsOverWith stream c stands p → WritesLastWith stream c stands p filled last → written ++ last ≡ report_with c (writing_of f) s
  way-finished-with p written filled last way over ends =
      let r = onward (going_with c) (start_with c s) way.made in
      ap (λ t. written ++ t) (ends r way.stands)
      ∙ sym (append_assoc written filled (last_text_with c (writing_of p.form) r.memory r.moment.state))
      ∙ way-report p (written ++ filled) way over

  -- where no event is left, the player stands for the state at the end of the run
  pub way-last-with : (p : PlayerOf R C) (text : List ℕ) (way : IsOnItsWayWith stream c stands s f p text) → IsOverWith stream c stands p
      → StandsFor p.world (last_state_with c s)
  way-last-with p text way over =
      let first = start_with c s in
      subst (StandsFor p.world)
      (onward-state c first way.made ∙ ap (λ es. run (opening s.setup) (with_puts c first es)) (sym (way-all p text way over)))
      way.stands.world.state

-- the same without callbacks
module _ {R : Type 0} (stream : R → Stream) (s : ScriptValue) (f : Form) where
  pub way-on : (a b : PlayerView R) (text added : List ℕ) → IsOnItsWay stream s f a text → GoesOn stream a b [] added
      → IsOnItsWay stream s f b (text ++ added)
  way-on = way-on-with stream no_callbacks AnyState s f

  pub way-prefix : (p : PlayerView R) (text : List ℕ) → IsOnItsWay stream s f p text
      → (rest : List ℕ) × (report (writing_of f) s ≡ text ++ rest)
  way-prefix p text way =
      let more = way-prefix-with stream no_callbacks AnyState s f p text way in
      (more.0, sym (report-alone (writing_of f) s) ∙ more.1)

  pub way-finished : (p : PlayerView R) (written filled last : List ℕ) → IsOnItsWay stream s f p (written ++ filled) → IsOver stream p
      → WritesLast stream p filled last → written ++ last ≡ report (writing_of f) s
  way-finished p written filled last way over ends =
      way-finished-with stream no_callbacks AnyState s f p written filled last way over ends ∙ report-alone (writing_of f) s

  pub way-last : (p : PlayerView R) (text : List ℕ) (way : IsOnItsWay stream s f p text) → IsOver stream p
      → StandsFor p.world (last_state s)
  way-last p text way over = subst (StandsFor p.world) (last_state-alone s) (way-last-with stream no_callbacks AnyState s f p text way over)
