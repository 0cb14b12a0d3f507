-- Events, parts and commands, and then others.
use Rattle.std.specs.Prelude.{◌≡◌, List, [], ◌∷◌, ◌++◌, refl, ℕ}
use Rattle.damon_core.specs.Event.{Event}
use Rattle.script_run.specs.Going.{Going, onward}
use Rattle.std.proofs.Common.{◌∙◌, ap, sym, append-nil, append_assoc, subst}
use Rattle.script_lines.specs.Command.{CommandValue, Touch, Sweep, Step, Arm, Finish, Show, Commit}
use Rattle.script_run.specs.Unfold.{command_events, commands_events}
use Rattle.damon_core.specs.Reached.{AllFit, Reached, run}
use Rattle.damon_world.specs.Moment.{Moment, along}
use Rattle.damon_world.proofs.Lemmas.{Reached-along, along-append, along-state}
use Rattle.script_run.specs.Callbacks.{Callbacks, put_after}
use Rattle.script_run.specs.Course.{Course, course_after, going_with, with_puts}
use Rattle.damon_core.specs.State.{State}
use Rattle.damon_core.specs.After.{after}
use Rattle.snapshot_print.specs.Writing.{Writing}
use Rattle.script_run.specs.Report.{event_text, events_text}
use Rattle.script_run.specs.RunWith.{lines_after, text_from}
use Rattle.script_run.specs.Parts.{part_of, parts_of, part_events, parts_events}
use Rattle.script_run.specs.Part.{Part}

-- the place after events and then others
pub onward-append : {A : Type 0} (g : Going A) (a : A) (es fs : List Event) → onward g a (es ++ fs) ≡ onward g (onward g a es) fs
onward-append g a [] fs = refl
onward-append g a (e ∷ es) fs = onward-append g (g.next a e) es fs

-- the events of one command more
pub commands_events-more : {A : Type 0} (g : Going A) (cap : ℕ) (a : A) (cs : List CommandValue) (d : CommandValue)
    → (let es = commands_events g cap a cs in commands_events g cap a (cs ++ d ∷ []) ≡ es ++ command_events g cap (onward g a es) d)
commands_events-more g cap a [] d = append-nil (command_events g cap a d)
commands_events-more g cap a (c ∷ cs) d =
    let es = command_events g cap a c in
    let b = onward g a es in
    let fs = commands_events g cap b cs in
    ap (λ xs. es ++ xs) (commands_events-more g cap b cs d)
    ∙ sym (append_assoc es fs (command_events g cap (onward g b fs) d))
    ∙ ap (λ x. (es ++ fs) ++ command_events g cap x d) (sym (onward-append g a es fs))

module _ (c : Callbacks) where
  -- what is put in after events and then others
  pub with_puts-append : (r : Course) (es fs : List Event) → with_puts c r (es ++ fs) ≡ with_puts c r es ++ with_puts c (onward (going_with c) r es) fs
  with_puts-append r [] fs = refl
  with_puts-append r (e ∷ es) fs =
      let ps = put_after c r.memory r.moment.state e in
      let q = course_after c r e in
      ap (λ xs. e ∷ (ps ++ xs)) (with_puts-append q es fs)
      ∙ ap (λ xs. e ∷ xs) (sym (append_assoc ps (with_puts c q es) (with_puts c (onward (going_with c) q es) fs)))

  -- the moment of the course after events is that after all that were made
  pub onward-moment : (r : Course) (es : List Event) → (onward (going_with c) r es).moment ≡ along r.moment (with_puts c r es)
  onward-moment r [] = refl
  onward-moment r (e ∷ es) =
      let ps = put_after c r.memory r.moment.state e in
      let q = course_after c r e in
      onward-moment q es ∙ sym (along-append r.moment (e ∷ ps) (with_puts c q es))

  -- the same of its state
  pub onward-state : (r : Course) (es : List Event) → (onward (going_with c) r es).moment.state ≡ run r.moment.state (with_puts c r es)
  onward-state r es = ap (λ (m : Moment). m.state) (onward-moment r es) ∙ along-state r.moment (with_puts c r es)

  -- it is reached where the events fit
  pub Reached-onward : (r : Course) (es : List Event) → Reached r.moment.state → AllFit r.moment.state (with_puts c r es) → Reached (onward (going_with c) r es).moment.state
  Reached-onward r es reached fit =
      subst (λ (m : Moment). Reached m.state) (sym (onward-moment r es)) (Reached-along r.moment (with_puts c r es) reached fit)

-- the text of events and then others
pub events_text-append : (w : Writing) (s : State) (es fs : List Event)
    → events_text w s (es ++ fs) ≡ events_text w s es ++ events_text w (run s es) fs
events_text-append w s [] fs = refl
events_text-append w s (e ∷ es) fs =
    let own = event_text w s e in
    ap (λ t. own ++ t) (events_text-append w (after s e) es fs)
    ∙ sym (append_assoc own (events_text w (after s e) es) (events_text w (run (after s e) es) fs))

-- the text of events and then others
pub text_from-append : (c : Callbacks) (w : Writing) (r : Course) (es fs : List Event)
    → text_from c w r (es ++ fs) ≡ text_from c w r es ++ text_from c w (onward (going_with c) r es) fs
text_from-append c w r [] fs = refl
text_from-append c w r (e ∷ es) fs =
    let own = event_text w r.moment.state e in
    let lines = lines_after c r e in
    let more = events_text w (after r.moment.state e) (put_after c r.memory r.moment.state e) in
    let q = course_after c r e in
    let rest = text_from c w q es in
    let last = text_from c w (onward (going_with c) q es) fs in
    ap (λ t. own ++ (lines ++ (more ++ t))) (text_from-append c w q es fs)
    ∙ ap (λ t. own ++ (lines ++ t)) (sym (append_assoc more rest last))
    ∙ ap (λ t. own ++ t) (sym (append_assoc lines (more ++ rest) last))
    ∙ sym (append_assoc own (lines ++ (more ++ rest)) last)

-- the events of a command are those of its part
command_is_part : {A : Type 0} (g : Going A) (cap : ℕ) (a : A) (c : CommandValue) → command_events g cap a c ≡ part_events g a (part_of cap c)
command_is_part g cap a (Touch page) = refl
command_is_part g cap a (Sweep from to) = refl
command_is_part g cap a (Step times) = refl
command_is_part g cap a Arm = refl
command_is_part g cap a Finish = refl
command_is_part g cap a Show = refl
command_is_part g cap a (Commit parts) = refl

-- the same of commands
pub commands_are_parts : {A : Type 0} (g : Going A) (cap : ℕ) (a : A) (cs : List CommandValue)
    → commands_events g cap a cs ≡ parts_events g a (parts_of cap cs)
commands_are_parts g cap a [] = refl
commands_are_parts g cap a (c ∷ cs) =
    let es = command_events g cap a c in
    ap (λ fs. es ++ fs) (commands_are_parts g cap (onward g a es) cs)
    ∙ ap (λ (fs : List Event). fs ++ parts_events g (onward g a fs) (parts_of cap cs)) (command_is_part g cap a c)

-- the events of parts and then others
pub parts_events-append : {A : Type 0} (g : Going A) (a : A) (ps qs : List Part)
    → parts_events g a (ps ++ qs) ≡ parts_events g a ps ++ parts_events g (onward g a (parts_events g a ps)) qs
parts_events-append g a [] qs = refl
parts_events-append g a (p ∷ ps) qs =
    let es = part_events g a p in
    let b = onward g a es in
    let fs = parts_events g b ps in
    ap (λ xs. es ++ xs) (parts_events-append g b ps qs)
    ∙ sym (append_assoc es fs (parts_events g (onward g b fs) qs))
    ∙ ap (λ x. (es ++ fs) ++ parts_events g x qs) (sym (onward-append g a es fs))
