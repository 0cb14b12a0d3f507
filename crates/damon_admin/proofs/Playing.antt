-- A context that does its next line.
use Rattle.std.proofs.Common.{◌≡◌, ◌≢◌, ℕ, ◌+◌, ◌-◌, Bool, true, false, List, [], ◌∷◌, ◌++◌, length, drop, Ok, refl, sym, ap, ◌∙◌, subst, arith, length-append, append-nil, append_assoc, ◌⊎◌, inl, inr}
use Rattle.std.proofs.lemmas.List.{append_cancel_left, length-map}
use Rattle.std.proofs.Math.Seq.{drop-append_seam}
use Rattle.rand_core.specs.Stream.{Stream}
use Rattle.rand_core.specs.Steps.{stream_of, steps_u32}
use Rattle.rand_pcg.specs.Lcg.{Lcg}
use Rattle.rand_pcg.specs.Pcg.{pcg32}
use Rattle.script_lines.specs.Command.{CommandValue}
use Rattle.script_lines.specs.Lines.{lines_text}
use Rattle.snapshot_print.specs.declared.form.Form.TheVariants.{Text}
use Rattle.snapshot_print.specs.Lines.{as_text}
use Rattle.damon_control.specs.declared.grammar.Grammar.TheVariants.{OfScript}
use Rattle.damon_control.specs.Script.{AtAttrs, AtCap, AtEnd, AtHeader, AtRanges, AtSchemes, AtSeed, AtTargets, AtUnit, InBody, InCommit, Place, ScriptValue, place_after, script_of}
use Rattle.script_run.specs.Callbacks.{no_callbacks}
use Rattle.script_run.specs.Part.{Part}
use Rattle.script_run.specs.Parts.{part_of}
use Rattle.script_run.specs.Played.{HasPlayed, PlaysNextWith, commands_text, up_to}
use Rattle.script_run.proofs.Lemmas.{played-next, played-report, played-text}
use Rattle.script_run.specs.Player.{AnyState, PlayerView, WritesLast}
use Rattle.damon_admin.specs.declared.stage.Stage.{Stage}
use Rattle.damon_admin.specs.declared.stage.Stage.TheVariants as stage
use Rattle.damon_admin.specs.Kept.{IsNext, IsRunning, MayPlay, Plays}
use Rattle.damon_admin.specs.Stage.{completes, stage_after, stage_of}
use Rattle.damon_admin.specs.Written.{commands_at, gained, place_from, place_of, written, written_as, written_at, written_where}
use Rattle.damon_admin.proofs.Places.{NextPlace, end_is_last, first_commands, next_place}
use Rattle.damon_admin.proofs.Steps.{IsSaid}

-- ---- what a script has written

-- a place at the end
pub record IsAtEnd (place : Place OfScript) : Type 0 where
  pub said : ScriptValue
  pub is : place ≡ AtEnd said

-- a place is the end, or the text of the commands so far is written there
pub end_or_amid : (s : ScriptValue) (place : Place OfScript)
    → IsAtEnd place ⊎ ((stage_of place ≢ stage.End) × (written_at s place ≡ commands_text as_text (up_to s (commands_at place))))
end_or_amid s AtHeader = inr ((λ e. cc e), refl)
end_or_amid s (AtSeed version) = inr ((λ e. cc e), refl)
end_or_amid s (AtUnit version seed) = inr ((λ e. cc e), refl)
end_or_amid s (AtCap version seed unit) = inr ((λ e. cc e), refl)
end_or_amid s (AtAttrs version seed unit cap) = inr ((λ e. cc e), refl)
end_or_amid s (AtTargets f targets) = inr ((λ e. cc e), refl)
end_or_amid s (AtRanges f targets ranges) = inr ((λ e. cc e), refl)
end_or_amid s (AtSchemes f targets ranges slots) = inr ((λ e. cc e), refl)
end_or_amid s (InBody b) = inr ((λ e. cc e), refl)
end_or_amid s (InCommit b commit) = inr ((λ e. cc e), refl)
end_or_amid s (AtEnd t) = inl (record { said = t; is = refl })

-- it is not the end where a line is accepted, or where the script is not over
pub text_before : (s : ScriptValue) (place next : Place OfScript) (line : List ℕ) → place_after OfScript place line ≡ Ok next
    → written_at s place ≡ commands_text as_text (up_to s (commands_at place))
text_before s place next line e =
    elim (end_or_amid s place) as (λ o. written_at s place ≡ commands_text as_text (up_to s (commands_at place))) [
      | inl it ↦ absurd (cc (ap (λ p. place_after OfScript p line) (sym it.is) ∙ e))
      | inr amid ↦ amid.1
    ]

text_amid : (s : ScriptValue) (place : Place OfScript) → stage_of place ≢ stage.End → written_at s place ≡ commands_text as_text (up_to s (commands_at place))
text_amid s place e =
    elim (end_or_amid s place) as (λ o. written_at s place ≡ commands_text as_text (up_to s (commands_at place))) [
      | inl it ↦ absurd (e (ap stage_of it.is))
      | inr amid ↦ amid.1
    ]

pub written_is : (own done : List (List ℕ)) (s : ScriptValue) (place : Place OfScript) → script_of (lines_text own) ≡ Ok s → place_of done ≡ Ok place
    → written own done ≡ written_at s place
written_is own done s place said so_far = ap (written_as own done) said ∙ ap (written_where s) so_far

-- what is gained is what was added
gained_is : (own done : List (List ℕ)) (line old added : List ℕ) → written own done ≡ old → written own (done ++ line ∷ []) ≡ old ++ added
    → added ≡ gained own done line
gained_is own done line old added before after =
    sym (ap (λ t. drop (length t) (written own (done ++ line ∷ []))) before ∙ ap (drop (length old)) after ∙ drop-append_seam old added)

-- no line that ends a script completes a command
pub no_end : (a : Stage) → completes a stage.End ≢ true
no_end stage.Setup e = cc e
no_end stage.Body e = cc e
no_end stage.Commit e = cc e
no_end stage.End e = cc e

-- the random words of a player
abbrev words : Lcg → Stream
words = stream_of (steps_u32 pcg32)

-- ---- the next line of a script

module _ (own done : List (List ℕ)) (line : List ℕ) (player : PlayerView Lcg) (now : Stage) (is_next : IsNext own done line)
    (running : IsRunning own done player now) where
  step : NextPlace running.script running.place done line
  step = next_place own done is_next.later line running.script running.place is_next.pieces is_next.all running.said running.so_far

  stage_is : stage_of step.next ≡ stage_after now line
  stage_is = step.steps.stage ∙ ap (λ a. stage_after a line) running.stage_is

  -- what the line says, by the stages that the program knows
  said : IsSaid (completes now (stage_after now line)) (commands_at running.place) (commands_at step.next)
  said =
      let P : Stage → Stage → Type 0 = λ a b. IsSaid (completes a b) (commands_at running.place) (commands_at step.next) in
      subst (λ a. P a (stage_after now line)) running.stage_is (subst (λ b. P (stage_of running.place) b) stage_is step.steps.said)

  said_as : (b : Bool) → completes now (stage_after now line) ≡ b → IsSaid b (commands_at running.place) (commands_at step.next)
  said_as b is = subst (λ t. IsSaid t (commands_at running.place) (commands_at step.next)) is said

  text_is : written own done ≡ running.text
  text_is =
      written_is own done running.script running.place running.said running.so_far
      ∙ text_before running.script running.place step.next line step.accepted
      ∙ sym (played-text words running.script Text (commands_at running.place) player running.text running.played)

  -- a command that is completed is there to be played
  pub may_play : completes now (stage_after now line) ≡ true → MayPlay player
  may_play whole =
      let cs = commands_at running.place in
      let c = said_as true whole in
      let more = first_commands step.next step.later running.script step.end in
      let played = running.played in
      let size : List CommandValue → ℕ = λ xs. length xs in
      record {
        done = played.done;
        some =
            omega (
              arith,
              ap size played.all,
              length-append cs played.rest,
              ap size more.1,
              length-append (commands_at step.next) more.0,
              ap size c.1,
              length-append cs (c.0 ∷ []),
              ap (λ (ps : List Part). length ps) played.later,
              length-map played.rest (part_of running.script.setup.cap),
            );
      }

  -- where no command is completed, as many are played as before
  same_played : commands_at step.next ≡ commands_at running.place
      → HasPlayed words running.script Text (commands_at step.next) player running.text
  same_played same = subst (λ cs. HasPlayed words running.script Text cs player running.text) (sym same) running.played

  -- so the player stands as before
  kept : commands_at step.next ≡ commands_at running.place → IsRunning own (done ++ line ∷ []) player (stage_after now line)
  kept same = record {
    script = running.script;
    said = running.said;
    place = step.next;
    so_far = step.to;
    stage_is = stage_is;
    text = running.text;
    played = same_played same;
  }

  abbrev pub Outcome : PlayerView Lcg → List ℕ → Type 0
  Outcome new text = IsRunning own (done ++ line ∷ []) new (stage_after now line) × (text ≡ gained own done line)

  -- a command is completed
  command : (new : PlayerView Lcg) (text : List ℕ) → completes now (stage_after now line) ≡ true
      → PlaysNextWith words no_callbacks AnyState player new [] text → Outcome new text
  command new text whole plays =
      let s = running.script in
      let cs = commands_at running.place in
      let c = said_as true whole in
      let more = first_commands step.next step.later s step.end in
      let next = played-next words s Text cs player new running.text text running.played plays in
      let tail : next.0 ∷ next.1 ≡ c.0 ∷ more.0 =
      append_cancel_left cs (next.0 ∷ next.1) (c.0 ∷ more.0)
      (sym next.2 ∙ more.1 ∙ ap (λ xs. xs ++ more.0) c.1 ∙ append_assoc cs (c.0 ∷ []) more.0) in
      let same : next.0 ≡ c.0 = cc tail in
      let played = subst (λ xs. HasPlayed words s Text xs new (running.text ++ text)) (ap (λ d. cs ++ d ∷ []) same ∙ sym c.1) next.3 in
      let amid : stage_of step.next ≢ stage.End = λ ends. no_end now (ap (completes now) (sym (sym stage_is ∙ ends)) ∙ whole) in (
        record {
          script = s;
          said = running.said;
          place = step.next;
          so_far = step.to;
          stage_is = stage_is;
          text = running.text ++ text;
          played = played;
        },
        gained_is own done line running.text text text_is
            (written_is own (done ++ line ∷ []) s step.next running.said step.to
            ∙ text_amid s step.next amid
            ∙ sym (played-text words s Text (commands_at step.next) new (running.text ++ text) played)),
      )

  -- nothing is completed
  quiet : (new : PlayerView Lcg) (text : List ℕ) → completes now (stage_after now line) ≡ false → stage_after now line ≢ stage.End
      → new ≡ player → text ≡ [] → Outcome new text
  quiet new text none amid same empty =
      let s = running.script in
      let there = kept (said_as false none) in (
        subst (λ p. IsRunning own (done ++ line ∷ []) p (stage_after now line)) (sym same) there,
        gained_is own done line running.text text text_is
            (written_is own (done ++ line ∷ []) s step.next running.said step.to
            ∙ text_amid s step.next (λ ends. amid (sym stage_is ∙ ends))
            ∙ sym (played-text words s Text (commands_at step.next) player running.text (same_played (said_as false none)))
            ∙ sym (append-nil running.text)
            ∙ ap (λ t. running.text ++ t) (sym empty)),
      )

  -- the script ends
  last : (new : PlayerView Lcg) (text : List ℕ) → completes now (stage_after now line) ≡ false → stage_after now line ≡ stage.End
      → new ≡ player → WritesLast words player [] text → Outcome new text
  last new text none ends same writes =
      let s = running.script in
      let there = kept (said_as false none) in
      let it : IsAtEnd step.next = elim (end_or_amid s step.next) as (λ o. IsAtEnd step.next) [ inl is ↦ is | inr amid ↦ absurd (amid.0 (stage_is ∙ ends)) ] in
      let all : it.said ≡ s = end_is_last it.said step.later s (subst (λ q. place_from q step.later ≡ Ok (AtEnd s)) it.is step.end) in
      let every : commands_at step.next ≡ s.commands = ap commands_at it.is ∙ ap (λ (t : ScriptValue). t.commands) all in
      let played = subst (λ cs. HasPlayed words s Text cs player running.text) every (same_played (said_as false none)) in (
        subst (λ p. IsRunning own (done ++ line ∷ []) p (stage_after now line)) (sym same) there,
        gained_is own done line running.text text text_is
            (written_is own (done ++ line ∷ []) s step.next running.said step.to
            ∙ ap (written_at s) it.is
            ∙ sym (played-report words s Text player running.text text played writes)),
      )

  -- what the program does at a line is what the line does
  pub runs : (new : PlayerView Lcg) (text : List ℕ) → Plays (completes now (stage_after now line)) (stage_after now line) player new [] text
      → Outcome new text
  runs new text plays = by (completes now (stage_after now line)) (stage_after now line) refl refl plays
    where
      by : (b : Bool) (after : Stage) → completes now (stage_after now line) ≡ b → stage_after now line ≡ after → Plays b after player new [] text
          → Outcome new text
      by true after whole to made = command new text whole made
      by false stage.End none to made = last new text none to made.0 made.1
      by false stage.Setup none to made = quiet new text none (λ ends. absurd (cc (to, ends))) made.0 made.1
      by false stage.Body none to made = quiet new text none (λ ends. absurd (cc (to, ends))) made.0 made.1
      by false stage.Commit none to made = quiet new text none (λ ends. absurd (cc (to, ends))) made.0 made.1

-- the same with what the program computed
pub runs_as : (own done : List (List ℕ)) (line : List ℕ) (player : PlayerView Lcg) (now : Stage) → IsNext own done line → IsRunning own done player now
    → (b : Bool) (after : Stage) (x : List ℕ) → b ≡ completes now (stage_after now line) → after ≡ stage_after now line → x ≡ []
    → (new : PlayerView Lcg) (text : List ℕ) → Plays b after player new x text
    → IsRunning own (done ++ line ∷ []) new after × (text ≡ gained own done line)
runs_as own done line player now next running b after x whole to empty new text plays =
    let one = subst (λ y. Plays b after player new y text) empty plays in
    let two = subst (λ a. Plays b a player new [] text) to one in
    let three = subst (λ t. Plays t (stage_after now line) player new [] text) whole two in
    let made = runs own done line player now next running new text three in
    (subst (λ a. IsRunning own (done ++ line ∷ []) new a) (sym to) made.0, made.1)
