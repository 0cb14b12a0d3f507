-- What a player played, one command after another.
use Rattle.std.specs.Prelude.{◌≡◌, ℕ, List, [], ◌∷◌, ◌++◌}
use Rattle.std.proofs.Common.{◌∙◌, ap, sym, subst, append-nil, append_assoc}
use Rattle.std.proofs.lemmas.List.{map-append}
use Rattle.rand_core.specs.Stream.{Stream}
use Rattle.damon_core.specs.State.{opening}
use Rattle.damon_world.specs.Stands.{StandsFor}
use Rattle.script_lines.specs.Command.{CommandValue}
use Rattle.damon_control.specs.Script.{ScriptValue}
use Rattle.snapshot_print.specs.declared.form.Form.{Form}
use Rattle.snapshot_print.specs.Forms.{writing_of}
use Rattle.script_run.proofs.Alone.{own_events-alone, text_from-alone}
use Rattle.script_run.specs.Callbacks.{no_callbacks}
use Rattle.script_run.specs.Course.{going_with}
use Rattle.script_run.specs.Going.{onward}
use Rattle.script_run.proofs.Continuing.{commands_are_parts, onward-append, parts_events-append}
use Rattle.script_run.specs.Part.{Part}
use Rattle.script_run.specs.Parts.{part_of, parts_events, parts_of}
use Rattle.script_run.specs.Player.{AnyState, GoesOnWith, PlayerView, WritesLast, left_events}
use Rattle.script_run.specs.Report.{events_text, last_state, report}
use Rattle.script_run.specs.RunWith.{own_events, start_with, text_from}
use Rattle.script_run.specs.Way.{IsOnItsWay}
use Rattle.script_run.proofs.Ways.{way-finished, way-last, way-on}
use Rattle.script_run.specs.Played.{with_later, PlaysNextWith, up_to, commands_text, HasPlayed}

module _ {R : Type 0} (stream : R → Stream) (s : ScriptValue) (f : Form) where
  -- all that was written is the text of the commands that were carried out
  pub played-text : (cs : List CommandValue) (p : PlayerView R) (text : List ℕ) → HasPlayed stream s f cs p text
      → text ≡ commands_text (writing_of f) (up_to s cs)
  played-text cs p text played =
      let way = played.way in
      let w = writing_of f in
      let first = start_with no_callbacks s in
      let all : own_events no_callbacks (up_to s cs) ≡ way.made =
      way.left ∙ ap (λ es. way.made ++ es) (played.over (onward (going_with no_callbacks) first way.made) way.stands) ∙ append-nil way.made in
      way.written
      ∙ ap (text_from no_callbacks w first) (sym all)
      ∙ text_from-alone w first (own_events no_callbacks (up_to s cs))
      ∙ ap (events_text w (opening s.setup)) (own_events-alone (up_to s cs))

  -- the player stands for the state after these commands
  pub played-state : (cs : List CommandValue) (p : PlayerView R) (text : List ℕ) → HasPlayed stream s f cs p text
      → StandsFor p.world (last_state (up_to s cs))
  played-state cs p text played = way-last stream (up_to s cs) f (with_later p []) text played.way played.over

  -- where one command more is allowed, the player is on its way through these
  more_allowed : (cs : List CommandValue) (d : CommandValue) (p : PlayerView R) (text : List ℕ) → HasPlayed stream s f cs p text
      → IsOnItsWay stream (up_to s (cs ++ d ∷ [])) f (with_later p (part_of s.setup.cap d ∷ [])) text
  more_allowed cs d p text played =
      let c = no_callbacks in
      let g = going_with c in
      let way = played.way in
      let first = start_with c s in
      let r = onward g first way.made in
      let next : List Part = part_of s.setup.cap d ∷ [] in
      let none = left_events c (with_later p []) r in
      let made_all : parts_events g first (parts_of s.setup.cap cs) ≡ way.made ++ none =
      sym (commands_are_parts g s.setup.cap first cs) ∙ way.left in
      record {
        can_open = way.can_open;
        made = way.made;
        fit = way.fit;
        stands = way.stands;
        left =
            commands_are_parts g s.setup.cap first (cs ++ d ∷ [])
            ∙ ap (parts_events g first) (map-append (part_of s.setup.cap) cs (d ∷ []))
            ∙ parts_events-append g first (parts_of s.setup.cap cs) next
            ∙ ap (λ es. es ++ parts_events g (onward g first es) next) made_all
            ∙ append_assoc way.made none (parts_events g (onward g first (way.made ++ none)) next)
            ∙ ap (λ x. way.made ++ (none ++ parts_events g x next)) (onward-append g first way.made none)
            ∙ ap (λ es. way.made ++ es) (sym (parts_events-append g r (p.part ∷ []) next));
        written = way.written;
        form = way.form;
      }

  -- the next command is played
  pub played-next : (cs : List CommandValue) (p q : PlayerView R) (text added : List ℕ) → HasPlayed stream s f cs p text
      → PlaysNextWith stream no_callbacks AnyState p q [] added
      → (d : CommandValue) × (rest : List CommandValue) × (s.commands ≡ cs ++ (d ∷ rest))
      × HasPlayed stream s f (cs ++ d ∷ []) q (text ++ added)
  played-next cs p q text added played next = by_rest played.rest played.all (sym played.later ∙ next.first)
    where
      by_rest : (rest : List CommandValue) → s.commands ≡ cs ++ rest → parts_of s.setup.cap rest ≡ next.next ∷ q.later
          → (d : CommandValue) × (more : List CommandValue) × (s.commands ≡ cs ++ (d ∷ more))
          × HasPlayed stream s f (cs ++ d ∷ []) q (text ++ added)
      by_rest [] all is = absurd (cc is)
      by_rest (d ∷ more) all is =
          let head : part_of s.setup.cap d ≡ next.next = cc is in
          let tail : parts_of s.setup.cap more ≡ q.later = cc is in
          let old = with_later p (part_of s.setup.cap d ∷ []) in
          let on = subst (λ n. GoesOnWith stream no_callbacks AnyState (with_later p (n ∷ [])) (with_later q []) [] added) (sym head) next.on in (
            d,
            more,
            all,
            record {
              way = way-on stream (up_to s (cs ++ d ∷ [])) f old (with_later q []) text added (more_allowed cs d p text played) on;
              over = next.over;
              done = next.done;
              rest = more;
              all = all ∙ sym (append_assoc cs (d ∷ []) more);
              later = sym tail;
            },
          )

  -- once all commands are played, the last line ends the report
  pub played-report : (p : PlayerView R) (text last : List ℕ) → HasPlayed stream s f s.commands p text → WritesLast stream p [] last
      → text ++ last ≡ report (writing_of f) s
  played-report p text last played ends =
      let q = with_later p [] in
      way-finished stream s f q text [] last (subst (IsOnItsWay stream s f q) (sym (append-nil text)) played.way) played.over ends
