-- What the monitor of a context stands for.
use Rattle.std.proofs.Common.{◌≡◌, ℕ, List, [], ◌++◌, sym, ap, ◌∙◌, subst, arith, append-nil, take, drop, Bool, false, Some, None}
use Rattle.std.specs.Borrow.{Bor}
use Rattle.std.specs.Prelude.{IfSome, Option, slice_get}
use Rattle.std.proofs.lemmas.List.Sums.{sum_by-append}
use Rattle.std.proofs.lemmas.List.{take-append-drop}
use Rattle.rand_core.specs.Steps.{stream_of, steps_u32}
use Rattle.rand_pcg.specs.Lcg.{Lcg}
use Rattle.rand_pcg.specs.Pcg.{pcg32}
use Rattle.damon_types.specs.Space.{pages_of}
use Rattle.damon_types.proofs.Lemmas.{all_parts}
use Rattle.script_lines.specs.Command.{CommandValue, weight, work_of}
use Rattle.script_lines.specs.Limits.{AreCommandsWithin, IsCommandWithin}
use Rattle.snapshot_print.specs.declared.form.Form.TheVariants.{Text}
use Rattle.damon_core.specs.Bound.{Bound}
use Rattle.damon_core.specs.Stands.{MonitorView}
use Rattle.damon_control.specs.Script.{AtEnd, AtHeader, ScriptValue}
use Rattle.damon_control.specs.Sound.{IsSound, ScriptsAreSound}
use Rattle.script_run.specs.BoundAlong.{EachScriptIsBound}
use Rattle.script_run.specs.Played.{up_to}
use Rattle.script_run.proofs.Lemmas.{played-state}
use Rattle.script_run.specs.Player.{PlayerView}
use Rattle.script_run.specs.Report.{last_state}
use Rattle.script_run.specs.Unfold.{unfold_script}
use Rattle.damon_admin.specs.declared.context.Context.{Context}
use Rattle.damon_admin.specs.declared.context.Context.TheVariants.{Faulty, Running}
use Rattle.damon_admin.specs.declared.stage.Stage.{Stage}
use Rattle.damon_admin.specs.Admin.{AdminView, IsMonitorOf, IsScript, all_lines}
use Rattle.damon_admin.specs.Kept.{IsAdmin, IsContext, IsOfKind, IsRunning, Knows, admin_of, or_none}
use Rattle.damon_admin.specs.Laws.{ContextsAreBound}
use Rattle.damon_admin.specs.Lines.{context_text, lines_of}
use Rattle.damon_admin.specs.Written.{commands_at, place_from, place_of}
use Rattle.damon_admin.proofs.Contexts.{lines_of-append, pieces_of}
use Rattle.damon_admin.proofs.Places.{first_commands, place_from-append, script_leads}
use Rattle.damon_admin.proofs.Words.{bind-Ok}

-- the first commands of a script within its limits are one
sound_first : (s : ScriptValue) (cs rest : List CommandValue) → IsSound s → s.commands ≡ cs ++ rest → IsSound (up_to s cs)
sound_first s cs rest sound is = record {
  space = sound.space;
  setup = sound.setup;
  order = sound.order;
  commands = (all_parts (IsCommandWithin (pages_of s.setup.space)) cs rest (subst (AreCommandsWithin (pages_of s.setup.space)) is sound.commands)).0;
  work = omega (arith, sound.work, ap (work_of s.setup.cap) is, sum_by-append (weight s.setup.cap) cs rest);
}

-- the state after them is bound
bound_first : EachScriptIsBound → (s : ScriptValue) (cs rest : List CommandValue) → IsSound s → s.commands ≡ cs ++ rest → Bound (last_state (up_to s cs))
bound_first each s cs rest sound is =
    let t = up_to s cs in
    let events = unfold_script t in
    (each t (sound_first s cs rest sound is)).bound events [] (sym (append-nil events))

-- so it is after the first lines of each script
pub bound_at : ScriptsAreSound → EachScriptIsBound → ContextsAreBound
bound_at sound each input lines said context s spells done left is =
    let own = lines_of context lines in
    let before = lines_of context done in
    let later = lines_of context left in
    let led = script_leads own s (pieces_of input lines said context) spells in
    let split = bind-Ok (place_of before) (λ p. place_from p later) (AtEnd s)
    (sym (place_from-append AtHeader before later) ∙ ap place_of (sym (ap (lines_of context) is ∙ lines_of-append context done left)) ∙ led) in
    let first = first_commands split.0 later s split.2 in
    record {
      place = split.0;
      so_far = split.1;
      bound = bound_first each s (commands_at split.0) first.0 (sound (context_text context lines) s spells) first.1;
    }

-- the monitor of a player whose script is played as far as the lines of its context came
pub monitor_of : ScriptsAreSound → EachScriptIsBound → (context : ℕ) (a : AdminView) (player : PlayerView Lcg) (stage : Stage)
    → IsRunning (lines_of context (all_lines a)) (lines_of context a.done) player stage → IsMonitorOf context a player.world.monitor
monitor_of sound each context a player stage running =
    let s = running.script in
    let cs = commands_at running.place in
    let limits = sound (context_text context (all_lines a)) s running.said in
    record {
      script = s;
      said = running.said;
      place = running.place;
      so_far = running.so_far;
      stands = (played-state (stream_of (steps_u32 pcg32)) s Text cs player running.text running.played).monitor;
      bound = bound_first each s cs running.played.rest limits running.played.all;
    }

-- ---- what is known of a context

pub record IsKnown (context : ℕ) (a : AdminView) (r : Option (Bor MonitorView)) : Type 0 where
  pub some : IfSome r (λ m. IsScript context a)
  pub none : r ≡ None → IsScript context a → ⊥
  pub stands : IfSome r (λ m. a.failed ≡ false → IsMonitorOf context a m.now)

known_as : ScriptsAreSound → EachScriptIsBound → (context : ℕ) (a : AdminView) (x : Context) (r : Option (Bor MonitorView)) → Knows x r
    → IsOfKind (lines_of context (all_lines a)) x
    → (a.failed ≡ false → IsContext (lines_of context (all_lines a)) (lines_of context a.done) x) → IsKnown context a r
known_as sound each context a (Faulty fault left) None knows kind here = record {
  some = tt;
  none = λ is script. cc (kind, script.1);
  stands = tt;
}
known_as sound each context a (Faulty fault left) (Some m) knows kind here = absurd knows
known_as sound each context a (Running player stage) None knows kind here = absurd knows
known_as sound each context a (Running player stage) (Some m) knows kind here = record {
  some = kind;
  none = λ is script. cc is;
  stands = λ ready. subst (IsMonitorOf context a) (sym knows) (monitor_of sound each context a player stage (here ready));
}

pub known : ScriptsAreSound → EachScriptIsBound → (input : List ℕ) (at done : ℕ) (failed : Bool) (xs : List Context) → IsAdmin input at done failed xs
    → (a : AdminView) → admin_of input done failed ≡ a → (context : ℕ) (x : Context) (r : Option (Bor MonitorView)) → slice_get xs context ≡ Some x → Knows x r
    → IsKnown context a r
known sound each input at done failed xs is a view context x r here knows =
    let lines = is.lines in
    let done_is : take done lines ≡ a.done = ap (λ s. take done (or_none s)) (sym is.said) ∙ ap (λ (v : AdminView). v.done) view in
    let left_is : drop done lines ≡ a.left = ap (λ s. drop done (or_none s)) (sym is.said) ∙ ap (λ (v : AdminView). v.left) view in
    let all_is : lines ≡ all_lines a =
    sym (take-append-drop done lines) ∙ ap (λ ls. ls ++ drop done lines) done_is ∙ ap (λ ls. a.done ++ ls) left_is in
    known_as sound each context a x r knows (subst (λ ls. IsOfKind (lines_of context ls) x) all_is (is.kinds context x here))
    (λ ready. subst (λ ls. IsContext (lines_of context (all_lines a)) (lines_of context ls) x) done_is
    (subst (λ ls. IsContext (lines_of context ls) (lines_of context (take done lines)) x) all_is
    (is.each (ap (λ (v : AdminView). v.failed) view ∙ ready) context x here)))
