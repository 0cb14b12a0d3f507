-- What contexts keep. No public clause cites this file.
use Rattle.std.specs.Prelude.{◌≡◌, ◌≢◌, ◌⊎◌, ℕ, ◌+◌, ◌<◌, ◌≤◌, Bool, true, false, List, [], ◌∷◌, ◌++◌, All, drop, length, take, Option, Some, None, Ok, Err, Result, slice_get}
use Rattle.std.specs.Borrow.{Bor}
use Rattle.rand_core.specs.Steps.{stream_of, steps_u32}
use Rattle.rand_pcg.specs.Lcg.{Lcg}
use Rattle.rand_pcg.specs.Pcg.{pcg32}
use Rattle.damon_core.specs.Stands.{MonitorView}
use Rattle.line_text.specs.Parts.{IsPiece, parts}
use Rattle.script_lines.specs.declared.kind.ScriptKind.{ScriptKind}
use Rattle.script_lines.specs.Lines.{lines_text}
use Rattle.script_lines.specs.Refusal.{◌>>=◌}
use Rattle.snapshot_print.specs.declared.form.Form.TheVariants.{Text}
use Rattle.damon_control.specs.declared.fault.ScriptFault.{ScriptFault}
use Rattle.damon_control.specs.declared.grammar.Grammar.TheVariants.{OfScript}
use Rattle.damon_control.specs.Script.{Place, ScriptValue, script_of}
use Rattle.script_run.specs.Callbacks.{no_callbacks}
use Rattle.script_run.specs.Parts.{is_done}
use Rattle.script_run.specs.Played.{HasPlayed, PlaysNextWith}
use Rattle.script_run.specs.Player.{AnyState, PlayerView, WritesLast}
use Rattle.damon_admin.specs.declared.context.Context.{Context}
use Rattle.damon_admin.specs.declared.context.Context.TheVariants.{Faulty, Running}
use Rattle.damon_admin.specs.declared.gather.Gathered.{Gathered}
use Rattle.damon_admin.specs.declared.lines.OwnLine.{OwnLine}
use Rattle.damon_admin.specs.declared.lines.TakenLine.{TakenLine}
use Rattle.damon_admin.specs.declared.stage.Stage.{Stage}
use Rattle.damon_admin.specs.declared.stage.Stage.TheVariants.{Setup, Body, Commit, End}
use Rattle.damon_admin.specs.Admin.{AdminView}
use Rattle.damon_admin.specs.Lines.{ContextLine, context_text, lines_of, lines_said, split_from}
use Rattle.damon_admin.specs.Stage.{stage_of}
use Rattle.damon_admin.specs.Written.{commands_at, gained, place_of}

-- ---- lines

-- what a line of the program says
abbrev pub line_value : OwnLine → ContextLine
line_value l = record { context = l.context; line = l.line.now }

-- what a line says that was read, or why it was refused
abbrev pub line_said : Result OwnLine ScriptKind → Result ContextLine ScriptKind
line_said (Ok own) = Ok (line_value own)
line_said (Err kind) = Err kind

-- a line was taken from the front of a text, whose first line is line n of the input
pub record IsTaken (n : ℕ) (text : List ℕ) (t : TakenLine) : Type 0 where
  pub inside : t.used ≤ length text
  pub room : length t.own.line.now + 1 ≤ t.used
  pub context : t.own.context < 8
  pub splits :
      split_from n (parts 10 text)
      ≡ (split_from (n + 1) (parts 10 (drop t.used text)) >>= λ others. Ok (line_value t.own ∷ others))

-- ---- what is gathered

-- a context was gathered from these lines of the input: the text of its own, and their number
pub record IsGathered (context : ℕ) (lines : List ContextLine) (g : Gathered) : Type 0 where
  pub text : g.text.items ≡ context_text context lines
  pub count : g.lines ≡ length (lines_of context lines)

-- each of the eight contexts was
pub record AreGathered (lines : List ContextLine) (gs : List Gathered) : Type 0 where
  pub eight : length gs ≡ 8
  pub each : (context : ℕ) (g : Gathered) → slice_get gs context ≡ Some g → IsGathered context lines g

-- no text is longer than this
abbrev pub AreWithin : ℕ → List Gathered → Type 0
AreWithin most gs = All (λ g. length g.text.items ≤ most) gs

-- ---- a context

-- A script that was played up to a place: its commands so far are carried out, and nothing of another.
pub record IsRunning (own done : List (List ℕ)) (player : PlayerView Lcg) (stage : Stage) : Type 0 where
  pub script : ScriptValue
  pub said : script_of (lines_text own) ≡ Ok script
  pub place : Place OfScript
  pub so_far : place_of done ≡ Ok place
  pub stage_is : stage_of place ≡ stage
  pub text : List ℕ
  pub played : HasPlayed (stream_of (steps_u32 pcg32)) script Text (commands_at place) player text

-- a context with these lines of its own, of which the first are done
abbrev pub IsContext : (own done : List (List ℕ)) → Context → Type 0
IsContext own done (Faulty fault left) = (script_of (lines_text own) ≡ Err fault) × (left + length done ≡ length own)
IsContext own done (Running player stage) = IsRunning own done player stage

-- whether it runs a script, however far
abbrev pub IsOfKind : List (List ℕ) → Context → Type 0
IsOfKind own (Faulty fault left) = script_of (lines_text own) ≡ Err fault
IsOfKind own (Running player stage) = (s : ScriptValue) × (script_of (lines_text own) ≡ Ok s)

-- it was opened from what was gathered
abbrev pub IsOpened : Gathered → Context → Type 0
IsOpened g x = (own : List (List ℕ)) → g.text.items ≡ lines_text own → g.lines ≡ length own → IsContext own [] x

-- the same of each
abbrev pub AreOpened : List Gathered → List Context → Type 0
AreOpened [] [] = Unit {0}
AreOpened (g ∷ gs) (x ∷ xs) = IsOpened g x × AreOpened gs xs
AreOpened _ _ = ⊥

-- some lines of a context are done, this one is next, and none of them has an LF
pub record IsNext (own done : List (List ℕ)) (line : List ℕ) : Type 0 where
  pub later : List (List ℕ)
  pub all : own ≡ done ++ (line ∷ later)
  pub pieces : All (IsPiece 10) own

-- the line may be the next of a context
abbrev pub MayGoOn : List ℕ → Context → Type 0
MayGoOn line x = (own done : List (List ℕ)) × IsNext own done line × IsContext own done x

-- it was the next of the context, which wrote this text
abbrev pub GoesOn : List ℕ → Context → Context → List ℕ → Type 0
GoesOn line old new text = (own done : List (List ℕ)) → IsNext own done line → IsContext own done old
    → IsContext own (done ++ line ∷ []) new × (text ≡ gained own done line)

-- nothing is left of the last command that was played, and another is left
pub record MayPlay (player : PlayerView Lcg) : Type 0 where
  pub done : is_done player.part player.world.monitor.core.phase ≡ true
  pub some : 1 ≤ length player.later

-- a line completed a command, which was played; or it was the end, after which the last line was written; or it did neither
abbrev pub Plays : Bool → Stage → PlayerView Lcg → PlayerView Lcg → List ℕ → List ℕ → Type 0
Plays true after old new before text = PlaysNextWith (stream_of (steps_u32 pcg32)) no_callbacks AnyState old new before text
Plays false End old new before text = (new ≡ old) × WritesLast (stream_of (steps_u32 pcg32)) old before text
Plays false Setup old new before text = (new ≡ old) × (text ≡ before)
Plays false Body old new before text = (new ≡ old) × (text ≡ before)
Plays false Commit old new before text = (new ≡ old) × (text ≡ before)

-- the same of a script that is played
abbrev pub MayRun : List ℕ → PlayerView Lcg → Stage → Type 0
MayRun line player stage = (own done : List (List ℕ)) × IsNext own done line × IsRunning own done player stage

-- it was the next of the script, which wrote this text
abbrev pub RunsOn : List ℕ → PlayerView Lcg → Stage → PlayerView Lcg → Stage → List ℕ → Type 0
RunsOn line old stage new after text = (own done : List (List ℕ)) → IsNext own done line → IsRunning own done old stage
    → IsRunning own (done ++ line ∷ []) new after × (text ≡ gained own done line)

-- the line may be the next of one of the contexts
abbrev pub MayGoOnAt : ℕ → List ℕ → List Context → Type 0
MayGoOnAt context line xs = (x : Context) × (slice_get xs context ≡ Some x) × MayGoOn line x

-- it was, and the others stand as before
pub record GoesOnAt (context : ℕ) (line : List ℕ) (old new : List Context) (text : List ℕ) : Type 0 where
  pub before : Context
  pub after : Context
  pub was : slice_get old context ≡ Some before
  pub goes : GoesOn line before after text
  pub is :
      (i : ℕ) (x : Context) → slice_get new i ≡ Some x
      → ((i ≡ context) × (x ≡ after)) ⊎ ((i ≢ context) × (slice_get old i ≡ Some x))

-- each context runs a script where it did
pub record AreOfKind (old new : List Context) : Type 0 where
  pub size : length new ≡ length old
  pub each : (i : ℕ) (y : Context) → slice_get new i ≡ Some y
      → (x : Context) × (slice_get old i ≡ Some x) × ((own : List (List ℕ)) → IsOfKind own x → IsOfKind own y)

-- the monitor of the player, where a script is played
abbrev pub Knows : Context → Option (Bor MonitorView) → Type 0
Knows (Faulty fault left) None = Unit {0}
Knows (Running player stage) (Some m) = m.now ≡ player.world.monitor
Knows _ _ = ⊥

-- ---- all contexts

-- the lines that were said, or none
abbrev pub or_none : Result (List ContextLine) ScriptFault → List ContextLine
or_none (Ok lines) = lines
or_none (Err fault) = []

-- an input whose first `done` lines are done
abbrev pub admin_of : List ℕ → ℕ → Bool → AdminView
admin_of input done failed = record {
  done = take done (or_none (lines_said input));
  left = drop done (or_none (lines_said input));
  failed = failed;
}

-- What stands in the input from `at` on are the lines that are left; each context runs a script or has its fault; and until
-- memory runs out, each has done its lines so far.
pub record IsAdmin (input : List ℕ) (at done : ℕ) (failed : Bool) (contexts : List Context) : Type 0 where
  pub lines : List ContextLine
  pub said : lines_said input ≡ Ok lines
  pub here : (n : ℕ) → split_from n (parts 10 (drop at input)) ≡ Ok (drop done lines)
  pub inside : at ≤ length input
  pub few : done ≤ at
  pub eight : length contexts ≡ 8
  pub pieces : (c : ℕ) → All (IsPiece 10) (lines_of c lines)
  pub kinds : (c : ℕ) (x : Context) → slice_get contexts c ≡ Some x → IsOfKind (lines_of c lines) x
  pub each :
      failed ≡ false → (c : ℕ) (x : Context) → slice_get contexts c ≡ Some x
      → IsContext (lines_of c lines) (lines_of c (take done lines)) x
