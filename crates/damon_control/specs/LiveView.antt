-- What a live script and its parts show.
use Rattle.std.specs.Prelude.{◌≡◌, ◌≤◌, ℕ, ◌+◌, true, false, nat_le, List, [], ◌∷◌, ◌++◌, length, map, codes, Option, None, Some, Result}
use Rattle.damon_types.specs.Listed.{Listed}
use Rattle.live_commit.specs.Commit.{commit_value}
use Rattle.live_commit.specs.SetupView.{value_of}
use Rattle.damon_control.specs.declared.live.Call.{Call}
use Rattle.damon_control.specs.declared.live.Call.TheVariants.{Show, Commit}
use Rattle.damon_control.specs.declared.live.LiveScript.{LiveScript}
use Rattle.damon_control.specs.declared.fault.ScriptFault.{ScriptFault}
use Rattle.damon_control.specs.declared.grammar.Grammar.TheVariants.{OfLive}
use Rattle.damon_control.specs.declared.lines.Lines.{Lines}
use Rattle.damon_control.specs.declared.live.TheConstants.{MAX_CONTROLLERS, MAX_WORKERS}
use Rattle.damon_control.specs.Left.{first_begins, reads_left}
use Rattle.damon_control.specs.Live.{CallValue, CommitCall, LiveValue, ShowCall, call_within, count_all, has_controller}
use Rattle.script_lines.specs.declared.blocks.Pages.{Pages}
use Rattle.script_lines.specs.declared.blocks.TheConstants.{MAX_TOUCHES}
use Rattle.script_lines.specs.declared.kind.ScriptKind.{ScriptKind}
use Rattle.script_lines.specs.declared.kind.ScriptKind.TheVariants.{TooMuch}
use Rattle.script_lines.specs.Blocks.{block_line, page_list, touches_within}
use Rattle.script_lines.specs.Refusal.{◌>>=◌, only_if}
use Rattle.damon_control.specs.Script.{AtEnd, InBody, at}
use Rattle.script_lines.specs.Words.{alone}

-- what a call of the program says
abbrev pub call_value : Call → CallValue
call_value Show = ShowCall
call_value (Commit commit) = CommitCall (commit_value commit.value)

-- the pages of each trace
abbrev pub traces_of : List (Listed ℕ) → List (List ℕ)
traces_of traces = map (λ t. t.list) traces

-- the calls of each list
abbrev pub calls_of : List (Listed Call) → List (List CallValue)
calls_of lists = map (λ l. map call_value l.list) lists

-- what a live script says, without the proof of its limits
abbrev pub live_said : LiveScript → LiveValue
live_said s = record {
  seed = s.seed;
  setup = value_of s.setup;
  passes = s.passes;
  workers = traces_of s.workers.list;
  controllers = calls_of s.controllers.list;
}

-- a live script with these workers, and no controller
abbrev pub with_workers : LiveValue → List (List ℕ) → LiveValue
with_workers v workers = record v { workers = workers; controllers = [] }

-- a live script with these controllers
abbrev pub with_controllers : LiveValue → List (List CallValue) → LiveValue
with_controllers v controllers = record v { controllers = controllers }

-- what is said by a line that begins a worker after these, and the lines that are left after it
abbrev pub reads_worker : LiveValue → List (List ℕ) → List ℕ → Lines → Result LiveValue ScriptFault
reads_worker v ws line lines =
    at lines.taken (block_line (codes "worker") line (length ws) MAX_WORKERS) >>= λ _. reads_left OfLive (InBody (with_workers v (ws ++ [] ∷ []))) lines

-- the same of a line of touches of the last worker
abbrev pub reads_touches : LiveValue → List (List ℕ) → List ℕ → List ℕ → Lines → Result LiveValue ScriptFault
reads_touches v ws t line lines =
    at lines.taken (touches_within v.setup.space line (count_all ws + length t)) >>= λ pages. reads_left OfLive (InBody (with_workers v (ws ++ (t ++ pages) ∷ []))) lines

-- the page of a touch, where it and this number of touches before it are at most MAX_TOUCHES
abbrev pub touch_within : ℕ → ℕ → Result (List ℕ) ScriptKind
touch_within page before = only_if (nat_le (before + 1) MAX_TOUCHES) TooMuch (page ∷ [])

-- what is said by a touch of this page by the last worker, whose line was taken, and the lines that are left after it
abbrev pub reads_touch : LiveValue → List (List ℕ) → List ℕ → ℕ → Lines → Result LiveValue ScriptFault
reads_touch v ws t page lines =
    at lines.taken (touch_within page (count_all ws + length t)) >>= λ pages. reads_left OfLive (InBody (with_workers v (ws ++ (t ++ pages) ∷ []))) lines

-- a trace with the pages of one more line, if there is one
abbrev pub with_pages : List ℕ → Option Pages → List ℕ
with_pages trace None = trace
with_pages trace (Some pages) = trace ++ page_list pages

-- the same of a line that begins a controller after these
abbrev pub reads_controller : LiveValue → List (List CallValue) → List ℕ → Lines → Result LiveValue ScriptFault
reads_controller v cs line lines =
    at lines.taken (block_line (codes "controller") line (length cs) MAX_CONTROLLERS) >>= λ _. reads_left OfLive (InBody (with_controllers v (cs ++ [] ∷ []))) lines

-- the same of one more call of the last controller, whose last line was taken
abbrev pub reads_call : LiveValue → List (List CallValue) → List CallValue → CallValue → Lines → Result LiveValue ScriptFault
reads_call v cs t call lines =
    at lines.taken (call_within (count_all cs + length t)) >>= λ _. reads_left OfLive (InBody (with_controllers v (cs ++ (t ++ call ∷ []) ∷ []))) lines

-- the same of the last line
abbrev pub reads_end : LiveValue → List ℕ → Lines → Result LiveValue ScriptFault
reads_end v line lines = at lines.taken (alone (codes "end") line) >>= λ _. reads_left OfLive (AtEnd v) lines

-- the next line is no touch and no sweep
pub record NoTouch (text : List ℕ) : Type 0 where
  pub touch : first_begins (codes "touch") text ≡ false
  pub sweep : first_begins (codes "sweep") text ≡ false

-- the next line is no call
pub record NoCall (text : List ℕ) : Type 0 where
  pub show : first_begins (codes "show") text ≡ false
  pub commit : first_begins (codes "commit") text ≡ false

-- the next line goes on with no worker, and with no touch of the last one
pub record NoWorker (workers : List (List ℕ)) (text : List ℕ) : Type 0 where
  pub worker : first_begins (codes "worker") text ≡ false
  pub no_touch : 1 ≤ length workers → NoTouch text

-- the next line goes on with no controller, and with no call of the last one; nor with a worker
pub record NoBlock (v : LiveValue) (text : List ℕ) : Type 0 where
  pub controller : first_begins (codes "controller") text ≡ false
  pub no_call : has_controller v ≡ true → NoCall text
  pub no_worker : has_controller v ≡ false → NoWorker v.workers text
