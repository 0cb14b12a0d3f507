-- A live script as a text: its lines, what they say, and the limits of what they say.
use Rattle.std.specs.Prelude.{◌≡◌, ◌⊎◌, ℕ, ◌-◌, ◌≤◌, List, [], ◌∷◌, ◌++◌, length, codes, Ok, ◌↔◌}
use Rattle.std.specs.Fmt.{decimal}
use Rattle.std.specs.List.{concat, range_with_len}
use Rattle.damon_types.specs.declared.scheme.Version.{Version}
use Rattle.damon_types.specs.declared.space.Target.{Target}
use Rattle.damon_control.specs.declared.grammar.Grammar.TheVariants.{OfLive}
use Rattle.damon_control.specs.declared.live.TheConstants.{MAX_CALLS, MAX_CONTROLLERS, MAX_WORKERS}
use Rattle.script_lines.specs.declared.blocks.TheConstants.{MAX_PASSES, MAX_TOUCHES}
use Rattle.script_lines.specs.Laws.{IsSweep, IsTouch}
use Rattle.damon_control.specs.Live.{CallValue, CommitCall, LiveValue, ShowCall, count_all}
use Rattle.damon_control.specs.Script.{header_of, live_of}
use Rattle.damon_control.specs.Text.{AreCommit, EachSays, SaySetup, all_lines}
use Rattle.script_lines.specs.Lines.{lines_text}

-- a line says the pages that it touches, in order: the page of a touch, or those of a sweep
abbrev pub SaysPages : List Target → List ℕ → List ℕ → Type 0
SaysPages space line pages =
    ((page : ℕ) × (pages ≡ page ∷ []) × IsTouch space line page)
    ⊎ ((first : ℕ) × (end : ℕ) × (pages ≡ range_with_len first (end - first)) × IsSweep space line first end)

-- lines say a worker: `worker`, then lines of touches and sweeps, whose pages one after another are its trace
pub record SayWorker (space : List Target) (lines : List (List ℕ)) (trace : List ℕ) : Type 0 where
  pub touches : List (List ℕ)
  pub pages : List (List ℕ)
  pub spelled : lines ≡ codes "worker" ∷ touches
  pub each : EachSays (SaysPages space) touches pages
  pub joined : concat pages ≡ trace

-- lines of a version say a call: `show`, or those of a commit
abbrev pub SayCall : Version → List (List ℕ) → CallValue → Type 0
SayCall version lines ShowCall = lines ≡ codes "show" ∷ []
SayCall version lines (CommitCall commit) = AreCommit version lines commit

-- lines of a version say a controller: `controller`, then those of each call
pub record SayController (version : Version) (lines : List (List ℕ)) (calls : List CallValue) : Type 0 where
  pub groups : List (List (List ℕ))
  pub spelled : lines ≡ codes "controller" ∷ all_lines groups
  pub each : EachSays (SayCall version) groups calls

-- the limits of a live script: of its passes, its workers and controllers, all touches and all calls
pub record KeepsLimits (v : LiveValue) : Type 0 where
  pub some_pass : 1 ≤ v.passes
  pub passes : v.passes ≤ MAX_PASSES
  pub workers : length v.workers ≤ MAX_WORKERS
  pub controllers : length v.controllers ≤ MAX_CONTROLLERS
  pub touches : count_all v.workers ≤ MAX_TOUCHES
  pub calls : count_all v.controllers ≤ MAX_CALLS

-- a text says a live script: its first line with the version, the lines of its setup, `passes`, those of each worker, those of each
-- controller, and `end`; what they say is within the limits
pub record IsLiveText (text : List ℕ) (v : LiveValue) : Type 0 where
  pub setup : List (List ℕ)
  pub workers : List (List (List ℕ))
  pub controllers : List (List (List ℕ))
  pub spelled :
      text
      ≡ lines_text
      (header_of OfLive v.setup.version
      ∷ (setup ++ (codes "passes " ++ decimal v.passes) ∷ (all_lines workers ++ (all_lines controllers ++ codes "end" ∷ []))))
  pub says_setup : SaySetup setup v.seed v.setup
  pub say_workers : EachSays (SayWorker v.setup.space) workers v.workers
  pub say_controllers : EachSays (SayController v.setup.version) controllers v.controllers
  pub limits : KeepsLimits v

-- the texts that are read as a live script are those that say it
abbrev pub LiveTextsAreRead : Type 0
LiveTextsAreRead = (text : List ℕ) (v : LiveValue) → (live_of text ≡ Ok v) ↔ IsLiveText text v
