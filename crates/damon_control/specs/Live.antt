-- What a live script says, and the lines of its body.
use Rattle.std.specs.Prelude.{ℕ, ◌+◌, ◌==◌, Bool, not, nat_le, List, [], ◌∷◌, ◌++◌, length, sum_by, codes, Result, Ok, Err, if◌then◌else◌}
use Rattle.live_commit.specs.Commit.{CommitValue}
use Rattle.live_commit.specs.Setup.{SetupValue}
use Rattle.script_lines.specs.declared.kind.ScriptKind.{ScriptKind}
use Rattle.script_lines.specs.declared.kind.ScriptKind.TheVariants.{TooMuch, Word}
use Rattle.damon_control.specs.declared.live.TheConstants.{MAX_CALLS, MAX_CONTROLLERS, MAX_WORKERS}
use Rattle.script_lines.specs.Blocks.{block_line, touches_within}
use Rattle.script_lines.specs.Refusal.{◌>>=◌, only_if}
use Rattle.script_lines.specs.Words.{alone}

-- what a call of a controller says
pub data CallValue : Type 0 where
  ShowCall : CallValue
  CommitCall : CommitValue → CallValue

-- what a live script says: a trace of pages for each worker, and a list of calls for each controller
pub record LiveValue : Type 0 where
  pub seed : ℕ
  pub setup : SetupValue
  pub passes : ℕ
  pub workers : List (List ℕ)
  pub controllers : List (List CallValue)

-- a live script without workers and controllers
abbrev pub live_begun : ℕ → SetupValue → ℕ → LiveValue
live_begun seed setup passes = record { seed = seed; setup = setup; passes = passes; workers = []; controllers = [] }

-- all items of these lists
abbrev pub count_all : {A : Type 0} → List (List A) → ℕ
count_all lists = sum_by length lists

-- whether there is a controller
abbrev pub has_controller : LiveValue → Bool
has_controller v = not (length v.controllers == 0)

-- these lists with more items in the last of them
abbrev pub to_last : {A : Type 0} → List (List A) → List A → List (List A)
to_last [] items = []
to_last (last ∷ []) items = (last ++ items) ∷ []
to_last (list ∷ next ∷ more) items = list ∷ to_last (next ∷ more) items

-- `worker`: one more trace
abbrev pub worker_line : LiveValue → List ℕ → Result LiveValue ScriptKind
worker_line v line =
    block_line (codes "worker") line (length v.workers) MAX_WORKERS >>= λ _. Ok (record v { workers = v.workers ++ [] ∷ [] })

-- `controller`: one more list of calls
abbrev pub controller_line : LiveValue → List ℕ → Result LiveValue ScriptKind
controller_line v line =
    block_line (codes "controller") line (length v.controllers) MAX_CONTROLLERS >>= λ _. Ok (record v { controllers = v.controllers ++ [] ∷ [] })

-- touches of the last worker, where there is one; all touches are counted
abbrev pub touches_line : LiveValue → List ℕ → Result LiveValue ScriptKind
touches_line v line =
    if length v.workers == 0 then Err Word
    else (touches_within v.setup.space line (count_all v.workers) >>= λ pages. Ok (record v { workers = to_last v.workers pages }))

-- one call more after this number of calls is not too much
abbrev pub call_within : ℕ → Result (Unit {0}) ScriptKind
call_within before = only_if (nat_le (before + 1) MAX_CALLS) TooMuch (tt {0})

-- a live script with one more call of its last controller; all calls are counted
abbrev pub with_call : LiveValue → CallValue → Result LiveValue ScriptKind
with_call v call =
    call_within (count_all v.controllers) >>= λ _. Ok (record v { controllers = to_last v.controllers (call ∷ []) })

-- `show`
abbrev pub show_line : LiveValue → List ℕ → Result LiveValue ScriptKind
show_line v line = alone (codes "show") line >>= λ _. with_call v ShowCall
