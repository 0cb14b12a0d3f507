-- The lines of a journal.
use Rattle.std.specs.Prelude.{ℕ, Bool, true, false, List, [], ◌∷◌, ◌++◌, codes, map, Option, Some, None, Ok, Err}
use Rattle.std.specs.Fmt.{decimal}
use Rattle.damon_types.specs.declared.space.Target.{Target}
use Rattle.damon_types.specs.declared.space.Place.{Place}
use Rattle.damon_types.specs.Space.{place_of}
use Rattle.line_text.specs.Address.{spelled_address}
use Rattle.damon_control.specs.Live.{CallValue, CommitCall, ShowCall}
use Rattle.damon_control.specs.Written.{written_commit}
use Rattle.snapshot_print.specs.Commit.{answer_text}
use Rattle.run_journal.specs.declared.entry.CallAnswer.{CallAnswer}
use Rattle.run_journal.specs.declared.entry.CallAnswer.TheVariants.{Shown, Changed, Refused}
use Rattle.run_journal.specs.declared.entry.Receipt.{Receipt}

-- `prepare PASS at POSITION`
abbrev pub spelled_prepare : ℕ → ℕ → List ℕ
spelled_prepare pass position = codes "prepare " ++ (decimal pass ++ (codes " at " ++ decimal position))

-- `0` or `1`
abbrev pub bit_digit : Bool → ℕ
bit_digit true = 49
bit_digit false = 48

-- `check PASS `
abbrev pub check_front : ℕ → List ℕ
check_front pass = codes "check " ++ (decimal pass ++ codes " ")

-- `check PASS BITS`
abbrev pub spelled_check : ℕ → List Bool → List ℕ
spelled_check pass bits = check_front pass ++ map bit_digit bits

-- `void PASS`
abbrev pub spelled_void : ℕ → List ℕ
spelled_void pass = codes "void " ++ decimal pass

-- `aggregate TICK at POSITION`
abbrev pub spelled_aggregate : ℕ → ℕ → List ℕ
spelled_aggregate tick position = codes "aggregate " ++ (decimal tick ++ (codes " at " ++ decimal position))

-- `call CONTROLLER INDEX `
abbrev pub call_front : ℕ → ℕ → List ℕ
call_front controller index = codes "call " ++ (decimal controller ++ (codes " " ++ (decimal index ++ codes " ")))

-- the lines of a call before its answer
abbrev pub call_lines : ℕ → ℕ → CallValue → List (List ℕ)
call_lines controller index ShowCall = (call_front controller index ++ codes "show") ∷ []
call_lines controller index (CommitCall commit) = (call_front controller index ++ codes "commit") ∷ (written_commit commit ++ codes "apply" ∷ [])

-- what a call answered
abbrev pub answer_said : CallAnswer → List ℕ
answer_said (Shown tick rows) = codes "shown tick=" ++ (decimal tick ++ (codes " rows=" ++ decimal rows))
answer_said (Changed rows void) = answer_text (Ok (record { rows = rows; void = void }))
answer_said (Refused fault) = answer_text (Err fault)

-- `answer ANSWER`
abbrev pub spelled_answer : CallAnswer → List ℕ
spelled_answer answer = codes "answer " ++ answer_said answer

-- the lines of a call with its answer; none where the script has no such call
abbrev pub answered_lines : ℕ → ℕ → CallAnswer → Option CallValue → List (List ℕ)
answered_lines controller index answer None = []
answered_lines controller index answer (Some call) = call_lines controller index call ++ spelled_answer answer ∷ []

-- `seen WORKER TARGET ADDRESS TAG`, with the address of the page
abbrev pub spelled_seen : List Target → ℕ → Receipt → List ℕ
spelled_seen space worker r =
    codes "seen " ++ (decimal worker ++ (codes " " ++ (decimal place.target ++ (codes " " ++ (spelled_address place.addr ++ (codes " " ++ decimal r.tag))))))
  where
    place : Place
    place = place_of space r.page
