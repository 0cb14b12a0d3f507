-- What the words after the program's name ask for.
use Rattle.std.specs.Prelude.{◌≡◌, ℕ, ◌-◌, ◌^◌, List, [], ◌∷◌, Option, Some, None, if◌then◌else◌, map, codes, string_bytes, String}
use Rattle.std.specs.Option.{option_map}
use Rattle.std.specs.declared.alloc.Global.{Global}
use Rattle.line_text.specs.Number.{number}
use Rattle.script_lines.specs.Words.{same_word}
use Rattle.snapshot_print.specs.declared.form.Form.TheVariants.{Text, Json}
use Rattle.damon_app.specs.GoalWords.{goals_of}
use Rattle.damon_app.specs.declared.request.Request.{Request}
use Rattle.damon_app.specs.declared.request.Request.TheVariants.{Report, Verify, Heat, Admin, Generate}
use Rattle.damon_app.specs.declared.request.Run.TheVariants.{Plain, Reclaim, Tune}
use Rattle.damon_app.specs.declared.request.Columns.{Columns}
use Rattle.damon_app.specs.declared.request.Columns.TheVariants.{Eight, Sixteen, SixtyFour}

-- what one word asks for: the report of a script in its form, the check of a journal, what several contexts say, or the run of a
-- script with proactive reclaim
abbrev pub asked_alone : List ℕ → Option Request
asked_alone word =
    if same_word word (codes "replay") then Some (Report (Plain Text))
    else if same_word word (codes "json") then Some (Report (Plain Json))
    else if same_word word (codes "verify") then Some Verify
    else if same_word word (codes "admin") then Some Admin
    else if same_word word (codes "reclaim") then Some (Report Reclaim)
    else None

-- the number of columns that a word says: `8`, `16` or `64`
abbrev pub columns_of : List ℕ → Option Columns
columns_of word =
    if same_word word (codes "8") then Some Eight
    else if same_word word (codes "16") then Some Sixteen
    else if same_word word (codes "64") then Some SixtyFour
    else None

-- what two words ask for: `gen`, and a number of at most 64 bits in its one spelling, for the generated run of the number; or
-- `heat`, and a number of columns, for the heat tables of a journal
abbrev pub asked_with : List ℕ → List ℕ → Option Request
asked_with word digits =
    if same_word word (codes "gen") then option_map (λ n. Generate n) (number (2 ^ 64 - 1) digits)
    else if same_word word (codes "heat") then option_map (λ c. Heat c) (columns_of digits)
    else None

-- what the words after `tune` ask for: 1 to 16 goals, for the run of a script with quotas that follow them
abbrev pub asked_to_tune : List (List ℕ) → Option Request
asked_to_tune words = option_map (λ goals. Report (Tune goals)) (goals_of words)

-- what a word other than `tune` asks for, with the words after it
abbrev pub asked_by : List ℕ → List (List ℕ) → Option Request
asked_by word [] = asked_alone word
asked_by word (digits ∷ []) = asked_with word digits
asked_by word (digits ∷ more ∷ words) = None

-- what words ask for, each given by its bytes: `replay`, `json`, `verify`, `admin` or `reclaim` alone, `gen N`, `heat N`, or `tune`
-- and goals, and nothing else
abbrev pub request_of : List (List ℕ) → Option Request
request_of [] = None
request_of (word ∷ words) = if same_word word (codes "tune") then asked_to_tune words else asked_by word words

-- what the program's words ask for
abbrev pub asked : List (String Global) → Option Request
asked words = request_of (map string_bytes words)

-- the words are `replay` alone
abbrev pub AskToReplay : List (String Global) → Type 0
AskToReplay words = map string_bytes words ≡ codes "replay" ∷ []

-- a script, or the lines of several contexts with one each, is read for what was asked
abbrev pub ReadsScript : Option Request → Type 0
ReadsScript (Some (Report run)) = Unit {0}
ReadsScript (Some Admin) = Unit {0}
ReadsScript _ = ⊥

-- the text of a journal is read for it
abbrev pub ReadsJournal : Option Request → Type 0
ReadsJournal (Some Verify) = Unit {0}
ReadsJournal (Some (Heat columns)) = Unit {0}
ReadsJournal _ = ⊥

-- an input is read for it
abbrev pub ReadsInput : Option Request → Type 0
ReadsInput (Some (Report run)) = Unit {0}
ReadsInput (Some Verify) = Unit {0}
ReadsInput (Some (Heat columns)) = Unit {0}
ReadsInput (Some Admin) = Unit {0}
ReadsInput (Some (Generate n)) = ⊥
ReadsInput None = ⊥
