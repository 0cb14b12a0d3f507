-- Fields of lines.
use Rattle.std.specs.Prelude.{ℕ, ◌+◌, ◌*◌, Bool, true, false, List, ◌++◌, codes, Option, Some, None}
use Rattle.std.specs.Fmt.{decimal}
use Rattle.damon_types.specs.declared.space.Target.{Target}
use Rattle.damon_types.specs.Space.{place_of}
use Rattle.live_commit.specs.declared.phase.Phase.{Phase}
use Rattle.live_commit.specs.declared.phase.Phase.TheVariants.{Idle, Clearing, Armed, Checking, Void, Due}
use Rattle.line_text.specs.Address.{spelled_address}

infixr 20 ◌then◌
-- one text and then another
abbrev pub ◌then◌ : List ℕ → List ℕ → List ℕ
a then b = a ++ b

-- `yes` for true, and `no` for false
abbrev pub yes_or_no : Bool → List ℕ
yes_or_no true = codes "yes"
yes_or_no false = codes "no"

-- the name of a phase
abbrev pub phase_name : Phase → List ℕ
phase_name Idle = codes "idle"
phase_name (Clearing k) = codes "clearing"
phase_name Armed = codes "armed"
phase_name (Checking k) = codes "checking"
phase_name Void = codes "void"
phase_name Due = codes "due"

-- a number, or `none`
abbrev pub number_or_none : Option ℕ → List ℕ
number_or_none None = codes "none"
number_or_none (Some n) = decimal n

-- the address of the first byte of a page
abbrev pub page_address : List Target → ℕ → ℕ
page_address space page = (place_of space page).addr

-- consecutive pages: the address of the first one, and the address after the last one
abbrev pub pages_part : List Target → ℕ → ℕ → List ℕ
pages_part space start pages =
    codes " " then spelled_address (page_address space start)
    then codes "-" then spelled_address (page_address space start + 4096 * pages)
