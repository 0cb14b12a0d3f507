-- The head of a journal, read; its schemes are in their one spelling.
use Rattle.std.proofs.Common.{◌≡◌, ℕ, List, [], ◌∷◌, ◌++◌, codes, Some, Ok, Err, refl}
use Rattle.std.specs.Fmt.{digits}
use Rattle.damon_types.specs.declared.scheme.Action.TheVariants.{Stat}
use Rattle.damon_types.specs.declared.scheme.Version.TheVariants.{One}
use Rattle.live_commit.specs.Setup.{SetupValue}
use Rattle.script_lines.specs.declared.kind.ScriptKind.{ScriptKind}
use Rattle.script_lines.specs.declared.kind.ScriptKind.TheVariants.{After, Cut, Form, Header}
use Rattle.script_lines.specs.Lines.{lines_text}
use Rattle.script_lines.specs.Settings.{default_scheme}
use Rattle.damon_control.specs.JournalHead.{head_lines}
use Rattle.damon_control.specs.Script.{head_of}

-- one page
abbrev setup : SetupValue
setup = record {
  version = One;
  space = record { base = 0; pages = 1 } ∷ [];
  unit = 1;
  cap = 3;
  attrs = record { min = 3; max = 3; aggr = 5 };
  ranges = record { target = 0; first = 0; pages = 1; class = 0 } ∷ [];
  slots = [];
}

-- the lines of its ranges and all before them, and more text after them
abbrev ranges_before : List ℕ → List ℕ
ranges_before text = codes "damon journal 1\nseed 42\nunit 1\ncap 3\nattrs 3 3 5\ntarget 0x0 1\nrange 0 0x0 0x1000 0\n" ++ text

head_is_written : lines_text (head_lines 42 setup) ≡ ranges_before (codes "begin\n")
unfolding digits
head_is_written = refl

head_is_read : head_of (ranges_before (codes "begin\n")) ≡ Ok (record { seed = 42; setup = setup })
head_is_read = refl

scheme_is_read : head_of (ranges_before (codes "scheme 0 stat\nbegin\n"))
    ≡ Ok (record { seed = 42; setup = record setup { slots = record { slot = 0; scheme = Some (default_scheme Stat) } ∷ [] } })
unfolding digits
scheme_is_read = refl

-- a line is rejected, with this kind
abbrev IsRejected : List ℕ → ℕ → ScriptKind → Type 0
IsRejected text line kind = head_of (ranges_before text) ≡ Err (record { line = line; kind = kind })

default_is_left_out : IsRejected (codes "scheme 0 stat prefer=hot\nbegin\n") 8 Form
unfolding digits
default_is_left_out = refl

begin_is_last : IsRejected (codes "begin\nprepare 1 at 0\n") 9 After
begin_is_last = refl

begin_is_wanted : IsRejected [] 8 Cut
begin_is_wanted = refl

no_head_for_a_script : head_of (codes "damon script 1\n") ≡ Err (record { line = 1; kind = Header })
no_head_for_a_script = refl
