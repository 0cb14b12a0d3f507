-- Inputs that were written out by hand.
use Rattle.std.proofs.Common.{◌≡◌, List, ℕ, [], ◌∷◌, ◌++◌, codes, Ok, Err, Some, refl}
use Rattle.std.specs.Prelude.{Result}
use Rattle.std.specs.Fmt.{digits}
use Rattle.script_lines.specs.declared.kind.ScriptKind.{ScriptKind}
use Rattle.script_lines.specs.declared.kind.ScriptKind.TheVariants.{Cut, Form, Header}
use Rattle.script_lines.specs.Body.{no_commit}
use Rattle.script_lines.specs.Command.{CommandValue, Commit, Step}
use Rattle.damon_control.specs.declared.grammar.Grammar.TheVariants.{OfScript}
use Rattle.damon_control.specs.Script.{Place}
use Rattle.damon_admin.specs.Lines.{ContextLine, context_text, lines_said}
use Rattle.damon_admin.specs.Voice.{spoken, voice}
use Rattle.damon_admin.specs.Written.{all_written, commands_at, output_of, place_of, written}

-- ---- the lines of an input

header_alone : lines_said (codes "damon admin 1\n") ≡ Ok []
header_alone = refl

empty_input : lines_said [] ≡ Err (record { line = 1; kind = Cut })
empty_input = refl

header_cut : lines_said (codes "damon admin 1") ≡ Err (record { line = 1; kind = Cut })
header_cut = refl

other_header : lines_said (codes "damon admin 2\n8 x") ≡ Err (record { line = 1; kind = Header })
other_header = refl

ninth_context : lines_said (codes "damon admin 1\n8 x\n") ≡ Err (record { line = 2; kind = Form })
ninth_context = refl

no_space : lines_said (codes "damon admin 1\n0 x\n0\n") ≡ Err (record { line = 3; kind = Form })
no_space = refl

cut_line : lines_said (codes "damon admin 1\n0 x\n9") ≡ Err (record { line = 3; kind = Cut })
cut_line = refl

line_of : ℕ → List ℕ → ContextLine
line_of context line = record { context = context; line = line }

two_contexts : lines_said (codes "damon admin 1\n0 damon script 1\n3 x\n0 seed 42\n3 \n")
    ≡ Ok (line_of 0 (codes "damon script 1") ∷ line_of 3 (codes "x") ∷ line_of 0 (codes "seed 42") ∷ line_of 3 [] ∷ [])
unfolding line_of
two_contexts = refl

two : List ContextLine
two = line_of 0 (codes "damon script 1") ∷ line_of 3 (codes "x") ∷ line_of 0 (codes "seed 42") ∷ line_of 3 [] ∷ []

its_own : context_text 0 two ≡ codes "damon script 1\nseed 42\n"
unfolding two line_of
its_own = refl

-- ---- what contexts say

each_line_is_spoken : spoken 3 (codes "show tick=1\nrow 0\n") ≡ codes "3 show tick=1\n3 row 0\n"
each_line_is_spoken = refl

voices_are_apart : voice 0 (codes "3 fault line=1 no header\n0 show\n0 \n03 x\n0 end\n") ≡ codes "show\n\nend\n"
voices_are_apart = refl

-- ---- what lines write

-- a fault stands at the last line of its context, with the line of the context's own
fault_at_the_last : output_of (line_of 3 (codes "x") ∷ line_of 5 (codes "y") ∷ line_of 3 (codes "z") ∷ [])
    ≡ codes "5 fault line=1 no header\n3 fault line=1 no header\n"
unfolding line_of digits
fault_at_the_last = refl

-- a missing line is the one after the last
missing_line : all_written (codes "damon script 1\n") ≡ codes "fault line=2 input ends early\n"
unfolding digits
missing_line = refl

second_line : all_written (codes "damon script 1\nx\n") ≡ codes "fault line=2 unexpected word\n"
unfolding digits
second_line = refl

-- ---- which lines complete commands

setup : List (List ℕ)
setup =
    codes "damon script 1" ∷ codes "seed 42" ∷ codes "unit 1" ∷ codes "cap 8" ∷ codes "attrs 3 8 5" ∷ codes "target 0x10000 3"
    ∷ codes "range 0 0x10000 0x13000 0" ∷ codes "begin" ∷ []

said : Result (Place OfScript) ScriptKind → List CommandValue
said (Ok place) = commands_at place
said (Err kind) = []

no_command_in_the_setup : said (place_of setup) ≡ []
unfolding setup said
no_command_in_the_setup = refl

one_at_its_line : said (place_of (setup ++ codes "step 4" ∷ [])) ≡ Step 4 ∷ []
unfolding setup said
one_at_its_line = refl

none_within_a_commit : said (place_of (setup ++ codes "step 4" ∷ codes "commit" ∷ codes "metric 300" ∷ [])) ≡ Step 4 ∷ []
unfolding setup said
none_within_a_commit = refl

a_commit_at_its_apply : said (place_of (setup ++ codes "step 4" ∷ codes "commit" ∷ codes "metric 300" ∷ codes "apply" ∷ []))
    ≡ Step 4 ∷ Commit (record no_commit { metric = Some 300 }) ∷ []
unfolding setup said
a_commit_at_its_apply = refl

-- nothing is written before the first command
nothing_in_the_setup : written (setup ++ codes "show" ∷ codes "end" ∷ []) setup ≡ []
unfolding setup
nothing_in_the_setup = refl
