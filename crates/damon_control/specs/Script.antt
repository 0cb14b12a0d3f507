-- The script or the live script that a text says, read line by line, or its first rejected line.
use Rattle.std.specs.Prelude.{ℕ, ◌+◌, ◌||◌, ◌==◌, nat_le, List, [], ◌∷◌, ◌++◌, length, codes, Result, Ok, Err, if◌then◌else◌}
use Rattle.damon_types.specs.declared.range.RangeSpec.{RangeSpec}
use Rattle.damon_types.specs.declared.scheme.SlotChange.{SlotChange}
use Rattle.damon_types.specs.declared.scheme.Version.{Version}
use Rattle.damon_types.specs.declared.scheme.Version.TheVariants.{One, Two}
use Rattle.damon_types.specs.declared.space.Target.{Target}
use Rattle.live_commit.specs.Commit.{CommitValue}
use Rattle.live_commit.specs.Setup.{SetupValue}
use Rattle.line_text.specs.Parts.{parts}
use Rattle.damon_control.specs.declared.fault.ScriptFault.{ScriptFault}
use Rattle.script_lines.specs.declared.kind.ScriptKind.{ScriptKind}
use Rattle.script_lines.specs.declared.kind.ScriptKind.TheVariants.{After, Cut, Form, Header, TooMuch}
use Rattle.damon_control.specs.declared.grammar.Grammar.{Grammar}
use Rattle.damon_control.specs.declared.grammar.Grammar.TheVariants.{OfScript, OfLive, OfJournal}
use Rattle.script_lines.specs.declared.setup.Frame.{Frame}
use Rattle.damon_control.specs.declared.script.TheConstants.{MAX_WORK}
use Rattle.script_lines.specs.Body.{command_line, no_commit, part_line, with_part}
use Rattle.script_lines.specs.Command.{CommandValue, Commit, weight}
use Rattle.script_lines.specs.Head.{attrs_line, cap_line, range_line, scheme_line, seed_line, setup_said, target_line, unit_line}
use Rattle.damon_control.specs.Live.{CommitCall, LiveValue, controller_line, has_controller, live_begun, show_line, touches_line, with_call, worker_line}
use Rattle.script_lines.specs.Blocks.{passes_line}
use Rattle.script_lines.specs.Refusal.{◌>>=◌, only_if}
use Rattle.script_lines.specs.Words.{alone, begins_with, same_word}
use Rattle.script_lines.specs.WrittenLine.{change_text}

-- what a script says
pub record ScriptValue : Type 0 where
  pub seed : ℕ
  pub setup : SetupValue
  pub commands : List CommandValue

-- what a script says up to a line of its body, and the work of its commands so far
pub record Body : Type 0 where
  pub said : ScriptValue
  pub work : ℕ

-- what the head of a journal says
pub record HeadValue : Type 0 where
  pub seed : ℕ
  pub setup : SetupValue

-- what a text of each grammar says
abbrev pub Said : Grammar → Type 0
Said OfScript = ScriptValue
Said OfLive = LiveValue
Said OfJournal = HeadValue

-- what the lines of a body have said so far; the head of a journal has no body
abbrev pub Within : Grammar → Type 0
Within OfScript = Body
Within OfLive = LiveValue
Within OfJournal = ⊥

-- a place between two lines: what the lines before it have said, and so what the next may say
pub data Place (g : Grammar) : Type 0 where
  AtHeader : Place g
  AtSeed : Version → Place g
  AtUnit : Version → ℕ → Place g
  AtCap : Version → ℕ → ℕ → Place g
  AtAttrs : Version → ℕ → ℕ → ℕ → Place g
  AtTargets : Frame → List Target → Place g
  AtRanges : Frame → List Target → List RangeSpec → Place g
  AtSchemes : Frame → List Target → List RangeSpec → List SlotChange → Place g
  InBody : Within g → Place g
  InCommit : Within g → CommitValue → Place g
  AtEnd : Said g → Place g

-- a body with one more command, where its work stays within the limit
abbrev pub with_command : Body → CommandValue → Result (Place OfScript) ScriptKind
with_command b command =
    let work = b.work + weight b.said.setup.cap command in
    only_if (nat_le work MAX_WORK) TooMuch (InBody (record { said = record b.said { commands = b.said.commands ++ command ∷ [] }; work = work }))

-- a body with no command yet
abbrev pub begun : ℕ → SetupValue → Body
begun seed setup = record { said = record { seed = seed; setup = setup; commands = [] }; work = 0 }

-- the body after the lines of a setup
abbrev pub opened : Frame → List Target → List RangeSpec → List SlotChange → Body
opened f targets ranges slots = begun f.seed (setup_said f targets ranges slots)

-- the first line of a script
abbrev pub script_header : Version → List ℕ
script_header One = codes "damon script 1"
script_header Two = codes "damon script 2"

-- the first line of a text
abbrev pub header_of : Grammar → Version → List ℕ
header_of OfScript version = script_header version
header_of OfLive One = codes "damon live 1"
header_of OfLive Two = codes "damon live 2"
header_of OfJournal One = codes "damon journal 1"
header_of OfJournal Two = codes "damon journal 2"

-- the version that a first line says
abbrev pub version_said : Grammar → List ℕ → Result Version ScriptKind
version_said g line =
    if same_word line (header_of g One) then Ok One
    else if same_word line (header_of g Two) then Ok Two
    else Err Header

-- the version of a text, in its body
abbrev pub version_in : (g : Grammar) → Within g → Version
version_in OfScript b = b.said.setup.version
version_in OfLive v = v.setup.version
version_in OfJournal none = absurd none

-- the place after the line that opens the body: `begin`, or `passes N` in a live script. The head of a journal ends with `begin`.
abbrev pub after_setup : (g : Grammar) → Frame → List Target → List RangeSpec → List SlotChange → List ℕ → Result (Place g) ScriptKind
after_setup OfScript f targets ranges slots line = alone (codes "begin") line >>= λ _. Ok (InBody (opened f targets ranges slots))
after_setup OfLive f targets ranges slots line = passes_line line >>= λ passes. Ok (InBody (live_begun f.seed (setup_said f targets ranges slots) passes))
after_setup OfJournal f targets ranges slots line = alone (codes "begin") line >>= λ _. Ok (AtEnd (record { seed = f.seed; setup = setup_said f targets ranges slots }))

-- the change that a line of schemes says; in a journal the line is the one that is written of it
abbrev pub scheme_line_in : Grammar → Version → List SlotChange → List ℕ → Result SlotChange ScriptKind
scheme_line_in OfJournal version slots line = scheme_line version slots line >>= λ change. only_if (same_word line (change_text change)) Form change
scheme_line_in _ version slots line = scheme_line version slots line

-- the place after a line of schemes, or after the one that opens the body
abbrev pub after_schemes : (g : Grammar) → Frame → List Target → List RangeSpec → List SlotChange → List ℕ → Result (Place g) ScriptKind
after_schemes g f targets ranges slots line =
    if begins_with (codes "scheme") line then (scheme_line_in g f.version slots line >>= λ change. Ok (AtSchemes f targets ranges (slots ++ change ∷ [])))
    else after_setup g f targets ranges slots line

-- the place after a line of ranges, of which there is at least one, or after the first line that follows them
abbrev pub after_ranges : (g : Grammar) → Frame → List Target → List RangeSpec → List ℕ → Result (Place g) ScriptKind
after_ranges g f targets ranges line =
    if begins_with (codes "range") line || (length ranges == 0) then (range_line f targets ranges line >>= λ range. Ok (AtRanges f targets (ranges ++ range ∷ [])))
    else after_schemes g f targets ranges [] line

-- the place after a line of targets, of which there is at least one, or after the first line that follows them
abbrev pub after_targets : (g : Grammar) → Frame → List Target → List ℕ → Result (Place g) ScriptKind
after_targets g f targets line =
    if begins_with (codes "target") line || (length targets == 0) then (target_line targets line >>= λ target. Ok (AtTargets f (targets ++ target ∷ [])))
    else after_ranges g f targets [] line

-- the place after a line of a script's body
abbrev pub after_body : Body → List ℕ → Result (Place OfScript) ScriptKind
after_body b line =
    if begins_with (codes "end") line then (alone (codes "end") line >>= λ _. Ok (AtEnd b.said))
    else if begins_with (codes "commit") line then (alone (codes "commit") line >>= λ _. Ok (InCommit b no_commit))
    else (command_line b.said.setup.space line >>= with_command b)

-- a live script with one more worker or controller, or more touches or calls, within its limits
abbrev pub live_within : Result LiveValue ScriptKind → Result (Place OfLive) ScriptKind
live_within said = said >>= λ v. Ok (InBody v)

-- the place after a line of a live script's body: workers come before controllers, touches belong to the last worker, and
-- calls to the last controller
abbrev pub after_live : LiveValue → List ℕ → Result (Place OfLive) ScriptKind
after_live v line =
    if begins_with (codes "end") line then (alone (codes "end") line >>= λ _. Ok (AtEnd v))
    else if begins_with (codes "controller") line then live_within (controller_line v line)
    else if has_controller v then
    (if begins_with (codes "commit") line then (alone (codes "commit") line >>= λ _. Ok (InCommit v no_commit))
    else live_within (show_line v line))
    else if begins_with (codes "worker") line then live_within (worker_line v line)
    else live_within (touches_line v line)

-- the place after a line of a body
abbrev pub after_within : (g : Grammar) → Within g → List ℕ → Result (Place g) ScriptKind
after_within OfScript b line = after_body b line
after_within OfLive v line = after_live v line
after_within OfJournal none line = absurd none

-- the place after the last line of a commit
abbrev pub with_commit : (g : Grammar) → Within g → CommitValue → Result (Place g) ScriptKind
with_commit OfScript b commit = with_command b (Commit commit)
with_commit OfLive v commit = live_within (with_call v (CommitCall commit))
with_commit OfJournal none commit = absurd none

-- the place after a line of a commit
abbrev pub after_commit : (g : Grammar) → Within g → CommitValue → List ℕ → Result (Place g) ScriptKind
after_commit g b commit line =
    if begins_with (codes "apply") line then (alone (codes "apply") line >>= λ _. with_commit g b commit)
    else (part_line (version_in g b) commit line >>= λ part. Ok (InCommit b (with_part commit part)))

-- the place after a line, or the kind of its fault
abbrev pub place_after : (g : Grammar) → Place g → List ℕ → Result (Place g) ScriptKind
place_after g AtHeader line = version_said g line >>= λ version. Ok (AtSeed version)
place_after g (AtSeed version) line = seed_line line >>= λ seed. Ok (AtUnit version seed)
place_after g (AtUnit version seed) line = unit_line line >>= λ unit. Ok (AtCap version seed unit)
place_after g (AtCap version seed unit) line = cap_line line >>= λ cap. Ok (AtAttrs version seed unit cap)
place_after g (AtAttrs version seed unit cap) line =
    attrs_line cap line >>= λ attrs. Ok (AtTargets (record { version = version; seed = seed; unit = unit; cap = cap; attrs = attrs }) [])
place_after g (AtTargets f targets) line = after_targets g f targets line
place_after g (AtRanges f targets ranges) line = after_ranges g f targets ranges line
place_after g (AtSchemes f targets ranges slots) line = after_schemes g f targets ranges slots line
place_after g (InBody b) line = after_within g b line
place_after g (InCommit b commit) line = after_commit g b commit line
place_after g (AtEnd s) line = Err After

-- a rejection becomes a fault of the line with this number
abbrev pub at : {A : Type 0} → ℕ → Result A ScriptKind → Result A ScriptFault
at n (Err kind) = Err (record { line = n; kind = kind })
at n (Ok value) = Ok value

-- what is said at the end of a text, where bytes that no LF ends stand in place of line n
abbrev pub at_text_end : (g : Grammar) → ℕ → Place g → List ℕ → Result (Said g) ScriptFault
at_text_end g n (AtEnd s) [] = Ok s
at_text_end g n (AtEnd s) (b ∷ bs) = at n (Err After)
at_text_end g n place bytes = at n (Err Cut)

-- what lines say from a place on, of which the first is line n; the last item is the bytes after the last LF
abbrev pub reads : (g : Grammar) → ℕ → Place g → List (List ℕ) → Result (Said g) ScriptFault
reads g n place [] = at_text_end g n place []
reads g n place (bytes ∷ []) = at_text_end g n place bytes
reads g n place (line ∷ next ∷ more) = at n (place_after g place line) >>= λ reached. reads g (n + 1) reached (next ∷ more)

-- the script that a text says, or its first rejected line and the kind of its fault
abbrev pub script_of : List ℕ → Result ScriptValue ScriptFault
script_of text = reads OfScript 1 AtHeader (parts 10 text)

-- the live script that a text says, or its first rejected line and the kind of its fault
abbrev pub live_of : List ℕ → Result LiveValue ScriptFault
live_of text = reads OfLive 1 AtHeader (parts 10 text)

-- the head of a journal that a text says, or its first rejected line and the kind of its fault
abbrev pub head_of : List ℕ → Result HeadValue ScriptFault
head_of text = reads OfJournal 1 AtHeader (parts 10 text)
