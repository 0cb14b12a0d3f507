-- The lines of entries: what a line may say after the entries before it. Where the state determines a line, it is compared with that
-- line; only the results of a check, the controller of a call and the parts of its commit are read.
use Rattle.std.specs.Prelude.{ℕ, ◌+◌, Bool, true, false, ◌&&◌, ◌==◌, nat_le, List, [], ◌∷◌, codes, length, Option, Some, None, Result, Ok, Err, option_and_then, option_map, if◌then◌else◌}
use Rattle.std.specs.Option.{option_or}
use Rattle.line_text.specs.Line.{after_prefix}
use Rattle.live_commit.specs.declared.phase.Phase.{Phase}
use Rattle.live_commit.specs.declared.phase.Phase.TheVariants.{Idle, Armed, Void as VoidPhase, Due}
use Rattle.live_commit.specs.Commit.{CommitValue}
use Rattle.script_lines.specs.declared.kind.ScriptKind.{ScriptKind}
use Rattle.script_lines.specs.declared.part.Part.{Part}
use Rattle.script_lines.specs.Body.{no_commit, part_line, with_part}
use Rattle.script_lines.specs.Words.{same_word}
use Rattle.damon_core.specs.State.{row_count}
use Rattle.damon_control.specs.Live.{CallValue, CommitCall, LiveValue, ShowCall}
use Rattle.damon_control.specs.Written.{part_text}
use Rattle.run_journal.specs.declared.entry.Entry.{Entry}
use Rattle.run_journal.specs.declared.entry.Entry.TheVariants.{Prepare, Check, Void, Aggregate, Call}
use Rattle.run_journal.specs.Growth.{calls_so_far, longer, with_call_of}
use Rattle.journal_text.specs.Place.{AtAnswer, InBlock, InEntries, InReceipts, JournalPlace}
use Rattle.run_journal.specs.Replay.{JournalValue, Replayed, call_answer, replay}
use Rattle.journal_text.specs.Spelled.{call_front, check_front, spelled_aggregate, spelled_answer, spelled_prepare, spelled_void}

-- a place, where a test passes
abbrev pub where_so : Bool → JournalPlace → Option JournalPlace
where_so test place = if test then Some place else None

-- whether a digit is `0` or `1`
abbrev pub is_bit : ℕ → Bool
is_bit c = nat_le 48 c && nat_le c 49

-- whether it is `1`
abbrev pub is_one : ℕ → Bool
is_one c = c == 49

-- the results that digits say
abbrev pub bits_of : List ℕ → Option (List Bool)
bits_of [] = Some []
bits_of (c ∷ cs) =
    option_and_then (λ bits. if c == 49 then Some (true ∷ bits) else if c == 48 then Some (false ∷ bits) else None) (bits_of cs)

-- n results that digits say
abbrev pub n_bits_of : ℕ → List ℕ → Option (List Bool)
n_bits_of n cs = option_and_then (λ bits. if length bits == n then Some bits else None) (bits_of cs)

-- the entry that a line says in a phase, which is no call, with the results of its loads
abbrev pub said_entry : Replayed → Phase → List ℕ → Option (Entry × List Bool)
said_entry r Idle line =
    if same_word line (spelled_prepare (r.state.core.ticks + 1) r.drawn) then Some (Prepare (r.state.core.ticks + 1) r.drawn, []) else None
said_entry r Armed line =
    option_map (λ bits. (Check (r.state.core.ticks + 1), bits))
    (option_and_then (n_bits_of (row_count r.state.core)) (after_prefix (check_front (r.state.core.ticks + 1)) line))
said_entry r VoidPhase line =
    if same_word line (spelled_void (r.state.core.ticks + 1)) then Some (Void (r.state.core.ticks + 1), []) else None
said_entry r Due line =
    if same_word line (spelled_aggregate r.state.core.ticks r.drawn) then Some (Aggregate r.state.core.ticks r.drawn, []) else None
said_entry r _ line = None

-- whether a call may be made in a phase
abbrev pub is_free : Phase → Bool
is_free Idle = true
is_free Armed = true
is_free VoidPhase = true
is_free _ = false

-- whether no pass is under way
abbrev pub is_idle : Phase → Bool
is_idle Idle = true
is_idle _ = false

-- the place after the last word of the first line of a call
abbrev pub after_call_word : LiveValue → JournalValue → ℕ → List ℕ → Option JournalPlace
after_call_word v j controller word =
    if same_word word (codes "show") then Some (AtAnswer v j controller ShowCall)
    else where_so (same_word word (codes "commit")) (InBlock v j controller no_commit)

-- the place after the first line of a call of this controller
abbrev pub after_call_of : LiveValue → JournalValue → ℕ → List ℕ → Option JournalPlace
after_call_of v j controller line =
    option_and_then (after_call_word v j controller) (after_prefix (call_front controller (length (calls_so_far v controller))) line)

-- the place after the first line of a call of one of four controllers
abbrev pub after_call : LiveValue → JournalValue → List ℕ → Option JournalPlace
after_call v j line =
    if is_free (replay v j).state.core.phase then
    option_or (after_call_of v j 0 line) (option_or (after_call_of v j 1 line) (option_or (after_call_of v j 2 line) (after_call_of v j 3 line)))
    else None

-- the place after a line among the entries: an entry that is no call, the first line of a call, or `receipts`
abbrev pub after_entry : LiveValue → JournalValue → List ℕ → Option JournalPlace
after_entry v j line =
    option_or (option_map (λ x. InEntries v (longer j x.0 x.1)) (said_entry (replay v j) (replay v j).state.core.phase line))
    (option_or (where_so (same_word line (codes "receipts") && is_idle (replay v j).state.core.phase) (InReceipts v j []))
    (after_call v j line))

-- the place after the line of a part of a commit, in its one spelling
abbrev pub after_part : LiveValue → JournalValue → ℕ → CommitValue → List ℕ → Result Part ScriptKind → Option JournalPlace
after_part v j controller commit line (Ok part) = where_so (same_word line (part_text part)) (InBlock v j controller (with_part commit part))
after_part v j controller commit line (Err kind) = None

-- the place after a line of the block of a commit
abbrev pub after_block : LiveValue → JournalValue → ℕ → CommitValue → List ℕ → Option JournalPlace
after_block v j controller commit line =
    if same_word line (codes "apply") then Some (AtAnswer v j controller (CommitCall commit))
    else after_part v j controller commit line (part_line v.setup.version commit line)

-- the place after the answer of a call, which is the one that the state gives
abbrev pub after_answer : LiveValue → JournalValue → ℕ → CallValue → List ℕ → Option JournalPlace
after_answer v j controller call line =
    let answer = call_answer call (replay v j).state.core in
    where_so (same_word line (spelled_answer answer))
    (InEntries (with_call_of v controller call) (longer j (Call controller (length (calls_so_far v controller)) answer) []))
