-- The lines of a journal after its head have no LF.
use Rattle.std.proofs.Common.{◌≡◌, ℕ, ◌+◌, ◌^◌, ◌≤◌, ◌<◌, Bool, true, false, List, [], ◌∷◌, ◌++◌, codes, decimal, length, map, Some, None, refl, arith}
use Rattle.std.proofs.lemmas.List.Elements.{All-append}
use Rattle.std.specs.Prelude.{◌≢◌, Option, take}
use Rattle.std.specs.List.{AllByRecursion, list_all}
use Rattle.damon_types.specs.declared.attrs.AttrsFault.{AttrsFault}
use Rattle.damon_types.specs.declared.attrs.AttrsFault.TheVariants.{MinTooSmall, MinOverMax, AggrOutOfRange}
use Rattle.damon_types.specs.declared.scheme.SchemeFault.{SchemeFault}
use Rattle.damon_types.specs.declared.scheme.SchemeFault.TheVariants.{SlotOutOfRange, PatternReversed, ZeroReset, MarksOutOfOrder, BadFilter, TimeInOne}
use Rattle.damon_types.specs.declared.scheme.Version.{Version}
use Rattle.damon_types.specs.declared.space.Target.{Target}
use Rattle.damon_types.specs.Space.{pages_of}
use Rattle.damon_types.proofs.Lemmas.{all_parts}
use Rattle.target_ranges.specs.declared.fault.RangeWhy.{RangeWhy}
use Rattle.target_ranges.specs.declared.fault.RangeWhy.TheVariants.{TooMany, NoSuchTarget, Unaligned, Reversed, OutsideSpan, TooSmall, BadClass, Overlap}
use Rattle.live_commit.specs.declared.fault.CommitFault.{CommitFault}
use Rattle.live_commit.specs.declared.fault.CommitFault.TheVariants.{Busy, NoRange, BadRange, RangesOverMax, BadAttrs, OverCap, BadScheme, BadCost}
use Rattle.live_commit.specs.Commit.{CommitValue}
use Rattle.line_text.specs.Parts.{IsPiece, is_printable}
use Rattle.script_lines.specs.declared.part.Part.{Part}
use Rattle.script_lines.specs.Body.{no_commit, with_part}
use Rattle.damon_control.specs.declared.live.TheConstants.{MAX_WORKERS}
use Rattle.damon_control.specs.CommitLines.{AreReadAfter}
use Rattle.damon_control.proofs.Lemmas.{parts_read_back}
use Rattle.damon_control.specs.Live.{CallValue, CommitCall, LiveValue, ShowCall}
use Rattle.damon_control.specs.Written.{part_text, parts_of, written_commit}
use Rattle.damon_control.specs.Spellable.{FitsCall}
use Rattle.snapshot_print.specs.Commit.{attrs_why, range_why, refusal_text, scheme_why}
use Rattle.snapshot_print.specs.Fields.{yes_or_no}
use Rattle.run_journal.specs.declared.entry.CallAnswer.{CallAnswer}
use Rattle.run_journal.specs.declared.entry.CallAnswer.TheVariants.{Shown, Changed, Refused}
use Rattle.run_journal.specs.declared.entry.Entry.{Entry}
use Rattle.run_journal.specs.declared.entry.Entry.TheVariants.{Prepare, Check, Void, Aggregate, Call}
use Rattle.run_journal.specs.declared.entry.Receipt.{Receipt}
use Rattle.run_journal.specs.Replay.{JournalValue, Replayed, begun, bits_taken, call_at, carried}
use Rattle.run_journal.specs.Limits.{AnswerFits, CanCall, EntryNumbersFit, FaultFits, TagsFit}
use Rattle.run_journal.specs.Lawful.{all_of}
use Rattle.journal_text.specs.SeenLine.{PlaceFits}
use Rattle.journal_text.specs.Spelled.{answer_said, answered_lines, bit_digit, call_front, call_lines, check_front, spelled_aggregate, spelled_answer, spelled_check, spelled_prepare, spelled_seen, spelled_void}
use Rattle.journal_text.specs.Text.{entries_lines, entry_lines, journal_lines, seen_lines}
use Rattle.journal_text.proofs.Common.{Pieces, both_pieces, no_pieces, piece_first}
use Rattle.journal_text.proofs.PlainLines.{line_prints, literal, number_piece, part_piece}
use Rattle.journal_text.proofs.SeenRead.{PlacesFit, seen_words, words_plain}

-- the parts of a line
both : (a b : List ℕ) → IsPiece 10 a → IsPiece 10 b → IsPiece 10 (a ++ b)
both a b one two = All-append (λ c. c ≢ 10) a b one two

-- a word and a number
with_number : (first : List ℕ) (n : ℕ) → IsPiece 10 first → n < 2 ^ 64 → IsPiece 10 (first ++ decimal n)
with_number first n f small = both first (decimal n) f (number_piece n small)

-- a word, a number and what follows
then_more : (first : List ℕ) (n : ℕ) (more : List ℕ) → IsPiece 10 first → n < 2 ^ 64 → IsPiece 10 more → IsPiece 10 (first ++ (decimal n ++ more))
then_more first n more f small m = both first (decimal n ++ more) f (both (decimal n) more (number_piece n small) m)

-- the digits of results have no LF
digits_piece : (bits : List Bool) → IsPiece 10 (map bit_digit bits)
digits_piece bits = literal (map bit_digit bits) (by bits)
  where
    by : (bits : List Bool) → list_all is_printable (map bit_digit bits) ≡ true
    by [] = refl
    by (true ∷ bits) = by bits
    by (false ∷ bits) = by bits

-- ---- answers

-- nor has the word of any fault
attrs_piece : (why : AttrsFault) → IsPiece 10 (attrs_why why)
attrs_piece (MinTooSmall min) = literal (codes "min-too-small") refl
attrs_piece (MinOverMax min max) = literal (codes "min-over-max") refl
attrs_piece (AggrOutOfRange aggr) = literal (codes "aggr-out-of-range") refl

scheme_piece : (why : SchemeFault) → IsPiece 10 (scheme_why why)
scheme_piece (SlotOutOfRange slot) = literal (codes "slot-out-of-range") refl
scheme_piece (PatternReversed part) = literal (codes "pattern-reversed") refl
scheme_piece ZeroReset = literal (codes "zero-reset") refl
scheme_piece MarksOutOfOrder = literal (codes "marks-out-of-order") refl
scheme_piece (BadFilter index) = literal (codes "bad-filter") refl
scheme_piece TimeInOne = literal (codes "time-in-one") refl

range_piece : (why : RangeWhy) → IsPiece 10 (range_why why)
range_piece TooMany = literal (codes "too-many") refl
range_piece NoSuchTarget = literal (codes "no-such-target") refl
range_piece Unaligned = literal (codes "unaligned") refl
range_piece Reversed = literal (codes "reversed") refl
range_piece OutsideSpan = literal (codes "outside-span") refl
range_piece TooSmall = literal (codes "too-small") refl
range_piece BadClass = literal (codes "bad-class") refl
range_piece Overlap = literal (codes "overlap") refl

refusal_piece : (fault : CommitFault) → FaultFits fault → IsPiece 10 (refusal_text fault)
refusal_piece (Busy next) fits = with_number (codes "busy next=") next (literal (codes "busy next=") refl) fits
refusal_piece NoRange fits = literal (codes "no-range") refl
refusal_piece (BadRange index why) fits =
    then_more (codes "bad-range index=") index (codes " " ++ range_why why) (literal (codes "bad-range index=") refl) fits (both (codes " ") (range_why why) (literal (codes " ") refl) (range_piece why))
refusal_piece (RangesOverMax ranges max) fits =
    then_more (codes "ranges-over-max ranges=") ranges (codes " max=" ++ decimal max) (literal (codes "ranges-over-max ranges=") refl) fits.0 (with_number (codes " max=") max (literal (codes " max=") refl) fits.1)
refusal_piece (BadAttrs why) fits = both (codes "bad-attrs ") (attrs_why why) (literal (codes "bad-attrs ") refl) (attrs_piece why)
refusal_piece (OverCap max most) fits =
    then_more (codes "over-cap max=") max (codes " cap=" ++ decimal most) (literal (codes "over-cap max=") refl) fits.0 (with_number (codes " cap=") most (literal (codes " cap=") refl) fits.1)
refusal_piece (BadScheme why) fits = both (codes "bad-scheme ") (scheme_why why) (literal (codes "bad-scheme ") refl) (scheme_piece why)
refusal_piece (BadCost slot) fits = with_number (codes "bad-cost slot=") slot (literal (codes "bad-cost slot=") refl) (omega (arith, fits))

yes_piece : (b : Bool) → IsPiece 10 (yes_or_no b)
yes_piece true = literal (codes "yes") refl
yes_piece false = literal (codes "no") refl

said_piece : (answer : CallAnswer) → AnswerFits answer → IsPiece 10 (answer_said answer)
said_piece (Shown tick rows) fits =
    then_more (codes "shown tick=") tick (codes " rows=" ++ decimal rows) (literal (codes "shown tick=") refl) fits.0 (with_number (codes " rows=") rows (literal (codes " rows=") refl) fits.1)
said_piece (Changed rows void) fits =
    then_more (codes "ok rows=") rows (codes " void=" ++ yes_or_no void) (literal (codes "ok rows=") refl) fits (both (codes " void=") (yes_or_no void) (literal (codes " void=") refl) (yes_piece void))
said_piece (Refused fault) fits = both (codes "refused ") (refusal_text fault) (literal (codes "refused ") refl) (refusal_piece fault fits)

answer_piece : (answer : CallAnswer) → AnswerFits answer → IsPiece 10 (spelled_answer answer)
answer_piece answer fits = both (codes "answer ") (answer_said answer) (literal (codes "answer ") refl) (said_piece answer fits)

-- ---- entries

one : (line : List ℕ) → IsPiece 10 line → Pieces (line ∷ [])
one line piece = piece_first line [] piece no_pieces

-- the lines of parts are accepted, and so have no LF
parts_pieces : (version : Version) (before : CommitValue) (parts : List Part) → AreReadAfter version before parts → Pieces (map part_text parts)
parts_pieces version before [] are = no_pieces
parts_pieces version before (p ∷ parts) are =
    piece_first (part_text p) (map part_text parts) (part_piece version before (part_text p) p are.0) (parts_pieces version (with_part before p) parts are.1)

front_piece : (controller index : ℕ) → controller < 2 ^ 64 → index < 2 ^ 64 → IsPiece 10 (call_front controller index)
front_piece controller index few small =
    then_more (codes "call ") controller (codes " " ++ (decimal index ++ codes " ")) (literal (codes "call ") refl) few
    (then_more (codes " ") index (codes " ") (literal (codes " ") refl) small (literal (codes " ") refl))

call_pieces : (version : Version) (controller index : ℕ) (call : CallValue) → controller < 2 ^ 64 → index < 2 ^ 64 → FitsCall version call → Pieces (call_lines controller index call)
call_pieces version controller index ShowCall few small fits =
    one (call_front controller index ++ codes "show") (both (call_front controller index) (codes "show") (front_piece controller index few small) (literal (codes "show") refl))
call_pieces version controller index (CommitCall commit) few small fits =
    piece_first (call_front controller index ++ codes "commit") (written_commit commit ++ codes "apply" ∷ [])
    (both (call_front controller index) (codes "commit") (front_piece controller index few small) (literal (codes "commit") refl))
    (both_pieces (written_commit commit) (codes "apply" ∷ []) (parts_pieces version no_commit (parts_of commit) (parts_read_back version commit fits.0 fits.1 fits.2).each) (one (codes "apply") (literal (codes "apply") refl)))

entry_pieces : (v : LiveValue) → CanCall v → (bits : List Bool) (e : Entry) → EntryNumbersFit e → Pieces (entry_lines v bits e)
entry_pieces v can bits (Prepare pass pos) fits =
    one (spelled_prepare pass pos) (then_more (codes "prepare ") pass (codes " at " ++ decimal pos) (literal (codes "prepare ") refl) fits.0 (with_number (codes " at ") pos (literal (codes " at ") refl) fits.1))
entry_pieces v can bits (Check pass) fits =
    one (spelled_check pass bits) (both (check_front pass) (map bit_digit bits) (then_more (codes "check ") pass (codes " ") (literal (codes "check ") refl) fits (literal (codes " ") refl)) (digits_piece bits))
entry_pieces v can bits (Void pass) fits = one (spelled_void pass) (with_number (codes "void ") pass (literal (codes "void ") refl) fits)
entry_pieces v can bits (Aggregate tick pos) fits =
    one (spelled_aggregate tick pos) (then_more (codes "aggregate ") tick (codes " at " ++ decimal pos) (literal (codes "aggregate ") refl) fits.0 (with_number (codes " at ") pos (literal (codes " at ") refl) fits.1))
entry_pieces v can bits (Call controller index answer) fits = by (call_at v controller index) refl
  where
    by : (o : Option CallValue) → call_at v controller index ≡ o → Pieces (answered_lines controller index answer o)
    by None is = no_pieces
    by (Some call) is =
        both_pieces (call_lines controller index call) (spelled_answer answer ∷ []) (call_pieces v.setup.version controller index call fits.0 fits.1 (can controller index call is))
        (one (spelled_answer answer) (answer_piece answer fits.2))

entries_pieces : (v : LiveValue) → CanCall v → (r : Replayed) (es : List Entry) → AllByRecursion EntryNumbersFit es → Pieces (entries_lines v r es)
entries_pieces v can r [] fits = no_pieces
entries_pieces v can r (e ∷ es) fits =
    let bits = take (bits_taken r.state.core e) r.bits in
    both_pieces (entry_lines v bits e) (entries_lines v (carried v r e) es) (entry_pieces v can bits e fits.0) (entries_pieces v can (carried v r e) es fits.1)

-- ---- receipts

pub seen_piece : (space : List Target) (w : ℕ) (r : Receipt) → PlaceFits space r.page → w < 2 ^ 8 → r.tag < 2 ^ 64 → IsPiece 10 (spelled_seen space w r)
seen_piece space w r fit few tag = literal (spelled_seen space w r) (line_prints (codes "seen") (seen_words space w r) (words_plain space w r fit few tag))

worker_pieces : (space : List Target) → PlacesFit space → (w : ℕ) (rs : List Receipt) → w < 2 ^ 8 → AllByRecursion (λ r. r.page < pages_of space) rs → AllByRecursion (λ r. r.tag < 2 ^ 64) rs → Pieces (map (spelled_seen space w) rs)
worker_pieces space fit w [] few within tags = no_pieces
worker_pieces space fit w (r ∷ rs) few within tags =
    piece_first (spelled_seen space w r) (map (spelled_seen space w) rs) (seen_piece space w r (fit r.page within.0) few tags.0) (worker_pieces space fit w rs few within.1 tags.1)

seen_pieces : (space : List Target) → PlacesFit space → (w : ℕ) (all : List (List Receipt)) → w + length all ≤ MAX_WORKERS → AllByRecursion (λ r. r.page < pages_of space) (all_of all) → TagsFit all → Pieces (seen_lines space w all)
seen_pieces space fit w [] few within tags = no_pieces
seen_pieces space fit w (rs ∷ all) few within tags =
    let apart = all_parts (λ r. r.page < pages_of space) rs (all_of all) within in
    both_pieces (map (spelled_seen space w) rs) (seen_lines space (w + 1) all) (worker_pieces space fit w rs (omega (arith, few)) apart.0 tags.0)
    (seen_pieces space fit (w + 1) all (omega (arith, few)) apart.1 tags.1)

-- ---- all lines after the head, up to `settled`

-- for a journal and receipts within their types
pub body_pieces : (v : LiveValue) (j : JournalValue) (all : List (List Receipt)) → PlacesFit v.setup.space → CanCall v → length all ≤ MAX_WORKERS
    → AllByRecursion EntryNumbersFit j.entries → AllByRecursion (λ r. r.page < pages_of v.setup.space) (all_of all) → TagsFit all
    → Pieces (journal_lines v j ++ codes "receipts" ∷ (seen_lines v.setup.space 0 all ++ codes "settled" ∷ []))
body_pieces v j all places can few numbers within tags =
    let seen = seen_lines v.setup.space 0 all in
    both_pieces (journal_lines v j) (codes "receipts" ∷ (seen ++ codes "settled" ∷ []))
    (entries_pieces v can (begun v j.bits) j.entries numbers)
    (piece_first (codes "receipts") (seen ++ codes "settled" ∷ []) (literal (codes "receipts") refl)
    (both_pieces seen (codes "settled" ∷ []) (seen_pieces v.setup.space places 0 all (omega (arith, few)) within tags) (one (codes "settled") (literal (codes "settled") refl))))
