-- A text that is read line by line.
use Rattle.std.proofs.Common.{◌≡◌, ℕ, ◌+◌, ◌<◌, ◌==◌, List, [], ◌∷◌, length, Err, refl, arith}
use Rattle.std.proofs.lemmas.List.Splits.{length-slice_split}
use Rattle.std.specs.Option.{ok_or}
use Rattle.line_text.specs.Parts.{parts}
use Rattle.script_lines.specs.Refusal.{◌>>=◌}
use Rattle.journal_text.specs.Place.{AtAnswer, AtLast, InBlock, InEntries, InHead, InReceipts, JournalPlace}
use Rattle.journal_check.specs.LinesLeft.{WantsLine}
use Rattle.journal_text.specs.Reading.{line_after, said_from}

pub parts_some : (bytes : List ℕ) → 0 < length (parts 10 bytes)
parts_some bytes = omega (arith, length-slice_split (λ c. c == 10) bytes)

-- a line with lines after it is read, and then these
pub said_more : (n : ℕ) (place : JournalPlace) (line : List ℕ) (lines : List (List ℕ)) → 0 < length lines
    → said_from n place (line ∷ lines) ≡ (ok_or (line_after place line) n >>= λ next. said_from (n + 1) next lines)
said_more n place line [] some = absurd (omega arith)
said_more n place line (next ∷ more) some = refl

-- a line with bytes after it is read, and then these
pub said_line : (n : ℕ) (place : JournalPlace) (line bytes : List ℕ)
    → said_from n place (line ∷ parts 10 bytes) ≡ (ok_or (line_after place line) n >>= λ next. said_from (n + 1) next (parts 10 bytes))
said_line n place line bytes = said_more n place line (parts 10 bytes) (parts_some bytes)

-- where a line is wanted, bytes that no LF ends are rejected
pub said_cut : (n : ℕ) (place : JournalPlace) (bytes : List ℕ) → WantsLine place → said_from n place (bytes ∷ []) ≡ Err n
said_cut n (InHead p) bytes wants = refl
said_cut n (InEntries v j) bytes wants = refl
said_cut n (InBlock v j c commit) bytes wants = refl
said_cut n (AtAnswer v j c call) bytes wants = refl
said_cut n (InReceipts v j all) bytes wants = refl
said_cut n (AtLast said wanted) bytes wants = absurd wants
