-- A range line at the front of what is left of a commit.
use Rattle.std.proofs.Common.{◌≡◌, ℕ, ◌+◌, true, List, ◌∷◌, ◌++◌, Ok, refl, ap, ◌∙◌}
use Rattle.std.specs.Option.{ok_or}
use Rattle.damon_types.specs.declared.range.RangeSpec.{RangeSpec}
use Rattle.damon_types.specs.declared.scheme.Version.TheVariants.{One}
use Rattle.line_text.specs.Parts.{parts}
use Rattle.line_text.proofs.Lemmas.{parts_first}
use Rattle.live_commit.specs.Commit.{CommitValue}
use Rattle.script_lines.specs.declared.part.Part.TheVariants.{Range}
use Rattle.script_lines.specs.Body.{no_commit, part_line, wants_slot, with_part}
use Rattle.script_lines.specs.Fits.{FitsRange}
use Rattle.script_lines.specs.Refusal.{◌>>=◌}
use Rattle.script_lines.specs.Spelling.{spelled_range}
use Rattle.script_lines.proofs.Lemmas.{lines_read_back}
use Rattle.damon_control.specs.Live.{LiveValue}
use Rattle.journal_check.specs.Ahead.{after_receipts}
use Rattle.journal_text.specs.Place.{InBlock}
use Rattle.journal_text.specs.Reading.{said_from}
use Rattle.run_journal.specs.Replay.{JournalValue}
use Rattle.journal_check.proofs.BlockTaken.{ahead_same, part_added, part_is_no_apply, part_is_no_receipts}
use Rattle.journal_text.proofs.Lemmas.{same_line, part_piece}
use Rattle.journal_check.proofs.Lefts.{said_line}

-- a text that begins with a range line goes on with the rest
pub record BeginsWithRange (text : List ℕ) (range : RangeSpec) (rest : List ℕ) : Type 0 where
  pub whole : text ≡ spelled_range range ++ 10 ∷ rest
  pub fits : FitsRange range

-- its first line is then the range
range_first : (text : List ℕ) (range : RangeSpec) (rest : List ℕ) → BeginsWithRange text range rest → parts 10 text ≡ spelled_range range ∷ parts 10 rest
range_first text range rest begins =
    let line = spelled_range range in
    let said : part_line One no_commit line ≡ Ok (Range range) = lines_read_back.part One no_commit line (Range range) refl (refl, begins.fits) in
    ap (parts 10) begins.whole ∙ parts_first 10 line rest (part_piece One no_commit line (Range range) said)

-- where a range may come in a commit, the text says what the rest says after the range
pub range_said : (text : List ℕ) (range : RangeSpec) (rest : List ℕ) → BeginsWithRange text range rest
    → (n : ℕ) (v : LiveValue) (j : JournalValue) (c : ℕ) (commit : CommitValue) → wants_slot commit ≡ true
    → said_from n (InBlock v j c commit) (parts 10 text) ≡ said_from (n + 1) (InBlock v j c (with_part commit (Range range))) (parts 10 rest)
range_said text range rest begins n v j c commit comes =
    let line = spelled_range range in
    let said : part_line v.setup.version commit line ≡ Ok (Range range) = lines_read_back.part v.setup.version commit line (Range range) comes (refl, begins.fits) in
    ap (said_from n (InBlock v j c commit)) (range_first text range rest begins)
    ∙ said_line n (InBlock v j c commit) line rest
    ∙ ap (λ o. ok_or o n >>= λ next. said_from (n + 1) next (parts 10 rest))
    (part_added v j c commit line (Range range) (part_is_no_apply v.setup.version commit line (Range range) said) said (same_line line))

-- and the same lines come after `receipts`
pub range_ahead : (text : List ℕ) (range : RangeSpec) (rest : List ℕ) → BeginsWithRange text range rest → after_receipts (parts 10 text) ≡ after_receipts (parts 10 rest)
range_ahead text range rest begins =
    let line = spelled_range range in
    let said : part_line One no_commit line ≡ Ok (Range range) = lines_read_back.part One no_commit line (Range range) refl (refl, begins.fits) in
    ahead_same line (parts 10 text) (parts 10 rest) (range_first text range rest begins) (part_is_no_receipts One no_commit line (Range range) said)
