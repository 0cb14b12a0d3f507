-- A range line at the front of what is left of a commit is read as a range.
use Rattle.std.proofs.Common.{◌≡◌, ℕ, ◌+◌, true, List, ◌∷◌, ◌++◌, codes, Ok, refl, ap, ◌∙◌}
use Rattle.damon_types.specs.declared.range.RangeSpec.{RangeSpec}
use Rattle.line_text.specs.Parts.{parts}
use Rattle.live_commit.specs.Commit.{CommitValue}
use Rattle.script_lines.specs.declared.part.Part.TheVariants.{Range}
use Rattle.script_lines.specs.Body.{part_line, wants_slot, with_part}
use Rattle.script_lines.specs.Fits.{FitsRange}
use Rattle.script_lines.specs.Refusal.{◌>>=◌}
use Rattle.script_lines.specs.Spelling.{spelled_range}
use Rattle.script_lines.specs.Words.{alone, begins_with}
use Rattle.line_text.proofs.Lemmas.{parts_first}
use Rattle.script_lines.proofs.Lemmas.{lines_read_back}
use Rattle.damon_control.specs.declared.grammar.Grammar.{Grammar}
use Rattle.damon_control.specs.Script.{InCommit, Within, after_commit, at, reads, version_in, with_commit}
use Rattle.damon_control.proofs.LineWords.{part_begins, plain-IsPiece}
use Rattle.damon_control.proofs.PartLemmas.{reads_line}
use Rattle.damon_control.proofs.Steps.{passed_over}

-- where a range may come in a commit, a text that begins with one is read as the range and the rest
pub reads_range : (text : List ℕ) (range : RangeSpec) (rest : List ℕ) → text ≡ spelled_range range ++ 10 ∷ rest → FitsRange range
    → (n : ℕ) (g : Grammar) (b : Within g) (c : CommitValue) → wants_slot c ≡ true
    → reads g n (InCommit b c) (parts 10 text) ≡ reads g (n + 1) (InCommit b (with_part c (Range range))) (parts 10 rest)
reads_range text range rest whole fits n g b c comes =
    let line = spelled_range range in
    let said : part_line (version_in g b) c line ≡ Ok (Range range) = lines_read_back.part (version_in g b) c line (Range range) comes (refl, fits) in
    let begins = part_begins (version_in g b) c line (Range range) said in
    let after : after_commit g b c line ≡ Ok (InCommit b (with_part c (Range range))) =
    passed_over (begins_with (codes "apply") line) (alone (codes "apply") line >>= λ _. with_commit g b c)
    (part_line (version_in g b) c line >>= λ part. Ok (InCommit b (with_part c part))) (Ok (InCommit b (with_part c (Range range)))) begins.not_first
    (ap (λ r. r >>= λ part. Ok (InCommit b (with_part c part))) said)
    in
    ap (λ bytes. reads g n (InCommit b c) (parts 10 bytes)) whole
    ∙ ap (reads g n (InCommit b c)) (parts_first 10 line rest (plain-IsPiece line begins.plain))
    ∙ reads_line g n (InCommit b c) line rest
    ∙ ap (λ r. at n r >>= λ next. reads g (n + 1) next (parts 10 rest)) after
