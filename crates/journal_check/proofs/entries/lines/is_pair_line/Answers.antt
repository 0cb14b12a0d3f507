use Rattle.std.proofs.Common.{ℕ, ap, ◌∙◌, arith}
use Rattle.std.proofs.lemmas.List.{length-replicate}
use Rattle.std.specs.Prelude.{replicate}
use Rattle.std.specs.Fmt.{decimal}
use Rattle.script_lines.specs.Words.{same_word}
use Rattle.journal_check.proofs.WrittenBefore.{written_pair}
use Rattle.journal_check.proofs.entries.lines.is_pair_line.Goals as goal

pub returns : goal.returns
returns c =
    let middle = c.field_before-middle in
    let start = c.field_before-start in
    c.same_word.ensures
    ∙ ap (λ text. same_word c.args.line.now text)
    (written_pair c.args.name.now (decimal c.args.first) c.args.between.now (decimal c.args.second) (replicate 64 0) middle.new.bytes start.new.bytes 64 middle.result start.result
    (length-replicate {A = ℕ} 64 0) (omega (arith, middle.auto.bytes, start.auto.bytes, length-replicate {A = ℕ} 64 0)) middle.ensures.written start.ensures.written)
