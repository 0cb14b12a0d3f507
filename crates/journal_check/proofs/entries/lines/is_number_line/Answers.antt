use Rattle.std.proofs.Common.{ℕ, ap, ◌∙◌, arith}
use Rattle.std.proofs.lemmas.List.{length-replicate}
use Rattle.std.specs.Prelude.{replicate}
use Rattle.std.specs.Fmt.{decimal}
use Rattle.script_lines.specs.Words.{same_word}
use Rattle.journal_check.proofs.WrittenBefore.{written_field}
use Rattle.journal_check.proofs.entries.lines.is_number_line.Goals as goal

pub returns : goal.returns
returns c =
    let start = c.field_before-start in
    c.same_word.ensures
    ∙ ap (λ text. same_word c.args.line.now text)
    (written_field c.args.name.now (decimal c.args.value) (replicate 64 0) start.new.bytes 64 start.result
    (length-replicate {A = ℕ} 64 0) (omega (arith, start.auto.bytes, length-replicate {A = ℕ} 64 0)) start.ensures.written)
