use Rattle.std.proofs.Common.{ℕ, ap, ◌∙◌, arith}
use Rattle.std.proofs.lemmas.List.{length-replicate}
use Rattle.std.specs.Prelude.{codes, replicate}
use Rattle.std.specs.Fmt.{decimal}
use Rattle.line_text.specs.Line.{after_prefix}
use Rattle.journal_check.proofs.WrittenBefore.{written_front}
use Rattle.journal_check.proofs.entries.lines.check_digits.Goals as goal

pub returns : goal.returns
returns c =
    let end = c.text_before-end in
    let start = c.field_before-start in
    c.strip.ensures.exact
    ∙ ap (λ front. after_prefix front c.args.line.now)
    (written_front (codes "check ") (decimal c.args.pass) (codes " ") (replicate 64 0) end.new.bytes start.new.bytes 64 end.result start.result
    (length-replicate {A = ℕ} 64 0) (omega (arith, end.auto.bytes, start.auto.bytes, length-replicate {A = ℕ} 64 0)) end.ensures.written start.ensures.written)
