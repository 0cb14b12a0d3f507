use Rattle.std.proofs.Common.{ℕ, ap, ◌∙◌, arith}
use Rattle.std.proofs.lemmas.List.{length-replicate}
use Rattle.std.specs.Prelude.{codes, replicate}
use Rattle.std.specs.Fmt.{decimal}
use Rattle.line_text.specs.Line.{after_prefix}
use Rattle.journal_text.specs.Spelled.{call_front}
use Rattle.journal_check.proofs.WrittenBefore.{written_pair_front}
use Rattle.journal_check.proofs.entries.lines.call_word.Goals as goal

pub returns : goal.returns
returns c =
    let end = c.text_before-end in
    let middle = c.field_before-middle in
    let start = c.field_before-start in
    c.strip.ensures.exact
    ∙ ap (λ front. after_prefix front c.args.line.now)
    (
    written_pair_front (codes "call ") (decimal c.from-2.result) (codes " ") (decimal c.from.result) (codes " ") (replicate 64 0) end.new.bytes middle.new.bytes start.new.bytes 64 end.result middle.result start.result
    (length-replicate {A = ℕ} 64 0) (omega (arith, end.auto.bytes, middle.auto.bytes, start.auto.bytes, length-replicate {A = ℕ} 64 0)) end.ensures.written middle.ensures.written start.ensures.written
    ∙ ap (λ n. call_front n c.from.result) c.from-2.ensures
    ∙ ap (λ n. call_front c.args.controller n) c.from.ensures
    )
