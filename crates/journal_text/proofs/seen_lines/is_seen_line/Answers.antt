use Rattle.std.proofs.Common.{◌-◌, ap, ◌∙◌, drop, arith}
use Rattle.std.proofs.lemmas.List.{append-nil, length-drop, take_all}
use Rattle.script_lines.specs.Words.{same_word}
use Rattle.journal_text.specs.Spelled.{spelled_seen}
use Rattle.journal_text.proofs.seen_lines.is_seen_line.Goals as goal

pub returns : goal.returns
returns c =
    let start = c.seen_before-start.result in
    let bytes = c.seen_before-start.new.line in
    c.same_word.ensures
    ∙ ap (λ text. same_word c.args.line.now text)
    (
    c.without_end.ensures (spelled_seen c.args.space.now c.args.worker c.args.receipt.now)
    (take_all (88 - start) (drop start bytes) (omega (arith, length-drop start bytes, c.seen_before-start.auto.line)) ∙ c.seen_before-start.ensures.written ∙ append-nil _)
    )
