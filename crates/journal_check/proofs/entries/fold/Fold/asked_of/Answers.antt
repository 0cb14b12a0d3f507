use Rattle.std.proofs.Common.{ℕ, ap, ◌∙◌}
use Rattle.std.specs.Prelude.{option_and_then}
use Rattle.line_text.specs.Line.{after_prefix}
use Rattle.journal_text.specs.EntryLine.{after_call_word}
use Rattle.journal_text.specs.Spelled.{call_front}
use Rattle.journal_check.proofs.CallsTaken.{index_is}
use Rattle.journal_check.proofs.entries.fold.Fold.asked_of.Goals as goal

pub returns : goal.returns
returns c = λ v j h.
    let controller = c.args.controller in
    c.asked_by.ensures v j controller
    ∙ ap (option_and_then (after_call_word v j controller))
    (c.in_ok-word.ensures ∙ ap (λ (n : ℕ). after_prefix (call_front controller n) c.args.line.now) (index_is v j c.args.self.now controller h))
