use Rattle.std.proofs.Common.{sym, ap, ◌∙◌}
use Rattle.std.specs.Option.{ok_or}
use Rattle.script_lines.specs.Refusal.{◌>>=◌}
use Rattle.journal_text.specs.EntryLine.{where_so}
use Rattle.journal_check.specs.LinesLeft.{said_left}
use Rattle.journal_text.specs.Place.{InReceipts}
use Rattle.journal_check.specs.SeenPart.{after_all_receipts}
use Rattle.journal_check.proofs.LastLines.{fault_is}
use Rattle.journal_check.proofs.AllSeen.{settled_place}
use Rattle.journal_check.proofs.receipts.part.take_settled.Goals as goal

pub returns-then-is_settled-clause-settled : goal.returns-then-is_settled-clause-settled
returns-then-is_settled-clause-settled c = λ v j all seen.
    let new = c.take_line.new.self in
    let place = settled_place v j all c.in_ok-line.line.now c.args.unreceived c.args.lines.now new c.in_ok-line.ensures.left seen in
    c.in_ok-line.ensures.line (InReceipts v j all)
    ∙ ap (λ o. ok_or o new.taken >>= λ next. said_left next new) place
    ∙ ap (λ t. ok_or (where_so t (after_all_receipts v j all)) new.taken >>= λ next. said_left next new) (sym c.is_settled.ensures ∙ c.if-is_settled.true)

pub returns-else-is_settled-clause-fault : goal.returns-else-is_settled-clause-fault
returns-else-is_settled-clause-fault c = λ v j all seen.
    let new = c.take_line.new.self in
    let place = settled_place v j all c.in_ok-line.line.now c.args.unreceived c.args.lines.now new c.in_ok-line.ensures.left seen in
    fault_is c.refuse.result new.taken _ c.refuse.ensures
    (c.in_ok-line.ensures.line (InReceipts v j all)
    ∙ ap (λ o. ok_or o new.taken >>= λ next. said_left next new) place
    ∙ ap (λ t. ok_or (where_so t (after_all_receipts v j all)) new.taken >>= λ next. said_left next new) (sym c.is_settled.ensures ∙ c.if-is_settled.false))
