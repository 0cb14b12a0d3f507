use Rattle.std.proofs.Common.{ℕ, [], sym, ap, subst, ◌∙◌}
use Rattle.std.specs.Prelude.{Result}
use Rattle.journal_check.specs.LinesLeft.{FaultIs}
use Rattle.journal_text.specs.Place.{JournalRead}
use Rattle.journal_check.specs.SeenPart.{accepted}
use Rattle.run_journal.specs.Steps.{steps}
use Rattle.journal_check.proofs.AllSeen.{on_ok, seen_all}
use Rattle.journal_check.proofs.receipts.part.take_receipts.Goals as goal

pub returns-clause-settled : goal.returns-clause-settled
returns-clause-settled c =
    on_ok c.take_settled.result (λ settled v j stand.
    let seen = c.in_ok-skip_seen.ensures.seen v j (c.in_ok-count.ensures (steps v j) stand.named ∙ ap (accepted (steps v j) []) stand.next) in
    (seen.0, seen.1.said ∙ settled v j seen.0 (seen_all v j seen.0 c.args.ahead c.args.unreceived c.args.lines.now c.skip_seen.new.lines stand seen.1)))
    c.take_settled.ensures.settled

pub returns-clause-fault : goal.returns-clause-fault
returns-clause-fault c = λ v j stand.
    let seen = c.in_ok-skip_seen.ensures.seen v j (c.in_ok-count.ensures (steps v j) stand.named ∙ ap (accepted (steps v j) []) stand.next) in
    subst (λ (r : Result JournalRead ℕ). FaultIs c.take_settled.result r) (sym seen.1.said)
    (c.take_settled.ensures.fault v j seen.0 (seen_all v j seen.0 c.args.ahead c.args.unreceived c.args.lines.now c.skip_seen.new.lines stand seen.1))
