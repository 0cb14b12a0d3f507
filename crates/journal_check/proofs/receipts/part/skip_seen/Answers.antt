use Rattle.std.proofs.Common.{rules, ◌≡◌, ℕ, sym, subst, arith}
use Rattle.std.proofs.lemmas.Result.{err_from_is_err_and}
use Rattle.std.specs.Prelude.{Result}
use Rattle.journal_check.specs.LinesLeft.{IsFault, said_left}
use Rattle.journal_text.specs.Place.{InReceipts, JournalRead}
use Rattle.journal_check.specs.SeenPart.{AreSeen}
use Rattle.journal_check.proofs.AllSeen.{one_more}
use Rattle.journal_check.proofs.receipts.part.skip_seen.Goals as goal

pub returns-in_err-_seen-clause-fault : goal.returns-in_err-_seen-clause-fault
returns-in_err-_seen-clause-fault c = λ v j few.
    let seen = c.seen.invariant.seen v j few in
    let fault = c.in_err-_seen.field-0.0 in
    let cut : IsFault fault (said_left (InReceipts v j seen.0) c.seen.lines) = c.in_err-_seen.ensures.cut (InReceipts v j seen.0) tt in
    let p = err_from_is_err_and c.from_residual.result c.from_residual.ensures.1 in
    rw (p.1, p.2) (subst (λ (r : Result JournalRead ℕ). IsFault fault r) (sym seen.1.said) cut)

pub seen-preserved : goal.seen-preserved
seen-preserved c = record {
  seen = λ v j few.
      let seen = c.seen.invariant.seen v j few in
      one_more v j seen.0 c.in_ok-_seen._seen.now c.seen.left c.args.lines.now c.seen.lines c.take_line.new.self c.seen-test.true seen.1 c.in_ok-_seen.ensures.left
      (c.in_ok-_seen.ensures.line (InReceipts v j seen.0));
  short = search rules;
}

pub returns-clause-seen : goal.returns-clause-seen
returns-clause-seen c = λ v j few.
    let seen = c.seen.invariant.seen v j few in
    let none : c.seen.left ≡ 0 = omega arith in
    (seen.0, subst (λ (n : ℕ). AreSeen n v j seen.0 c.args.lines.now c.seen.lines) none seen.1)
