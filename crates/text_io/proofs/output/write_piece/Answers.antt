use Rattle.std.proofs.Common.{take, refl}
use Rattle.text_io.proofs.Counting.{EndsAtFault-then, EndsAtFault-went}
use Rattle.text_io.proofs.Known.{WritesPart-kept, Written-part, Written-then, parts_joined}
use Rattle.text_io.proofs.output.write_piece.Goals as goal

pub returns-in_err-count-clause-part : goal.returns-in_err-count-clause-part
returns-in_err-count-clause-part g c =
    let taken = g.K.Sink.taken in
    Written-part _ (taken c.writes.sink) _ _ c.writes.rest.now c.writes.invariant.written (WritesPart-kept _ _ _ c.in_err-count.ensures.bytes)

pub writes-preserved : goal.writes-preserved
writes-preserved g c =
    let taken = g.K.Sink.taken in
    let rest = c.writes.rest.now in
    let front = take c.in_ok-count.count rest in
    record {
      written = Written-then _ (taken c.writes.sink) _ _ rest _ c.writes.invariant.written (front, c.in_ok-count.ensures.bytes, parts_joined c.in_ok-count.count rest front _ refl c.split_at.ensures.back);
      quiet = EndsAtFault-then (λ no. no) c.writes.invariant.quiet (EndsAtFault-went c.in_ok-count.ensures.counted);
    }
