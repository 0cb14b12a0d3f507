use Rattle.std.proofs.Common.{◌<◌, length, ap, sym, subst, arith, rules, length-append}
use Rattle.text_io.specs.Taken.{WritesPart}
use Rattle.text_io.proofs.Counting.{EndsAtFault-as, EndsAtFault-then}
use Rattle.text_io.proofs.Known.{WritesPart-longer, Written-part, Written-then, parts_joined}
use Rattle.text_io.proofs.output.write_all.Goals as goal

pub returns-in_err-write_piece-clause-part : goal.returns-in_err-write_piece-clause-part
returns-in_err-write_piece-clause-part g c =
    let taken = g.K.Sink.taken in
    let rest = c.pieces.rest.now in
    let piece = c.split_at.result.0.now in
    let joined = parts_joined c.piece_length.result rest piece c.split_at.result.1.now c.split_at.ensures.front c.split_at.ensures.back in
    let part = WritesPart-longer _ _ piece c.split_at.result.1.now c.in_err-write_piece.ensures.part in
    Written-part _ (taken c.pieces.sink) _ _ rest c.pieces.invariant.written (subst (WritesPart _ _) (sym joined) part)

pub pieces-preserved : goal.pieces-preserved
pieces-preserved g c =
    let taken = g.K.Sink.taken in
    let rest = c.pieces.rest.now in
    let joined = parts_joined c.piece_length.result rest c.split_at.result.0.now c.split_at.result.1.now c.split_at.ensures.front c.split_at.ensures.back in
    let some : 0 < length rest = search rules in
    record {
      written = Written-then _ (taken c.pieces.sink) _ _ rest _ c.pieces.invariant.written (c.split_at.result.0.now, c.in_ok-write_piece.ensures.all, joined);
      unused = λ none. absurd (omega (arith, some, ap length none, ap length c.pieces.invariant.written.2, length-append c.pieces.invariant.written.0 rest));
      quiet = EndsAtFault-then (λ no. no) c.pieces.invariant.quiet (EndsAtFault-as (λ no. absurd no) (λ e. absurd (cc e)) c.in_ok-write_piece.ensures.writes);
    }
