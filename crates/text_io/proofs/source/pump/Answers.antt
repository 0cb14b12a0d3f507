use Rattle.std.proofs.Common.{Ok, ap, subst, refl}
use Rattle.std.specs.Io.KnownBytes.{Appends}
use Rattle.std.proofs.lemmas.Result.{err_from_is_err_and}
use Rattle.text_io.specs.Taken.{WritesPart}
use Rattle.text_io.proofs.Counting.{EndsAtFault-as, EndsAtFault-then}
use Rattle.text_io.proofs.Pumping.{last_piece, no_fault_of_memory, part_left, part_more, piece_more}
use Rattle.text_io.proofs.source.pump.Goals as goal

pub returns-in_err-filled-clause-part : goal.returns-in_err-filled-clause-part
returns-in_err-filled-clause-part g c =
    let taken = g.K.Sink.taken in
    part_left (g.T.TextSource.left c.args.source.now) (g.T.TextSource.left c.pieces.source) (taken c.args.sink.now) (taken c.pieces.sink) c.pieces.invariant.said

pub returns-in_err-write_all-clause-part : goal.returns-in_err-write_all-clause-part
returns-in_err-write_all-clause-part g c =
    let taken = g.K.Sink.taken in
    let left = g.T.TextSource.left in
    part_more (left c.args.source.now) (left c.pieces.source) (left c.fill.new.self) (taken c.args.sink.now) (taken c.pieces.sink) (taken c.write_all.new.sink) c.pieces.piece.items c.fill.new.out.items c.in_ok-filled.filled c.pieces.invariant.said c.pieces.invariant.empty (λ e. c.in_ok-filled.ensures.on (ap (λ f. Ok f) e)) (λ e. c.in_ok-filled.ensures.end (ap (λ f. Ok f) e))
    (subst (WritesPart (taken c.pieces.sink) (taken c.write_all.new.sink)) c.deref.ensures.value c.in_err-write_all.ensures.part)

pub pieces-preserved : goal.pieces-preserved
pieces-preserved g c =
    let taken = g.K.Sink.taken in
    let left = g.T.TextSource.left in
    record {
      said = piece_more (left c.args.source.now) (left c.pieces.source) (left c.fill.new.self) (taken c.args.sink.now) (taken c.pieces.sink) (taken c.write_all.new.sink) c.pieces.piece.items c.fill.new.out.items c.pieces.invariant.said c.pieces.invariant.empty
          (c.in_ok-filled.ensures.on (ap (λ f. Ok f) c.in-Piece.is))
          (subst (Appends (taken c.pieces.sink) (taken c.write_all.new.sink)) c.deref.ensures.value c.in_ok-write_all.ensures.all);
      empty = c.clear.ensures.items;
      quiet = EndsAtFault-then (λ no. no) c.pieces.invariant.quiet (EndsAtFault-as (λ no. absurd no) (λ e. absurd (cc e)) c.in_ok-write_all.ensures.writes);
    }

pub returns-in-End-clause-all : goal.returns-in-End-clause-all
returns-in-End-clause-all g c =
    let taken = g.K.Sink.taken in
    let left = g.T.TextSource.left in
    last_piece (left c.args.source.now) (left c.pieces.source) (taken c.args.sink.now) (taken c.pieces.sink) (taken c.write_all.new.sink) c.pieces.piece.items c.fill.new.out.items c.pieces.invariant.said c.pieces.invariant.empty
    (c.in_ok-filled.ensures.end (ap (λ f. Ok f) c.in-End.is))
    (subst (Appends (taken c.pieces.sink) (taken c.write_all.new.sink)) c.deref.ensures.value c.in_ok-write_all.ensures.all)

pub returns-in-End-clause-part : goal.returns-in-End-clause-part
returns-in-End-clause-part g c =
    let taken = g.K.Sink.taken in
    let left = g.T.TextSource.left in
    part_more (left c.args.source.now) (left c.pieces.source) (left c.fill.new.self) (taken c.args.sink.now) (taken c.pieces.sink) (taken c.write_all.new.sink) c.pieces.piece.items c.fill.new.out.items c.in_ok-filled.filled c.pieces.invariant.said c.pieces.invariant.empty (λ e. c.in_ok-filled.ensures.on (ap (λ f. Ok f) e)) (λ e. c.in_ok-filled.ensures.end (ap (λ f. Ok f) e))
    (subst (WritesPart (taken c.pieces.sink) (taken c.write_all.new.sink)) c.deref.ensures.value c.in_ok-write_all.ensures.part)

pub returns-in_err-filled-clause-writes : goal.returns-in_err-filled-clause-writes
returns-in_err-filled-clause-writes g c =
    let p = err_from_is_err_and c.from_residual.result c.from_residual.ensures.1 in
    rw (p.1, p.2) (EndsAtFault-as (λ e. absurd (no_fault_of_memory e)) (λ no. absurd no) c.pieces.invariant.quiet)

pub returns-in_err-write_all-clause-writes : goal.returns-in_err-write_all-clause-writes
returns-in_err-write_all-clause-writes g c =
    let p = err_from_is_err_and c.from_residual-in_err-write_all.result c.from_residual-in_err-write_all.ensures.1 in
    rw (p.1, p.2) (EndsAtFault-then (λ no. no) c.pieces.invariant.quiet (EndsAtFault-as (λ e. refl) (λ e. refl) c.in_err-write_all.ensures.writes))

pub returns-in-End-clause-writes : goal.returns-in-End-clause-writes
returns-in-End-clause-writes g c =
    EndsAtFault-then (λ no. no) c.pieces.invariant.quiet (EndsAtFault-as (λ e. cc e) (λ e. cc e) c.in_ok-write_all.ensures.writes)
