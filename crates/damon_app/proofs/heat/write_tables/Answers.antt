use Rattle.std.proofs.Common.{Ok, refl, ap, subst}
use Rattle.std.specs.Io.KnownBytes.{Appends}
use Rattle.std.proofs.lemmas.Result.{err_from_is_err_and}
use Rattle.text_io.specs.Taken.{WritesPart}
use Rattle.damon_app.specs.Heating.{tables_text}
use Rattle.damon_app.proofs.Known.{WritesPart-whole}
use Rattle.damon_app.proofs.Heating.{written_first, told_kept, told_last, written_next, told_part, told_same, told_whole}
use Rattle.text_io.proofs.Lemmas.{EndsAtFault-as, EndsAtFault-none, EndsAtFault-not, EndsAtFault-passed, EndsAtFault-then}
use Rattle.damon_app.proofs.Counting.{no_fault_of_memory}
use Rattle.damon_app.proofs.heat.write_tables.Goals as goal

pub reports-init : goal.reports-init
reports-init g c = record {
  told = λ states last leads. written_first g.row.N states last c.args.replayer.now c.new-sizes.result c.new-piece.result.items (g.K.Sink.taken c.args.sink.now) c.new-sizes.ensures c.new-piece.ensures.items leads;
  quiet = EndsAtFault-none (g.K.Sink.calls c.args.sink.now) (λ no. no);
}

pub returns-in_err-write_next-clause-writes : goal.returns-in_err-write_next-clause-writes
returns-in_err-write_next-clause-writes g c =
    let p = err_from_is_err_and c.from_residual.result c.from_residual.ensures.1 in
    rw (p.1, p.2) (EndsAtFault-then (λ no. no) c.reports.invariant.quiet (EndsAtFault-passed c.in_err-write_next.ensures.writes))

pub returns-in_err-write_next-clause-part : goal.returns-in_err-write_next-clause-part
returns-in_err-write_next-clause-part g c states last leads =
    let taken = g.K.Sink.taken in
    let told = c.reports.invariant.told states last leads in
    told_part g.row.N states last c.reports.replayer c.reports.sizes c.reports.piece.items (taken c.args.sink.now) (taken c.reports.sink) told
    (taken c.write_next.new.sink) (c.in_err-write_next.ensures.part told.rest last told.leads)

pub reports-preserved : goal.reports-preserved
reports-preserved g c =
    let taken = g.K.Sink.taken in
    record {
      told = λ states last leads. written_next g.row.N states last c.reports.replayer c.reports.sizes c.reports.piece.items (taken c.args.sink.now) (taken c.reports.sink)
          (c.reports.invariant.told states last leads) c.write_next.new.replayer c.write_next.new.sizes c.write_next.new.piece.items (taken c.write_next.new.sink)
          (c.in_ok-write_next.ensures.on (ap (λ b. Ok b) c.if-branch.true));
      quiet = EndsAtFault-then (λ no. no) c.reports.invariant.quiet (EndsAtFault-not (λ e. cc e) (λ no. no) c.in_ok-write_next.ensures.writes);
    }

pub returns-in_err-write_last-clause-part : goal.returns-in_err-write_last-clause-part
returns-in_err-write_last-clause-part g c states last leads =
    let taken = g.K.Sink.taken in
    let same = c.in_ok-write_next.ensures.same (ap (λ b. Ok b) c.if-branch.false) in
    let told = told_same g.row.N states last c.reports.replayer c.reports.sizes c.reports.piece.items (taken c.args.sink.now) (taken c.reports.sink)
    (c.reports.invariant.told states last leads) c.write_next.new.sizes c.write_next.new.piece.items (taken c.write_next.new.sink)
    same.0 same.1 (ap taken same.2) in
    told_kept g.row.N states last c.reports.replayer c.write_next.new.sizes c.write_next.new.piece.items (taken c.args.sink.now) (taken c.write_next.new.sink) told

pub returns-in_err-write_last-clause-writes : goal.returns-in_err-write_last-clause-writes
returns-in_err-write_last-clause-writes g c =
    let p = err_from_is_err_and c.from_residual-in_err-write_last.result c.from_residual-in_err-write_last.ensures.1 in
    rw (p.1, p.2) (EndsAtFault-then (λ no. no) c.reports.invariant.quiet (EndsAtFault-not (λ e. cc e) no_fault_of_memory c.in_ok-write_next.ensures.writes))

pub returns-in_err-write_all-clause-writes : goal.returns-in_err-write_all-clause-writes
returns-in_err-write_all-clause-writes g c =
    let p = err_from_is_err_and c.from_residual-in_err-write_all.result c.from_residual-in_err-write_all.ensures.1 in
    rw (p.1, p.2) (EndsAtFault-then (λ no. no) c.reports.invariant.quiet
    (EndsAtFault-then (λ e. cc e) c.in_ok-write_next.ensures.writes (EndsAtFault-as (λ e. refl) (λ e. refl) c.in_err-write_all.ensures.writes)))

pub returns-clause-writes : goal.returns-clause-writes
returns-clause-writes g c =
    EndsAtFault-then (λ no. no) c.reports.invariant.quiet
    (EndsAtFault-then (λ e. cc e) c.in_ok-write_next.ensures.writes (EndsAtFault-not (λ e. cc e) (λ e. cc e) c.in_ok-write_all.ensures.writes))

pub returns-in_err-write_all-clause-part : goal.returns-in_err-write_all-clause-part
returns-in_err-write_all-clause-part g c states last leads =
    let taken = g.K.Sink.taken in
    let same = c.in_ok-write_next.ensures.same (ap (λ b. Ok b) c.if-branch.false) in
    let told = told_same g.row.N states last c.reports.replayer c.reports.sizes c.reports.piece.items (taken c.args.sink.now) (taken c.reports.sink)
    (c.reports.invariant.told states last leads) c.write_next.new.sizes c.write_next.new.piece.items (taken c.write_next.new.sink)
    same.0 same.1 (ap taken same.2) in
    told_last g.row.N states last c.reports.replayer c.write_next.new.sizes c.write_next.new.piece.items (taken c.args.sink.now) (taken c.write_next.new.sink) told
    (c.in_ok-write_next.ensures.end (ap (λ b. Ok b) c.if-branch.false) told.rest last told.leads) c.write_last.new.out.items c.in_ok-write_last.ensures.ok
    (taken c.write_all.new.sink) (subst (WritesPart (taken c.write_next.new.sink) (taken c.write_all.new.sink)) c.deref.ensures.value c.in_err-write_all.ensures.part)

pub returns-clause-all : goal.returns-clause-all
returns-clause-all g c states last leads =
    let taken = g.K.Sink.taken in
    let same = c.in_ok-write_next.ensures.same (ap (λ b. Ok b) c.if-branch.false) in
    let told = told_same g.row.N states last c.reports.replayer c.reports.sizes c.reports.piece.items (taken c.args.sink.now) (taken c.reports.sink)
    (c.reports.invariant.told states last leads) c.write_next.new.sizes c.write_next.new.piece.items (taken c.write_next.new.sink)
    same.0 same.1 (ap taken same.2) in
    told_whole g.row.N states last c.reports.replayer c.write_next.new.sizes c.write_next.new.piece.items (taken c.args.sink.now) (taken c.write_next.new.sink) told
    (c.in_ok-write_next.ensures.end (ap (λ b. Ok b) c.if-branch.false) told.rest last told.leads) c.write_last.new.out.items c.in_ok-write_last.ensures.ok
    (taken c.write_all.new.sink) (subst (Appends (taken c.write_next.new.sink) (taken c.write_all.new.sink)) c.deref.ensures.value c.in_ok-write_all.ensures.all)

pub returns-clause-part : goal.returns-clause-part
returns-clause-part g c states last leads =
    WritesPart-whole (g.K.Sink.taken c.args.sink.now) (g.K.Sink.taken c.write_all.new.sink) (tables_text g.row.N states) (returns-clause-all g c states last leads)
