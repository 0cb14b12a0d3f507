use Rattle.std.proofs.Common.{refl, sym, ◌∙◌, subst}
use Rattle.std.proofs.lemmas.Result.{err_from_is_err_and}
use Rattle.damon_core.specs.Stands.{MonitorView, Stands}
use Rattle.damon_app.proofs.Heating.{first_part}
use Rattle.text_io.proofs.Lemmas.{EndsAtFault-as, EndsAtFault-none, EndsAtFault-not}
use Rattle.damon_app.proofs.Counting.{no_fault_of_memory}
use Rattle.damon_app.proofs.heat.write_next.Goals as goal

pub returns-in_default-clause-end : goal.returns-in_default-clause-end
returns-in_default-clause-end g c ok states last leads = (c.in_default.ensures.none refl states last leads).none

pub returns-in_err-hand_over-clause-part : goal.returns-in_err-hand_over-clause-part
returns-in_err-hand_over-clause-part g c =
    let p = err_from_is_err_and c.from_residual-in_err-hand_over.result c.from_residual-in_err-hand_over.ensures.1 in
    let taken = g.K.Sink.taken in
    rw p.1 (λ states last leads.
    let on = c.in-Some.ensures.some states last leads in
    let stands = subst (λ (m : MonitorView). Stands m on.state) (sym c.monitor.ensures.is) on.stands in
    first_part g.row.N c.args.piece.now.items c.write_one.new.out.items on.state on.rest states on.first (c.in_ok-write_one.ensures.tables on.state stands on.tick_is)
    (taken c.args.sink.now) (taken c.hand_over.new.sink) c.in_err-hand_over.ensures.part)

pub returns-clause-on : goal.returns-clause-on
returns-clause-on g c ok states last leads =
    let on = c.in-Some.ensures.some states last leads in
    let stands = subst (λ (m : MonitorView). Stands m on.state) (sym c.monitor.ensures.is) on.stands in
    let (front, all, left) = c.in_ok-hand_over.ensures.all in
    record {
      state = on.state;
      rest = on.rest;
      first = on.first;
      leads = on.leads;
      sizes = c.in_ok-write_one.ensures.sizes on.state stands;
      handed = (front, all, left ∙ c.in_ok-write_one.ensures.tables on.state stands on.tick_is);
    }

pub returns-in_default-clause-writes : goal.returns-in_default-clause-writes
returns-in_default-clause-writes g c = EndsAtFault-none (g.K.Sink.calls c.args.sink.now) (λ e. cc e)

pub returns-in_err-write_one-clause-writes : goal.returns-in_err-write_one-clause-writes
returns-in_err-write_one-clause-writes g c =
    let p = err_from_is_err_and c.from_residual.result c.from_residual.ensures.1 in
    rw (p.1, p.2) (EndsAtFault-none (g.K.Sink.calls c.args.sink.now) no_fault_of_memory)

pub returns-in_err-hand_over-clause-writes : goal.returns-in_err-hand_over-clause-writes
returns-in_err-hand_over-clause-writes g c =
    let p = err_from_is_err_and c.from_residual-in_err-hand_over.result c.from_residual-in_err-hand_over.ensures.1 in
    rw (p.1, p.2) (EndsAtFault-as (λ e. refl) (λ e. refl) c.in_err-hand_over.ensures.writes)

pub returns-clause-writes : goal.returns-clause-writes
returns-clause-writes g c = EndsAtFault-not (λ e. cc e) (λ e. cc e) c.in_ok-hand_over.ensures.writes
