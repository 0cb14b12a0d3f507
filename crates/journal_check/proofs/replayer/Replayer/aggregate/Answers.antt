use Rattle.std.proofs.Common.{◌≡◌, ◌+◌, List, refl, sym, ap, ◌∙◌, subst, arith}
use Rattle.live_commit.specs.declared.phase.Phase.TheVariants.{Due}
use Rattle.damon_core.specs.Stands.{MonitorView}
use Rattle.damon_core.specs.State.{State}
use Rattle.run_journal.specs.Bits.{place_of}
use Rattle.journal_check.specs.Replayer.{IsOnWay, Leads, ReachesNext, ReplayerView, replayer_of}
use Rattle.journal_check.proofs.OnWay.{IsNext, aggregates}
use Rattle.journal_check.proofs.replayer.Replayer.aggregate.Goals as goal

pub returns-clause-reaches : goal.returns-clause-reaches
returns-clause-reaches c =
    let s = c.self.inside in
    let view = replayer_of s.replay s.bits s.calls.items s.entries s.done (place_of s.bits_done) s.calls_done in
    let new = replayer_of c.aggregate.new.self s.bits s.calls.items s.entries (s.done + 1) (place_of s.bits_done) s.calls_done in
    let tick : view.monitor.core.ticks ≡ c.ticks-tick.result = sym (c.ticks-tick.ensures ∙ ap (λ (m : MonitorView). m.core.ticks) c.monitor.ensures) in
    subst (λ (r : ReplayerView). IsNext r → r.monitor.core.phase ≡ Due → (states : List State) (last : State) → Leads states last r → ReachesNext c.ticks-tick.result states last new) c.self.view_is
    (λ next is states last h.
    subst (λ t. ReachesNext t states last new) tick
    (aggregates view new c.aggregate.ensures.entry
    (record { bits_are = refl; calls_are = refl; done = refl; left = omega (arith, next.some); ticks = omega (arith, c.aggregate.ensures.ticks); drawn = c.aggregate.ensures.drawn }) c.aggregate.ensures.ticks next is states last h))
    (record { some = c.requires.some; no_call = c.requires.no_call }) c.requires.due

pub invariant_of-self : goal.invariant_of-self
invariant_of-self c =
    let way = subst IsOnWay c.self.view_is c.self.invariant in
    let reached = returns-clause-reaches c way.0 way.1 way.2 in
    (reached.rest, way.1, reached.leads)
