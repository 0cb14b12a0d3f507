use Rattle.std.proofs.Common.{◌≡◌, refl, ap, sym, ◌∙◌, arith}
use Rattle.live_commit.specs.declared.phase.Phase.TheVariants.{Due}
use Rattle.damon_core.specs.State.{Core}
use Rattle.damon_core.specs.Stands.{MonitorView}
use Rattle.run_journal.specs.declared.entry.Entry.TheVariants.{Aggregate}
use Rattle.run_journal.specs.Room.{with_entry}
use Rattle.damon_live.specs.Machine.{passes_made}
use Rattle.damon_live.proofs.Carried.{goes_on_unseen, phase_is}
use Rattle.damon_live.proofs.Rooms.{aggregate_takes, by_entry}
use Rattle.damon_live.proofs.machine.Machine.aggregate.Goals as goal

pub invariant_of-self : goal.invariant_of-self
invariant_of-self g c =
    let v = g.N.Named.script in
    let i = c.self.invariant in
    let s = c.self.inside in
    let old = s.replaying in
    let made = c.aggregate.ensures in
    let due : old.monitor.core.phase ≡ Due = phase_is i.run.replays c.self.view_is c.requires in
    let tick : c.ticks-tick.result ≡ old.monitor.core.ticks = c.ticks-tick.ensures ∙ ap (λ (m : MonitorView). m.core.ticks) c.monitor.ensures in
    let entry : Aggregate c.ticks-tick.result c.drawn-at.result ≡ Aggregate old.monitor.core.ticks old.drawn = cc (tick, c.drawn-at.ensures) in
    let more = by_entry v s.journal c.aggregate-2.new.self (Aggregate old.monitor.core.ticks old.drawn) refl (c.aggregate-2.ensures ∙ ap (λ e. with_entry e s.journal) entry) in
    goes_on_unseen i (made.entry v s.journal.value i.run.replays) more (aggregate_takes v old c.aggregate.new.self _ _ due made.phase made.ticks made.drawn) made.space (omega (arith, made.ticks)) (λ armed. absurd (cc (made.phase, armed))) refl refl (omega arith)

pub returns-clause-idle : goal.returns-clause-idle
returns-clause-idle g c = sym (ap (λ (d : Core). d.phase) (invariant_of-self g c).run.replays.stands.same) ∙ c.aggregate.ensures.phase

pub returns-clause-made : goal.returns-clause-made
returns-clause-made g c = (invariant_of-self g c).room.made ∙ (sym c.self.invariant.room.made ∙ ap passes_made c.self.view_is)
