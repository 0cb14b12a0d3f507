use Rattle.std.proofs.Common.{ap, sym, ◌∙◌, subst, arith}
use Rattle.damon_core.specs.Stands.{Stands}
use Rattle.run_journal.specs.Replay.{IsJournalOf, JournalValue, check_sizes, replay}
use Rattle.run_journal.specs.Steps.{steps}
use Rattle.damon_live.specs.Machine.{passes_made}
use Rattle.damon_live.proofs.machine.Machine.into_parts.Goals as goal

pub returns-clause-fits : goal.returns-clause-fits
returns-clause-fits g c = subst (IsJournalOf g.N.Named.script) c.self.view_is c.self.invariant.run.replays.journal

pub returns-clause-sizes : goal.returns-clause-sizes
returns-clause-sizes g c = c.self.invariant.run.sizes ∙ ap (check_sizes g.N.Named.script) c.self.view_is

pub returns-clause-stands : goal.returns-clause-stands
returns-clause-stands g c =
    let stands = subst (λ (j : JournalValue). Stands c.self.inside.replaying.monitor (replay g.N.Named.script j).state) c.self.view_is c.self.invariant.run.replays.stands in
    subst (λ m. Stands m (replay g.N.Named.script c.args.self).state) (sym c.into_monitor.ensures) stands

pub returns-clause-seat : goal.returns-clause-seat
returns-clause-seat g c =
    let i = c.self.invariant in
    let entries = i.run.steps_are ∙ ap (steps g.N.Named.script) c.self.view_is in
    λ k. record { table = i.run.place k; entries = entries k; out = i.out k }

pub returns-clause-most : goal.returns-clause-most
returns-clause-most g c = omega (arith, c.self.invariant.room.made, c.self.invariant.room.most, ap passes_made c.self.view_is)
