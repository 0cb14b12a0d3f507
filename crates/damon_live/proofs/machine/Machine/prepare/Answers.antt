use Rattle.std.proofs.Common.{◌≡◌, ◌+◌, ◌++◌, refl, ap, sym, ◌∙◌, arith}
use Rattle.live_commit.specs.declared.phase.Phase.TheVariants.{Idle}
use Rattle.page_words.specs.PassSteps.{clear_steps}
use Rattle.damon_core.specs.Stands.{MonitorView}
use Rattle.damon_core.specs.State.{Core}
use Rattle.run_journal.specs.declared.entry.Entry.TheVariants.{Prepare}
use Rattle.run_journal.specs.Room.{with_entry}
use Rattle.damon_live.specs.Machine.{passes_made}
use Rattle.damon_live.proofs.Carried.{are_cleared, cleared_steps, goes_on, phase_is}
use Rattle.damon_live.proofs.Rooms.{by_entry, prepare_takes}
use Rattle.damon_live.proofs.machine.Machine.prepare.Goals as goal

pub invariant_of-self : goal.invariant_of-self
invariant_of-self g c =
    let v = g.N.Named.script in
    let i = c.self.invariant in
    let s = c.self.inside in
    let old = s.replaying in
    let new = c.prepare.new.self in
    let made = c.prepare.ensures in
    let idle : old.monitor.core.phase ≡ Idle = phase_is i.run.replays c.self.view_is c.requires.idle in
    let number : c.ticks-pass.result + 1 ≡ old.monitor.core.ticks + 1 = ap (λ t. t + 1) c.ticks-pass.ensures ∙ ap (λ (m : MonitorView). m.core.ticks + 1) c.monitor.ensures in
    let entry : Prepare (c.ticks-pass.result + 1) c.drawn-at.result ≡ Prepare (old.monitor.core.ticks + 1) old.drawn = cc (number, c.drawn-at.ensures) in
    let more = by_entry v s.journal c.prepare-2.new.self (Prepare (old.monitor.core.ticks + 1) old.drawn) refl (c.prepare-2.ensures ∙ ap (λ e. with_entry e s.journal) entry) in
    let picks = c.pages.ensures ∙ (c.picks.ensures.pages ∙ ap (λ (m : MonitorView). m.core.picks) c.monitor-2.ensures) in
    let seat : c.clear_each.new.seat ≡ record s.seat { entries = s.seat.entries ++ clear_steps (old.monitor.core.ticks + 1) new.monitor.core.picks } =
    c.clear_each.ensures.seat ∙ (ap (λ ps. record s.seat { entries = s.seat.entries ++ clear_steps (c.ticks-pass.result + 1) ps }) picks ∙ ap (λ n. record s.seat { entries = s.seat.entries ++ clear_steps n new.monitor.core.picks }) number) in
    let carried = made.entry v s.journal.value i.run.replays in
    goes_on i carried more (record {
      space = made.space;
      seat_is = cleared_steps s.seat c.clear_each.new.seat carried seat;
      cleared = are_cleared new s.seat c.clear_each.new.seat (old.monitor.core.ticks + 1) seat (ap (λ t. t + 1) (sym made.ticks));
      last = omega (arith, c.clear_each.ensures.last, number, made.ticks);
      takes = prepare_takes v old new _ _ idle made.phase made.ticks made.drawn;
      passes_are = refl;
      most = omega (arith, i.room.made, ap passes_made c.self.view_is, c.requires.left);
      called = omega arith;
    })

pub returns-clause-armed : goal.returns-clause-armed
returns-clause-armed g c = sym (ap (λ (d : Core). d.phase) (invariant_of-self g c).run.replays.stands.same) ∙ c.prepare.ensures.phase

pub returns-clause-made : goal.returns-clause-made
returns-clause-made g c = omega (arith, (invariant_of-self g c).room.made, c.self.invariant.room.made, ap passes_made c.self.view_is)
