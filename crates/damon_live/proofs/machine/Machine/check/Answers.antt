use Rattle.std.proofs.Common.{◌≡◌, ℕ, ◌+◌, ◌≤◌, ◌++◌, length, refl, ap, sym, ◌∙◌, subst, arith}
use Rattle.live_commit.specs.declared.phase.Phase.TheVariants.{Armed}
use Rattle.std.specs.List.{AllByRecursion}
use Rattle.page_words.specs.Clears.{last_clear_of}
use Rattle.page_words.specs.PassSteps.{load_steps}
use Rattle.damon_core.specs.Pass.{IsBetween}
use Rattle.damon_core.specs.Stands.{MonitorView}
use Rattle.damon_core.specs.State.{Core, row_count}
use Rattle.run_journal.specs.Phases.{passes_open}
use Rattle.run_journal.specs.declared.entry.Entry.TheVariants.{Check}
use Rattle.run_journal.specs.Room.{with_entry, with_results}
use Rattle.run_journal.proofs.Lemmas.{cap_kept}
use Rattle.damon_live.specs.Machine.{IsMachine, entries_owed, passes_made, words_owed}
use Rattle.damon_live.proofs.Carried.{goes_on, loaded_steps, phase_is}
use Rattle.damon_live.proofs.Rooms.{IsEnd, by_check, end_takes, is_end, room_for_results}
use Rattle.damon_live.proofs.machine.Machine.check.Goals as goal

pub load_all-requires-clause-room : goal.load_all-requires-clause-room
load_all-requires-clause-room g c =
    let i = c.self.invariant in
    let cap : c.monitor-2.result.now.core.regions.cap ≡ g.N.Named.script.setup.cap = ap (λ (m : MonitorView). m.core.regions.cap) c.monitor-2.ensures ∙ cap_kept _ _ _ i.run.replays in
    omega (arith, i.room.hits, cap)

pub load_all-requires-clause-cleared : goal.load_all-requires-clause-cleared
load_all-requires-clause-cleared g c =
    let seat = c.self.inside.seat in
    let armed : c.self.inside.replaying.monitor.core.phase ≡ Armed = phase_is c.self.invariant.run.replays c.self.view_is c.requires.armed in
    subst (λ (m : MonitorView). AllByRecursion (λ p. last_clear_of p seat.entries ≡ m.core.ticks + 1) m.core.picks) (sym c.monitor-2.ensures) (c.self.invariant.run.cleared armed)

pub check_hits-requires-clause-bits : goal.check_hits-requires-clause-bits
check_hits-requires-clause-bits g c =
    let i = c.self.invariant in
    let armed : c.self.inside.replaying.monitor.core.phase ≡ Armed = phase_is i.run.replays c.self.view_is c.requires.armed in
    let cap : c.monitor-2.result.now.core.regions.cap ≡ g.N.Named.script.setup.cap = ap (λ (m : MonitorView). m.core.regions.cap) c.monitor-2.ensures ∙ cap_kept _ _ _ i.run.replays in
    room_for_results _ i.room (ap passes_open armed) (omega (arith, ap length c.deref.ensures.value, c.load_all.ensures.each, c.load_all.ensures.few, cap))

pub check-requires-clause-each : goal.check-requires-clause-each
check-requires-clause-each g c = c.load_all.ensures.each ∙ ap (λ (m : MonitorView). row_count m.core) c.monitor-2.ensures

pub invariant_of-self : goal.invariant_of-self
invariant_of-self g c =
    let v = g.N.Named.script in
    let i = c.self.invariant in
    let s = c.self.inside in
    let old = s.replaying in
    let new = c.check.new.self in
    let made = c.check.ensures in
    let loaded = c.load_all.ensures in
    let bits = c.load_all.new.hits.items in
    let pass : ℕ = old.monitor.core.ticks + 1 in
    let armed : old.monitor.core.phase ≡ Armed = phase_is i.run.replays c.self.view_is c.requires.armed in
    let end : IsEnd new.monitor.core.phase = is_end _ _ made.ended in
    let rows = ap (λ (m : MonitorView). row_count m.core) c.monitor-2.ensures in
    let size : length bits ≡ row_count old.monitor.core = loaded.each ∙ rows in
    let few : length bits ≤ v.setup.cap = omega (arith, loaded.each, loaded.few, ap (λ (m : MonitorView). m.core.regions.cap) c.monitor-2.ensures, cap_kept _ _ _ i.run.replays) in
    let number : c.ticks-pass.result + 1 ≡ pass = ap (λ t. t + 1) c.ticks-pass.ensures ∙ ap (λ (m : MonitorView). m.core.ticks + 1) c.monitor.ensures in
    let is = c.check_hits.ensures ∙ (ap (λ n. with_entry (Check n) (with_results c.deref.result.now s.journal)) number ∙ ap (λ l. with_entry (Check pass) (with_results l s.journal)) c.deref.ensures.value) in
    let more = by_check v s.journal c.check_hits.new.self pass bits (size ∙ ap row_count i.run.replays.stands.same) is in
    let seat = loaded.seat ∙ ap (λ (m : MonitorView). record s.seat { entries = s.seat.entries ++ load_steps (m.core.ticks + 1) m.core.picks bits }) c.monitor-2.ensures in
    subst (IsMachine v g.N.Named.table g.N.Named.seats s.script.now new c.load_all.new.seat c.check_hits.new.self s.passes) (sym loaded.capacity) (goes_on i (made.entry v s.journal.value i.run.replays) more (record {
      space = made.space;
      seat_is = seat ∙ loaded_steps s.seat pass bits i.run.replays size;
      cleared = λ armed. absurd (end.not_armed armed);
      last = omega (arith, loaded.last, i.run.last, made.ticks);
      takes = end_takes v old new (Check pass) bits (ap passes_open armed) (ap entries_owed armed) (ap words_owed armed) refl few end made.ticks made.drawn;
      passes_are = omega arith;
      most = i.room.most;
      called = omega arith;
    }))

pub returns-clause-ended : goal.returns-clause-ended
returns-clause-ended g c = subst (λ (d : Core). IsBetween d.phase) (invariant_of-self g c).run.replays.stands.same (is_end _ _ c.check.ensures.ended).between

pub returns-clause-made : goal.returns-clause-made
returns-clause-made g c = (invariant_of-self g c).room.made ∙ (sym c.self.invariant.room.made ∙ ap passes_made c.self.view_is)
