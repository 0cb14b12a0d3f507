use Rattle.std.proofs.Common.{◌≡◌, ◌+◌, [], refl, ap, sym, ◌∙◌, subst, arith}
use Rattle.live_commit.specs.declared.phase.Phase.TheVariants.{Void as VoidPhase}
use Rattle.damon_core.specs.Pass.{IsBetween}
use Rattle.damon_core.specs.Stands.{MonitorView}
use Rattle.damon_core.specs.State.{Core}
use Rattle.run_journal.specs.Phases.{passes_open}
use Rattle.run_journal.specs.declared.entry.Entry.TheVariants.{Void}
use Rattle.run_journal.specs.Room.{with_entry}
use Rattle.damon_live.specs.Machine.{entries_owed, passes_made, words_owed}
use Rattle.damon_live.proofs.Carried.{goes_on_unseen, phase_is}
use Rattle.damon_live.proofs.Rooms.{by_entry, end_takes, is_end}
use Rattle.damon_live.proofs.machine.Machine.void.Goals as goal

pub invariant_of-self : goal.invariant_of-self
invariant_of-self g c =
    let v = g.N.Named.script in
    let i = c.self.invariant in
    let s = c.self.inside in
    let old = s.replaying in
    let made = c.void.ensures in
    let void : old.monitor.core.phase ≡ VoidPhase = phase_is i.run.replays c.self.view_is c.requires in
    let end = is_end _ _ made.ended in
    let number : c.ticks-pass.result + 1 ≡ old.monitor.core.ticks + 1 = ap (λ t. t + 1) c.ticks-pass.ensures ∙ ap (λ (m : MonitorView). m.core.ticks + 1) c.monitor.ensures in
    let more = by_entry v s.journal c.void-2.new.self (Void (old.monitor.core.ticks + 1)) refl (c.void-2.ensures ∙ ap (λ n. with_entry (Void n) s.journal) number) in
    let takes = end_takes v old c.void.new.self (Void (old.monitor.core.ticks + 1)) [] (ap passes_open void) (ap entries_owed void) (ap words_owed void) refl (omega arith) end made.ticks made.drawn in
    goes_on_unseen i (made.entry v s.journal.value i.run.replays) more takes made.space (omega (arith, made.ticks)) (λ armed. absurd (end.not_armed armed)) refl refl (omega arith)

pub returns-clause-ended : goal.returns-clause-ended
returns-clause-ended g c = subst (λ (d : Core). IsBetween d.phase) (invariant_of-self g c).run.replays.stands.same (is_end _ _ c.void.ensures.ended).between

pub returns-clause-made : goal.returns-clause-made
returns-clause-made g c = (invariant_of-self g c).room.made ∙ (sym c.self.invariant.room.made ∙ ap passes_made c.self.view_is)
