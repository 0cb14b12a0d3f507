use Rattle.std.proofs.Common.{◌≡◌, ◌+◌, [], refl, ap, subst, arith}
use Rattle.live_commit.specs.declared.phase.Phase.TheVariants.{Idle}
use Rattle.run_journal.specs.Bits.{place_of}
use Rattle.journal_check.specs.Replayer.{IsOnWay, KeepsWay, ReplayerView, replayer_of}
use Rattle.journal_check.proofs.OnWay.{IsNext, due, keeps_way}
use Rattle.journal_check.proofs.replayer.Replayer.prepare.Goals as goal

pub returns-clause-leads : goal.returns-clause-leads
returns-clause-leads c =
    let s = c.self.inside in
    let view = replayer_of s.replay s.bits s.calls.items s.entries s.done (place_of s.bits_done) s.calls_done in
    let new = replayer_of c.prepare.new.self s.bits s.calls.items s.entries (s.done + 1) (place_of s.bits_done) s.calls_done in
    subst (λ (r : ReplayerView). IsNext r → r.monitor.core.phase ≡ Idle → KeepsWay r new) c.self.view_is
    (λ next is.
    keeps_way view new _ [] (ap (due view.monitor.core.ticks view.drawn) is) c.prepare.ensures.entry
    (record { bits_are = refl; calls_are = refl; done = refl; left = omega (arith, next.some); ticks = omega (arith, c.prepare.ensures.ticks); drawn = c.prepare.ensures.drawn }) next (λ v r es. refl))
    (record { some = c.requires.some; no_call = c.requires.no_call }) c.requires.idle

pub invariant_of-self : goal.invariant_of-self
invariant_of-self c =
    let way = subst IsOnWay c.self.view_is c.self.invariant in
    (way.0, way.1, returns-clause-leads c way.0 way.1 way.2)
