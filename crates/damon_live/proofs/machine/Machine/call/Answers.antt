use Rattle.std.proofs.Common.{◌≡◌, ◌<◌, length, Some, refl, ap, sym, ◌∙◌, subst, arith}
use Rattle.damon_core.specs.State.{Core}
use Rattle.damon_control.specs.Live.{LiveValue}
use Rattle.damon_control.specs.LiveView.{call_value}
use Rattle.run_journal.specs.declared.entry.Entry.TheVariants.{Call}
use Rattle.run_journal.specs.Phases.{IsFree, passes_open}
use Rattle.run_journal.specs.Replay.{JournalValue, call_answer, call_at, replay}
use Rattle.run_journal.specs.Room.{JournalView}
use Rattle.damon_live.specs.Machine.{calls_left, passes_made, with_one}
use Rattle.damon_live.proofs.Calling.{call_carried, call_found, call_takes, one_call, still_cleared}
use Rattle.damon_live.proofs.Carried.{goes_on_unseen}
use Rattle.damon_live.proofs.Rooms.{by_entry}
use Rattle.damon_live.proofs.machine.Machine.call.Goals as goal

pub invariant_of-self : goal.invariant_of-self
invariant_of-self g c =
    let v = g.N.Named.script in
    let i = c.self.invariant in
    let s = c.self.inside in
    let made = c.call-answer.ensures in
    let e = Call c.args.controller c.args.index c.call-answer.result in
    let here = call_found s.script.now.controllers.list c.args.controller c.args.index c.get.result.now c.get-call.result.now c.get.ensures c.get-call.ensures in
    let is : call_at v c.args.controller c.args.index ≡ Some (call_value c.get-call.result.now) = ap (λ (x : LiveValue). call_at x c.args.controller c.args.index) (sym i.said) ∙ here in
    let carried = made.known v s.journal.value c.args.controller c.args.index i.run.replays is in
    let called = call_carried i.run.replays is carried in
    let left : 0 < calls_left v s.journal.value.entries = subst (λ (j : JournalValue). 0 < calls_left v j.entries) (sym c.self.view_is) c.requires.left in
    goes_on_unseen i carried (by_entry v s.journal c.call-place.new.self e refl c.call-place.ensures.entry) (call_takes v s.replaying c.call-answer.new.self _ _ _ called made.ticks made.drawn) made.space (omega (arith, made.ticks)) (still_cleared s.replaying c.call-answer.new.self s.seat called made.ticks i.run.cleared) refl refl (omega (arith, left))

pub returns : goal.returns
returns g c =
    let v = g.N.Named.script in
    let i = c.self.invariant in
    let s = c.self.inside in
    let made = c.call-answer.ensures in
    let call = call_value c.get-call.result.now in
    let here = call_found s.script.now.controllers.list c.args.controller c.args.index c.get.result.now c.get-call.result.now c.get.ensures c.get-call.ensures in
    let is : call_at v c.args.controller c.args.index ≡ Some call = ap (λ (x : LiveValue). call_at x c.args.controller c.args.index) (sym i.said) ∙ here in
    let called = call_carried i.run.replays is (made.known v s.journal.value c.args.controller c.args.index i.run.replays is) in
    let was : s.replaying.monitor.core ≡ (replay v c.args.self.now).state.core = i.run.replays.stands.same ∙ ap (λ (j : JournalValue). (replay v j).state.core) c.self.view_is in
    let now = (invariant_of-self g c).run.replays.stands.same in
    record {
      answer = λ given asked. made.answer ∙ (ap (λ k. call_answer k s.replaying.monitor.core) (one_call (call_at v c.args.controller c.args.index) call given is asked) ∙ ap (call_answer given) was);
      entry = ap (λ (x : JournalView). x.value) c.call-place.ensures.entry ∙ ap (with_one (Call c.args.controller c.args.index c.call-answer.result)) c.self.view_is;
      place = c.call-place.ensures.place ∙ ap (λ (j : JournalValue). length j.entries) c.self.view_is;
      free = subst (λ (d : Core). IsFree d.phase) now (called.free (subst (λ (d : Core). IsFree d.phase) (sym was) c.requires.free));
      «open» = sym (ap (λ (d : Core). passes_open d.phase) now) ∙ (called.counts passes_open refl ∙ ap (λ (d : Core). passes_open d.phase) was);
      made = (invariant_of-self g c).room.made ∙ (sym i.room.made ∙ ap passes_made c.self.view_is);
    }
