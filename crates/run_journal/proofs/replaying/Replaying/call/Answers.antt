use Rattle.std.proofs.Common.{refl, sym, ap, ◌∙◌, subst}
use Rattle.damon_core.specs.Stands.{last_pass}
use Rattle.damon_control.specs.LiveView.{call_value}
use Rattle.run_journal.specs.Phases.{IsFree}
use Rattle.run_journal.specs.Replay.{call_answer}
use Rattle.run_journal.specs.Replaying.{CarriesCall, CarriesKnown, ReplayingView}
use Rattle.run_journal.proofs.Carrying.{carries_call, carries_known}
use Rattle.run_journal.proofs.replaying.Replaying.call.Goals as goal

pub returns : goal.returns
returns c =
    let s = c.self.inside in
    let old : ReplayingView = record { monitor = s.monitor; words = s.words; drawn = s.drawn } in
    let new : ReplayingView = record { monitor = c.make_call.new.monitor; words = s.words; drawn = s.drawn } in
    let call = call_value c.args.call.now in
    let free = subst (λ (r : ReplayingView). IsFree r.monitor.core.phase) (sym c.self.view_is) c.requires in
    record {
      entry = subst (λ (o : ReplayingView). CarriesCall o new call c.make_call.result) c.self.view_is (carries_call old new call c.make_call.result c.make_call.ensures.event refl refl free c.make_call.ensures.answer);
      known = subst (λ (o : ReplayingView). CarriesKnown o new call c.make_call.result) c.self.view_is (carries_known old new call c.make_call.result c.make_call.ensures.event refl refl free c.make_call.ensures.answer);
      answer = c.make_call.ensures.answer ∙ ap (λ (r : ReplayingView). call_answer call r.monitor.core) c.self.view_is;
      ticks = c.make_call.ensures.ticks ∙ ap (λ (r : ReplayingView). r.monitor.core.ticks) c.self.view_is;
      drawn = ap (λ (r : ReplayingView). r.drawn) c.self.view_is;
      space = c.make_call.ensures.space ∙ ap (λ (r : ReplayingView). r.monitor.core.space) c.self.view_is;
      pass = c.make_call.ensures.pass ∙ ap (λ (r : ReplayingView). last_pass r.monitor.core.phase r.monitor.core.ticks) c.self.view_is;
    }
