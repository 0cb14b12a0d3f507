use Rattle.std.proofs.Common.{◌≡◌, ◌+◌, ◌<◌, true, drop, map, refl, sym, ap, ◌∙◌, subst, arith}
use Rattle.std.proofs.lemmas.List.{drop-drop}
use Rattle.damon_control.specs.LiveView.{call_value}
use Rattle.run_journal.specs.Bits.{place_of}
use Rattle.journal_check.specs.Kept.{is_call_at, kept_call}
use Rattle.journal_check.specs.Replayer.{IsOnWay, KeepsWay, ReplayerView, replayer_of}
use Rattle.journal_check.proofs.OnWay.{call_is_free, call_is_left, calls_on, first_call}
use Rattle.journal_check.proofs.replayer.Replayer.call.Goals as goal

pub call-requires : goal.call-requires
call-requires c =
    let s = c.self.inside in
    let old = replayer_of s.replay s.bits s.calls.items s.entries s.done (place_of s.bits_done) s.calls_done in
    call_is_free old c.self.invariant (ap (λ (r : ReplayerView). is_call_at r.done r.calls) c.self.view_is ∙ c.requires.call)

pub returns-clause-leads : goal.returns-clause-leads
returns-clause-leads c =
    let s = c.self.inside in
    let view = replayer_of s.replay s.bits s.calls.items s.entries s.done (place_of s.bits_done) s.calls_done in
    let new = replayer_of c.call.new.self s.bits s.calls.items s.entries (s.done + 1) (place_of s.bits_done) (s.calls_done + 1) in
    let here : is_call_at view.done view.calls ≡ true = ap (λ (r : ReplayerView). is_call_at r.done r.calls) c.self.view_is ∙ c.requires.call in
    let some : 0 < view.left = subst (λ (r : ReplayerView). 0 < r.left) (sym c.self.view_is) c.requires.some in
    let first = first_call s.calls.items s.calls_done c.index.result.now (call_is_left s.calls.items s.done s.calls_done here) c.index.ensures in
    subst (λ (r : ReplayerView). KeepsWay r new) c.self.view_is
    (calls_on view new (call_value c.index.result.now.call) c.call.result c.index.result.now.place (drop (s.calls_done + 1) (map kept_call s.calls.items)) first here c.call.ensures.known c.call.ensures.answer
    (record {
      bits_are = refl;
      calls_are = sym (drop-drop 1 s.calls_done (map kept_call s.calls.items));
      done = refl;
      left = omega (arith, some);
      ticks = omega (arith, c.call.ensures.ticks);
      drawn = omega (arith, c.call.ensures.drawn);
    }))

pub invariant_of-self : goal.invariant_of-self
invariant_of-self c =
    let way = subst IsOnWay c.self.view_is c.self.invariant in
    (way.0, way.1, returns-clause-leads c way.0 way.1 way.2)
