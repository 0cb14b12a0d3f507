use Rattle.std.proofs.Common.{◌≡◌, List, Ok, ap, sym, subst, ◌∙◌}
use Rattle.std.specs.Prelude.{Result}
use Rattle.damon_types.specs.declared.space.Target.{Target}
use Rattle.live_commit.specs.declared.fault.CommitFault.{CommitFault}
use Rattle.live_commit.specs.declared.view.View.{View}
use Rattle.live_commit.specs.Accepts.{checked_commit}
use Rattle.live_commit.specs.Commit.{CommitValue, commit_value}
use Rattle.damon_core.specs.State.{Core}
use Rattle.damon_core.specs.Commit.{check_of, committed, committed_core, committed_slots, if_accepted, view_of}
use Rattle.damon_core.specs.Stands.{MonitorView, Stands}
use Rattle.damon_core.proofs.CommitStanding.{stands_after}
use Rattle.damon_core.proofs.monitor.Monitor.commit.Goals as goal

pub returns-clause-event : goal.returns-clause-event
returns-clause-event c s reached stands =
    let m = c.args.self.now in
    let v : CommitValue = commit_value c.args.commit.now in
    let seen = subst (λ (w : View). checked_commit c.self.inside.space w v ≡ Ok tt) c.view.ensures.view (sym c.in_ok-validate.ensures.exact) in
    let ok = subst (λ (space : List Target). checked_commit space (view_of m.core) v ≡ Ok tt) (ap (λ (x : MonitorView). x.core.space) c.self.view_is) seen in
    let checked = subst (λ (core : Core). check_of v core ≡ Ok tt) stands.same ok in
    let made : c.accept.new.self ≡ record m { core = committed_core v s.core; slots = committed_slots v m.slots } =
    c.accept.ensures.committed ∙ ap (λ (core : Core). record m { core = committed_core v core; slots = committed_slots v m.slots }) stands.same in
    let after = stands_after (Ok tt) m s v checked stands in (
      (tt, tt),
      subst (λ (x : MonitorView). Stands x (if_accepted (check_of v s.core) (committed v s) s)) (sym made)
          (subst (λ (r : Result (Unit {0}) CommitFault). Stands (record m { core = committed_core v s.core; slots = committed_slots v m.slots }) (if_accepted r (committed v s) s)) (sym checked) after),
    )
