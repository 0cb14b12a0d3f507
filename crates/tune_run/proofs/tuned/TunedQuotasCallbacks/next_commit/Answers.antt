use Rattle.std.proofs.Common.{Option, Some, sym, subst}
use Rattle.live_commit.specs.Commit.{CommitValue, commit_value}
use Rattle.damon_core.specs.After.{after}
use Rattle.damon_core.specs.Event.{commit}
use Rattle.quota_goal.specs.declared.moment.Moment.{Moment}
use Rattle.tune_run.specs.Kept.{StandsTuned}
use Rattle.tune_run.proofs.Accepting.{reached_takes}
use Rattle.tune_run.proofs.Committing.{next_stands}
use Rattle.tune_run.proofs.tuned.TunedQuotasCallbacks.next_commit.Goals as goal

pub returns-clause-stands : goal.returns-clause-stands
returns-clause-stands g c memory s reached stands fit =
    let goals = g.N.Named.goals in
    let old = c.args.self.now.tuner in
    let new = c.next_change.new.tuner in
    let some = c.in_ok-moment.was in
    let here = subst (λ (o : Option Moment). StandsTuned goals old o memory s) some stands in
    let next = next_stands goals memory s old new c.args.self.now.next c.in_ok-moment.moment c.in_ok-change.change (reached_takes s reached) here c.in_ok-change.ensures.next in
    subst (λ (o : Option Moment). StandsTuned goals new o memory (after s (commit (commit_value c.change_alone.result)))) (sym some)
    (subst (λ (parts : CommitValue). StandsTuned goals new (Some c.in_ok-moment.moment) memory (after s (commit parts))) (sym c.change_alone.ensures) next.1)
