use Rattle.std.proofs.Common.{rules, ◌≡◌, ℕ, length, replicate, sym, ap, ◌∙◌, subst}
use Rattle.std.specs.Prelude.{map}
use Rattle.std.proofs.lemmas.List.{length-map}
use Rattle.damon_types.specs.Listed.{Listed}
use Rattle.damon_control.specs.declared.live.Call.{Call}
use Rattle.damon_control.specs.Live.{LiveValue}
use Rattle.damon_control.specs.LiveView.{call_value}
use Rattle.run_journal.specs.Phases.{IsFree}
use Rattle.run_journal.specs.Replay.{JournalValue, replay}
use Rattle.damon_live.specs.Kept.{AreInTurn}
use Rattle.damon_live.proofs.Resting.{turns_begun}
use Rattle.damon_live.proofs.kept.Kept.new.Goals as goal

pub invariant_of-result : goal.invariant_of-result
invariant_of-result g c =
    let v = g.N.Named.script in
    let empty = c.in_ok-machine.ensures in
    let n : ℕ = c.len-controllers.result in
    let size : n ≡ length v.controllers = c.len-controllers.ensures ∙ (sym (length-map c.args.script.now.controllers.list (λ (l : Listed Call). map call_value l.list)) ∙ ap (λ (x : LiveValue). length x.controllers) c.requires.said) in
    let counts : c.in_ok-counts.counts.items ≡ replicate n 0 = search rules in
    record {
      free = subst (λ (j : JournalValue). IsFree (replay v j).state.core.phase) (sym empty) tt;
      turns = subst (AreInTurn v c.in_ok-machine.machine.entries) (sym counts) (turns_begun v c.in_ok-machine.machine.entries n (ap (λ (j : JournalValue). j.entries) empty) size c.requires.limits.calls);
    }
