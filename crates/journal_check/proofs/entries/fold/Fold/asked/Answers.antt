use Rattle.std.proofs.Common.{◌≡◌, ◌<◌, ℕ, true, None, ap, sym, ◌∙◌, below_more, arith}
use Rattle.std.specs.Prelude.{option_map}
use Rattle.damon_core.specs.Stands.{MonitorView}
use Rattle.journal_check.specs.CallLine.{place_asked}
use Rattle.journal_text.specs.EntryLine.{after_call_of, is_free}
use Rattle.run_journal.specs.Replay.{replay}
use Rattle.journal_check.proofs.CallsTaken.{called_by, called_by_none, free_is}
use Rattle.journal_check.proofs.entries.fold.Fold.asked.Goals as goal

pub returns-in-Some-clause-place : goal.returns-in-Some-clause-place
returns-in-Some-clause-place c = λ v j h.
    let f = c.args.self.now in
    let k : ℕ = c.loop-controller.controller in
    let phase = c.phase.ensures.phase ∙ ap (λ (m : MonitorView). m.core.phase) c.monitor.ensures in
    let free : is_free (replay v j).state.core.phase ≡ true = free_is v j f h ∙ (ap is_free (sym phase) ∙ (sym c.is_free-free.ensures.is ∙ c.if-not-free.false)) in
    let few : k < 4 = omega (arith, c.loop-controller-test.true) in
    sym (called_by v j c.args.line.now k (place_asked v j k c.in-Some.asked) free few (sym (c.in-Some.ensures v j h)) (c.loop-controller.invariant v j h))

pub loop-controller-preserved : goal.loop-controller-preserved
loop-controller-preserved c = λ v j h.
    let k : ℕ = c.loop-controller.controller in
    let here : after_call_of v j k c.args.line.now ≡ None = sym (c.asked_of.ensures v j h) ∙ ap (option_map (place_asked v j k)) c.in_default.is in
    below_more (λ (i : ℕ). after_call_of v j i c.args.line.now ≡ None) k (c.loop-controller.invariant v j h) here

pub returns-clause-place : goal.returns-clause-place
returns-clause-place c = λ v j h.
    let f = c.args.self.now in
    let phase = c.phase.ensures.phase ∙ ap (λ (m : MonitorView). m.core.phase) c.monitor.ensures in
    let free : is_free (replay v j).state.core.phase ≡ true = free_is v j f h ∙ (ap is_free (sym phase) ∙ (sym c.is_free-free.ensures.is ∙ c.if-not-free.false)) in
    sym (called_by_none v j c.args.line.now free (λ i few. c.loop-controller.invariant v j h i (omega (arith, few, c.loop-controller-test.false))))
