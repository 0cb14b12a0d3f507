use Rattle.std.proofs.Common.{◌<◌, length, set, sym, ap, ◌∙◌, arith}
use Rattle.std.proofs.lemmas.List.Edits.{map_over_more}
use Rattle.scheme_engine.specs.Engine.{EngineValue}
use Rattle.scheme_engine.specs.Slots.{SlotValue, metered}
use Rattle.scheme_engine.proofs.engine.Engine.metric.Goals as goal

pub loop-number-preserved : goal.loop-number-preserved
loop-number-preserved c =
    let n = c.loop-number.number in
    let kept = c.loop-number.invariant in
    let old = c.args.self.now.slots in
    let slots = c.loop-number.self-inside.slots in
    let within : n < length old = omega (arith, c.loop-number-test.true, c.self.invariant, ap length (ap (λ (e : EngineValue). e.slots) c.self.view_is)) in
    record {
      slots = ap (λ (s : SlotValue). set slots n s) (c.metric.ensures ∙ ap (metered c.args.value) (sym c.index-self-number.is)) ∙ map_over_more (metered c.args.value) old slots n c.index-self-number.result within kept.slots c.index-self-number.is;
      cap = kept.cap;
    }
