use Rattle.damon_app.proofs.ReadingGoals.{five_fields}
use Rattle.damon_app.proofs.goal_words.goal_of.Goals as goal

pub returns-in_err-slot-clause-exact : goal.returns-in_err-slot-clause-exact
returns-in_err-slot-clause-exact c =
    let is = five_fields c.args.word.now c.split_front.result.0.now c.split_front.result.1 c.in_ok-fields.field-0 c.in_ok-kind.kind.now c.in_ok-kind.target.now c.in_ok-kind.low.now c.in_ok-kind.high.now c.split_front.ensures.exact c.in_ok-fields.was c.in_ok-kind.ensures.exact in
    rw (is, ← c.in_err-slot.ensures.exact) c.from_residual-in_err-slot.ensures

pub returns-in_err-kind-2-clause-exact : goal.returns-in_err-kind-2-clause-exact
returns-in_err-kind-2-clause-exact c =
    let is = five_fields c.args.word.now c.split_front.result.0.now c.split_front.result.1 c.in_ok-fields.field-0 c.in_ok-kind.kind.now c.in_ok-kind.target.now c.in_ok-kind.low.now c.in_ok-kind.high.now c.split_front.ensures.exact c.in_ok-fields.was c.in_ok-kind.ensures.exact in
    rw (is, ← c.in_ok-slot.ensures.exact, ← c.in_err-kind-2.ensures) c.from_residual-in_err-kind-2.ensures

pub returns-in_err-target-clause-exact : goal.returns-in_err-target-clause-exact
returns-in_err-target-clause-exact c =
    let is = five_fields c.args.word.now c.split_front.result.0.now c.split_front.result.1 c.in_ok-fields.field-0 c.in_ok-kind.kind.now c.in_ok-kind.target.now c.in_ok-kind.low.now c.in_ok-kind.high.now c.split_front.ensures.exact c.in_ok-fields.was c.in_ok-kind.ensures.exact in
    rw (is, ← c.in_ok-slot.ensures.exact, ← c.in_ok-kind-2.ensures, ← c.in_err-target.ensures.exact) c.from_residual-in_err-target.ensures

pub returns-in_err-low-clause-exact : goal.returns-in_err-low-clause-exact
returns-in_err-low-clause-exact c =
    let is = five_fields c.args.word.now c.split_front.result.0.now c.split_front.result.1 c.in_ok-fields.field-0 c.in_ok-kind.kind.now c.in_ok-kind.target.now c.in_ok-kind.low.now c.in_ok-kind.high.now c.split_front.ensures.exact c.in_ok-fields.was c.in_ok-kind.ensures.exact in
    rw (is, ← c.in_ok-slot.ensures.exact, ← c.in_ok-kind-2.ensures, ← c.in_ok-target.ensures.exact, ← c.in_err-low.ensures.exact) c.from_residual-in_err-low.ensures

pub returns-in_err-high-clause-exact : goal.returns-in_err-high-clause-exact
returns-in_err-high-clause-exact c =
    let is = five_fields c.args.word.now c.split_front.result.0.now c.split_front.result.1 c.in_ok-fields.field-0 c.in_ok-kind.kind.now c.in_ok-kind.target.now c.in_ok-kind.low.now c.in_ok-kind.high.now c.split_front.ensures.exact c.in_ok-fields.was c.in_ok-kind.ensures.exact in
    rw (is, ← c.in_ok-slot.ensures.exact, ← c.in_ok-kind-2.ensures, ← c.in_ok-target.ensures.exact, ← c.in_ok-low.ensures.exact, ← c.in_err-high.ensures.exact) c.from_residual-in_err-high.ensures

pub returns-clause-exact : goal.returns-clause-exact
returns-clause-exact c =
    let is = five_fields c.args.word.now c.split_front.result.0.now c.split_front.result.1 c.in_ok-fields.field-0 c.in_ok-kind.kind.now c.in_ok-kind.target.now c.in_ok-kind.low.now c.in_ok-kind.high.now c.split_front.ensures.exact c.in_ok-fields.was c.in_ok-kind.ensures.exact in
    rw (is, ← c.in_ok-slot.ensures.exact, ← c.in_ok-kind-2.ensures, ← c.in_ok-target.ensures.exact, ← c.in_ok-low.ensures.exact, ← c.in_ok-high.ensures.exact) c.in_order.ensures.exact
