use Rattle.std.proofs.Common.{◌≡◌, ◌<◌, ◌≤◌, Some, None, ap, sym, subst, ◌∙◌, arith}
use Rattle.damon_core.specs.Slots.{slot_count}
use Rattle.quota_goal.specs.Tuned.{TunerView, after_change, change_at}
use Rattle.tune_run.specs.Kept.{IsNextChange}
use Rattle.tune_run.proofs.Changes.{next_is, none_left, slot_passed}
use Rattle.tune_run.proofs.Slots.{count_is}
use Rattle.tune_run.proofs.tuned.next_change.Goals as goal

pub returns-in-Some-clause-next : goal.returns-in-Some-clause-next
returns-in-Some-clause-next c =
    let t = c.args.tuner.now in
    let i = c.slots.slot in
    let m = c.args.moment.now in
    let change = c.in-Some.change in
    let same : c.slots.tuner ≡ t = c.slots.invariant.0 in
    let below : i < slot_count = omega (arith, count_is, c.slots-test.true) in
    let is : change_at t i m ≡ Some change = ap (λ (x : TunerView). change_at x i m) (sym same) ∙ sym c.score.ensures.change ∙ c.in-Some.is in
    let now : c.score.new.self ≡ after_change (Some change) t =
    c.score.ensures.after ∙ ap (λ (x : TunerView). after_change (change_at x i m) x) same ∙ ap (λ o. after_change o t) is in
    subst (λ (x : TunerView). IsNextChange t x c.args.next m change) (sym now) (next_is t m c.args.next i change below c.slots.invariant.1 is)

pub slots-preserved : goal.slots-preserved
slots-preserved c =
    let t = c.args.tuner.now in
    let i = c.slots.slot in
    let m = c.args.moment.now in
    let same : c.slots.tuner ≡ t = c.slots.invariant.0 in
    let below : i < slot_count = omega (arith, count_is, c.slots-test.true) in
    let none : change_at t i m ≡ None = ap (λ (x : TunerView). change_at x i m) (sym same) ∙ sym c.score.ensures.change ∙ c.in_default.is in (
      c.score.ensures.after ∙ ap (λ (x : TunerView). after_change (change_at x i m) x) same ∙ ap (λ o. after_change o t) none,
      c.slots.invariant.1 ∙ slot_passed t m i below none,
    )

pub returns-clause-none : goal.returns-clause-none
returns-clause-none c is =
    let past : slot_count ≤ c.slots.slot = omega (arith, count_is, c.slots-test.false) in
    c.slots.invariant.1 ∙ none_left c.args.tuner.now c.args.moment.now c.slots.slot past

pub returns-clause-same : goal.returns-clause-same
returns-clause-same c is = c.slots.invariant.0
