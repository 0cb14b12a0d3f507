use Rattle.std.proofs.Common.{◌∙◌, ◌-◌, ◌<◌, ◌∷◌, [], ◌++◌, ℕ, List, ap, sym, subst, append_assoc, length, arith}
use Rattle.std.specs.Prelude.{All}
use Rattle.std.specs.List.{range_with_len}
use Rattle.std.proofs.lemmas.List.{length-append}
use Rattle.std.proofs.lemmas.List.Elements.{All-append}
use Rattle.std.proofs.lemmas.List.FromFn.{length-range_with_len}
use Rattle.damon_control.proofs.LiveLemmas.{range-All, range-step}
use Rattle.damon_control.proofs.live_reader.push_pages.Goals as goal

pub push-requires : goal.push-requires
push-requires c =
    let before = c.args.trace.now.list in
    let from = c.args.pages.from in
    let count = c.loop-page.page - from in
    let size = ap length c.loop-page.invariant.list in
    let parts = length-append before (range_with_len from count) in
    let pushed = length-range_with_len from count in
    omega (arith, size, parts, pushed, c.requires.room, c.loop-page-test.true, c.loop-page.invariant.low)

pub loop-page-preserved : goal.loop-page-preserved
loop-page-preserved c =
    let before = c.args.trace.now.list in
    let from = c.args.pages.from in
    let page = c.loop-page.page in
    let pushed = range_with_len from (page - from) in
    record {
      list =
          c.in_ok-push.ensures.ok
          ∙ ap (λ (t : List ℕ). t ++ page ∷ []) c.loop-page.invariant.list
          ∙ append_assoc before pushed (page ∷ [])
          ∙ ap (λ (t : List ℕ). before ++ t) (sym (range-step from page c.loop-page.invariant.low));
      low = omega (arith, c.loop-page.invariant.low);
      high = omega (arith, c.loop-page-test.true);
    }

pub returns-clause-within : goal.returns-clause-within
returns-clause-within c = λ most high all.
    let before = c.args.trace.now.list in
    let from = c.args.pages.from in
    let count = c.loop-page.page - from in
    subst (λ (t : List ℕ). All (λ p. p < most) t) (sym c.loop-page.invariant.list)
    (All-append (λ p. p < most) before (range_with_len from count) all (range-All from count most (omega (arith, high, c.loop-page.invariant.low, c.loop-page.invariant.high))))
