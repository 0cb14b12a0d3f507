use Rattle.std.proofs.Common.{◌≡◌, ◌+◌, ◌-◌, ◌++◌, ◌∷◌, [], append_assoc, suc, ap, sym, ◌∙◌, arith}
use Rattle.std.specs.Prelude.{replicate}
use Rattle.damon_world.proofs.drawing.fill_up.Goals as goal

pub loop-preserved : goal.loop-preserved
loop-preserved c =
    let kept = c.loop.invariant in
    let n = c.args.count - (c.loop.counter + 1) in
    let count : c.args.count - c.loop.counter ≡ suc n = omega (arith, c.loop-test.true) in
    record {
      items =
          ap (λ xs. xs ++ replicate n 0) c.push_reserved.ensures.items
          ∙ append_assoc c.loop.items.items (0 ∷ []) (replicate n 0)
          ∙ ap (λ k. c.loop.items.items ++ replicate k 0) (sym count)
          ∙ kept.items;
      capacity = c.push_reserved.ensures.capacity ∙ kept.capacity;
      len = omega (arith, c.push_reserved.ensures.len, kept.len);
    }
