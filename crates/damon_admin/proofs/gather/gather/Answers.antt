use Rattle.std.proofs.Common.{◌+◌, ◌≤◌, ◌∷◌, ◌++◌, [], length, drop, Ok, ap, ◌∙◌, subst, arith}
use Rattle.std.proofs.lemmas.List.{drop-drop, length-drop}
use Rattle.std.proofs.lemmas.List.Elements.{All-weaker}
use Rattle.line_text.specs.Parts.{parts}
use Rattle.script_lines.specs.Refusal.{◌>>=◌}
use Rattle.damon_admin.specs.Kept.{IsTaken, line_value}
use Rattle.damon_admin.specs.Lines.{split_from}
use Rattle.damon_admin.proofs.Taking.{then_more}
use Rattle.damon_admin.proofs.gather.gather.Goals as goal

pub lines-preserved : goal.lines-preserved
lines-preserved c =
    let input = c.args.input.now in
    let at = c.lines.at in
    let n = c.lines.number in
    let t = c.in-Some.taken in
    let l = line_value t.own in
    let so_far = c.lines.invariant.lines in
    let before = so_far.0 in
    let read = rw c.in-Some.is at c.in_ok-taken.ensures.line in
    let taken = subst (λ b. IsTaken n b t) c.rest_from.ensures read in
    record {
      lines = (
        before ++ l ∷ [],
        c.in_ok-add_line.ensures.gathered before so_far.1,
        so_far.2
            ∙ ap (λ r. r >>= λ left. Ok (before ++ left)) taken.splits
            ∙ then_more (split_from (n + 1) (parts 10 (drop t.used (drop at input)))) before l
            ∙ ap (λ b. split_from (n + 1) (parts 10 b) >>= λ left. Ok ((before ++ l ∷ []) ++ left)) (drop-drop t.used at input),
      );
      short =
          All-weaker (λ g. length g.text.items ≤ at + (length t.own.line.now + 1)) (λ g. length g.text.items ≤ at + t.used)
          (λ g few. omega (arith, few, taken.room)) c.add_line.new.contexts.items (c.in_ok-add_line.ensures.short at c.lines.invariant.short);
      inside = omega (arith, taken.inside, length-drop at input, c.lines.invariant.inside);
      count = omega (arith, taken.room, c.lines.invariant.count);
    }
