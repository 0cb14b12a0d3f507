use Rattle.std.proofs.Common.{◌≡◌, [], ◌++◌, Ok, length, refl, ap, sym, ◌∙◌, append-nil, arith}
use Rattle.damon_admin.specs.Admin.{all_lines, left_text}
use Rattle.damon_admin.specs.Written.{texts_from}
use Rattle.damon_admin.proofs.LineDone.{line-done}
use Rattle.damon_admin.proofs.admin.AdminTextSource.fill.Goals as goal

pub lines-init : goal.lines-init
lines-init c = record {
  said = refl;
  most = omega arith;
  less = λ few many. absurd (omega (arith, few, many));
}

pub lines-preserved : goal.lines-preserved
lines-preserved c =
    let does = c.in_ok-next.ensures.line (ap (λ b. Ok b) c.if-not-branch.false) in
    let fewer = ap length does.left in
    record {
      said = (line-done c.lines.self c.next.new.self c.lines.out.items c.next.new.out.items does).1 ∙ c.lines.invariant.said;
      most = omega (arith, fewer, c.lines.invariant.most);
      less = λ few many. omega (arith, fewer, c.lines.invariant.most);
    }

pub lines-smaller : goal.lines-smaller
lines-smaller c = omega (arith, ap length (c.in_ok-next.ensures.line (ap (λ b. Ok b) c.if-not-branch.false)).left)

pub returns-then-not-branch-clause-end : goal.returns-then-not-branch-clause-end
returns-then-not-branch-clause-end c = λ ok text is.
    let over = ap (λ b. Ok b) c.if-not-branch.true in
    let now = c.lines.self in
    let none : left_text now ≡ [] = ap (λ left. texts_from (all_lines now) now.done left) (c.in_ok-next.ensures.end over) in
    c.in_ok-next.ensures.silent over
    ∙ sym (ap (λ t. c.lines.out.items ++ t) none ∙ append-nil c.lines.out.items)
    ∙ c.lines.invariant.said
    ∙ ap (λ t. c.args.out.now.items ++ t) is

pub returns-clause-on : goal.returns-clause-on
returns-clause-on c = λ ok text is.
    (left_text c.lines.self, refl, c.lines.invariant.said ∙ ap (λ t. c.args.out.now.items ++ t) is)
