use Rattle.std.proofs.Common.{◌≡◌, ◌≤◌, Ok, drop, length, subst}
use Rattle.line_text.specs.Parts.{parts}
use Rattle.damon_admin.specs.Lines.{lines_said, split_from}
use Rattle.damon_admin.proofs.Contexts.{admin_new}
use Rattle.damon_admin.proofs.admin.Admin.of.Goals as goal

pub invariant_of-result : goal.invariant_of-result
invariant_of-result c =
    let all = c.in_ok-gathered.ensures.ok in
    let at = c.in_ok-at.at in
    let header = c.in_ok-at.ensures in
    admin_new c.args.input.items at all.0 c.in_ok-gathered.gathered.items c.in_ok-contexts.contexts.items
    (subst (λ b. lines_said b ≡ Ok all.0) c.deref.ensures.value all.1)
    (subst (λ b. lines_said b ≡ split_from 2 (parts 10 (drop at b))) c.deref-2.ensures.value header.ok)
    (subst (λ b. at ≤ length b) c.deref-2.ensures.value header.inside)
    all.2 c.in_ok-contexts.ensures
