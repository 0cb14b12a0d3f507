use Rattle.std.proofs.Common.{◌≡◌, ◌++◌, ◌+◌, drop, false, sym, ap, ◌∙◌, subst}
use Rattle.damon_admin.specs.Admin.{DoesLine}
use Rattle.damon_admin.specs.Kept.{IsAdmin, IsTaken, admin_of}
use Rattle.damon_admin.specs.Voice.{spoken}
use Rattle.damon_admin.proofs.Going.{line_done, next_may_go_on, went_on}
use Rattle.damon_admin.proofs.admin.Admin.do_line.Goals as goal

pub go_on_at-requires-clause-next : goal.go_on_at-requires-clause-next
go_on_at-requires-clause-next c =
    let p = c.self.inside in
    let ready : p.failed ≡ false = ap (λ v. v.failed) c.self.view_is ∙ c.requires in
    let read = rw c.in-Ok-Some.field-0-is at c.in-Ok-Some.ensures.line in
    let taken = subst (λ b. IsTaken 0 b c.in-Ok-Some.taken) (c.rest_from.ensures ∙ ap (drop p.at) c.deref.ensures.value) read in
    next_may_go_on p.input.items p.at p.done p.failed p.contexts.items c.in-Ok-Some.taken c.self.invariant ready taken

pub invariant_of-self-2 : goal.invariant_of-self-2
invariant_of-self-2 c =
    let p = c.self.inside in
    let ready : p.failed ≡ false = ap (λ v. v.failed) c.self.view_is ∙ c.requires in
    let read = rw c.in-Ok-Some.field-0-is at c.in-Ok-Some.ensures.line in
    let taken = subst (λ b. IsTaken 0 b c.in-Ok-Some.taken) (c.rest_from.ensures ∙ ap (drop p.at) c.deref.ensures.value) read in
    let is = subst (λ f. IsAdmin p.input.items p.at p.done f p.contexts.items) ready c.self.invariant in
    went_on p.input.items p.at p.done p.contexts.items c.in-Ok-Some.taken is taken c.go_on_at.new.contexts.items c.go_on_at.new.out.items
    c.in_ok-go_on_at.ensures.on c.in_ok-go_on_at.ensures.kinds

pub returns-clause-line : goal.returns-clause-line
returns-clause-line c = λ went.
    let p = c.self.inside in
    let context = c.in-Ok-Some.taken.own.context in
    let x = c.args.out.now.items in
    let y = c.speak.new.out.items in
    let ready : p.failed ≡ false = ap (λ v. v.failed) c.self.view_is ∙ c.requires in
    let read = rw c.in-Ok-Some.field-0-is at c.in-Ok-Some.ensures.line in
    let taken = subst (λ b. IsTaken 0 b c.in-Ok-Some.taken) (c.rest_from.ensures ∙ ap (drop p.at) c.deref.ensures.value) read in
    let is = subst (λ f. IsAdmin p.input.items p.at p.done f p.contexts.items) ready c.self.invariant in
    let grew : y ≡ x ++ spoken context c.go_on_at.new.out.items =
    c.in_ok-speak.ensures.ok ∙ ap (λ t. x ++ spoken context t) c.deref-2.ensures.value in
    subst (λ v. DoesLine v (admin_of p.input.items (p.done + 1) false) x y) (ap (λ f. admin_of p.input.items p.done f) (sym ready) ∙ c.self.view_is)
    (line_done p.input.items p.at p.done p.contexts.items c.in-Ok-Some.taken is taken c.go_on_at.new.contexts.items c.go_on_at.new.out.items x y
    c.in_ok-go_on_at.ensures.on grew)
