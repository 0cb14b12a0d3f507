use Rattle.std.proofs.Common.{◌≡◌, ℕ, List, length, length-append, ◌∷◌, ◌++◌, [], Some, refl, sym, ap, ◌∙◌, arith}
use Rattle.std.specs.Prelude.{slice_get}
use Rattle.std.proofs.lemmas.Option.{slice_get_read}
use Rattle.damon_admin.specs.Kept.{line_value}
use Rattle.damon_admin.specs.Lines.{lines_of}
use Rattle.damon_admin.proofs.Gathering.{gathered_more, lines_few}
use Rattle.damon_admin.proofs.gather.add_line.Goals as goal

pub overflow_add-context : goal.overflow_add-context
overflow_add-context c =
    let gs = c.args.contexts.now.items in
    let g = c.index_mut-context.result.now in
    let lines = c.requires.gathered.0 in
    let gathered = c.requires.gathered.1 in
    let here : slice_get gs c.args.own.context ≡ Some g =
    slice_get_read gs 8 c.args.own.context g (sym gathered.eight) c.requires.context c.index_mut-context.ensures.value in
    let it = gathered.each c.args.own.context g here in
    let size : List ℕ → ℕ = λ t. length t in
    omega (
      arith,
      it.count,
      ap size it.text,
      lines_few (lines_of c.args.own.context lines),
      ap size c.in_ok-extend_from_slice.ensures.items,
      length-append g.text.items c.args.own.line.now,
      ap size c.in_ok-push.ensures.items,
      length-append c.extend_from_slice.new.self.items (10 ∷ []),
      c.push.new.self.ok.0,
      c.push.new.self.ok.1,
      c.push.new.self.small,
    )

pub returns-clause-gathered : goal.returns-clause-gathered
returns-clause-gathered c lines gathered =
    let gs = c.args.contexts.now.items in
    let g = c.index_mut-context.result.now in
    let here : slice_get gs c.args.own.context ≡ Some g =
    slice_get_read gs 8 c.args.own.context g (sym gathered.eight) c.requires.context c.index_mut-context.ensures.value in
    gathered_more gs lines (line_value c.args.own) g _ here
    (c.in_ok-push.ensures.items ∙ ap (λ t. t ++ 10 ∷ []) c.in_ok-extend_from_slice.ensures.items) refl gathered
