use Rattle.std.proofs.Common.{◌≡◌, Some, refl}
use Rattle.std.specs.Prelude.{slice_get}
use Rattle.std.proofs.lemmas.Option.{slice_get_read, slice_get_within}
use Rattle.damon_admin.proofs.Going.{goes_at, kinds_at}
use Rattle.std.proofs.lemmas.Result.{on_ok_weaker}
use Rattle.damon_admin.proofs.context.go_on_at.Goals as goal

pub returns-clause-on : goal.returns-clause-on
returns-clause-on c =
    let xs = c.args.contexts.now.items in
    let x = c.index_mut.result.now in
    let next = c.requires.next in
    let here : slice_get xs c.args.context ≡ Some x = slice_get_read xs _ c.args.context x refl (slice_get_within xs c.args.context next.0 next.1) c.index_mut.ensures.value in
    on_ok_weaker c.go_on.result (λ goes. goes_at xs c.args.context c.args.line.now c.go_on.new.out.items x c.go_on.new.self here goes) c.go_on.ensures.on

pub returns-clause-kinds : goal.returns-clause-kinds
returns-clause-kinds c =
    let xs = c.args.contexts.now.items in
    let x = c.index_mut.result.now in
    let next = c.requires.next in
    let here : slice_get xs c.args.context ≡ Some x = slice_get_read xs _ c.args.context x refl (slice_get_within xs c.args.context next.0 next.1) c.index_mut.ensures.value in
    kinds_at xs c.args.context x c.go_on.new.self here c.go_on.ensures.kind
