use Rattle.std.proofs.Common.{false, sym, subst}
use Rattle.std.specs.Prelude.{replicate}
use Rattle.damon_types.specs.Space.{pages_of}
use Rattle.live_commit.specs.SetupView.{value_of}
use Rattle.damon_core.specs.State.{opening_notes}
use Rattle.damon_core.proofs.Lemmas.{word_opening}
use Rattle.damon_world.specs.Pages.{ArePagesOf, PagesView}
use Rattle.damon_world.proofs.Notes.{fresh_pages}
use Rattle.damon_world.proofs.Parts.{index_of_zeros}
use Rattle.damon_world.proofs.world.World.new.Goals as goal

pub with_pages-requires-clause-fresh : goal.with_pages-requires-clause-fresh
with_pages-requires-clause-fresh g c =
    let setup = c.args.setup.now in
    let notes = opening_notes (value_of setup) in
    let n = c.pages.result in
    let fresh : PagesView = record { marks = replicate n false; tags = replicate n 0 } in
    subst (λ v. ArePagesOf v notes (pages_of setup.space)) (sym c.in_ok-pages.ensures)
    (subst (λ k. ArePagesOf fresh notes k) c.pages.ensures
    (fresh_pages notes (replicate n 0) n (word_opening (value_of setup)) (index_of_zeros n)))
