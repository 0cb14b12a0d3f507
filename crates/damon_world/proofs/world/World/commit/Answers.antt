use Rattle.std.proofs.Common.{List, sym, subst}
use Rattle.damon_types.specs.declared.space.Target.{Target}
use Rattle.damon_types.specs.Space.{pages_of}
use Rattle.live_commit.specs.Commit.{CommitValue, commit_value}
use Rattle.damon_world.specs.Stands.{StandsFor}
use Rattle.damon_core.specs.After.{after}
use Rattle.damon_core.specs.Event.{commit}
use Rattle.damon_world.specs.Pages.{ArePagesOf}
use Rattle.damon_world.proofs.Committing.{word_of-commit}
use Rattle.damon_world.proofs.Notes.{same_pages}
use Rattle.std.proofs.Common.{[], ◌∷◌}
use Rattle.damon_core.proofs.Lemmas.{ReachedByHit-run, reached_of}
use Rattle.damon_world.proofs.world.World.commit.Goals as goal

pub returns-clause-event : goal.returns-clause-event
returns-clause-event g c s reached stands =
    let inner = subst (λ w. StandsFor w s) (sym c.self.view_is) stands in
    let made = c.commit.ensures.event s reached inner.monitor in
    let parts : CommitValue = commit_value c.args.commit.now in (
      made.0,
      record {
        monitor = made.1;
        pages = subst (λ (ts : List Target). ArePagesOf c.self.inside.pages (after s (commit parts)).notes (pages_of ts)) (sym c.commit.ensures.space)
            (same_pages c.self.inside.pages s.notes (after s (commit parts)).notes (pages_of c.self.inside.monitor.core.space) (word_of-commit parts s) inner.pages);
      },
    )

pub returns-clause-by_hit : goal.returns-clause-by_hit
returns-clause-by_hit g c s reached stands =
    let made = returns-clause-event g c s (reached_of s reached) stands in
    let parts : CommitValue = commit_value c.args.commit.now in
    (ReachedByHit-run s (commit parts ∷ []) reached made.0 (tt, tt), made.1)
