-- What holds of each state that is reached by true results.
use Rattle.std.proofs.Common.{subst}
use Rattle.damon_core.specs.State.{State}
use Rattle.damon_core.specs.Slots.{slot_count}
use Rattle.damon_core.specs.Aggregate.{merged_regions}
use Rattle.damon_core.specs.Reached.{ReachedByHit}
use Rattle.damon_core.specs.Bound.{Bound}
use Rattle.damon_core.proofs.Adapting.{merged_tiled}
use Rattle.damon_core.proofs.Committing.{committed_notes_hold}
use Rattle.damon_core.proofs.Keeping.{Keeps, any_result, reached_keeps, reached_by_hit_keeps, reached_of}
use Rattle.damon_core.proofs.Opening.{opening_holds}
use Rattle.damon_core.proofs.Rows.{HasRows, rows_kept, rows_of}
use Rattle.damon_core.proofs.Hits.{HasHits, hits_kept}
use Rattle.damon_core.proofs.Passes.{HasPasses, passes_kept}
use Rattle.damon_core.proofs.Served.{runs_within}
use Rattle.damon_core.proofs.Walks.{EachHitRests, EachRunIsWithin, finished_checks, hit_rests, run_is_within, void_checks_nothing}

-- what is kept of the runs of schemes
record HasRuns (s : State) : Type 0 where
  pub rows : HasRows s
  pub runs : EachRunIsWithin s.notes

runs_kept : Keeps any_result HasRuns
runs_kept = let rows = rows_kept any_result in record {
  opens = λ v can. record { rows = rows.opens v can; runs = opening_holds EachRunIsWithin tt (λ slot scheme notes runs. runs) v };
  touching = λ s p h. record { rows = rows.touching s p h.rows; runs = h.runs };
  preparing = λ s ws idle count h. record { rows = rows.preparing s ws idle count h.rows; runs = h.runs };
  clearing = λ s k is h. record { rows = rows.clearing s k is h.rows; runs = h.runs };
  loading = λ s k hit fits is known h. record { rows = rows.loading s k hit fits is known h.rows; runs = h.runs };
  finishing = λ s is h. record { rows = rows.finishing s is h.rows; runs = h.runs };
  voiding = λ s is h. record { rows = rows.voiding s is h.rows; runs = h.runs };
  aggregating = λ s ws is h. record {
    rows = rows.aggregating s ws is h.rows;
    runs = runs_within slot_count 0 s.core.space s.core.attrs.aggr s.core.ticks (merged_regions s.core) s.notes (merged_tiled s.core h.rows.wide h.rows.order (rows_of s h.rows)) h.runs;
  };
  committing = λ s c ok h. record {
    rows = rows.committing s c ok h.rows;
    runs = committed_notes_hold EachRunIsWithin (λ slot scheme notes runs. runs) (λ slot notes runs. runs) (λ value notes runs. runs) (λ slot nanos notes runs. runs) c s.notes h.runs;
  };
}

-- what is kept gives what is promised
pub reached_bound : (s : State) → ReachedByHit s → Bound s
reached_bound s reached =
    let passes = reached_keeps HasPasses (passes_kept any_result) s (reached_of s reached) in
    let hits = reached_by_hit_keeps HasHits hits_kept s reached in
    let runs = reached_keeps HasRuns runs_kept s (reached_of s reached) in
    record {
      tiles = passes.rows.tiles;
      few = passes.rows.few;
      max = passes.rows.max;
      most = passes.rows.most;
      passes = λ n rows at. finished_checks s.notes s.notes n rows passes.passes at;
      voids = λ n at. void_checks_nothing s.notes s.notes n passes.passes at;
      hits = λ later earlier n k p is. hit_rests later earlier n k p (subst EachHitRests is hits.rests);
      runs = λ later earlier slot tick tried applied exceeds is. run_is_within later earlier slot tick tried applied exceeds (subst EachRunIsWithin is runs.runs);
    }
