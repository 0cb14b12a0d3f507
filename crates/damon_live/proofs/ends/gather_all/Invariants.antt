use Rattle.std.proofs.Common.{◌≡◌, ◌≤◌, ◌<◌, ◌+◌, ℕ, length}
use Rattle.std.specs.Prelude.{slice_index_or}
use Rattle.std.specs.Vec.Iter.{into_iter_items, into_iter_len}
use Rattle.run_journal.specs.Lawful.{receipts_said}
use Rattle.damon_live.proofs.Working.{AreGathered}
use Rattle.damon_live.proofs.ends.gather_all.Given as goal

abbrev pub invariant-loop-done : goal.invariant-loop-done
invariant-loop-done g l =
    (l.seat.table ≡ g.N.Named.table)
    × (l.seat.out ≡ into_iter_len l.done-iterator)
    × (into_iter_len l.done-iterator ≤ l.all.spare)
    × (length (receipts_said l.all) + into_iter_len l.done-iterator ≡ length g.N.Named.script.workers)
    × AreGathered g.N.Named.script l.initial.seat.entries l.seat.entries (receipts_said l.all)
    × ((i : ℕ) (d : _) → i < into_iter_len l.done-iterator → (slice_index_or (into_iter_items l.done-iterator) i d).worker ≡ length (receipts_said l.all) + i)
