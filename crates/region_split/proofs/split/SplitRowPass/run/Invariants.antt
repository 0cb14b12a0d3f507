use Rattle.std.proofs.Common.{◌≡◌, ◌++◌, length, drop}
use Rattle.region_split.specs.Split.{split_from}
use Rattle.region_split.proofs.split.SplitRowPass.run.Given as goal

abbrev pub invariant-loop-index : goal.invariant-loop-index
invariant-loop-index l = record {
  so_far : l.made.rows ++ split_from l.self.limits l.self.three l.self.words.now l.count l.index (drop l.index l.rows.rows)
      ≡ split_from l.self.limits l.self.three l.self.words.now (length l.rows.rows) 0 l.rows.rows;
  capacity : l.made.cap ≡ l.fn.made.cap;
}
