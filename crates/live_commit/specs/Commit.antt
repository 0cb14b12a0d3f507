-- A commit as contracts see it.
use Rattle.std.specs.Prelude.{ℕ, List, Option}
use Rattle.std.specs.Option.{option_map}
use Rattle.damon_types.specs.declared.attrs.Attrs.{Attrs}
use Rattle.damon_types.specs.declared.range.RangeSpec.{RangeSpec}
use Rattle.damon_types.specs.declared.scheme.CostPart.{CostPart}
use Rattle.damon_types.specs.declared.scheme.SlotChange.{SlotChange}
use Rattle.live_commit.specs.declared.commit.Commit.{Commit}

-- the parts of a commit
pub record CommitValue : Type 0 where
  pub attrs : Option Attrs
  pub ranges : Option (List RangeSpec)
  pub slot : Option SlotChange
  pub metric : Option ℕ
  pub cost : Option CostPart

-- the parts of a commit, its ranges without their room
abbrev pub commit_value : Commit → CommitValue
commit_value c = record {
  attrs = c.attrs;
  ranges = option_map (λ l. l.list) c.ranges;
  slot = c.slot;
  metric = c.metric;
  cost = c.cost;
}
