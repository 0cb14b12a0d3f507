-- Cutting one row at a random place.
use Rattle.std.specs.Prelude.{ℕ, ◌+◌, ◌-◌, ◌*◌, ◌/◌, ◌%◌, Bool, ◌&&◌, nat_lt, nat_le}
use Rattle.damon_types.specs.declared.row.Row.{Row}

-- the limits of a split: the most rows, and the minimum size of a row in pages
pub record SplitLimits : Type 0 where
  pub max : ℕ
  pub unit : ℕ

-- after how many of its pages a word cuts a row: one to nine tenths of them, rounded down
abbrev pub cut_place : ℕ → ℕ → ℕ
cut_place pages word = (1 + word % 9) * pages / 10

-- whether a row may be cut after `at` of its pages, `count` being the number of rows now: that is below the most, and both
-- sides have the minimum size
abbrev pub may_cut : SplitLimits → ℕ → ℕ → ℕ → Bool
may_cut limits count pages at = nat_lt count limits.max && (nat_le limits.unit at && nat_le limits.unit (pages - at))

-- the first `at` pages of a row
abbrev pub left_side : ℕ → Row → Row
left_side at r = record r { pages = at }

-- the pages of a row after the first `at`
abbrev pub right_side : ℕ → Row → Row
right_side at r = record r { start = r.start + at; pages = r.pages - at }
