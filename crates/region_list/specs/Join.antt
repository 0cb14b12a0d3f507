-- Two rows joined to one.
use Rattle.std.specs.Prelude.{ℕ, ◌+◌, ◌*◌, ◌/◌}
use Rattle.damon_types.specs.declared.row.Row.{Row}

-- the average of two numbers, weighted by pages and rounded down
abbrev pub average : ℕ → ℕ → ℕ → ℕ → ℕ
average x x_pages y y_pages = (x * x_pages + y * y_pages) / (x_pages + y_pages)

-- a row joined with the next one: the pages of both, and averages weighted by pages
abbrev pub join : Row → Row → Row
join a b = record {
  target = a.target;
  start = a.start;
  pages = a.pages + b.pages;
  count = average a.count a.pages b.count b.pages;
  last = average a.last a.pages b.last b.pages;
  age = average a.age a.pages b.age b.pages;
}
