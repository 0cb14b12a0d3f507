-- Whether rows lie at the same pages.
use Rattle.std.specs.Prelude.{Bool, ◌&&◌, ◌==◌, List}
use Rattle.std.specs.Cmp.Lexicographic.{pointwise}
use Rattle.damon_types.specs.Span.{Span}

-- two lists of spans have the same length, and one by one their spans are of one target and have the same pages
abbrev pub same_spans : List Span → List Span → Bool
same_spans a b = pointwise (λ s t. (s.target == t.target) && ((s.start == t.start) && (s.pages == t.pages))) a b
