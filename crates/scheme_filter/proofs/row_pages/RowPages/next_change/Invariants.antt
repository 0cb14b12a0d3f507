use Rattle.std.proofs.Common.{◌≡◌, drop}
use Rattle.scheme_filter.specs.RowPages.{changes, first_after}
use Rattle.scheme_filter.proofs.row_pages.RowPages.next_change.Given as goal

abbrev pub invariant-loop-filter : goal.invariant-loop-filter
invariant-loop-filter l = first_after l.after l.next (changes l.self (drop l.filter-index l.filters)) ≡ first_after l.after l.self.end (changes l.self l.filters)
