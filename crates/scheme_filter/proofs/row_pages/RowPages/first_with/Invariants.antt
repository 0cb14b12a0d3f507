use Rattle.std.proofs.Common.{◌-◌}
use Rattle.scheme_filter.proofs.ChangeLemmas.{Searched}
use Rattle.scheme_filter.proofs.row_pages.RowPages.first_with.Given as goal

abbrev pub invariant-pages : goal.invariant-pages
invariant-pages l = Searched l.filters l.self l.wanted l.from l.page

abbrev pub decreases-pages : goal.decreases-pages
decreases-pages l = l.self.end - l.page
