use Rattle.scheme_filter.proofs.RowLemmas.{page_within}
use Rattle.scheme_filter.proofs.decision.passes.Goals as goal

pub addr_of-requires : goal.addr_of-requires
addr_of-requires c = page_within c.args.space.now c.args.ranges.now.list c.args.page c.requires.within c.requires.held
