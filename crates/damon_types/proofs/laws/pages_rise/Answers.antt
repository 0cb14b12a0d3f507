use Rattle.damon_types.proofs.ByteLemmas.{page_of-below, page_of-rises}
use Rattle.damon_types.proofs.laws.pages_rise.Goals as goal

pub returns : goal.returns
returns c = record { below = page_of-below; rise = page_of-rises }
