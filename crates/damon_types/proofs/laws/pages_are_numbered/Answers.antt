use Rattle.damon_types.proofs.PlaceLemmas.{page_of-place_of}
use Rattle.damon_types.proofs.laws.pages_are_numbered.Goals as goal

pub returns : goal.returns
returns c = record { numbered = λ ts page sound below. page_of-place_of ts page below }
