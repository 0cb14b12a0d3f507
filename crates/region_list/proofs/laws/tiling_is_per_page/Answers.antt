use Rattle.region_list.proofs.TilingLemmas.{tiles}
use Rattle.region_list.proofs.laws.tiling_is_per_page.Goals as goal

pub returns : goal.returns
returns c = tiles
