use Rattle.region_list.proofs.TilingLemmas.{row_size, row_end}
use Rattle.region_list.proofs.laws.tiled_rows_fit.Goals as goal

pub returns : goal.returns
returns c = record {
  some = λ gs rows i r tiling is. row_size 1 gs rows i r tiling is;
  end = λ gs rows i r ordered tiling is. row_end 1 gs rows i r ordered tiling is;
}
