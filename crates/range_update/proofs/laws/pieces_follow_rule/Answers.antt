use Rattle.range_update.proofs.OrderLemmas.{rows_in_order}
use Rattle.range_update.proofs.KeptLemmas.{all_pieces_are, pieces_one}
use Rattle.range_update.proofs.laws.pieces_follow_rule.Goals as goal

pub returns-clause-some : goal.returns-clause-some
returns-clause-some c = λ olds gs rows unit ordered tiling some. all_pieces_are unit rows gs (rows_in_order olds rows ordered tiling) some

pub returns-clause-one : goal.returns-clause-one
returns-clause-one c = λ gs rows a b unit is other. pieces_one unit rows gs a b is other
