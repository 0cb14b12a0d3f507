use Rattle.script_lines.proofs.WordLemmas.{size_left_less}
use Rattle.script_lines.proofs.keys.are_formed.Goals as goal

pub words-smaller : goal.words-smaller
words-smaller c = size_left_less c.words.rest c.split_front.result.1 c.in-Some.text c.in-Some.is c.split_front.ensures.shorter
