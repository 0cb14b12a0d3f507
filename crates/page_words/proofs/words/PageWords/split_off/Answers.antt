use Rattle.page_words.proofs.AtSeats.{split_keeps}
use Rattle.page_words.proofs.words.PageWords.split_off.Goals as goal

pub split-requires-clause-keeps : goal.split-requires-clause-keeps
split-requires-clause-keeps c = split_keeps _ _ _ _ _ c.requires.kind
