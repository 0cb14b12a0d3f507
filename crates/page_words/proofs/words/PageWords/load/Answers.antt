use Rattle.page_words.proofs.AtSeats.{load_keeps}
use Rattle.page_words.proofs.words.PageWords.load.Goals as goal

pub load-requires-clause-keeps : goal.load-requires-clause-keeps
load-requires-clause-keeps c = load_keeps _ _ _ _ _ _ c.seat.invariant.0
