use Rattle.page_words.proofs.AtSeats.{gather_keeps}
use Rattle.page_words.proofs.words.PageWords.gather.Goals as goal

pub gather-requires-clause-keeps : goal.gather-requires-clause-keeps
gather-requires-clause-keeps c = gather_keeps _ _ _ _ _ _ c.seat.invariant.0 c.touch.invariant
