-- What the crates above may cite of the proofs of this crate.
pub use Rattle.journal_text.proofs.Common.{Pieces, bind-Ok, both_all, both_are, either_way, is_line, no_pieces, or_second, piece_first, pieces_front, same_line}
pub use Rattle.journal_text.proofs.EntriesSay.{n_bits_are}
pub use Rattle.journal_text.proofs.FirstLaw.{journals_read_only}
pub use Rattle.journal_text.proofs.HeadSay.{head_cases}
pub use Rattle.journal_text.proofs.Pieces.{seen_piece}
pub use Rattle.journal_text.proofs.PlainLines.{part_piece}
pub use Rattle.journal_text.proofs.ReadBack.{journals_read_back}
pub use Rattle.journal_text.proofs.SeenRead.{seen_back}
pub use Rattle.journal_text.proofs.SeenSay.{all_more, count_more, count_padded}
pub use Rattle.journal_text.proofs.Turns.{counts-at, counts-length}
