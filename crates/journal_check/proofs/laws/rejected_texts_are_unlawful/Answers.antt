use Rattle.journal_check.proofs.Judged.{rejected_is_unlawful}
use Rattle.journal_check.proofs.laws.rejected_texts_are_unlawful.Goals as goal

pub returns : goal.returns
returns c = rejected_is_unlawful c.lawful_journals_are_read.ensures.law
