use Rattle.journal_text.proofs.ReadBack.{journals_read_back}
use Rattle.journal_text.proofs.laws.lawful_journals_are_read.Goals as goal

pub returns : goal.returns
returns c = record { law = journals_read_back c.pages_are_numbered.ensures.numbered }
