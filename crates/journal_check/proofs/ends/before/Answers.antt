use Rattle.journal_check.proofs.HeadTells.{taken_front}
use Rattle.journal_check.proofs.ends.before.Goals as goal

pub returns-clause-front : goal.returns-clause-front
returns-clause-front c = λ front is. taken_front c.args.bytes.now front c.args.rest.now is
