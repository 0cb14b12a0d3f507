use Rattle.std.proofs.Common.{rules, arith}
use Rattle.journal_check.proofs.SeenFront.{seen_front}
use Rattle.journal_check.proofs.receipts.front.leading_seen.Goals as goal

pub returns-clause-line : goal.returns-clause-line
returns-clause-line c = record {
  worker = omega (arith, c.in_ok-worker.ensures.most);
  place = c.in_ok-page.ensures.fits;
  tag = omega (arith, c.in_ok-tag.ensures.most);
  whole = seen_front c.args.space.now c.in_ok-worker.worker (record { page = c.in_ok-page.page; tag = c.in_ok-tag.tag }) c.args.text.now c.in_ok-worker.words.now c.in_ok-page.words.now c.in_ok-tag.words.now c.in_ok-rest.rest.now
      c.in_ok-worker.ensures.spelled c.in_ok-page.ensures.spelled c.in_ok-tag.ensures.spelled (search rules);
}
