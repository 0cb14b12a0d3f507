use Rattle.std.proofs.Common.{refl, sym}
use Rattle.range_update.proofs.PieceLemmas.{covering_here, covering_out}
use Rattle.range_update.proofs.lookup.covering_row.Goals as goal

pub returns-then-starts_by : goal.returns-then-starts_by
returns-then-starts_by c =
    let here = c.if-starts_by.ensures.yes refl in
    rw c.at.ensures (sym (covering_here c.args.page c.args.rows.now.rows c.args.index c.requires.past here.0 here.1 (c.requires.next here.0)))

pub returns-else-starts_by : goal.returns-else-starts_by
returns-else-starts_by c = sym (covering_out c.args.page c.args.rows.now.rows c.args.index c.requires.order c.requires.past (c.if-starts_by.ensures.no refl))
