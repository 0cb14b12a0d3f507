use Rattle.std.proofs.Common.{◌≡◌, ap, arith}
use Rattle.journal_check.specs.Replayer.{ReplayerView}
use Rattle.journal_check.proofs.OnWay.{nothing_left}
use Rattle.journal_check.proofs.replayer.Replayer.next.Goals as goal

pub returns-clause-none : goal.returns-clause-none
returns-clause-none c = λ none states last h.
    let empty : c.entries.self.left ≡ 0 = omega (arith, c.entries-test.false, ap (λ (r : ReplayerView). r.left) c.self.view_is) in
    nothing_left states last c.entries.self (c.entries.invariant.leads states last h) empty
