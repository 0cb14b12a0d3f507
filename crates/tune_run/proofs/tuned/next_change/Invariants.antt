use Rattle.std.proofs.Common.{◌≡◌}
use Rattle.tune_run.specs.Kept.{changes_from}
use Rattle.tune_run.proofs.tuned.next_change.Given as goal

-- none of the slots so far has a change
abbrev pub invariant-slots : goal.invariant-slots
invariant-slots l =
    (l.tuner ≡ l.fn.tuner)
    × (changes_from l.fn.tuner l.fn.next l.moment ≡ changes_from l.fn.tuner l.slot l.moment)
