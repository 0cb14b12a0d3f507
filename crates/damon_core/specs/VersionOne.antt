-- What does not happen in version One of the rules.
use Rattle.std.specs.Prelude.{◌≡◌, List, None, IfSome}
use Rattle.std.specs.List.{AllByRecursion}
use Rattle.damon_core.specs.Note.{Note, set, cost}

-- a note of version One: no cost is handed in, and no slot is set to a scheme whose quota has a time
abbrev pub IsOfVersionOne : Note → Type 0
IsOfVersionOne (set slot scheme) = IfSome scheme.quota (λ q. q.time ≡ None)
IsOfVersionOne (cost slot nanos) = ⊥
IsOfVersionOne _ = Unit {0}

-- each of these notes is one
abbrev pub AreOfVersionOne : List Note → Type 0
AreOfVersionOne notes = AllByRecursion IsOfVersionOne notes
