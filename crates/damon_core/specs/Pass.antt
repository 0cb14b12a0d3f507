-- How far the pass under way has come.
use Rattle.std.specs.Prelude.{ℕ, ◌+◌, ◌≤◌, ◌<◌, List, [], ◌∷◌}
use Rattle.live_commit.specs.declared.phase.Phase.{Phase}
use Rattle.live_commit.specs.declared.phase.Phase.TheVariants.{Idle, Clearing, Armed, Checking, Due}

-- a pass is under way that is not void: its picks are those of the rows
abbrev pub IsInPass : Phase → Type 0
IsInPass (Clearing k) = Unit {0}
IsInPass Armed = Unit {0}
IsInPass (Checking k) = Unit {0}
IsInPass _ = ⊥

-- how many picks of the pass are cleared
abbrev pub cleared_so_far : Phase → ℕ → ℕ
cleared_so_far (Clearing k) rows = k
cleared_so_far Armed rows = rows
cleared_so_far (Checking k) rows = rows
cleared_so_far _ rows = 0

-- the pick that a phase names is one of the rows, or in Checking the one after the last
abbrev pub IsPickWithin : Phase → ℕ → Type 0
IsPickWithin (Clearing k) rows = k < rows
IsPickWithin (Checking k) rows = k ≤ rows
IsPickWithin _ rows = Unit {0}

-- no pass is under way
abbrev pub IsBetween : Phase → Type 0
IsBetween Idle = Unit {0}
IsBetween Due = Unit {0}
IsBetween _ = ⊥

-- pages that rise strictly, the first being at least p
abbrev pub PagesRiseFrom : ℕ → List ℕ → Type 0
PagesRiseFrom p [] = Unit {0}
PagesRiseFrom p (q ∷ qs) = (p ≤ q) × PagesRiseFrom (q + 1) qs
