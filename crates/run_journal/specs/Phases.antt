-- Where entries of a journal fit.
use Rattle.std.specs.Prelude.{◌≡◌, ℕ, zero, suc}
use Rattle.live_commit.specs.declared.phase.Phase.{Phase}
use Rattle.live_commit.specs.declared.phase.Phase.TheVariants.{Idle, Armed, Checking, Void, Due}

-- no pass is under way
abbrev pub IsIdle : Phase → Type 0
IsIdle phase = phase ≡ Idle

-- a pass is armed: its picks are cleared
abbrev pub IsArmed : Phase → Type 0
IsArmed phase = phase ≡ Armed

-- the pass under way is void
abbrev pub IsVoid : Phase → Type 0
IsVoid phase = phase ≡ Void

-- an aggregation is due
abbrev pub IsDue : Phase → Type 0
IsDue phase = phase ≡ Due

-- the lock may be free: no pass is half cleared or half checked, and no aggregation is due
abbrev pub IsFree : Phase → Type 0
IsFree Idle = Unit {0}
IsFree Armed = Unit {0}
IsFree Void = Unit {0}
IsFree _ = ⊥

-- one pass is prepared and has not ended, or none
abbrev pub passes_open : Phase → ℕ
passes_open Armed = 1
passes_open Void = 1
passes_open _ = 0

-- the phase in which this many picks are loaded
abbrev pub phase_loaded : ℕ → Phase
phase_loaded zero = Armed
phase_loaded (suc k) = Checking (suc k)
