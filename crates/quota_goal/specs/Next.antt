-- The bytes that follow from a score.
use Rattle.std.specs.Prelude.{ℕ, ◌+◌, ◌-◌, ◌*◌, ◌/◌, min, max, nat_lt, if◌then◌else◌}
use Rattle.quota_goal.specs.declared.goals.Goal.{Goal}

-- the part of the bytes that a difference is of a target, rounded down
abbrev pub part : ℕ → ℕ → ℕ → ℕ
part bytes difference target = bytes * difference / target

-- what a score asks for: more bytes below the target, and fewer from the target on, where twice the target leaves none
abbrev pub asked : Goal → ℕ → ℕ → ℕ
asked goal bytes score =
    if nat_lt score goal.target then bytes + part bytes (goal.target - score) goal.target
    else bytes - part bytes (min (score - goal.target) goal.target) goal.target

-- the next bytes: what is asked for, within the bounds of the goal, and at most the top
abbrev pub next : Goal → ℕ → ℕ → ℕ → ℕ
next goal bytes top score = min top (max goal.low (min goal.high (asked goal bytes score)))
