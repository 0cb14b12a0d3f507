-- The work of commands and their limits, with one command more.
use Rattle.std.proofs.Common.{◌≡◌, ℕ, ◌+◌, List, [], ◌∷◌, ◌++◌, arith}
use Rattle.std.proofs.lemmas.List.Sums.{sum_by-cons}
use Rattle.script_lines.specs.Command.{CommandValue, weight, work_of}
use Rattle.script_lines.specs.Limits.{AreCommandsWithin, IsCommandWithin}

pub work_of_more : (cap : ℕ) (cs : List CommandValue) (c : CommandValue) → work_of cap (cs ++ c ∷ []) ≡ work_of cap cs + weight cap c
work_of_more cap [] c = omega (arith, sum_by-cons (weight cap) c [])
work_of_more cap (d ∷ cs) c =
    omega (arith, sum_by-cons (weight cap) d (cs ++ c ∷ []), sum_by-cons (weight cap) d cs, work_of_more cap cs c)

pub within_more : (pages : ℕ) (cs : List CommandValue) (c : CommandValue) → AreCommandsWithin pages cs → IsCommandWithin pages c → AreCommandsWithin pages (cs ++ c ∷ [])
within_more pages [] c all one = (one, tt)
within_more pages (d ∷ cs) c all one = (all.0, within_more pages cs c all.1 one)
