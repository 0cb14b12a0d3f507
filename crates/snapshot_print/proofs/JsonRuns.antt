-- The items of the runs of a slot.
use Rattle.std.proofs.Common.{◌≡◌, ℕ, suc, ◌+◌, List, [], ◌∷◌, ◌++◌, take, refl, ap, ap₂, ◌∙◌, arith, cond, Bool, true, false, subst, sym}
use Rattle.std.specs.Prelude.{◌==◌, flat_map}
use Rattle.std.specs.List.{AllByRecursion}
use Rattle.std.proofs.lemmas.Bool.Decides.{nat_tests}
use Rattle.damon_types.specs.declared.space.Target.{Target}
use Rattle.scheme_engine.specs.declared.applied.AppliedRun.{AppliedRun}
use Rattle.scheme_engine.specs.Slots.{SlotValue}
use Rattle.snapshot_print.specs.Json.{applied_json}
use Rattle.snapshot_print.specs.Pieces.{piece, run_parts}
use Rattle.snapshot_print.specs.Schemes.{action_in, runs_of_slot}
use Rattle.snapshot_print.proofs.JsonMembers.{run_item}

abbrev RunsOf : ℕ → List AppliedRun → Type 0
RunsOf slot runs = AllByRecursion (λ r. r.slot ≡ slot) runs

-- runs of a slot: each item is the prefix that they share, and its rest
pub own_items : (space : List Target) (slots : List SlotValue) (slot : ℕ) (runs : List AppliedRun) → RunsOf slot runs
    → flat_map (run_parts space (action_in slots slot)) runs ≡ flat_map (λ r. piece (applied_json space slots r)) runs
own_items space slots slot [] own = refl
own_items space slots slot (r ∷ rs) own =
    ap₂ (λ (a b : List ℕ). a ++ b)
    (ap (λ n. run_parts space (action_in slots n) r) (sym own.0) ∙ run_item space slots r)
    (own_items space slots slot rs own.1)

same_number : (m n : ℕ) → (m == n) ≡ true → m ≡ n
same_number m n same = grind (arith, nat_tests)

counted : (slot : ℕ) (r : AppliedRun) (rs : List AppliedRun) (b : Bool) → (r.slot == slot) ≡ b → RunsOf slot (take (runs_of_slot slot rs) rs) → RunsOf slot (take (cond b (1 + runs_of_slot slot rs) 0) (r ∷ rs))
counted slot r rs true is own =
    let next : suc (runs_of_slot slot rs) ≡ 1 + runs_of_slot slot rs = omega arith in
    subst (λ n. RunsOf slot (take n (r ∷ rs))) next (same_number r.slot slot is, own)
counted slot r rs false is own = tt

-- the runs of a slot that come first are all of it
pub first_runs : (slot : ℕ) (runs : List AppliedRun) → RunsOf slot (take (runs_of_slot slot runs) runs)
first_runs slot [] = tt
first_runs slot (r ∷ rs) = counted slot r rs (r.slot == slot) refl (first_runs slot rs)
