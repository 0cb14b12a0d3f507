-- The receipts of one worker after another.
use Rattle.std.proofs.Common.{◌≡◌, ℕ, ◌+◌, List, ◌∷◌, drop, Some, map, sym, ap, ◌∙◌, subst}
use Rattle.std.specs.Prelude.{slice_get}
use Rattle.std.specs.List.{AllByRecursion}
use Rattle.std.proofs.lemmas.List.{drop-map}
use Rattle.damon_types.specs.Listed.{Listed}
use Rattle.damon_types.proofs.Lemmas.{all_parts}
use Rattle.run_journal.specs.declared.entry.Receipt.{Receipt}
use Rattle.run_journal.specs.Lawful.{all_of, receipts_said}
use Rattle.script_lines.proofs.Lemmas.{drop-at}

-- the receipts of this worker come first, and then those of the next ones
pub next_worker : (receipts : Listed (Listed Receipt)) (worker : ℕ) (own : Listed Receipt) → slice_get receipts.list worker ≡ Some own
    → drop worker (receipts_said receipts) ≡ own.list ∷ drop (worker + 1) (receipts_said receipts)
next_worker receipts worker own is =
    drop-map (λ (rs : Listed Receipt). rs.list) worker receipts.list
    ∙ ap (map (λ (rs : Listed Receipt). rs.list)) (drop-at receipts.list worker own is)
    ∙ ap (λ all. own.list ∷ all) (sym (drop-map (λ (rs : Listed Receipt). rs.list) (worker + 1) receipts.list))

-- what holds of all their receipts
pub all_next : (P : Receipt → Type 0) (left more : List (List Receipt)) (own : List Receipt) → left ≡ own ∷ more
    → AllByRecursion P (all_of left) → AllByRecursion P own × AllByRecursion P (all_of more)
all_next P left more own is all = all_parts P own (all_of more) (subst (λ rs. AllByRecursion P (all_of rs)) is all)
