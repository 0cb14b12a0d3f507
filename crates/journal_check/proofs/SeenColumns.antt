-- Receipts with their workers, and the lists of both.
use Rattle.std.proofs.Common.{◌≡◌, ℕ, List, [], ◌∷◌, ◌++◌, map, refl, sym, ap, subst, ◌∙◌}
use Rattle.std.proofs.lemmas.List.{map-append}
use Rattle.run_journal.specs.declared.entry.Receipt.{Receipt}
use Rattle.journal_check.specs.SeenColumns.{AreColumns, zipped}

-- the lists of both parts, put together, are the receipts
zipped_map : (xs : List (ℕ × Receipt)) → zipped (map (λ x. x.0) xs) (map (λ x. x.1) xs) ≡ xs
zipped_map [] = refl
zipped_map (x ∷ xs) = ap (λ l. x ∷ l) (zipped_map xs)

-- lists of receipts, put together, are these receipts
pub zipped_is : (xs : List (ℕ × Receipt)) (workers : List ℕ) (receipts : List Receipt) → AreColumns xs workers receipts → zipped workers receipts ≡ xs
zipped_is xs workers receipts is = rw (is.worker, is.receipt) (zipped_map xs)

-- lists of some receipts are lists of what they are put together to
pub columns_are : (xs : List (ℕ × Receipt)) (workers : List ℕ) (receipts : List Receipt) → AreColumns xs workers receipts → AreColumns (zipped workers receipts) workers receipts
columns_are xs workers receipts is = subst (λ l. AreColumns l workers receipts) (sym (zipped_is xs workers receipts is)) is

-- a receipt is appended
pub columns_pushed : (xs : List (ℕ × Receipt)) (x : ℕ × Receipt) (ws ws' : List ℕ) (rs rs' : List Receipt) → AreColumns xs ws rs → ws' ≡ ws ++ x.0 ∷ [] → rs' ≡ rs ++ x.1 ∷ [] → AreColumns (xs ++ x ∷ []) ws' rs'
columns_pushed xs x ws ws' rs rs' is w r = record {
  worker = w ∙ ap (λ l. l ++ x.0 ∷ []) is.worker ∙ sym (map-append (λ (y : ℕ × Receipt). y.0) xs (x ∷ []));
  receipt = r ∙ ap (λ l. l ++ x.1 ∷ []) is.receipt ∙ sym (map-append (λ (y : ℕ × Receipt). y.1) xs (x ∷ []));
}
