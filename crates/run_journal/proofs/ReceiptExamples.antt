-- Receipts in columns: those of two touches, and of three whose second tag has quarters above the first.
use Rattle.std.proofs.Common.{◌≡◌, [], ◌∷◌, refl}
use Rattle.run_journal.specs.ReceiptColumns.{receipts_in}

two_receipts : receipts_in (3 ∷ 7 ∷ []) (record { first = 0 ∷ 2 ∷ []; second = []; third = []; fourth = [] }) ≡ record { page = 3; tag = 0 } ∷ record { page = 7; tag = 2 } ∷ []
two_receipts = refl

a_large_tag : receipts_in (3 ∷ 7 ∷ 3 ∷ []) (record { first = 0 ∷ 5 ∷ 9 ∷ []; second = 0 ∷ 2 ∷ []; third = 0 ∷ 1 ∷ []; fourth = [] }) ≡ record { page = 3; tag = 0 } ∷ record { page = 7; tag = 4295098373 } ∷ record { page = 3; tag = 9 } ∷ []
a_large_tag = refl
