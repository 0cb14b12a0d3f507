-- Receipts and their columns.
use Rattle.std.proofs.Common.{◌≡◌, ℕ, zero, suc, ◌/◌, ◌%◌, ◌<◌, List, [], ◌∷◌, ◌++◌, Some, drop, length, refl, sym, subst, ap, ◌∙◌, arith}
use Rattle.std.specs.Prelude.{slice_get, slice_index}
use Rattle.run_journal.specs.declared.entry.Receipt.{Receipt}
use Rattle.run_journal.specs.ReceiptColumns.{Quarters, behind, receipts_in, tag_at}

-- an index in a column without its first number
later : (xs : List ℕ) (i : ℕ) → slice_index (drop 1 xs) i ≡ slice_index xs (suc i)
later [] i = refl
later (x ∷ xs) i = refl

-- the same for tags
tag_behind : (q : Quarters) (i : ℕ) → tag_at (behind q) i ≡ tag_at q (suc i)
tag_behind q i = rw (later q.first i, later q.second i, later q.third i, later q.fourth i) refl

-- there are as many receipts as pages
pub receipts_count : (pages : List ℕ) (q : Quarters) → length (receipts_in pages q) ≡ length pages
receipts_count [] q = refl
receipts_count (page ∷ pages) q = ap suc (receipts_count pages (behind q))

-- the receipt with an index has the numbers with this index
pub receipt_at : (pages : List ℕ) (q : Quarters) (i : ℕ) → i < length pages → slice_get (receipts_in pages q) i ≡ Some (record { page = slice_index pages i; tag = tag_at q i })
receipt_at [] q i below = absurd (omega (arith, below))
receipt_at (page ∷ pages) q zero below = refl
receipt_at (page ∷ pages) q (suc i) below =
    receipt_at pages (behind q) i (omega (arith, below)) ∙ ap (λ tag. Some (record { page = slice_index pages i; tag = tag })) (tag_behind q i)

-- one receipt more, behind the others, whose tags are as before
receipts_more : (pages : List ℕ) (q next : Quarters) (page tag : ℕ) → ((i : ℕ) → i < length pages → tag_at next i ≡ tag_at q i) → tag_at next (length pages) ≡ tag
    → receipts_in (pages ++ page ∷ []) next ≡ receipts_in pages q ++ record { page = page; tag = tag } ∷ []
receipts_more [] q next page tag others here = ap (λ t. record { page = page; tag = t } ∷ []) here
receipts_more (p ∷ pages) q next page tag others here =
    let first : Receipt = record { page = p; tag = tag_at q 0 } in
    ap (λ t. record { page = p; tag = t } ∷ receipts_in (pages ++ page ∷ []) (behind next)) (others 0 (omega arith))
    ∙ ap (λ rs. first ∷ rs)
    (receipts_more pages (behind q) (behind next) page tag
    (λ i below. tag_behind next i ∙ others (suc i) (omega (arith, below)) ∙ sym (tag_behind q i))
    (tag_behind next (length pages) ∙ here))

-- a column with a number at an index, and the numbers before it as they were
pub record IsKept (old new : List ℕ) (at quarter : ℕ) : Type 0 where
  pub here : slice_index new at ≡ quarter
  pub others : (i : ℕ) → i < at → slice_index new i ≡ slice_index old i

-- the same from its parts, where the index has another name
pub kept_at : (old new : List ℕ) (n at quarter : ℕ) → n ≡ at → slice_index new n ≡ quarter → ((i : ℕ) → i < n → slice_index new i ≡ slice_index old i) → IsKept old new at quarter
kept_at old new n at quarter is here others = subst (λ (k : ℕ). IsKept old new k quarter) is (record { here = here; others = others })

-- a number is kept behind the others
kept_behind : (xs : List ℕ) (x : ℕ) → IsKept xs (xs ++ x ∷ []) (length xs) x
kept_behind xs x = record { here = here xs; others = others xs }
  where
    here : (xs : List ℕ) → slice_index (xs ++ x ∷ []) (length xs) ≡ x
    here [] = refl
    here (y ∷ xs) = here xs

    others : (xs : List ℕ) (i : ℕ) → i < length xs → slice_index (xs ++ x ∷ []) i ≡ slice_index xs i
    others [] i below = absurd (omega (arith, below))
    others (y ∷ xs) zero below = refl
    others (y ∷ xs) (suc i) below = others xs i (omega (arith, below))

-- a number is pushed
pub kept_pushed : (old new : List ℕ) (at x : ℕ) → length old ≡ at → new ≡ old ++ x ∷ [] → IsKept old new at x
kept_pushed old new at x is items = subst (λ (k : ℕ). IsKept old new k x) is (subst (λ (xs : List ℕ). IsKept old xs (length old) x) (sym items) (kept_behind old x))

-- the quarters of a tag are kept at an index
pub record AreKept (q next : Quarters) (at tag : ℕ) : Type 0 where
  pub first : IsKept q.first next.first at (tag % 4294967296 % 65536)
  pub second : IsKept q.second next.second at (tag % 4294967296 / 65536)
  pub third : IsKept q.third next.third at (tag / 4294967296 % 65536)
  pub fourth : IsKept q.fourth next.fourth at (tag / 4294967296 / 65536)

-- a receipt is put behind the others
pub receipt_put : (pages : List ℕ) (q next : Quarters) (r : Receipt) → AreKept q next (length pages) r.tag → receipts_in (pages ++ r.page ∷ []) next ≡ receipts_in pages q ++ r ∷ []
receipt_put pages q next r kept =
    receipts_more pages q next r.page r.tag
    (λ i below. rw (kept.first.others i below, kept.second.others i below, kept.third.others i below, kept.fourth.others i below) refl)
    (rw (kept.first.here, kept.second.here, kept.third.here, kept.fourth.here) (omega arith))
