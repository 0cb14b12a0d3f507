-- Receipts of each worker, with one more.
use Rattle.std.proofs.Common.{◌≡◌, ℕ, zero, suc, ◌+◌, ◌-◌, ◌≤◌, ◌<◌, ◌&&◌, Bool, true, false, List, [], ◌∷◌, ◌++◌, length, nat_le, nat_lt, refl, ap, ◌∙◌, arith}
use Rattle.std.proofs.lemmas.Bool.Decides.{nat_tests}
use Rattle.std.specs.Prelude.{replicate, slice_index_or}
use Rattle.page_words.specs.declared.view.Entry.{Entry as Step}
use Rattle.damon_control.specs.declared.live.TheConstants.{MAX_WORKERS}
use Rattle.run_journal.specs.declared.entry.Receipt.{Receipt}
use Rattle.run_journal.specs.Growth.{added_to}
use Rattle.journal_text.specs.SeenLine.{is_risen, is_tag, may_be_seen, receipts_so_far, with_receipt}
use Rattle.journal_text.proofs.Lemmas.{count_padded}

-- what makes a receipt pass
pub seen_few : (done : List Step) (all : List (List Receipt)) (w : ℕ) (r : Receipt) → may_be_seen done all w r ≡ true → length all ≤ w + 1
seen_few done all w r may = by (nat_le (length all) (w + 1)) refl may
  where
    by : (few : Bool) → nat_le (length all) (w + 1) ≡ few → ((few && nat_lt w MAX_WORKERS) && (is_tag done r.page r.tag && is_risen (receipts_so_far all w) r)) ≡ true → length all ≤ w + 1
    by true few e = grind (arith, nat_tests, few)
    by false few e = absurd cc

-- ---- the receipts of one worker

padded_at : (all : List (List Receipt)) (n w : ℕ) → slice_index_or (all ++ replicate n []) w [] ≡ slice_index_or all w []
padded_at (rs ∷ all) n zero = refl
padded_at (rs ∷ all) n (suc w) = padded_at all n w
padded_at [] zero w = refl
padded_at [] (suc n) zero = refl
padded_at [] (suc n) (suc w) = padded_at [] n w

added_at : (w : ℕ) (r : Receipt) (lists : List (List Receipt)) → w < length lists → slice_index_or (added_to w r lists) w [] ≡ slice_index_or lists w [] ++ r ∷ []
added_at w r [] below = absurd (omega (arith, below))
added_at zero r (rs ∷ lists) below = refl
added_at (suc w) r (rs ∷ lists) below = added_at w r lists (omega (arith, below))

-- the worker has one more
pub own_more : (all : List (List Receipt)) (w : ℕ) (r : Receipt) → length all ≤ w + 1
    → receipts_so_far (with_receipt all w r) w ≡ receipts_so_far all w ++ r ∷ []
own_more all w r few =
    added_at w r (all ++ replicate (w + 1 - length all) []) (omega (arith, count_padded all w few))
    ∙ ap (λ rs. rs ++ r ∷ []) (padded_at all (w + 1 - length all) w)

-- a worker that has not come yet has none
pub none_yet : (all : List (List Receipt)) (w : ℕ) → length all ≤ w → receipts_so_far all w ≡ []
none_yet [] w few = refl
none_yet (rs ∷ all) zero few = absurd (omega (arith, few))
none_yet (rs ∷ all) (suc w) few = none_yet all w (omega (arith, few))
