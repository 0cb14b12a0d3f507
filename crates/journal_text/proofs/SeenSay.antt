-- Receipts that are read one after another are by the rules.
use Rattle.std.proofs.Common.{◌≡◌, ◌⊎◌, ⊎_elim, ℕ, zero, suc, ◌+◌, ◌-◌, ◌*◌, ◌/◌, ◌%◌, ◌≤◌, ◌<◌, ◌&&◌, ◌||◌, not, Bool, true, false, List, [], ◌∷◌, ◌++◌, length, nat_le, nat_lt, sym, ap, ◌∙◌, subst, refl, append_assoc, length-append, arith}
use Rattle.std.proofs.lemmas.Bool.Decides.{Decides-and, Decides-at, Decides-by_and, Decides-by_or, Decides-eqb, Decides-like, Decides-ltb, Decides-or, nat_tests}
use Rattle.std.proofs.lemmas.List.{length-replicate, map-append}
use Rattle.std.proofs.lemmas.List.Elements.{All-contains, All-contains_itself, All-replicate, Contains-push_cases, Decides-contains, recursion_from_All}
use Rattle.std.proofs.lemmas.List.Folds.{list_all-map}
use Rattle.std.proofs.lemmas.List.Quantifiers.{all_pairs_push}
use Rattle.std.specs.Prelude.{◌==◌, All, replicate, slice_index_or}
use Rattle.std.specs.Bool.{Decides}
use Rattle.std.specs.List.{AllByRecursion, AllPairs, Contains, list_all, list_any}
use Rattle.page_words.specs.declared.view.Entry.{Entry as Step}
use Rattle.page_words.specs.declared.view.Entry.TheVariants.{Clear, Load, Gathered}
use Rattle.page_words.specs.declared.view.Touch.{Touch}
use Rattle.page_words.specs.Clauses.{TagsNameClears}
use Rattle.page_words.specs.Clears.{IsOdd, clear_passes_of, pass_of}
use Rattle.page_words.specs.Views.{TagsRise, touch}
use Rattle.damon_control.specs.declared.live.TheConstants.{MAX_WORKERS}
use Rattle.run_journal.specs.declared.entry.Receipt.{Receipt}
use Rattle.run_journal.specs.Growth.{added_to}
use Rattle.run_journal.specs.Lawful.{AreReceipts, Received, all_of, touches_of}
use Rattle.journal_text.specs.SeenLine.{has_receipt, is_receipt, is_risen, is_tag, may_be_seen, receipts_so_far, was_cleared, with_receipt}
use Rattle.journal_text.proofs.Common.{both_all}

-- receipts so far are by the rules, but for those of hits, which may still come
pub record AreSeen (pages : ℕ) (done : List Step) (all : List (List Receipt)) : Type 0 where
  pub within : AllByRecursion (λ r. r.page < pages) (all_of all)
  pub rise : AllByRecursion (λ rs. TagsRise (touches_of rs)) all
  pub name : TagsNameClears done (Received all)

-- no receipt yet
pub none_seen : (pages : ℕ) (done : List Step) → AreSeen pages done []
none_seen pages done = record { within = tt; rise = tt; name = λ page tag has. absurd (omega (arith, has.1)) }

-- ---- all receipts in order

-- workers without receipts add none
pub padded_all : (n : ℕ) (all : List (List Receipt)) → all_of (all ++ replicate n []) ≡ all_of all
padded_all n (rs ∷ all) = ap (λ l. rs ++ l) (padded_all n all)
padded_all zero [] = refl
padded_all (suc n) [] = padded_all n []

-- one more receipt of the last worker is the last of all
added_all : (w : ℕ) (r : Receipt) (lists : List (List Receipt)) → length lists ≡ w + 1 → all_of (added_to w r lists) ≡ all_of lists ++ r ∷ []
added_all w r [] count = absurd (omega (arith, count))
added_all zero r (rs ∷ []) count = append_assoc rs (r ∷ []) [] ∙ sym (append_assoc rs [] (r ∷ []))
added_all zero r (rs ∷ l ∷ lists) count = absurd (omega (arith, count))
added_all (suc w) r (rs ∷ lists) count = ap (λ l. rs ++ l) (added_all w r lists (omega (arith, count))) ∙ sym (append_assoc rs (all_of lists) (r ∷ []))

-- the number of workers after a receipt of this one
pub count_padded : (all : List (List Receipt)) (w : ℕ) → length all ≤ w + 1 → length (all ++ replicate (w + 1 - length all) []) ≡ w + 1
count_padded all w few =
    let none : List Receipt = [] in
    omega (arith, length-append all (replicate (w + 1 - length all) none), length-replicate (w + 1 - length all) none, few)

length_added : (w : ℕ) (r : Receipt) (lists : List (List Receipt)) → length (added_to w r lists) ≡ length lists
length_added w r [] = refl
length_added zero r (rs ∷ lists) = refl
length_added (suc w) r (rs ∷ lists) = ap suc (length_added w r lists)

-- the workers with a list are those up to this one
pub count_more : (all : List (List Receipt)) (w : ℕ) (r : Receipt) → length all ≤ w + 1 → length (with_receipt all w r) ≡ w + 1
count_more all w r few = length_added w r (all ++ replicate (w + 1 - length all) []) ∙ count_padded all w few

-- one more receipt is the last of all
pub all_more : (all : List (List Receipt)) (w : ℕ) (r : Receipt) → length all ≤ w + 1 → all_of (with_receipt all w r) ≡ all_of all ++ r ∷ []
all_more all w r few =
    added_all w r (all ++ replicate (w + 1 - length all) []) (count_padded all w few)
    ∙ ap (λ l. l ++ r ∷ []) (padded_all (w + 1 - length all) all)

-- ---- the tests of receipts

-- a test, or else another one where the first fails
unless_decides : {P Q : Type 0} (b c : Bool) → (b ≡ true → Q → ⊥) → (b ≡ false → Q) → Decides c P → Decides (b || c) (Q → P)
unless_decides true c never where_not own = (λ e given. absurd (never refl given), λ has. refl)
unless_decides false c never where_not own = (λ e given. own.0 e, λ has. own.1 (has (where_not refl)))

-- a tag passes exactly if it is 0 or the number of a pass that cleared the page
pub tag_decides : (done : List Step) (page tag : ℕ) → Decides (is_tag done page tag) ((tag ≡ 0) ⊎ Contains (clear_passes_of page done) tag)
tag_decides done page tag =
    let passes = clear_passes_of page done in
    Decides-or (tag == 0) (was_cleared done page tag) (Decides-eqb tag 0)
    (Decides-contains passes tag (was_cleared done page tag) (Decides-by_or (λ m. m == tag) (λ m. m ≡ tag) (list_any (λ m. m == tag)) (λ m. Decides-eqb m tag) refl (λ m ms. refl) passes))

-- the tag of one touch is not above that of another of its page
abbrev pub Rises : Touch → Touch → Type 0
Rises t u = t.page ≡ u.page → t.tag ≤ u.tag

-- receipts pass exactly if no touch of theirs is above this one
pub risen_decides : (rs : List Receipt) (r : Receipt) → Decides (is_risen rs r) (All (λ t. Rises t (touch r.page r.tag)) (touches_of rs))
risen_decides rs r =
    let test : Touch → Bool = λ t. not (t.page == r.page) || nat_le t.tag r.tag in
    Decides-at (is_risen rs r) (list_all test (touches_of rs)) (sym (list_all-map test (λ q. touch q.page q.tag) rs))
    (Decides-by_and test (λ t. Rises t (touch r.page r.tag)) (list_all test) (λ t. below t.page t.tag r.page r.tag) refl (λ t ts. refl) (touches_of rs))
  where
    below : (p t q u : ℕ) → Decides (not (p == q) || nat_le t u) (p ≡ q → t ≤ u)
    below p t q u = unless_decides (not (p == q)) (nat_le t u) (λ other same. grind (arith, nat_tests)) (λ one. grind (arith, nat_tests)) (λ e. grind (arith, nat_tests), λ le. grind (arith, nat_tests))

-- a receipt of this page with this tag is found exactly if it was received
receipt_decides : (page tag : ℕ) (rs : List Receipt) → Decides (list_any (is_receipt page tag) rs) (Contains (touches_of rs) (touch page tag))
receipt_decides page tag rs =
    let test : Touch → Bool = λ t. (t.page == page) && (t.tag == tag) in
    let each : (t : Touch) → Decides (test t) (t ≡ touch page tag) =
    λ t. Decides-like (test t) (λ both i. touch (both.0 i) (both.1 i)) (λ is. (ap (λ (u : Touch). u.page) is, ap (λ (u : Touch). u.tag) is))
    (Decides-and (t.page == page) (t.tag == tag) (Decides-eqb t.page page) (Decides-eqb t.tag tag))
    in
    Decides-at (list_any (is_receipt page tag) rs) (list_any test (touches_of rs)) (same rs)
    (Decides-contains (touches_of rs) (touch page tag) (list_any test (touches_of rs)) (Decides-by_or test (λ t. t ≡ touch page tag) (list_any test) each refl (λ t ts. refl) (touches_of rs)))
  where
    same : (qs : List Receipt) → list_any (is_receipt page tag) qs ≡ list_any (λ (t : Touch). (t.page == page) && (t.tag == tag)) (touches_of qs)
    same [] = refl
    same (q ∷ qs) = ap (λ b. is_receipt page tag q || b) (same qs)

-- a load that was a hit has a receipt
abbrev HasReceipt : List (List Receipt) → Step → Type 0
HasReceipt all (Load page word) = IsOdd word → Received all page (pass_of word)
HasReceipt all _ = Unit {0}

step_decides : (all : List (List Receipt)) (s : Step) → Decides (has_receipt (all_of all) s) (HasReceipt all s)
step_decides all (Clear page pass) = (λ e. tt, λ has. refl)
step_decides all (Gathered worker touches) = (λ e. tt, λ has. refl)
step_decides all (Load page word) =
    unless_decides (word == 2 * pass_of word) (list_any (is_receipt page (pass_of word)) (all_of all)) (even word) (odd word) (receipt_decides page (pass_of word) (all_of all))
  where
    even : (n : ℕ) → (n == 2 * (n / 2)) ≡ true → n % 2 ≡ 1 → ⊥
    even n is one = let same : n ≡ 2 * (n / 2) = grind (arith, nat_tests, is) in omega (arith, same, one)

    odd : (n : ℕ) → (n == 2 * (n / 2)) ≡ false → n % 2 ≡ 1
    odd n is = grind (arith, nat_tests)

-- each hit has one
abbrev pub HaveReceipts : List Step → List (List Receipt) → Type 0
HaveReceipts done all = (page word : ℕ) → Contains done (Load page word) → IsOdd word → Received all page (pass_of word)

-- all steps pass exactly then
pub hits_decide : (done : List Step) (all : List (List Receipt)) → Decides (list_all (has_receipt (all_of all)) done) (HaveReceipts done all)
hits_decide done all =
    let test = has_receipt (all_of all) in
    Decides-like (list_all test done)
    (λ each page word has. All-contains (HasReceipt all) done (Load page word) each has)
    (λ hits k d below. step hits (slice_index_or done k d) (All-contains_itself done k d below))
    (Decides-by_and test (HasReceipt all) (list_all test) (step_decides all) refl (λ s ss. refl) done)
  where
    step : HaveReceipts done all → (s : Step) → Contains done s → HasReceipt all s
    step hits (Load page word) has = hits page word has
    step hits (Clear page pass) has = tt
    step hits (Gathered worker touches) has = tt

-- what the tests of a receipt ask
abbrev pub MayCome : List Step → List (List Receipt) → ℕ → Receipt → Type 0
MayCome done all w r =
    ((length all ≤ w + 1) × (w < MAX_WORKERS))
    × (((r.tag ≡ 0) ⊎ Contains (clear_passes_of r.page done) r.tag) × All (λ t. Rises t (touch r.page r.tag)) (touches_of (receipts_so_far all w)))

pub may_decides : (done : List Step) (all : List (List Receipt)) (w : ℕ) (r : Receipt) → Decides (may_be_seen done all w r) (MayCome done all w r)
may_decides done all w r =
    Decides-and (nat_le (length all) (w + 1) && nat_lt w MAX_WORKERS) (is_tag done r.page r.tag && is_risen (receipts_so_far all w) r)
    (Decides-and (nat_le (length all) (w + 1)) (nat_lt w MAX_WORKERS) (λ e. grind (arith, nat_tests), λ few. grind (arith, nat_tests)) (Decides-ltb w MAX_WORKERS))
    (Decides-and (is_tag done r.page r.tag) (is_risen (receipts_so_far all w) r) (tag_decides done r.page r.tag) (risen_decides (receipts_so_far all w) r))

-- ---- one receipt more

-- the tags of each worker rise
abbrev EachRises : List (List Receipt) → Type 0
EachRises all = AllByRecursion (λ rs. TagsRise (touches_of rs)) all

-- and so do those of all workers, if one of them has one more that no receipt of its is above
added_rise : (w : ℕ) (r : Receipt) (lists : List (List Receipt)) → w < length lists → All (λ t. Rises t (touch r.page r.tag)) (touches_of (slice_index_or lists w [])) → EachRises lists → EachRises (added_to w r lists)
added_rise w r [] below risen each = absurd (omega (arith, below))
added_rise zero r (rs ∷ lists) below risen each =
    (subst (λ l. AllPairs Rises l) (sym (map-append (λ q. touch q.page q.tag) rs (r ∷ []))) (all_pairs_push Rises (touches_of rs) (touch r.page r.tag) each.0 risen), each.1)
added_rise (suc w) r (rs ∷ lists) below risen each = (each.0, added_rise w r lists (omega (arith, below)) risen each.1)

-- a worker has the same receipts where others without any stand behind
pub padded_at : (all : List (List Receipt)) (n w : ℕ) → slice_index_or (all ++ replicate n []) w [] ≡ slice_index_or all w []
padded_at (rs ∷ all) n zero = refl
padded_at (rs ∷ all) n (suc w) = padded_at all n w
padded_at [] zero w = refl
padded_at [] (suc n) zero = refl
padded_at [] (suc n) (suc w) = padded_at [] n w

-- one receipt more
pub seen_added : (pages : ℕ) (done : List Step) (all : List (List Receipt)) (w : ℕ) (r : Receipt) → AreSeen pages done all → r.page < pages → MayCome done all w r → AreSeen pages done (with_receipt all w r)
seen_added pages done all w r before within may =
    let few = may.0.0 in
    let n = w + 1 - length all in
    let each = λ (rs : List Receipt). TagsRise (touches_of rs) in
    let none : All each (replicate n []) = All-replicate each n [] (λ i k d less below. absurd (omega (arith, below))) in
    record {
      within = subst (λ rs. AllByRecursion (λ q. q.page < pages) rs) (sym (all_more all w r few)) (both_all (λ q. q.page < pages) (all_of all) (r ∷ []) before.within (within, tt));
      rise = added_rise w r (all ++ replicate n []) (omega (arith, count_padded all w few))
          (subst (λ rs. All (λ t. Rises t (touch r.page r.tag)) (touches_of rs)) (sym (padded_at all n w)) may.1.1)
          (both_all each all (replicate n []) before.rise (recursion_from_All each (replicate n []) none));
      name = λ page t has. ⊎_elim
          (before.name page t)
          (λ same. subst (λ (u : Touch). (u.tag ≡ 0) ⊎ Contains (clear_passes_of u.page done) u.tag) same may.1.0)
          (Contains-push_cases (touches_of (all_of all)) (touch r.page r.tag) (touch page t)
          (subst (λ l. Contains l (touch page t)) (ap touches_of (all_more all w r few) ∙ map-append (λ q. touch q.page q.tag) (all_of all) (r ∷ [])) has));
    }

-- the receipts of a whole text
pub all_seen : (pages : ℕ) (done : List Step) (all : List (List Receipt)) → AreSeen pages done all → list_all (has_receipt (all_of all)) done ≡ true → AreReceipts pages done all
all_seen pages done all before hits = record { within = before.within; hits = (hits_decide done all).0 hits; rise = before.rise; name = before.name }
