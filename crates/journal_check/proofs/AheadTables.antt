-- Tables by page and by receipt, which passes set.
use Rattle.std.proofs.Common.{◌≡◌, ◌⊎◌, inl, inr, ℕ, zero, suc, ◌+◌, ◌≤◌, ◌<◌, ◌==◌, ◌&&◌, ◌||◌, Bool, true, false, List, [], ◌∷◌, length, get_or, refl, sym, ap, subst, ◌∙◌, arith}
use Rattle.std.proofs.lemmas.Bool.{cases_eq, cases_lt}
use Rattle.std.proofs.lemmas.Bool.Decides.{nat_tests}
use Rattle.std.proofs.lemmas.List.{get_or-map, get_or-set_other, length-map, length-replicate, length-set}
use Rattle.std.proofs.lemmas.List.FromFn.{fill_by_all}
use Rattle.std.proofs.lemmas.Grind.{get_or-set_at}
use Rattle.std.specs.Prelude.{◌≢◌, All, if◌then◌else◌, slice_get, slice_set, Some, replicate}
use Rattle.damon_types.proofs.Lemmas.{or_false}
use Rattle.run_journal.specs.declared.entry.Receipt.{Receipt}
use Rattle.journal_check.specs.Ahead.{AreNamedEarly, IsAhead, IsUnset, NamesMore, is_picked, named_by_none}
use Rattle.journal_check.specs.TagChains.{IsNextOf}

-- ---- tables that a loop sets

-- the entry at an index after one entry was set
set_at : (table : List Bool) (p page : ℕ) (v : Bool) → p < length table → get_or (slice_set table p v) page false ≡ (if p == page then v else get_or table page false)
set_at table p page v within = by (p == page) refl
  where
    by : (same : Bool) → (p == page) ≡ same → get_or (slice_set table p v) page false ≡ (if same then v else get_or table page false)
    by true same = let is : page ≡ p = grind (arith, nat_tests, same) in get_or-set_at table p page v false is within
    by false same = let other : page ≢ p = λ is. absurd (grind (arith, nat_tests, same, is)) in get_or-set_other table p page v false other

-- What a loop keeps of a table whose entries at some pages it sets: when those that are left are set too, they are those that were
-- wanted.
pub record SetsLeft (pages : List ℕ) (v : Bool) (before now : List Bool) (left : List ℕ) : Type 0 where
  pub each : (page : ℕ) → page < length before → (if is_picked left page then v else get_or now page false) ≡ (if is_picked pages page then v else get_or before page false)
  pub len : length now ≡ length before

-- one is set
pub sets_next : (pages : List ℕ) (v : Bool) (before now : List Bool) (p : ℕ) (left : List ℕ) → p < length now → SetsLeft pages v before now (p ∷ left) → SetsLeft pages v before (slice_set now p v) left
sets_next pages v before now p left within sets = record {
  each = λ page below.
      ap (λ b. if is_picked left page then v else b) (set_at now p page v within) ∙ (set_first (p == page) (is_picked left page) (get_or now page false) ∙ sets.each page below);
  len = length-set now p v ∙ sets.len;
}
  where
    set_first : (b rest now : Bool) → (if rest then v else (if b then v else now)) ≡ (if b || rest then v else now)
    set_first true true now = refl
    set_first true false now = refl
    set_first false rest now = refl

-- an element by its index
pub got : {X : Type 0} (xs : List X) (i : ℕ) (x d : X) → slice_get xs i ≡ Some x → get_or xs i d ≡ x
got [] i x d is = absurd cc
got (y ∷ ys) zero x d is = cc
got (y ∷ ys) (suc i) x d is = got ys i x d is

-- ---- which receipts a pass names

-- What a loop over the receipts with the number of a pass keeps of their names: those before an index are named where they are due,
-- and the others are as they were.
pub record NamesSo (pass : ℕ) (xs : List (ℕ × Receipt)) (marked before now : List Bool) (index : ℕ) : Type 0 where
  pub done : (i : ℕ) (d : ℕ × Receipt) → i < length xs → i < index → get_or now i false ≡ (get_or before i false || ((pass == (get_or xs i d).1.tag) && get_or marked (get_or xs i d).1.page false))
  pub left : (i : ℕ) → index ≤ i → get_or now i false ≡ get_or before i false
  pub len : length now ≡ length before

-- a receipt with another tag is not named
not_named : (pass : ℕ) (r : Receipt) (was due : Bool) → r.tag ≢ pass → was ≡ (was || ((pass == r.tag) && due))
not_named pass r was due apart =
    let other : (pass == r.tag) ≡ false = grind (arith, nat_tests, apart) in
    sym (ap (λ b. was || (b && due)) other ∙ or_false was)

-- none is named before the first one with the tag
pub names_first : (pass : ℕ) (xs : List (ℕ × Receipt)) (marked before : List Bool) (index : ℕ) → IsNextOf pass xs 0 index → NamesSo pass xs marked before before index
names_first pass xs marked before index next = record {
  done = λ i d below early. not_named pass (get_or xs i d).1 (get_or before i false) (get_or marked (get_or xs i d).1.page false) (next.none i d (omega arith) early);
  left = λ i from. refl;
  len = refl;
}

-- one is named
pub names_next : (pass : ℕ) (xs : List (ℕ × Receipt)) (marked before now : List Bool) (k to : ℕ) (hit : Bool) → k < length now → ((d : ℕ × Receipt) → hit ≡ get_or marked (get_or xs k d).1.page false) → ((d : ℕ × Receipt) → (get_or xs k d).1.tag ≡ pass)
    → IsNextOf pass xs (k + 1) to → NamesSo pass xs marked before now k → NamesSo pass xs marked before (slice_set now k (get_or now k false || hit)) to
names_next pass xs marked before now k to hit within hit_is own next so = record {
  done = λ i d below early. by i d below early (cases_eq i k);
  left = λ i from.
      let apart : i ≢ k = λ is. absurd (omega (arith, is, from, next.later)) in
      get_or-set_other now k i (get_or now k false || hit) false apart ∙ so.left i (omega (arith, from, next.later));
  len = length-set now k (get_or now k false || hit) ∙ so.len;
}
  where
    by : (i : ℕ) (d : ℕ × Receipt) → i < length xs → i < to → (i ≡ k) ⊎ (i ≢ k)
        → get_or (slice_set now k (get_or now k false || hit)) i false ≡ (get_or before i false || ((pass == (get_or xs i d).1.tag) && get_or marked (get_or xs i d).1.page false))
    by i d below early (inl is) =
        let test : (pass == (get_or xs k d).1.tag) ≡ true = grind (arith, nat_tests, own d) in
        get_or-set_at now k i (get_or now k false || hit) false is within
        ∙ (ap (λ b. b || hit) (so.left k (omega arith))
        ∙ (ap (λ b. get_or before k false || b) (hit_is d ∙ ap (λ b. b && get_or marked (get_or xs k d).1.page false) (sym test))
        ∙ ap (λ j. get_or before j false || ((pass == (get_or xs j d).1.tag) && get_or marked (get_or xs j d).1.page false)) (sym is)))
    by i d below early (inr apart) = get_or-set_other now k i (get_or now k false || hit) false apart ∙ on (cases_lt i k)
      where
        on : (i < k) ⊎ (k ≤ i) → get_or now i false ≡ (get_or before i false || ((pass == (get_or xs i d).1.tag) && get_or marked (get_or xs i d).1.page false))
        on (inl before_it) = so.done i d below before_it
        on (inr after_it) =
            so.left i after_it ∙ not_named pass (get_or xs i d).1 (get_or before i false) (get_or marked (get_or xs i d).1.page false) (next.none i d (omega (arith, after_it, apart)) early)

-- a pass of which no receipt has the number names none
pub names_none : (pass : ℕ) (picks : List ℕ) (xs : List (ℕ × Receipt)) (named : List Bool) → IsNextOf pass xs 0 (length xs) → NamesMore pass picks xs named named
names_none pass picks xs named next = λ i d below. not_named pass (get_or xs i d).1 (get_or named i false) (is_picked picks (get_or xs i d).1.page) (next.none i d (omega arith) below)

-- ---- which receipts name no pass

-- What a loop over receipts keeps of those before an index: whether each names no pass.
pub record NamesBefore (xs : List (ℕ × Receipt)) (named : List Bool) (index : ℕ) : Type 0 where
  pub each : (i : ℕ) (d : ℕ × Receipt) → i < index → get_or named i false ≡ ((get_or xs i d).1.tag == 0)
  pub len : length named ≡ length xs

-- one more is told
pub told_next : (xs : List (ℕ × Receipt)) (named : List Bool) (index : ℕ) (told : Bool) → index < length xs → ((d : ℕ × Receipt) → told ≡ ((get_or xs index d).1.tag == 0))
    → NamesBefore xs named index → NamesBefore xs (slice_set named index told) (index + 1)
told_next xs named index told below is before = record {
  each = λ i d early. set_at named index i told (omega (arith, below, before.len)) ∙ by i d early (index == i) refl;
  len = length-set named index told ∙ before.len;
}
  where
    by : (i : ℕ) (d : ℕ × Receipt) → i < index + 1 → (same : Bool) → (index == i) ≡ same → (if same then told else get_or named i false) ≡ ((get_or xs i d).1.tag == 0)
    by i d early true same =
        let here : index ≡ i = grind (arith, nat_tests, same) in
        is d ∙ ap (λ j. (get_or xs j d).1.tag == 0) here
    by i d early false same =
        let apart : i ≢ index = λ here. absurd (grind (arith, nat_tests, same, here)) in
        before.each i d (omega (arith, early, apart))

-- all are told
pub told_all : (xs : List (ℕ × Receipt)) (named : List Bool) (index : ℕ) → length xs ≤ index → NamesBefore xs named index → named ≡ named_by_none xs
told_all xs named index over before =
    let told : ℕ → Bool = λ i. get_or named i false in
    let first : ℕ × Receipt = (0, record { page = 0; tag = 0 }) in
    fill_by_all told named (length xs) false before.len (λ i below. refl)
    ∙ sym (fill_by_all told (named_by_none xs) (length xs) false (length-map xs (λ (x : ℕ × Receipt). x.1.tag == 0)) (λ i below.
    get_or-map (λ (x : ℕ × Receipt). x.1.tag == 0) xs i first false below ∙ sym (before.each i first (omega (arith, below, over)))))

-- ---- receipts ahead

-- no entry of a list of equal entries is set
unset_list : (n : ℕ) → IsUnset (replicate n false)
unset_list zero page = refl
unset_list (suc n) zero = refl
unset_list (suc n) (suc page) = unset_list n page

-- before the first pass only tag 0 is named
early_at_first : (receipts : List (ℕ × Receipt)) → AreNamedEarly receipts (named_by_none receipts)
early_at_first receipts i d below named =
    let test : ((get_or receipts i d).1.tag == 0) ≡ true = sym (get_or-map (λ (x : ℕ × Receipt). x.1.tag == 0) receipts i d false below) ∙ named in
    let none : (get_or receipts i d).1.tag ≡ 0 = grind (arith, nat_tests, test) in
    omega (arith, none)

-- receipts before the first pass
pub ahead_at_first : (receipts : List (ℕ × Receipt)) (named marked : List Bool) (pages : ℕ) → All (λ x. x.1.page < pages) receipts → named ≡ named_by_none receipts → marked ≡ replicate pages false → IsAhead receipts named marked
ahead_at_first receipts named marked pages within names empty = record {
  count = ap length names ∙ length-map receipts (λ (x : ℕ × Receipt). x.1.tag == 0);
  within = subst (λ n. All (λ x. x.1.page < n) receipts) (sym (ap length empty ∙ length-replicate pages false)) within;
  tags = subst (AreNamedEarly receipts) (sym names) (early_at_first receipts);
  unmarked = λ page. ap (λ (table : List Bool). get_or table page false) empty ∙ unset_list pages page;
}
