-- Which receipts may follow one another: the last one of each page tells it.
use Rattle.std.proofs.Common.{◌≡◌, ℕ, suc, ◌+◌, ◌≤◌, ◌<◌, ◌==◌, ◌&&◌, ◌||◌, not, Bool, true, false, List, [], ◌∷◌, length, drop, get_or, nat_le, nat_lt, refl, sym, ap, ◌∙◌, arith, Some, None}
use Rattle.std.proofs.lemmas.Bool.Decides.{nat_tests}
use Rattle.std.proofs.lemmas.List.{drop_all, drop_more, get_or-map, get_or-replicate, get_or-set_other, get_or-set_same, length-map, length-replicate, length-set}
use Rattle.std.specs.Prelude.{Option, option_map, if◌then◌else◌, ◌≢◌}
use Rattle.std.specs.Prelude.{map, replicate, slice_set}
use Rattle.page_words.specs.declared.view.Entry.{Entry as Step}
use Rattle.damon_control.specs.declared.live.TheConstants.{MAX_WORKERS}
use Rattle.run_journal.specs.declared.entry.Receipt.{Receipt}
use Rattle.journal_check.specs.Ahead.{KeepsLast, first_refused, first_wrong, is_later, last_in, may_come, may_follow, named_by}
use Rattle.journal_text.specs.SeenLine.{is_risen, is_tag, receipts_so_far, with_receipt}
use Rattle.journal_check.proofs.AheadLemmas.{risen_step}
use Rattle.journal_text.proofs.Lemmas.{or_second, count_more}
use Rattle.journal_check.proofs.SeenAfter.{none_yet, own_more}

-- whether a receipt may come next, by what is kept
pub may_by_last : (all : List (List Receipt)) (workers : ℕ) (last : List (ℕ × ℕ)) (worker : ℕ) (r : Receipt) (d : ℕ × ℕ) → KeepsLast all workers last → r.page < length last
    → may_follow all worker r ≡ may_come workers (get_or last r.page d) worker r.tag
may_by_last all workers last worker r d kept below = by (nat_le workers (worker + 1)) refl
  where
    by : (few : Bool) → nat_le workers (worker + 1) ≡ few → may_follow all worker r ≡ may_come workers (get_or last r.page d) worker r.tag
    by true few =
        let less : length all ≤ worker + 1 = grind (arith, nat_tests, few, kept.count) in
        ap (λ n. (nat_le n (worker + 1) && nat_lt worker MAX_WORKERS) && is_risen (receipts_so_far all worker) r) kept.count
        ∙ ap (λ b. (nat_le workers (worker + 1) && nat_lt worker MAX_WORKERS) && b) (kept.rises worker r d below less)
    by false few =
        let all_few : nat_le (length all) (worker + 1) ≡ false = rw kept.count few in
        rw (all_few, few) refl

-- a receipt that may come next has a worker that is the last one or comes after it, and its tag rises
pub may_parts : {G : Type 0} (all : List (List Receipt)) (worker : ℕ) (r : Receipt) → may_follow all worker r ≡ true
    → (length all ≤ worker + 1 → is_risen (receipts_so_far all worker) r ≡ true → G) → G
may_parts {G} all worker r may f = by (nat_le (length all) (worker + 1)) (nat_lt worker MAX_WORKERS) (is_risen (receipts_so_far all worker) r) refl refl may
  where
    by : (few small risen : Bool) → nat_le (length all) (worker + 1) ≡ few → is_risen (receipts_so_far all worker) r ≡ risen → ((few && small) && risen) ≡ true → G
    by true true true few risen e = f (grind (arith, nat_tests, few)) risen
    by true true false few risen e = absurd cc
    by true false risen few is e = absurd cc
    by false small risen few is e = absurd cc

-- before the first receipt 0 is kept of each page
pub keeps_none : (pages : ℕ) → KeepsLast [] 0 (map last_in (replicate pages 0))
keeps_none pages = record {
  count = refl;
  rises = λ worker r d below few.
      let none : ℕ = 0 in
      let zeros = replicate pages none in
      let inside : r.page < pages = omega (arith, below, length-map zeros last_in, length-replicate pages none) in
      let is : get_or (map last_in zeros) r.page d ≡ (0, 0) =
      get_or-map last_in zeros r.page none d (omega (arith, inside, length-replicate pages none))
      ∙ ap last_in (get_or-replicate pages r.page none none inside) in
      let low : nat_le 0 r.tag ≡ true = grind (arith, nat_tests) in
      ap (λ rs. is_risen rs r) (none_yet [] worker (omega arith))
      ∙ sym (ap (λ l. is_later l worker r.tag) is ∙ or_second (not (0 == worker)) (nat_le 0 r.tag) low);
}

-- one more receipt is kept
pub keeps_more : (all : List (List Receipt)) (workers : ℕ) (last : List (ℕ × ℕ)) (worker : ℕ) (r : Receipt) → KeepsLast all workers last → r.page < length last → may_follow all worker r ≡ true
    → KeepsLast (with_receipt all worker r) (worker + 1) (slice_set last r.page (worker, r.tag))
keeps_more all workers last worker r kept below may =
    may_parts all worker r may (λ few risen. record {
      count = count_more all worker r few;
      rises = λ w q d within many. next few risen w q d (omega (arith, within, length-set last r.page (worker, r.tag))) (omega (arith, many, count_more all worker r few)) (w == worker) refl (r.page == q.page) refl;
    })
  where
    later_by : (a b : ℕ × ℕ) (w tag : ℕ) → a ≡ b → is_later a w tag ≡ is_later b w tag
    later_by a b w tag same = ap (λ l. is_later l w tag) same

    next : length all ≤ worker + 1 → is_risen (receipts_so_far all worker) r ≡ true → (w : ℕ) (q : Receipt) (d : ℕ × ℕ) → q.page < length last → worker ≤ w
        → (own : Bool) → (w == worker) ≡ own → (here : Bool) → (r.page == q.page) ≡ here
        → is_risen (receipts_so_far (with_receipt all worker r) w) q ≡ is_later (get_or (slice_set last r.page (worker, r.tag)) q.page d) w q.tag
    next few risen w q d within after true own true here =
        let is : w ≡ worker = grind (arith, nat_tests, own) in
        let page : q.page ≡ r.page = grind (arith, nat_tests, here) in
        let same : (worker == w) ≡ true = grind (arith, nat_tests, is) in
        ap (λ n. is_risen (receipts_so_far (with_receipt all worker r) n) q) is
        ∙ ap (λ rs. is_risen rs q) (own_more all worker r few)
        ∙ risen_step (receipts_so_far all worker) r q risen
        ∙ ap (λ b. if b then nat_le r.tag q.tag else is_risen (receipts_so_far all worker) q) here
        ∙ sym (
        later_by (get_or (slice_set last r.page (worker, r.tag)) q.page d) (worker, r.tag) w q.tag (ap (λ p. get_or (slice_set last r.page (worker, r.tag)) p d) page ∙ get_or-set_same last r.page (worker, r.tag) d below)
        ∙ ap (λ b. not b || nat_le r.tag q.tag) same
        )
    next few risen w q d within after true own false here =
        let is : w ≡ worker = grind (arith, nat_tests, own) in
        let other : q.page ≢ r.page = λ page. absurd (grind (arith, nat_tests, here, page)) in
        ap (λ n. is_risen (receipts_so_far (with_receipt all worker r) n) q) is
        ∙ ap (λ rs. is_risen rs q) (own_more all worker r few)
        ∙ risen_step (receipts_so_far all worker) r q risen
        ∙ ap (λ b. if b then nat_le r.tag q.tag else is_risen (receipts_so_far all worker) q) here
        ∙ ap (λ n. is_risen (receipts_so_far all n) q) (sym is)
        ∙ kept.rises w q d within (omega (arith, few, after))
        ∙ sym (later_by (get_or (slice_set last r.page (worker, r.tag)) q.page d) (get_or last q.page d) w q.tag (get_or-set_other last r.page q.page (worker, r.tag) d other))
    next few risen w q d within after false own true here =
        let more : worker < w = grind (arith, nat_tests, own, after) in
        let page : q.page ≡ r.page = grind (arith, nat_tests, here) in
        let same : (worker == w) ≡ false = grind (arith, nat_tests, more) in
        ap (λ rs. is_risen rs q) (none_yet (with_receipt all worker r) w (omega (arith, more, count_more all worker r few)))
        ∙ sym (
        later_by (get_or (slice_set last r.page (worker, r.tag)) q.page d) (worker, r.tag) w q.tag (ap (λ p. get_or (slice_set last r.page (worker, r.tag)) p d) page ∙ get_or-set_same last r.page (worker, r.tag) d below)
        ∙ ap (λ b. not b || nat_le r.tag q.tag) same
        )
    next few risen w q d within after false own false here =
        let more : worker < w = grind (arith, nat_tests, own, after) in
        let other : q.page ≢ r.page = λ page. absurd (grind (arith, nat_tests, here, page)) in
        ap (λ rs. is_risen rs q) (none_yet (with_receipt all worker r) w (omega (arith, more, count_more all worker r few)) ∙ sym (none_yet all w (omega (arith, more, few))))
        ∙ kept.rises w q d within (omega (arith, few, after))
        ∙ sym (later_by (get_or (slice_set last r.page (worker, r.tag)) q.page d) (get_or last q.page d) w q.tag (get_or-set_other last r.page q.page (worker, r.tag) d other))

-- ---- receipts one after another

-- What is left of receipts is as if those before it were the first: the index of the first wrong one is counted from there.
pub record IsLeft (named : List Bool) (receipts : List (ℕ × Receipt)) (index workers : ℕ) (pages : List (ℕ × ℕ)) : Type 0 where
  pub all : List (List Receipt)
  pub keeps : KeepsLast all workers pages
  pub left : first_wrong named [] receipts ≡ option_map (λ n. index + n) (first_wrong (drop index named) all (drop index receipts))

counted : (o : Option ℕ) → o ≡ option_map (λ n. 0 + n) o
counted None = refl
counted (Some n) = let same : n ≡ 0 + n = omega arith in ap (λ m. Some m) same

-- all are left at first
pub left_first : (named : List Bool) (receipts : List (ℕ × Receipt)) (workers : ℕ) (pages : List (ℕ × ℕ)) → KeepsLast [] workers pages → IsLeft named receipts 0 workers pages
left_first named receipts workers pages keeps = record { all = []; keeps = keeps; left = counted (first_wrong named [] receipts) }

-- whether the first one that is left is wrong
wrong_at : (named : List Bool) (receipts : List (ℕ × Receipt)) (all : List (List Receipt)) (k : ℕ) (d : ℕ × Receipt) → k < length receipts → k < length named
    → first_wrong (drop k named) all (drop k receipts)
    ≡ (if get_or named k false && may_follow all (get_or receipts k d).0 (get_or receipts k d).1 then option_map suc (first_wrong (drop (k + 1) named) (with_receipt all (get_or receipts k d).0 (get_or receipts k d).1) (drop (k + 1) receipts)) else Some 0)
wrong_at named receipts all k d below within =
    ap (λ ns. first_wrong ns all (drop k receipts)) (drop_more named k false within)
    ∙ ap (λ xs. first_wrong (get_or named k false ∷ drop (k + 1) named) all xs) (drop_more receipts k d below)

-- it is the first wrong one
pub wrong_here : (named : List Bool) (receipts : List (ℕ × Receipt)) (workers : ℕ) (pages : List (ℕ × ℕ)) (k : ℕ) (d : ℕ × Receipt) (left : IsLeft named receipts k workers pages) → k < length receipts → k < length named
    → (get_or named k false && may_follow left.all (get_or receipts k d).0 (get_or receipts k d).1) ≡ false → Some k ≡ first_wrong named [] receipts
wrong_here named receipts workers pages k d left below within wrong =
    let same : k ≡ k + 0 = omega arith in
    let rest = option_map suc (first_wrong (drop (k + 1) named) (with_receipt left.all (get_or receipts k d).0 (get_or receipts k d).1) (drop (k + 1) receipts)) in
    ap (λ n. Some n) same
    ∙ sym (left.left ∙ ap (option_map (λ n. k + n)) (wrong_at named receipts left.all k d below within ∙ ap (λ b. if b then rest else Some 0) wrong))

counted_more : (k : ℕ) (o : Option ℕ) → option_map (λ n. k + n) (option_map suc o) ≡ option_map (λ n. (k + 1) + n) o
counted_more k None = refl
counted_more k (Some n) = let same : k + suc n ≡ (k + 1) + n = omega arith in ap (λ m. Some m) same

-- it is right, and those after it are left
pub left_more : (named : List Bool) (receipts : List (ℕ × Receipt)) (workers more : ℕ) (pages next : List (ℕ × ℕ)) (k : ℕ) (d : ℕ × Receipt) (left : IsLeft named receipts k workers pages) → k < length receipts → k < length named
    → (get_or named k false && may_follow left.all (get_or receipts k d).0 (get_or receipts k d).1) ≡ true
    → KeepsLast (with_receipt left.all (get_or receipts k d).0 (get_or receipts k d).1) more next → IsLeft named receipts (k + 1) more next
left_more named receipts workers more pages next k d left below within right keeps =
    let rest = first_wrong (drop (k + 1) named) (with_receipt left.all (get_or receipts k d).0 (get_or receipts k d).1) (drop (k + 1) receipts) in
    record {
      all = with_receipt left.all (get_or receipts k d).0 (get_or receipts k d).1;
      keeps = keeps;
      left = left.left
          ∙ ap (option_map (λ n. k + n)) (wrong_at named receipts left.all k d below within ∙ ap (λ b. if b then option_map suc rest else Some 0) right)
          ∙ counted_more k rest;
    }

-- none is wrong where none is left
pub left_none : (named : List Bool) (receipts : List (ℕ × Receipt)) (workers : ℕ) (pages : List (ℕ × ℕ)) (k : ℕ) → IsLeft named receipts k workers pages → length receipts ≤ k → None ≡ first_wrong named [] receipts
left_none named receipts workers pages k left few =
    sym (left.left ∙ ap (option_map (λ n. k + n)) (ap (λ xs. first_wrong (drop k named) left.all xs) (drop_all k receipts few) ∙ none_left (drop k named) left.all))
  where
    none_left : (ns : List Bool) (all : List (List Receipt)) → first_wrong ns all [] ≡ None
    none_left [] all = refl
    none_left (n ∷ ns) all = refl

-- ---- what is refused

regroup : (name few small risen : Bool) → (name && ((few && small) && risen)) ≡ ((few && small) && (name && risen))
regroup true few small risen = refl
regroup false true true risen = refl
regroup false true false risen = refl
regroup false false small risen = refl

-- where the names are those of the steps, the first wrong receipt is the one that is refused
pub wrong_is_refused : (done : List Step) (all : List (List Receipt)) (xs : List (ℕ × Receipt)) → first_wrong (named_by done xs) all xs ≡ first_refused done all xs
wrong_is_refused done all [] = refl
wrong_is_refused done all (x ∷ xs) =
    ap (λ o. if is_tag done x.1.page x.1.tag && may_follow all x.0 x.1 then option_map suc o else Some 0) (wrong_is_refused done (with_receipt all x.0 x.1) xs)
    ∙ ap (λ b. if b then option_map suc (first_refused done (with_receipt all x.0 x.1) xs) else Some 0)
    (regroup (is_tag done x.1.page x.1.tag) (nat_le (length all) (x.0 + 1)) (nat_lt x.0 MAX_WORKERS) (is_risen (receipts_so_far all x.0) x.1))
