-- Runs of pages that go out and come back.
use Rattle.std.proofs.Common.{◌≡◌, inl, inr, ℕ, ◌+◌, ◌≤◌, ◌<◌, Bool, true, false, cond, not, ◌&&◌, List, [], ◌∷◌, map, length, set, length-set, get_or-set_same, get_or-set_other, refl, sym, ap, subst, ◌∙◌, arith}
use Rattle.std.specs.Prelude.{count_by, slice_set, if◌then◌else◌}
use Rattle.std.specs.List.{range_with_len}
use Rattle.std.proofs.lemmas.Bool.{cases_eq}
use Rattle.std.proofs.lemmas.Bool.Decides.{nat_tests}
use Rattle.std.proofs.lemmas.List.FromFn.{fill_by_all, get_or-map-range_with_len, length-map-range_with_len, length-range_with_len}
use Rattle.std.proofs.lemmas.List.Sums.{count_by-le-length, sum_by-cons, sum_by-set}
use Rattle.page_bits.specs.Runs.{count_pages, in_run}
use Rattle.page_bits.specs.Sets.{each_page, with_run}
use Rattle.page_bits.proofs.Lemmas.{count_adds}
use Rattle.reclaim_module.specs.Pages.{is_out_in, out_count}

-- a page of a list of which each is computed
pub at_page : (n : ℕ) (f : ℕ → Bool) (p : ℕ) → p < n → is_out_in (each_page n f) p ≡ f p
at_page n f p below = get_or-map-range_with_len f 0 n p p false below (omega arith)

pub length_pages : (n : ℕ) (f : ℕ → Bool) → length (each_page n f) ≡ n
length_pages n f = length-map-range_with_len f 0 n

-- a list by what it says of each page
pub each_page_is : (f : ℕ → Bool) (xs : List Bool) (n : ℕ) → length xs ≡ n → ((p : ℕ) → p < n → is_out_in xs p ≡ f p) → xs ≡ each_page n f
each_page_is f xs n len each = fill_by_all f xs n false len each

pub each_page_same : (n : ℕ) (f g : ℕ → Bool) → ((p : ℕ) → p < n → f p ≡ g p) → each_page n f ≡ each_page n g
each_page_same n f g each = each_page_is g (each_page n f) n (length_pages n f) (λ p below. at_page n f p below ∙ each p below)

-- a list is what it says of each page
pub each_page_again : (xs : List Bool) → xs ≡ each_page (length xs) (is_out_in xs)
each_page_again xs = each_page_is (is_out_in xs) xs (length xs) refl (λ p below. refl)

count_of_map : (g : Bool → Bool) (f : ℕ → Bool) (ps : List ℕ) → count_by g (map f ps) ≡ count_by (λ p. g (f p)) ps
count_of_map g f [] = refl
count_of_map g f (p ∷ ps) =
    sum_by-cons (λ (b : Bool). cond (g b) 1 0) (f p) (map f ps)
    ∙ ap (λ k. cond (g (f p)) 1 0 + k) (count_of_map g f ps)
    ∙ sym (sum_by-cons (λ q. cond (g (f q)) 1 0) p ps)

-- how many pages are out, and how many are resident
pub out_count_is : (n : ℕ) (f : ℕ → Bool) → out_count (each_page n f) ≡ count_pages n f
out_count_is n f = count_of_map (λ b. b) f (range_with_len 0 n)

pub resident_count_is : (n : ℕ) (f : ℕ → Bool) → count_by not (each_page n f) ≡ count_pages n (λ p. not (f p))
resident_count_is n f = count_of_map not f (range_with_len 0 n)

pub out_count_again : (xs : List Bool) → out_count xs ≡ count_pages (length xs) (is_out_in xs)
out_count_again xs = ap out_count (each_page_again xs) ∙ out_count_is (length xs) (is_out_in xs)

pub count_le : (n : ℕ) (f : ℕ → Bool) → count_pages n f ≤ n
count_le n f = omega (arith, count_by-le-length f (range_with_len 0 n), length-range_with_len 0 n)

-- the length stays
pub length_with_run : (start pages : ℕ) (now : Bool) (xs : List Bool) → length (with_run start pages now xs) ≡ length xs
length_with_run start pages now xs = length_pages (length xs) (λ p. if in_run start pages p then now else is_out_in xs p)

-- the pages that go out are so many more
pub gain : (t : ℕ → Bool) (xs : List Bool) → out_count (each_page (length xs) (λ p. if t p then true else is_out_in xs p)) ≡ out_count xs + count_pages (length xs) (λ p. t p && not (is_out_in xs p))
gain t xs =
    let n = length xs in
    let new : ℕ → Bool = λ p. if t p then true else is_out_in xs p in
    omega (arith, out_count_is n new, out_count_again xs, count_adds n (is_out_in xs) (λ p. t p && not (is_out_in xs p)) new (λ p below. adds (t p) (is_out_in xs p))) where
      adds : (r o : Bool) → cond {A = ℕ} o 1 0 + cond (r && not o) 1 0 ≡ cond (if r then true else o) 1 0
      adds r o = grind arith

pub out_gain : (start pages : ℕ) (xs : List Bool) → out_count (with_run start pages true xs) ≡ out_count xs + count_pages (length xs) (λ p. in_run start pages p && not (is_out_in xs p))
out_gain start pages xs = gain (in_run start pages) xs

-- those that come back are so many less
pub loss : (t : ℕ → Bool) (xs : List Bool) → out_count (each_page (length xs) (λ p. if t p then false else is_out_in xs p)) + count_pages (length xs) (λ p. t p && is_out_in xs p) ≡ out_count xs
loss t xs =
    let n = length xs in
    let new : ℕ → Bool = λ p. if t p then false else is_out_in xs p in
    omega (arith, out_count_is n new, out_count_again xs, count_adds n new (λ p. t p && is_out_in xs p) (is_out_in xs) (λ p below. adds (t p) (is_out_in xs p))) where
      adds : (r o : Bool) → cond {A = ℕ} (if r then false else o) 1 0 + cond (r && o) 1 0 ≡ cond o 1 0
      adds r o = grind arith

pub out_loss : (start pages : ℕ) (xs : List Bool) → out_count (with_run start pages false xs) + count_pages (length xs) (λ p. in_run start pages p && is_out_in xs p) ≡ out_count xs
out_loss start pages xs = loss (in_run start pages) xs

-- a run of one page comes back as that page does
pub one_comes_back : (page : ℕ) (xs : List Bool) → page < length xs → with_run page 1 false xs ≡ slice_set xs page false
one_comes_back page xs here =
    let f : ℕ → Bool = λ p. if in_run page 1 p then false else is_out_in xs p in
    sym (each_page_is f (set xs page false) (length xs) (length-set xs page false) (λ p below. elim (cases_eq p page) [
      | inl is ↦
          let test : in_run page 1 page ≡ true = grind (arith, nat_tests) in
          subst (λ q. is_out_in (set xs page false) q ≡ f q) (sym is) (get_or-set_same xs page false false here ∙ sym (ap (λ b. if b then false else is_out_in xs page) test))
      | inr isnt ↦
          let test : in_run page 1 p ≡ false = grind (arith, nat_tests) in
          let kept : is_out_in (set xs page false) p ≡ is_out_in xs p = rw get_or-set_other refl in
          kept ∙ sym (ap (λ b. if b then false else is_out_in xs p) test)
    ]))

-- those that are not out are the others
pub others_count : (xs : List Bool) → out_count xs + count_by not xs ≡ length xs
others_count [] = refl
others_count (true ∷ xs) = omega (arith, sum_by-cons (λ (b : Bool). cond b 1 0) true xs, sum_by-cons (λ (b : Bool). cond (not b) 1 0) true xs, others_count xs)
others_count (false ∷ xs) = omega (arith, sum_by-cons (λ (b : Bool). cond b 1 0) false xs, sum_by-cons (λ (b : Bool). cond (not b) 1 0) false xs, others_count xs)

-- a page that is touched is out no more
pub touch_loss : (page : ℕ) (xs : List Bool) → page < length xs → out_count (slice_set xs page false) + cond (is_out_in xs page) 1 0 ≡ out_count xs
touch_loss page xs here =
    let sum = sum_by-set (λ (b : Bool). cond b 1 0) xs page false false here in
    omega (arith, sum)
