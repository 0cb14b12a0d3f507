-- How many pages a test holds for.
use Rattle.std.proofs.Common.{◌≡◌, ℕ, zero, suc, ◌+◌, ◌-◌, ◌≤◌, ◌<◌, Bool, true, false, cond, ◌&&◌, [], ◌∷◌, ◌++◌, refl, sym, ap, ◌∙◌, arith}
use Rattle.std.specs.Prelude.{count_by}
use Rattle.std.specs.List.{range_with_len}
use Rattle.std.proofs.lemmas.Bool.Decides.{nat_tests}
use Rattle.std.proofs.lemmas.List.Sums.{sum_by_push}
use Rattle.page_bits.specs.Runs.{count_pages, in_run}

range_more : (a n : ℕ) → range_with_len a (suc n) ≡ range_with_len a n ++ (a + n) ∷ []
range_more a zero = ap (λ x. x ∷ []) (omega arith)
range_more a (suc n) = ap (λ xs. a ∷ xs) (range_more (a + 1) n ∙ ap (λ x. range_with_len (a + 1) n ++ x ∷ []) (omega arith))

-- one page more
pub count_more : (n : ℕ) (f : ℕ → Bool) → count_pages (suc n) f ≡ count_pages n f + cond (f n) 1 0
count_more n f =
    let last : 0 + n ≡ n = omega arith in
    ap (count_by f) (range_more 0 n)
    ∙ ap (λ p. count_by f (range_with_len 0 n ++ p ∷ [])) last
    ∙ sum_by_push (λ p. cond (f p) 1 0) (range_with_len 0 n) n

pub count_same : (n : ℕ) (f g : ℕ → Bool) → ((p : ℕ) → p < n → f p ≡ g p) → count_pages n f ≡ count_pages n g
count_same zero f g each = refl
count_same (suc n) f g each =
    count_more n f
    ∙ ap (λ b. count_pages n f + cond b 1 0) (each n (omega arith))
    ∙ ap (λ k. k + cond (g n) 1 0) (count_same n f g (λ p below. each p (omega arith)))
    ∙ sym (count_more n g)

pub count_none : (n : ℕ) (f : ℕ → Bool) → ((p : ℕ) → p < n → f p ≡ false) → count_pages n f ≡ 0
count_none zero f each = refl
count_none (suc n) f each =
    count_more n f
    ∙ ap (λ b. count_pages n f + cond b 1 0) (each n (omega arith))
    ∙ ap (λ k. k + 0) (count_none n f (λ p below. each p (omega arith)))

pub count_split : (m k : ℕ) (f : ℕ → Bool) → count_pages (m + k) f ≡ count_pages m f + count_pages k (λ i. f (m + i))
count_split m zero f =
    let same : m + 0 ≡ m = omega arith in
    ap (λ n. count_pages n f) same ∙ omega arith
count_split m (suc k) f =
    let first : m + suc k ≡ suc (m + k) = omega arith in
    let more = count_more k (λ i. f (m + i)) in
    ap (λ n. count_pages n f) first ∙ count_more (m + k) f
    ∙ omega (arith, count_split m k f, more)

pub count_beyond : (m n : ℕ) (f : ℕ → Bool) → m ≤ n → ((p : ℕ) → m ≤ p → f p ≡ false) → count_pages n f ≡ count_pages m f
count_beyond m n f le beyond =
    let whole : n ≡ m + (n - m) = omega arith in
    let rest = count_none (n - m) (λ i. f (m + i)) (λ p below. beyond (m + p) (omega arith)) in
    ap (λ k. count_pages k f) whole ∙ omega (arith, count_split m (n - m) f, rest)

-- counts of which each page adds up
pub count_adds : (n : ℕ) (f g h : ℕ → Bool) → ((p : ℕ) → p < n → cond (f p) 1 0 + cond (g p) 1 0 ≡ cond (h p) 1 0) → count_pages n f + count_pages n g ≡ count_pages n h
count_adds zero f g h each = refl
count_adds (suc n) f g h each =
    omega (arith, count_more n f, count_more n g, count_more n h, each n (omega arith), count_adds n f g h (λ p below. each p (omega arith)))

-- no more pages of a run than it has
run_within : (n start pages : ℕ) (g : ℕ → Bool) → (count_pages n (λ p. in_run start pages p && g p) ≤ n - start) × (count_pages n (λ p. in_run start pages p && g p) ≤ pages)
run_within zero start pages g = (omega arith, omega arith)
run_within (suc n) start pages g =
    let f : ℕ → Bool = λ p. in_run start pages p && g p in
    let before = run_within n start pages g in
    elim (in_run start pages n) as (λ b. in_run start pages n ≡ b → (count_pages (suc n) f ≤ suc n - start) × (count_pages (suc n) f ≤ pages)) [
      | true ↦ λ inside.
          let from : start ≤ n = grind (arith, nat_tests) in
          let to : n < start + pages = grind (arith, nat_tests) in
          let most : cond {A = ℕ} (f n) 1 0 ≤ 1 = at_most_one (f n) in
          (omega (arith, count_more n f, before.0, most), omega (arith, count_more n f, before.0, most))
      | false ↦ λ outside.
          let none : cond {A = ℕ} (f n) 1 0 ≡ 0 = ap (λ (b : Bool). cond (b && g n) 1 0) outside in
          (omega (arith, count_more n f, before.0, none), omega (arith, count_more n f, before.1, none))
    ] refl where
      at_most_one : (b : Bool) → cond b 1 0 ≤ 1
      at_most_one true = omega arith
      at_most_one false = omega arith

pub count_run_le : (n start pages : ℕ) (g : ℕ → Bool) → count_pages n (λ p. in_run start pages p && g p) ≤ pages
count_run_le n start pages g = (run_within n start pages g).1
