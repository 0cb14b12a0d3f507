-- Sets of pages, by the bits that store them.
use Rattle.std.proofs.Common.{◌≡◌, inl, inr, ℕ, zero, suc, ◌+◌, ◌/◌, ◌%◌, ◌≤◌, ◌<◌, Bool, true, false, cond, ◌&&◌, List, [], ◌∷◌, length, set, replicate, length-set, get_or-set_same, get_or-set_other, refl, sym, ap, subst, ◌∙◌, arith}
use Rattle.std.specs.Prelude.{◌==◌, count_by, slice_index, slice_index_or, slice_set, if◌then◌else◌}
use Rattle.std.proofs.lemmas.Bool.{cases_eq}
use Rattle.std.proofs.lemmas.Bool.Decides.{nat_tests}
use Rattle.std.proofs.lemmas.List.{length-replicate}
use Rattle.std.proofs.lemmas.List.FromFn.{fill_by_all, get_or-map-range_with_len, length-map-range_with_len}
use Rattle.std.proofs.lemmas.List.Sums.{sum_by-cons}
use Rattle.std.proofs.lemmas.Nat.Bits.{bit_at-zero}
use Rattle.page_bits.specs.Bits.{bit_in, is_set}
use Rattle.page_bits.specs.Runs.{bit_after, count_pages, differs, in_run}
use Rattle.page_bits.specs.Sets.{bits_of, each_page, with_each, with_run}
use Rattle.page_bits.proofs.Counting.{count_same}

-- a page of a set of which each is told
pub at_page : (n : ℕ) (f : ℕ → Bool) (p : ℕ) → p < n → slice_index_or (each_page n f) p false ≡ f p
at_page n f p below = get_or-map-range_with_len f 0 n p p false below (omega arith)

pub length_pages : (n : ℕ) (f : ℕ → Bool) → length (each_page n f) ≡ n
length_pages n f = length-map-range_with_len f 0 n

-- a page of a set has a bit
pub has_bit : (n page : ℕ) (words : List ℕ) (xs : List Bool) → bits_of n words ≡ xs → page < length xs → page < n
has_bit n page words xs is below = omega (arith, below, ap length is, length_pages n (bit_in words))

-- and so have those of a run
pub have_bits : (n start pages : ℕ) (words : List ℕ) (xs : List Bool) → bits_of n words ≡ xs → start + pages ≤ length xs → start + pages ≤ n
have_bits n start pages words xs is within = omega (arith, within, ap length is, length_pages n (bit_in words))

-- a set by what it says of each page
each_page_is : (f : ℕ → Bool) (xs : List Bool) (n : ℕ) → length xs ≡ n → ((p : ℕ) → p < n → slice_index_or xs p false ≡ f p) → xs ≡ each_page n f
each_page_is f xs n len each = fill_by_all f xs n false len each

each_page_same : (n : ℕ) (f g : ℕ → Bool) → ((p : ℕ) → p < n → f p ≡ g p) → each_page n f ≡ each_page n g
each_page_same n f g each = each_page_is g (each_page n f) n (length_pages n f) (λ p below. at_page n f p below ∙ each p below)

-- no bit of words that are 0 is set
no_bits : (k p : ℕ) → bit_in (replicate k 0) p ≡ false
no_bits k p = ap (λ w. is_set w (p % 64)) (zeros k (p / 64)) ∙ ap (λ n. n == 1) (bit_at-zero (p % 64)) where
  zeros : (k q : ℕ) → slice_index (replicate k 0) q ≡ 0
  zeros zero q = refl
  zeros (suc k) zero = refl
  zeros (suc k) (suc q) = zeros k q

pub bits_of_none : (n k : ℕ) → bits_of n (replicate k 0) ≡ replicate n false
bits_of_none n k = sym (each_page_is (bit_in (replicate k 0)) (replicate n false) n (length-replicate {A = Bool} n false) (λ p below. falses n p ∙ sym (no_bits k p))) where
  falses : (n p : ℕ) → slice_index_or (replicate n false) p false ≡ false
  falses zero p = refl
  falses (suc n) zero = refl
  falses (suc n) (suc p) = falses n p

-- a set has no more pages than there are
pub size_le : (xs : List Bool) → count_by (λ has. has) xs ≤ length xs
size_le [] = omega arith
size_le (b ∷ xs) = omega (arith, sum_by-cons (λ (b : Bool). cond b 1 0) b xs, size_le xs, at_most_one b) where
  at_most_one : (b : Bool) → cond {A = ℕ} b 1 0 ≤ 1
  at_most_one true = omega arith
  at_most_one false = omega arith

-- the length stays
pub length_with_run : (start pages : ℕ) (now : Bool) (xs : List Bool) → length (with_run start pages now xs) ≡ length xs
length_with_run start pages now xs = length_pages (length xs) (λ p. if in_run start pages p then now else slice_index_or xs p false)

-- one bit that is put is one page of the set
pub one_is_put : (n page : ℕ) (old new : List ℕ) (now : Bool) → page < n → ((p : ℕ) → bit_in new p ≡ (if page == p then now else bit_in old p)) → bits_of n new ≡ slice_set (bits_of n old) page now
one_is_put n page old new now here bits =
    let xs = bits_of n old in
    let len : length xs ≡ n = length_pages n (bit_in old) in
    sym (each_page_is (bit_in new) (set xs page now) n (length-set xs page now ∙ len) (λ p below. elim (cases_eq p page) [
      | inl is ↦
          let test : (page == page) ≡ true = grind (arith, nat_tests) in
          subst (λ q. slice_index_or (set xs page now) q false ≡ bit_in new q) (sym is)
          (get_or-set_same xs page now false (omega (arith, here, len)) ∙ sym (bits page ∙ ap (λ b. if b then now else bit_in old page) test))
      | inr isnt ↦
          let test : (page == p) ≡ false = grind (arith, nat_tests) in
          let kept : slice_index_or (set xs page now) p false ≡ slice_index_or xs p false = rw get_or-set_other refl in
          kept ∙ (at_page n (bit_in old) p below ∙ sym (bits p ∙ ap (λ b. if b then now else bit_in old p) test))
    ]))

-- the set once its bits from a page on are these
pub each_is : (n start : ℕ) (bits : List Bool) (old new : List ℕ) → ((p : ℕ) → bit_in new p ≡ bit_after start bits p (bit_in old p)) → bits_of n new ≡ with_each start bits (bits_of n old)
each_is n start bits old new each =
    let g : ℕ → Bool = λ p. bit_after start bits p (slice_index_or (bits_of n old) p false) in
    each_page_same n (bit_in new) g (λ p below. each p ∙ ap (λ b. bit_after start bits p b) (sym (at_page n (bit_in old) p below)))
    ∙ ap (λ k. each_page k g) (sym (length_pages n (bit_in old)))

-- What the bits of a run say of the set.
module _ (n start pages : ℕ) (old new : List ℕ) (now : Bool) where
  pub set_is : ((p : ℕ) → bit_in new p ≡ (if in_run start pages p then now else bit_in old p)) → bits_of n new ≡ with_run start pages now (bits_of n old)
  set_is bits =
      let g : ℕ → Bool = λ p. if in_run start pages p then now else slice_index_or (bits_of n old) p false in
      each_page_same n (bit_in new) g (λ p below. bits p ∙ ap (λ b. if in_run start pages p then now else b) (sym (at_page n (bit_in old) p below)))
      ∙ ap (λ k. each_page k g) (sym (length_pages n (bit_in old)))

  pub count_is : (count : ℕ) → start + pages ≤ n → ((m : ℕ) → start + pages ≤ m → count ≡ count_pages m (λ p. in_run start pages p && differs now (bit_in old p)))
      → count ≡ count_pages (length (bits_of n old)) (λ p. in_run start pages p && differs now (slice_index_or (bits_of n old) p false))
  count_is count within is =
      let g : ℕ → Bool = λ p. in_run start pages p && differs now (slice_index_or (bits_of n old) p false) in
      is n within
      ∙ count_same n (λ p. in_run start pages p && differs now (bit_in old p)) g (λ p below. ap (λ b. in_run start pages p && differs now b) (sym (at_page n (bit_in old) p below)))
      ∙ ap (λ k. count_pages k g) (sym (length_pages n (bit_in old)))
