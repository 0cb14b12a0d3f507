-- A run of bits that is set, part by part.
use Rattle.std.proofs.Common.{◌≡◌, inl, inr, ℕ, ◌+◌, ◌-◌, ◌*◌, ◌/◌, ◌%◌, ◌≤◌, ◌<◌, Bool, true, false, cond, List, length, set, length-set, get_or-set_same, get_or-set_other, refl, sym, ap, subst, ◌∙◌, arith}
use Rattle.std.specs.Prelude.{◌&&◌, ◌||◌, nat_le, nat_lt, slice_index, if◌then◌else◌}
use Rattle.std.proofs.lemmas.Bool.{cases_eq}
use Rattle.std.proofs.lemmas.Bool.Decides.{nat_tests}
use Rattle.page_bits.specs.Runs.{count_pages, differs, in_run, IsRunPut}
use Rattle.page_bits.specs.Bits.{bit_in, is_set}
use Rattle.page_bits.proofs.Counting.{count_adds, count_beyond, count_none, count_run_le, count_same, count_split}

-- the pages before a run and behind it
pub before_run : (start pages p : ℕ) → p < start → in_run start pages p ≡ false
before_run start pages p below = grind (arith, nat_tests)

pub behind_run : (start pages p : ℕ) → start + pages ≤ p → in_run start pages p ≡ false
behind_run start pages p above = grind (arith, nat_tests)

-- two runs, of which the second begins where the first ends
pub run_joins : (start n m p : ℕ) → in_run start (n + m) p ≡ (in_run start n p || in_run (start + n) m p)
run_joins start n m p = elim (nat_lt p (start + n)) as (λ b. nat_lt p (start + n) ≡ b → in_run start (n + m) p ≡ (in_run start n p || in_run (start + n) m p)) [
  | true ↦ λ early.
      let short : nat_lt p (start + (n + m)) ≡ true = grind (arith, nat_tests) in
      let other : in_run (start + n) m p ≡ false = before_run (start + n) m p (let lt : p < start + n = grind (arith, nat_tests) in lt) in
      ap (λ b. nat_le start p && b) (short ∙ sym early) ∙ sym (ap (λ b. in_run start n p || b) other ∙ or_false (in_run start n p))
  | false ↦ λ late.
      let from : nat_le start p ≡ true = grind (arith, nat_tests) in
      let from_too : nat_le (start + n) p ≡ true = grind (arith, nat_tests) in
      let sum : start + (n + m) ≡ start + n + m = omega arith in
      let first : in_run start n p ≡ false = behind_run start n p (let le : start + n ≤ p = grind (arith, nat_tests) in le) in
      ap (λ b. b && nat_lt p (start + (n + m))) (from ∙ sym from_too)
      ∙ ap (λ k. nat_le (start + n) p && nat_lt p k) sum
      ∙ sym (ap (λ b. b || in_run (start + n) m p) first)
] refl where
  or_false : (b : Bool) → (b || false) ≡ b
  or_false true = refl
  or_false false = refl

-- a run that is set after another one
pub both_bits : (out a b old : Bool) → (if b then out else (if a then out else old)) ≡ (if a || b then out else old)
both_bits out true true old = refl
both_bits out true false old = refl
both_bits out false true old = refl
both_bits out false false old = refl

both_count : (out a b old : Bool) → cond {A = ℕ} (a && differs out old) 1 0 + cond (b && differs out (if a then out else old)) 1 0 ≡ cond ((a || b) && differs out old) 1 0
both_count true true true true = refl
both_count true true true false = refl
both_count true true false true = refl
both_count true true false false = refl
both_count true false true true = refl
both_count true false true false = refl
both_count true false false true = refl
both_count true false false false = refl
both_count false true true true = refl
both_count false true true false = refl
both_count false true false true = refl
both_count false true false false = refl
both_count false false true true = refl
both_count false false true false = refl
both_count false false false true = refl
both_count false false false false = refl

pub run_put_joins : (old mid new : List ℕ) (start n m : ℕ) (out : Bool) (first second : ℕ) → IsRunPut old mid start n out first → IsRunPut mid new (start + n) m out second → IsRunPut old new start (n + m) out (first + second)
run_put_joins old mid new start n m out first second one two = record {
  len = two.len ∙ one.len;
  bits = λ p.
      two.bits p
      ∙ ap (λ b. if in_run (start + n) m p then out else b) (one.bits p)
      ∙ both_bits out (in_run start n p) (in_run (start + n) m p) (bit_in old p)
      ∙ ap (λ b. if b then out else bit_in old p) (sym (run_joins start n m p));
  count = λ k enough.
      let f : ℕ → Bool = λ p. in_run start n p && differs out (bit_in old p) in
      let g : ℕ → Bool = λ p. in_run (start + n) m p && differs out (bit_in mid p) in
      let h : ℕ → Bool = λ p. in_run start (n + m) p && differs out (bit_in old p) in
      let sum = count_adds k f g h (λ p below.
      ap (λ (b : Bool). cond {A = ℕ} (f p) 1 0 + cond (in_run (start + n) m p && differs out b) 1 0) (one.bits p)
      ∙ both_count out (in_run start n p) (in_run (start + n) m p) (bit_in old p)
      ∙ ap (λ (b : Bool). cond {A = ℕ} (b && differs out (bit_in old p)) 1 0) (sym (run_joins start n m p))) in
      omega (arith, one.count k (omega arith), two.count k (omega arith), sum);
}

-- the same run by other terms
pub run_put_at : (old new : List ℕ) (start start2 pages pages2 : ℕ) (out : Bool) (changed : ℕ) → start ≡ start2 → pages ≡ pages2 → IsRunPut old new start pages out changed → IsRunPut old new start2 pages2 out changed
run_put_at old new start start2 pages pages2 out changed s n put =
    subst (λ k. IsRunPut old new start2 k out changed) n (subst (λ k. IsRunPut old new k pages out changed) s put)

-- a run of no page
pub no_run_put : (words : List ℕ) (start pages : ℕ) (out : Bool) → pages ≡ 0 → IsRunPut words words start pages out 0
no_run_put words start pages out none =
    let outside : (p : ℕ) → in_run start pages p ≡ false = λ p. (let zero : pages ≡ 0 = none in grind (arith, nat_tests)) in
    record {
      len = refl;
      bits = λ p. ap (λ b. if b then out else bit_in words p) (sym (outside p));
      count = λ n enough. sym (count_none n (λ p. in_run start pages p && differs out (bit_in words p)) (λ p below. ap (λ b. b && differs out (bit_in words p)) (outside p)));
    }

-- a run changes no more bits than it has
pub run_put_few : (old new : List ℕ) (start pages : ℕ) (out : Bool) (changed : ℕ) → IsRunPut old new start pages out changed → changed ≤ pages
run_put_few old new start pages out changed put =
    omega (arith, put.count (start + pages) (omega arith), count_run_le (start + pages) start pages (λ p. differs out (bit_in old p)))

-- the ones of the mask are the pages of the run
mask_is_run : (i j from to : ℕ) → from ≤ to → (nat_le from j && nat_lt j to) ≡ in_run (64 * i + from) (to - from) (64 * i + j)
mask_is_run i j from to order =
    let low : nat_le from j ≡ nat_le (64 * i + from) (64 * i + j) = grind (arith, nat_tests) in
    let high : nat_lt j to ≡ nat_lt (64 * i + j) (64 * i + from + (to - from)) = grind (arith, nat_tests) in
    ap (λ b. b && nat_lt j to) low ∙ ap (λ b. nat_le (64 * i + from) (64 * i + j) && b) high

-- What is known of a word in which the bits of a mask are set.
pub record IsWordPut (words : List ℕ) (i from to mask new : ℕ) (out : Bool) (changed : ℕ) : Type 0 where
  pub order : from ≤ to
  pub few : to ≤ 64
  pub here : i < length words
  pub masked : (j : ℕ) → j < 64 → is_set mask j ≡ (nat_le from j && nat_lt j to)
  pub put : (j : ℕ) → j < 64 → is_set new j ≡ (if is_set mask j then out else is_set (slice_index words i) j)
  pub count : (n : ℕ) → n ≡ 64 → changed ≡ count_pages n (λ j. is_set mask j && differs out (is_set (slice_index words i) j))

module _ (words : List ℕ) (i from to mask new : ℕ) (out : Bool) (changed : ℕ) (w : IsWordPut words i from to mask new out changed) where
  bit_of_word : (j : ℕ) → j < 64 → is_set (slice_index words i) j ≡ bit_in words (64 * i + j)
  bit_of_word j below =
      let word : (64 * i + j) / 64 ≡ i = omega arith in
      let bit : (64 * i + j) % 64 ≡ j = omega arith in
      sym (ap (λ k. is_set (slice_index words k) ((64 * i + j) % 64)) word ∙ ap (λ k. is_set (slice_index words i) k) bit)

  mask_at : (j : ℕ) → j < 64 → is_set mask j ≡ in_run (64 * i + from) (to - from) (64 * i + j)
  mask_at j below = w.masked j below ∙ mask_is_run i j from to w.order

  word_bits : (p : ℕ) → bit_in (set words i new) p ≡ (if in_run (64 * i + from) (to - from) p then out else bit_in words p)
  word_bits p = elim (cases_eq (p / 64) i) [
    | inl is ↦
        let j = p % 64 in
        let below : j < 64 = omega arith in
        let whole : 64 * i + j ≡ p = omega arith in
        ap (λ k. is_set (slice_index (set words i new) k) j) is
        ∙ ap (λ v. is_set v j) (get_or-set_same words i new 0 w.here)
        ∙ w.put j below
        ∙ ap (λ b. if b then out else is_set (slice_index words i) j) (mask_at j below)
        ∙ ap (λ b. if in_run (64 * i + from) (to - from) (64 * i + j) then out else b) (bit_of_word j below)
        ∙ ap (λ q. if in_run (64 * i + from) (to - from) q then out else bit_in words q) whole
    | inr isnt ↦
        let kept : slice_index (set words i new) (p / 64) ≡ slice_index words (p / 64) = rw get_or-set_other refl in
        let outside : in_run (64 * i + from) (to - from) p ≡ false = elim (nat_lt p (64 * i)) as (λ b. nat_lt p (64 * i) ≡ b → in_run (64 * i + from) (to - from) p ≡ false) [
          | true ↦ λ low. (let lt : p < 64 * i = grind (arith, nat_tests) in before_run (64 * i + from) (to - from) p (omega arith))
          | false ↦ λ high. (let le : 64 * i ≤ p = grind (arith, nat_tests) in let far : 64 * i + 64 ≤ p = omega (arith, isnt) in behind_run (64 * i + from) (to - from) p (omega (arith, w.order, w.few)))
        ] refl in
        ap (λ v. is_set v (p % 64)) kept ∙ sym (ap (λ b. if b then out else bit_in words p) outside)
  ]

  -- the count, for words of k bits
  word_count : (k : ℕ) → k ≡ 64 → (n : ℕ) → 64 * i + from + (to - from) ≤ n → changed ≡ count_pages n (λ p. in_run (64 * i + from) (to - from) p && differs out (bit_in words p))
  word_count k all n enough =
      let f : ℕ → Bool = λ p. in_run (64 * i + from) (to - from) p && differs out (bit_in words p) in
      let end = 64 * i + from + (to - from) in
      let inside : changed ≡ count_pages k (λ j. f (64 * i + j)) = w.count k all ∙ count_same k (λ j. is_set mask j && differs out (is_set (slice_index words i) j)) (λ j. f (64 * i + j)) (λ j below.
      ap (λ b. b && differs out (is_set (slice_index words i) j)) (mask_at j (omega arith))
      ∙ ap (λ b. in_run (64 * i + from) (to - from) (64 * i + j) && differs out b) (bit_of_word j (omega arith))) in
      let before = count_none (64 * i) f (λ p below. ap (λ b. b && differs out (bit_in words p)) (before_run (64 * i + from) (to - from) p (omega arith))) in
      let behind : (p : ℕ) → end ≤ p → f p ≡ false = λ p above. ap (λ b. b && differs out (bit_in words p)) (behind_run (64 * i + from) (to - from) p above) in
      let far = count_beyond end (64 * i + k) f (omega (arith, all, w.order, w.few)) behind in
      let near = count_beyond end n f enough behind in
      omega (arith, inside, before, count_split (64 * i) k f, far, near)

  pub word_put_is : IsRunPut words (set words i new) (64 * i + from) (to - from) out changed
  word_put_is = record {
    len = length-set words i new;
    bits = word_bits;
    count = word_count 64 refl;
  }
