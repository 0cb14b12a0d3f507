-- Bits that are put one after another.
use Rattle.std.proofs.Common.{◌≡◌, ◌≢◌, inl, inr, ℕ, ◌+◌, ◌-◌, ◌/◌, ◌%◌, ◌≤◌, ◌<◌, Bool, true, false, List, drop, length, set, take, get_or, get_or-set_same, get_or-set_other, refl, sym, ap, ◌∙◌, arith}
use Rattle.std.specs.Prelude.{◌==◌, slice_index, if◌then◌else◌}
use Rattle.std.proofs.lemmas.Bool.{cases_eq}
use Rattle.std.proofs.lemmas.Bool.Decides.{nat_tests}
use Rattle.std.proofs.lemmas.List.{get_or-drop, get_or-take, length-drop, length-take-le}
use mathlib.Core.Logic.{dite}
use native.Mathlib.Decide.{dec_lt}
use Rattle.page_bits.specs.Bits.{bit_in, is_set}
use Rattle.page_bits.specs.Runs.{bit_after, in_run}
use Rattle.page_bits.proofs.Masking.{before_run, behind_run}

-- a page of the run has its bit, and one beside the run the old one
within_run : (start : ℕ) (bits : List Bool) (p : ℕ) (old : Bool) → start ≤ p → p < start + length bits → bit_after start bits p old ≡ get_or bits (p - start) false
within_run start bits p old from to =
    let test : in_run start (length bits) p ≡ true = grind (arith, nat_tests) in
    ap (λ b. if b then get_or bits (p - start) false else old) test

before : (start : ℕ) (bits : List Bool) (p : ℕ) (old : Bool) → p < start → bit_after start bits p old ≡ old
before start bits p old lt = ap (λ b. if b then get_or bits (p - start) false else old) (before_run start (length bits) p lt)

behind : (start : ℕ) (bits : List Bool) (p : ℕ) (old : Bool) → start + length bits ≤ p → bit_after start bits p old ≡ old
behind start bits p old le = ap (λ b. if b then get_or bits (p - start) false else old) (behind_run start (length bits) p le)

-- no bit is put yet
pub none_put : (start : ℕ) (bits : List Bool) (p : ℕ) (old : Bool) → bit_after start (take 0 bits) p old ≡ old
none_put start bits p old = dite (dec_lt p start) (λ lt. before start (take 0 bits) p old lt) (λ (ge : ¬ (p < start)). behind start (take 0 bits) p old (omega (arith, ge, length-take-le 0 bits (omega arith))))

-- more bits are put: those after the first k
pub put_more : (start : ℕ) (bits : List Bool) (k n p : ℕ) (old : Bool) → k + n ≤ length bits → bit_after (start + k) (take n (drop k bits)) p (bit_after start (take k bits) p old) ≡ bit_after start (take (k + n) bits) p old
put_more start bits k n p old few =
    let first = take k bits in
    let next = take n (drop k bits) in
    let all = take (k + n) bits in
    let lf : length first ≡ k = length-take-le k bits (omega (arith, few)) in
    let ln : length next ≡ n = length-take-le n (drop k bits) (omega (arith, few, length-drop k bits)) in
    let la : length all ≡ k + n = length-take-le (k + n) bits few in
    let mid = bit_after start first p old in
    dite (dec_lt p (start + k))
    (λ (lt : p < start + k).
    before (start + k) next p mid lt
    ∙ dite (dec_lt p start)
    (λ (below : p < start). before start first p old below ∙ sym (before start all p old below))
    (λ (from : ¬ (p < start)).
    within_run start first p old (omega (arith, from)) (omega (arith, lt, lf))
    ∙ get_or-take k bits (p - start) false (omega (arith, lt, from))
    ∙ sym (get_or-take (k + n) bits (p - start) false (omega (arith, lt, from)))
    ∙ sym (within_run start all p old (omega (arith, from)) (omega (arith, lt, la)))))
    (λ (ge : ¬ (p < start + k)). dite (dec_lt p (start + k + n))
    (λ (lt : p < start + k + n).
    let at : k + (p - (start + k)) ≡ p - start = omega (arith, ge) in
    within_run (start + k) next p mid (omega (arith, ge)) (omega (arith, lt, ln))
    ∙ get_or-take n (drop k bits) (p - (start + k)) false (omega (arith, lt, ge))
    ∙ get_or-drop k bits (p - (start + k)) false
    ∙ ap (λ i. get_or bits i false) at
    ∙ sym (get_or-take (k + n) bits (p - start) false (omega (arith, lt, ge)))
    ∙ sym (within_run start all p old (omega (arith, ge)) (omega (arith, lt, la))))
    (λ (far : ¬ (p < start + k + n)).
    behind (start + k) next p mid (omega (arith, far, ln))
    ∙ behind start first p old (omega (arith, ge, lf))
    ∙ sym (behind start all p old (omega (arith, far, la)))))

-- one bit more is put
pub put_one : (start : ℕ) (bits : List Bool) (k p : ℕ) (old : Bool) → k < length bits → bit_after start (take (k + 1) bits) p old ≡ (if start + k == p then get_or bits k false else bit_after start (take k bits) p old)
put_one start bits k p old here =
    let first = take k bits in
    let all = take (k + 1) bits in
    let lf : length first ≡ k = length-take-le k bits (omega (arith, here)) in
    let la : length all ≡ k + 1 = length-take-le (k + 1) bits (omega (arith, here)) in
    elim (cases_eq p (start + k)) [
      | inl is ↦
          let test : (start + k == p) ≡ true = grind (arith, nat_tests) in
          let at : p - start ≡ k = omega (arith, is) in
          within_run start all p old (omega (arith, is)) (omega (arith, is, la))
          ∙ get_or-take (k + 1) bits (p - start) false (omega (arith, at))
          ∙ ap (λ i. get_or bits i false) at
          ∙ sym (ap (λ b. if b then get_or bits k false else bit_after start first p old) test)
      | inr isnt ↦
          let test : (start + k == p) ≡ false = (let other : p ≢ start + k = isnt in grind (arith, nat_tests)) in
          dite (dec_lt p start)
          (λ (lt : p < start). before start all p old lt ∙ sym (before start first p old lt))
          (λ (from : ¬ (p < start)). dite (dec_lt p (start + k))
          (λ (lt : p < start + k).
          within_run start all p old (omega (arith, from)) (omega (arith, lt, la))
          ∙ get_or-take (k + 1) bits (p - start) false (omega (arith, lt, from))
          ∙ sym (get_or-take k bits (p - start) false (omega (arith, lt, from)))
          ∙ sym (within_run start first p old (omega (arith, from)) (omega (arith, lt, lf))))
          (λ (ge : ¬ (p < start + k)). behind start all p old (omega (arith, ge, isnt, la)) ∙ sym (behind start first p old (omega (arith, ge, lf)))))
          ∙ sym (ap (λ b. if b then get_or bits k false else bit_after start first p old) test)
    ]

-- Words of which one is new: its bits from `page` on are these, and its other bits the old ones.
pub one_word : (words : List ℕ) (page new : ℕ) (bits : List Bool) → page / 64 < length words → page % 64 + length bits ≤ 64 → ((i : ℕ) → i < 64 → is_set new i ≡ bit_after (page % 64) bits i (is_set (slice_index words (page / 64)) i)) → (p : ℕ) → bit_in (set words (page / 64) new) p ≡ bit_after page bits p (bit_in words p)
one_word words page new bits here fits same p = elim (cases_eq (p / 64) (page / 64)) [
  | inl in_word ↦
      let i = p % 64 in
      let from = page % 64 in
      let old = is_set (slice_index words (page / 64)) i in
      let is_old : old ≡ bit_in words p = ap (λ q. is_set (slice_index words q) i) (sym in_word) in
      ap (λ q. is_set (slice_index (set words (page / 64) new) q) i) in_word
      ∙ ap (λ w. is_set w i) (get_or-set_same words (page / 64) new 0 here)
      ∙ same i (omega arith)
      ∙ dite (dec_lt p page)
      (λ (lt : p < page). before from bits i old (omega (arith, lt, in_word)) ∙ is_old ∙ sym (before page bits p (bit_in words p) lt))
      (λ (from_page : ¬ (p < page)). dite (dec_lt p (page + length bits))
      (λ (lt : p < page + length bits).
      let at : i - from ≡ p - page = omega (arith, from_page, in_word) in
      within_run from bits i old (omega (arith, from_page, in_word)) (omega (arith, lt, in_word))
      ∙ ap (λ k. get_or bits k false) at
      ∙ sym (within_run page bits p (bit_in words p) (omega (arith, from_page)) lt))
      (λ (far : ¬ (p < page + length bits)). behind from bits i old (omega (arith, far, in_word)) ∙ is_old ∙ sym (behind page bits p (bit_in words p) (omega (arith, far)))))
  | inr apart ↦
      let kept : slice_index (set words (page / 64) new) (p / 64) ≡ slice_index words (p / 64) = rw get_or-set_other refl in
      ap (λ w. is_set w (p % 64)) kept
      ∙ sym (dite (dec_lt p page)
      (λ (lt : p < page). before page bits p (bit_in words p) lt)
      (λ (ge : ¬ (p < page)). behind page bits p (bit_in words p) (omega (arith, ge, apart, fits))))
]
