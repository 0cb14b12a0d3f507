-- Hits without a receipt, counted load by load.
use Rattle.std.proofs.Common.{◌≡◌, ℕ, zero, suc, ◌+◌, ◌*◌, ◌≤◌, ◌<◌, ◌==◌, ◌&&◌, ◌||◌, Bool, true, false, not, List, [], ◌∷◌, length, take, refl, sym, ap, ◌∙◌, arith}
use Rattle.std.specs.Prelude.{cond, slice_index, slice_index_or}
use Rattle.std.specs.List.{list_any}
use Rattle.std.proofs.lemmas.Bool.Decides.{nat_tests}
use Rattle.std.proofs.lemmas.List.{take_all}
use Rattle.std.proofs.lemmas.List.Sums.{sum_by-append}
use Rattle.page_words.specs.Clears.{pass_of}
use Rattle.page_words.specs.declared.view.Entry.TheVariants.{Load}
use Rattle.run_journal.specs.declared.entry.Receipt.{Receipt}
use Rattle.journal_check.specs.Folding.{open_hits}
use Rattle.journal_text.specs.SeenLine.{has_receipt, is_receipt}
use Rattle.page_words.specs.PassSteps.{load_steps}

-- whether a pick is a hit that no receipt tells of
abbrev pub is_open : List Receipt → ℕ → List ℕ → List Bool → ℕ → Bool
is_open rs pass picks bits k = slice_index_or bits k false && not (list_any (is_receipt (slice_index picks k) pass) rs)

word_pass : (pass : ℕ) (b : Bool) → pass_of (2 * pass + cond b 1 0) ≡ pass
word_pass pass true = omega arith
word_pass pass false = omega arith

even_word : (pass : ℕ) → ((2 * pass + 0) == 2 * pass) ≡ true
even_word pass = grind (arith, nat_tests)

odd_word : (pass : ℕ) → ((2 * pass + 1) == 2 * pass) ≡ false
odd_word pass = grind (arith, nat_tests)

-- a load is without a receipt exactly if it was a hit and no receipt has its page and pass
load_open : (rs : List Receipt) (pass page : ℕ) (b : Bool)
    → not (has_receipt rs (Load page (2 * pass + cond b 1 0))) ≡ (b && not (list_any (is_receipt page pass) rs))
load_open rs pass page true =
    ap (λ p. not (((2 * pass + 1) == 2 * p) || list_any (is_receipt page p) rs)) (word_pass pass true)
    ∙ ap (λ t. not (t || list_any (is_receipt page pass) rs)) (odd_word pass)
load_open rs pass page false =
    ap (λ p. not (((2 * pass + 0) == 2 * p) || list_any (is_receipt page p) rs)) (word_pass pass false)
    ∙ ap (λ t. not (t || list_any (is_receipt page pass) rs)) (even_word pass)

-- the hits without a receipt among the first picks
abbrev pub open_among : List Receipt → ℕ → List ℕ → List Bool → ℕ → ℕ
open_among rs pass picks bits k = open_hits rs (load_steps pass (take k picks) (take k bits))

nothing_yet : (rs : List Receipt) (pass : ℕ) (picks : List ℕ) (bits : List Bool) → open_among rs pass picks bits 0 ≡ 0
nothing_yet rs pass [] bits = refl
nothing_yet rs pass (p ∷ picks) [] = refl
nothing_yet rs pass (p ∷ picks) (b ∷ bits) = refl

-- one load more, in front
open_step : (rs : List Receipt) (pass p : ℕ) (b : Bool) (picks : List ℕ) (bits : List Bool)
    → open_hits rs (load_steps pass (p ∷ picks) (b ∷ bits)) ≡ cond (not (has_receipt rs (Load p (2 * pass + cond b 1 0)))) 1 0 + open_hits rs (load_steps pass picks bits)
open_step rs pass p b picks bits =
    let own : ℕ = cond (not (has_receipt rs (Load p (2 * pass + cond b 1 0)))) 1 0 in
    let alone : 0 + own ≡ own = omega arith in
    sum_by-append (λ s. cond (not (has_receipt rs s)) 1 0) (Load p (2 * pass + cond b 1 0) ∷ []) (load_steps pass picks bits)
    ∙ ap (λ n. n + open_hits rs (load_steps pass picks bits)) alone

-- one pick more
open_more : (rs : List Receipt) (pass : ℕ) (picks : List ℕ) (bits : List Bool) (k : ℕ) → k < length picks → k < length bits
    → open_among rs pass picks bits (suc k) ≡ open_among rs pass picks bits k + cond (is_open rs pass picks bits k) 1 0
open_more rs pass [] bits k below within = absurd (omega (arith, below))
open_more rs pass (p ∷ picks) [] k below within = absurd (omega (arith, within))
open_more rs pass (p ∷ picks) (b ∷ bits) zero below within =
    let rest = open_among rs pass picks bits 0 in
    let none : rest ≡ 0 = nothing_yet rs pass picks bits in
    let own : ℕ = cond (not (has_receipt rs (Load p (2 * pass + cond b 1 0)))) 1 0 in
    let wanted : ℕ = cond (is_open rs pass (p ∷ picks) (b ∷ bits) 0) 1 0 in
    let same : own ≡ wanted = ap (λ t. cond t 1 0) (load_open rs pass p b) in
    omega (arith, none, same)
open_more rs pass (p ∷ picks) (b ∷ bits) (suc k) below within =
    let rest = open_more rs pass picks bits k (omega (arith, below)) (omega (arith, within)) in
    let now = open_step rs pass p b (take (suc k) picks) (take (suc k) bits) in
    let was = open_step rs pass p b (take k picks) (take k bits) in
    now ∙ (omega (arith, rest) ∙ ap (λ n. n + cond (is_open rs pass picks bits k) 1 0) (sym was))

pub open_next : (rs : List Receipt) (pass : ℕ) (picks : List ℕ) (bits : List Bool) (k : ℕ) → k < length picks → k < length bits
    → open_among rs pass picks bits (k + 1) ≡ open_among rs pass picks bits k + cond (is_open rs pass picks bits k) 1 0
open_next rs pass picks bits k below within =
    let next : k + 1 ≡ suc k = omega arith in
    ap (open_among rs pass picks bits) next ∙ open_more rs pass picks bits k below within

pub at_most_one : (b : Bool) → cond b 1 0 ≤ 1
at_most_one true = omega arith
at_most_one false = omega arith

-- all picks
pub open_all : (rs : List Receipt) (pass : ℕ) (picks : List ℕ) (bits : List Bool) (n : ℕ) → length picks ≡ n → length bits ≡ n
    → open_among rs pass picks bits n ≡ open_hits rs (load_steps pass picks bits)
open_all rs pass picks bits n each count =
    ap (λ ps. open_hits rs (load_steps pass ps (take n bits))) (take_all n picks (omega (arith, each)))
    ∙ ap (λ bs. open_hits rs (load_steps pass picks bs)) (take_all n bits (omega (arith, count)))

-- there are no more of them than loads, and no more loads than results
pub open_few : (rs : List Receipt) (pass : ℕ) (picks : List ℕ) (bits : List Bool) → open_hits rs (load_steps pass picks bits) ≤ length bits
open_few rs pass [] bits = omega arith
open_few rs pass (p ∷ picks) [] = omega arith
open_few rs pass (p ∷ picks) (b ∷ bits) =
    omega (arith, open_step rs pass p b picks bits, at_most_one (not (has_receipt rs (Load p (2 * pass + cond b 1 0)))), open_few rs pass picks bits)
