-- The results of loads, by the bits that a journal keeps.
use Rattle.std.proofs.Common.{◌≡◌, ℕ, ◌+◌, ◌-◌, ◌≤◌, ◌<◌, Bool, true, false, List, ◌++◌, drop, length, take, get_or, length-append, sym, ap, ◌∙◌, arith}
use Rattle.std.specs.Prelude.{if◌then◌else◌}
use Rattle.std.proofs.lemmas.Bool.Decides.{nat_tests}
use Rattle.std.proofs.lemmas.List.{drop-drop, drop-take, ext_get_or, get_or_append_left, get_or-append-add, get_or-take, length-drop, length-take-le, take-take}
use Rattle.std.proofs.lemmas.List.FromFn.{get_or-map-range_with_len, length-map-range_with_len}
use mathlib.Core.Logic.{dite}
use native.Mathlib.Decide.{dec_lt}
use Rattle.page_bits.specs.Runs.{bit_after, in_run}
use Rattle.page_bits.specs.Sets.{with_each}
use Rattle.run_journal.specs.Room.{JournalView}

-- how many results a run of loads has
pub run_length : (xs : List Bool) (start count : ℕ) → start + count ≤ length xs → length (take count (drop start xs)) ≡ count
run_length xs start count within = length-take-le count (drop start xs) (omega (arith, within, length-drop start xs))

-- the first of them, and those after them
pub run_first : (xs : List Bool) (start count n : ℕ) → n ≤ count → take n (drop start xs) ≡ take n (take count (drop start xs))
run_first xs start count n few = sym (take-take n count (drop start xs) few)

pub run_rest : (xs : List Bool) (start count n : ℕ) → n ≤ count → take (count - n) (drop (start + n) xs) ≡ drop n (take count (drop start xs))
run_rest xs start count n few =
    let whole : n + (count - n) ≡ count = omega (arith, few) in
    ap (take (count - n)) (sym (drop-drop n start xs))
    ∙ sym (drop-take n (count - n) (drop start xs))
    ∙ ap (λ k. drop n (take k (drop start xs))) whole

-- the room stays
pub length_kept : (loads bits : List Bool) (loaded : ℕ) → length (with_each loaded bits loads) ≡ length loads
length_kept loads bits loaded = length-map-range_with_len (λ p. bit_after loaded bits p (get_or loads p false)) 0 (length loads)

-- the results of a check follow those that were kept
pub kept_behind : (loads bits : List Bool) (loaded : ℕ) → loaded + length bits ≤ length loads → take (loaded + length bits) (with_each loaded bits loads) ≡ take loaded loads ++ bits
kept_behind loads bits loaded within =
    let n = length bits in
    let f : ℕ → Bool = λ p. bit_after loaded bits p (get_or loads p false) in
    let new = with_each loaded bits loads in
    let size = length_kept loads bits loaded in
    let all : length (take (loaded + n) new) ≡ loaded + n = length-take-le (loaded + n) new (omega (arith, within, size)) in
    let first : length (take loaded loads) ≡ loaded = length-take-le loaded loads (omega (arith, within)) in
    ext_get_or false (take (loaded + n) new) (take loaded loads ++ bits) (omega (arith, all, first, length-append (take loaded loads) bits)) (λ i below.
    get_or-take (loaded + n) new i false (omega (arith, below, all))
    ∙ get_or-map-range_with_len f 0 (length loads) i i false (omega (arith, below, all, within)) (omega arith)
    ∙ dite (dec_lt i loaded)
    (λ (before : i < loaded).
    let test : in_run loaded n i ≡ false = grind (arith, nat_tests) in
    ap (λ b. if b then get_or bits (i - loaded) false else get_or loads i false) test
    ∙ sym (get_or-take loaded loads i false before)
    ∙ sym (get_or_append_left (take loaded loads) bits false i (omega (arith, before, first))))
    (λ (from : ¬ (i < loaded)).
    let test : in_run loaded n i ≡ true = (let ge : loaded ≤ i = omega (arith, from) in let lt : i < loaded + n = omega (arith, below, all) in grind (arith, nat_tests)) in
    let at : i ≡ length (take loaded loads) + (i - loaded) = omega (arith, from, first) in
    ap (λ b. if b then get_or bits (i - loaded) false else get_or loads i false) test
    ∙ sym (ap (λ k. get_or (take loaded loads ++ bits) k false) at ∙ get_or-append-add (take loaded loads) bits (i - loaded) false)))

-- the results of a check still fit
pub loads_fit : (v : JournalView) (loads : List Bool) (loaded n : ℕ) → loaded ≤ length loads → take loaded loads ≡ v.value.bits → length loads ≡ v.bit_room → length v.value.bits + n ≤ v.bit_room → loaded + n ≤ length loads
loads_fit v loads loaded n few bits room fits = omega (arith, few, ap length bits, room, fits, length-take-le loaded loads few)
