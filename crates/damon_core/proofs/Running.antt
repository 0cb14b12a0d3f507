-- Events one after another.
use Rattle.std.proofs.Common.{◌≡◌, ℕ, zero, suc, ◌+◌, ◌<◌, ◌≤◌, Bool, false, List, [], ◌∷◌, ◌++◌, cond, drop, length, set, take, refl, sym, ap, ◌∙◌, subst, arith}
use Rattle.std.specs.Prelude.{◌==◌, map, slice_index}
use Rattle.std.proofs.lemmas.Bool.Decides.{nat_tests}
use Rattle.std.proofs.lemmas.List.{drop_more, length-set}
use Rattle.live_commit.specs.declared.phase.Phase.{Phase}
use Rattle.live_commit.specs.declared.phase.Phase.TheVariants.{Idle, Clearing, Armed, Checking, Void, Due}
use Rattle.sampler.specs.Loaded.{loaded_bits, mark_of, next_picks}
use Rattle.damon_core.specs.State.{Core, row_count}
use Rattle.damon_core.specs.Event.{IsClearing, IsLoading, clear, clear_index, load, load_index}
use Rattle.damon_core.specs.Several.{clears, loads}
use Rattle.damon_core.specs.After.{loaded_core, phase_cleared}
use Rattle.damon_core.specs.Pass.{IsPickWithin}
use Rattle.damon_core.specs.Makes.{Makes}
use Rattle.damon_core.proofs.Following.{Makes-append}
use Rattle.damon_core.specs.Stands.{MonitorView, Stands}
use Rattle.damon_core.specs.Kept.{SinceFew}
use Rattle.damon_core.proofs.Shown.{after_all_loads, after_clears, after_load, after_loads}
use Rattle.damon_core.proofs.Standing.{clear_stands, load_fits, load_stands}

-- no event
makes_none : (m : MonitorView) → Makes Stands m m []
makes_none m s reached stands = (tt, stands)

not_last : (k rows : ℕ) → k < rows → (k == rows) ≡ false
not_last k rows below = grind (arith, nat_tests)

-- the phase before a further clear
clearing_before : (k rows : ℕ) → k < rows → phase_cleared k rows ≡ Clearing k
clearing_before k rows below = ap (λ b. cond b Armed (Clearing k)) (not_last k rows below)

-- the pick that is cleared next
clearing_at : (ph : Phase) → IsClearing ph → Clearing (clear_index ph) ≡ ph
clearing_at (Clearing k) clearing = refl
clearing_at Idle clearing = absurd clearing
clearing_at Armed clearing = absurd clearing
clearing_at (Checking k) clearing = absurd clearing
clearing_at Void clearing = absurd clearing
clearing_at Due clearing = absurd clearing

no_clear : (m : MonitorView) → IsClearing m.core.phase → clear_index m.core.phase < row_count m.core → after_clears 0 m ≡ m
no_clear m clearing below =
    let k = clear_index m.core.phase in
    let same : k + 0 ≡ k = omega arith in
    ap (λ ph. record m { core = record m.core { phase = ph } }) (ap (λ i. phase_cleared i (row_count m.core)) same ∙ clearing_before k (row_count m.core) below ∙ clearing_at m.core.phase clearing)

pub one_clear : (m : MonitorView) → IsClearing m.core.phase → Makes Stands m (after_clears 1 m) (clear ∷ [])
one_clear m clearing s reached stands = ((subst (λ (c : Core). IsClearing c.phase) stands.same clearing, tt), clear_stands m s stands clearing)

-- n clears are events
pub clears_make : (m : MonitorView) (n : ℕ) → IsClearing m.core.phase → clear_index m.core.phase < row_count m.core → clear_index m.core.phase + n ≤ row_count m.core → Makes Stands m (after_clears n m) (clears n)
clears_make m zero clearing some within = subst (λ x. Makes Stands m x []) (sym (no_clear m clearing some)) (makes_none m)
clears_make m (suc zero) clearing some within = one_clear m clearing
clears_make m (suc (suc n)) clearing some within =
    let rows = row_count m.core in
    let k = clear_index m.core.phase in
    let next = after_clears 1 m in
    let phase : next.core.phase ≡ Clearing (k + 1) = clearing_before (k + 1) rows (omega arith) in
    let index : clear_index next.core.phase ≡ k + 1 = ap clear_index phase in
    let still : IsClearing next.core.phase = subst IsClearing (sym phase) tt in
    let last : clear_index next.core.phase + suc n ≡ k + suc (suc n) = omega (arith, index) in
    let more : Makes Stands next (after_clears (suc n) next) (clears (suc n)) = clears_make next (suc n) still (omega (arith, index)) (omega (arith, index)) in
    subst (λ x. Makes Stands m x (clears (suc (suc n)))) (ap (λ i. record m { core = record m.core { phase = phase_cleared i rows } }) last)
    (Makes-append Stands m next (after_clears (suc n) next) (clear ∷ []) (clears (suc n)) (one_clear m clearing) more)

-- the next pick is one of the rows
pub next_below : (ph : Phase) (rows : ℕ) → IsClearing ph → IsPickWithin ph rows → clear_index ph < rows
next_below (Clearing k) rows clearing within = within
next_below Idle rows clearing within = absurd clearing
next_below Armed rows clearing within = absurd clearing
next_below (Checking k) rows clearing within = absurd clearing
next_below Void rows clearing within = absurd clearing
next_below Due rows clearing within = absurd clearing

-- the first of the next picks, and those after it
next_picks_first : (picks : List ℕ) (from n : ℕ) → from < length picks → next_picks picks from (suc n) ≡ slice_index picks from ∷ next_picks picks (from + 1) n
next_picks_first picks from n below = ap (take (suc n)) (drop_more picks from 0 below)

-- the bits after the first of the loads, and after those that follow it
bits_after_first : (f : ℕ → Bool) (picks : List ℕ) (bits : List Bool) (from n k : ℕ) → k ≡ from + suc n → from < length picks → length bits ≡ length picks → take (suc from) (set bits from (f (slice_index picks from))) ++ map f (take n (drop (suc from) picks)) ++ drop k (set bits from (f (slice_index picks from))) ≡ take from bits ++ map f (take (suc n) (drop from picks)) ++ drop k bits
bits_after_first f [] bits from n k is below each = absurd (omega arith)
bits_after_first f (p ∷ picks) [] from n k is below each = absurd (omega arith)
bits_after_first f (p ∷ picks) (b ∷ bits) from n zero is below each = absurd (omega (arith, is))
bits_after_first f (p ∷ picks) (b ∷ bits) zero n (suc k) is below each = refl
bits_after_first f (p ∷ picks) (b ∷ bits) (suc from) n (suc k) is below each = ap (λ bs. b ∷ bs) (bits_after_first f picks bits from n k (omega (arith, is)) (omega (arith, below)) (omega (arith, each)))

loaded_bits_first : (marks : List Bool) (picks : List ℕ) (from n : ℕ) (bits : List Bool) → from < length picks → length bits ≡ length picks → loaded_bits marks picks (from + 1) n (set bits from (mark_of marks (slice_index picks from))) ≡ loaded_bits marks picks from (suc n) bits
loaded_bits_first marks picks from n bits below each =
    let h = mark_of marks (slice_index picks from) in
    let next : from + 1 ≡ suc from = omega arith in
    let last : from + 1 + n ≡ from + suc n = omega arith in
    ap (λ i. take i (set bits from h) ++ map (mark_of marks) (take n (drop i picks)) ++ drop (from + 1 + n) (set bits from h)) next
    ∙ ap (λ k. take (suc from) (set bits from h) ++ map (mark_of marks) (take n (drop (suc from) picks)) ++ drop k (set bits from h)) last
    ∙ bits_after_first (mark_of marks) picks bits from n (from + suc n) refl below each

rejoined : (i : ℕ) (bits : List Bool) → (take i bits ++ []) ++ drop i bits ≡ bits
rejoined zero bits = refl
rejoined (suc i) [] = refl
rejoined (suc i) (b ∷ bits) = ap (λ bs. b ∷ bs) (rejoined i bits)

no_bits : (marks : List Bool) (picks : List ℕ) (from : ℕ) (bits : List Bool) → loaded_bits marks picks from 0 bits ≡ bits
no_bits marks picks from bits = let none : from + 0 ≡ from = omega arith in ap (λ i. take from bits ++ [] ++ drop i bits) none ∙ rejoined from bits

pub one_load : (m : MonitorView) (h : Bool) → IsLoading m.core.phase (row_count m.core) → load_index m.core.phase < length m.bits → Makes Stands m (after_load h m) (load h ∷ [])
one_load m h loading here s reached stands = ((load_fits m s h stands loading, tt), load_stands m s h reached stands loading here)

-- loads of the next n picks, at least one, are events
pub loads_make : (m : MonitorView) (marks : List Bool) (n : ℕ) → IsLoading m.core.phase (row_count m.core) → load_index m.core.phase + suc n ≤ row_count m.core → length m.core.picks ≡ row_count m.core → length m.bits ≡ row_count m.core → Makes Stands m (after_loads marks (suc n) m) (loads marks (next_picks m.core.picks (load_index m.core.phase) (suc n)))
loads_make m marks zero loading within picks bits =
    let from = load_index m.core.phase in
    let h = mark_of marks (slice_index m.core.picks from) in
    let below : from < length m.core.picks = omega arith in
    let each : length m.bits ≡ length m.core.picks = omega arith in
    let is : set m.bits from h ≡ loaded_bits marks m.core.picks from 1 m.bits = sym (no_bits marks m.core.picks (from + 1) (set m.bits from h)) ∙ loaded_bits_first marks m.core.picks from 0 m.bits below each in
    subst (λ ps. Makes Stands m (after_loads marks 1 m) (loads marks ps)) (sym (next_picks_first m.core.picks from 0 below))
    (subst (λ bs. Makes Stands m (record m { core = loaded_core 1 m.core; bits = bs }) (load h ∷ [])) is (one_load m h loading (omega arith)))
loads_make m marks (suc n) loading within picks bits =
    let from = load_index m.core.phase in
    let h = mark_of marks (slice_index m.core.picks from) in
    let next = after_load h m in
    let below : from < length m.core.picks = omega arith in
    let each : length m.bits ≡ length m.core.picks = omega arith in
    let still : IsLoading next.core.phase (row_count next.core) = (omega arith) in
    let more : Makes Stands next (after_loads marks (suc n) next) (loads marks (next_picks m.core.picks (from + 1) (suc n))) =
    loads_make next marks n still (omega arith) picks (length-set m.bits from h ∙ bits) in
    let last : from + 1 + suc n ≡ from + suc (suc n) = omega arith in
    subst (λ ps. Makes Stands m (after_loads marks (suc (suc n)) m) (loads marks ps)) (sym (next_picks_first m.core.picks from (suc n) below))
    (subst (λ bs. Makes Stands m (record m { core = loaded_core (suc (suc n)) m.core; bits = bs }) (load h ∷ loads marks (next_picks m.core.picks (from + 1) (suc n)))) (loaded_bits_first marks m.core.picks from (suc n) m.bits below each)
    (subst (λ i. Makes Stands m (record m { core = record m.core { phase = Checking i }; bits = loaded_bits marks m.core.picks (from + 1) (suc n) (set m.bits from h) }) (load h ∷ loads marks (next_picks m.core.picks (from + 1) (suc n)))) last
    (Makes-append Stands m next (after_loads marks (suc n) next) (load h ∷ []) (loads marks (next_picks m.core.picks (from + 1) (suc n))) (one_load m h loading (omega arith)) more)))

-- the bits after the last load
set_last : (bits : List Bool) (k : ℕ) (h : Bool) → suc k ≡ length bits → set bits k h ≡ take k bits ++ h ∷ []
set_last [] k h last = absurd (omega (arith, last))
set_last (b ∷ []) zero h last = refl
set_last (b ∷ c ∷ bits) zero h last = absurd (omega (arith, last))
set_last (b ∷ bits) (suc k) h last = ap (λ bs. b ∷ bs) (set_last bits k h (omega (arith, last)))

-- the bits up to one that was set, with others after it
front_then_set : (bits rest : List Bool) (k : ℕ) (h : Bool) → k < length bits → take (suc k) (set bits k h) ++ rest ≡ take k bits ++ h ∷ rest
front_then_set [] rest k h below = absurd (omega arith)
front_then_set (b ∷ bits) rest zero h below = refl
front_then_set (b ∷ bits) rest (suc k) h below = ap (λ bs. b ∷ bs) (front_then_set bits rest k h (omega (arith, below)))

-- loads of all picks that are left, with these results, are events
left_loads_make : (m : MonitorView) (h : Bool) (hs : List Bool) → IsLoading m.core.phase (row_count m.core) → load_index m.core.phase + suc (length hs) ≡ length m.bits → length m.bits ≡ row_count m.core
    → Makes Stands m (record m { core = loaded_core (suc (length hs)) m.core; bits = take (load_index m.core.phase) m.bits ++ h ∷ hs }) (map (λ x. load x) (h ∷ hs))
left_loads_make m h [] loading all each =
    let from = load_index m.core.phase in
    let last : suc from ≡ length m.bits = omega (arith, all) in
    subst (λ bs. Makes Stands m (record m { core = loaded_core 1 m.core; bits = bs }) (load h ∷ [])) (set_last m.bits from h last) (one_load m h loading (omega (arith, last)))
left_loads_make m h (i ∷ hs) loading all each =
    let from = load_index m.core.phase in
    let next = after_load h m in
    let below : from < length m.bits = omega (arith, all) in
    let still : IsLoading next.core.phase (row_count next.core) = (omega (arith, all, each)) in
    let count : from + 1 + suc (length hs) ≡ length next.bits = omega (arith, all, length-set m.bits from h) in
    let more = left_loads_make next i hs still count (length-set m.bits from h ∙ each) in
    let more_from : from + 1 ≡ suc from = omega arith in
    let last : from + 1 + suc (length hs) ≡ from + suc (suc (length hs)) = omega arith in
    let bits : take (from + 1) next.bits ++ i ∷ hs ≡ take from m.bits ++ h ∷ i ∷ hs = ap (λ n. take n next.bits ++ i ∷ hs) more_from ∙ front_then_set m.bits (i ∷ hs) from h below in
    subst (λ bs. Makes Stands m (record m { core = loaded_core (suc (suc (length hs))) m.core; bits = bs }) (map (λ x. load x) (h ∷ i ∷ hs))) bits
    (subst (λ n. Makes Stands m (record m { core = record m.core { phase = Checking n }; bits = take (from + 1) next.bits ++ i ∷ hs }) (map (λ x. load x) (h ∷ i ∷ hs))) last
    (Makes-append Stands m next (record next { core = loaded_core (suc (length hs)) next.core; bits = take (from + 1) next.bits ++ i ∷ hs }) (load h ∷ []) (map (λ x. load x) (i ∷ hs)) (one_load m h loading below) more))

-- loads of all picks, with these results, are events
pub all_loads_make : (m : MonitorView) (hits : List Bool) → m.core.phase ≡ Armed → 0 < row_count m.core → length hits ≡ row_count m.core → length m.bits ≡ row_count m.core → Makes Stands m (after_all_loads hits m) (map (λ x. load x) hits)
all_loads_make m [] armed some count each = absurd (omega (arith, some, count))
all_loads_make m (h ∷ hs) armed some count each =
    let rows = row_count m.core in
    let none : load_index m.core.phase ≡ 0 = ap load_index armed in
    let loading : IsLoading m.core.phase rows = subst (λ ph. IsLoading ph rows) (sym armed) tt in
    let made = left_loads_make m h hs loading (omega (arith, none, count, each)) each in
    let last : load_index m.core.phase + suc (length hs) ≡ rows = omega (arith, none, count) in
    subst (λ n. Makes Stands m (record m { core = record m.core { phase = Checking n }; bits = h ∷ hs }) (map (λ x. load x) (h ∷ hs))) last
    (subst (λ k. Makes Stands m (record m { core = loaded_core (suc (length hs)) m.core; bits = take k m.bits ++ h ∷ hs }) (map (λ x. load x) (h ∷ hs))) none made)

-- a load leaves the passes since the last aggregation
pub load_since : (ph : Phase) (rows since : ℕ) → IsLoading ph rows → SinceFew ph since → since < 1000
load_since Armed rows since loading few = few
load_since (Checking k) rows since loading few = few
load_since (Clearing k) rows since loading few = absurd loading
load_since Idle rows since loading few = absurd loading
load_since Void rows since loading few = absurd loading
load_since Due rows since loading few = absurd loading
