-- The results of picks are handed to the monitor one after another.
use Rattle.std.proofs.Common.{◌≡◌, ℕ, zero, suc, ◌+◌, ◌<◌, Bool, List, [], ◌∷◌, ◌++◌, Some, take, map, refl, sym, ap, ◌∙◌, subst, arith}
use Rattle.std.specs.Prelude.{slice_get}
use mathlib.Core.List.{map-append}
use Rattle.live_commit.specs.declared.phase.Phase.TheVariants.{Armed, Checking}
use Rattle.damon_core.specs.After.{loaded_core}
use Rattle.damon_core.specs.Event.{load, IsLoading, IsObserving, load_index}
use Rattle.damon_core.specs.Makes.{Makes}
use Rattle.damon_core.proofs.Lemmas.{Makes-append}
use Rattle.damon_core.specs.State.{Core}
use Rattle.damon_core.specs.Stands.{MonitorView, Stands}
use Rattle.run_journal.specs.Phases.{phase_loaded}

-- one item more
take_next : {A : Type 0} (xs : List A) (k : ℕ) (x : A) → slice_get xs k ≡ Some x → take (k + 1) xs ≡ take k xs ++ x ∷ []
take_next [] k x here = absurd (cc here)
take_next (y ∷ ys) zero x here = let e : y ≡ x = cc here in ap (λ z. z ∷ []) e
take_next (y ∷ ys) (suc k) x here = let more : suc k + 1 ≡ suc (k + 1) = omega arith in ap (λ n. take n (y ∷ ys)) more ∙ ap (λ l. y ∷ l) (take_next ys k x here)

pub loading_phase : (k rows : ℕ) → k < rows → IsLoading (phase_loaded k) rows
loading_phase zero rows below = tt
loading_phase (suc k) rows below = below

index_loaded : (k : ℕ) → load_index (phase_loaded k) ≡ k
index_loaded zero = refl
index_loaded (suc k) = refl

next_phase : (k : ℕ) → Checking (k + 1) ≡ phase_loaded (k + 1)
next_phase k = let e : k + 1 ≡ suc k = omega arith in ap (λ n. Checking n) e ∙ sym (ap phase_loaded e)

-- once all are loaded the pass may be observed
pub all_observed : (n : ℕ) → 0 < n → IsObserving (phase_loaded n) n
all_observed zero some = absurd (omega (arith, some))
all_observed (suc n) some = refl

-- all are loaded at once
pub core_all_loaded : (rows : ℕ) (c : Core) → c.phase ≡ Armed → 0 < rows → loaded_core rows c ≡ record c { phase = phase_loaded rows }
core_all_loaded zero c armed some = absurd (omega (arith, some))
core_all_loaded (suc n) c armed some =
    let none : load_index c.phase ≡ 0 = ap load_index armed in
    let all : load_index c.phase + suc n ≡ suc n = omega (arith, none) in
    ap (λ i. record c { phase = Checking i }) all

pub core_loaded : (k : ℕ) (before mid now : Core) → mid ≡ record before { phase = phase_loaded k } → now ≡ loaded_core 1 mid → now ≡ record before { phase = phase_loaded (k + 1) }
core_loaded k before mid now was is =
    is
    ∙ (ap (λ (c : Core). loaded_core 1 c) was
    ∙ (ap (λ n. record before { phase = Checking (n + 1) }) (index_loaded k)
    ∙ ap (λ ph. record before { phase = ph }) (next_phase k)))

pub events_loaded : (before mid now : MonitorView) (bits : List Bool) (k : ℕ) (bit : Bool) → slice_get bits k ≡ Some bit → Makes Stands before mid (map (λ b. load b) (take k bits)) → Makes Stands mid now (load bit ∷ [])
    → Makes Stands before now (map (λ b. load b) (take (k + 1) bits))
events_loaded before mid now bits k bit here so_far event =
    subst (λ bs. Makes Stands before now (map (λ b. load b) bs)) (sym (take_next bits k bit here))
    (subst (Makes Stands before now) (sym (map-append (λ b. load b) (take k bits) (bit ∷ [])))
    (Makes-append Stands before mid now (map (λ b. load b) (take k bits)) (load bit ∷ []) so_far event))
