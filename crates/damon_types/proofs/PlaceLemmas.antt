-- Where the pages of targets lie.
use Rattle.std.proofs.Common.{◌≡◌, ℕ, zero, suc, ◌+◌, ◌-◌, ◌*◌, ◌/◌, ◌^◌, ◌≤◌, ◌<◌, List, [], ◌∷◌, length, take, get_or, ◌⊎◌, true, false, Some, refl, ap, ◌∙◌, add-one, leb, leb-true, leb-false, arith, inl, inr}
use Rattle.std.proofs.lemmas.Bool.{cases_lt, lt-ltb, le-ltb}
use Rattle.std.proofs.lemmas.Grind.{get_or_default_zero}
use Rattle.std.proofs.lemmas.List.{take_all}
use Rattle.std.proofs.lemmas.List.Sums.{sum_by-cons}
use Rattle.std.proofs.lemmas.Option.{slice_get_read}
use Rattle.std.specs.List.Sorted.{IsPartitionPoint, IsNonDecreasingBy}
use Rattle.std.specs.Prelude.{slice_get, nat_lt}
use Rattle.damon_types.specs.declared.space.Target.{Target}
use Rattle.damon_types.specs.Space.{pages_of, offset, page_of, place_from, place_of, IsTarget}
use Rattle.damon_types.specs.Layout.{IsLayout}
use Rattle.damon_types.proofs.SpaceLemmas.{page_of_held}

offset-suc : (t : Target) (ts : List Target) (i : ℕ) → offset (t ∷ ts) (suc i) ≡ t.pages + offset ts i
offset-suc t ts i = sum_by-cons (λ (u : Target). u.pages) t (take i ts)

-- a target's pages lie between its offset and the next
pub offset-next : (ts : List Target) (i : ℕ) (t : Target) → slice_get ts i ≡ Some t → offset ts (suc i) ≡ offset ts i + t.pages
offset-next [] i t is = absurd (cc)
offset-next (u ∷ us) zero t is = let same : u ≡ t = cc in omega (arith, ap (λ (t : Target). t.pages) same, offset-suc u us 0)
offset-next (u ∷ us) (suc i) t is = omega (arith, offset-suc u us i, offset-suc u us (suc i), offset-next us i t is)

-- the offsets rise with the number of the target
pub offset-le : (ts : List Target) (i j : ℕ) → i ≤ j → offset ts i ≤ offset ts j
offset-le [] zero zero le = omega arith
offset-le [] zero (suc j) le = omega arith
offset-le [] (suc i) zero le = omega arith
offset-le [] (suc i) (suc j) le = omega arith
offset-le (t ∷ ts) zero j le = omega arith
offset-le (t ∷ ts) (suc i) zero le = absurd (omega arith)
offset-le (t ∷ ts) (suc i) (suc j) le = omega (arith, offset-suc t ts i, offset-suc t ts j, offset-le ts i j (omega arith))

-- the place of a page of a target, where the first target has number n
pub place_from_held : (n m : ℕ) (ts : List Target) (i page : ℕ) (t : Target) → m ≡ n + i → slice_get ts i ≡ Some t → offset ts i ≤ page → page < offset ts i + t.pages → place_from n ts page ≡ record { target = m; addr = t.base + 4096 * (page - offset ts i) }
place_from_held n m [] i page t sum is from to = absurd (cc)
place_from_held n m (u ∷ us) zero page t sum is from to =
    let same : u ≡ t = cc in
    let here : nat_lt page u.pages ≡ true = lt-ltb page u.pages (omega (arith, ap (λ (t : Target). t.pages) same)) in
    let target : n ≡ m = omega arith in
    let addr : u.base + 4096 * page ≡ t.base + 4096 * (page - offset (u ∷ us) 0) = omega (arith, ap (λ (t : Target). t.base) same) in
    rw here (cc (target, addr))
place_from_held n m (u ∷ us) (suc i) page t sum is from to =
    let sum_is = offset-suc u us i in
    let later : nat_lt page u.pages ≡ false = le-ltb page u.pages (omega arith) in
    let rest = place_from_held (n + 1) m us i (page - u.pages) t (omega arith) is (omega arith) (omega arith) in
    let addr : t.base + 4096 * (page - u.pages - offset us i) ≡ t.base + 4096 * (page - offset (u ∷ us) (suc i)) = omega arith in
    rw later (cc (rest, addr))

-- the place of a page of the target that is there
pub place_of_held : (ts : List Target) (i page : ℕ) (t : Target) → slice_get ts i ≡ Some t → offset ts i ≤ page → page < offset ts i + t.pages → place_of ts page ≡ record { target = i; addr = t.base + 4096 * (page - offset ts i) }
place_of_held ts i page t is from to = place_from_held 0 i ts i page t (omega arith) is from to

-- the page of its first byte
pub page_of_first_byte : (ts : List Target) (i page : ℕ) (t : Target) → slice_get ts i ≡ Some t → offset ts i ≤ page → page < offset ts i + t.pages → page_of ts i (t.base + 4096 * (page - offset ts i)) ≡ Some page
page_of_first_byte ts i page t is from to =
    page_of_held ts i (t.base + 4096 * (page - offset ts i)) t is (omega arith) (omega arith) ∙ ap (λ (p : ℕ). Some p) same
  where
    same : offset ts i + (t.base + 4096 * (page - offset ts i) - t.base) / 4096 ≡ page
    same = omega arith

offset_at : (ts : List Target) (offsets : List ℕ) (pages i d : ℕ) → IsLayout ts offsets pages → i < length offsets → get_or offsets i d ≡ offset ts i
offset_at ts offsets pages i d layout within = get_or_default_zero offsets i d within ∙ layout.each i (omega (arith, layout.count))

-- the offsets rise
pub offsets_rise : (ts : List Target) (offsets : List ℕ) (pages : ℕ) → IsLayout ts offsets pages → IsNonDecreasingBy (λ p. p) offsets
offsets_rise ts offsets pages layout =
    λ i j d le within. omega (arith, offset_at ts offsets pages i d layout (omega arith), offset_at ts offsets pages j d layout within, offset-le ts i j le)

-- a search among the offsets stops after the target that the page belongs to
pub target_found : (ts : List Target) (offsets : List ℕ) (pages page k : ℕ) → IsLayout ts offsets pages → page < pages_of ts → k ≤ length offsets → IsPartitionPoint (λ first. leb first page ≡ true) (λ first. leb first page ≡ false) offsets k → (1 ≤ k) × (offset ts (k - 1) ≤ page) × (page < offset ts k)
target_found ts offsets pages page k layout below bound point =
    (some, omega (arith, some, leb-true _ _ (point.0 (k - 1) 0 (omega arith) (omega (arith, some))), at (k - 1) (omega (arith, some))), behind (cases_lt k (length offsets)))
  where
    at : (i : ℕ) → i < length offsets → get_or offsets i 0 ≡ offset ts i
    at i within = offset_at ts offsets pages i 0 layout within

    first : (0 < k) ⊎ (k ≤ 0) → 1 ≤ k
    first (inl some) = omega arith
    first (inr none) =
        let within : 0 < length offsets = omega (arith, layout.count, layout.sound.some) in
        absurd (omega (arith, leb-false _ _ (point.1 0 0 (omega arith) within), at 0 within))

    some : 1 ≤ k
    some = first (cases_lt 0 k)

    behind : (k < length offsets) ⊎ (length offsets ≤ k) → page < offset ts k
    behind (inl within) = omega (arith, leb-false _ _ (point.1 k 0 (omega arith) within), at k within)
    behind (inr past) = omega (arith, ap pages_of (take_all k ts (omega (arith, layout.count))))

-- the place of a page, the page of that place, and that its address is below 2^63
pub place_found : (ts : List Target) (offsets : List ℕ) (pages i page first : ℕ) (t : Target) → IsLayout ts offsets pages → i < length ts → offset ts i ≤ page → page < offset ts (i + 1) → t ≡ get_or ts i t → first ≡ get_or offsets i first → (place_of ts page ≡ record { target = i; addr = t.base + 4096 * (page - first) }) × (page_of ts i (t.base + 4096 * (page - first)) ≡ Some page) × (t.base + 4096 * (page - first) < 2 ^ 63)
place_found ts offsets pages i page first t layout within from to is first_is =
    let held : slice_get ts i ≡ Some t = slice_get_read ts (length ts) i t refl within is in
    let begins : first ≡ offset ts i = first_is ∙ offset_at ts offsets pages i first layout (omega (arith, layout.count)) in
    let ends : page < offset ts i + t.pages = omega (arith, offset-next ts i t held, ap (offset ts) (add-one i)) in
    let target : IsTarget t = rw (← is) at (layout.sound.each i t within) in
    rw begins (place_of_held ts i page t held from ends, page_of_first_byte ts i page t held from ends, omega (arith, target.end))

-- the target of a page that is there
located : (ts : List Target) (page : ℕ) → page < pages_of ts → (i : ℕ) × (t : Target) × (slice_get ts i ≡ Some t) × (offset ts i ≤ page) × (page < offset ts i + t.pages)
located [] page below = absurd (omega arith)
located (t ∷ ts) page below =
    elim (cases_lt page t.pages) [
      | inl here ↦ (0, t, refl, omega arith, omega arith)
      | inr later ↦
          let rest = located ts (page - t.pages) (omega (arith, sum_by-cons (λ (u : Target). u.pages) t ts)) in
          (suc rest.0, rest.1, rest.2, omega (arith, rest.3, offset-suc t ts rest.0), omega (arith, later, rest.4, offset-suc t ts rest.0))
    ]

-- the page of the first byte of a page is that page
pub page_of-place_of : (ts : List Target) (page : ℕ) → page < pages_of ts → page_of ts (place_of ts page).target (place_of ts page).addr ≡ Some page
page_of-place_of ts page below =
    let at = located ts page below in
    rw (place_of_held ts at.0 page at.1 at.2 at.3 at.4) (page_of_first_byte ts at.0 page at.1 at.2 at.3 at.4)
