-- The class of a page, by the last range that begins at or before it.
use Rattle.std.proofs.Common.{◌≡◌, ℕ, zero, suc, ◌-◌, ◌≤◌, ◌<◌, List, [], ◌∷◌, length, get_or, Some, None, true, false, refl, ◌∙◌, arith, if◌then◌else◌}
use Rattle.std.proofs.lemmas.Bool.Decides.{nat_tests}
use Rattle.std.specs.List.Sorted.{IsPartitionPoint, IsNonDecreasingBy}
use Rattle.damon_types.specs.declared.range.Range.{Range}
use Rattle.damon_types.specs.Ranges.{OrderedFrom, InOrder, IsRange, end_of, holds_page, class_of}

-- ranges that are ordered from a page begin at or after it
OrderedFrom-first : (t p : ℕ) (gs : List Range) (i : ℕ) (d : Range) → OrderedFrom t p gs → i < length gs → p ≤ (get_or gs i d).first
OrderedFrom-first t p [] i d ordered within = absurd (omega arith)
OrderedFrom-first t p (g ∷ gs) zero d ordered within = ordered.1
OrderedFrom-first t p (g ∷ gs) (suc i) d ordered within = omega (arith, ordered.1, OrderedFrom-first g.target (end_of g) gs i d ordered.3 (omega arith))

OrderedFrom-rises : (t p : ℕ) (gs : List Range) (i j : ℕ) (d : Range) → OrderedFrom t p gs → i ≤ j → j < length gs → (get_or gs i d).first ≤ (get_or gs j d).first
OrderedFrom-rises t p [] i j d ordered le within = absurd (omega arith)
OrderedFrom-rises t p (g ∷ gs) zero zero d ordered le within = omega arith
OrderedFrom-rises t p (g ∷ gs) zero (suc j) d ordered le within = omega (arith, OrderedFrom-first g.target (end_of g) gs j d ordered.3 (omega arith))
OrderedFrom-rises t p (g ∷ gs) (suc i) zero d ordered le within = absurd (omega arith)
OrderedFrom-rises t p (g ∷ gs) (suc i) (suc j) d ordered le within = OrderedFrom-rises g.target (end_of g) gs i j d ordered.3 (omega arith) (omega arith)

-- the first pages rise
pub firsts_rise : (gs : List Range) → InOrder gs → IsNonDecreasingBy (λ (g : Range). g.first) gs
firsts_rise gs ordered =
    λ i j d le within. OrderedFrom-rises 0 0 gs i j d ordered le within

-- no range holds a page before the first of them
class_of_before : (t p : ℕ) (gs : List Range) (page : ℕ) (d : Range) → OrderedFrom t p gs → (0 < length gs → page < (get_or gs 0 d).first) → class_of gs page ≡ None
class_of_before t p [] page d ordered before = refl
class_of_before t p (g ∷ gs) page d ordered before =
    let here : page < g.first = before (omega arith) in
    let not_held : holds_page page g ≡ false = grind (arith, nat_tests) in
    rw not_held (class_of_before g.target (end_of g) gs page d ordered.3 (λ some. omega (arith, OrderedFrom-first g.target (end_of g) gs 0 d ordered.3 some)))

-- where this range is the last that begins at or before the page, only it can hold the page
class_of_last : (t p : ℕ) (gs : List Range) (page i : ℕ) (d : Range) → OrderedFrom t p gs → i < length gs → (get_or gs i d).first ≤ page → (suc i < length gs → page < (get_or gs (suc i) d).first) → class_of gs page ≡ (if holds_page page (get_or gs i d) then Some (get_or gs i d).class else None)
class_of_last t p [] page i d ordered within from behind = absurd (omega arith)
class_of_last t p (g ∷ gs) page zero d ordered within from behind =
    let rest = class_of_before g.target (end_of g) gs page d ordered.3 (λ some. behind (omega arith)) in
    rw rest refl
class_of_last t p (g ∷ gs) page (suc i) d ordered within from behind =
    let later = OrderedFrom-first g.target (end_of g) gs i d ordered.3 (omega arith) in
    let not_held : holds_page page g ≡ false = grind (arith, nat_tests) in
    rw not_held (class_of_last g.target (end_of g) gs page i d ordered.3 (omega arith) from (λ more. behind (omega arith)))

OrderedFrom-IsRange : (t p : ℕ) (gs : List Range) (i : ℕ) (d : Range) → OrderedFrom t p gs → i < length gs → IsRange (get_or gs i d)
OrderedFrom-IsRange t p [] i d ordered within = absurd (omega arith)
OrderedFrom-IsRange t p (g ∷ gs) zero d ordered within = ordered.2
OrderedFrom-IsRange t p (g ∷ gs) (suc i) d ordered within = OrderedFrom-IsRange g.target (end_of g) gs i d ordered.3 (omega arith)

-- no range begins at or before the page
pub class_of_none : (gs : List Range) (page k : ℕ) → InOrder gs → IsPartitionPoint (λ g. g.first ≤ page) (λ g. page < g.first) gs k → k ≡ 0 → class_of gs page ≡ None
class_of_none [] page k ordered parts none = refl
class_of_none (g ∷ gs) page k ordered parts none = class_of_before 0 0 (g ∷ gs) page g ordered (λ some. parts.1 0 g (omega arith) some)

-- the last range that begins at or before the page
pub last_begun-IsRange : (gs : List Range) (page k : ℕ) (g : Range) → InOrder gs → k ≤ length gs → IsPartitionPoint (λ h. h.first ≤ page) (λ h. page < h.first) gs k → 0 < k → g ≡ get_or gs (k - 1) g → IsRange g
last_begun-IsRange gs page k g ordered within parts some is = rw (← is) at (OrderedFrom-IsRange 0 0 gs (k - 1) g ordered (omega arith))

last_decides : (gs : List Range) (page k : ℕ) (g : Range) → InOrder gs → k ≤ length gs → IsPartitionPoint (λ h. h.first ≤ page) (λ h. page < h.first) gs k → 0 < k → g ≡ get_or gs (k - 1) g → (g.first ≤ page) × (class_of gs page ≡ (if holds_page page g then Some g.class else None))
last_decides gs page k g ordered within parts some is =
    let from : (get_or gs (k - 1) g).first ≤ page = parts.0 (k - 1) g (omega arith) (omega arith) in
    let whole = class_of_last 0 0 gs page (k - 1) g ordered (omega arith) from (λ more. parts.1 (suc (k - 1)) g (omega arith) more) in
    (rw (← is) at from, rw (← is) at whole)

-- it holds the page
pub class_of_held : (gs : List Range) (page k : ℕ) (g : Range) → InOrder gs → k ≤ length gs → IsPartitionPoint (λ h. h.first ≤ page) (λ h. page < h.first) gs k → 0 < k → g ≡ get_or gs (k - 1) g → page < end_of g → class_of gs page ≡ Some g.class
class_of_held gs page k g ordered within parts some is here =
    let last = last_decides gs page k g ordered within parts some is in
    let held : holds_page page g ≡ true = grind (arith, nat_tests) in
    last.1 ∙ rw held refl

-- it ends before the page
pub class_of_passed : (gs : List Range) (page k : ℕ) (g : Range) → InOrder gs → k ≤ length gs → IsPartitionPoint (λ h. h.first ≤ page) (λ h. page < h.first) gs k → 0 < k → g ≡ get_or gs (k - 1) g → end_of g ≤ page → class_of gs page ≡ None
class_of_passed gs page k g ordered within parts some is past =
    let last = last_decides gs page k g ordered within parts some is in
    let not_held : holds_page page g ≡ false = grind (arith, nat_tests) in
    last.1 ∙ rw not_held refl
