-- The place and the class of the pages of a row that lies in a range.
use Rattle.std.proofs.Common.{◌≡◌, ℕ, zero, suc, ◌+◌, ◌-◌, ◌*◌, ◌^◌, ◌<◌, ◌≤◌, Bool, true, false, List, [], ◌∷◌, Some, length, take, refl, ap, ◌∙◌, add-one, arith}
use Rattle.std.specs.Prelude.{slice_index_or, nat_lt, Any, IsSome, if◌then◌else◌}
use Rattle.std.proofs.lemmas.Bool.Decides.{nat_tests}
use Rattle.std.proofs.lemmas.List.Sums.{sum_by-cons, sum_by-take-le}
use Rattle.damon_types.specs.declared.filter.Filter.{Filter}
use Rattle.damon_types.specs.declared.space.Target.{Target}
use Rattle.damon_types.specs.declared.range.Range.{Range}
use Rattle.damon_types.specs.declared.row.Row.{Row}
use Rattle.damon_types.specs.Space.{pages_of, offset, place_from, place_of}
use Rattle.damon_types.specs.Ranges.{OrderedFrom, InOrder, IsRange, end_of, holds_page, class_of}
use Rattle.damon_types.specs.Span.{span_of}
use Rattle.damon_types.specs.Within.{LiesInTarget, AreWithin}
use Rattle.region_list.specs.Tiles.{LiesIn}
use Rattle.scheme_filter.specs.declared.row_pages.RowPages.{RowPages}
use Rattle.scheme_filter.specs.Passes.{passes}
use Rattle.scheme_filter.specs.RowPages.{answer_at}

offset-suc : (t : Target) (ts : List Target) (k : ℕ) → offset (t ∷ ts) (suc k) ≡ t.pages + offset ts k
offset-suc t ts k = sum_by-cons (λ (u : Target). u.pages) t (take k ts)

-- the place of a page follows from that of an earlier page of its target
place_moves : (i k first page : ℕ) (ts : List Target) → offset ts k ≤ first → first ≤ page → page < offset ts (suc k) → place_from i ts page ≡ record (place_from i ts first) { addr = (place_from i ts first).addr + 4096 * (page - first) }
place_moves i zero first page [] low later high = absurd (omega arith)
place_moves i (suc k) first page [] low later high = absurd (omega arith)
place_moves i zero first page (t ∷ ts) low later high =
    let first_here : nat_lt first t.pages ≡ true = let total = offset-suc t ts 0 in grind (arith, nat_tests) in
    let page_here : nat_lt page t.pages ≡ true = let total = offset-suc t ts 0 in grind (arith, nat_tests) in
    let addr : t.base + 4096 * page ≡ t.base + 4096 * first + 4096 * (page - first) = omega arith in
    rw (first_here, page_here) (ap (λ a. record { target = i; addr = a }) addr)
place_moves i (suc k) first page (t ∷ ts) low later high =
    let total = offset-suc t ts k in
    let next = offset-suc t ts (suc k) in
    let first_later : nat_lt first t.pages ≡ false = grind (arith, nat_tests) in
    let page_later : nat_lt page t.pages ≡ false = grind (arith, nat_tests) in
    let rest = place_moves (i + 1) k (first - t.pages) (page - t.pages) ts (omega (arith, total)) (omega arith) (omega (arith, next, total)) in
    let gap : page - t.pages - (first - t.pages) ≡ page - first = omega (arith, total) in
    rw (first_later, page_later) (rest ∙ ap (λ n. record (place_from (i + 1) ts (first - t.pages)) { addr = (place_from (i + 1) ts (first - t.pages)).addr + 4096 * n }) gap)

-- a range of a list in order begins at or after the page where the list may begin
pub range_from : (t b : ℕ) (gs : List Range) (k : ℕ) (d : Range) → OrderedFrom t b gs → k < length gs → b ≤ (slice_index_or gs k d).first
range_from t b [] k d order within = absurd (omega (arith, within))
range_from t b (g ∷ gs) zero d order within = order.1
range_from t b (g ∷ gs) (suc k) d order within = omega (arith, order.1, range_from g.target (end_of g) gs k d order.3 (omega (arith, within)))

pub range_fits : (t b : ℕ) (gs : List Range) (k : ℕ) (d : Range) → OrderedFrom t b gs → k < length gs → IsRange (slice_index_or gs k d)
range_fits t b [] k d order within = absurd (omega (arith, within))
range_fits t b (g ∷ gs) zero d order within = order.2
range_fits t b (g ∷ gs) (suc k) d order within = range_fits g.target (end_of g) gs k d order.3 (omega (arith, within))

-- two pages of one range have one class
class_same : (t b : ℕ) (gs : List Range) (k : ℕ) (d : Range) (first page : ℕ) → OrderedFrom t b gs → k < length gs → (slice_index_or gs k d).first ≤ first → first ≤ page → page < end_of (slice_index_or gs k d) → class_of gs page ≡ class_of gs first
class_same t b [] k d first page order within low later high = absurd (omega (arith, within))
class_same t b (g ∷ gs) zero d first page order within low later high =
    let first_here : holds_page first g ≡ true = grind (arith, nat_tests) in
    let page_here : holds_page page g ≡ true = grind (arith, nat_tests) in
    rw (first_here, page_here) refl
class_same t b (g ∷ gs) (suc k) d first page order within low later high =
    let from = range_from g.target (end_of g) gs k d order.3 (omega (arith, within)) in
    let first_later : holds_page first g ≡ false = grind (arith, nat_tests) in
    let page_later : holds_page page g ≡ false = grind (arith, nat_tests) in
    rw (first_later, page_later) (class_same g.target (end_of g) gs k d first page order.3 (omega (arith, within)) low later high)

-- the pages of a range have its class
pub class_at : (t b : ℕ) (gs : List Range) (k : ℕ) (d : Range) (page : ℕ) → OrderedFrom t b gs → k < length gs → (slice_index_or gs k d).first ≤ page → page < end_of (slice_index_or gs k d) → class_of gs page ≡ Some (slice_index_or gs k d).class
class_at t b [] k d page order within low high = absurd (omega (arith, within))
class_at t b (g ∷ gs) zero d page order within low high =
    let here : holds_page page g ≡ true = grind (arith, nat_tests) in
    rw here refl
class_at t b (g ∷ gs) (suc k) d page order within low high =
    let from = range_from g.target (end_of g) gs k d order.3 (omega (arith, within)) in
    let later : holds_page page g ≡ false = grind (arith, nat_tests) in
    rw later (class_at g.target (end_of g) gs k d page order.3 (omega (arith, within)) low high)

-- a row in a range ends where the range does, or before
row_end-le : (gs : List Range) (r : Row) → (held : Any (LiesIn (span_of r)) gs) → r.start + r.pages ≤ end_of (slice_index_or gs held.0 held.1)
row_end-le gs r held = rw (held.3) (held.4.to)

row_start-ge : (gs : List Range) (r : Row) → (held : Any (LiesIn (span_of r)) gs) → (slice_index_or gs held.0 held.1).first ≤ r.start
row_start-ge gs r held = rw (held.3) (held.4.from)

pub row_fits : (gs : List Range) (r : Row) → InOrder gs → Any (LiesIn (span_of r)) gs → r.start + r.pages < 2 ^ 32
row_fits gs r order held = omega (arith, row_end-le gs r held, (range_fits 0 0 gs held.0 held.1 order held.2).end)

-- the pages of a range in a space are pages of the space
range_within : (ts : List Target) (g : Range) → LiesInTarget ts g → end_of g ≤ pages_of ts
range_within ts g lies = omega (arith, lies.to, sum_by-take-le (λ (u : Target). u.pages) ts (g.target + 1))

pub row_within : (ts : List Target) (gs : List Range) (r : Row) → AreWithin ts gs → Any (LiesIn (span_of r)) gs → r.start + r.pages ≤ pages_of ts
row_within ts gs r within held = omega (arith, row_end-le gs r held, range_within ts (slice_index_or gs held.0 held.1) (within held.0 held.1 held.2))

-- so is a page that a range holds
pub page_within : (ts : List Target) (gs : List Range) (page : ℕ) → AreWithin ts gs → IsSome (class_of gs page) → page < pages_of ts
page_within ts [] page within held = absurd (cc held)
page_within ts (g ∷ gs) page within held = by (holds_page page g) refl held (page_within ts gs page (λ k d inside. within (suc k) d (omega (arith, inside))))
  where
    by : (v : Bool) → holds_page page g ≡ v → IsSome (if v then Some g.class else class_of gs page) → (IsSome (class_of gs page) → page < pages_of ts) → page < pages_of ts
    by true is some rest = let before : page < end_of g = grind (arith, nat_tests) in omega (arith, before, range_within ts g (within 0 g (omega arith)))
    by false is some rest = rest some

-- the answer for a page of the row follows from the place and the class of the first
pub row_answer : (fs : List Filter) (ts : List Target) (gs : List Range) (r : Row) (row : RowPages) (page : ℕ) → InOrder gs → AreWithin ts gs → Any (LiesIn (span_of r)) gs → row.start ≡ r.start → row.first ≡ place_of ts r.start → row.class ≡ class_of gs r.start → r.start ≤ page → page < r.start + r.pages → passes fs ts gs page ≡ answer_at fs row page
row_answer fs ts gs r row page order within held start first class low high = rw (place, same, start, first, class) refl
  where
    g : Range
    g = slice_index_or gs held.0 held.1

    target : LiesInTarget ts g
    target = within held.0 held.1 held.2

    before : page < end_of g
    before = omega (arith, high, row_end-le gs r held)

    place : place_of ts page ≡ record (place_of ts r.start) { addr = (place_of ts r.start).addr + 4096 * (page - r.start) }
    place = place_moves 0 g.target r.start page ts (omega (arith, target.from, row_start-ge gs r held)) low (omega (arith, before, target.to, ap (offset ts) (add-one g.target)))

    same : class_of gs page ≡ class_of gs r.start
    same = class_same 0 0 gs held.0 held.1 r.start page order held.2 (row_start-ge gs r held) low before
