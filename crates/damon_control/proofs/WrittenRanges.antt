-- The ranges of a setup by their addresses: they are accepted, and make these ranges again.
use Rattle.std.proofs.Common.{◌≡◌, ℕ, ◌+◌, ◌-◌, ◌*◌, ◌%◌, ◌<◌, ◌≤◌, ◌==◌, ◌&&◌, Bool, true, false, not, nat_le, nat_lt, List, [], ◌∷◌, length, map, get_or, Some, None, Ok, refl, sym, ap, ◌∙◌, arith, add-one}
use Rattle.std.specs.Prelude.{All, Option, slice_get}
use Rattle.std.proofs.lemmas.Bool.Decides.{nat_tests}
use Rattle.std.proofs.lemmas.List.Elements.{All-head, All-tail, All-get_or}
use Rattle.std.proofs.lemmas.Option.{slice_get-get_or}
use Rattle.damon_types.specs.declared.range.Range.{Range}
use Rattle.damon_types.specs.declared.range.RangeSpec.{RangeSpec}
use Rattle.damon_types.specs.declared.space.Place.{Place}
use Rattle.damon_types.specs.declared.space.Target.{Target}
use Rattle.damon_types.specs.Ranges.{OrderedFrom, end_of}
use Rattle.damon_types.specs.Space.{IsSpace, IsTarget, offset}
use Rattle.damon_types.specs.Within.{LiesInTarget}
use Rattle.target_ranges.specs.Checked.{checked_from, checked_within, overlaps}
use Rattle.target_ranges.specs.Made.{page_count, range_of, ranges_of}
use Rattle.damon_control.specs.Written.{spec_of}
use Rattle.damon_types.proofs.Lemmas.{offset-next, place_from_held}
use Rattle.target_ranges.proofs.Lemmas.{base_of_there}

-- a range in a target of a space, and its addresses
record IsThere (ts : List Target) (g : Range) : Type 0 where
  t : Target
  there : slice_get ts g.target ≡ Some t
  good : IsTarget t
  from : offset ts g.target ≤ g.first
  to : g.first + g.pages ≤ offset ts g.target + t.pages
  some : 1 ≤ g.pages
  addr : (spec_of ts g).from ≡ t.base + 4096 * (g.first - offset ts g.target)

range_there : (ts : List Target) (g : Range) → IsSpace ts → LiesInTarget ts g → 1 ≤ g.pages → IsThere ts g
range_there ts g space lies some =
    let none : Target = record { base = 0; pages = 0 } in
    let t = get_or ts g.target none in
    let there = slice_get-get_or ts g.target none lies.target in
    let next : offset ts (g.target + 1) ≡ offset ts g.target + t.pages = rw add-one (offset-next ts g.target t there) in
    let to : g.first + g.pages ≤ offset ts g.target + t.pages = omega (arith, lies.to, next) in
    record {
      t = t;
      there = there;
      good = All-get_or IsTarget ts g.target none lies.target space.each;
      from = lies.from;
      to = to;
      some = some;
      addr = ap (λ (p : Place). p.addr) (place_from_held 0 g.target ts g.target g.first t (omega arith) there lies.from (omega (arith, to, some)));
    }

-- ---- the ranges are accepted

accepted : (unit : ℕ) (before : Option RangeSpec) (s : RangeSpec) (t : Target) → s.from % 4096 ≡ 0 → s.to % 4096 ≡ 0 → s.from < s.to → t.base ≤ s.from → s.to ≤ t.base + 4096 * t.pages
    → unit ≤ page_count s → s.class ≤ 15 → overlaps before s ≡ false → checked_within unit before s (Some t) ≡ Ok tt
accepted unit before s t begins ends some low high wide class apart =
    let aligned : not ((s.from % 4096 == 0) && (s.to % 4096 == 0)) ≡ false = grind (arith, nat_tests) in
    let rises : nat_le s.to s.from ≡ false = grind (arith, nat_tests) in
    let inside : not (nat_le t.base s.from && nat_le s.to (t.base + 4096 * t.pages)) ≡ false = grind (arith, nat_tests) in
    let enough : nat_lt (page_count s) unit ≡ false = grind (arith, nat_tests) in
    let known : nat_lt 15 s.class ≡ false = grind (arith, nat_tests) in
    rw (aligned, rises, inside, enough, known, apart) refl

-- the range before, which ends at or before a page of this target
abbrev pub IsBefore : List Target → Option RangeSpec → ℕ → ℕ → Type 0
IsBefore ts None target page = Unit {0}
IsBefore ts (Some p) target page =
    (p.target ≡ target) × ((t : Target) → slice_get ts target ≡ Some t → p.to ≤ t.base + 4096 * (page - offset ts target))

comes_after : (ts : List Target) (before : Option RangeSpec) (target page : ℕ) (g : Range) → IsThere ts g → IsBefore ts before target page → target ≤ g.target → page ≤ g.first
    → overlaps before (spec_of ts g) ≡ false
comes_after ts None target page g is before same_or_later at_or_after = refl
comes_after ts (Some p) target page g is before same_or_later at_or_after =
    let later : nat_lt g.target p.target ≡ false = grind (arith, nat_tests, before.0) in
    rw later (by (g.target == p.target) refl)
  where
    by : (same : Bool) → (g.target == p.target) ≡ same → (same && nat_lt (spec_of ts g).from p.to) ≡ false
    by false e = refl
    by true e =
        let one : g.target ≡ p.target = grind (arith, nat_tests) in
        let target_is : target ≡ g.target = sym before.0 ∙ sym one in
        let there : slice_get ts target ≡ Some is.t = ap (slice_get ts) target_is ∙ is.there in
        let end = before.1 is.t there in
        let off : offset ts target ≡ offset ts g.target = ap (offset ts) target_is in
        let apart : p.to ≤ (spec_of ts g).from = rw is.addr (omega (arith, end, off, at_or_after, is.from)) in
        grind (arith, nat_tests, apart)

pub checked_written : (ts : List Target) (unit cap : ℕ) → IsSpace ts → 1 ≤ unit → (index target page : ℕ) (before : Option RangeSpec) (gs : List Range) → IsBefore ts before target page → OrderedFrom target page gs
    → All (LiesInTarget ts) gs → All (λ g. unit ≤ g.pages) gs → All (λ g. g.class ≤ 15) gs → index + length gs ≤ cap
    → checked_from ts unit cap index before (map (spec_of ts) gs) ≡ Ok tt
checked_written ts unit cap space some index target page before [] is order lie wide classes few = refl
checked_written ts unit cap space some index target page before (g ∷ gs) is order lie wide classes few =
    let lies = All-head (LiesInTarget ts) g gs lie in
    let enough = All-head (λ (h : Range). unit ≤ h.pages) g gs wide in
    let there = range_there ts g space lies (omega (arith, enough, some)) in
    let addr = there.addr in
    let good = there.good in
    let s = spec_of ts g in
    let begins : s.from % 4096 ≡ 0 = rw addr (omega (arith, good.aligned)) in
    let ends : (s.from + 4096 * g.pages) % 4096 ≡ 0 = omega (arith, begins) in
    let rises : s.from < s.from + 4096 * g.pages = omega (arith, there.some) in
    let low : there.t.base ≤ s.from = rw addr (omega arith) in
    let high : s.from + 4096 * g.pages ≤ there.t.base + 4096 * there.t.pages = omega (arith, addr, there.from, there.to) in
    let count : page_count s ≡ g.pages = omega arith in
    let room : nat_le cap index ≡ false = grind (arith, nat_tests, few) in
    let here = accepted unit before s there.t begins ends rises low high (omega (arith, count, enough)) (All-head (λ (h : Range). h.class ≤ 15) g gs classes) (comes_after ts before target page g there is order.0 order.1) in
    let next : IsBefore ts (Some s) g.target (end_of g) = (
      refl,
      λ t found.
          let same : there.t ≡ t = cc (there.there, found) in
          let base = ap (λ (u : Target). u.base) same in
          omega (arith, addr, there.from, base),
    ) in
    rw (room, there.there, here)
    (checked_written ts unit cap space some (index + 1) g.target (end_of g) (Some s) gs next order.3
    (All-tail (LiesInTarget ts) g gs lie) (All-tail (λ (h : Range). unit ≤ h.pages) g gs wide) (All-tail (λ (h : Range). h.class ≤ 15) g gs classes) (omega (arith, few)))

-- ---- and make the ranges again

range_again : (ts : List Target) (g : Range) → IsThere ts g → range_of ts (spec_of ts g) ≡ g
range_again ts g is =
    let base = base_of_there ts g.target is.t is.there in
    let first : (range_of ts (spec_of ts g)).first ≡ g.first = omega (arith, is.addr, base, is.from) in
    let pages : (range_of ts (spec_of ts g)).pages ≡ g.pages = omega arith in
    λ i. record { target = g.target; first = first i; pages = pages i; class = g.class }

pub ranges_again : (ts : List Target) (unit : ℕ) → IsSpace ts → 1 ≤ unit → (gs : List Range) → All (LiesInTarget ts) gs → All (λ g. unit ≤ g.pages) gs → ranges_of ts (map (spec_of ts) gs) ≡ gs
ranges_again ts unit space some [] lie wide = refl
ranges_again ts unit space some (g ∷ gs) lie wide =
    let enough = All-head (λ (h : Range). unit ≤ h.pages) g gs wide in
    let there = range_there ts g space (All-head (LiesInTarget ts) g gs lie) (omega (arith, enough, some)) in
    (λ i. range_again ts g there i ∷ ranges_again ts unit space some gs (All-tail (LiesInTarget ts) g gs lie) (All-tail (λ (h : Range). unit ≤ h.pages) g gs wide) i)
