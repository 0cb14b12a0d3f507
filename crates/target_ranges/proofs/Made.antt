-- Ranges that are made of specs without a fault.
use Rattle.std.proofs.Common.{◌≡◌, inl, inr, ℕ, suc, ◌+◌, ◌-◌, ◌/◌, ◌%◌, ◌^◌, ◌≤◌, ◌<◌, false, List, [], ◌∷◌, ◌++◌, length, take, drop, get_or, Ok, Some, None, ap, sym, ◌∙◌, arith, add-one, drop-cons, take-append-drop}
use Rattle.std.proofs.lemmas.Bool.{cases_lt}
use Rattle.std.proofs.lemmas.Bool.Decides.{nat_tests}
use Rattle.std.proofs.lemmas.List.{length-map, length-take-le, map-append}
use Rattle.std.proofs.lemmas.List.Elements.{All-from_recursion, All-map, All-weaker}
use Rattle.std.proofs.lemmas.Option.{slice_get_within}
use Rattle.std.specs.List.{AllByRecursion}
use Rattle.std.specs.Prelude.{All, Option, slice_index, map}
use Rattle.damon_types.specs.declared.space.Target.{Target}
use Rattle.damon_types.specs.declared.range.Range.{Range}
use Rattle.damon_types.specs.declared.range.RangeSpec.{RangeSpec}
use Rattle.damon_types.specs.Ranges.{OrderedFrom, InOrder, Follows, IsRange, end_of}
use Rattle.damon_types.specs.Space.{pages_of, offset}
use Rattle.damon_types.specs.Within.{LiesInTarget}
use Rattle.target_ranges.specs.Checked.{checked_from, checked_range, checked_ranges, overlaps}
use Rattle.target_ranges.specs.Laws.{MakesEach, MakesInOrder, MakesWide, MakesWithin}
use Rattle.target_ranges.specs.Made.{IsPlaced, page_count, range_of, ranges_of}
use Rattle.target_ranges.proofs.Accepted.{accepted}
use Rattle.target_ranges.proofs.Faults.{first_accepted, checked_ranges-room}
use Rattle.damon_types.proofs.Lemmas.{offset-le, offset-next}
use Rattle.target_ranges.proofs.Offsets.{base_of_there, offset-total}

-- the pages up to an address between, and from there on
pages_add : (base from to : ℕ) → from % 4096 ≡ 0 → to % 4096 ≡ 0 → base ≤ from → from < to → (from - base) / 4096 + (to - from) / 4096 ≡ (to - base) / 4096
pages_add base from to begins ends low some = omega arith

-- the range of a spec ends where the spec does
ends_at : (ts : List Target) (s : RangeSpec) → IsPlaced ts s → end_of (range_of ts s) ≡ offset ts s.target + (s.to - (slice_index (map (λ (t : Target). t.base) ts) s.target)) / 4096
ends_at ts s placed =
    let base = base_of_there ts s.target placed.place placed.there in
    omega (arith, pages_add (slice_index (map (λ (t : Target). t.base) ts) s.target) s.from s.to placed.begins placed.ends (omega (arith, base, placed.low)) placed.some)

-- its pages are pages of its target
pub placed-LiesInTarget : (ts : List Target) (s : RangeSpec) → IsPlaced ts s → LiesInTarget ts (range_of ts s)
placed-LiesInTarget ts s placed =
    let next = offset-next ts s.target placed.place placed.there in
    let base = base_of_there ts s.target placed.place placed.there in
    let most : (s.to - (slice_index (map (λ (t : Target). t.base) ts) s.target)) / 4096 ≤ placed.place.pages = omega (arith, base, placed.high) in
    record {
      target = slice_get_within ts s.target placed.place placed.there;
      from = omega arith;
      to = rw add-one (omega (arith, next, most, ends_at ts s placed));
    }

-- it has a page, and ends before page 2^32
pub placed-IsRange : (ts : List Target) (s : RangeSpec) → pages_of ts < 2 ^ 32 → IsPlaced ts s → IsRange (range_of ts s)
placed-IsRange ts s small placed = record {
  pages = omega (arith, placed.begins, placed.ends, placed.some);
  end = omega (arith, (placed-LiesInTarget ts s placed).to, offset-total ts (s.target + 1));
}

-- specs that do not overlap make ranges that follow each other
apart_follow : (ts : List Target) (p s : RangeSpec) → IsPlaced ts p → IsPlaced ts s → overlaps (Some p) s ≡ false → (p.target ≤ s.target) × (end_of (range_of ts p) ≤ (range_of ts s).first)
apart_follow ts p s before placed apart =
    elim (cases_lt p.target s.target) [
      | inl earlier ↦
          let rise = offset-le ts (p.target + 1) s.target (omega arith) in
          (omega arith, omega (arith, (placed-LiesInTarget ts p before).to, rise))
      | inr not_earlier ↦
          let same : p.target ≡ s.target = grind (arith, nat_tests) in
          let below : p.to ≤ s.from = grind (arith, nat_tests) in
          let base = ap (λ i. slice_index (map (λ (t : Target). t.base) ts) i) same in
          (omega arith, omega (arith, ends_at ts p before, ap (offset ts) same, base, below))
    ]

ordered_behind : (ts : List Target) (unit room index : ℕ) (p : RangeSpec) (specs : List RangeSpec) → pages_of ts < 2 ^ 32 → IsPlaced ts p → checked_from ts unit room index (Some p) specs ≡ Ok tt → OrderedFrom p.target (end_of (range_of ts p)) (ranges_of ts specs)
ordered_behind ts unit room index p [] small before ok = tt
ordered_behind ts unit room index p (s ∷ specs) small before ok =
    let first = first_accepted ts unit room index (Some p) s specs ok in
    let here = (accepted ts unit room index (Some p) s first.0).1 in
    let follow = apart_follow ts p s before here.placed here.apart in
    (follow.0, follow.1, placed-IsRange ts s small here.placed, ordered_behind ts unit room (index + 1) s specs small here.placed first.1)

-- the ranges of specs without a fault are in order
pub ranges_of-InOrder : (ts : List Target) (unit room : ℕ) (specs : List RangeSpec) → pages_of ts < 2 ^ 32 → checked_ranges ts unit room specs ≡ Ok tt → InOrder (ranges_of ts specs)
ranges_of-InOrder ts unit room [] small ok = tt
ranges_of-InOrder ts unit room (s ∷ specs) small ok =
    let first = first_accepted ts unit room 0 None s specs ok in
    let here = (accepted ts unit room 0 None s first.0).1 in
    (omega arith, omega arith, placed-IsRange ts s small here.placed, ordered_behind ts unit room 1 s specs small here.placed first.1)

-- what each spec of a list without a fault keeps
pub record IsGood (ts : List Target) (unit : ℕ) (s : RangeSpec) : Type 0 where
  pub placed : IsPlaced ts s
  pub wide : unit ≤ page_count s
  pub class : s.class ≤ 15

pub is_good : (ts : List Target) (unit room index : ℕ) (before : Option RangeSpec) (s : RangeSpec) → checked_range ts unit room index before s ≡ Ok tt → IsGood ts unit s
is_good ts unit room index before s ok =
    let here = (accepted ts unit room index before s ok).1 in
    record { placed = here.placed; wide = here.wide; class = here.class }

pub good_from : (ts : List Target) (unit room index : ℕ) (before : Option RangeSpec) (specs : List RangeSpec) → checked_from ts unit room index before specs ≡ Ok tt → AllByRecursion (IsGood ts unit) specs
good_from ts unit room index before [] ok = tt
good_from ts unit room index before (s ∷ specs) ok =
    let first = first_accepted ts unit room index before s specs ok in
    (is_good ts unit room index before s first.0, good_from ts unit room (index + 1) (Some s) specs first.1)

pub all_good : (ts : List Target) (unit room : ℕ) (specs : List RangeSpec) → checked_ranges ts unit room specs ≡ Ok tt → All (IsGood ts unit) specs
all_good ts unit room specs ok = All-from_recursion (IsGood ts unit) specs (good_from ts unit room 0 None specs ok)

-- so each range has it too
pub each_made : (ts : List Target) (unit room : ℕ) (specs : List RangeSpec) (P : Range → Type 0) → ((s : RangeSpec) → IsGood ts unit s → P (range_of ts s)) → checked_ranges ts unit room specs ≡ Ok tt → All P (ranges_of ts specs)
each_made ts unit room specs P has ok =
    All-map P (range_of ts) specs (All-weaker (IsGood ts unit) (λ s. P (range_of ts s)) has specs (all_good ts unit room specs ok))

-- in a list in order, each range comes after those before it
follows_in_order : (t p : ℕ) (gs : List Range) (g : Range) (hs : List Range) → OrderedFrom t p (gs ++ g ∷ hs) → Follows gs g
follows_in_order t p [] g hs ordered = tt
follows_in_order t p (h ∷ []) g hs ordered = (ordered.3.0, ordered.3.1)
follows_in_order t p (h ∷ i ∷ gs) g hs ordered = follows_in_order h.target (end_of h) (i ∷ gs) g hs ordered.3

follows_made : (ts : List Target) (t p : ℕ) (specs : List RangeSpec) (i : ℕ) (s : RangeSpec) → i < length specs → OrderedFrom t p (ranges_of ts specs) → Follows (ranges_of ts (take i specs)) (range_of ts (get_or specs i s))
follows_made ts t p specs i s within ordered =
    let parts : specs ≡ take i specs ++ get_or specs i s ∷ drop (suc i) specs = rw (← drop-cons specs i s within) (sym (take-append-drop i specs)) in
    let made : ranges_of ts specs ≡ ranges_of ts (take i specs) ++ range_of ts (get_or specs i s) ∷ ranges_of ts (drop (suc i) specs) = ap (ranges_of ts) parts ∙ map-append (range_of ts) (take i specs) (get_or specs i s ∷ drop (suc i) specs) in
    follows_in_order t p (ranges_of ts (take i specs)) (range_of ts (get_or specs i s)) (ranges_of ts (drop (suc i) specs)) (rw made at ordered)

-- a spec of a list that is accepted: its range can be pushed after those of the specs before it
pub record CanPush (ts : List Target) (room : ℕ) (before : List Range) (s : RangeSpec) : Type 0 where
  pub placed : IsPlaced ts s
  pub range : IsRange (range_of ts s)
  pub after : Follows before (range_of ts s)
  pub few : length before < room

pub can_push : (ts : List Target) (unit room : ℕ) (specs : List RangeSpec) (i : ℕ) (s : RangeSpec) → pages_of ts < 2 ^ 32 → i < length specs → checked_ranges ts unit room specs ≡ Ok tt → CanPush ts room (ranges_of ts (take i specs)) (get_or specs i s)
can_push ts unit room specs i s small within ok =
    let placed = (all_good ts unit room specs ok i s within).placed in
    record {
      placed = placed;
      range = placed-IsRange ts (get_or specs i s) small placed;
      after = follows_made ts 0 0 specs i s within (ranges_of-InOrder ts unit room specs small ok);
      few = omega (arith, length-map (take i specs) (range_of ts), length-take-le i specs (omega arith), checked_ranges-room ts unit room specs ok);
    }

-- a spec has no more pages than there are
pub few_pages : (ts : List Target) (s : RangeSpec) → IsPlaced ts s → page_count s ≤ pages_of ts
few_pages ts s placed =
    let lies = placed-LiesInTarget ts s placed in
    omega (arith, lies.from, lies.to, offset-total ts (s.target + 1))

-- what holds of the ranges made of specs that are accepted
pub made_in_order : MakesInOrder
made_in_order = λ ts unit room specs sound ok. ranges_of-InOrder ts unit room specs (omega (arith, sound.total)) ok

pub made_each : MakesEach
made_each = λ ts specs. length-map specs (range_of ts)

pub made_wide : MakesWide
made_wide = λ ts unit room specs ok. each_made ts unit room specs (λ (g : Range). unit ≤ g.pages) (λ s good. good.wide) ok

pub made_within : MakesWithin
made_within = λ ts unit room specs ok. each_made ts unit room specs (LiesInTarget ts) (λ s good. placed-LiesInTarget ts s good.placed) ok
