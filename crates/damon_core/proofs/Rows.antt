-- The rows of each state that is reached: they tile their ranges within the limits.
use Rattle.std.proofs.Common.{◌≡◌, ℕ, suc, ◌+◌, ◌≤◌, ◌<◌, Bool, true, false, List, [], ◌∷◌, length, Ok, refl, sym, ap, subst, length-append, arith}
use Rattle.std.specs.Prelude.{◌==◌, nat_le}
use Rattle.std.specs.List.{AllByRecursion}
use Rattle.std.specs.Option.{unwrap_or}
use Rattle.std.proofs.lemmas.Bool.Decides.{nat_tests}
use Rattle.std.proofs.lemmas.List.{length-map}
use Rattle.std.proofs.lemmas.List.Elements.{recursion_from_All}
use Rattle.damon_types.specs.declared.range.Range.{Range}
use Rattle.damon_types.specs.declared.row.Row.{Row}
use Rattle.damon_types.specs.Attrs.{IsAttrs}
use Rattle.damon_types.specs.Ranges.{InOrder, end_of}
use Rattle.damon_types.specs.Space.{IsSpace}
use Rattle.damon_types.specs.Span.{Span, span_of, spans}
use Rattle.region_list.specs.Tiles.{Tiles}
use Rattle.region_list.specs.Tiling.{Chain, Tiling}
use Rattle.region_list.specs.Division.{divided}
use Rattle.live_commit.specs.declared.phase.Phase.{Phase}
use Rattle.live_commit.specs.declared.phase.Phase.TheVariants.{Idle, Clearing, Armed, Checking, Void, Due}
use Rattle.live_commit.specs.Commit.{CommitValue}
use Rattle.live_commit.specs.Setup.{SetupValue}
use Rattle.region_list.proofs.Lemmas.{length_shrunk, tiles, tiling_divided, tiling_shrunk, tiling_some}
use Rattle.damon_core.specs.Note.{Note}
use Rattle.damon_core.specs.State.{State, row_count, opening, opening_core}
use Rattle.damon_core.specs.Event.{IsLoading, load_index}
use Rattle.damon_core.specs.After.{counted_from, phase_cleared, phase_after_pass}
use Rattle.damon_core.specs.Reached.{CanOpen}
use Rattle.damon_core.specs.Pass.{IsPickWithin}
use Rattle.damon_core.proofs.Keeping.{Keeps}
use Rattle.damon_core.specs.Aggregate.{aggregated, served}
use Rattle.damon_core.specs.Commit.{check_of, committed, regions_after}
use Rattle.damon_core.proofs.Adapting.{AreRowsOf, served_kept, split_kept}
use Rattle.damon_core.proofs.Committing.{by_phase_after, commit_facts, regions_kept}
use Rattle.damon_core.proofs.RowFacts.{tiling_of_pages}

-- what is kept of the rows
pub record HasRows (s : State) : Type 0 where
  pub space : IsSpace s.core.space
  pub attrs : IsAttrs s.core.attrs
  pub order : InOrder s.core.regions.ranges
  pub tiling : Tiling s.core.regions.unit s.core.regions.ranges (spans s.core.regions.rows)
  pub tiles : Tiles s.core.regions.ranges (spans s.core.regions.rows) s.core.regions.unit
  pub wide : 1 ≤ s.core.regions.unit
  pub some : 0 < row_count s.core
  pub few : row_count s.core ≤ s.core.attrs.max
  pub max : s.core.regions.max ≡ s.core.attrs.max
  pub most : s.core.attrs.max ≤ s.core.regions.cap
  pub within : IsPickWithin s.core.phase (row_count s.core)

pub spans-counted_from : (k : ℕ) (notes : List Note) (n : ℕ) (rows : List Row) → spans (counted_from k notes n rows) ≡ spans rows
spans-counted_from k notes n [] = refl
spans-counted_from k notes n (r ∷ rows) = ap (λ ss. span_of r ∷ ss) (spans-counted_from (k + 1) notes n rows)

pub length-counted_from : (k : ℕ) (notes : List Note) (n : ℕ) (rows : List Row) → length (counted_from k notes n rows) ≡ length rows
length-counted_from k notes n [] = refl
length-counted_from k notes n (r ∷ rows) = ap suc (length-counted_from (k + 1) notes n rows)

within_after_clear : (k rows : ℕ) → k < rows → IsPickWithin (phase_cleared (k + 1) rows) rows
within_after_clear k rows below = elim (k + 1 == rows) as (λ b. (k + 1 == rows) ≡ b → IsPickWithin (phase_cleared (k + 1) rows) rows) [
  | true ↦ λ is. rw is tt
  | false ↦ λ isnt. (let more : k + 1 < rows = grind (arith, nat_tests) in rw isnt more)
] refl

within_after_pass : (since aggr rows : ℕ) → IsPickWithin (phase_after_pass since aggr) rows
within_after_pass since aggr rows = elim (nat_le aggr since) as (λ b. (nat_le aggr since) ≡ b → IsPickWithin (phase_after_pass since aggr) rows) [ true ↦ λ is. rw is tt | false ↦ λ isnt. rw isnt tt ] refl

within_after_load : (ph : Phase) (k rows : ℕ) → 0 < rows → IsLoading ph rows → load_index ph ≡ k → k + 1 ≤ rows
within_after_load Armed k rows some fits is = omega arith
within_after_load (Checking i) k rows some fits is = omega (arith, fits)
within_after_load Idle k rows some fits is = absurd fits
within_after_load (Clearing i) k rows some fits is = absurd fits
within_after_load Void k rows some fits is = absurd fits
within_after_load Due k rows some fits is = absurd fits

rows_open : (v : SetupValue) → CanOpen v → HasRows (opening v)
rows_open v can =
    let wide = recursion_from_All (λ (g : Range). v.unit ≤ g.pages) v.ranges can.sound.wide in
    let parts = divided v.unit v.attrs.min v.ranges in
    let divides : Tiling v.unit v.ranges (spans parts) = tiling_divided v.unit v.attrs.min v.ranges can.sound.unit_some wide in
    let pages : Tiling 1 v.ranges (spans parts) = tiling_of_pages v.unit v.ranges (spans parts) can.sound.unit_some divides in
    let rows = (opening_core v).regions.rows in
    let tiling : Tiling v.unit v.ranges (spans rows) = tiling_shrunk v.unit v.attrs.max v.ranges parts can.order pages can.sound.ranges_most divides in
    let some : 0 < length (spans rows) = tiling_some v.unit v.ranges (spans rows) can.sound.unit_some can.sound.ranges_some wide tiling in
    record {
      space = can.space;
      attrs = can.sound.attrs;
      order = can.order;
      tiling = tiling;
      tiles = tiles v.unit v.ranges (spans rows) can.sound.unit_some can.order tiling;
      wide = can.sound.unit_some;
      some = omega (arith, some, length-map rows span_of);
      few = length_shrunk v.attrs.max v.ranges parts can.order pages can.sound.ranges_most;
      max = refl;
      most = can.sound.max_cap;
      within = tt;
    }

-- the rows of a state as those of a monitor
pub rows_of : (s : State) → HasRows s → AreRowsOf s.core s.core.regions.rows
rows_of s h = record { tiling = h.tiling; some = h.some; few = omega (arith, h.few, h.max) }

rows_aggregate : (s : State) (ws : List ℕ) → HasRows s → HasRows (aggregated ws s)
rows_aggregate s ws h =
    let kept = split_kept ws s.core (served s).rows (served_kept s h.wide h.order (rows_of s h)) in
    record {
      space = h.space;
      attrs = h.attrs;
      order = h.order;
      tiling = kept.tiling;
      tiles = tiles s.core.regions.unit s.core.regions.ranges _ h.wide h.order kept.tiling;
      wide = h.wide;
      some = kept.some;
      few = omega (arith, kept.few, h.max);
      max = h.max;
      most = h.most;
      within = tt;
    }

rows_commit : (s : State) (c : CommitValue) → check_of c s.core ≡ Ok tt → HasRows s → HasRows (committed c s)
rows_commit s c ok h =
    let facts = commit_facts s.core c ok h.attrs h.most in
    let now = unwrap_or c.attrs s.core.attrs in
    let kept = regions_kept s.core.space c.ranges now.max s.core.regions h.space h.wide h.order h.tiling h.some facts.can in
    let new = regions_after s.core.space c.ranges now.max s.core.regions in
    let tiling = subst (λ unit. Tiling unit new.ranges (spans new.rows)) (sym kept.unit_is) kept.tiling in
    let wide = subst (λ unit. 1 ≤ unit) (sym kept.unit_is) h.wide in
    record {
      space = h.space;
      attrs = facts.attrs;
      order = kept.order;
      tiling = tiling;
      tiles = tiles new.unit new.ranges (spans new.rows) wide kept.order tiling;
      wide = wide;
      some = kept.some;
      few = kept.few;
      max = kept.max_is;
      most = subst (λ cap. now.max ≤ cap) (sym kept.cap_is) facts.can.within;
      within = by_phase_after (λ ph. IsPickWithin ph (length new.rows)) s.core.phase s.core.regions.rows new.rows facts.allows (λ is lies. tt) (λ is. tt) (λ is. tt) (λ is. tt) (λ is. tt);
    }

-- each step keeps the rows
pub rows_kept : (Q : State → Bool → Type 0) → Keeps Q HasRows
rows_kept Q = record {
  opens = rows_open;
  touching = λ s p h. record { space = h.space; attrs = h.attrs; order = h.order; tiling = h.tiling; tiles = h.tiles; wide = h.wide; some = h.some; few = h.few; max = h.max; most = h.most; within = h.within };
  preparing = λ s ws idle count h. record { space = h.space; attrs = h.attrs; order = h.order; tiling = h.tiling; tiles = h.tiles; wide = h.wide; some = h.some; few = h.few; max = h.max; most = h.most; within = h.some };
  clearing = λ s k is h. record { space = h.space; attrs = h.attrs; order = h.order; tiling = h.tiling; tiles = h.tiles; wide = h.wide; some = h.some; few = h.few; max = h.max; most = h.most; within = within_after_clear k (row_count s.core) (subst (λ (ph : Phase). IsPickWithin ph (row_count s.core)) is h.within) };
  loading = λ s k hit fits is known h. record { space = h.space; attrs = h.attrs; order = h.order; tiling = h.tiling; tiles = h.tiles; wide = h.wide; some = h.some; few = h.few; max = h.max; most = h.most; within = within_after_load s.core.phase k (row_count s.core) h.some fits is };
  finishing = λ s is h.
      (let same = length-counted_from 0 s.notes (s.core.ticks + 1) s.core.regions.rows in
      let places = spans-counted_from 0 s.notes (s.core.ticks + 1) s.core.regions.rows in
      record {
        space = h.space;
        attrs = h.attrs;
        order = h.order;
        tiling = subst (Tiling s.core.regions.unit s.core.regions.ranges) (sym places) h.tiling;
        tiles = subst (λ (ss : List Span). Tiles s.core.regions.ranges ss s.core.regions.unit) (sym places) h.tiles;
        wide = h.wide;
        some = omega (arith, h.some, same);
        few = omega (arith, h.few, same);
        max = h.max;
        most = h.most;
        within = within_after_pass (s.core.since + 1) s.core.attrs.aggr (length (counted_from 0 s.notes (s.core.ticks + 1) s.core.regions.rows));
      });
  voiding = λ s is h. record { space = h.space; attrs = h.attrs; order = h.order; tiling = h.tiling; tiles = h.tiles; wide = h.wide; some = h.some; few = h.few; max = h.max; most = h.most; within = within_after_pass (s.core.since + 1) s.core.attrs.aggr (row_count s.core) };
  aggregating = λ s ws is h. rows_aggregate s ws h;
  committing = rows_commit;
}
