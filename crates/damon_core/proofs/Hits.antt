-- The hits of each state that is reached rest on touches.
use Rattle.std.proofs.Common.{◌≡◌, ℕ, ◌+◌, ◌≤◌, ◌<◌, Bool, true, false, cond, List, [], ◌∷◌, length, Ok, refl, sym, ◌∙◌, subst, inl, inr, arith}
use Rattle.std.specs.Prelude.{◌==◌, ◌&&◌, nat_le, slice_index}
use Rattle.std.proofs.lemmas.Bool.{cases_eq, or_cases, or_left, or_right, and_parts, and_from, both_ways, false≢true}
use Rattle.std.proofs.lemmas.Bool.Decides.{nat_tests}
use Rattle.damon_types.specs.declared.row.Row.{Row}
use Rattle.live_commit.specs.declared.phase.Phase.{Phase}
use Rattle.live_commit.specs.declared.phase.Phase.TheVariants.{Idle, Clearing, Armed, Checking, Void, Due}
use Rattle.live_commit.specs.Commit.{CommitValue}
use Rattle.damon_core.specs.Note.{Note, touched, cleared, checked, finished, voided, set, dropped, metric, turned, ran, cost, is_cleared, is_touched, hit}
use Rattle.damon_core.specs.State.{State, row_count}
use Rattle.damon_core.specs.Event.{IsLoading, load_index, next_hit}
use Rattle.damon_core.specs.After.{phase_cleared, phase_after_pass, loaded_at, by_clear}
use Rattle.damon_core.specs.Commit.{check_of, committed, committed_core, committed_notes}
use Rattle.damon_core.specs.Reached.{Reached}
use Rattle.damon_core.specs.Pass.{cleared_so_far}
use Rattle.damon_core.proofs.Walks.{EachHitRests, has_clear, touched_after_clear}
use Rattle.damon_core.proofs.Committing.{allows_commit, by_phase_after, committed_notes_hold, same_length}
use Rattle.damon_core.proofs.Keeping.{Keeps, any_result, true_result, reached_keeps}
use Rattle.damon_core.proofs.Opening.{opening_holds}
use Rattle.damon_core.proofs.Served.{notes_hold}
use Rattle.damon_core.proofs.Rows.{HasRows, rows_kept}

-- the pass has cleared each pick before the one that comes next
pub record HasClears (s : State) : Type 0 where
  pub each : (k : ℕ) → k < cleared_so_far s.core.phase (row_count s.core) → has_clear s.notes (s.core.ticks + 1) k (slice_index s.core.picks k) ≡ true

cleared_so_far-after_clear : (i k rows : ℕ) → k < cleared_so_far (phase_cleared (i + 1) rows) rows → k ≤ i
cleared_so_far-after_clear i k rows below = elim (i + 1 == rows) as (λ b. (i + 1 == rows) ≡ b → k ≤ i) [
  | true ↦ λ is. (let e : phase_cleared (i + 1) rows ≡ Armed = rw is refl in let all : k < rows = subst (λ ph. k < cleared_so_far ph rows) e below in grind (arith, nat_tests))
  | false ↦ λ isnt. (let e : phase_cleared (i + 1) rows ≡ Clearing (i + 1) = rw isnt refl in let some : k < i + 1 = subst (λ ph. k < cleared_so_far ph rows) e below in omega arith)
] refl

cleared_so_far-after_pass : (since aggr rows k : ℕ) → k < cleared_so_far (phase_after_pass since aggr) rows → ⊥
cleared_so_far-after_pass since aggr rows k below = elim (nat_le aggr since) as (λ b. (nat_le aggr since) ≡ b → ⊥) [
  | true ↦ λ is. (let none : cleared_so_far (phase_after_pass since aggr) rows ≡ 0 = rw is refl in omega arith)
  | false ↦ λ isnt. (let none : cleared_so_far (phase_after_pass since aggr) rows ≡ 0 = rw isnt refl in omega arith)
] refl

cleared_so_far-loading : (ph : Phase) (k rows : ℕ) → IsLoading ph rows → cleared_so_far ph rows ≡ rows
cleared_so_far-loading Armed k rows fits = refl
cleared_so_far-loading (Checking i) k rows fits = refl
cleared_so_far-loading Idle k rows fits = absurd fits
cleared_so_far-loading (Clearing i) k rows fits = absurd fits
cleared_so_far-loading Void k rows fits = absurd fits
cleared_so_far-loading Due k rows fits = absurd fits

clears_after_clear : (s : State) (i : ℕ) → s.core.phase ≡ Clearing i → HasClears s → HasClears (by_clear (Clearing i) s)
clears_after_clear s i is h = record { each = λ k below. later k (cleared_so_far-after_clear i k (row_count s.core) below) }
  where
    later : (k : ℕ) → k ≤ i → has_clear (by_clear (Clearing i) s).notes (s.core.ticks + 1) k (slice_index s.core.picks k) ≡ true
    later k below = elim (cases_eq i k) [
      | inl same ↦ (
          let here : (s.core.ticks + 1 == s.core.ticks + 1) ≡ true = grind (arith, nat_tests) in
          let index : (i == k) ≡ true = grind (arith, nat_tests) in
          let page : (slice_index s.core.picks i == slice_index s.core.picks k) ≡ true = grind (arith, nat_tests) in
          rw (here, index, page) refl)
      | inr other ↦ or_right _ _ (h.each k (subst (λ (ph : Phase). k < cleared_so_far ph (row_count s.core)) (sym is) (omega arith)))
    ]

clears_after_commit : (s : State) (c : CommitValue) → check_of c s.core ≡ Ok tt → HasClears s → HasClears (committed c s)
clears_after_commit s c ok h = record {
  each = by_phase_after Each s.core.phase s.core.regions.rows new (allows_commit c s.core ok)
      (λ is lies k below. noted k (h.each k (subst (λ (ph : Phase). k < cleared_so_far ph (row_count s.core)) (sym is) (omega (arith, below, same_length s.core.regions.rows new lies)))))
      (λ is k below. absurd (omega arith))
      (λ is k below. absurd (omega arith))
      (λ is k below. absurd (omega arith))
      (λ is k below. absurd (omega arith));
}
  where
    new : List Row
    new = (committed_core c s.core).regions.rows

    Each : Phase → Type 0
    Each ph = (k : ℕ) → k < cleared_so_far ph (length new) → has_clear (committed_notes c s.notes) (s.core.ticks + 1) k (slice_index s.core.picks k) ≡ true

    noted : (k : ℕ) → has_clear s.notes (s.core.ticks + 1) k (slice_index s.core.picks k) ≡ true → has_clear (committed_notes c s.notes) (s.core.ticks + 1) k (slice_index s.core.picks k) ≡ true
    noted k here = committed_notes_hold (λ notes. has_clear notes (s.core.ticks + 1) k (slice_index s.core.picks k) ≡ true) (λ slot scheme notes has. has) (λ slot notes has. has) (λ value notes has. has) (λ slot nanos notes has. has) c s.notes here

-- each step keeps the clears
pub clears_kept : (Q : State → Bool → Type 0) → Keeps Q HasClears
clears_kept Q = record {
  opens = λ v can. record { each = λ k below. absurd (omega arith) };
  touching = λ s p h. record { each = h.each };
  preparing = λ s ws idle count h. record { each = λ k below. absurd (omega arith) };
  clearing = clears_after_clear;
  loading = λ s i hit fits is known h. record { each = λ k below. h.each k (omega (arith, below, cleared_so_far-loading s.core.phase i (row_count s.core) fits)) };
  finishing = λ s is h. record { each = λ k below. absurd (cleared_so_far-after_pass (s.core.since + 1) s.core.attrs.aggr _ k below) };
  voiding = λ s is h. record { each = λ k below. absurd (cleared_so_far-after_pass (s.core.since + 1) s.core.attrs.aggr _ k below) };
  aggregating = λ s ws is h. record { each = λ k below. absurd (omega arith) };
  committing = clears_after_commit;
}

last_of_three : (a b c : Bool) → (a && (b && c)) ≡ true → c ≡ true
last_of_three a b c all = (and_parts b c (and_parts a (b && c) all).1).1

-- a page that a pass cleared is cleared
is_cleared-from_has_clear : (notes : List Note) (n k p : ℕ) → has_clear notes n k p ≡ true → is_cleared notes p ≡ true
is_cleared-from_has_clear [] n k p has = has
is_cleared-from_has_clear (cleared m j q ∷ notes) n k p has = elim (or_cases ((m == n) && ((j == k) && (q == p))) (has_clear notes n k p) has) [
  | inl here ↦ or_left (q == p) (is_cleared notes p) (last_of_three (m == n) (j == k) (q == p) here)
  | inr before ↦ or_right (q == p) (is_cleared notes p) (is_cleared-from_has_clear notes n k p before)
]
is_cleared-from_has_clear (touched q ∷ notes) n k p has = is_cleared-from_has_clear notes n k p has
is_cleared-from_has_clear (checked m j q h ∷ notes) n k p has = is_cleared-from_has_clear notes n k p has
is_cleared-from_has_clear (finished m rows ∷ notes) n k p has = is_cleared-from_has_clear notes n k p has
is_cleared-from_has_clear (voided m ∷ notes) n k p has = is_cleared-from_has_clear notes n k p has
is_cleared-from_has_clear (set m x ∷ notes) n k p has = is_cleared-from_has_clear notes n k p has
is_cleared-from_has_clear (dropped m ∷ notes) n k p has = is_cleared-from_has_clear notes n k p has
is_cleared-from_has_clear (metric m ∷ notes) n k p has = is_cleared-from_has_clear notes n k p has
is_cleared-from_has_clear (turned m t ∷ notes) n k p has = is_cleared-from_has_clear notes n k p has
is_cleared-from_has_clear (ran m t tried runs exceeds ∷ notes) n k p has = is_cleared-from_has_clear notes n k p has
is_cleared-from_has_clear (cost m ns ∷ notes) n k p has = is_cleared-from_has_clear notes n k p has

-- in each state that is reached the picks before the one that comes next are cleared
pub reached_cleared : (s : State) → Reached s → (k : ℕ) → k < cleared_so_far s.core.phase (row_count s.core) → is_cleared s.notes (slice_index s.core.picks k) ≡ true
reached_cleared s reached k below = is_cleared-from_has_clear s.notes (s.core.ticks + 1) k (slice_index s.core.picks k) ((reached_keeps HasClears (clears_kept any_result) s reached).each k below)

-- a page that is touched since its last clear is touched after each clear of it
touched_after_clear-from_is_touched : (notes : List Note) (n k p : ℕ) → is_touched notes p ≡ true → has_clear notes n k p ≡ true → touched_after_clear notes n k p ≡ true
touched_after_clear-from_is_touched [] n k p is has = has
touched_after_clear-from_is_touched (touched q ∷ notes) n k p is has = elim (or_cases (q == p) (is_touched notes p) is) [
  | inl now ↦ or_left ((q == p) && has_clear notes n k p) (touched_after_clear notes n k p) (and_from (q == p) (has_clear notes n k p) now has)
  | inr before ↦ or_right ((q == p) && has_clear notes n k p) (touched_after_clear notes n k p) (touched_after_clear-from_is_touched notes n k p before has)
]
touched_after_clear-from_is_touched (cleared m j q ∷ notes) n k p is has =
    let old = unless_same (q == p) (is_touched notes p) is in
    let earlier : has_clear notes n k p ≡ true = elim (or_cases ((m == n) && ((j == k) && (q == p))) (has_clear notes n k p) has) [
      | inl here ↦ absurd (both_ways (q == p) old.0 (last_of_three (m == n) (j == k) (q == p) here))
      | inr before ↦ before
    ] in
    touched_after_clear-from_is_touched notes n k p old.1 earlier
  where
    unless_same : (b t : Bool) → cond b false t ≡ true → (b ≡ false) × (t ≡ true)
    unless_same true t is = absurd (false≢true is)
    unless_same false t is = (refl, is)
touched_after_clear-from_is_touched (checked m j q h ∷ notes) n k p is has = touched_after_clear-from_is_touched notes n k p is has
touched_after_clear-from_is_touched (finished m rows ∷ notes) n k p is has = touched_after_clear-from_is_touched notes n k p is has
touched_after_clear-from_is_touched (voided m ∷ notes) n k p is has = touched_after_clear-from_is_touched notes n k p is has
touched_after_clear-from_is_touched (set m x ∷ notes) n k p is has = touched_after_clear-from_is_touched notes n k p is has
touched_after_clear-from_is_touched (dropped m ∷ notes) n k p is has = touched_after_clear-from_is_touched notes n k p is has
touched_after_clear-from_is_touched (metric m ∷ notes) n k p is has = touched_after_clear-from_is_touched notes n k p is has
touched_after_clear-from_is_touched (turned m t ∷ notes) n k p is has = touched_after_clear-from_is_touched notes n k p is has
touched_after_clear-from_is_touched (ran m t tried runs exceeds ∷ notes) n k p is has = touched_after_clear-from_is_touched notes n k p is has
touched_after_clear-from_is_touched (cost m ns ∷ notes) n k p is has = touched_after_clear-from_is_touched notes n k p is has

-- what is kept of the hits
pub record HasHits (s : State) : Type 0 where
  pub rows : HasRows s
  pub clears : HasClears s
  pub rests : EachHitRests s.notes

load_index-below : (ph : Phase) (rows : ℕ) → 0 < rows → IsLoading ph rows → load_index ph < cleared_so_far ph rows
load_index-below Armed rows some fits = some
load_index-below (Checking k) rows some fits = fits
load_index-below Idle rows some fits = absurd fits
load_index-below (Clearing k) rows some fits = absurd fits
load_index-below Void rows some fits = absurd fits
load_index-below Due rows some fits = absurd fits

EachHitRests-after_check : (notes : List Note) (n k p : ℕ) (hit : Bool) → (hit ≡ true → touched_after_clear notes n k p ≡ true) → EachHitRests notes → EachHitRests (checked n k p hit ∷ notes)
EachHitRests-after_check notes n k p true sound rests = (sound refl, rests)
EachHitRests-after_check notes n k p false sound rests = rests

load_rests : (s : State) (k : ℕ) (hit : Bool) → IsLoading s.core.phase (row_count s.core) → load_index s.core.phase ≡ k → hit ≡ next_hit s → HasHits s → EachHitRests (loaded_at k hit s).notes
load_rests s k hit fits is known h = EachHitRests-after_check s.notes (s.core.ticks + 1) k (slice_index s.core.picks k) hit sound h.rests
  where
    sound : hit ≡ true → touched_after_clear s.notes (s.core.ticks + 1) k (slice_index s.core.picks k) ≡ true
    sound found =
        let page : ℕ = slice_index s.core.picks k in
        let next : next_hit s ≡ true = sym known ∙ found in
        let here : (is_cleared s.notes page && is_touched s.notes page) ≡ true = subst (λ (i : ℕ). (is_cleared s.notes (slice_index s.core.picks i) && is_touched s.notes (slice_index s.core.picks i)) ≡ true) is next in
        let touch : is_touched s.notes page ≡ true = (and_parts (is_cleared s.notes page) (is_touched s.notes page) here).1 in
        let below : k < cleared_so_far s.core.phase (row_count s.core) = subst (λ (i : ℕ). i < cleared_so_far s.core.phase (row_count s.core)) is (load_index-below s.core.phase (row_count s.core) h.rows.some fits) in
        touched_after_clear-from_is_touched s.notes (s.core.ticks + 1) k page touch (h.clears.each k below)

-- each step keeps the hits, where the results of loads are those of their pages
pub hits_kept : Keeps true_result HasHits
hits_kept = let rows = rows_kept true_result in let clears = clears_kept true_result in record {
  opens = λ v can. record { rows = rows.opens v can; clears = clears.opens v can; rests = opening_holds EachHitRests tt (λ slot scheme notes rests. rests) v };
  touching = λ s p h. record { rows = rows.touching s p h.rows; clears = clears.touching s p h.clears; rests = h.rests };
  preparing = λ s ws idle count h. record { rows = rows.preparing s ws idle count h.rows; clears = clears.preparing s ws idle count h.clears; rests = h.rests };
  clearing = λ s k is h. record { rows = rows.clearing s k is h.rows; clears = clears.clearing s k is h.clears; rests = h.rests };
  loading = λ s k hit fits is known h. record { rows = rows.loading s k hit fits is known h.rows; clears = clears.loading s k hit fits is known h.clears; rests = load_rests s k hit fits is known h };
  finishing = λ s is h. record { rows = rows.finishing s is h.rows; clears = clears.finishing s is h.clears; rests = h.rests };
  voiding = λ s is h. record { rows = rows.voiding s is h.rows; clears = clears.voiding s is h.clears; rests = h.rests };
  aggregating = λ s ws is h. record { rows = rows.aggregating s ws is h.rows; clears = clears.aggregating s ws is h.clears; rests = notes_hold EachHitRests (record { turning = λ i t ns rests. rests; running = λ i t tried runs exceeds ns rests. rests }) s h.rests };
  committing = λ s c ok h. record {
    rows = rows.committing s c ok h.rows;
    clears = clears.committing s c ok h.clears;
    rests = committed_notes_hold EachHitRests (λ slot scheme notes rests. rests) (λ slot notes rests. rests) (λ value notes rests. rests) (λ slot nanos notes rests. rests) c s.notes h.rests;
  };
}
