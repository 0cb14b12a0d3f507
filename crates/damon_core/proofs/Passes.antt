-- The passes of each state that is reached check one page of each row.
use Rattle.std.proofs.Common.{◌≡◌, ℕ, zero, suc, ◌+◌, ◌≤◌, ◌<◌, Bool, true, false, List, [], ◌∷◌, ◌++◌, length, take, Ok, refl, sym, ap, ◌∙◌, subst, add-one, arith}
use Rattle.std.specs.Prelude.{◌==◌, nat_le, slice_index}
use Rattle.std.specs.List.{enumerate_from, AllByRecursion, AllZip}
use Rattle.std.proofs.lemmas.Bool.Decides.{nat_tests}
use Rattle.std.proofs.lemmas.List.{take_all, length-map}
use Rattle.damon_types.specs.declared.row.Row.{Row}
use Rattle.damon_types.specs.Span.{Span, span_of, spans}
use Rattle.sampler.specs.Pick.{picks_of}
use Rattle.live_commit.specs.declared.phase.Phase.{Phase}
use Rattle.live_commit.specs.declared.phase.Phase.TheVariants.{Idle, Clearing, Armed, Checking, Void, Due}
use Rattle.live_commit.specs.Commit.{CommitValue}
use Rattle.live_commit.specs.Setup.{SetupValue}
use Rattle.damon_core.specs.Note.{Note, touched, cleared, checked, finished, voided, set, dropped, metric, turned, ran, cost, clears_of, checks_of}
use Rattle.damon_core.specs.State.{State, row_count, opening, opening_notes}
use Rattle.damon_core.specs.Event.{IsLoading, load_index}
use Rattle.damon_core.specs.Aggregate.{aggregated, served}
use Rattle.damon_core.specs.Commit.{check_of, committed, committed_core, committed_notes}
use Rattle.damon_core.specs.After.{phase_cleared, phase_after_pass, prepared_core, loaded_at, finished_pass, by_clear, by_observe}
use Rattle.damon_core.specs.Kept.{loaded_so_far}
use Rattle.damon_core.specs.Pass.{IsPickWithin}
use Rattle.damon_core.proofs.Walks.{EachPassChecks}
use Rattle.damon_core.proofs.Committing.{allows_commit, by_phase_after, committed_notes_hold, none_loaded, none_loaded_after}
use Rattle.damon_core.proofs.Keeping.{Keeps}
use Rattle.damon_core.proofs.Opening.{opening_holds}
use Rattle.damon_core.proofs.Served.{notes_hold}
use Rattle.damon_core.proofs.Rows.{HasRows, rows_kept}

enumerate_from-take-suc : (n k j : ℕ) (ps : List ℕ) → k < length ps → n + k ≡ j → enumerate_from n (take (suc k) ps) ≡ enumerate_from n (take k ps) ++ (j, slice_index ps k) ∷ []
enumerate_from-take-suc n k j [] here is = absurd (omega arith)
enumerate_from-take-suc n zero j (p ∷ ps) here is = let e : n ≡ j = omega arith in ap (λ (i : ℕ). let x : ℕ × ℕ = (i, p) in x ∷ []) e
enumerate_from-take-suc n (suc k) j (p ∷ ps) here is = ap (λ (xs : List (ℕ × ℕ)). (n, p) ∷ xs) (enumerate_from-take-suc (n + 1) k j ps (omega arith) (omega arith))

-- one pick more
enumerate_from-take_more : (k : ℕ) (ps : List ℕ) → k < length ps → enumerate_from 0 (take (k + 1) ps) ≡ enumerate_from 0 (take k ps) ++ (k, slice_index ps k) ∷ []
enumerate_from-take_more k ps here = rw add-one (enumerate_from-take-suc 0 k k ps here (omega arith))

-- page k lies in row k, for each row
abbrev pub OneInEach : List ℕ → List Span → Type 0
OneInEach pages rows = AllZip (λ p s. (s.start ≤ p) × (p < s.start + s.pages)) pages rows

pub length-from_OneInEach : (ps : List ℕ) (ss : List Span) → OneInEach ps ss → length ps ≡ length ss
length-from_OneInEach [] [] one = refl
length-from_OneInEach (p ∷ ps) (s ∷ ss) one = ap suc (length-from_OneInEach ps ss one.1)
length-from_OneInEach [] (s ∷ ss) one = absurd one
length-from_OneInEach (p ∷ ps) [] one = absurd one

-- each word picks a page of its row
OneInEach-picks_of : (unit : ℕ) (rows : List Row) (ws : List ℕ) → 1 ≤ unit → AllByRecursion (λ s. unit ≤ s.pages) (spans rows) → length ws ≡ length rows → OneInEach (picks_of rows ws) (spans rows)
OneInEach-picks_of unit [] ws some wide count = tt
OneInEach-picks_of unit (r ∷ rows) [] some wide count = absurd (omega arith)
OneInEach-picks_of unit (r ∷ rows) (w ∷ ws) some wide count = ((omega arith, omega (arith, wide.0)), OneInEach-picks_of unit rows ws some wide.1 (omega arith))

-- the clears of the pass that is under way; of a void one nothing is said
abbrev pub ClearsAre : Phase → List ℕ → List (ℕ × ℕ) → Type 0
ClearsAre Idle picks clears = clears ≡ []
ClearsAre (Clearing k) picks clears = clears ≡ enumerate_from 0 (take k picks)
ClearsAre Armed picks clears = clears ≡ enumerate_from 0 picks
ClearsAre (Checking k) picks clears = clears ≡ enumerate_from 0 picks
ClearsAre Void picks clears = Unit {0}
ClearsAre Due picks clears = clears ≡ []

-- the picks of a pass under way lie in the rows
abbrev pub PicksLie : Phase → List ℕ → List Span → Type 0
PicksLie (Clearing k) picks rows = OneInEach picks rows
PicksLie Armed picks rows = OneInEach picks rows
PicksLie (Checking k) picks rows = OneInEach picks rows
PicksLie _ picks rows = Unit {0}

-- no pass that ends among the notes is a later one
abbrev pub EndsBy : ℕ → List Note → Type 0
EndsBy last [] = Unit {0}
EndsBy last (finished n rows ∷ earlier) = (n ≤ last) × EndsBy last earlier
EndsBy last (voided n ∷ earlier) = (n ≤ last) × EndsBy last earlier
EndsBy last (_ ∷ earlier) = EndsBy last earlier

-- what is kept of the passes
pub record HasPasses (s : State) : Type 0 where
  pub rows : HasRows s
  pub picks : PicksLie s.core.phase s.core.picks (spans s.core.regions.rows)
  pub clears : ClearsAre s.core.phase s.core.picks (clears_of s.notes (s.core.ticks + 1))
  pub checks : checks_of s.notes (s.core.ticks + 1) ≡ enumerate_from 0 (take (loaded_so_far s.core.phase) s.core.picks)
  pub no_later_clears : (n : ℕ) → s.core.ticks + 1 < n → clears_of s.notes n ≡ []
  pub no_later_checks : (n : ℕ) → s.core.ticks + 1 < n → checks_of s.notes n ≡ []
  pub ends : EndsBy s.core.ticks s.notes
  pub passes : EachPassChecks s.notes s.notes

ends_later : (m n : ℕ) (notes : List Note) → m ≤ n → EndsBy m notes → EndsBy n notes
ends_later m n [] low ends = tt
ends_later m n (finished i rows ∷ notes) low ends = (omega (arith, ends.0), ends_later m n notes low ends.1)
ends_later m n (voided i ∷ notes) low ends = (omega (arith, ends.0), ends_later m n notes low ends.1)
ends_later m n (touched p ∷ notes) low ends = ends_later m n notes low ends
ends_later m n (cleared i k p ∷ notes) low ends = ends_later m n notes low ends
ends_later m n (checked i k p h ∷ notes) low ends = ends_later m n notes low ends
ends_later m n (set i x ∷ notes) low ends = ends_later m n notes low ends
ends_later m n (dropped i ∷ notes) low ends = ends_later m n notes low ends
ends_later m n (metric i ∷ notes) low ends = ends_later m n notes low ends
ends_later m n (turned i t ∷ notes) low ends = ends_later m n notes low ends
ends_later m n (ran i t tried runs exceeds ∷ notes) low ends = ends_later m n notes low ends
ends_later m n (cost i ns ∷ notes) low ends = ends_later m n notes low ends

-- a list of all notes with the same clears and checks of the passes up to one
record SameUpTo (last : ℕ) (old new : List Note) : Type 0 where
  clears : (n : ℕ) → n ≤ last → clears_of old n ≡ clears_of new n
  checks : (n : ℕ) → n ≤ last → checks_of old n ≡ checks_of new n

passes_same : (last : ℕ) (old new notes : List Note) → SameUpTo last old new → EndsBy last notes → EachPassChecks old notes → EachPassChecks new notes
passes_same last old new [] same ends passes = tt
passes_same last old new (finished n rows ∷ notes) same ends passes = (
  record {
    pages = passes.0.pages;
    one_in_each = passes.0.one_in_each;
    cleared = sym (same.clears n ends.0) ∙ passes.0.cleared;
    checked = sym (same.checks n ends.0) ∙ passes.0.checked;
  },
  passes_same last old new notes same ends.1 passes.1,
)
passes_same last old new (voided n ∷ notes) same ends passes = (sym (same.checks n ends.0) ∙ passes.0, passes_same last old new notes same ends.1 passes.1)
passes_same last old new (touched p ∷ notes) same ends passes = passes_same last old new notes same ends passes
passes_same last old new (cleared i k p ∷ notes) same ends passes = passes_same last old new notes same ends passes
passes_same last old new (checked i k p h ∷ notes) same ends passes = passes_same last old new notes same ends passes
passes_same last old new (set i x ∷ notes) same ends passes = passes_same last old new notes same ends passes
passes_same last old new (dropped i ∷ notes) same ends passes = passes_same last old new notes same ends passes
passes_same last old new (metric i ∷ notes) same ends passes = passes_same last old new notes same ends passes
passes_same last old new (turned i t ∷ notes) same ends passes = passes_same last old new notes same ends passes
passes_same last old new (ran i t tried runs exceeds ∷ notes) same ends passes = passes_same last old new notes same ends passes
passes_same last old new (cost i ns ∷ notes) same ends passes = passes_same last old new notes same ends passes

-- a clear is one of its own pass alone
clears_of-here : (notes : List Note) (n k p : ℕ) → clears_of (cleared n k p ∷ notes) n ≡ clears_of notes n ++ (k, p) ∷ []
clears_of-here notes n k p = let e : (n == n) ≡ true = grind (arith, nat_tests) in rw e refl

clears_of-other : (notes : List Note) (n k p m : ℕ) → (n ≡ m → ⊥) → clears_of (cleared n k p ∷ notes) m ≡ clears_of notes m
clears_of-other notes n k p m other = let e : (n == m) ≡ false = grind (arith, nat_tests) in rw e refl

-- a check is one of its own pass alone
checks_of-here : (notes : List Note) (n k p : ℕ) (h : Bool) → checks_of (checked n k p h ∷ notes) n ≡ checks_of notes n ++ (k, p) ∷ []
checks_of-here notes n k p h = let e : (n == n) ≡ true = grind (arith, nat_tests) in rw e refl

checks_of-other : (notes : List Note) (n k p : ℕ) (h : Bool) (m : ℕ) → (n ≡ m → ⊥) → checks_of (checked n k p h ∷ notes) m ≡ checks_of notes m
checks_of-other notes n k p h m other = let e : (n == m) ≡ false = grind (arith, nat_tests) in rw e refl

PicksLie-after_clear : (k rows : ℕ) (picks : List ℕ) (ss : List Span) → OneInEach picks ss → PicksLie (phase_cleared (k + 1) rows) picks ss
PicksLie-after_clear k rows picks ss one = elim (k + 1 == rows) as (λ b. (k + 1 == rows) ≡ b → PicksLie (phase_cleared (k + 1) rows) picks ss) [ true ↦ λ is. rw is one | false ↦ λ isnt. rw isnt one ] refl

PicksLie-after_pass : (since aggr : ℕ) (picks : List ℕ) (ss : List Span) → PicksLie (phase_after_pass since aggr) picks ss
PicksLie-after_pass since aggr picks ss = elim (nat_le aggr since) as (λ b. (nat_le aggr since) ≡ b → PicksLie (phase_after_pass since aggr) picks ss) [ true ↦ λ is. rw is tt | false ↦ λ isnt. rw isnt tt ] refl

loaded_so_far-after_clear : (k rows : ℕ) → loaded_so_far (phase_cleared (k + 1) rows) ≡ 0
loaded_so_far-after_clear k rows = elim (k + 1 == rows) as (λ b. (k + 1 == rows) ≡ b → loaded_so_far (phase_cleared (k + 1) rows) ≡ 0) [ true ↦ λ is. rw is refl | false ↦ λ isnt. rw isnt refl ] refl

loaded_so_far-after_pass : (since aggr : ℕ) → loaded_so_far (phase_after_pass since aggr) ≡ 0
loaded_so_far-after_pass since aggr = elim (nat_le aggr since) as (λ b. (nat_le aggr since) ≡ b → loaded_so_far (phase_after_pass since aggr) ≡ 0) [ true ↦ λ is. rw is refl | false ↦ λ isnt. rw isnt refl ] refl

ClearsAre-after_clear : (k rows : ℕ) (picks : List ℕ) (old new : List (ℕ × ℕ)) → k < rows → length picks ≡ rows → old ≡ enumerate_from 0 (take k picks) → new ≡ old ++ (k, slice_index picks k) ∷ [] → ClearsAre (phase_cleared (k + 1) rows) picks new
ClearsAre-after_clear k rows picks old new below count is more = elim (k + 1 == rows) as (λ b. (k + 1 == rows) ≡ b → ClearsAre (phase_cleared (k + 1) rows) picks new) [
  | true ↦ λ all. (let e : new ≡ enumerate_from 0 picks = now ∙ ap (λ (ps : List ℕ). enumerate_from 0 ps) (take_all (k + 1) picks (grind (arith, nat_tests))) in rw all e)
  | false ↦ λ some. rw some now
] refl
  where
    now : new ≡ enumerate_from 0 (take (k + 1) picks)
    now = more ∙ ap (λ (xs : List (ℕ × ℕ)). xs ++ (k, slice_index picks k) ∷ []) is ∙ sym (enumerate_from-take_more k picks (omega arith))

ClearsAre-after_pass : (since aggr : ℕ) (picks : List ℕ) (clears : List (ℕ × ℕ)) → clears ≡ [] → ClearsAre (phase_after_pass since aggr) picks clears
ClearsAre-after_pass since aggr picks clears none = elim (nat_le aggr since) as (λ b. (nat_le aggr since) ≡ b → ClearsAre (phase_after_pass since aggr) picks clears) [ true ↦ λ is. rw is none | false ↦ λ isnt. rw isnt none ] refl

-- what is known where a load comes next
record IsLoadable (ph : Phase) (picks : List ℕ) (ss : List Span) (clears : List (ℕ × ℕ)) : Type 0 where
  lie : OneInEach picks ss
  all : clears ≡ enumerate_from 0 picks
  so_far : loaded_so_far ph ≡ load_index ph

loadable : (ph : Phase) (rows : ℕ) (picks : List ℕ) (ss : List Span) (clears : List (ℕ × ℕ)) → IsLoading ph rows → PicksLie ph picks ss → ClearsAre ph picks clears → IsLoadable ph picks ss clears
loadable Armed rows picks ss clears fits lie all = record { lie = lie; all = all; so_far = refl }
loadable (Checking k) rows picks ss clears fits lie all = record { lie = lie; all = all; so_far = refl }
loadable Idle rows picks ss clears fits lie all = absurd fits
loadable (Clearing k) rows picks ss clears fits lie all = absurd fits
loadable Void rows picks ss clears fits lie all = absurd fits
loadable Due rows picks ss clears fits lie all = absurd fits

-- no page is cleared or checked at an opening
no_clears : (v : SetupValue) (n : ℕ) → clears_of (opening_notes v) n ≡ []
no_clears v n = opening_holds (λ notes. clears_of notes n ≡ []) refl (λ slot scheme notes none. none) v

no_checks : (v : SetupValue) (n : ℕ) → checks_of (opening_notes v) n ≡ []
no_checks v n = opening_holds (λ notes. checks_of notes n ≡ []) refl (λ slot scheme notes none. none) v

passes_open : (v : SetupValue) → HasRows (opening v) → HasPasses (opening v)
passes_open v rows = record {
  rows = rows;
  picks = tt;
  clears = no_clears v 1;
  checks = no_checks v 1;
  no_later_clears = λ n later. no_clears v n;
  no_later_checks = λ n later. no_checks v n;
  ends = opening_holds (EndsBy 0) tt (λ slot scheme notes ends. ends) v;
  passes = opening_holds (EachPassChecks (opening_notes v)) tt (λ slot scheme notes passes. passes) v;
}

passes_touch : (s : State) (p : ℕ) → HasRows (record s { notes = touched p ∷ s.notes }) → HasPasses s → HasPasses (record s { notes = touched p ∷ s.notes })
passes_touch s p rows h = record {
  rows = rows;
  picks = h.picks;
  clears = h.clears;
  checks = h.checks;
  no_later_clears = h.no_later_clears;
  no_later_checks = h.no_later_checks;
  ends = h.ends;
  passes = passes_same s.core.ticks s.notes (touched p ∷ s.notes) s.notes (record { clears = λ n low. refl; checks = λ n low. refl }) h.ends h.passes;
}

passes_prepare : (s : State) (ws : List ℕ) → s.core.phase ≡ Idle → length ws ≡ row_count s.core → HasRows (record s { core = prepared_core ws s.core }) → HasPasses s → HasPasses (record s { core = prepared_core ws s.core })
passes_prepare s ws idle count rows h = record {
  rows = rows;
  picks = OneInEach-picks_of s.core.regions.unit s.core.regions.rows ws h.rows.wide h.rows.tiles.size count;
  clears = subst (λ (ph : Phase). ClearsAre ph s.core.picks (clears_of s.notes (s.core.ticks + 1))) idle h.clears;
  checks = h.checks ∙ ap (λ (ph : Phase). enumerate_from 0 (take (loaded_so_far ph) s.core.picks)) idle;
  no_later_clears = h.no_later_clears;
  no_later_checks = h.no_later_checks;
  ends = h.ends;
  passes = h.passes;
}

passes_clear : (s : State) (k : ℕ) → s.core.phase ≡ Clearing k → HasRows (by_clear (Clearing k) s) → HasPasses s → HasPasses (by_clear (Clearing k) s)
passes_clear s k is rows h =
    let pass : ℕ = s.core.ticks + 1 in
    let page : ℕ = slice_index s.core.picks k in
    let ss = spans s.core.regions.rows in
    let lie : OneInEach s.core.picks ss = subst (λ (ph : Phase). PicksLie ph s.core.picks ss) is h.picks in
    let below : k < row_count s.core = subst (λ (ph : Phase). IsPickWithin ph (row_count s.core)) is h.rows.within in
    let count : length s.core.picks ≡ row_count s.core = length-from_OneInEach s.core.picks ss lie ∙ length-map s.core.regions.rows span_of in
    let so_far = subst (λ (ph : Phase). ClearsAre ph s.core.picks (clears_of s.notes pass)) is h.clears in
    record {
      rows = rows;
      picks = PicksLie-after_clear k (row_count s.core) s.core.picks ss lie;
      clears = ClearsAre-after_clear k (row_count s.core) s.core.picks (clears_of s.notes pass) (clears_of (cleared pass k page ∷ s.notes) pass) below count so_far (clears_of-here s.notes pass k page);
      checks = h.checks ∙ ap (λ (n : ℕ). enumerate_from 0 (take n s.core.picks)) (ap loaded_so_far is ∙ sym (loaded_so_far-after_clear k (row_count s.core)));
      no_later_clears = λ n later. clears_of-other s.notes pass k page n (λ same. absurd (omega arith)) ∙ h.no_later_clears n later;
      no_later_checks = h.no_later_checks;
      ends = h.ends;
      passes = passes_same s.core.ticks s.notes (cleared pass k page ∷ s.notes) s.notes (record { clears = λ n low. sym (clears_of-other s.notes pass k page n (λ same. absurd (omega arith))); checks = λ n low. refl }) h.ends h.passes;
    }

passes_load : (s : State) (k : ℕ) (hit : Bool) → IsLoading s.core.phase (row_count s.core) → load_index s.core.phase ≡ k → HasRows (loaded_at k hit s) → HasPasses s → HasPasses (loaded_at k hit s)
passes_load s k hit fits is rows h =
    let pass : ℕ = s.core.ticks + 1 in
    let page : ℕ = slice_index s.core.picks k in
    let ss = spans s.core.regions.rows in
    let now = loadable s.core.phase (row_count s.core) s.core.picks ss (clears_of s.notes pass) fits h.picks h.clears in
    let count : length s.core.picks ≡ row_count s.core = length-from_OneInEach s.core.picks ss now.lie ∙ length-map s.core.regions.rows span_of in
    let below : k + 1 ≤ row_count s.core = rows.within in
    record {
      rows = rows;
      picks = now.lie;
      clears = now.all;
      checks =
          checks_of-here s.notes pass k page hit
          ∙ ap (λ (xs : List (ℕ × ℕ)). xs ++ (k, page) ∷ []) (h.checks ∙ ap (λ (n : ℕ). enumerate_from 0 (take n s.core.picks)) (now.so_far ∙ is))
          ∙ sym (enumerate_from-take_more k s.core.picks (omega arith));
      no_later_clears = h.no_later_clears;
      no_later_checks = λ n later. checks_of-other s.notes pass k page hit n (λ same. absurd (omega arith)) ∙ h.no_later_checks n later;
      ends = h.ends;
      passes = passes_same s.core.ticks s.notes (checked pass k page hit ∷ s.notes) s.notes (record { clears = λ n low. refl; checks = λ n low. sym (checks_of-other s.notes pass k page hit n (λ same. absurd (omega arith))) }) h.ends h.passes;
    }

passes_finish : (s : State) → s.core.phase ≡ Checking (row_count s.core) → HasRows (finished_pass s) → HasPasses s → HasPasses (finished_pass s)
passes_finish s is rows h =
    let pass : ℕ = s.core.ticks + 1 in
    let ss = spans s.core.regions.rows in
    let since : ℕ = s.core.since + 1 in
    let lie : OneInEach s.core.picks ss = subst (λ (ph : Phase). PicksLie ph s.core.picks ss) is h.picks in
    let count : length s.core.picks ≡ row_count s.core = length-from_OneInEach s.core.picks ss lie ∙ length-map s.core.regions.rows span_of in
    let all : take (row_count s.core) s.core.picks ≡ s.core.picks = take_all (row_count s.core) s.core.picks (omega arith) in
    record {
      rows = rows;
      picks = PicksLie-after_pass since s.core.attrs.aggr s.core.picks _;
      clears = ClearsAre-after_pass since s.core.attrs.aggr s.core.picks (clears_of s.notes (pass + 1)) (h.no_later_clears (pass + 1) (omega arith));
      checks = h.no_later_checks (pass + 1) (omega arith) ∙ ap (λ (n : ℕ). enumerate_from 0 (take n s.core.picks)) (sym (loaded_so_far-after_pass since s.core.attrs.aggr));
      no_later_clears = λ n later. h.no_later_clears n (omega arith);
      no_later_checks = λ n later. h.no_later_checks n (omega arith);
      ends = (omega arith, ends_later s.core.ticks pass s.notes (omega arith) h.ends);
      passes = (
        record {
          pages = s.core.picks;
          one_in_each = lie;
          cleared = subst (λ (ph : Phase). ClearsAre ph s.core.picks (clears_of s.notes pass)) is h.clears;
          checked = h.checks ∙ ap (λ (ph : Phase). enumerate_from 0 (take (loaded_so_far ph) s.core.picks)) is ∙ ap (λ (ps : List ℕ). enumerate_from 0 ps) all;
        },
        passes_same s.core.ticks s.notes (finished pass ss ∷ s.notes) s.notes (record { clears = λ n low. refl; checks = λ n low. refl }) h.ends h.passes,
      );
    }

passes_void : (s : State) → s.core.phase ≡ Void → HasRows (by_observe Void s) → HasPasses s → HasPasses (by_observe Void s)
passes_void s is rows h =
    let pass : ℕ = s.core.ticks + 1 in
    let since : ℕ = s.core.since + 1 in
    record {
      rows = rows;
      picks = PicksLie-after_pass since s.core.attrs.aggr s.core.picks _;
      clears = ClearsAre-after_pass since s.core.attrs.aggr s.core.picks (clears_of s.notes (pass + 1)) (h.no_later_clears (pass + 1) (omega arith));
      checks = h.no_later_checks (pass + 1) (omega arith) ∙ ap (λ (n : ℕ). enumerate_from 0 (take n s.core.picks)) (sym (loaded_so_far-after_pass since s.core.attrs.aggr));
      no_later_clears = λ n later. h.no_later_clears n (omega arith);
      no_later_checks = λ n later. h.no_later_checks n (omega arith);
      ends = (omega arith, ends_later s.core.ticks pass s.notes (omega arith) h.ends);
      passes = (
        h.checks ∙ ap (λ (ph : Phase). enumerate_from 0 (take (loaded_so_far ph) s.core.picks)) is,
        passes_same s.core.ticks s.notes (voided pass ∷ s.notes) s.notes (record { clears = λ n low. refl; checks = λ n low. refl }) h.ends h.passes,
      );
    }

-- the notes of an aggregation say nothing of clears and checks
clears_of-served : (s : State) (n : ℕ) → clears_of (served s).notes n ≡ clears_of s.notes n
clears_of-served s n = notes_hold (λ ns. clears_of ns n ≡ clears_of s.notes n) (record { turning = λ i t ns same. same; running = λ i t tried runs exceeds ns same. same }) s refl

checks_of-served : (s : State) (n : ℕ) → checks_of (served s).notes n ≡ checks_of s.notes n
checks_of-served s n = notes_hold (λ ns. checks_of ns n ≡ checks_of s.notes n) (record { turning = λ i t ns same. same; running = λ i t tried runs exceeds ns same. same }) s refl

passes_aggregate : (s : State) (ws : List ℕ) → s.core.phase ≡ Due → HasRows (aggregated ws s) → HasPasses s → HasPasses (aggregated ws s)
passes_aggregate s ws is rows h =
    let pass : ℕ = s.core.ticks + 1 in
    let notes = (served s).notes in
    let still : EachPassChecks notes s.notes = passes_same s.core.ticks s.notes notes s.notes (record { clears = λ n low. sym (clears_of-served s n); checks = λ n low. sym (checks_of-served s n) }) h.ends h.passes in
    record {
      rows = rows;
      picks = tt;
      clears = clears_of-served s pass ∙ subst (λ (ph : Phase). ClearsAre ph s.core.picks (clears_of s.notes pass)) is h.clears;
      checks = checks_of-served s pass ∙ h.checks ∙ ap (λ (ph : Phase). enumerate_from 0 (take (loaded_so_far ph) s.core.picks)) is;
      no_later_clears = λ n later. clears_of-served s n ∙ h.no_later_clears n later;
      no_later_checks = λ n later. checks_of-served s n ∙ h.no_later_checks n later;
      ends = notes_hold (EndsBy s.core.ticks) (record { turning = λ i t ns ends. ends; running = λ i t tried runs exceeds ns ends. ends }) s h.ends;
      passes = notes_hold (EachPassChecks notes) (record { turning = λ i t ns passes. passes; running = λ i t tried runs exceeds ns passes. passes }) s still;
    }

-- the notes of a commit say nothing of clears and checks
clears_of-commit : (c : CommitValue) (notes : List Note) (n : ℕ) → clears_of (committed_notes c notes) n ≡ clears_of notes n
clears_of-commit c notes n = committed_notes_hold (λ ns. clears_of ns n ≡ clears_of notes n) (λ slot scheme ns same. same) (λ slot ns same. same) (λ value ns same. same) (λ slot nanos ns same. same) c notes refl

checks_of-commit : (c : CommitValue) (notes : List Note) (n : ℕ) → checks_of (committed_notes c notes) n ≡ checks_of notes n
checks_of-commit c notes n = committed_notes_hold (λ ns. checks_of ns n ≡ checks_of notes n) (λ slot scheme ns same. same) (λ slot ns same. same) (λ value ns same. same) (λ slot nanos ns same. same) c notes refl

passes_commit : (s : State) (c : CommitValue) → check_of c s.core ≡ Ok tt → HasRows (committed c s) → HasPasses s → HasPasses (committed c s)
passes_commit s c ok rows h =
    let pass : ℕ = s.core.ticks + 1 in
    let ph = s.core.phase in
    let old = s.core.regions.rows in
    let new = (committed_core c s.core).regions.rows in
    let notes = committed_notes c s.notes in
    let allows = allows_commit c s.core ok in
    let same = clears_of-commit c s.notes pass in
    let clears_at : (p : Phase) → ph ≡ p → ClearsAre p s.core.picks (clears_of s.notes pass) = λ p is. subst (λ (q : Phase). ClearsAre q s.core.picks (clears_of s.notes pass)) is h.clears in
    let still : EachPassChecks notes s.notes = passes_same s.core.ticks s.notes notes s.notes (record { clears = λ n low. sym (clears_of-commit c s.notes n); checks = λ n low. sym (checks_of-commit c s.notes n) }) h.ends h.passes in
    record {
      rows = rows;
      picks = by_phase_after (λ p. PicksLie p s.core.picks (spans new)) ph old new allows (λ is lies. subst (OneInEach s.core.picks) lies (subst (λ (q : Phase). PicksLie q s.core.picks (spans old)) is h.picks)) (λ is. tt) (λ is. tt) (λ is. tt) (λ is. tt);
      clears = by_phase_after (λ p. ClearsAre p s.core.picks (clears_of notes pass)) ph old new allows (λ is lies. same ∙ clears_at Armed is) (λ is. tt) (λ is. tt) (λ is. same ∙ clears_at Idle is) (λ is. same ∙ clears_at Due is);
      checks = checks_of-commit c s.notes pass ∙ h.checks ∙ ap (λ (n : ℕ). enumerate_from 0 (take n s.core.picks)) (none_loaded ph allows ∙ sym (none_loaded_after ph old new allows));
      no_later_clears = λ n later. clears_of-commit c s.notes n ∙ h.no_later_clears n later;
      no_later_checks = λ n later. checks_of-commit c s.notes n ∙ h.no_later_checks n later;
      ends = committed_notes_hold (EndsBy s.core.ticks) (λ slot scheme ns ends. ends) (λ slot ns ends. ends) (λ value ns ends. ends) (λ slot nanos ns ends. ends) c s.notes h.ends;
      passes = committed_notes_hold (EachPassChecks notes) (λ slot scheme ns passes. passes) (λ slot ns passes. passes) (λ value ns passes. passes) (λ slot nanos ns passes. passes) c s.notes still;
    }

-- each step keeps the passes
pub passes_kept : (Q : State → Bool → Type 0) → Keeps Q HasPasses
passes_kept Q = let rows = rows_kept Q in record {
  opens = λ v can. passes_open v (rows.opens v can);
  touching = λ s p h. passes_touch s p (rows.touching s p h.rows) h;
  preparing = λ s ws idle count h. passes_prepare s ws idle count (rows.preparing s ws idle count h.rows) h;
  clearing = λ s k is h. passes_clear s k is (rows.clearing s k is h.rows) h;
  loading = λ s k hit fits is known h. passes_load s k hit fits is (rows.loading s k hit fits is known h.rows) h;
  finishing = λ s is h. passes_finish s is (rows.finishing s is h.rows) h;
  voiding = λ s is h. passes_void s is (rows.voiding s is h.rows) h;
  aggregating = λ s ws is h. passes_aggregate s ws is (rows.aggregating s ws is h.rows) h;
  committing = λ s c ok h. passes_commit s c ok (rows.committing s c ok h.rows) h;
}
