-- What the notes say of the checks of the pass under way.
use Rattle.std.proofs.Common.{◌≡◌, inl, inr, ℕ, zero, suc, subst, ◌+◌, ◌≤◌, ◌<◌, Bool, true, false, cond, List, [], ◌∷◌, Ok, refl, sym, ap, ◌∙◌, arith, ◌++◌, length, length-append}
use Rattle.std.specs.Prelude.{◌==◌, ◌&&◌, ◌||◌, nat_le, slice_index}
use Rattle.std.proofs.lemmas.Bool.{cases_eq}
use Rattle.std.proofs.lemmas.Bool.Decides.{nat_tests}
use Rattle.live_commit.specs.declared.phase.Phase.{Phase}
use Rattle.live_commit.specs.declared.phase.Phase.TheVariants.{Idle, Clearing, Armed, Checking, Void, Due}
use Rattle.live_commit.specs.Commit.{CommitValue}
use Rattle.damon_core.specs.Note.{Note, touched, cleared, checked, finished, voided, set, dropped, metric, turned, ran, cost, was_hit, checks_of}
use Rattle.damon_core.specs.Totals.{pass_hits}
use Rattle.damon_core.specs.State.{State, row_count, opening_notes}
use Rattle.damon_core.specs.Event.{IsLoading, load_index}
use Rattle.damon_core.specs.After.{phase_cleared, phase_after_pass, loaded_at, finished_pass, by_clear, by_observe}
use Rattle.damon_core.specs.Aggregate.{served}
use Rattle.damon_core.specs.Commit.{check_of, committed, committed_core, committed_notes}
use Rattle.damon_core.specs.Reached.{Reached}
use Rattle.damon_core.specs.Stands.{last_pass}
use Rattle.damon_core.specs.Kept.{loaded_so_far}
use Rattle.damon_core.proofs.Committing.{allows_commit, committed_notes_hold, none_loaded, none_loaded_after}
use Rattle.damon_core.proofs.Keeping.{Keeps, any_result, reached_keeps}
use Rattle.damon_core.proofs.Opening.{opening_holds}
use Rattle.damon_core.proofs.Served.{notes_hold}

-- how many checks a pass made
abbrev pub pass_checks : List Note → ℕ → ℕ
pass_checks [] pass = 0
pass_checks (checked n k p hit ∷ earlier) pass = cond (n == pass) 1 0 + pass_checks earlier pass
pass_checks (_ ∷ earlier) pass = pass_checks earlier pass

pub checks_counted : (notes : List Note) (n : ℕ) → length (checks_of notes n) ≡ pass_checks notes n
checks_counted [] n = refl
checks_counted (checked m k p hit ∷ notes) n = by (m == n) (checks_of notes n) (checks_counted notes n)
  where
    by : (b : Bool) (earlier : List (ℕ × ℕ)) → length earlier ≡ pass_checks notes n → length (cond b (earlier ++ (k, p) ∷ []) earlier) ≡ cond b 1 0 + pass_checks notes n
    by true earlier same = omega (arith, length-append earlier ((k, p) ∷ []), same)
    by false earlier same = omega (arith, same)
checks_counted (touched p ∷ notes) n = checks_counted notes n
checks_counted (cleared m k p ∷ notes) n = checks_counted notes n
checks_counted (finished m rows ∷ notes) n = checks_counted notes n
checks_counted (voided m ∷ notes) n = checks_counted notes n
checks_counted (set slot x ∷ notes) n = checks_counted notes n
checks_counted (dropped slot ∷ notes) n = checks_counted notes n
checks_counted (metric v ∷ notes) n = checks_counted notes n
checks_counted (turned slot tick ∷ notes) n = checks_counted notes n
checks_counted (ran slot tick tried runs exceeds ∷ notes) n = checks_counted notes n
checks_counted (cost slot nanos ∷ notes) n = checks_counted notes n

-- a phase after a clear or after a pass has no load before it
pub loaded_so_far-phase_after_clear : (k rows : ℕ) → loaded_so_far (phase_cleared (k + 1) rows) ≡ 0
loaded_so_far-phase_after_clear k rows = elim (k + 1 == rows) as (λ b. (k + 1 == rows) ≡ b → loaded_so_far (phase_cleared (k + 1) rows) ≡ 0) [ true ↦ λ is. rw is refl | false ↦ λ isnt. rw isnt refl ] refl

loaded_so_far-phase_after_pass : (since aggr : ℕ) → loaded_so_far (phase_after_pass since aggr) ≡ 0
loaded_so_far-phase_after_pass since aggr = elim (nat_le aggr since) as (λ b. nat_le aggr since ≡ b → loaded_so_far (phase_after_pass since aggr) ≡ 0) [ true ↦ λ is. rw is refl | false ↦ λ isnt. rw isnt refl ] refl

pub last_pass-phase_after_clear : (k rows ticks : ℕ) → last_pass (phase_cleared (k + 1) rows) ticks ≡ ticks + 1
last_pass-phase_after_clear k rows ticks = elim (k + 1 == rows) as (λ b. (k + 1 == rows) ≡ b → last_pass (phase_cleared (k + 1) rows) ticks ≡ ticks + 1) [ true ↦ λ is. rw is refl | false ↦ λ isnt. rw isnt refl ] refl

pub last_pass-phase_after_pass : (since aggr ticks : ℕ) → last_pass (phase_after_pass since aggr) ticks ≡ ticks
last_pass-phase_after_pass since aggr ticks = elim (nat_le aggr since) as (λ b. nat_le aggr since ≡ b → last_pass (phase_after_pass since aggr) ticks ≡ ticks) [ true ↦ λ is. rw is refl | false ↦ λ isnt. rw isnt refl ] refl

-- a load goes on from those before it
pub loading_pass : (ph : Phase) (rows ticks : ℕ) → IsLoading ph rows → (last_pass ph ticks ≡ ticks + 1) × (loaded_so_far ph ≡ load_index ph)
loading_pass Armed rows ticks fits = (refl, refl)
loading_pass (Checking k) rows ticks fits = (refl, refl)
loading_pass (Clearing k) rows ticks fits = absurd fits
loading_pass Idle rows ticks fits = absurd fits
loading_pass Void rows ticks fits = absurd fits
loading_pass Due rows ticks fits = absurd fits

-- no check of the pass that is to come was a hit, nor one of a later pass
pub record HasNoEarly (s : State) : Type 0 where
  pub this_pass : (k : ℕ) → loaded_so_far s.core.phase ≤ k → was_hit s.notes (s.core.ticks + 1) k ≡ false
  pub later : (n k : ℕ) → s.core.ticks + 1 < n → was_hit s.notes n k ≡ false

both_false : (b : Bool) → ((b && false) || false) ≡ false
both_false true = refl
both_false false = refl

early_load : (s : State) (i : ℕ) (hit : Bool) → loaded_so_far s.core.phase ≡ i → HasNoEarly s → HasNoEarly (loaded_at i hit s)
early_load s i hit is early = record {
  this_pass = λ k beyond. (let before : was_hit s.notes (s.core.ticks + 1) k ≡ false = early.this_pass k (omega arith) in let other : (i == k) ≡ false = grind (arith, nat_tests) in rw (other, before) (both_false (s.core.ticks + 1 == s.core.ticks + 1)));
  later = λ n k above. (let before : was_hit s.notes n k ≡ false = early.later n k above in let other : (s.core.ticks + 1 == n) ≡ false = grind (arith, nat_tests) in rw (other, before) refl);
}

-- the notes of a commit say nothing of checks
pub was_hit-commit : (c : CommitValue) (notes : List Note) (n k : ℕ) → was_hit (committed_notes c notes) n k ≡ was_hit notes n k
was_hit-commit c notes n k = committed_notes_hold (λ ns. was_hit ns n k ≡ was_hit notes n k) (λ slot scheme ns same. same) (λ slot ns same. same) (λ value ns same. same) (λ slot nanos ns same. same) c notes refl

pass_checks-commit : (c : CommitValue) (notes : List Note) (n : ℕ) → pass_checks (committed_notes c notes) n ≡ pass_checks notes n
pass_checks-commit c notes n = committed_notes_hold (λ ns. pass_checks ns n ≡ pass_checks notes n) (λ slot scheme ns same. same) (λ slot ns same. same) (λ value ns same. same) (λ slot nanos ns same. same) c notes refl

pass_hits-commit : (c : CommitValue) (notes : List Note) (n : ℕ) → pass_hits (committed_notes c notes) n ≡ pass_hits notes n
pass_hits-commit c notes n = committed_notes_hold (λ ns. pass_hits ns n ≡ pass_hits notes n) (λ slot scheme ns same. same) (λ slot ns same. same) (λ value ns same. same) (λ slot nanos ns same. same) c notes refl

-- nor do those of an aggregation
pub was_hit-served : (s : State) (n k : ℕ) → was_hit (served s).notes n k ≡ was_hit s.notes n k
was_hit-served s n k = notes_hold (λ ns. was_hit ns n k ≡ was_hit s.notes n k) (record { turning = λ i t ns same. same; running = λ i t tried runs exceeds ns same. same }) s refl

pub pass_checks-served : (s : State) (n : ℕ) → pass_checks (served s).notes n ≡ pass_checks s.notes n
pass_checks-served s n = notes_hold (λ ns. pass_checks ns n ≡ pass_checks s.notes n) (record { turning = λ i t ns same. same; running = λ i t tried runs exceeds ns same. same }) s refl

pub pass_hits-served : (s : State) (n : ℕ) → pass_hits (served s).notes n ≡ pass_hits s.notes n
pass_hits-served s n = notes_hold (λ ns. pass_hits ns n ≡ pass_hits s.notes n) (record { turning = λ i t ns same. same; running = λ i t tried runs exceeds ns same. same }) s refl

early_commit : (s : State) (c : CommitValue) → check_of c s.core ≡ Ok tt → HasNoEarly s → HasNoEarly (committed c s)
early_commit s c ok early = record {
  this_pass = λ k beyond. was_hit-commit c s.notes (s.core.ticks + 1) k ∙ early.this_pass k (omega (arith, none_loaded s.core.phase (allows_commit c s.core ok)));
  later = λ n k above. was_hit-commit c s.notes n k ∙ early.later n k above;
}

keeps_early : Keeps any_result HasNoEarly
keeps_early = record {
  opens = λ v can.
      (let none : (n k : ℕ) → was_hit (opening_notes v) n k ≡ false = λ n k. opening_holds (λ notes. was_hit notes n k ≡ false) refl (λ slot scheme notes none. none) v in
      record { this_pass = λ k beyond. none 1 k; later = λ n k above. none n k });
  touching = λ s p early. record { this_pass = early.this_pass; later = early.later };
  preparing = λ s ws idle len early. record { this_pass = λ k beyond. early.this_pass k (let none : loaded_so_far s.core.phase ≡ 0 = ap loaded_so_far idle in omega arith); later = early.later };
  clearing = λ s k is early. record { this_pass = λ j beyond. early.this_pass j (let none : loaded_so_far s.core.phase ≡ 0 = ap loaded_so_far is in omega arith); later = early.later };
  loading = λ s k hit fits index known early. early_load s k hit ((loading_pass s.core.phase (row_count s.core) s.core.ticks fits).1 ∙ index) early;
  finishing = λ s is early. record { this_pass = λ k beyond. early.later (s.core.ticks + 1 + 1) k (omega arith); later = λ n k above. early.later n k (omega arith) };
  voiding = λ s is early. record { this_pass = λ k beyond. early.later (s.core.ticks + 1 + 1) k (omega arith); later = λ n k above. early.later n k (omega arith) };
  aggregating = λ s ws is early. record { this_pass = λ k beyond. was_hit-served s (s.core.ticks + 1) k ∙ early.this_pass k (let none : loaded_so_far s.core.phase ≡ 0 = ap loaded_so_far is in omega arith); later = λ n k above. was_hit-served s n k ∙ early.later n k above };
  committing = early_commit;
}

pub reached_early : (s : State) → Reached s → HasNoEarly s
reached_early = reached_keeps HasNoEarly keeps_early

-- the pass under way has made as many checks as its phase says, and no later pass has made one
pub record IsTallied (s : State) : Type 0 where
  pub this_pass : pass_checks s.notes (s.core.ticks + 1) ≡ loaded_so_far s.core.phase
  pub later : (n : ℕ) → s.core.ticks + 1 < n → pass_checks s.notes n ≡ 0

one_same : (n : ℕ) → ◌≡◌ {A = ℕ} (cond (n == n) 1 0) 1
one_same n = grind (arith, nat_tests)

tallied_load : (s : State) (i : ℕ) (hit : Bool) → loaded_so_far s.core.phase ≡ i → IsTallied s → IsTallied (loaded_at i hit s)
tallied_load s i hit is tallied = record {
  this_pass = omega (arith, one_same (s.core.ticks + 1), tallied.this_pass, is);
  later = λ n above. (let before : pass_checks s.notes n ≡ 0 = tallied.later n above in let other : (s.core.ticks + 1 == n) ≡ false = grind (arith, nat_tests) in rw (other, before) refl);
}

tallied_commit : (s : State) (c : CommitValue) → check_of c s.core ≡ Ok tt → IsTallied s → IsTallied (committed c s)
tallied_commit s c ok tallied =
    let allows = allows_commit c s.core ok in
    record {
      this_pass = pass_checks-commit c s.notes (s.core.ticks + 1) ∙ tallied.this_pass ∙ none_loaded s.core.phase allows ∙ sym (none_loaded_after s.core.phase s.core.regions.rows (committed_core c s.core).regions.rows allows);
      later = λ n above. pass_checks-commit c s.notes n ∙ tallied.later n above;
    }

keeps_tally : Keeps any_result IsTallied
keeps_tally = record {
  opens = λ v can.
      (let none : (n : ℕ) → pass_checks (opening_notes v) n ≡ 0 = λ n. opening_holds (λ notes. pass_checks notes n ≡ 0) refl (λ slot scheme notes none. none) v in
      record { this_pass = none 1; later = λ n above. none n });
  touching = λ s p tallied. record { this_pass = tallied.this_pass; later = tallied.later };
  preparing = λ s ws idle len tallied. record { this_pass = tallied.this_pass ∙ ap loaded_so_far idle; later = tallied.later };
  clearing = λ s k is tallied. record { this_pass = tallied.this_pass ∙ ap loaded_so_far is ∙ sym (loaded_so_far-phase_after_clear k (row_count s.core)); later = tallied.later };
  loading = λ s k hit fits index known tallied. tallied_load s k hit ((loading_pass s.core.phase (row_count s.core) s.core.ticks fits).1 ∙ index) tallied;
  finishing = λ s is tallied. record { this_pass = tallied.later (s.core.ticks + 1 + 1) (omega arith) ∙ sym (loaded_so_far-phase_after_pass (s.core.since + 1) s.core.attrs.aggr); later = λ n above. tallied.later n (omega arith) };
  voiding = λ s is tallied. record { this_pass = tallied.later (s.core.ticks + 1 + 1) (omega arith) ∙ sym (loaded_so_far-phase_after_pass (s.core.since + 1) s.core.attrs.aggr); later = λ n above. tallied.later n (omega arith) };
  aggregating = λ s ws is tallied. record { this_pass = pass_checks-served s (s.core.ticks + 1) ∙ tallied.this_pass ∙ ap loaded_so_far is; later = λ n above. pass_checks-served s n ∙ tallied.later n above };
  committing = tallied_commit;
}

one_more : (b hit : Bool) (x y : ℕ) → x ≤ y → cond (b && hit) 1 0 + x ≤ cond b 1 0 + y
one_more true true x y le = omega arith
one_more true false x y le = omega arith
one_more false true x y le = omega arith
one_more false false x y le = omega arith

-- a pass has no more hits than checks
pub pass_hits_le : (notes : List Note) (n : ℕ) → pass_hits notes n ≤ pass_checks notes n
pass_hits_le [] n = omega arith
pass_hits_le (checked m k p hit ∷ notes) n = one_more (m == n) hit (pass_hits notes n) (pass_checks notes n) (pass_hits_le notes n)
pass_hits_le (touched p ∷ notes) n = pass_hits_le notes n
pass_hits_le (cleared m k p ∷ notes) n = pass_hits_le notes n
pass_hits_le (finished m rows ∷ notes) n = pass_hits_le notes n
pass_hits_le (voided m ∷ notes) n = pass_hits_le notes n
pass_hits_le (set slot x ∷ notes) n = pass_hits_le notes n
pass_hits_le (dropped slot ∷ notes) n = pass_hits_le notes n
pass_hits_le (metric v ∷ notes) n = pass_hits_le notes n
pass_hits_le (turned slot tick ∷ notes) n = pass_hits_le notes n
pass_hits_le (ran slot tick tried runs exceeds ∷ notes) n = pass_hits_le notes n
pass_hits_le (cost slot nanos ∷ notes) n = pass_hits_le notes n

-- how many of the first checks of a pass were hits
abbrev pub hits_below : List Note → ℕ → ℕ → ℕ
hits_below notes n zero = 0
hits_below notes n (suc k) = hits_below notes n k + cond (was_hit notes n k) 1 0

same_hits : (old new : List Note) (n k : ℕ) → ((j : ℕ) → was_hit old n j ≡ was_hit new n j) → hits_below old n k ≡ hits_below new n k
same_hits old new n zero same = refl
same_hits old new n (suc k) same = ap (λ x. x + cond (was_hit old n k) 1 0) (same_hits old new n k same) ∙ ap (λ (b : Bool). hits_below new n k + cond b 1 0) (same k)

no_hits_below : (notes : List Note) (n k : ℕ) → ((j : ℕ) → was_hit notes n j ≡ false) → hits_below notes n k ≡ 0
no_hits_below notes n zero none = refl
no_hits_below notes n (suc k) none = let here : ◌≡◌ {A = ℕ} (cond (was_hit notes n k) 1 0) 0 = rw (none k) refl in omega (arith, here, no_hits_below notes n k none)

-- a check more, of a pick that had none
hit_here : (notes : List Note) (n i p : ℕ) (hit : Bool) → was_hit notes n i ≡ false → was_hit (checked n i p hit ∷ notes) n i ≡ hit
hit_here notes n i p hit new = let same : (n == n) ≡ true = grind (arith, nat_tests) in let index : (i == i) ≡ true = grind (arith, nat_tests) in rw (same, index, new) (or_none hit)
  where
    or_none : (b : Bool) → (b || false) ≡ b
    or_none true = refl
    or_none false = refl

hit_elsewhere : (notes : List Note) (n i p k : ℕ) (hit : Bool) → (i ≡ k → ⊥) → was_hit (checked n i p hit ∷ notes) n k ≡ was_hit notes n k
hit_elsewhere notes n i p k hit other = let same : (n == n) ≡ true = grind (arith, nat_tests) in let index : (i == k) ≡ false = grind (arith, nat_tests) in rw (same, index) refl

hits_before : (notes : List Note) (n i p k : ℕ) (hit : Bool) → k ≤ i → hits_below (checked n i p hit ∷ notes) n k ≡ hits_below notes n k
hits_before notes n i p zero hit below = refl
hits_before notes n i p (suc k) hit below = ap (λ x. x + cond (was_hit (checked n i p hit ∷ notes) n k) 1 0) (hits_before notes n i p k hit (omega arith)) ∙ ap (λ (b : Bool). hits_below notes n k + cond b 1 0) (hit_elsewhere notes n i p k hit (λ is. absurd (omega arith)))

hits_after : (notes : List Note) (n i p k : ℕ) (hit : Bool) → was_hit notes n i ≡ false → i < k → hits_below (checked n i p hit ∷ notes) n k ≡ hits_below notes n k + cond hit 1 0
hits_after notes n i p zero hit new above = absurd (omega arith)
hits_after notes n i p (suc k) hit new above = elim (cases_eq i k) [
  | inl is ↦
      let last : was_hit (checked n i p hit ∷ notes) n k ≡ hit = subst (λ j. was_hit (checked n i p hit ∷ notes) n j ≡ hit) is (hit_here notes n i p hit new) in
      let old : was_hit notes n k ≡ false = subst (λ j. was_hit notes n j ≡ false) is new in
      let count : ◌≡◌ {A = ℕ} (cond (was_hit (checked n i p hit ∷ notes) n k) 1 0) (cond hit 1 0) = rw last refl in
      let none : ◌≡◌ {A = ℕ} (cond (was_hit notes n k) 1 0) 0 = rw old refl in
      omega (arith, hits_before notes n i p k hit (omega arith), count, none)
  | inr other ↦
      let same : ◌≡◌ {A = ℕ} (cond (was_hit (checked n i p hit ∷ notes) n k) 1 0) (cond (was_hit notes n k) 1 0) = ap (λ (b : Bool). cond b 1 0) (hit_elsewhere notes n i p k hit other) in
      omega (arith, hits_after notes n i p k hit new (omega arith), same)
]

-- each pick of the pass under way is checked at most once: the picks that were hits are as many as the hits
pub record IsCounted (s : State) : Type 0 where
  pub early : HasNoEarly s
  pub tallied : IsTallied s
  pub hits : (k : ℕ) → loaded_so_far s.core.phase ≤ k → hits_below s.notes (s.core.ticks + 1) k ≡ pass_hits s.notes (s.core.ticks + 1)

no_pass_hits : (notes : List Note) (n : ℕ) → pass_checks notes n ≡ 0 → pass_hits notes n ≡ 0
no_pass_hits notes n none = omega (arith, pass_hits_le notes n)

counted_load : (s : State) (i : ℕ) (hit : Bool) → loaded_so_far s.core.phase ≡ i → IsCounted s → (k : ℕ) → i + 1 ≤ k → hits_below (loaded_at i hit s).notes (s.core.ticks + 1) k ≡ pass_hits (loaded_at i hit s).notes (s.core.ticks + 1)
counted_load s i hit is counted k above =
    let n = s.core.ticks + 1 in
    let same : (n == n) ≡ true = grind (arith, nat_tests) in
    let one : ◌≡◌ {A = ℕ} (cond ((n == n) && hit) 1 0) (cond hit 1 0) = rw same refl in
    omega (arith, hits_after s.notes n i (slice_index s.core.picks i) k hit (counted.early.this_pass i (omega (arith, is))) (omega arith), counted.hits k (omega (arith, is, above)), one)

counted_commit : (s : State) (c : CommitValue) → check_of c s.core ≡ Ok tt → IsCounted s → IsCounted (committed c s)
counted_commit s c ok counted = record {
  early = early_commit s c ok counted.early;
  tallied = tallied_commit s c ok counted.tallied;
  hits = λ k beyond.
      same_hits (committed_notes c s.notes) s.notes (s.core.ticks + 1) k (λ j. was_hit-commit c s.notes (s.core.ticks + 1) j)
      ∙ counted.hits k (omega (arith, none_loaded s.core.phase (allows_commit c s.core ok)))
      ∙ sym (pass_hits-commit c s.notes (s.core.ticks + 1));
}

ended_hits : (s : State) → IsCounted s → (k : ℕ) → hits_below s.notes (s.core.ticks + 1 + 1) k ≡ pass_hits s.notes (s.core.ticks + 1 + 1)
ended_hits s counted k = no_hits_below s.notes (s.core.ticks + 1 + 1) k (λ j. counted.early.later (s.core.ticks + 1 + 1) j (omega arith)) ∙ sym (no_pass_hits s.notes (s.core.ticks + 1 + 1) (counted.tallied.later (s.core.ticks + 1 + 1) (omega arith)))

keeps_count : Keeps any_result IsCounted
keeps_count = record {
  opens = λ v can.
      (let early = keeps_early.opens v can in
      let tallied = keeps_tally.opens v can in
      record { early = early; tallied = tallied; hits = λ k beyond. no_hits_below (opening_notes v) 1 k (λ j. early.this_pass j (omega arith)) ∙ sym (no_pass_hits (opening_notes v) 1 tallied.this_pass) });
  touching = λ s p c. record { early = keeps_early.touching s p c.early; tallied = keeps_tally.touching s p c.tallied; hits = λ k beyond. same_hits (touched p ∷ s.notes) s.notes (s.core.ticks + 1) k (λ j. refl) ∙ c.hits k beyond };
  preparing = λ s ws idle len c. record { early = keeps_early.preparing s ws idle len c.early; tallied = keeps_tally.preparing s ws idle len c.tallied; hits = λ k beyond. c.hits k (let none : loaded_so_far s.core.phase ≡ 0 = ap loaded_so_far idle in omega arith) };
  clearing = λ s k is c. record { early = keeps_early.clearing s k is c.early; tallied = keeps_tally.clearing s k is c.tallied; hits = λ j beyond. same_hits (by_clear (Clearing k) s).notes s.notes (s.core.ticks + 1) j (λ i. refl) ∙ c.hits j (let none : loaded_so_far s.core.phase ≡ 0 = ap loaded_so_far is in omega arith) };
  loading = λ s k hit fits index known c.
      (let is = (loading_pass s.core.phase (row_count s.core) s.core.ticks fits).1 ∙ index in
      record { early = early_load s k hit is c.early; tallied = tallied_load s k hit is c.tallied; hits = counted_load s k hit is c });
  finishing = λ s is c. record { early = keeps_early.finishing s is c.early; tallied = keeps_tally.finishing s is c.tallied; hits = λ k beyond. same_hits (finished_pass s).notes s.notes (s.core.ticks + 1 + 1) k (λ j. refl) ∙ ended_hits s c k };
  voiding = λ s is c. record { early = keeps_early.voiding s is c.early; tallied = keeps_tally.voiding s is c.tallied; hits = λ k beyond. same_hits (by_observe Void s).notes s.notes (s.core.ticks + 1 + 1) k (λ j. refl) ∙ ended_hits s c k };
  aggregating = λ s ws is c. record { early = keeps_early.aggregating s ws is c.early; tallied = keeps_tally.aggregating s ws is c.tallied; hits = λ k beyond. same_hits (served s).notes s.notes (s.core.ticks + 1) k (λ j. was_hit-served s (s.core.ticks + 1) j) ∙ c.hits k (let none : loaded_so_far s.core.phase ≡ 0 = ap loaded_so_far is in omega arith) ∙ sym (pass_hits-served s (s.core.ticks + 1)) };
  committing = counted_commit;
}

pub reached_counted : (s : State) → Reached s → IsCounted s
reached_counted = reached_keeps IsCounted keeps_count
