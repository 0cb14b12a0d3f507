-- What holds of the notes of a state, by walks over them, and what a walk says of each note.
use Rattle.std.proofs.Common.{◌≡◌, ℕ, zero, suc, ◌+◌, ◌<◌, Bool, true, false, List, [], ◌∷◌, ◌++◌, length, refl, sym, ap, subst, inl, inr, arith}
use Rattle.std.specs.Prelude.{◌==◌, ◌&&◌, ◌||◌, Contains}
use Rattle.std.proofs.lemmas.Bool.{or_cases, and_parts, false≢true}
use Rattle.std.proofs.lemmas.Bool.Decides.{nat_tests}
use Rattle.damon_types.specs.Span.{Span}
use Rattle.scheme_engine.specs.declared.applied.AppliedRun.{AppliedRun}
use Rattle.damon_core.specs.Note.{Note, touched, cleared, checked, finished, voided, set, dropped, metric, turned, ran, cost, checks_of}
use Rattle.damon_core.specs.Bound.{ChecksEachRow, IsRunWithin}

-- whether the pass cleared the page as its pick k
abbrev pub has_clear : List Note → ℕ → ℕ → ℕ → Bool
has_clear [] pass k page = false
has_clear (cleared n j p ∷ earlier) pass k page = ((n == pass) && ((j == k) && (p == page))) || has_clear earlier pass k page
has_clear (_ ∷ earlier) pass k page = has_clear earlier pass k page

-- whether the page was touched after the pass had cleared it as its pick k
abbrev pub touched_after_clear : List Note → ℕ → ℕ → ℕ → Bool
touched_after_clear [] pass k page = false
touched_after_clear (touched p ∷ earlier) pass k page =
    ((p == page) && has_clear earlier pass k page) || touched_after_clear earlier pass k page
touched_after_clear (_ ∷ earlier) pass k page = touched_after_clear earlier pass k page

-- each pass that ends among these notes, by all notes: a finished one checks each row, a void one checks nothing
abbrev pub EachPassChecks : List Note → List Note → Type 0
EachPassChecks all [] = Unit {0}
EachPassChecks all (finished n rows ∷ earlier) = ChecksEachRow all n rows × EachPassChecks all earlier
EachPassChecks all (voided n ∷ earlier) = (checks_of all n ≡ []) × EachPassChecks all earlier
EachPassChecks all (_ ∷ earlier) = EachPassChecks all earlier

-- each check that was a hit rests on a touch of its page after the pass had cleared it
abbrev pub EachHitRests : List Note → Type 0
EachHitRests [] = Unit {0}
EachHitRests (checked n k p true ∷ earlier) = (touched_after_clear earlier n k p ≡ true) × EachHitRests earlier
EachHitRests (_ ∷ earlier) = EachHitRests earlier

-- each run of a scheme is one
abbrev pub EachRunIsWithin : List Note → Type 0
EachRunIsWithin [] = Unit {0}
EachRunIsWithin (ran slot tick tried runs exceeds ∷ earlier) = IsRunWithin earlier slot runs × EachRunIsWithin earlier
EachRunIsWithin (_ ∷ earlier) = EachRunIsWithin earlier

-- ---- what a walk says of each note

behind : (note : Note) (notes : List Note) (x : Note) → Contains notes x → Contains (note ∷ notes) x
behind note notes x at = (suc at.0, omega (arith, at.1), at.2)

contains_clear : (notes : List Note) (n k p : ℕ) → has_clear notes n k p ≡ true → Contains notes (cleared n k p)
contains_clear [] n k p has = absurd (false≢true has)
contains_clear (cleared m j q ∷ notes) n k p has = elim (or_cases ((m == n) && ((j == k) && (q == p))) (has_clear notes n k p) has) [
  | inl here ↦ (
      let first = and_parts (m == n) ((j == k) && (q == p)) here in
      let rest = and_parts (j == k) (q == p) first.1 in
      let pass : m ≡ n = grind (arith, nat_tests, first.0) in
      let pick : j ≡ k = grind (arith, nat_tests, rest.0) in
      let page : q ≡ p = grind (arith, nat_tests, rest.1) in
      let same : cleared m j q ≡ cleared n k p = cc (pass, pick, page) in
      (0, omega arith, same))
  | inr before ↦ behind (cleared m j q) notes (cleared n k p) (contains_clear notes n k p before)
]
contains_clear (touched a ∷ notes) n k p has = behind (touched a) notes (cleared n k p) (contains_clear notes n k p has)
contains_clear (checked a b c d ∷ notes) n k p has = behind (checked a b c d) notes (cleared n k p) (contains_clear notes n k p has)
contains_clear (finished a b ∷ notes) n k p has = behind (finished a b) notes (cleared n k p) (contains_clear notes n k p has)
contains_clear (voided a ∷ notes) n k p has = behind (voided a) notes (cleared n k p) (contains_clear notes n k p has)
contains_clear (set a b ∷ notes) n k p has = behind (set a b) notes (cleared n k p) (contains_clear notes n k p has)
contains_clear (dropped a ∷ notes) n k p has = behind (dropped a) notes (cleared n k p) (contains_clear notes n k p has)
contains_clear (metric a ∷ notes) n k p has = behind (metric a) notes (cleared n k p) (contains_clear notes n k p has)
contains_clear (turned a b ∷ notes) n k p has = behind (turned a b) notes (cleared n k p) (contains_clear notes n k p has)
contains_clear (ran a b c d e ∷ notes) n k p has = behind (ran a b c d e) notes (cleared n k p) (contains_clear notes n k p has)
contains_clear (cost a b ∷ notes) n k p has = behind (cost a b) notes (cleared n k p) (contains_clear notes n k p has)

-- a touch of the page, and before it a clear of it by the pass as its pick k
abbrev pub IsTouchedSince : List Note → ℕ → ℕ → ℕ → Type 0
IsTouchedSince earlier n k p = (since : List Note) × (before : List Note) × (earlier ≡ since ++ touched p ∷ before) × Contains before (cleared n k p)

touch_behind : (note : Note) (notes : List Note) (n k p : ℕ) → IsTouchedSince notes n k p → IsTouchedSince (note ∷ notes) n k p
touch_behind note notes n k p found = (note ∷ found.0, found.1, ap (λ ns. note ∷ ns) found.2, found.3)

touch_found : (notes : List Note) (n k p : ℕ) → touched_after_clear notes n k p ≡ true → IsTouchedSince notes n k p
touch_found [] n k p is = absurd (false≢true is)
touch_found (touched q ∷ notes) n k p is = elim (or_cases ((q == p) && has_clear notes n k p) (touched_after_clear notes n k p) is) [
  | inl here ↦ (
      let parts = and_parts (q == p) (has_clear notes n k p) here in
      let page : q ≡ p = grind (arith, nat_tests, parts.0) in
      ([], notes, ap (λ x. touched x ∷ notes) page, contains_clear notes n k p parts.1))
  | inr before ↦ touch_behind (touched q) notes n k p (touch_found notes n k p before)
]
touch_found (cleared a b c ∷ notes) n k p is = touch_behind (cleared a b c) notes n k p (touch_found notes n k p is)
touch_found (checked a b c d ∷ notes) n k p is = touch_behind (checked a b c d) notes n k p (touch_found notes n k p is)
touch_found (finished a b ∷ notes) n k p is = touch_behind (finished a b) notes n k p (touch_found notes n k p is)
touch_found (voided a ∷ notes) n k p is = touch_behind (voided a) notes n k p (touch_found notes n k p is)
touch_found (set a b ∷ notes) n k p is = touch_behind (set a b) notes n k p (touch_found notes n k p is)
touch_found (dropped a ∷ notes) n k p is = touch_behind (dropped a) notes n k p (touch_found notes n k p is)
touch_found (metric a ∷ notes) n k p is = touch_behind (metric a) notes n k p (touch_found notes n k p is)
touch_found (turned a b ∷ notes) n k p is = touch_behind (turned a b) notes n k p (touch_found notes n k p is)
touch_found (ran a b c d e ∷ notes) n k p is = touch_behind (ran a b c d e) notes n k p (touch_found notes n k p is)
touch_found (cost a b ∷ notes) n k p is = touch_behind (cost a b) notes n k p (touch_found notes n k p is)

hits_before : (note : Note) (notes : List Note) → EachHitRests (note ∷ notes) → EachHitRests notes
hits_before (touched a) notes each = each
hits_before (cleared a b c) notes each = each
hits_before (checked a b c true) notes each = each.1
hits_before (checked a b c false) notes each = each
hits_before (finished a b) notes each = each
hits_before (voided a) notes each = each
hits_before (set a b) notes each = each
hits_before (dropped a) notes each = each
hits_before (metric a) notes each = each
hits_before (turned a b) notes each = each
hits_before (ran a b c d e) notes each = each
hits_before (cost a b) notes each = each

-- each hit rests on a touch
pub hit_rests : (later earlier : List Note) (n k p : ℕ) → EachHitRests (later ++ checked n k p true ∷ earlier) → IsTouchedSince earlier n k p
hit_rests [] earlier n k p each = touch_found earlier n k p each.0
hit_rests (note ∷ later) earlier n k p each = hit_rests later earlier n k p (hits_before note (later ++ checked n k p true ∷ earlier) each)

runs_before : (note : Note) (notes : List Note) → EachRunIsWithin (note ∷ notes) → EachRunIsWithin notes
runs_before (touched a) notes each = each
runs_before (cleared a b c) notes each = each
runs_before (checked a b c d) notes each = each
runs_before (finished a b) notes each = each
runs_before (voided a) notes each = each
runs_before (set a b) notes each = each
runs_before (dropped a) notes each = each
runs_before (metric a) notes each = each
runs_before (turned a b) notes each = each
runs_before (ran a b c d e) notes each = each.1
runs_before (cost a b) notes each = each

-- each run is within its quota
pub run_is_within : (later earlier : List Note) (slot tick tried : ℕ) (runs : List AppliedRun) (exceeds : Bool)
    → EachRunIsWithin (later ++ ran slot tick tried runs exceeds ∷ earlier) → IsRunWithin earlier slot runs
run_is_within [] earlier slot tick tried runs exceeds each = each.0
run_is_within (note ∷ later) earlier slot tick tried runs exceeds each =
    run_is_within later earlier slot tick tried runs exceeds (runs_before note (later ++ ran slot tick tried runs exceeds ∷ earlier) each)

passes_before : (all : List Note) (note : Note) (notes : List Note) → EachPassChecks all (note ∷ notes) → EachPassChecks all notes
passes_before all (touched a) notes each = each
passes_before all (cleared a b c) notes each = each
passes_before all (checked a b c d) notes each = each
passes_before all (finished a b) notes each = each.1
passes_before all (voided a) notes each = each.1
passes_before all (set a b) notes each = each
passes_before all (dropped a) notes each = each
passes_before all (metric a) notes each = each
passes_before all (turned a b) notes each = each
passes_before all (ran a b c d e) notes each = each
passes_before all (cost a b) notes each = each

-- each finished pass checks each row
pub finished_checks : (all notes : List Note) (n : ℕ) (rows : List Span) → EachPassChecks all notes → Contains notes (finished n rows) → ChecksEachRow all n rows
finished_checks all [] n rows each (k, below, is) = absurd (omega arith)
finished_checks all (note ∷ notes) n rows each (zero, below, is) = (subst (λ x. EachPassChecks all (x ∷ notes)) is each).0
finished_checks all (note ∷ notes) n rows each (suc k, below, is) = finished_checks all notes n rows (passes_before all note notes each) (k, omega (arith, below), is)

-- a void pass checks nothing
pub void_checks_nothing : (all notes : List Note) (n : ℕ) → EachPassChecks all notes → Contains notes (voided n) → checks_of all n ≡ []
void_checks_nothing all [] n each (k, below, is) = absurd (omega arith)
void_checks_nothing all (note ∷ notes) n each (zero, below, is) = (subst (λ x. EachPassChecks all (x ∷ notes)) is each).0
void_checks_nothing all (note ∷ notes) n each (suc k, below, is) = void_checks_nothing all notes n (passes_before all note notes each) (k, omega (arith, below), is)
