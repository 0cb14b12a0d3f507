-- The bytes of slots before and after changes.
use Rattle.std.proofs.Common.{◌≡◌, ℕ, true, false, Option, Some, None, refl, ap, ◌∙◌, arith}
use Rattle.std.specs.Prelude.{◌==◌, is_none, if◌then◌else◌}
use Rattle.std.specs.Option.{option_and_then, option_map, option_map_or, unwrap_or}
use Rattle.std.proofs.lemmas.Bool.Decides.{nat_tests}
use Rattle.damon_types.specs.declared.scheme.Marks.{Marks}
use Rattle.damon_types.specs.declared.scheme.Quota.{Quota}
use Rattle.damon_types.specs.declared.scheme.Scheme.{Scheme}
use Rattle.damon_types.specs.declared.scheme.SlotChange.{SlotChange}
use Rattle.quota_goal.specs.declared.moment.Moment.{Moment}
use Rattle.quota_goal.specs.Tuned.{TunerView, bytes_at, least_of, new_bytes, nexts, other_than, scheme_at, top_at, tunable_bytes, with_bytes}
use Rattle.tune_run.proofs.Changes.{change_to, tuned_from, tuned_scheme}

-- a tunable scheme with other bytes has these bytes
bytes_are : (s : Scheme) (before bytes : ℕ) → tunable_bytes s ≡ Some before → tunable_bytes (with_bytes s bytes) ≡ Some bytes
bytes_are s before bytes was = by_parts s.marks s.quota was
  where
    by_parts : (marks : Option Marks) (quota : Option Quota)
        → (if is_none marks then option_map (λ (q : Quota). q.bytes) quota else None) ≡ Some before
        → (if is_none marks then option_map (λ (q : Quota). q.bytes) (option_map (λ (q : Quota). record q { bytes = bytes }) quota) else None) ≡ Some bytes
    by_parts None None is = absurd (cc is)
    by_parts None (Some q) is = refl
    by_parts (Some m) quota is = absurd (cc is)

-- the bytes of a slot with these bytes once it was tuned: the least of the next ones, if there are any
abbrev pub new_of : TunerView → ℕ → Moment → ℕ → ℕ
new_of t slot moment bytes = unwrap_or (least_of (nexts t.goals slot moment bytes (top_at t slot))) bytes

-- the bytes of a scheme that becomes another one, if there is one
abbrev bytes_with : ℕ → Scheme → Option Scheme → Option ℕ
bytes_with slot s new = option_and_then tunable_bytes (option_map_or (λ (c : SlotChange). c.scheme) (change_to slot new) (Some s))

pub bytes_tuned : (t : TunerView) (slot : ℕ) (moment : Moment)
    → option_and_then tunable_bytes (tuned_scheme t slot moment) ≡ option_map (new_of t slot moment) (bytes_at t slot)
bytes_tuned t slot moment = by_scheme (scheme_at t slot)
  where
    by_least : (s : Scheme) (bytes : ℕ) (least : Option ℕ) → tunable_bytes s ≡ Some bytes
        → bytes_with slot s (option_map (with_bytes s) (option_and_then (other_than bytes) least)) ≡ Some (unwrap_or least bytes)
    by_least s bytes None was = was
    by_least s bytes (Some n) was =
        (elim (n == bytes) as (λ b. (n == bytes) ≡ b → bytes_with slot s (option_map (with_bytes s) (if b then None else Some n)) ≡ Some n) [
          | true ↦ λ is. let same : bytes ≡ n = grind (arith, nat_tests) in was ∙ ap (λ k. Some k) same
          | false ↦ λ is. bytes_are s bytes n was
        ]) refl

    by_bytes : (s : Scheme) (o : Option ℕ) → tunable_bytes s ≡ o
        → bytes_with slot s (option_map (with_bytes s) (option_and_then (new_bytes t slot moment) o)) ≡ option_map (new_of t slot moment) o
    by_bytes s None was = was
    by_bytes s (Some bytes) was = by_least s bytes (least_of (nexts t.goals slot moment bytes (top_at t slot))) was

    by_scheme : (held : Option Scheme)
        → option_and_then tunable_bytes (tuned_from t slot moment held) ≡ option_map (new_of t slot moment) (option_and_then tunable_bytes held)
    by_scheme None = refl
    by_scheme (Some s) = by_bytes s (tunable_bytes s) refl
