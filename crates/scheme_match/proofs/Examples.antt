-- Worked examples of matching, computed by hand.
use Rattle.std.proofs.Common.{◌≡◌, ℕ, ◌^◌, ◌-◌, true, false, refl}
use Rattle.damon_types.specs.declared.row.Row.{Row}
use Rattle.damon_types.specs.declared.scheme.Pattern.{Pattern}
use Rattle.damon_types.specs.declared.scheme.Span.{Span}
use Rattle.scheme_match.specs.Match.{is_in_span, is_match}

abbrev span : ℕ → ℕ → Span
span low high = record { low = low; high = high }

-- a row of these pages, this count and this age
abbrev row : ℕ → ℕ → ℕ → Row
row pages count age = record { target = 0; start = 0; pages = pages; count = count; last = 0; age = age }

-- regions of any size that were never hit, for at least one aggregation
abbrev cold : Pattern
cold = record { size = span 0 (2 ^ 32 - 1); count = span 0 0; age = span 1 (2 ^ 32 - 1) }

cold_row : is_match cold (row 102 0 1) ≡ true
cold_row = refl

hot_row : is_match cold (row 102 20 0) ≡ false
hot_row = refl

-- the age alone is outside of its span
young_row : is_match cold (row 102 0 0) ≡ false
young_row = refl

-- the count alone is outside of its span
row_hit_once : is_match cold (row 106 1 5) ≡ false
row_hit_once = refl

-- both ends belong to a span
low_end : is_in_span (span 2 9) 2 ≡ true
low_end = refl

high_end : is_in_span (span 2 9) 9 ≡ true
high_end = refl

below : is_in_span (span 2 9) 1 ≡ false
below = refl

above : is_in_span (span 2 9) 10 ≡ false
above = refl

-- the size of a row is its pages
small_row : is_match (record cold { size = span 103 200 }) (row 102 0 1) ≡ false
small_row = refl
