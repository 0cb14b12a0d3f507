-- How often a source or a sink was called.
use Rattle.std.specs.Prelude.{◌≡◌, ◌==◌, ◌≤◌, ◌+◌, ◌-◌, ◌^◌, ℕ, Bool, min, if◌then◌else◌}
use Rattle.damon_types.specs.declared.calls.Calls.{Calls}

-- the count after one more: a count of 64 bits, which stays at its last value
abbrev pub next_count : ℕ → ℕ
next_count n = min (n + 1) (2 ^ 64 - 1)

-- no call so far
abbrev pub no_calls : Calls
no_calls = record { made = 0; failed = 0; late = 0 }

-- the counts after one more call, which failed or not
abbrev pub after_call : Bool → Calls → Calls
after_call fails c = record {
  made = next_count c.made;
  failed = if fails then next_count c.failed else c.failed;
  late = if c.failed == 0 then c.late else next_count c.late;
}

-- the count of failures rose, or is at its last value
abbrev pub Rose : Calls → Calls → Type 0
Rose before now = next_count before.failed ≤ now.failed

-- Where `fails` holds, one call failed, and otherwise none. Where none had failed before, no call was made after one that failed.
pub record EndsAtFault (fails : Type 0) (before now : Calls) : Type 0 where
  pub one : fails → now.failed ≡ next_count before.failed
  pub none : (fails → ⊥) → now.failed ≡ before.failed
  pub late : before.failed ≡ 0 → now.late ≡ before.late
