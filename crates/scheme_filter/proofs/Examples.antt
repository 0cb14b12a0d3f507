-- Worked examples of filters, computed by hand.
use Rattle.std.proofs.Common.{◌≡◌, ℕ, ◌%◌, Bool, true, false, not, List, [], ◌∷◌, map, refl}
use Rattle.std.specs.Prelude.{◌==◌}
use Rattle.damon_types.specs.declared.filter.Filter.{Filter}
use Rattle.damon_types.specs.declared.filter.FilterKind.{FilterKind}
use Rattle.damon_types.specs.declared.filter.FilterKind.TheVariants.{Addr, Target, Class}
use Rattle.damon_types.specs.declared.range.Range.{Range}
use Rattle.damon_types.specs.declared.space.Target as target
use Rattle.scheme_filter.specs.declared.runs.Run.{Run}
use Rattle.scheme_filter.specs.Passes.{passes}
use Rattle.scheme_filter.specs.Runs.{runs_of}

-- a filter that applies to the pages of its kind
abbrev matching : Bool → FilterKind → Filter
matching allow kind = record { allow = allow; matching = true; kind = kind }

-- a filter that applies to all other pages
abbrev others : Bool → FilterKind → Filter
others allow kind = record { allow = allow; matching = false; kind = kind }

abbrev run : ℕ → ℕ → Run
run start pages = record { start = start; pages = pages }

-- which of four pages pass: the first three are a target at address 0, and the last one is a target at 0x10000
abbrev passing : List Filter → ℕ → List Bool
passing fs class = map (passes fs space ranges) (0 ∷ 1 ∷ 2 ∷ 3 ∷ [])
  where
    space : List target.Target
    space = record { base = 0; pages = 3 } ∷ record { base = 65536; pages = 1 } ∷ []

    ranges : List Range
    ranges = record { target = 0; first = 0; pages = 3; class = class } ∷ record { target = 1; first = 3; pages = 1; class = 0 } ∷ []

-- without filters every page passes
no_filter : passing [] 1 ≡ true ∷ true ∷ true ∷ true ∷ []
no_filter = refl

-- page 1 is rejected by its address, and the others of class 1 are allowed; none applies to page 3, and the last one allows
first_decides : passing (matching false (Addr 4096 8192) ∷ matching true (Class 1) ∷ []) 1 ≡ true ∷ false ∷ true ∷ false ∷ []
first_decides = refl

-- the same in another order: the class is looked at first
order_counts : passing (matching true (Class 1) ∷ matching false (Addr 4096 8192) ∷ []) 1 ≡ true ∷ true ∷ true ∷ true ∷ []
order_counts = refl

-- no filter applies to pages 0, 2 and 3, and the last one allows
none_applies : passing (matching false (Addr 4096 8192) ∷ matching true (Class 1) ∷ []) 0 ≡ false ∷ false ∷ false ∷ false ∷ []
none_applies = refl

-- no filter applies to pages 0, 2 and 3, and the last one rejects
none_applies_to_reject : passing (matching false (Addr 4096 8192) ∷ matching false (Class 1) ∷ []) 0 ≡ true ∷ false ∷ true ∷ true ∷ []
none_applies_to_reject = refl

-- a filter that is not matching: pages that are not of target 1 are rejected
others_apply : passing (others false (Target 1) ∷ []) 1 ≡ false ∷ false ∷ false ∷ true ∷ []
others_apply = refl

-- an address filter is about the first byte of a page
first_byte : passing (matching true (Addr 1 8193) ∷ []) 1 ≡ false ∷ true ∷ true ∷ false ∷ []
first_byte = refl

-- of the six pages from page 4 on, pages 6 and 9 do not pass
longest : runs_of (λ p. not (p % 3 == 0)) 4 6 ≡ run 4 2 ∷ run 7 2 ∷ []
longest = refl

-- the runs of three pages at address 0, in a range of this class
abbrev runs_of_three : List Filter → ℕ → List Run
runs_of_three fs class = runs_of (passes fs space ranges) 0 3
  where
    space : List target.Target
    space = record { base = 0; pages = 3 } ∷ []

    ranges : List Range
    ranges = record { target = 0; first = 0; pages = 3; class = class } ∷ []

-- page 1 is rejected by its address, which parts the two other pages
two_runs : runs_of_three (matching false (Addr 4096 8192) ∷ matching true (Class 1) ∷ []) 1 ≡ run 0 1 ∷ run 2 1 ∷ []
two_runs = refl

no_run : runs_of_three (matching false (Addr 4096 8192) ∷ matching true (Class 1) ∷ []) 0 ≡ []
no_run = refl

one_run : runs_of_three [] 1 ≡ run 0 3 ∷ []
one_run = refl
