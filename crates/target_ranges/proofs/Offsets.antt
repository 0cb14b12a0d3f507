-- Where the pages of targets lie.
use Rattle.std.proofs.Common.{◌≡◌, ℕ, zero, suc, ◌+◌, ◌*◌, ◌-◌, ◌/◌, ◌≤◌, ◌<◌, List, [], ◌∷◌, Some, ap, ◌∙◌, arith}
use Rattle.std.proofs.lemmas.Bool.Decides.{nat_tests}
use Rattle.std.proofs.lemmas.List.Sums.{sum_by-take-le}
use Rattle.std.specs.Prelude.{slice_get, slice_index, map}
use Rattle.damon_types.specs.declared.space.Target.{Target}
use Rattle.damon_types.specs.Space.{pages_of, offset, page_of, page_in}

-- no offset is above the number of pages
pub offset-total : (ts : List Target) (i : ℕ) → offset ts i ≤ pages_of ts
offset-total ts i = sum_by-take-le (λ (t : Target). t.pages) ts i

-- the base of a target that is there
pub base_of_there : (ts : List Target) (i : ℕ) (t : Target) → slice_get ts i ≡ Some t → (slice_index (map (λ (t : Target). t.base) ts) i) ≡ t.base
base_of_there [] i t is = absurd (cc)
base_of_there (u ∷ us) zero t is = let same : u ≡ t = cc in ap (λ (t : Target). t.base) same
base_of_there (u ∷ us) (suc i) t is = base_of_there us i t is

-- the page of a byte of a target that is there
pub page_of_there : (ts : List Target) (i addr : ℕ) (t : Target) → slice_get ts i ≡ Some t → t.base ≤ addr → addr < t.base + 4096 * t.pages → page_of ts i addr ≡ Some (offset ts i + (addr - t.base) / 4096)
page_of_there ts i addr t is low high =
    ap (λ o. page_in (offset ts i) addr o) is ∙ held
  where
    held : page_in (offset ts i) addr (Some t) ≡ Some (offset ts i + (addr - t.base) / 4096)
    held = grind (arith, nat_tests)
