-- The setup of generated scripts is within its limits, and so is each generated script.
use Rattle.std.proofs.Common.{◌≡◌, ℕ, ◌≤◌, List, refl, sym, ap, subst, arith}
use Rattle.std.specs.Prelude.{IsSome}
use Rattle.std.proofs.lemmas.List.Elements.{All-from_recursion}
use Rattle.damon_types.specs.declared.range.Range.{Range}
use Rattle.damon_types.specs.declared.scheme.SlotChange.{SlotChange}
use Rattle.damon_types.specs.Ranges.{InOrder}
use Rattle.damon_types.specs.Space.{IsSpace, IsTarget, pages_of}
use Rattle.damon_types.specs.Within.{LiesInTarget}
use Rattle.live_commit.specs.Setup.{IsSetup, SetupValue}
use Rattle.script_lines.specs.Command.{CommandValue, work_of}
use Rattle.script_lines.specs.Limits.{AreCommandsWithin}
use Rattle.damon_control.specs.Sound.{IsSound}
use Rattle.trace_gen.specs.Gen.{access_of, blocks, gen, gen_setup, zone_of}
use Rattle.trace_gen.proofs.BlockLemmas.{blocks_within, work-blocks}

gen_space : IsSpace gen_setup.space
gen_space = record {
  some = omega arith;
  few = omega arith;
  each = All-from_recursion IsTarget gen_setup.space (record { some = omega arith; few = omega arith; aligned = refl; end = omega arith }, tt);
  total = omega arith;
}

gen_sound : IsSetup gen_setup
gen_sound = record {
  unit_some = omega arith;
  unit_most = omega arith;
  cap_some = omega arith;
  cap_most = omega arith;
  attrs = record { min = omega arith; max = omega arith; aggr_some = omega arith; aggr_most = omega arith };
  max_cap = omega arith;
  ranges_some = omega arith;
  ranges_most = omega arith;
  wide = All-from_recursion (λ (g : Range). 1 ≤ g.pages) gen_setup.ranges (omega arith, tt);
  classes = All-from_recursion (λ (g : Range). g.class ≤ 15) gen_setup.ranges (omega arith, tt);
  within = All-from_recursion (LiesInTarget gen_setup.space) gen_setup.ranges (record { target = omega arith; from = omega arith; to = omega arith }, tt);
  set = All-from_recursion (λ (c : SlotChange). IsSome c.scheme) gen_setup.slots (refl, tt);
  slots = refl;
}

gen_order : InOrder gen_setup.ranges
gen_order = (omega arith, omega arith, record { pages = omega arith; end = omega arith }, tt)

-- a generated script is within its limits
pub gen-IsSound : (n : ℕ) → IsSound (gen n)
gen-IsSound n =
    let work = work-blocks (access_of n) (zone_of n) 2000 in
    record {
      space = gen_space;
      setup = gen_sound;
      order = gen_order;
      commands = blocks_within (access_of n) (zone_of n) 2000 (omega arith);
      work = omega (arith, work);
    }

-- ---- the commands of the program

module _ (n : ℕ) (v : SetupValue) (cs : List CommandValue) (is : v ≡ gen_setup) (say : cs ≡ blocks (access_of n) (zone_of n) 2000) where
  pub gen_within : AreCommandsWithin (pages_of v.space) cs
  gen_within =
      let within = subst (AreCommandsWithin 1024) (sym say) (blocks_within (access_of n) (zone_of n) 2000 (omega arith)) in
      subst (λ (v : SetupValue). AreCommandsWithin (pages_of v.space) cs) (sym is) within

  pub gen_work : work_of v.cap cs ≤ 16777216
  gen_work =
      let work = work-blocks (access_of n) (zone_of n) 2000 in
      let most : work_of 100 cs ≤ 16777216 = omega (arith, work, ap (work_of 100) say) in
      subst (λ (v : SetupValue). work_of v.cap cs ≤ 16777216) (sym is) most
