use Rattle.std.proofs.Common.{◌≡◌, ◌+◌, ◌-◌, ◌/◌, arith}
use Rattle.std.specs.Prelude.{slice_index, map}
use Rattle.damon_types.specs.declared.space.Target.{Target}
use Rattle.damon_types.specs.Space.{offset}
use Rattle.target_ranges.proofs.Made.{few_pages}
use Rattle.target_ranges.proofs.Offsets.{base_of_there, page_of_there}
use Rattle.target_ranges.proofs.fill.range_of.Goals as goal

pub returns-clause-exact : goal.returns-clause-exact
returns-clause-exact c =
    let ts = c.args.space.now in
    let s = c.args.spec.now in
    let held = page_of_there ts s.target s.from c.requires.place c.requires.there c.requires.low (omega arith) in
    let base = base_of_there ts s.target c.requires.place c.requires.there in
    let same : c.unwrap-first.result ≡ offset ts s.target + (s.from - (slice_index (map (λ (t : Target). t.base) ts) s.target)) / 4096 = rw base (cc held) in
    cc same

pub overflow_cast-result : goal.overflow_cast-result
overflow_cast-result c =
    omega (arith, few_pages c.args.space.now c.args.spec.now c.requires, c.targets.ensures.sound.total)
