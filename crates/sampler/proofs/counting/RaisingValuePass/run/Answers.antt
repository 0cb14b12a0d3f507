use Rattle.std.proofs.Common.{◌+◌, ◌^◌, ◌<◌, ℕ, List, sym, subst, ◌∙◌}
use Rattle.std.specs.List.{AllByRecursion}
use Rattle.sampler.proofs.Raised.{raised_ages, raised_lasts, small_counts}
use Rattle.sampler.proofs.counting.RaisingValuePass.run.Goals as goal

pub raise_counts-requires-clause-small : goal.raise_counts-requires-clause-small
raise_counts-requires-clause-small c =
    let rows = c.requires.0 in
    subst (λ (ns : List ℕ). AllByRecursion (λ n. n + 1 < 2 ^ 32) ns) (sym c.requires.1.count) (small_counts rows c.requires.2.1)

pub returns : goal.returns
returns c rows is =
    let bits = c.args.self.now.bits.now in
    record {
      count = c.raise_counts.ensures rows is.count;
      last = is.last ∙ sym (raised_lasts bits rows);
      age = is.age ∙ sym (raised_ages bits rows);
    }
