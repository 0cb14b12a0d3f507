use Rattle.std.proofs.Common.{sym}
use Rattle.damon_types.proofs.PlaceLemmas.{place_found}
use Rattle.damon_types.proofs.space.Space.place_in.Goals as goal

pub returns : goal.returns
returns c =
    let layout = rw c.self.view_is at c.self.invariant in
    let held = rw c.self.view_is at c.index-target.ensures in
    let found = place_found c.args.self.now c.self.inside.offsets.items c.self.inside.pages c.args.index c.args.page c.index-first.result.now c.index-target.result.now layout c.requires.within c.requires.from c.requires.to held c.index-first.ensures in
    record {
      place = rw c.from.ensures (sym found.0);
      inverse = rw c.from.ensures found.1;
      below = rw c.from.ensures found.2;
    }
