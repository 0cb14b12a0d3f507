use Rattle.std.proofs.Common.{subst}
use Rattle.region_list.specs.Regions.{IsRegionList}
use Rattle.region_list.proofs.regions.Regions.rows.Goals as goal

pub returns-clause-kept : goal.returns-clause-kept
returns-clause-kept c = subst IsRegionList c.self.view_is c.self.invariant.0
