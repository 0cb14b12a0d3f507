use Rattle.std.proofs.Common.{ℕ, ◌≡◌, ◌<◌, Bool, List, cond, length, ap, option_map, subst, sym, ◌∙◌}
use Rattle.std.specs.Prelude.{Option}
use Rattle.damon_types.specs.declared.range.RangeSpec.{RangeSpec}
use Rattle.damon_types.specs.declared.row.Row.{Row}
use Rattle.damon_types.specs.declared.space.Target.{Target}
use Rattle.damon_types.specs.Listed.{Listed}
use Rattle.region_list.specs.Regions.{RegionList}
use Rattle.live_commit.specs.declared.phase.Phase.{Phase}
use Rattle.live_commit.specs.declared.phase.Phase.TheVariants.{Void}
use Rattle.live_commit.specs.Accepted.{AllowsCommit}
use Rattle.damon_core.specs.Commit.{becomes_void, phase_after_commit, regions_after}
use Rattle.damon_core.specs.Kept.{CanCommit, IsSampling, SamplingView}
use Rattle.damon_core.proofs.Committing.{new_cap, new_some, sampling_kept}
use Rattle.damon_core.proofs.sampling.Sampling.commit.Goals as goal

pub invariant_of-self : goal.invariant_of-self
invariant_of-self c =
    let i = c.self.inside in
    let new = c.change.new.regions in
    let specs : Option (List RangeSpec) = option_map (λ (l : Listed RangeSpec). l.list) c.args.specs.now in
    let space : List Target = c.args.space.now in
    let can = subst (λ (v : SamplingView). CanCommit space v.regions specs c.args.max) (sym c.self.view_is) c.requires.can in
    let allows = subst (λ (v : SamplingView). AllowsCommit v.phase) (sym c.self.view_is) c.requires.phase in
    let made : new ≡ regions_after space specs c.args.max i.regions = c.change.ensures.changed in
    let some = subst (λ (r : RegionList). 0 < length r.rows) (sym made)
    (new_some space specs c.args.max i.regions c.targets-targets.ensures.sound c.len-rows.ensures.unit c.self.invariant.some can) in
    let cap = ap (λ (r : RegionList). r.cap) made ∙ new_cap space specs c.args.max i.regions in
    let void =
    c.becomes_void-void.ensures
    ∙ c.keep_if_armed.ensures.same c.rows-2.result.now.rows
    ∙ ap (λ (rows : List Row). becomes_void i.phase rows c.rows-2.result.now.rows) c.rows.ensures.rows
    ∙ ap (λ (rows : List Row). becomes_void i.phase i.regions.rows rows) c.rows-2.ensures.rows in
    let phase : phase_after_commit i.phase i.regions.rows new.rows ≡ c.void_or-self-inside.result = sym (c.void_or-self-inside.ensures ∙ ap (λ (b : Bool). cond b Void i.phase) void) in
    let Keeps : Phase → ℕ → ℕ → Type 0 = λ ph row_room range_room. IsSampling new ph i.picks i.hits_so_far row_room range_room in
    let kept = sampling_kept i.regions new i.phase i.picks i.hits_so_far i.earlier.cap i.room c.self.invariant allows some cap in
    subst (λ n. Keeps c.void_or-self-inside.result n c.change.new.self) (sym c.keep_if_armed.ensures.cap)
    (subst (λ n. Keeps c.void_or-self-inside.result i.earlier.cap n) (sym c.change.ensures.room)
    (subst (λ ph. Keeps ph i.earlier.cap i.room) phase kept))
