-- The next command of a player as a part.
use Rattle.std.proofs.Common.{◌≡◌, ℕ, ◌+◌, ◌-◌, ◌<◌, ◌≤◌, suc, List, ◌∷◌, length, drop, Some, add-one, sym, ap, ◌∙◌, subst, arith}
use Rattle.std.specs.Prelude.{slice_get}
use Rattle.std.proofs.Math.Seq.{drop-cons}
use Rattle.std.proofs.lemmas.Option.{get_or_from_slice_get}
use Rattle.std.proofs.lemmas.List.Sums.{sum_by-cons}
use Rattle.rand_core.specs.Stream.{Stream}
use Rattle.damon_types.specs.Space.{pages_of}
use Rattle.damon_core.specs.State.{State}
use Rattle.script_lines.specs.Command.{CommandValue}
use Rattle.damon_world.specs.Stands.{WorldView}
use Rattle.script_run.specs.Part.{Part}
use Rattle.script_run.specs.Part as part
use Rattle.script_run.specs.declared.part.Until.{Until}
use Rattle.script_run.specs.Kept.{ArePartsWithin, IsPlayer, StandSomewhere}
use Rattle.script_run.specs.Player.{left_in, left_of}
use Rattle.script_run.specs.Parts.{part_of, parts_of}

-- the commands that are left begin with the next one, as a part
pub next_part : (cap i : ℕ) (cs : List CommandValue) (c : CommandValue) (q : Part) → i < length cs → slice_get cs i ≡ Some c → q ≡ part_of cap c → parts_of cap (drop i cs) ≡ q ∷ parts_of cap (drop (i + 1) cs)
next_part cap i cs c q here is value =
    ap (parts_of cap) (drop-cons cs i c here)
    ∙ ap (λ d. part_of cap d ∷ parts_of cap (drop (suc i) cs)) (get_or_from_slice_get cs i c c is)
    ∙ ap (λ n. part_of cap c ∷ parts_of cap (drop n cs)) (sym (add-one i))
    ∙ ap (λ p. p ∷ parts_of cap (drop (i + 1) cs)) (sym value)

pub less_left : (p : Part) (ps : List Part) → left_in (p ∷ ps) ≡ 1 + left_of p + left_in ps
less_left p ps = sum_by-cons (λ q. 1 + left_of q) p ps

module _ {R C : Type 0} (stream : R → Stream) (stands : C → List ℕ → State → Type 0) where
  -- what a player keeps holds once the next command is the part under way
  pub player-next : (w : WorldView R) (k : C) (p q : Part) (cap i : ℕ) (cs : List CommandValue) (c : CommandValue) → i < length cs → slice_get cs i ≡ Some c → q ≡ part_of cap c → IsPlayer stream stands w k (p ∷ parts_of cap (drop i cs)) → IsPlayer stream stands w k (q ∷ parts_of cap (drop (i + 1) cs))
  player-next w k p q cap i cs c here get value kept =
      let is = next_part cap i cs c q here get value in
      record {
        somewhere = kept.somewhere;
        within = subst (ArePartsWithin (pages_of w.monitor.core.space)) is kept.within.1;
        work = omega (arith, kept.work, less_left p (parts_of cap (drop i cs)), ap left_in is);
      }

  -- the same once the part under way is done, by events that change neither the space nor the ticks
  pub player-made : (w w' : WorldView R) (k k' : C) (q : Part) (new : List Part) → 1 ≤ left_of q → StandSomewhere stream stands w' k' → w'.monitor.core.space ≡ w.monitor.core.space → w'.monitor.core.ticks ≡ w.monitor.core.ticks → IsPlayer stream stands w k (q ∷ new) → IsPlayer stream stands w' k' (part.Touches 0 0 ∷ new)
  player-made w w' k k' q new one there space ticks kept = record {
    somewhere = there;
    within = (omega arith, subst (λ sp. ArePartsWithin (pages_of sp) new) (sym space) kept.within.1);
    work = omega (arith, kept.work, ticks, less_left q new, less_left (part.Touches 0 0) new);
  }

  -- the same after some steps of the part under way, in which at most one pass ended
  pub player-stepped : (w w' : WorldView R) (k k' : C) (q : Part) (u : Until) (most n : ℕ) (new : List Part) → q ≡ part.Steps u most → 1 ≤ n → n ≤ most → StandSomewhere stream stands w' k' → w'.monitor.core.space ≡ w.monitor.core.space → w'.monitor.core.ticks ≤ w.monitor.core.ticks + 1 → IsPlayer stream stands w k (q ∷ new) → IsPlayer stream stands w' k' (part.Steps u (most - n) ∷ new)
  player-stepped w w' k k' q u most n new is some within there space ticks kept = record {
    somewhere = there;
    within = (tt, subst (λ sp. ArePartsWithin (pages_of sp) new) (sym space) kept.within.1);
    work = omega (arith, kept.work, ticks, some, within, less_left q new, ap left_of is, less_left (part.Steps u (most - n)) new);
  }
