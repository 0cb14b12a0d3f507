use Rattle.std.proofs.Common.{◌≡◌, ℕ, ◌<◌, Bool, ◌++◌, List, Option, None, length, take, get_or, refl, sym, ap, subst, ◌∙◌, arith}
use Rattle.std.specs.Prelude.{fold}
use Rattle.std.specs.Option.{option_or}
use Rattle.std.proofs.lemmas.List.{append-nil, take_all}
use Rattle.std.proofs.lemmas.List.Sums.{fold_more}
use Rattle.damon_types.specs.declared.range.Range.{Range}
use Rattle.damon_types.specs.declared.row.Row.{Row}
use Rattle.damon_types.specs.Span.{Span, spans}
use Rattle.damon_types.specs.Within.{AreWithin}
use Rattle.region_list.specs.Regions.{RegionList}
use Rattle.scheme_filter.specs.Passes.{passes}
use Rattle.priority.specs.declared.candidates.Candidate.{Candidate}
use Rattle.scheme_engine.specs.declared.applied.AppliedRun.{AppliedRun}
use Rattle.scheme_engine.specs.declared.cut.Part.{Part}
use Rattle.scheme_engine.specs.Applied.{AppliedList}
use Rattle.scheme_engine.specs.Applying.{IsCandidateOf, next_part, part_of, rows_renewed}
use Rattle.scheme_engine.specs.Taken.{applied_runs, candidate_runs}
use Rattle.scheme_engine.proofs.ApplyLemmas.{applied_more, no_candidate}
use Rattle.scheme_engine.proofs.apply.apply.Goals as goal

pub apply_to-next-requires-clause-within : goal.apply_to-next-requires-clause-within
apply_to-next-requires-clause-within c =
    subst (λ (r : RegionList). AreWithin c.args.served.now.space.now r.ranges) (sym c.loop-candidate.invariant.rows) c.requires.within

pub apply_to-next-requires-clause-row : goal.apply_to-next-requires-clause-row
apply_to-next-requires-clause-row c =
    let kept = c.loop-candidate.invariant in
    let old = c.args.regions.now in
    let i = c.loop-candidate.candidate-index in
    let now = c.loop-candidate.regions.rows in
    let test : List Range → ℕ → Bool = λ gs. passes c.args.served.now.scheme.now.filters c.args.served.now.space.now gs in
    let is = c.as_slice-candidate-items.ensures in
    let within : i < length c.args.candidates.now.list = omega (arith, c.loop-candidate-test.true, ap length is) in
    let one = subst (λ (cs : List Candidate). IsCandidateOf (test old.ranges) (spans old.rows) (get_or cs i no_candidate)) (sym is) (c.requires.each i no_candidate within) in
    let cand = get_or c.as_slice-candidate-items.result.now i no_candidate in
    let two = subst (λ ss. IsCandidateOf (test old.ranges) ss cand) (sym kept.places) one in
    subst (λ (r : RegionList). IsCandidateOf (test r.ranges) (spans now) cand) (sym kept.rows) two

pub apply_to-next-requires-clause-room : goal.apply_to-next-requires-clause-room
apply_to-next-requires-clause-room c =
    omega (arith, c.loop-candidate.invariant.few, c.requires.room, ap (λ (a : AppliedList). a.cap) c.loop-candidate.invariant.runs, c.loop-candidate-test.true, ap length c.as_slice-candidate-items.ensures)

pub loop-candidate-init : goal.loop-candidate-init
loop-candidate-init c =
    let before = c.args.applied.now in
    let with : List AppliedRun → AppliedList = λ rs. record before { runs = rs } in
    record { runs = ap with (sym (append-nil before.runs)); few = omega arith; rows = refl; places = refl; part = refl }

pub loop-candidate-preserved : goal.loop-candidate-preserved
loop-candidate-preserved c =
    let kept = c.loop-candidate.invariant in
    let made = c.apply_to-next.ensures in
    let old = c.args.regions.now in
    let before = c.args.applied.now in
    let list = c.args.candidates.now.list in
    let i = c.loop-candidate.candidate-index in
    let now = c.loop-candidate.regions.rows in
    let slot = c.args.served.now.number in
    let action = c.args.served.now.scheme.now.action in
    let test : List Range → ℕ → Bool = λ gs. passes c.args.served.now.scheme.now.filters c.args.served.now.space.now gs in
    let is = c.as_slice-candidate-items.ensures in
    let within : i < length list = omega (arith, c.loop-candidate-test.true, ap length is) in
    let cand = get_or c.as_slice-candidate-items.result.now i no_candidate in
    let here = get_or list i no_candidate in
    let same : cand ≡ here = ap (λ (cs : List Candidate). get_or cs i no_candidate) is in
    let ranges = ap (λ (r : RegionList). r.ranges) kept.rows in
    let piece : List Range → List Span → Candidate → List AppliedRun = λ gs ss x. candidate_runs slot (test gs) ss x in
    let pieces : piece c.loop-candidate.regions.ranges (spans now) cand ≡ piece old.ranges (spans old.rows) here = ap (λ gs. piece gs (spans now) cand) ranges ∙ ap (λ ss. piece old.ranges ss cand) kept.places ∙ ap (piece old.ranges (spans old.rows)) same in
    let more : AppliedList → List AppliedRun → AppliedList = λ a rs. record a { runs = a.runs ++ rs } in
    let with : List AppliedRun → AppliedList = λ rs. record before { runs = rs } in
    let renewed : RegionList → Candidate → RegionList = λ r x. record r { rows = rows_renewed action r.rows x } in
    let put : List Row → RegionList = λ rs. record old { rows = rs } in
    let part : List Range → List Span → Candidate → Option Part = λ gs ss x. part_of action (test gs) ss x in
    let parts : part c.loop-candidate.regions.ranges (spans now) cand ≡ part old.ranges (spans old.rows) here = ap (λ gs. part gs (spans now) cand) ranges ∙ ap (λ ss. part old.ranges ss cand) kept.places ∙ ap (part old.ranges (spans old.rows)) same in
    record {
      runs = made.runs ∙ ap (more c.loop-candidate.applied) pieces ∙ ap (λ a. more a (piece old.ranges (spans old.rows) here)) kept.runs ∙ ap with (applied_more slot (test old.ranges) (spans old.rows) list i before.runs within);
      few = omega (arith, made.few, kept.few);
      rows = made.rows ∙ ap (renewed c.loop-candidate.regions) same ∙ ap (λ r. renewed r here) kept.rows ∙ ap put (sym (fold_more (rows_renewed action) old.rows list i no_candidate within));
      places = made.spans ∙ kept.places;
      part = c.or-part.ensures ∙ ap (λ o. option_or o c.loop-candidate.part) (made.part ∙ parts) ∙ ap (λ o. option_or (part old.ranges (spans old.rows) here) o) kept.part ∙ sym (fold_more (next_part action (test old.ranges) (spans old.rows)) None list i no_candidate within);
    }

pub returns : goal.returns
returns c =
    let kept = c.loop-candidate.invariant in
    let old = c.args.regions.now in
    let before = c.args.applied.now in
    let list = c.args.candidates.now.list in
    let i = c.loop-candidate.candidate-index in
    let action = c.args.served.now.scheme.now.action in
    let test : ℕ → Bool = passes c.args.served.now.scheme.now.filters c.args.served.now.space.now old.ranges in
    let all : take i list ≡ list = take_all i list (omega (arith, c.loop-candidate-test.false, ap length c.as_slice-candidate-items.ensures)) in
    let with : List Candidate → AppliedList = λ cs. record before { runs = before.runs ++ applied_runs c.args.served.now.number test (spans old.rows) cs } in
    let put : List Candidate → RegionList = λ cs. record old { rows = fold (rows_renewed action) old.rows cs } in
    record {
      runs = kept.runs ∙ ap with all;
      few = omega (arith, kept.few, c.loop-candidate.auto.candidate-index-end, ap length c.as_slice-candidate-items.ensures);
      rows = kept.rows ∙ ap put all;
      part = kept.part ∙ ap (fold (next_part action test (spans old.rows)) None) all;
    }
