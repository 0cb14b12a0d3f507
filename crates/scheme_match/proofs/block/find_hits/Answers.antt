use Rattle.std.proofs.Common.{◌≡◌, ◌≤◌, ◌<◌, false, cond, length, get_or, ap, ◌∙◌, arith}
use Rattle.std.specs.Prelude.{filter}
use Rattle.std.proofs.lemmas.List.{length-map, length-set, length-take, take_all}
use Rattle.scheme_match.proofs.BlockLemmas.{at_most_one, found_more, within_more}
use Rattle.scheme_match.proofs.block.find_hits.Goals as goal

pub loop-place-preserved : goal.loop-place-preserved
loop-place-preserved c =
    let kept = c.loop-place.invariant in
    let place = c.loop-place.place in
    let room : c.loop-place.number < length c.loop-place.found = omega (arith, kept.few, kept.long, c.loop-place-test.true, c.requires) in
    let is : c.one_if-number.result ≡ cond (get_or c.args.hits.now place false) 1 0 = c.one_if-number.ensures in
    let more : c.one_if-number.result ≤ 1 = omega (arith, is, at_most_one (get_or c.args.hits.now place false)) in
    record {
      few = omega (arith, kept.few, more);
      long = length-set c.loop-place.found c.loop-place.number place ∙ kept.long;
      within = within_more c.loop-place.found c.loop-place.number place c.one_if-number.result more room kept.within;
      rows = λ p rows d are. found_more p rows d c.args.hits.now c.args.count c.loop-place.found c.loop-place.number place c.one_if-number.result (omega (arith, c.requires, c.told-hits)) are c.loop-place-test.true room is (kept.rows p rows d are);
    }

pub returns-clause-rows : goal.returns-clause-rows
returns-clause-rows c p rows d are =
    let few : length rows ≤ c.loop-place.place = omega (arith, ap length are, length-map rows p, length-take c.args.count c.args.hits.now, c.loop-place-test.false) in
    c.loop-place.invariant.rows p rows d are ∙ ap (filter p) (take_all c.loop-place.place rows few)
