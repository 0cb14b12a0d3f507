use Rattle.std.proofs.Common.{◌≡◌, ◌+◌, ◌-◌, ◌≤◌, ◌<◌, ◌++◌, [], true, List, length, take, drop, get_or, refl, sym, ap, ◌∙◌, arith}
use Rattle.std.specs.Prelude.{count_by, filter}
use Rattle.std.specs.List.{cons_option}
use Rattle.std.proofs.lemmas.List.{length-take, take_all}
use Rattle.std.proofs.lemmas.List.Elements.{All-get_or}
use Rattle.damon_types.specs.declared.row.Row.{Row}
use Rattle.damon_types.specs.Ranges.{page_total}
use Rattle.damon_types.specs.Span.{span_of, spans}
use Rattle.region_list.specs.Rows.{no_row, row_at}
use Rattle.scheme_match.specs.Match.{is_match}
use Rattle.priority.specs.Candidates.{CandidateList}
use Rattle.priority.specs.Score.{score_by, score_of}
use Rattle.scheme_engine.specs.Candidates.{candidate_of, candidates_of}
use Rattle.scheme_engine.proofs.GatherLemmas.{filter_map_more, found_at, kept_match, length-filter_map, length-found, length-seen, rise_of, seen, seen_all, seen_at, seen_rise, start_before, tested_part, tried_more}
use Rattle.scheme_engine.proofs.PlaceLemmas.{row_held, some_pages}
use Rattle.scheme_engine.proofs.candidates.gather.Goals as goal

pub parts-init : goal.parts-init
parts-init c = record {
  within = omega arith;
  long = refl;
  list = ap (λ (l : CandidateList). l.list) c.clear.ensures;
  cap = ap (λ (l : CandidateList). l.cap) c.clear.ensures;
  tried = refl;
  near = c.new-near.ensures c.args.served.now.space.now c.ranges-ranges.result.now.list;
  few = omega arith;
}

pub add-requires-clause-matching : goal.add-requires-clause-matching
add-requires-clause-matching c =
    let rows = c.args.regions.now.rows in
    let from = c.parts.from in
    let n = c.min-to.result - from in
    let kept = filter (is_match c.args.served.now.scheme.now.pattern) (take n (drop from rows)) in
    let number = c.find_matches-number.result in
    let found = c.find_matches-number.new.found in
    let are = c.find_matches-number.ensures.rows (take n (drop from rows)) no_row (tested_part rows c.rows-rows.result.now.rows _ _ _ from n c.rows-rows.ensures.rows c.pages.ensures c.counts.ensures c.ages.ensures) in
    let room : number ≤ length found = omega (arith, c.find_matches-number.ensures.few, c.find_matches-number.array_long, c.min-to.ensures, length-take n (drop from c.pages.result.now)) in
    let many : length kept ≡ number = length-found (take n (drop from rows)) kept found number room are in
    let k = c.loop-k.k in
    let below : get_or found k 0 < n = omega (arith, c.find_matches-number.ensures.within k c.loop-k-test.true, length-take n (drop from c.pages.result.now)) in
    let here : c.at-row.result ≡ get_or kept k no_row = c.at-row.ensures ∙ ap (λ (rs : List Row). get_or rs (from + get_or found k 0) no_row) c.rows-rows.ensures.rows ∙ found_at rows kept from n number found k c.loop-k-test.true room below are in
    let p = is_match c.args.served.now.scheme.now.pattern in
    ap p here ∙ All-get_or (λ x. p x ≡ true) kept k no_row (omega (arith, many, c.loop-k-test.true)) (kept_match p (take n (drop from rows)))

pub add-requires-clause-within : goal.add-requires-clause-within
add-requires-clause-within c = rw c.ranges-ranges.ensures.list c.requires.within

pub add-requires-clause-held : goal.add-requires-clause-held
add-requires-clause-held c =
    let from = c.parts.from in
    let i = from + get_or c.find_matches-number.new.found c.loop-k.k 0 in
    let within : i < length c.args.regions.now.rows = omega (arith, c.find_matches-number.ensures.within c.loop-k.k c.loop-k-test.true, length-take (c.min-to.result - from) (drop from c.pages.result.now), c.min-to.ensures, c.count-in-parts.ensures, ap length c.rows-rows.ensures.rows) in
    rw (c.at-row.ensures, c.rows-rows.ensures.rows, c.ranges-ranges.ensures.list) (row_held c.args.regions.now.ranges c.args.regions.now.rows i c.len-count.ensures.tiles.within within)

pub add-requires-clause-score : goal.add-requires-clause-score
add-requires-clause-score c =
    let ranges = c.args.regions.now.ranges in
    let rows = c.args.regions.now.rows in
    let from = c.parts.from in
    let i = from + get_or c.find_matches-number.new.found c.loop-k.k 0 in
    let within : i < length rows = omega (arith, c.find_matches-number.ensures.within c.loop-k.k c.loop-k-test.true, length-take (c.min-to.result - from) (drop from c.pages.result.now), c.min-to.ensures, c.count-in-parts.ensures, ap length c.rows-rows.ensures.rows) in
    let held = row_held ranges rows i c.len-count.ensures.tiles.within within in
    let some = some_pages ranges (span_of (row_at rows i)) c.len-count.ensures.order held in
    let total : c.max.result ≡ page_total c.ranges-ranges.result.now.list = omega (arith, some, c.max.ensures, c.total.ensures.total, ap page_total c.ranges-ranges.ensures.list) in
    ap (λ by. score_by by c.at-row.result) c.new-scorer.ensures ∙ ap (λ n. score_of c.at-row.result n c.args.served.now.aggr c.args.served.now.scheme.now) total

pub add-requires-clause-room : goal.add-requires-clause-room
add-requires-clause-room c =
    let rows = c.args.regions.now.rows in
    let from = c.parts.from in
    let n = c.min-to.result - from in
    let h = candidate_of c.args.served.now.space.now c.args.regions.now.ranges c.args.served.now.aggr c.args.served.now.scheme.now in
    let shown = take (from + c.loop-k.k) (seen (is_match c.args.served.now.scheme.now.pattern) rows from n) in
    omega (arith, length-filter_map h shown, length-take (from + c.loop-k.k) (seen (is_match c.args.served.now.scheme.now.pattern) rows from n), ap length c.loop-k.invariant.list, c.loop-k.invariant.cap, c.loop-k-test.true, c.find_matches-number.ensures.few, length-take n (drop from c.pages.result.now), c.min-to.ensures, c.count-in-parts.ensures, ap length c.rows-rows.ensures.rows, c.len-count.ensures.len, c.len-count.ensures.few, c.len-count.ensures.most, c.requires.room)

pub add-requires-clause-distinct : goal.add-requires-clause-distinct
add-requires-clause-distinct c =
    let rows = c.args.regions.now.rows in
    let from = c.parts.from in
    let n = c.min-to.result - from in
    let kept = filter (is_match c.args.served.now.scheme.now.pattern) (take n (drop from rows)) in
    let number = c.find_matches-number.result in
    let found = c.find_matches-number.new.found in
    let are = c.find_matches-number.ensures.rows (take n (drop from rows)) no_row (tested_part rows c.rows-rows.result.now.rows _ _ _ from n c.rows-rows.ensures.rows c.pages.ensures c.counts.ensures c.ages.ensures) in
    let room : number ≤ length found = omega (arith, c.find_matches-number.ensures.few, c.find_matches-number.array_long, c.min-to.ensures, length-take n (drop from c.pages.result.now)) in
    let many : length kept ≡ number = length-found (take n (drop from rows)) kept found number room are in
    let k = c.loop-k.k in
    let below : get_or found k 0 < n = omega (arith, c.find_matches-number.ensures.within k c.loop-k-test.true, length-take n (drop from c.pages.result.now)) in
    let here : c.at-row.result ≡ get_or kept k no_row = c.at-row.ensures ∙ ap (λ (rs : List Row). get_or rs (from + get_or found k 0) no_row) c.rows-rows.ensures.rows ∙ found_at rows kept from n number found k c.loop-k-test.true room below are in
    let p = is_match c.args.served.now.scheme.now.pattern in
    let there : c.at-row.result ≡ get_or (seen p rows from n) (from + k) no_row = here ∙ sym (seen_at p rows from n k no_row c.parts.invariant.within) in
    let before = start_before c.args.served.now.space.now c.args.regions.now.ranges c.args.served.now.aggr c.args.served.now.scheme.now 0 (seen p rows from n) (from + k) no_row (seen_rise p 0 from n rows (rise_of 0 (spans rows) (λ i d within. omega arith) c.len-count.ensures.tiles.rise)) (omega (arith, length-seen p rows from n c.parts.invariant.within, many, c.loop-k-test.true)) in
    rw (there, c.loop-k.invariant.list) before

pub loop-k-preserved : goal.loop-k-preserved
loop-k-preserved c =
    let rows = c.args.regions.now.rows in
    let from = c.parts.from in
    let n = c.min-to.result - from in
    let kept = filter (is_match c.args.served.now.scheme.now.pattern) (take n (drop from rows)) in
    let number = c.find_matches-number.result in
    let found = c.find_matches-number.new.found in
    let are = c.find_matches-number.ensures.rows (take n (drop from rows)) no_row (tested_part rows c.rows-rows.result.now.rows _ _ _ from n c.rows-rows.ensures.rows c.pages.ensures c.counts.ensures c.ages.ensures) in
    let room : number ≤ length found = omega (arith, c.find_matches-number.ensures.few, c.find_matches-number.array_long, c.min-to.ensures, length-take n (drop from c.pages.result.now)) in
    let many : length kept ≡ number = length-found (take n (drop from rows)) kept found number room are in
    let k = c.loop-k.k in
    let below : get_or found k 0 < n = omega (arith, c.find_matches-number.ensures.within k c.loop-k-test.true, length-take n (drop from c.pages.result.now)) in
    let here : c.at-row.result ≡ get_or kept k no_row = c.at-row.ensures ∙ ap (λ (rs : List Row). get_or rs (from + get_or found k 0) no_row) c.rows-rows.ensures.rows ∙ found_at rows kept from n number found k c.loop-k-test.true room below are in
    let p = is_match c.args.served.now.scheme.now.pattern in
    let space = c.args.served.now.space.now in
    let ranges = c.args.regions.now.ranges in
    let aggr = c.args.served.now.aggr in
    let scheme = c.args.served.now.scheme.now in
    let h = candidate_of space ranges aggr scheme in
    let all = seen p rows from n in
    let there : c.at-row.result ≡ get_or all (from + k) no_row = here ∙ sym (seen_at p rows from n k no_row c.parts.invariant.within) in
    let more = filter_map_more h all (from + k) no_row (omega (arith, length-seen p rows from n c.parts.invariant.within, many, c.loop-k-test.true)) in
    let next : from + k + 1 ≡ from + (k + 1) = omega arith in
    record {
      list =
          ap (λ (l : CandidateList). l.list) c.add.ensures.list
          ∙ ap (λ gs. c.loop-k.candidates.list ++ cons_option (candidate_of space gs aggr scheme c.at-row.result) []) c.ranges-ranges.ensures.list
          ∙ ap (λ r. c.loop-k.candidates.list ++ cons_option (h r) []) there
          ∙ ap (λ cs. cs ++ cons_option (h (get_or all (from + k) no_row)) []) c.loop-k.invariant.list
          ∙ sym more
          ∙ ap (λ i. candidates_of space ranges aggr scheme (take i all)) next;
      cap = ap (λ (l : CandidateList). l.cap) c.add.ensures.list ∙ c.loop-k.invariant.cap;
      near = c.add.ensures.near;
    }

pub parts-preserved : goal.parts-preserved
parts-preserved c =
    let rows = c.args.regions.now.rows in
    let from = c.parts.from in
    let n = c.min-to.result - from in
    let kept = filter (is_match c.args.served.now.scheme.now.pattern) (take n (drop from rows)) in
    let number = c.find_matches-number.result in
    let found = c.find_matches-number.new.found in
    let are = c.find_matches-number.ensures.rows (take n (drop from rows)) no_row (tested_part rows c.rows-rows.result.now.rows _ _ _ from n c.rows-rows.ensures.rows c.pages.ensures c.counts.ensures c.ages.ensures) in
    let room : number ≤ length found = omega (arith, c.find_matches-number.ensures.few, c.find_matches-number.array_long, c.min-to.ensures, length-take n (drop from c.pages.result.now)) in
    let many : length kept ≡ number = length-found (take n (drop from rows)) kept found number room are in
    let p = is_match c.args.served.now.scheme.now.pattern in
    let space = c.args.served.now.space.now in
    let ranges = c.args.regions.now.ranges in
    let aggr = c.args.served.now.aggr in
    let scheme = c.args.served.now.scheme.now in
    let all = seen p rows from n in
    let whole : length all ≤ from + c.loop-k.k = omega (arith, length-seen p rows from n c.parts.invariant.within, many, c.loop-k-test.false) in
    let end : from + n ≡ c.min-to.result = omega (arith, c.min-to.ensures, c.parts-test.true, c.count.ensures, c.count-in-parts.ensures) in
    record {
      within = omega (arith, c.min-to.ensures, c.count-in-parts.ensures, ap length c.rows-rows.ensures.rows);
      long = c.find_matches-number.array_long;
      list =
          c.loop-k.invariant.list
          ∙ ap (candidates_of space ranges aggr scheme) (take_all (from + c.loop-k.k) all whole)
          ∙ seen_all space ranges aggr scheme rows from n
          ∙ ap (λ i. candidates_of space ranges aggr scheme (take i rows)) end;
      cap = c.loop-k.invariant.cap;
      tried = omega (arith, c.parts.invariant.tried, tried_more p rows from n, many, ap (λ i. count_by p (take i rows)) end);
      near = c.loop-k.invariant.near;
      few = omega (arith, c.parts.invariant.few, end, c.find_matches-number.ensures.few, length-take n (drop from c.pages.result.now));
    }

pub returns-clause-few : goal.returns-clause-few
returns-clause-few c =
    let rows = c.args.regions.now.rows in
    let h = candidate_of c.args.served.now.space.now c.args.regions.now.ranges c.args.served.now.aggr c.args.served.now.scheme.now in
    omega (arith, length-filter_map h (take c.parts.from rows), length-take c.parts.from rows, ap length c.parts.invariant.list, c.len-count.ensures.len, c.len-count.ensures.few, c.len-count.ensures.most)

pub returns-clause-tiled : goal.returns-clause-tiled
returns-clause-tiled c = record { unit = c.len-count.ensures.unit; order = c.len-count.ensures.order; tiling = c.len-count.ensures.tiling; few = omega (arith, c.len-count.ensures.len, c.len-count.ensures.few) }
