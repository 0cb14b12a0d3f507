use Rattle.std.proofs.Common.{◌≡◌, ℕ, ◌+◌, ◌≤◌, List, false, cond, take, get_or, set, map, length, sym, ap, ◌∙◌, add-one, arith}
use Rattle.std.proofs.lemmas.List.{drop-set-lt, get_or-drop, length-map}
use Rattle.std.proofs.lemmas.Grind.{drop_more_same}
use Rattle.sampler.specs.Counted.{raised}
use Rattle.sampler.proofs.Raised.{counts_raised_more}
use Rattle.sampler.proofs.counting.raise_counts.Goals as goal

pub loop-index-preserved : goal.loop-index-preserved
loop-index-preserved c =
    let i = c.loop-index.index in
    let bits = c.args.bits.now in
    let counts = c.loop-index.counts in
    let kept = c.loop-index.invariant in
    let here : i + 0 ≡ i = omega arith in
    let old : get_or counts i 0 ≡ get_or c.args.counts.now i 0 =
    sym (ap (λ n. get_or counts n 0) here)
    ∙ sym (get_or-drop i counts 0 0)
    ∙ ap (λ (ns : List ℕ). get_or ns 0 0) kept.left
    ∙ get_or-drop i c.args.counts.now 0 0
    ∙ ap (λ n. get_or c.args.counts.now n 0) here in
    record {
      left = drop-set-lt (i + 1) counts i c.raised_count.result (omega arith) ∙ drop_more_same counts c.args.counts.now i kept.left;
      so_far = λ rows is.
          let within : length bits ≤ length rows = omega (arith, c.requires.bits, ap (λ (ns : List ℕ). length ns) is, length-map rows (λ r. r.count)) in
          let count : get_or counts i 0 ≡ get_or (map (λ r. r.count) rows) i 0 = old ∙ ap (λ (ns : List ℕ). get_or ns i 0) is in
          ap (λ n. set counts i n) (c.raised_count.ensures ∙ ap (λ n. n + cond (get_or bits i false) 1 0) count)
          ∙ ap (λ ns. set ns i (get_or (map (λ r. r.count) rows) i 0 + cond (get_or bits i false) 1 0)) (kept.so_far rows is)
          ∙ counts_raised_more bits rows i (omega (arith, c.loop-index-test.true, c.requires.bits)) within
          ∙ ap (λ n. map (λ r. r.count) (raised (take n bits) rows)) (sym (add-one i));
    }
