use Rattle.std.proofs.Common.{◌≡◌, ◌+◌, ◌-◌, ◌≤◌, ◌++◌, ◌∷◌, [], min, map, drop, length, get_or, ap, sym, ◌∙◌, arith}
use Rattle.std.proofs.lemmas.List.{length_push}
use Rattle.scheme_filter.specs.Runs.{run_end}
use Rattle.scheme_engine.specs.Taken.{applied_run}
use Rattle.scheme_engine.specs.Applied.{AppliedList}
use Rattle.scheme_engine.specs.Applying.{first_pages}
use Rattle.scheme_engine.proofs.TakenLemmas.{end_or, end_or-cons, first_pages_done, first_pages_more, next_run, no_run, pushed}
use Rattle.scheme_engine.proofs.pages.take_pages.Goals as goal
use Rattle.scheme_engine.proofs.pages.take_pages.Goals.{then-wanted-gt0, else-wanted-gt0}

pub loop-run-preserved : goal.loop-run-preserved
loop-run-preserved c =
    let runs = c.args.runs.now in
    let i = c.loop-run.run-index in
    let f = applied_run c.args.slot c.args.candidate.now in
    let kept = c.loop-run.invariant in
    elim c.if-wanted-gt0.branch [
      | then-wanted-gt0 w ↦
          let wanted = c.loop-run.wanted in
          let first = next_run runs i wanted in
          let step = first_pages_more runs i wanted c.loop-run-test.true w.if-wanted-gt0.true in
          let rest : c.if-wanted-gt0.wanted ≡ wanted - min (get_or runs i no_run).pages wanted = w.wanted-is ∙ ap (λ n. wanted - n) w.min-pages.ensures in
          let now = w.applied-is ∙ w.push_run.ensures in
          let items : c.if-wanted-gt0.applied.runs ≡ c.loop-run.applied.runs ++ f first ∷ [] = ap (λ (a : AppliedList). a.runs) now ∙ ap (λ n. c.loop-run.applied.runs ++ f (record (get_or runs i no_run) { pages = n }) ∷ []) w.min-pages.ensures in
          let end : c.if-wanted-gt0.end ≡ run_end first = w.end-is ∙ ap (λ n. (get_or runs i no_run).start + n) w.min-pages.ensures in
          let left = first_pages (wanted - min (get_or runs i no_run).pages wanted) (drop (i + 1) runs) in
          record {
            runs = rw (items, rest) (pushed f c.loop-run.applied.runs _ first (first_pages wanted (drop i runs)) left kept.runs step);
            end = rw (end, rest) (sym (ap (end_or c.loop-run.end) step ∙ end_or-cons c.loop-run.end first left) ∙ kept.end);
            choices = ap (λ (a : AppliedList). a.choices) now ∙ kept.choices;
            cap = ap (λ (a : AppliedList). a.cap) now ∙ kept.cap;
            few = omega (arith, ap length items, length_push c.loop-run.applied.runs (f first), kept.few);
          }
      | else-wanted-gt0 w ↦
          let none : c.if-wanted-gt0.wanted ≤ 0 = omega (arith, w.wanted-is, w.if-wanted-gt0.false) in
          let was = first_pages_done (drop i runs) c.loop-run.wanted w.if-wanted-gt0.false in
          let is = first_pages_done (drop (i + 1) runs) c.if-wanted-gt0.wanted none in
          let now = w.applied-is in
          record {
            runs = rw (is, ap (λ (a : AppliedList). a.runs) now) (ap (λ rs. c.loop-run.applied.runs ++ map f rs) (sym was) ∙ kept.runs);
            end = rw (is, w.end-is) (ap (end_or c.loop-run.end) (sym was) ∙ kept.end);
            choices = ap (λ (a : AppliedList). a.choices) now ∙ kept.choices;
            cap = ap (λ (a : AppliedList). a.cap) now ∙ kept.cap;
            few = omega (arith, ap (λ (a : AppliedList). length a.runs) now, kept.few);
          }
    ]
