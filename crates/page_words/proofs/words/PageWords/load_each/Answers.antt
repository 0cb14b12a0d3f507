use Rattle.std.proofs.Common.{ℕ, ◌<◌, ◌%◌, ◌++◌, length, get_or, take, length-set, refl, sym, ap, ◌∙◌, arith}
use Rattle.std.specs.Prelude.{◌==◌}
use Rattle.std.proofs.lemmas.List.{append-nil, take_all}
use Rattle.std.proofs.lemmas.Option.{slice_get-get_or}
use Rattle.page_words.specs.PassSteps.{load_steps}
use Rattle.page_words.specs.Seats.{MonitorSeatView}
use Rattle.page_words.proofs.StepsOfPass.{one_more_loaded}
use Rattle.page_words.proofs.words.PageWords.load_each.Goals as goal

pub loop-k-init : goal.loop-k-init
loop-k-init c = let seat = c.args.seat.now in record {
  table = refl;
  each = refl;
  loaded = λ pass cleared. ap (λ es. record seat { entries = es }) (sym (append-nil seat.entries));
  last = refl;
}

pub loop-k-preserved : goal.loop-k-preserved
loop-k-preserved c =
    let i = c.loop-k.invariant in
    let k : ℕ = c.loop-k.k in
    let pages = c.args.pages.now in
    let hits = c.loop-k.hits in
    let below : k < length pages = omega (arith, c.loop-k-test.true) in
    record {
      table = ap (λ (s : MonitorSeatView). s.table) c.load-word.ensures.entries ∙ i.table;
      each = length-set hits k (c.load-word.result % 2 == 1) ∙ i.each;
      loaded = one_more_loaded c.args.seat.now c.loop-k.seat c.load-word.new.seat pages hits k (get_or pages k 0) c.load-word.result below (i.each ∙ c.requires.each) (slice_get-get_or pages k 0 below) c.load-word.ensures.pass c.load-word.ensures.entries i.loaded;
      last = c.load-word.ensures.last ∙ i.last;
    }

pub returns-clause-seat : goal.returns-clause-seat
returns-clause-seat c = λ pass cleared.
    let i = c.loop-k.invariant in
    let k : ℕ = c.loop-k.k in
    let old = c.args.seat.now in
    let pages = c.args.pages.now in
    let hits = c.loop-k.hits in
    i.loaded pass cleared
    ∙ (ap (λ l. record old { entries = old.entries ++ load_steps pass l (take k hits) }) (take_all k pages (omega (arith, c.loop-k-test.false)))
    ∙ ap (λ l. record old { entries = old.entries ++ load_steps pass pages l }) (take_all k hits (omega (arith, c.loop-k-test.false, i.each, c.requires.each))))
