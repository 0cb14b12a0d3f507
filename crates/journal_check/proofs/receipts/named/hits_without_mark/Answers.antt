use Rattle.std.proofs.Common.{◌≡◌, ℕ, ◌<◌, ◌&&◌, Bool, true, false, not, length, get_or, refl, sym, ap, ◌∙◌, arith}
use Rattle.std.specs.Prelude.{cond, slice_index}
use Rattle.std.specs.List.{list_any}
use Rattle.std.proofs.lemmas.Option.{get_or_from_slice_get}
use Rattle.journal_check.specs.Ahead.{receipts_of}
use Rattle.journal_text.specs.SeenLine.{is_receipt}
use Rattle.journal_check.proofs.OpenHits.{at_most_one, is_open, open_all, open_next}
use Rattle.journal_check.proofs.receipts.named.hits_without_mark.Goals as goal
use mir.Val.{bool_byte}

byte_of : (hit : Bool) → bool_byte hit ≡ cond hit 1 0
byte_of true = refl
byte_of false = refl

pub is_open-requires : goal.is_open-requires
is_open-requires c =
    let pages = c.args.picks.now.pages in
    let k : ℕ = c.loop-k.k in
    let here : k < length pages = omega (arith, c.loop-k-test.true, c.len-k-end.ensures.len) in
    omega (arith, c.requires.picks k 0 here, get_or_from_slice_get pages k c.page.result 0 c.page.ensures)

pub loop-k-preserved : goal.loop-k-preserved
loop-k-preserved c =
    let k : ℕ = c.loop-k.k in
    let pages = c.args.picks.now.pages in
    let bits = c.args.bits.now in
    let here : k < length pages = omega (arith, c.loop-k-test.true, c.len-k-end.ensures.len) in
    let page : c.page.result ≡ slice_index pages k = sym (get_or_from_slice_get pages k c.page.result 0 c.page.ensures) in
    let byte : c.from-open.result ≡ cond c.is_open.result 1 0 = c.from-open.ensures ∙ byte_of c.is_open.result in
    record {
      exact = λ pass xs shows.
          let rs = receipts_of xs in
          let inside : c.page.result < length c.args.marked.now = omega (arith, page, c.requires.picks k 0 here) in
          let bit : c.from-open.result ≡ cond (is_open rs pass pages bits k) 1 0 =
          byte
          ∙ ap (λ b. cond b 1 0)
          (c.is_open.ensures ∙ (ap (λ b. get_or bits k false && not b) (shows c.page.result inside) ∙ ap (λ p. get_or bits k false && not (list_any (is_receipt p pass) rs)) page))
          in
          omega (arith, c.loop-k.invariant.exact pass xs shows, bit, open_next rs pass pages bits k here (omega (arith, here, c.requires.each)));
      few = omega (arith, c.loop-k.invariant.few, byte, at_most_one c.is_open.result);
    }

pub returns : goal.returns
returns c = λ pass xs shows.
    let all : length c.args.picks.now.pages ≡ c.loop-k.k = omega (arith, c.len-k-end.ensures.len, c.loop-k-test.false, c.loop-k.auto.k-end) in
    c.loop-k.invariant.exact pass xs shows ∙ open_all (receipts_of xs) pass c.args.picks.now.pages c.args.bits.now c.loop-k.k all (c.requires.each ∙ all)
