use Rattle.std.proofs.Common.{◌≡◌, Bool, true, false, refl, ap, ◌∙◌, arith}
use Rattle.std.specs.Prelude.{if◌then◌else◌}
use Rattle.std.specs.List.{list_any}
use Rattle.journal_check.specs.Ahead.{AheadView, ShowsTag, receipts_of}
use Rattle.journal_check.specs.Folding.{open_hits}
use Rattle.journal_text.specs.SeenLine.{is_receipt}
use Rattle.page_words.specs.PassSteps.{load_steps}
use Rattle.journal_check.proofs.receipts.ahead.Ahead.open_hits.Goals as goal

set_or : (any : Bool) → (if any then true else false) ≡ any
set_or true = refl
set_or false = refl

pub returns-clause-hits : goal.returns-clause-hits
returns-clause-hits c =
    let w = c.self.inside in
    let shows : ShowsTag c.args.pass w.seen c.set_pages.new.table = λ page below.
    let any = list_any (is_receipt page c.args.pass) (receipts_of w.seen) in
    c.set_pages.ensures.each page (omega (arith, below, c.set_pages.ensures.len)) ∙ (ap (λ b. if any then true else b) (c.self.invariant.unmarked page) ∙ set_or any)
    in
    c.hits_without_mark-open.ensures c.args.pass w.seen shows ∙ ap (λ (a : AheadView). open_hits (receipts_of a.receipts) (load_steps c.args.pass c.args.picks.now.pages c.args.bits.now)) c.self.view_is
