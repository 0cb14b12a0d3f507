use Rattle.std.proofs.Common.{ℕ, List, [], map, sym, subst}
use Rattle.journal_check.specs.Ahead.{KeepsLast, last_in}
use Rattle.journal_check.proofs.LastSeen.{keeps_none}
use Rattle.journal_check.proofs.receipts.order.LastSeen.new.Goals as goal

pub returns-clause-last : goal.returns-clause-last
returns-clause-last c = subst (λ (pages : List ℕ). KeepsLast [] 0 (map last_in pages)) (sym (c.in_ok-pages.ensures.items_if_clones_equal (λ y same. same))) (keeps_none c.args.pages)
