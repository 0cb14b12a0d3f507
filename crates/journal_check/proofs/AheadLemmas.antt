-- What is kept of receipts that were read ahead stands for the steps of the journal.
use Rattle.std.proofs.Common.{◌≡◌, ℕ, ◌≤◌, ◌&&◌, ◌||◌, not, Bool, true, false, List, [], ◌∷◌, ◌++◌, nat_le, append_assoc, append-nil, refl, ap, sym, ◌∙◌, arith}
use Rattle.std.proofs.lemmas.Bool.Decides.{nat_tests}
use Rattle.std.proofs.lemmas.List.Folds.{list_all-append, list_any-append}
use Rattle.std.specs.Prelude.{◌==◌, if◌then◌else◌}
use Rattle.std.specs.List.{list_any}
use Rattle.page_words.specs.declared.view.Entry.{Entry as Step}
use Rattle.page_words.specs.Clears.{clear_of, clear_passes_of}
use Rattle.run_journal.specs.declared.entry.Receipt.{Receipt}
use Rattle.journal_check.specs.Ahead.{is_picked}
use Rattle.journal_text.specs.SeenLine.{is_below, is_risen, is_tag, was_cleared}
use Rattle.page_words.specs.PassSteps.{clear_steps, load_steps}

-- ---- clears

-- the clears of a page by steps one after another
passes_append : (page : ℕ) (a b : List Step) → clear_passes_of page (a ++ b) ≡ clear_passes_of page a ++ clear_passes_of page b
passes_append page [] b = refl
passes_append page (s ∷ a) b =
    ap (λ l. clear_of page s ++ l) (passes_append page a b) ∙ sym (append_assoc (clear_of page s) (clear_passes_of page a) (clear_passes_of page b))

-- a common part of two cases
or_and : (same here rest : Bool) → (if here then same || (same && rest) else (same && rest)) ≡ (same && (here || rest))
or_and true true rest = refl
or_and true false rest = refl
or_and false true rest = refl
or_and false false rest = refl

-- a pass in front of others, where it cleared the page
one_clear : (pass tag : ℕ) (here : Bool) (more : List ℕ)
    → list_any (λ n. n == tag) ((if here then pass ∷ [] else []) ++ more) ≡ (if here then (pass == tag) || list_any (λ n. n == tag) more else list_any (λ n. n == tag) more)
one_clear pass tag true more = refl
one_clear pass tag false more = refl

and_none : (b : Bool) → false ≡ (b && false)
and_none true = refl
and_none false = refl

-- a tag names a clear of a pass where it is the pass and its page is a pick
clears_name : (pass : ℕ) (picks : List ℕ) (page tag : ℕ) → was_cleared (clear_steps pass picks) page tag ≡ ((pass == tag) && is_picked picks page)
clears_name pass [] page tag = and_none (pass == tag)
clears_name pass (p ∷ picks) page tag =
    one_clear pass tag (p == page) (clear_passes_of page (clear_steps pass picks))
    ∙ ap (λ b. if p == page then (pass == tag) || b else b) (clears_name pass picks page tag)
    ∙ or_and (pass == tag) (p == page) (is_picked picks page)

-- after the clears of a pass: a tag names a clear as before, or it is the pass and its page is a pick
pub named_more : (done : List Step) (pass : ℕ) (picks : List ℕ) (page tag : ℕ)
    → was_cleared (done ++ clear_steps pass picks) page tag ≡ (was_cleared done page tag || ((pass == tag) && is_picked picks page))
named_more done pass picks page tag =
    ap (list_any (λ n. n == tag)) (passes_append page done (clear_steps pass picks))
    ∙ list_any-append (λ n. n == tag) (clear_passes_of page done) (clear_passes_of page (clear_steps pass picks))
    ∙ ap (λ b. was_cleared done page tag || b) (clears_name pass picks page tag)

-- loads clear nothing
no_clears : (pass page : ℕ) (picks : List ℕ) (bits : List Bool) → clear_passes_of page (load_steps pass picks bits) ≡ []
no_clears pass page [] bits = refl
no_clears pass page (p ∷ picks) [] = refl
no_clears pass page (p ∷ picks) (b ∷ bits) = no_clears pass page picks bits

-- after the loads of a pass a tag names what it named before
pub named_same : (done : List Step) (pass : ℕ) (picks : List ℕ) (bits : List Bool) (page tag : ℕ)
    → was_cleared (done ++ load_steps pass picks bits) page tag ≡ was_cleared done page tag
named_same done pass picks bits page tag =
    ap (list_any (λ n. n == tag))
    (passes_append page done (load_steps pass picks bits) ∙ ap (λ l. clear_passes_of page done ++ l) (no_clears pass page picks bits) ∙ append-nil (clear_passes_of page done))

or_assoc : (a b c : Bool) → (a || (b || c)) ≡ ((a || b) || c)
or_assoc true b c = refl
or_assoc false b c = refl

-- the same of a tag that may be 0
pub tag_more : (done : List Step) (pass : ℕ) (picks : List ℕ) (page tag : ℕ)
    → is_tag (done ++ clear_steps pass picks) page tag ≡ (is_tag done page tag || ((pass == tag) && is_picked picks page))
tag_more done pass picks page tag =
    ap (λ b. (tag == 0) || b) (named_more done pass picks page tag) ∙ or_assoc (tag == 0) (was_cleared done page tag) ((pass == tag) && is_picked picks page)

-- ---- tags of one page rise: the last one of the page is enough

both_true : {G : Type 0} (a b : Bool) → (a && b) ≡ true → (a ≡ true → b ≡ true → G) → G
both_true true true e f = f refl refl
both_true true false e f = absurd cc
both_true false b e f = absurd cc

risen_trans : (rs : List Receipt) (q r : Receipt) → q.page ≡ r.page → q.tag ≤ r.tag → is_risen rs q ≡ true → is_risen rs r ≡ true
risen_trans [] q r same le risen = refl
risen_trans (x ∷ rs) q r same le risen =
    both_true (is_below x q) (is_risen rs q) risen
    (λ first others.
    let below : is_below x r ≡ true = grind (arith, nat_tests, first, same, le) in
    rw below (risen_trans rs q r same le others))

one_of_two : (same le before : Bool) → (same ≡ true → le ≡ true → before ≡ true) → (before && ((not same || le) && true)) ≡ (if same then le else before)
one_of_two true true before all = ap (λ b. b && true) (all refl refl)
one_of_two true false true all = refl
one_of_two true false false all = refl
one_of_two false le true all = refl
one_of_two false le false all = refl

-- a receipt after q: where q is of its page, q's tag alone counts, and else q does not
pub risen_step : (rs : List Receipt) (q r : Receipt) → is_risen rs q ≡ true
    → is_risen (rs ++ q ∷ []) r ≡ (if q.page == r.page then nat_le q.tag r.tag else is_risen rs r)
risen_step rs q r risen =
    list_all-append (λ (x : Receipt). is_below x r) rs (q ∷ [])
    ∙ one_of_two (q.page == r.page) (nat_le q.tag r.tag) (is_risen rs r) (λ s l.
    let page : q.page ≡ r.page = grind (arith, nat_tests, s) in
    let tag : q.tag ≤ r.tag = grind (arith, nat_tests, l) in
    risen_trans rs q r page tag risen)
