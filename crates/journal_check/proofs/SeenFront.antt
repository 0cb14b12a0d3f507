-- The line of a receipt at the front of a text.
use Rattle.std.proofs.Common.{◌≡◌, ℕ, List, ◌∷◌, ◌++◌, codes, decimal, append_assoc, sym, ap, ◌∙◌}
use Rattle.damon_types.specs.declared.space.Target.{Target}
use Rattle.damon_types.specs.Space.{place_of}
use Rattle.line_text.specs.Address.{spelled_address}
use Rattle.line_text.specs.Parts.{parts}
use Rattle.line_text.proofs.Lemmas.{parts_first}
use Rattle.run_journal.specs.declared.entry.Receipt.{Receipt}
use Rattle.journal_check.specs.Ahead.{in_front_of, seen_ahead}
use Rattle.journal_check.specs.SeenFront.{BeginsWithSeen}
use Rattle.journal_text.specs.Spelled.{spelled_seen}
use Rattle.journal_text.proofs.Lemmas.{seen_piece, seen_back}
use Rattle.journal_check.proofs.SeenTaken.{line_says}

-- what follows a number in a text follows it in a longer text too
behind : (name : List ℕ) (n : ℕ) (more rest : List ℕ) → name ++ (decimal n ++ (more ++ rest)) ≡ (name ++ (decimal n ++ more)) ++ rest
behind name n more rest = ap (λ t. name ++ t) (sym (append_assoc (decimal n) more rest)) ∙ sym (append_assoc name (decimal n ++ more) rest)

-- the words of a receipt, and then an LF, begin a text
pub seen_front : (space : List Target) (worker : ℕ) (r : Receipt) (text first second third rest : List ℕ)
    → text ≡ codes "seen " ++ (decimal worker ++ first)
    → first ≡ codes " " ++ (decimal (place_of space r.page).target ++ (codes " " ++ (spelled_address (place_of space r.page).addr ++ second)))
    → second ≡ codes " " ++ (decimal r.tag ++ third) → third ≡ 10 ∷ rest
    → text ≡ spelled_seen space worker r ++ 10 ∷ rest
seen_front space worker r text first second third rest one two three four =
    let target = (place_of space r.page).target in
    let addr = (place_of space r.page).addr in
    let end = 10 ∷ rest in
    let tag = codes " " ++ decimal r.tag in
    let last : second ≡ tag ++ end = three ∙ ap (λ t. codes " " ++ (decimal r.tag ++ t)) four in
    let address = spelled_address addr ++ tag in
    let place : first ≡ (codes " " ++ (decimal target ++ (codes " " ++ address))) ++ end =
    two
    ∙ ap (λ t. codes " " ++ (decimal target ++ (codes " " ++ (spelled_address addr ++ t)))) last
    ∙ ap (λ t. codes " " ++ (decimal target ++ (codes " " ++ t))) (sym (append_assoc (spelled_address addr) tag end))
    ∙ behind (codes " ") target (codes " " ++ address) end in
    one ∙ ap (λ t. codes "seen " ++ (decimal worker ++ t)) place
    ∙ behind (codes "seen ") worker (codes " " ++ (decimal target ++ (codes " " ++ address))) end

-- a text says the receipt of its first line, and then those of the rest
pub leading_seen_is_read : (space : List Target) (text : List ℕ) (seen : ℕ × Receipt) (rest : List ℕ) → BeginsWithSeen space text seen rest
    → seen_ahead space (parts 10 text) ≡ seen ∷ seen_ahead space (parts 10 rest)
leading_seen_is_read space text seen rest begins =
    let line = spelled_seen space seen.0 seen.1 in
    let split = ap (parts 10) begins.whole ∙ parts_first 10 line rest (seen_piece space seen.0 seen.1 begins.place begins.worker begins.tag) in
    ap (seen_ahead space) split ∙ line_says space line rest
    ∙ ap (in_front_of (seen_ahead space (parts 10 rest))) (seen_back space seen.0 seen.1 begins.place begins.worker begins.tag)
