-- Goals that are read word by word.
use Rattle.std.proofs.Common.{◌≡◌, ℕ, List, [], ◌∷◌, ◌++◌, Option, Some, sym, ap, ◌∙◌}
use Rattle.std.specs.Option.{option_copied, option_map}
use Rattle.std.specs.Borrow.{Bor}
use Rattle.line_text.specs.Parts.{four_of, parts, parts_left}
use Rattle.line_text.specs.declared.bytes.TheConstants.{COLON}
use Rattle.quota_goal.specs.declared.goals.Goal.{Goal}
use Rattle.damon_app.specs.GoalWords.{goal_in, goal_of}

-- four parts that are found are the parts
four_parts_are : (ps : List (List ℕ)) (a b c d : List ℕ) → four_of ps ≡ Some (a, b, c, d) → ps ≡ a ∷ b ∷ c ∷ d ∷ []
four_parts_are [] a b c d is = absurd (cc is)
four_parts_are (p ∷ []) a b c d is = absurd (cc is)
four_parts_are (p ∷ q ∷ []) a b c d is = absurd (cc is)
four_parts_are (p ∷ q ∷ r ∷ []) a b c d is = absurd (cc is)
four_parts_are (p ∷ q ∷ r ∷ s ∷ []) a b c d is =
    let same : (p, q, r, s) ≡ (a, b, c, d) = cc is in
    ap (λ (x : List ℕ × List ℕ × List ℕ × List ℕ). x.0 ∷ x.1 ∷ x.2 ∷ x.3 ∷ []) same
four_parts_are (p ∷ q ∷ r ∷ s ∷ t ∷ ts) a b c d is = absurd (cc is)

-- the goal of a word that is split into five fields
pub five_fields : (word slot : List ℕ) (rest : Option (Bor (List ℕ))) (fields : Bor (List ℕ)) (a b c d : List ℕ)
    → parts COLON word ≡ slot ∷ parts_left COLON (option_copied rest) → rest ≡ Some fields → Some (a, b, c, d) ≡ four_of (parts COLON fields.now)
    → goal_of word ≡ goal_in (slot ∷ a ∷ b ∷ c ∷ d ∷ [])
five_fields word slot rest fields a b c d split are four =
    ap goal_in (split ∙ ap (λ o. slot ∷ parts_left COLON (option_copied o)) are)
    ∙ ap (λ ps. goal_in (slot ∷ ps)) (four_parts_are (parts COLON fields.now) a b c d (sym four))

-- ---- goals

-- goals before those of the words that are left
abbrev pub with_front : List Goal → Option (List Goal) → Option (List Goal)
with_front front rest = option_map (λ goals. front ++ goals) rest
