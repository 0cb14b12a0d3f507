-- A text that a context says, line by line.
use Rattle.std.proofs.Common.{◌≡◌, ℕ, ◌+◌, List, [], ◌∷◌, ◌++◌, map, sym, ap, subst, ◌∙◌, append_assoc}
use Rattle.line_text.specs.Appended.{KeepsFront}
use Rattle.line_text.specs.Parts.{parts}
use Rattle.line_text.proofs.Lemmas.{keeps-append, keeps_through, parts_some}
use Rattle.script_lines.specs.Lines.{lines_text}
use Rattle.damon_admin.specs.Voice.{all_but_last, spoken, spoken_line}
use Rattle.damon_admin.proofs.Ended.{first_kept}

-- the first line, and those after it
pub spoken_first : (c : ℕ) (text line rest : List ℕ) → parts 10 text ≡ line ∷ parts 10 rest → spoken c text ≡ (48 + c) ∷ 32 ∷ (line ++ 10 ∷ spoken c rest)
spoken_first c text line rest is =
    ap (λ ps. lines_text (map (spoken_line c) (all_but_last ps))) is
    ∙ ap (λ ls. lines_text (map (spoken_line c) ls)) (first_kept line (parts 10 rest) (parts_some 10 rest))

-- no line is left
pub spoken_none : (c : ℕ) (text line : List ℕ) → parts 10 text ≡ line ∷ [] → spoken c text ≡ []
spoken_none c text line is = ap (λ ps. lines_text (map (spoken_line c) (all_but_last ps))) is

-- what is appended for a line
pub line_spoken : (c : ℕ) (text line rest o x y z e : List ℕ) → parts 10 text ≡ line ∷ parts 10 rest
    → x ≡ o ++ (48 + c) ∷ [] → y ≡ x ++ 32 ∷ [] → z ≡ y ++ line → e ≡ z ++ 10 ∷ [] → e ++ spoken c rest ≡ o ++ spoken c text
line_spoken c text line rest o x y z e is digit space own end =
    let s = spoken c rest in
    ap (λ t. t ++ s) (end ∙ ap (λ t. t ++ 10 ∷ []) (own ∙ ap (λ t. t ++ line) (space ∙ ap (λ t. t ++ 32 ∷ []) digit)))
    ∙ append_assoc (((o ++ (48 + c) ∷ []) ++ 32 ∷ []) ++ line) (10 ∷ []) s
    ∙ append_assoc ((o ++ (48 + c) ∷ []) ++ 32 ∷ []) line (10 ∷ s)
    ∙ append_assoc (o ++ (48 + c) ∷ []) (32 ∷ []) (line ++ 10 ∷ s)
    ∙ append_assoc o ((48 + c) ∷ []) (32 ∷ (line ++ 10 ∷ s))
    ∙ ap (λ t. o ++ t) (sym (spoken_first c text line rest is))

-- what was kept so far is kept where more is appended
pub keeps_on : (first old more new : List ℕ) → new ≡ old ++ more → KeepsFront first old → KeepsFront first new
keeps_on first old more new is kept = subst (KeepsFront first) (sym is) (keeps_through first old (old ++ more) kept (keeps-append old more))
