-- The words of a touch at the front of a text.
use Rattle.std.proofs.Common.{◌≡◌, ℕ, List, ◌∷◌, ◌++◌, codes, decimal, append_assoc, sym, ap, ◌∙◌}
use Rattle.line_text.specs.Address.{spelled_address}
use Rattle.script_lines.proofs.SpelledParts.{spelled_touch}

-- the words of a touch, and then an LF, begin a text
pub spelled_front : (target addr : ℕ) (text words end rest : List ℕ) → text ≡ codes "touch " ++ (decimal target ++ (codes " " ++ words)) → words ≡ spelled_address addr ++ end → end ≡ 10 ∷ rest
    → text ≡ spelled_touch target addr ++ 10 ∷ rest
spelled_front target addr text words end rest first second third =
    first
    ∙ ap (λ ws. codes "touch " ++ (decimal target ++ (codes " " ++ ws))) (second ∙ ap (λ e. spelled_address addr ++ e) third)
    ∙ ap (λ ws. codes "touch " ++ ws) (sym (append_assoc (decimal target) (codes " " ++ spelled_address addr) (10 ∷ rest)))
