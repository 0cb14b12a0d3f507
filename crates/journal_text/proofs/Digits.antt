-- The digits of results.
use Rattle.std.proofs.Common.{◌≡◌, ℕ, ◌+◌, ◌<◌, Bool, false, List, [], ◌∷◌, ◌++◌, drop, length, take, get_or, append_assoc, sym, ap, ◌∙◌}
use Rattle.std.specs.Prelude.{map}
use Rattle.std.proofs.lemmas.List.{drop-drop, take-append-drop, drop_more}
use mathlib.Core.List.{map-append}
use Rattle.journal_text.specs.Spelled.{bit_digit}

-- the digit of one more result is appended
pub digit_more : (xs : List Bool) (text more whole : List ℕ) (k digit : ℕ) (bit : Bool) → k < length xs → bit ≡ get_or xs k false → digit ≡ bit_digit bit → more ≡ text ++ digit ∷ []
    → text ++ map bit_digit (drop k xs) ≡ whole → more ++ map bit_digit (drop (k + 1) xs) ≡ whole
digit_more xs text more whole k digit bit below read spelled added left =
    ap (λ l. l ++ map bit_digit (drop (k + 1) xs)) added
    ∙ append_assoc text (digit ∷ []) (map bit_digit (drop (k + 1) xs))
    ∙ ap (λ d. text ++ d ∷ map bit_digit (drop (k + 1) xs)) (spelled ∙ ap bit_digit read)
    ∙ ap (λ l. text ++ map bit_digit l) (sym (drop_more xs k false below))
    ∙ left

-- the digits of more results are appended
pub digits_more : (xs bits : List Bool) (text more whole : List ℕ) (k n : ℕ) → bits ≡ take n (drop k xs) → more ≡ text ++ map bit_digit bits → text ++ map bit_digit (drop k xs) ≡ whole → more ++ map bit_digit (drop (k + n) xs) ≡ whole
digits_more xs bits text more whole k n read added left =
    let parts : bits ++ drop (k + n) xs ≡ drop k xs = ap (λ l. l ++ drop (k + n) xs) read ∙ ap (λ l. take n (drop k xs) ++ l) (sym (drop-drop n k xs)) ∙ take-append-drop n (drop k xs) in
    ap (λ l. l ++ map bit_digit (drop (k + n) xs)) added
    ∙ append_assoc text (map bit_digit bits) (map bit_digit (drop (k + n) xs))
    ∙ ap (λ l. text ++ l) (sym (map-append bit_digit bits (drop (k + n) xs)) ∙ ap (map bit_digit) parts)
    ∙ left
