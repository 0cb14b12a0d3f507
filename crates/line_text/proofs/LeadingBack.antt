-- Numbers and addresses at the front of bytes are read back.
use Rattle.std.proofs.Common.{◌≡◌, ℕ, ◌^◌, ◌<◌, ◌≤◌, Bool, true, false, cond, List, [], ◌∷◌, ◌++◌, length, drop, Some, ap, sym, ◌∙◌, arith}
use Rattle.std.proofs.Math.Seq.{drop-append_seam}
use Rattle.std.proofs.lemmas.List.Elements.{All-head, All-tail}
use Rattle.std.proofs.lemmas.List.Sums.{take_while-cons}
use Rattle.std.specs.Char.{is_ascii_digit}
use Rattle.std.specs.Fmt.{digits}
use Rattle.std.specs.List.{take_while}
use Rattle.std.specs.Option.{option_map}
use Rattle.std.specs.Prelude.{All, codes, decimal, option_and_then}
use Rattle.line_text.specs.Address.{hex_number, spelled_address}
use Rattle.line_text.specs.Leading.{is_hex_digit, leading_address, leading_digits, leading_hex, leading_hex_digits, leading_number}
use Rattle.line_text.specs.Number.{number}
use Rattle.line_text.proofs.Addresses.{address-spelled_address, digits-hex}
use Rattle.line_text.proofs.Numbers.{digits-decimal, number-decimal}
use Rattle.line_text.proofs.Pieces.{after_prefix-append}

-- a front of elements that pass, and one that fails
take_while-front : (p : ℕ → Bool) (xs : List ℕ) (c : ℕ) (rest : List ℕ) → All (λ x. p x ≡ true) xs → p c ≡ false → take_while p (xs ++ c ∷ rest) ≡ xs
take_while-front p [] c rest all fails = take_while-cons p c rest ∙ ap (λ b. cond b (c ∷ take_while p rest) []) fails
take_while-front p (x ∷ xs) c rest all fails =
    let P : ℕ → Type 0 = λ y. p y ≡ true in
    take_while-cons p x (xs ++ c ∷ rest)
    ∙ ap (λ b. cond b (x ∷ take_while p (xs ++ c ∷ rest)) []) (All-head P x xs all)
    ∙ ap (λ ys. x ∷ ys) (take_while-front p xs c rest (All-tail P x xs all) fails)

pub leading_number-read : (most n c : ℕ) (rest : List ℕ) → n ≤ most → most < 2 ^ 64 → is_ascii_digit c ≡ false → leading_number most (decimal n ++ c ∷ rest) ≡ Some (n, c ∷ rest)
leading_number-read most n c rest within small fails =
    let bytes = decimal n ++ c ∷ rest in
    let front : leading_digits bytes ≡ decimal n = take_while-front is_ascii_digit (decimal n) c rest (digits-decimal n (omega arith)) fails in
    ap (λ ds. option_map (λ m. (m, drop (length ds) bytes)) (number most ds)) front
    ∙ ap (option_map (λ m. (m, drop (length (decimal n)) bytes))) (number-decimal most n within small)
    ∙ ap (λ ys. Some (n, ys)) (drop-append_seam (decimal n) (c ∷ rest))

pub leading_address-read : (n c : ℕ) (rest : List ℕ) → n < 2 ^ 64 → is_hex_digit c ≡ false → leading_address (spelled_address n ++ c ∷ rest) ≡ Some (n, c ∷ rest)
leading_address-read n c rest small fails =
    let ds = digits 16 false n in
    let bytes = ds ++ c ∷ rest in
    let front : leading_hex_digits bytes ≡ ds = take_while-front is_hex_digit ds c rest (digits-hex n small) fails in
    let is : hex_number ds ≡ Some n = sym (ap (option_and_then hex_number) (after_prefix-append (codes "0x") ds)) ∙ address-spelled_address n small in
    ap (option_and_then leading_hex) (after_prefix-append (codes "0x") bytes)
    ∙ ap (λ xs. option_map (λ m. (m, drop (length xs) bytes)) (hex_number xs)) front
    ∙ ap (option_map (λ m. (m, drop (length ds) bytes))) is
    ∙ ap (λ ys. Some (n, ys)) (drop-append_seam ds (c ∷ rest))

-- what stands at the front of bytes is read, or stripped, and the rest is left
pub ruleset leading_parts = (leading_address-read, leading_number-read, after_prefix-append)
