-- The spelling of a number has nothing to escape.
use Rattle.std.proofs.Common.{◌≡◌, ℕ, zero, suc, ◌/◌, ◌%◌, ◌==◌, ◌≤◌, Bool, true, false, cond, List, [], ◌∷◌, ◌++◌, codes, refl, ap, ◌∙◌, arith}
use Rattle.std.proofs.lemmas.Bool.Decides.{nat_tests}
use Rattle.std.specs.Fmt.{decimal, digits, digits_onto, digit_glyph}
use Rattle.json.specs.Print.{escape, escape_byte}
use Rattle.json.proofs.Printed.Strings.{escape_byte_plain}
use Rattle.line_text.specs.Address.{spelled_address}

glyph_above : (d : ℕ) → 48 ≤ digit_glyph false d
glyph_above d = grind (arith, nat_tests)

glyph_not_backslash : (d : ℕ) → digit_glyph false d ≡ 92 → ⊥
glyph_not_backslash d is = grind (arith, nat_tests)

glyph_is_plain : (d : ℕ) → escape_byte (digit_glyph false d) ≡ digit_glyph false d ∷ []
glyph_is_plain d =
    let above = glyph_above d in
    escape_byte_plain (digit_glyph false d) (λ is. omega (arith, above, is)) (glyph_not_backslash d) (omega (arith, above))

last_or_more : (b : Bool) (xs ys : List ℕ) → escape xs ≡ xs → escape ys ≡ ys → escape (cond b xs ys) ≡ cond b xs ys
last_or_more true xs ys first second = first
last_or_more false xs ys first second = second

digits_are_plain : (k base n : ℕ) (acc : List ℕ) → escape acc ≡ acc → escape (digits_onto k base false n acc) ≡ digits_onto k base false n acc
digits_are_plain zero base n acc plain = plain
digits_are_plain (suc k) base n acc plain =
    let glyph = digit_glyph false (n % base) in
    let longer : escape (glyph ∷ acc) ≡ glyph ∷ acc = ap (λ g. g ++ escape acc) (glyph_is_plain (n % base)) ∙ ap (λ a. glyph ∷ a) plain in
    last_or_more (n / base == 0) (glyph ∷ acc) (digits_onto k base false (n / base) (glyph ∷ acc)) longer (digits_are_plain k base (n / base) (glyph ∷ acc) longer)

pub address_is_plain : (n : ℕ) → escape (spelled_address n) ≡ spelled_address n
unfolding digits escape_byte
address_is_plain n = ap (λ ds. codes "0x" ++ ds) (digits_are_plain 64 16 n [] refl)

pub decimal_is_plain : (n : ℕ) → escape (decimal n) ≡ decimal n
unfolding digits
decimal_is_plain n = digits_are_plain 64 10 n [] refl
