-- The text of a value has no line end.
use Rattle.std.proofs.Common.{◌≡◌, ℕ, zero, suc, ◌+◌, ◌<◌, ◌^◌, Bool, true, false, List, [], ◌∷◌, ◌++◌, refl, ap, ap₂, ◌∙◌, arith}
use Rattle.std.specs.Prelude.{◌||◌, decimal, map}
use Rattle.std.specs.List.{list_any}
use Rattle.std.proofs.lemmas.Bool.Decides.{nat_tests}
use Rattle.std.specs.Int.Digits.{digits_of}
use Rattle.std.proofs.lemmas.Fmt.{decimal-digits_of, decimal_digit}
use Rattle.std.proofs.lemmas.List.Folds.{list_any-append}
use Rattle.json.specs.Print.{escape, escape_byte, escape_letter, quoted}
use Rattle.serde_json.specs.Data.{unsigned, negative, float, Data, null, boolean, number, string, array, object, Items, no_items, item, Members, no_members, member}
use Rattle.serde_json.specs.Written.{compact_text, items_text, members_text, comma_if}
use Rattle.snapshot_print.specs.Readable.{HasWords, ItemsHaveWords, MembersHaveWords, IsOneLine, is_line_end}

-- two texts without a line end, one after the other
both : (a b : List ℕ) → IsOneLine a → IsOneLine b → IsOneLine (a ++ b)
both a b first second = list_any-append is_line_end a b ∙ ap₂ (λ x y. x || y) first second

letter : (x : ℕ) → is_line_end (escape_letter x) ≡ false
letter x = grind (arith, nat_tests)

byte : (x : ℕ) → IsOneLine (escape_byte x)
unfolding escape_byte
byte x = grind (arith, nat_tests, letter x)

escaped : (s : List ℕ) → IsOneLine (escape s)
escaped [] = refl
escaped (x ∷ s) = both (escape_byte x) (escape s) (byte x) (escaped s)

in_quotes : (s : List ℕ) → IsOneLine (quoted s)
in_quotes s = both (escape s) (34 ∷ []) (escaped s) refl

digit_bytes : (ds : List ℕ) → IsOneLine (map (λ d. 48 + d) ds)
digit_bytes [] = refl
digit_bytes (d ∷ ds) = ap₂ (λ x y. x || y) (digit d) (digit_bytes ds)
  where
    digit : (d : ℕ) → is_line_end (48 + d) ≡ false
    digit d = grind (arith, nat_tests)

digits : (n : ℕ) → n < 2 ^ 64 → IsOneLine (decimal n)
digits zero fits = ap (list_any is_line_end) (decimal_digit 0 (omega arith))
digits (suc n) fits = ap (list_any is_line_end) (decimal-digits_of (suc n) (omega arith) fits) ∙ digit_bytes (digits_of 10 (suc n))

comma : (later : Bool) → IsOneLine (comma_if later)
comma true = refl
comma false = refl

mutual
  pub text_is_one_line : (d : Data) → HasWords d → IsOneLine (compact_text d)
  text_is_one_line null h = refl
  text_is_one_line (boolean true) h = refl
  text_is_one_line (boolean false) h = refl
  text_is_one_line (number (unsigned n)) h = digits n h
  text_is_one_line (number (negative z)) h = absurd h
  text_is_one_line (number (float x)) h = absurd h
  text_is_one_line (string s) h = in_quotes s
  text_is_one_line (array ds) h = items_are_one_line false ds h
  text_is_one_line (object ms) h = members_are_one_line false ms h

  items_are_one_line : (later : Bool) (ds : Items) → ItemsHaveWords ds → IsOneLine (items_text later ds)
  items_are_one_line later no_items h = refl
  items_are_one_line later (item d ds) h =
      both (comma_if later) (compact_text d ++ items_text true ds) (comma later)
      (both (compact_text d) (items_text true ds) (text_is_one_line d h.0) (items_are_one_line true ds h.1))

  members_are_one_line : (later : Bool) (ms : Members) → MembersHaveWords ms → IsOneLine (members_text later ms)
  members_are_one_line later no_members h = refl
  members_are_one_line later (member k d ms) h =
      both (comma_if later) (quoted k ++ 58 ∷ (compact_text d ++ members_text true ms)) (comma later)
      (both (quoted k) (58 ∷ (compact_text d ++ members_text true ms)) (in_quotes k)
      (both (compact_text d) (members_text true ms) (text_is_one_line d h.0) (members_are_one_line true ms h.1)))
