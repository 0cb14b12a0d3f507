-- A text is its first piece, the byte that ends it, and the rest.
use Rattle.std.proofs.Common.{◌≡◌, ◌≢◌, ℕ, ◌+◌, ◌<◌, Bool, true, false, cond, List, [], ◌∷◌, ◌++◌, ◌==◌, nat_lt, nat_eq, length, get_or, take, drop, suc, Option, Some, None, ◌↔◌, refl, ap, subst, ◌∙◌, arith, All}
use borrow.Author.Tests.{eqb-true, ne_eqb}
use Rattle.std.proofs.lemmas.List.Elements.{All-from_get_or}
use Rattle.std.specs.Option.{option_map}
use Rattle.std.specs.List.{position_or_len, starts_with}
use Rattle.std.proofs.lemmas.Bool.Decides.{nat_tests, Decides-eqb}
use Rattle.std.proofs.lemmas.List.{length-take, get_or-take}
use Rattle.std.proofs.lemmas.List.Sums.{split_at_first, fails_before_first, passes_at_first, position_or_len_is}
use Rattle.std.proofs.lemmas.Slice.Eq.{starts_is}
use Rattle.std.proofs.Math.Seq.{drop-append_seam}
use Rattle.line_text.specs.Line.{split_at_byte, after_prefix}

-- a prefix is stripped, and the other way round
pub after_prefix-append : (front rest : List ℕ) → after_prefix front (front ++ rest) ≡ Some rest
after_prefix-append front rest =
    let begins : starts_with nat_eq (front ++ rest) front ≡ true = (starts_is Decides-eqb (front ++ rest) front (starts_with nat_eq (front ++ rest) front) refl).1 rest refl in
    rw (begins, drop-append_seam front rest)

pub after_prefix-Some : (front bytes rest : List ℕ) → after_prefix front bytes ≡ Some rest → bytes ≡ front ++ rest
after_prefix-Some front bytes rest e = by (starts_with nat_eq bytes front) refl e
  where
    by : (t : Bool) → starts_with nat_eq bytes front ≡ t → cond t (Some (drop (length front) bytes)) None ≡ Some rest → bytes ≡ front ++ rest
    by true begins found =
        let same : drop (length front) bytes ≡ rest = cc in
        (starts_is Decides-eqb bytes front (starts_with nat_eq bytes front) refl).0 begins ∙ ap (λ ds. front ++ ds) same
    by false begins found = absurd cc

before : (byte : ℕ) (bytes : List ℕ) (k : ℕ) → k < position_or_len (λ c. c == byte) bytes → get_or bytes k 0 ≢ byte
before byte bytes k low same = let no = fails_before_first (λ c. c == byte) bytes k 0 low in grind (arith, nat_tests)

none_before : (byte at : ℕ) (bytes : List ℕ) → at ≡ position_or_len (λ c. c == byte) bytes → at < length bytes → All (λ c. c ≢ byte) (take at bytes)
none_before byte at bytes is within = All-from_get_or (λ c. c ≢ byte) (take at bytes) 0 (λ k low.
    let short : k < at = omega (arith, length-take at bytes) in
    rw (get_or-take at bytes k 0 short) (before byte bytes k (omega arith)))

front_of : Option (List ℕ × List ℕ) → List ℕ
front_of None = []
front_of (Some x) = x.0

back_of : Option (List ℕ × List ℕ) → List ℕ
back_of None = []
back_of (Some x) = x.1

cut_there : (byte at : ℕ) (bytes piece rest : List ℕ) → at ≡ position_or_len (λ c. c == byte) bytes → at < length bytes
    → ◌≡◌ {A = Option (List ℕ × List ℕ)} (Some (take at bytes, drop (at + 1) bytes)) (Some (piece, rest)) → (bytes ≡ piece ++ byte ∷ rest) × All (λ c. c ≢ byte) piece
unfolding front_of back_of
cut_there byte at bytes piece rest is within found =
    let front : take at bytes ≡ piece = ap front_of found in
    let back : drop (at + 1) bytes ≡ rest = ap back_of found in
    let same : get_or bytes at 0 ≡ byte = rw is (eqb-true _ byte (passes_at_first (λ c. c == byte) bytes 0 (rw is at within))) in
    let whole : bytes ≡ take at bytes ++ get_or bytes at 0 ∷ drop (at + 1) bytes = rw is (split_at_first (λ c. c == byte) bytes 0 (rw is at within)) in
    (whole ∙ (λ i. front i ++ same i ∷ back i), subst (All (λ c. c ≢ byte)) front (none_before byte at bytes is within))

-- the bytes before the first such byte have none of it
pub split_at_byte-Some : (byte : ℕ) (bytes piece rest : List ℕ) → split_at_byte byte bytes ≡ Some (piece, rest)
    → (bytes ≡ piece ++ byte ∷ rest) × All (λ c. c ≢ byte) piece
split_at_byte-Some byte bytes piece rest e = by (nat_lt (position_or_len (λ c. c == byte) bytes) (length bytes)) refl e
  where
    by : (t : Bool) → nat_lt (position_or_len (λ c. c == byte) bytes) (length bytes) ≡ t
        → option_map {U = List ℕ × List ℕ} (λ n. (take n bytes, drop (n + 1) bytes)) (cond t (Some (position_or_len (λ c. c == byte) bytes)) None) ≡ Some (piece, rest)
        → (bytes ≡ piece ++ byte ∷ rest) × All (λ c. c ≢ byte) piece
    by false past found = absurd cc
    by true here found = cut_there byte (position_or_len (λ c. c == byte) bytes) bytes piece rest refl (grind (arith, nat_tests)) found

drop_past : (xs ys : List ℕ) (y : ℕ) → drop (suc (length xs)) (xs ++ y ∷ ys) ≡ ys
drop_past [] ys y = refl
drop_past (x ∷ xs) ys y = drop_past xs ys y

nowhere : (byte : ℕ) (bytes : List ℕ) → All (λ c. c ≢ byte) bytes → position_or_len (λ c. c == byte) bytes ≡ length bytes
nowhere byte bytes all =
    position_or_len_is (λ c. c == byte) bytes (length bytes) 0 (omega arith) (λ k low. ne_eqb _ byte (all k 0 low)) (λ past. absurd (omega arith))

-- there is no split exactly where no byte is the one that is sought
pub split_at_byte-None : (byte : ℕ) (bytes : List ℕ) → (split_at_byte byte bytes ≡ None) ↔ All (λ c. c ≢ byte) bytes
split_at_byte-None byte bytes = (
  λ none. All-from_get_or (λ c. c ≢ byte) bytes 0 (λ k low same. by (nat_lt (position_or_len (λ c. c == byte) bytes) (length bytes)) refl none k low same),
  λ all. let at = nowhere byte bytes all in let past : nat_lt (length bytes) (length bytes) ≡ false = grind (arith, nat_tests) in rw (at, past),
)
  where
    by : (t : Bool) → nat_lt (position_or_len (λ c. c == byte) bytes) (length bytes) ≡ t
        → option_map {U = List ℕ × List ℕ} (λ n. (take n bytes, drop (n + 1) bytes)) (cond t (Some (position_or_len (λ c. c == byte) bytes)) None) ≡ None
        → (k : ℕ) → k < length bytes → get_or bytes k 0 ≢ byte
    by true here none k low same = absurd cc
    by false past none k low same = before byte bytes k (grind (arith, nat_tests)) same
