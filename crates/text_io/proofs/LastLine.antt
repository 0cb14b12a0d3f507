-- The last LF of a text, by the place that a search finds.
use Rattle.std.proofs.Common.{◌≡◌, ◌≢◌, ℕ, List, All, get_or, length, arith}
use Rattle.std.proofs.lemmas.Bool.Decides.{nat_tests}
use Rattle.std.proofs.lemmas.List.Elements.{All-from_get_or}
use Rattle.memchr.specs.Find.{NoneAfter, Nowhere, Passes, is_byte}

-- an LF stands at the place
pub lf_there : (text : List ℕ) (at : ℕ) → NoneAfter (Passes (is_byte 10) text) 0 (length text) at × Passes (is_byte 10) text at → get_or text at 0 ≡ 10
lf_there text at found = grind (arith, nat_tests, found.1)

-- a text in which none was found has none
pub no_lf : (text : List ℕ) → Nowhere (Passes (is_byte 10) text) 0 (length text) → All (λ byte. byte ≢ 10) text
no_lf text none = All-from_get_or (λ byte. byte ≢ 10) text 0 (λ i below same. none i (omega arith) below (grind (arith, nat_tests, same)))
