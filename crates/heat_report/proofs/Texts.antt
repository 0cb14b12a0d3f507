-- Texts that are appended piece by piece.
use Rattle.std.proofs.Common.{◌≡◌, ℕ, suc, ◌+◌, ◌-◌, ◌<◌, List, ◌++◌, length, codes, decimal, sym, ap, ◌∙◌, arith}
use Rattle.std.specs.Prelude.{Option, flat_map, IsPermutation}
use Rattle.std.specs.List.{range_with_len}
use Rattle.std.proofs.lemmas.List.Sorted.{length_permutation}
use Rattle.std.proofs.lemmas.List.{append_assoc}
use Rattle.damon_types.specs.declared.row.Row.{Row}
use Rattle.heat_report.specs.declared.sizes.Spread.{Spread}
use Rattle.heat_report.specs.Freq.{freqs}
use Rattle.heat_report.specs.Sizes.{spread_of}
use Rattle.heat_report.specs.Text.{freq_line, last_line, numbers, spread_part}

-- lines of indexes: a line, and those after it
pub lines_step : (line : ℕ → List ℕ) (old out new whole : List ℕ) (i n : ℕ) → i < n → new ≡ out ++ line i → out ++ flat_map line (range_with_len i (n - i)) ≡ old ++ whole → new ++ flat_map line (range_with_len (i + 1) (n - (i + 1))) ≡ old ++ whole
lines_step line old out new whole i n within is text =
    let len : n - i ≡ suc (n - (i + 1)) = omega (arith, within) in
    let rest = flat_map line (range_with_len (i + 1) (n - (i + 1))) in
    let next : flat_map line (range_with_len i (n - i)) ≡ line i ++ rest = ap (λ k. flat_map line (range_with_len i k)) len in
    ap (λ t. t ++ rest) is ∙ append_assoc out (line i) rest ∙ ap (λ t. out ++ t) (sym next) ∙ text

-- the line of the frequencies, from its parts
pub freq_joined : (tick aggr : ℕ) (rows : List Row) (old one ns : List ℕ) → one ≡ old ++ (codes "freq " ++ decimal tick) → ns ≡ freqs aggr rows → one ++ (numbers ns ++ codes "\n") ≡ old ++ freq_line tick aggr rows
freq_joined tick aggr rows old one ns one_is ns_is =
    ap (λ t. t ++ (numbers ns ++ codes "\n")) one_is
    ∙ append_assoc old (codes "freq " ++ decimal tick) (numbers ns ++ codes "\n")
    ∙ ap (λ t. old ++ t) (append_assoc (codes "freq ") (decimal tick) (numbers ns ++ codes "\n"))
    ∙ ap (λ xs. old ++ (codes "freq " ++ (decimal tick ++ (numbers xs ++ codes "\n")))) ns_is

-- the last line, from its parts
pub last_joined : (sizes now : List ℕ) (n : ℕ) (spread : Option Spread) (old one two : List ℕ) → n ≡ length now → IsPermutation sizes now → one ≡ old ++ (codes "all reports=" ++ decimal n) → spread ≡ spread_of sizes → two ≡ one ++ spread_part spread → two ++ codes "\n" ≡ old ++ last_line sizes
last_joined sizes now n spread old one two n_is same one_is spread_is two_is =
    let count : n ≡ length sizes = n_is ∙ length_permutation sizes now same in
    ap (λ t. t ++ codes "\n") (two_is ∙ ap (λ t. t ++ spread_part spread) one_is)
    ∙ append_assoc (old ++ (codes "all reports=" ++ decimal n)) (spread_part spread) (codes "\n")
    ∙ append_assoc old (codes "all reports=" ++ decimal n) (spread_part spread ++ codes "\n")
    ∙ ap (λ t. old ++ t) (append_assoc (codes "all reports=") (decimal n) (spread_part spread ++ codes "\n"))
    ∙ ap (λ k. old ++ (codes "all reports=" ++ (decimal k ++ (spread_part spread ++ codes "\n")))) count
    ∙ ap (λ s. old ++ (codes "all reports=" ++ (decimal (length sizes) ++ (spread_part s ++ codes "\n")))) spread_is
