use Rattle.std.proofs.Common.{◌≡◌, ℕ, ◌+◌, ◌-◌, List, length-set, arith}
use Rattle.std.proofs.Common.{set}
use Rattle.std.proofs.lemmas.List.{drop-set}
use Rattle.line_text.proofs.Hex.{length_hex_le}
use Rattle.line_text.proofs.address.address_before.Goals as goal

pub returns-clause-written : goal.returns-clause-written
returns-clause-written c =
    let at : ℕ = c.write_hex-start.result in
    let bytes : List ℕ = c.write_hex-start.new.bytes in
    let most = length_hex_le c.args.value c.ranges.value.fits in
    let next : at - 2 + 1 ≡ at - 1 = omega arith in
    let last : at - 1 + 1 ≡ at = omega arith in
    rw (drop-set (set bytes (at - 1) 120) (at - 2) 48 (omega (arith, length-set {A = ℕ})), next, drop-set bytes (at - 1) 120 (omega arith), last, c.write_hex-start.ensures.written)
