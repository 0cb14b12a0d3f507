use Rattle.std.proofs.Common.{◌≡◌, ℕ, ◌+◌, ◌-◌, ◌≤◌, List, take, sym, ap, ◌∙◌, arith, append_assoc, take-take}
use Rattle.line_text.proofs.HexPairs.{hex_four, length_hex_four}
use Rattle.line_text.proofs.hex_digits.write_hex.Goals as goal

pub fours-preserved : goal.fours-preserved
fours-preserved c =
    let l = c.fours in
    let long = length_hex_four l.left c.fours-test.true l.auto.left-fits.fits in
    let a : l.at - 4 + 2 ≡ l.at - 2 = omega arith in
    let b : l.at - 2 + 2 ≡ l.at = omega arith in
    let shorter = λ (n : ℕ) (xs ys : List ℕ) (h : l.at - 4 ≤ n) (e : take n xs ≡ take n ys). sym (take-take _ n xs h) ∙ ap (take (l.at - 4)) e ∙ take-take _ n ys h in
    record {
      room = omega arith;
      within = omega arith;
      place = omega arith;
      text = rw (c.write_pair-in-fours.ensures.written, a, c.write_pair.ensures.written, b) (rw (hex_four l.left c.fours-test.true l.auto.left-fits.fits, append_assoc) at l.invariant.text);
      before = c.write_pair-in-fours.ensures.before ∙ shorter _ _ _ (omega arith) c.write_pair.ensures.before ∙ shorter _ _ _ (omega arith) l.invariant.before;
    }
