use Rattle.std.proofs.Common.{◌≡◌, ◌+◌, ◌-◌, rules, arith}
use Rattle.std.proofs.lemmas.Fmt.{decimal_digit, length-decimal-le}
use Rattle.std.proofs.lemmas.List.{drop-set}
use Rattle.line_text.proofs.number.number_before.Goals as goal

pub returns-then-value-lt10-clause-written : goal.returns-then-value-lt10-clause-written
returns-then-value-lt10-clause-written c =
    let after : c.args.end - 1 + 1 ≡ c.args.end = omega arith in
    rw (drop-set c.args.bytes.now (c.args.end - 1) _ (omega arith), after, decimal_digit c.args.value c.if-value-lt10.true)

pub write_digits-requires : goal.write_digits-requires
write_digits-requires c = search (rules, length-decimal-le 20)

pub returns-clause-most : goal.returns-clause-most
returns-clause-most c = search (rules, length-decimal-le 20)
