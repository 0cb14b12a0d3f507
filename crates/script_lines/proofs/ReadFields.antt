-- The spelling of a number or an address is read as it.
use Rattle.std.proofs.Common.{◌≡◌, ◌-◌, ◌^◌, ◌<◌, ℕ, Ok, refl, ap, decimal, arith}
use Rattle.std.specs.Option.{ok_or}
use Rattle.damon_types.specs.declared.attrs.Attrs.{Attrs}
use Rattle.damon_types.specs.declared.range.RangeSpec.{RangeSpec}
use Rattle.damon_types.specs.declared.scheme.CostPart.{CostPart}
use Rattle.damon_types.specs.declared.space.Target.{Target}
use Rattle.line_text.specs.Address.{spelled_address}
use Rattle.line_text.proofs.Lemmas.{address-spelled_address, number-decimal}
use Rattle.script_lines.specs.declared.kind.ScriptKind.TheVariants.{Number}
use Rattle.script_lines.specs.Fields.{attrs_in, cost_in, range_in}
use Rattle.script_lines.specs.Fits.{FitsAttrs, FitsCost, FitsRange}
use Rattle.script_lines.specs.Head.{target_in}
use Rattle.script_lines.proofs.SpelledParts.{attrs_words, cost_words, range_words, target_words}
use Rattle.script_lines.specs.Words.{byte_address, number_8, number_16, number_32, number_64}
use Rattle.script_lines.proofs.SpellSteps.{then-Ok}

pub number_8-decimal : (n : ℕ) → n < 2 ^ 8 → number_8 (decimal n) ≡ Ok n
number_8-decimal n small = ap (λ o. ok_or o Number) (number-decimal (2 ^ 8 - 1) n (omega arith) (omega arith))

pub number_16-decimal : (n : ℕ) → n < 2 ^ 16 → number_16 (decimal n) ≡ Ok n
number_16-decimal n small = ap (λ o. ok_or o Number) (number-decimal (2 ^ 16 - 1) n (omega arith) (omega arith))

pub number_32-decimal : (n : ℕ) → n < 2 ^ 32 → number_32 (decimal n) ≡ Ok n
number_32-decimal n small = ap (λ o. ok_or o Number) (number-decimal (2 ^ 32 - 1) n (omega arith) (omega arith))

pub number_64-decimal : (n : ℕ) → n < 2 ^ 64 → number_64 (decimal n) ≡ Ok n
number_64-decimal n small = ap (λ o. ok_or o Number) (number-decimal (2 ^ 64 - 1) n (omega arith) (omega arith))

pub byte_address-spelled : (n : ℕ) → n < 2 ^ 64 → byte_address (spelled_address n) ≡ Ok n
byte_address-spelled n small = ap (λ o. ok_or o Number) (address-spelled_address n small)

pub attrs_in-words : (a : Attrs) → FitsAttrs a → attrs_in (attrs_words a) ≡ Ok a
attrs_in-words a fits =
    then-Ok (number_32 (decimal a.min)) _ a.min _ (number_32-decimal a.min fits.0)
    (then-Ok (number_32 (decimal a.max)) _ a.max _ (number_32-decimal a.max fits.1)
    (then-Ok (number_32 (decimal a.aggr)) _ a.aggr _ (number_32-decimal a.aggr fits.2) refl))

pub target_in-words : (t : Target) → t.base < 2 ^ 64 → t.pages < 2 ^ 32 → target_in (target_words t) ≡ Ok t
target_in-words t base pages =
    then-Ok (byte_address (spelled_address t.base)) _ t.base _ (byte_address-spelled t.base base)
    (then-Ok (number_32 (decimal t.pages)) _ t.pages _ (number_32-decimal t.pages pages) refl)

pub range_in-words : (r : RangeSpec) → FitsRange r → range_in (range_words r) ≡ Ok r
range_in-words r fits =
    then-Ok (number_32 (decimal r.target)) _ r.target _ (number_32-decimal r.target fits.0)
    (then-Ok (byte_address (spelled_address r.from)) _ r.from _ (byte_address-spelled r.from fits.1)
    (then-Ok (byte_address (spelled_address r.to)) _ r.to _ (byte_address-spelled r.to fits.2)
    (then-Ok (number_8 (decimal r.class)) _ r.class _ (number_8-decimal r.class fits.3) refl)))

pub cost_in-words : (c : CostPart) → FitsCost c → cost_in (cost_words c) ≡ Ok c
cost_in-words c fits =
    then-Ok (number_8 (decimal c.slot)) _ c.slot _ (number_8-decimal c.slot fits.0)
    (then-Ok (number_64 (decimal c.nanos)) _ c.nanos _ (number_64-decimal c.nanos fits.1) refl)
