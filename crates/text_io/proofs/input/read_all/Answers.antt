use Rattle.std.proofs.Common.{ℕ, ◌++◌, take, arith, length-append}
use Rattle.std.proofs.KnownBytes.{Consumes-trans}
use Rattle.std.proofs.lemmas.List.{length-take}
use Rattle.text_io.proofs.input.read_all.Goals as goal

-- no memory for a piece: it was given besides the bytes from before
pub returns-in_err-extend_from_slice-clause-most : goal.returns-in_err-extend_from_slice-clause-most
returns-in_err-extend_from_slice-clause-most g c =
    let left = g.S.Source.left in
    let more = take c.in_ok-count.count c.read.new.buf in (
      c.reads.bytes.items ++ more,
      omega (arith, length-append c.reads.bytes.items more, length-take c.in_ok-count.count c.read.new.buf, length-take {A = ℕ}, c.read.auto.buf, c.in_ok-count.ensures.bound),
      Consumes-trans _ (left c.reads.source) _ c.reads.bytes.items more c.reads.invariant.read c.in_ok-count.ensures.bytes.0,
    )
