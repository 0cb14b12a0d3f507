use Rattle.std.proofs.Common.{◌≡◌, ◌≤◌, ◌+◌, ◌-◌, vec_len}
use Rattle.std.specs.Io.KnownBytes.{Consumes}
use Rattle.damon_types.specs.Calls.{EndsAtFault}
use Rattle.text_io.specs.declared.input.TheConstants.{INPUT_LIMIT}
use Rattle.text_io.specs.declared.output.TheConstants.{PIECE}
use Rattle.text_io.proofs.input.read_all.Given as goal

abbrev pub invariant-reads : goal.invariant-reads
invariant-reads g l = record {
  read : Consumes (g.S.Source.left l.fn.source) (g.S.Source.left l.source) l.bytes.items;
  quiet : EndsAtFault ⊥ (g.S.Source.calls l.fn.source) (g.S.Source.calls l.source);
  calls : (g.S.Source.calls l.source).made ≤ (g.S.Source.calls l.fn.source).made + vec_len l.bytes;
  bound : vec_len l.bytes ≤ INPUT_LIMIT + 1;
  piece : vec_len l.piece ≡ PIECE;
}

abbrev pub decreases-reads : goal.decreases-reads
decreases-reads g l = INPUT_LIMIT + 1 - vec_len l.bytes
