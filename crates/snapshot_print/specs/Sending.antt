-- Internal to the proofs: what is sent to a serializer for a member of an object.
use Rattle.std.specs.Prelude.{List, ℕ}
use Rattle.serde.specs.Event.{Log, Logs, field_key}
use Rattle.serde.specs.declared.name.Case.TheVariants.{AsIs}
use Rattle.serde_json.specs.Data.{Data}
use Rattle.serde_json.specs.Events.{SendsValue}

-- its name, and then its value
pub record SendsMember (name : List ℕ) (value : Data) (old new : Log) : Type 0 where
  pub named : Log
  pub key : Logs old named (field_key name AsIs)
  pub sent : SendsValue value named new
