-- The words of a line after its first, and the values of settings, by names of their own.
use Rattle.std.specs.Prelude.{ℕ, List, [], ◌∷◌, codes, map}
use Rattle.std.specs.Fmt.{decimal}
use Rattle.damon_types.specs.declared.attrs.Attrs.{Attrs}
use Rattle.damon_types.specs.declared.range.RangeSpec.{RangeSpec}
use Rattle.damon_types.specs.declared.scheme.Action.{Action}
use Rattle.damon_types.specs.declared.scheme.CostPart.{CostPart}
use Rattle.damon_types.specs.declared.scheme.Quota.{Quota}
use Rattle.damon_types.specs.declared.space.Target.{Target}
use Rattle.line_text.specs.Address.{spelled_address}
use Rattle.script_lines.specs.declared.keys.Setting.{Setting}
use Rattle.damon_types.specs.Actions.{action_name}
use Rattle.script_lines.specs.Spelling.{listed, spaced, spelled_setting}

-- `MIN MAX AGGR`
abbrev pub attrs_words : Attrs → List (List ℕ)
attrs_words a = decimal a.min ∷ decimal a.max ∷ decimal a.aggr ∷ []

-- `BASE PAGES`
abbrev pub target_words : Target → List (List ℕ)
target_words t = spelled_address t.base ∷ decimal t.pages ∷ []

-- `TARGET FROM TO CLASS`
abbrev pub range_words : RangeSpec → List (List ℕ)
range_words r = decimal r.target ∷ spelled_address r.from ∷ spelled_address r.to ∷ decimal r.class ∷ []

-- `SLOT NANOSECONDS`
abbrev pub cost_words : CostPart → List (List ℕ)
cost_words cost = decimal cost.slot ∷ decimal cost.nanos ∷ []

-- `SLOT ACTION KEYS`
abbrev pub scheme_words : ℕ → Action → List Setting → List (List ℕ)
scheme_words slot action settings = decimal slot ∷ action_name action ∷ map spelled_setting settings

-- `touch TARGET ADDRESS`
abbrev pub spelled_touch : ℕ → ℕ → List ℕ
spelled_touch target addr = spaced (codes "touch" ∷ decimal target ∷ spelled_address addr ∷ [])

-- `sweep TARGET FROM TO`
abbrev pub spelled_sweep : ℕ → ℕ → ℕ → List ℕ
spelled_sweep target from to = spaced (codes "sweep" ∷ decimal target ∷ spelled_address from ∷ spelled_address to ∷ [])

-- `BYTES,RESET`, without the time
abbrev pub spelled_quota : Quota → List ℕ
spelled_quota q = listed (decimal q.bytes ∷ decimal q.reset ∷ [])
