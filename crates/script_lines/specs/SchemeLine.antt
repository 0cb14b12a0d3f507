-- The line of a scheme by its keys: which of them it has, in one order.
use Rattle.std.specs.Prelude.{◌≡◌, ℕ, ◌-◌, ◌^◌, ◌<◌, List, [], ◌∷◌, ◌++◌, map, codes, Option, Some, None, Ok}
use Rattle.std.specs.Fmt.{decimal}
use Rattle.std.specs.Option.{option_map_or, unwrap_or}
use Rattle.damon_types.specs.Actions.{action_name}
use Rattle.damon_types.specs.declared.scheme.Prefer.{Prefer}
use Rattle.damon_types.specs.declared.scheme.Prefer.TheVariants.{Hot}
use Rattle.damon_types.specs.declared.scheme.Quota.{Quota}
use Rattle.damon_types.specs.declared.scheme.Scheme.{Scheme}
use Rattle.damon_types.specs.declared.scheme.Span.{Span}
use Rattle.damon_types.specs.declared.scheme.Version.{Version}
use Rattle.damon_types.specs.declared.scheme.Weights.{Weights}
use Rattle.damon_types.specs.Scheme.{checked_time}
use Rattle.script_lines.specs.Fits.{FitsScheme}
use Rattle.script_lines.specs.Laws.{IsScheme}
use Rattle.script_lines.specs.Spelling.{listed, spaced, spelled_filter, spelled_marks, spelled_prefer, spelled_span, spelled_weights}

-- a name with a value after it, where there is a value
abbrev pub named : {T : Type 0} → List ℕ → (T → List ℕ) → Option T → List (List ℕ)
named name spelled value = option_map_or (λ x. (name ++ spelled x) ∷ []) value []

-- `quota=BYTES,RESET`, and `time=NANOSECONDS` where the quota has a time
abbrev pub quota_words : Option Quota → List (List ℕ)
quota_words None = []
quota_words (Some q) = (codes "quota=" ++ listed (decimal q.bytes ∷ decimal q.reset ∷ [])) ∷ named (codes "time=") decimal q.time

-- each number: the span of a key that is left out
abbrev pub any_span : Span
any_span = record { low = 0; high = 2 ^ 32 - 1 }

-- A line gives a slot a scheme. Its keys stand in this order; those of the pattern, the weights and the preference may be left out where
-- they have their default.
pub record SaysScheme (line : List ℕ) (slot : ℕ) (s : Scheme) : Type 0 where
  pub size : Option Span
  pub count : Option Span
  pub age : Option Span
  pub weights : Option Weights
  pub prefer : Option Prefer
  pub spelled :
      line
      ≡ spaced
      (codes "scheme" ∷ decimal slot ∷ action_name s.action
      ∷ (named (codes "size=") spelled_span size
      ++ (named (codes "count=") spelled_span count
      ++ (named (codes "age=") spelled_span age
      ++ (quota_words s.quota
      ++ (named (codes "weights=") spelled_weights weights
      ++ (named (codes "prefer=") spelled_prefer prefer
      ++ (named (codes "marks=") spelled_marks s.marks ++ map (λ f. codes "filter=" ++ spelled_filter f) s.filters))))))))
  pub pattern_is : record { size = unwrap_or size any_span; count = unwrap_or count any_span; age = unwrap_or age any_span } ≡ s.pattern
  pub weights_are : unwrap_or weights (record { size = 1; count = 1; age = 1 }) ≡ s.weights
  pub prefer_is : unwrap_or prefer Hot ≡ s.prefer

-- A line whose settings make a scheme says it by its keys. A line that says a scheme by its keys has settings that make it, where the
-- numbers are within their fields and version One has no time.
pub record SchemesAreSaid : Type 0 where
  pub said : (version : Version) (line : List ℕ) (slot : ℕ) (s : Scheme) → IsScheme version line slot s → SaysScheme line slot s
  pub set :
      (version : Version) (line : List ℕ) (slot : ℕ) (s : Scheme) → SaysScheme line slot s → slot < 2 ^ 8 → FitsScheme s
      → checked_time version s.quota ≡ Ok tt → IsScheme version line slot s
