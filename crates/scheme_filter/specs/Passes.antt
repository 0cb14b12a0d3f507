-- Which pages pass the filters of a scheme.
use Rattle.std.specs.Prelude.{ℕ, ◌-◌, Bool, ◌&&◌, ◌==◌, true, not, nat_eq, nat_lt, nat_le, List, length, slice_get, find, Option, Some, unwrap_or, option_map, if◌then◌else◌}
use Rattle.std.specs.Option.{option_eq}
use Rattle.damon_types.specs.declared.filter.Filter.{Filter}
use Rattle.damon_types.specs.declared.filter.FilterKind.{FilterKind}
use Rattle.damon_types.specs.declared.filter.FilterKind.TheVariants.{Addr, Target, Class}
use Rattle.damon_types.specs.declared.range.Range.{Range}
use Rattle.damon_types.specs.declared.space.Place.{Place}
use Rattle.damon_types.specs.declared.space.Target.{Target as target_of_space}
use Rattle.damon_types.specs.Ranges.{class_of}
use Rattle.damon_types.specs.Space.{place_of}

-- whether a page at this place, in a range of this class, is of the kind
abbrev pub is_of : FilterKind → Place → Option ℕ → Bool
is_of (Addr from to) place class = nat_le from place.addr && nat_lt place.addr to
is_of (Target target) place class = place.target == target
is_of (Class of) place class = option_eq nat_eq class (Some of)

-- whether the filter applies to the page: a matching one to the pages of its kind, another one to all other pages
abbrev pub applies : Filter → Place → Option ℕ → Bool
applies f place class = if f.matching then is_of f.kind place class else not (is_of f.kind place class)

-- Whether filters let a page pass: the first filter that applies to it answers. Where none applies, the answer is the opposite of the
-- last filter's; without filters every page passes.
abbrev pub answer : List Filter → Place → Option ℕ → Bool
answer fs place class =
    unwrap_or (option_map (λ f. f.allow) (find (λ f. applies f place class) fs))
    (unwrap_or (option_map (λ f. not f.allow) (slice_get fs (length fs - 1))) true)

-- whether a page of a space passes
abbrev pub passes : List Filter → List target_of_space → List Range → ℕ → Bool
passes fs space ranges page = answer fs (place_of space page) (class_of ranges page)
