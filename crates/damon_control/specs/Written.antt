-- The one spelling of a setup and of a commit: the lines that are written of them.
use Rattle.std.specs.Prelude.{ℕ, ◌+◌, ◌*◌, List, [], ◌∷◌, ◌++◌, map, Option, Some, None, codes}
use Rattle.std.specs.Fmt.{decimal}
use Rattle.damon_types.specs.declared.attrs.Attrs.{Attrs}
use Rattle.damon_types.specs.declared.range.Range.{Range}
use Rattle.damon_types.specs.declared.range.RangeSpec.{RangeSpec}
use Rattle.damon_types.specs.declared.space.TheConstants.{PAGE_SIZE}
use Rattle.damon_types.specs.declared.space.Target.{Target}
use Rattle.damon_types.specs.Space.{place_of}
use Rattle.live_commit.specs.Commit.{CommitValue}
use Rattle.live_commit.specs.Setup.{SetupValue}
use Rattle.script_lines.specs.declared.part.Part.{Part}
use Rattle.script_lines.specs.declared.part.Part.TheVariants.{Attrs as AttrsPart, Range as RangePart, Slot, Metric, Cost}
use Rattle.script_lines.specs.Spelling.{spelled_attrs, spelled_cost, spelled_range, spelled_target}
use Rattle.script_lines.specs.Lines.{lines_text}
use Rattle.script_lines.specs.WrittenLine.{change_text}

-- the lines of the numbers of a setup
abbrev pub number_lines : ℕ → ℕ → ℕ → Attrs → List (List ℕ)
number_lines seed unit cap attrs =
    (codes "seed " ++ decimal seed) ∷ (codes "unit " ++ decimal unit) ∷ (codes "cap " ++ decimal cap) ∷ spelled_attrs attrs ∷ []

-- the addresses of a range: that of its first page, and that after its last
abbrev pub spec_of : List Target → Range → RangeSpec
spec_of space g = record { target = g.target; from = from; to = from + PAGE_SIZE * g.pages; class = g.class }
  where
    from : ℕ
    from = (place_of space g.first).addr

-- the lines of a seed and a setup, from `seed` to the last `scheme`
abbrev pub written_setup : ℕ → SetupValue → List (List ℕ)
written_setup seed s =
    number_lines seed s.unit s.cap s.attrs
    ++ (map spelled_target s.space
    ++ (map (λ g. spelled_range (spec_of s.space g)) s.ranges ++ map change_text s.slots))

-- the text of a seed and a setup
abbrev pub setup_text : ℕ → SetupValue → List ℕ
setup_text seed s = lines_text (written_setup seed s)

-- an optional part of a commit
abbrev pub part_given : {A : Type 0} → (A → Part) → Option A → List Part
part_given part None = []
part_given part (Some x) = part x ∷ []

-- the ranges of a commit, if it has some
abbrev pub ranges_given : Option (List RangeSpec) → List Part
ranges_given None = []
ranges_given (Some ranges) = map (λ r. RangePart r) ranges

-- the parts of a commit, in the order of their lines
abbrev pub parts_of : CommitValue → List Part
parts_of c =
    part_given (λ a. AttrsPart a) c.attrs
    ++ (ranges_given c.ranges ++ (part_given (λ s. Slot s) c.slot ++ (part_given (λ m. Metric m) c.metric ++ part_given (λ p. Cost p) c.cost)))

-- the line of a part
abbrev pub part_text : Part → List ℕ
part_text (AttrsPart attrs) = spelled_attrs attrs
part_text (RangePart range) = spelled_range range
part_text (Slot change) = change_text change
part_text (Metric value) = codes "metric " ++ decimal value
part_text (Cost cost) = spelled_cost cost

-- the lines of a commit between `commit` and `apply`
abbrev pub written_commit : CommitValue → List (List ℕ)
written_commit c = map part_text (parts_of c)

-- the text of a commit between these two lines
abbrev pub commit_text : CommitValue → List ℕ
commit_text c = lines_text (written_commit c)
