-- A text is read as the head of a journal exactly where it is the one spelling of a seed and a setup.
use Rattle.std.proofs.Common.{◌≡◌, ◌∷◌, [], ℕ, ◌+◌, ◌-◌, ◌*◌, ◌/◌, List, ◌++◌, map, codes, None, Ok, refl, sym, ap, ◌∙◌, append_assoc, arith}
use Rattle.std.specs.List.{AllByRecursion}
use Rattle.damon_types.specs.declared.range.Range.{Range}
use Rattle.damon_types.specs.declared.range.RangeSpec.{RangeSpec}
use Rattle.damon_types.specs.declared.space.Place.{Place as PagePlace}
use Rattle.damon_types.specs.declared.space.Target.{Target}
use Rattle.damon_types.specs.Space.{IsTarget, offset, place_of}
use Rattle.live_commit.specs.Setup.{SetupValue}
use Rattle.target_ranges.specs.Made.{IsPlaced, range_of, ranges_of}
use Rattle.target_ranges.proofs.Lemmas.{IsGood, base_of_there, good_from}
use Rattle.damon_control.specs.declared.grammar.Grammar.TheVariants.{OfJournal}
use Rattle.damon_control.specs.JournalHead.{head_lines}
use Rattle.damon_control.specs.Script.{AtEnd, HeadValue, Place, head_of, header_of}
use Rattle.damon_control.specs.Text.{SaySetup}
use Rattle.damon_control.specs.WriteBack.{IsWritable}
use Rattle.damon_control.specs.Written.{number_lines, spec_of, written_setup}
use Rattle.script_lines.specs.Lines.{lines_text}
use Rattle.script_lines.specs.Spelling.{spelled_range, spelled_target}
use Rattle.script_lines.specs.WrittenLine.{change_text}
use Rattle.damon_control.proofs.Leading.{Opens, led_read, setup_leads}
use Rattle.damon_control.proofs.OneSpelling.{each_is_written}
use Rattle.damon_control.proofs.ReadWritten.{written-SaySetup}
use Rattle.damon_control.proofs.Says.{head_of-SaysHead}
use Rattle.damon_control.proofs.SpaceLimits.{each_accepted, target_there}
use Rattle.damon_types.proofs.Lemmas.{place_from_held}
use Rattle.damon_control.proofs.SetupChecks.{space_checked}

-- ---- a text that is read is the written one

-- a range that was made of addresses is written as these addresses
spec_back : (ts : List Target) (s : RangeSpec) → AllByRecursion IsTarget ts → IsPlaced ts s → spec_of ts (range_of ts s) ≡ s
spec_back ts s each placed =
    let t = placed.place in
    let target = target_there ts s.target t each placed.there in
    let base = base_of_there ts s.target t placed.there in
    let first = (range_of ts s).first in
    let place = place_from_held 0 s.target ts s.target first t (omega arith) placed.there (omega arith) (omega (arith, base, placed.low, placed.high, placed.some, placed.begins, placed.ends, target.aligned)) in
    let addr : t.base + 4096 * (first - offset ts s.target) ≡ s.from = omega (arith, base, placed.low, placed.begins, target.aligned) in
    let from : (place_of ts first).addr ≡ s.from = ap (λ (p : PagePlace). p.addr) place ∙ addr in
    let to : (place_of ts first).addr + 4096 * ((s.to - s.from) / 4096) ≡ s.to = omega (arith, from, placed.begins, placed.ends, placed.some) in
    λ i. record { target = s.target; from = from i; to = to i; class = s.class }

ranges_back : (ts : List Target) (unit : ℕ) (specs : List RangeSpec) → AllByRecursion IsTarget ts → AllByRecursion (IsGood ts unit) specs → map (λ g. spelled_range (spec_of ts g)) (ranges_of ts specs) ≡ map spelled_range specs
ranges_back ts unit [] each accepted = refl
ranges_back ts unit (s ∷ specs) each accepted =
    λ i. spelled_range (spec_back ts s each accepted.0.placed i) ∷ ranges_back ts unit specs each accepted.1 i

regroup : (a b c d : List (List ℕ)) → (a ++ (b ++ c)) ++ d ≡ a ++ (b ++ (c ++ d))
regroup a b c d = simp append_assoc

-- lines that say a setup, its schemes in their one spelling, are those that are written of it
setup_written : (lines : List (List ℕ)) (seed : ℕ) (s : SetupValue) (says : SaySetup lines seed s) → says.schemes ≡ map change_text s.slots → lines ≡ written_setup seed s
setup_written lines seed s says schemes =
    let each = good_from s.space s.unit s.cap 0 None says.specs says.ranges in
    let ranges : map spelled_range says.specs ≡ map (λ g. spelled_range (spec_of s.space g)) s.ranges =
    sym (ranges_back s.space s.unit says.specs (each_accepted s.space (space_checked s.space says.space)) each) ∙ ap (map (λ (g : Range). spelled_range (spec_of s.space g))) says.watched
    in
    let numbers = number_lines seed s.unit s.cap s.attrs in
    says.spelled
    ∙ regroup numbers (map spelled_target s.space) (map spelled_range says.specs) says.schemes
    ∙ (λ i. numbers ++ (map spelled_target s.space ++ (ranges i ++ schemes i)))

-- a head that is read is the one spelling of what it says
pub heads_read_only : (text : List ℕ) (h : HeadValue) → head_of text ≡ Ok h → text ≡ lines_text (head_lines h.seed h.setup)
heads_read_only text h e =
    let says = head_of-SaysHead text h e in
    let written = setup_written says.setup h.seed h.setup says.says_setup (each_is_written says.says_setup.schemes h.setup.slots says.in_spelling) in
    says.spelled ∙ ap (λ ls. lines_text (header_of OfJournal h.setup.version ∷ (ls ++ codes "begin" ∷ []))) written

-- ---- and a written one is read

-- the end of a head of this seed and setup
abbrev ended : ℕ → SetupValue → Place OfJournal
ended seed setup = AtEnd (record { seed = seed; setup = setup })

-- `begin` ends the head of a journal
begin_ends : (seed : ℕ) (setup : SetupValue) → Opens OfJournal seed setup (codes "begin") (ended seed setup)
begin_ends seed setup = record {
  no_range = refl;
  no_scheme = refl;
  opens = λ specs watched. ap (λ (gs : List Range). Ok (ended seed (record setup { ranges = gs }))) watched;
}

-- a head that is written is read as what it says
pub heads_read_back : (seed : ℕ) (setup : SetupValue) → IsWritable seed setup → head_of (lines_text (head_lines seed setup)) ≡ Ok (record { seed = seed; setup = setup })
heads_read_back seed s is =
    let says = written-SaySetup OfJournal seed s is in
    led_read OfJournal (head_lines seed s) (record { seed = seed; setup = s })
    (setup_leads OfJournal seed s (written_setup seed s) (codes "begin") (ended seed s) [] says.0 says.1 (begin_ends seed s))
