-- A line of a commit: it is rejected, or says a part.
use Rattle.std.proofs.Common.{◌≡◌, ◌≤◌, ◌+◌, false, List, [], ◌∷◌, ℕ, length, codes, Some, None, Ok, Err, ap, subst, sym, ◌∙◌, arith}
use Rattle.std.proofs.lemmas.List.{length-append}
use Rattle.std.specs.Prelude.{IfSome, Option, Result, option_map}
use Rattle.damon_types.specs.declared.range.RangeSpec.{RangeSpec}
use Rattle.live_commit.specs.Commit.{CommitValue}
use Rattle.damon_control.specs.declared.fault.ScriptFault.{ScriptFault}
use Rattle.damon_control.specs.declared.grammar.Grammar.{Grammar}
use Rattle.damon_control.specs.declared.lines.Lines.{Lines}
use Rattle.script_lines.specs.declared.kind.ScriptKind.{ScriptKind}
use Rattle.script_lines.specs.declared.part.Part.{Part}
use Rattle.script_lines.specs.declared.part.Part.TheVariants.{Attrs, Range, Slot, Metric, Cost}
use Rattle.script_lines.specs.Body.{part_line, with_part, with_range}
use Rattle.script_lines.specs.Refusal.{◌>>=◌}
use Rattle.script_lines.specs.Words.{begins_with}
use Rattle.damon_control.specs.Left.{reads_left, reads_on}
use Rattle.damon_control.specs.Script.{InCommit, Within, at, version_in}
use Rattle.damon_control.proofs.Leading.{else_way}
use Rattle.damon_control.proofs.Leads.{at_ok}

-- a line that says no part is a fault of the text
pub part_rejected : (g : Grammar) (b : Within g) (commit : CommitValue) (line : List ℕ) (lines : Lines) (fault : ScriptFault) → begins_with (codes "apply") line ≡ false
    → at lines.taken (part_line (version_in g b) commit line) ≡ Err fault → reads_on g (InCommit b commit) line lines ≡ Err fault
part_rejected g b commit line lines fault other is =
    ap (λ r. at lines.taken r >>= λ next. reads_left g next lines) (else_way (begins_with (codes "apply") line) _ _ other)
    ∙ by (part_line (version_in g b) commit line) is
  where
    by : (said : Result Part ScriptKind) → at lines.taken said ≡ Err fault
        → (at lines.taken (said >>= λ part. Ok (InCommit b (with_part commit part))) >>= λ next. reads_left g next lines) ≡ Err fault
    by (Ok part) e = absurd cc
    by (Err kind) e = let same : record { line = lines.taken; kind = kind } ≡ fault = cc in ap (λ f. Err f) same

-- a line that says a part leads on to the commit with this part
pub part_taken : (g : Grammar) (b : Within g) (commit : CommitValue) (line : List ℕ) (lines : Lines) (part : Part) → begins_with (codes "apply") line ≡ false
    → at lines.taken (part_line (version_in g b) commit line) ≡ Ok part → reads_on g (InCommit b commit) line lines ≡ reads_left g (InCommit b (with_part commit part)) lines
part_taken g b commit line lines part other is =
    ap (λ r. at lines.taken r >>= λ next. reads_left g next lines) (else_way (begins_with (codes "apply") line) _ _ other)
    ∙ ap (λ r. at lines.taken (r >>= λ p. Ok (InCommit b (with_part commit p))) >>= λ next. reads_left g next lines) (at_ok lines.taken (part_line (version_in g b) commit line) part is)

-- a condition on ranges, in the view of them
to_view : {L : Type 0} (list : L → List RangeSpec) (n : ℕ) (ranges : Option L) → IfSome ranges (λ l. length (list l) ≤ n) → IfSome (option_map list ranges) (λ rs. length rs ≤ n)
to_view list n None few = tt
to_view list n (Some l) few = few

from_view : {L : Type 0} (list : L → List RangeSpec) (n : ℕ) (ranges : Option L) → IfSome (option_map list ranges) (λ rs. length rs ≤ n) → IfSome ranges (λ l. length (list l) ≤ n)
from_view list n None few = tt
from_view list n (Some l) few = few

few_later : (n : ℕ) (ranges : Option (List RangeSpec)) → IfSome ranges (λ rs. length rs ≤ n) → IfSome ranges (λ rs. length rs ≤ n + 1)
few_later n None few = tt
few_later n (Some rs) few = omega (arith, few)

few_with : (n : ℕ) (ranges : Option (List RangeSpec)) (r : RangeSpec) → IfSome ranges (λ rs. length rs ≤ n) → IfSome (with_range ranges r) (λ rs. length rs ≤ n + 1)
few_with n None r few = omega arith
few_with n (Some rs) r few = omega (arith, few, length-append rs (r ∷ []))

-- one part more is at most one range more
pub few_more : (n : ℕ) (c : CommitValue) (part : Part) → IfSome c.ranges (λ rs. length rs ≤ n) → IfSome (with_part c part).ranges (λ rs. length rs ≤ n + 1)
few_more n c (Attrs a) few = few_later n c.ranges few
few_more n c (Range r) few = few_with n c.ranges r few
few_more n c (Slot s) few = few_later n c.ranges few
few_more n c (Metric m) few = few_later n c.ranges few
few_more n c (Cost k) few = few_later n c.ranges few

-- so it is in the view of them
pub few_ranges : {L : Type 0} (list : L → List RangeSpec) (n : ℕ) (old new : Option L) (c : CommitValue) (part : Part) → option_map list old ≡ c.ranges → option_map list new ≡ (with_part c part).ranges
    → IfSome old (λ l. length (list l) ≤ n) → IfSome new (λ l. length (list l) ≤ n + 1)
few_ranges list n old new c part before after few =
    from_view list (n + 1) new
    (subst (λ (rs : Option (List RangeSpec)). IfSome rs (λ xs. length xs ≤ n + 1)) (sym after)
    (few_more n c part (subst (λ (rs : Option (List RangeSpec)). IfSome rs (λ xs. length xs ≤ n)) before (to_view list n old few))))
