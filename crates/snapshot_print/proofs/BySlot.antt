-- Once slots were served, the runs that come next for a choice are all runs of its slot.
use Rattle.std.proofs.Common.{◌≡◌, ℕ, suc, ◌+◌, ◌≤◌, Bool, true, false, cond, List, [], ◌∷◌, ◌++◌, take, drop, length, refl, ap, sym, ◌∙◌, arith, Some, None}
use Rattle.std.specs.Prelude.{◌==◌, map, Option}
use Rattle.std.specs.List.{AllByRecursion, filter}
use Rattle.std.proofs.Math.Seq.{take-append_seam}
use Rattle.std.proofs.lemmas.Bool.Decides.{nat_tests}
use Rattle.damon_types.specs.declared.space.Target.{Target}
use Rattle.damon_types.specs.Span.{Span, spans}
use Rattle.region_list.specs.Regions.{RegionList}
use Rattle.priority.specs.declared.candidates.Candidate.{Candidate}
use Rattle.scheme_filter.specs.declared.runs.Run.{Run}
use Rattle.scheme_filter.specs.Passes.{passes}
use Rattle.scheme_engine.specs.declared.applied.AppliedRun.{AppliedRun}
use Rattle.scheme_engine.specs.declared.applied.SlotChoice.{SlotChoice}
use Rattle.scheme_engine.specs.Outcome.{chosen_of}
use Rattle.scheme_engine.specs.Served.{left_in, no_choice, scheme_served, slot_served, slots_served}
use Rattle.scheme_engine.specs.Slots.{SetScheme, SlotValue, turned_slot}
use Rattle.scheme_engine.specs.Taken.{applied_run, applied_runs, candidate_runs, span_at, taken_runs}
use Rattle.snapshot_print.specs.Schemes.{choice_lines, choices_by_slot, choices_text, runs_of_slot}

abbrev RunsOf : ℕ → List AppliedRun → Type 0
RunsOf slot runs = AllByRecursion (λ r. r.slot ≡ slot) runs

abbrev RunsFrom : ℕ → List AppliedRun → Type 0
RunsFrom slot runs = AllByRecursion (λ r. slot ≤ r.slot) runs

abbrev ChoicesFrom : ℕ → List SlotChoice → Type 0
ChoicesFrom slot cs = AllByRecursion (λ c. slot ≤ c.slot) cs

-- runs and choices of slots from this one on, where those that come next are all of a slot
pub record AreBySlot (slot : ℕ) (runs : List AppliedRun) (cs : List SlotChoice) : Type 0 where
  pub runs_from : RunsFrom slot runs
  pub choices_from : ChoicesFrom slot cs
  pub text : (space : List Target) (shown : List SlotValue) → choices_text space shown runs cs ≡ choices_by_slot space shown runs cs

same_number : (m n : ℕ) → m ≡ n → (m == n) ≡ true
same_number m n same = grind (arith, nat_tests)

other_number : (m n : ℕ) → n + 1 ≤ m → (m == n) ≡ false
other_number m n above = grind (arith, nat_tests)

lower_number : (m n : ℕ) → m + 1 ≤ n → (m == n) ≡ false
lower_number m n below = grind (arith, nat_tests)

none_next : (slot : ℕ) (runs : List AppliedRun) → RunsFrom (slot + 1) runs → runs_of_slot slot runs ≡ 0
none_next slot [] from = refl
none_next slot (r ∷ rs) from = ap (λ b. cond b (1 + runs_of_slot slot rs) 0) (other_number r.slot slot from.0)

-- the runs that come next are those of the slot
next_runs : (slot : ℕ) (own runs : List AppliedRun) → RunsOf slot own → RunsFrom (slot + 1) runs → runs_of_slot slot (own ++ runs) ≡ length own
next_runs slot [] runs of from = none_next slot runs from
next_runs slot (r ∷ rs) runs of from =
    let more : 1 + runs_of_slot slot (rs ++ runs) ≡ suc (length rs) = omega (arith, next_runs slot rs runs of.1 from) in
    ap (λ b. cond b (1 + runs_of_slot slot (rs ++ runs)) 0) (same_number r.slot slot of.0) ∙ more

drop_own : (own runs : List AppliedRun) → drop (length own) (own ++ runs) ≡ runs
drop_own [] runs = refl
drop_own (r ∷ rs) runs = drop_own rs runs

none_kept : (slot : ℕ) (runs : List AppliedRun) → RunsFrom (slot + 1) runs → filter (λ r. r.slot == slot) runs ≡ []
none_kept slot [] from = refl
none_kept slot (r ∷ rs) from =
    ap (λ b. cond b (r ∷ filter (λ q. q.slot == slot) rs) (filter (λ q. q.slot == slot) rs)) (other_number r.slot slot from.0)
    ∙ none_kept slot rs from.1

own_kept : (slot : ℕ) (own runs : List AppliedRun) → RunsOf slot own → RunsFrom (slot + 1) runs → filter (λ r. r.slot == slot) (own ++ runs) ≡ own
own_kept slot [] runs of from = none_kept slot runs from
own_kept slot (r ∷ rs) runs of from =
    ap (λ b. cond b (r ∷ filter (λ q. q.slot == slot) (rs ++ runs)) (filter (λ q. q.slot == slot) (rs ++ runs))) (same_number r.slot slot of.0)
    ∙ ap (λ l. r ∷ l) (own_kept slot rs runs of.1 from)

-- the runs of an earlier slot are not those of a later one
earlier_left : (slot later : ℕ) (own runs : List AppliedRun) → RunsOf slot own → slot + 1 ≤ later → filter (λ r. r.slot == later) (own ++ runs) ≡ filter (λ r. r.slot == later) runs
earlier_left slot later [] runs of after = refl
earlier_left slot later (r ∷ rs) runs of after =
    ap (λ b. cond b (r ∷ filter (λ q. q.slot == later) (rs ++ runs)) (filter (λ q. q.slot == later) (rs ++ runs))) (lower_number r.slot later (omega (arith, of.0, after)))
    ∙ earlier_left slot later rs runs of.1 after

later_choices : (slot : ℕ) (own runs : List AppliedRun) (cs : List SlotChoice) (space : List Target) (shown : List SlotValue) → RunsOf slot own → ChoicesFrom (slot + 1) cs → choices_by_slot space shown (own ++ runs) cs ≡ choices_by_slot space shown runs cs
later_choices slot own runs [] space shown of from = refl
later_choices slot own runs (c ∷ cs) space shown of from =
    ap (λ rs. choice_lines space shown rs c ++ choices_by_slot space shown (own ++ runs) cs) (earlier_left slot c.slot own runs of from.0)
    ∙ ap (λ t. choice_lines space shown (filter (λ r. r.slot == c.slot) runs) c ++ t) (later_choices slot own runs cs space shown of from.1)

runs_lower : (slot : ℕ) (runs : List AppliedRun) → RunsFrom (slot + 1) runs → RunsFrom slot runs
runs_lower slot [] from = tt
runs_lower slot (r ∷ rs) from = (omega (arith, from.0), runs_lower slot rs from.1)

choices_lower : (slot : ℕ) (cs : List SlotChoice) → ChoicesFrom (slot + 1) cs → ChoicesFrom slot cs
choices_lower slot [] from = tt
choices_lower slot (c ∷ cs) from = (omega (arith, from.0), choices_lower slot cs from.1)

own_first : (slot : ℕ) (own runs : List AppliedRun) → RunsOf slot own → RunsFrom (slot + 1) runs → RunsFrom slot (own ++ runs)
own_first slot [] runs of from = runs_lower slot runs from
own_first slot (r ∷ rs) runs of from = (omega (arith, of.0), own_first slot rs runs of.1 from)

pub no_slot : (slot : ℕ) (runs : List AppliedRun) (cs : List SlotChoice) → AreBySlot (slot + 1) runs cs → AreBySlot slot runs cs
no_slot slot runs cs later = record {
  runs_from = runs_lower slot runs later.runs_from;
  choices_from = choices_lower slot cs later.choices_from;
  text = later.text;
}

-- the choice of a slot with its runs comes before those of later slots
pub one_choice : (c : SlotChoice) (own runs : List AppliedRun) (cs : List SlotChoice) → RunsOf c.slot own → AreBySlot (c.slot + 1) runs cs → AreBySlot c.slot (own ++ runs) (c ∷ cs)
one_choice c own runs cs of later = record {
  runs_from = own_first c.slot own runs of later.runs_from;
  choices_from = (omega arith, choices_lower c.slot cs later.choices_from);
  text = λ space shown.
      ap (λ n. choice_lines space shown (take n (own ++ runs)) c ++ choices_text space shown (drop n (own ++ runs)) cs) (next_runs c.slot own runs of later.runs_from)
      ∙ ap (λ rs. choice_lines space shown rs c ++ choices_text space shown (drop (length own) (own ++ runs)) cs) (take-append_seam own runs)
      ∙ ap (λ rs. choice_lines space shown own c ++ choices_text space shown rs cs) (drop_own own runs)
      ∙ ap (λ t. choice_lines space shown own c ++ t) (later.text space shown)
      ∙ ap (λ t. choice_lines space shown own c ++ t) (sym (later_choices c.slot own runs cs space shown of later.choices_from))
      ∙ ap (λ rs. choice_lines space shown rs c ++ choices_by_slot space shown (own ++ runs) cs) (sym (own_kept c.slot own runs of later.runs_from));
}

all_append : (slot : ℕ) (xs ys : List AppliedRun) → RunsOf slot xs → RunsOf slot ys → RunsOf slot (xs ++ ys)
all_append slot [] ys first rest = rest
all_append slot (x ∷ xs) ys first rest = (first.0, all_append slot xs ys first.1 rest)

runs_of_one : (slot : ℕ) (c : Candidate) (rs : List Run) → RunsOf slot (map (applied_run slot c) rs)
runs_of_one slot c [] = tt
runs_of_one slot c (r ∷ rs) = (refl, runs_of_one slot c rs)

pub runs_of_all : (slot : ℕ) (passes : ℕ → Bool) (ss : List Span) (cs : List Candidate) → RunsOf slot (applied_runs slot passes ss cs)
runs_of_all slot passes ss [] = tt
runs_of_all slot passes ss (c ∷ cs) =
    all_append slot (candidate_runs slot passes ss c) (applied_runs slot passes ss cs) (runs_of_one slot c (taken_runs passes c.share (span_at ss c))) (runs_of_all slot passes ss cs)

-- what becomes of a set slot, active or not
set_slot : (slot aggr : ℕ) (space : List Target) (regions : RegionList) (s : SlotValue) (h : SetScheme) (active : Bool) (runs : List AppliedRun) (cs : List SlotChoice) → h.gauge.active ≡ active → AreBySlot (slot + 1) runs cs → AreBySlot slot ((scheme_served slot space aggr regions s (Some h)).runs ++ runs) ((scheme_served slot space aggr regions s (Some h)).choices ++ cs)
set_slot slot aggr space regions s h true runs cs is later =
    rw is (one_choice _ _ runs cs (runs_of_all slot (passes h.scheme.filters space regions.ranges) (spans regions.rows) (chosen_of space aggr h.scheme (left_in s) regions)) later)
set_slot slot aggr space regions s h false runs cs is later = rw is (one_choice (no_choice slot) [] runs cs tt later)

first_slot : (slot aggr : ℕ) (space : List Target) (regions : RegionList) (s : SlotValue) (set : Option SetScheme) (runs : List AppliedRun) (cs : List SlotChoice) → AreBySlot (slot + 1) runs cs → AreBySlot slot ((scheme_served slot space aggr regions s set).runs ++ runs) ((scheme_served slot space aggr regions s set).choices ++ cs)
first_slot slot aggr space regions s None runs cs later = no_slot slot runs cs later
first_slot slot aggr space regions s (Some h) runs cs later = set_slot slot aggr space regions s h h.gauge.active runs cs refl later

pub served_by_slot : (slot aggr tick : ℕ) (space : List Target) (regions : RegionList) (slots : List SlotValue) → AreBySlot slot (slots_served slot space aggr tick regions slots).runs (slots_served slot space aggr tick regions slots).choices
served_by_slot slot aggr tick space regions [] = record { runs_from = tt; choices_from = tt; text = λ space shown. refl }
served_by_slot slot aggr tick space regions (s ∷ ss) =
    let first = slot_served slot space aggr tick regions s in
    let others = slots_served (slot + 1) space aggr tick (record regions { rows = first.rows }) ss in
    first_slot slot aggr space regions (turned_slot tick s) s.set others.runs others.choices (served_by_slot (slot + 1) aggr tick space (record regions { rows = first.rows }) ss)
