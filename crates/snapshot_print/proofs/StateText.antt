-- The text of states is that of what is printed of them.
use Rattle.std.proofs.Common.{◌≡◌, ℕ, zero, suc, ◌+◌, ◌≤◌, ◌<◌, Bool, true, false, List, [], ◌∷◌, ◌++◌, inl, inr, refl, ap, sym, subst, ◌∙◌, append_assoc, arith, Some, None, codes, decimal, length}
use Rattle.std.specs.Prelude.{◌==◌, ◌⊎◌, map, Option, slice_index_or, if◌then◌else◌}
use Rattle.std.specs.List.{AllByRecursion, filter, flat_map, range_with_len}
use Rattle.std.specs.Option.{option_map, option_map_or}
use Rattle.std.proofs.lemmas.List.FromFn.{get_or-map-range_with_len}
use Rattle.damon_types.specs.Actions.{action_name}
use Rattle.damon_types.specs.declared.row.Row.{Row}
use Rattle.damon_types.specs.declared.scheme.Action.{Action}
use Rattle.damon_types.specs.declared.scheme.Scheme.{Scheme}
use Rattle.damon_types.specs.declared.space.Target.{Target}
use Rattle.damon_types.specs.Span.{spans}
use Rattle.region_list.specs.Regions.{RegionList}
use Rattle.quota_charge.specs.Quota.{left_of}
use Rattle.scheme_engine.specs.declared.applied.AppliedRun.{AppliedRun}
use Rattle.scheme_engine.specs.declared.applied.SlotChoice.{SlotChoice}
use Rattle.scheme_engine.specs.Outcome.{chosen_of, outcome_of}
use Rattle.scheme_engine.specs.Served.{choice_of, no_choice}
use Rattle.scheme_engine.specs.Slots.{empty_slot, slot_view}
use Rattle.scheme_filter.specs.Passes.{passes}
use Rattle.damon_core.specs.Aggregate.{aggregated, merged_regions, served}
use Rattle.damon_core.specs.Note.{Note}
use Rattle.damon_core.specs.Serve.{Serving, nothing_served, serve_scheme, serve_slot, serve_slots, with_turn}
use Rattle.damon_core.specs.Slots.{applied_of, charged_of, cost_of, exceeds_of, is_active_in, scheme_of, set_scheme_of, slot_count, slot_of, slots_of, start_of, tried_of}
use Rattle.damon_core.specs.State.{State, row_count}
use Rattle.snapshot_print.specs.Fields.{◌then◌, pages_part, phase_name, yes_or_no}
use Rattle.snapshot_print.specs.Lines.{aggregate_line, as_text, row_line, row_lines, show_line}
use Rattle.snapshot_print.specs.Printed.{printed_state}
use Rattle.snapshot_print.specs.Schemes.{apply_line, choice_lines, choices_by_slot, shown_slot, shown_slots, slot_line}
use Rattle.snapshot_print.specs.StateText.{IsTextOfStates, aggregate_text, choice_lines_of, choice_text, row_text, run_text, show_text, slot_text}
use Rattle.snapshot_print.proofs.BySlot.{AreBySlot, no_slot, one_choice, runs_of_all}

-- ---- parts that are written together

flat_map-same : {A B : Type 0} (f g : A → List B) → ((x : A) → f x ≡ g x) → (xs : List A) → flat_map f xs ≡ flat_map g xs
flat_map-same f g same [] = refl
flat_map-same f g same (x ∷ xs) = λ i. same x i ++ flat_map-same f g same xs i

three_more : (a b c d : List ℕ) → a ++ (b ++ (c ++ d)) ≡ (a ++ (b ++ c)) ++ d
three_more a b c d = simp append_assoc

five_more : (a b c d e f : List ℕ) → a ++ (b ++ (c ++ (d ++ (e ++ f)))) ≡ (a ++ (b ++ (c ++ (d ++ e)))) ++ f
five_more a b c d e f = simp append_assoc

six_more : (a b c d e f g : List ℕ) → a ++ (b ++ (c ++ (d ++ (e ++ (f ++ g))))) ≡ (a ++ (b ++ (c ++ (d ++ (e ++ f))))) ++ g
six_more a b c d e f g = simp append_assoc

line_more : (a b c d e f g t : List ℕ) → a ++ (b ++ (c ++ (d ++ (e ++ (f ++ (g ++ t)))))) ≡ (a ++ (b ++ (c ++ (d ++ (e ++ (f ++ g)))))) ++ t
line_more a b c d e f g t = simp append_assoc

row_is : (space : List Target) (r : Row) → row_text space r ≡ row_line space r
row_is space r = three_more (codes "row ") (decimal r.target) (pages_part space r.start r.pages) _

rows_are : (space : List Target) (rows : List Row) → flat_map (row_text space) rows ≡ row_lines space rows
rows_are space rows = flat_map-same (row_text space) (row_line space) (row_is space) rows

-- ---- the slots of a show

slot_is : (notes : List Note) (slot : ℕ) → slot_text notes slot ≡ shown_slot slot (slot_of notes slot)
slot_is notes slot = by (scheme_of notes slot)
  where
    by : (held : Option Scheme)
        → option_map_or
        (λ (scheme : Scheme).
        codes "scheme " then decimal slot then codes " " then action_name scheme.action
        then codes " active=" then yes_or_no (is_active_in notes slot scheme)
        then codes " charged=" then decimal (charged_of notes slot) then codes " start=" then decimal (start_of notes slot)
        then codes " tried=" then decimal (tried_of notes slot) then codes " applied=" then decimal (applied_of notes slot)
        then codes " exceeds=" then decimal (exceeds_of notes slot) then codes "\n")
        held []
        ≡ shown_slot slot (record (slot_of notes slot) { set = option_map (λ scheme. set_scheme_of notes slot scheme) held })
    by None = refl
    by (Some scheme) = six_more (codes "scheme ") (decimal slot) (codes " ") (action_name scheme.action) (codes " active=") (yes_or_no (is_active_in notes slot scheme)) _

slots_are : (notes : List Note) (first n : ℕ) → flat_map (slot_text notes) (range_with_len first n) ≡ shown_slots first (map (slot_of notes) (range_with_len first n))
slots_are notes first zero = refl
slots_are notes first (suc n) = λ i. slot_is notes first i ++ slots_are notes (first + 1) n i

-- a show
show_is : (s : State) → show_text s ≡ as_text.show (printed_state s)
show_is s =
    line_more (codes "show tick=") (decimal s.core.ticks) (codes " phase=") (phase_name s.core.phase) (codes " rows=") (decimal (row_count s.core)) (codes "\n")
    (flat_map (row_text s.core.space) s.core.regions.rows ++ flat_map (slot_text s.notes) (range_with_len 0 slot_count))
    ∙ (λ i. show_line s.core ++ (rows_are s.core.space s.core.regions.rows i ++ slots_are s.notes 0 slot_count i))

-- ---- the choices of an aggregation

run_is : (space : List Target) (slot : ℕ) (action : Action) (r : AppliedRun) → run_text space slot action r ≡ apply_line space slot action r
run_is space slot action r = five_more (codes "apply ") (decimal slot) (codes " ") (action_name action) (codes " ") _

-- a slot by the notes
slot_at : (notes : List Note) (slot : ℕ) → slot < slot_count → slice_index_or (slots_of notes) slot empty_slot ≡ slot_of notes slot
slot_at notes slot below = get_or-map-range_with_len (slot_of notes) 0 slot_count slot slot empty_slot below (omega arith)

choice_is : (space : List Target) (notes : List Note) (runs : List AppliedRun) (c : SlotChoice) → c.slot < slot_count
    → choice_lines_of space notes runs c ≡ choice_lines space (slots_of notes) (filter (λ r. r.slot == c.slot) runs) c
choice_is space notes runs c below =
    by (scheme_of notes c.slot)
    ∙ ap (λ s. option_map_or (λ action. flat_map (apply_line space c.slot action) own ++ slot_line c) (option_map (λ v. v.action) (slot_view s)) []) (sym (slot_at notes c.slot below))
  where
    own : List AppliedRun
    own = filter (λ r. r.slot == c.slot) runs

    by : (held : Option Scheme)
        → option_map_or (λ (scheme : Scheme). flat_map (run_text space c.slot scheme.action) own ++ choice_text c) held []
        ≡ option_map_or (λ action. flat_map (apply_line space c.slot action) own ++ slot_line c)
        (option_map (λ v. v.action) (slot_view (record (slot_of notes c.slot) { set = option_map (λ scheme. set_scheme_of notes c.slot scheme) held }))) []
    by None = refl
    by (Some scheme) = ap (λ t. t ++ slot_line c) (flat_map-same (run_text space c.slot scheme.action) (apply_line space c.slot scheme.action) (run_is space c.slot scheme.action) own)

choices_are : (space : List Target) (notes : List Note) (runs : List AppliedRun) (cs : List SlotChoice) → AllByRecursion (λ c. c.slot < slot_count) cs
    → flat_map (choice_lines_of space notes runs) cs ≡ choices_by_slot space (slots_of notes) runs cs
choices_are space notes runs [] below = refl
choices_are space notes runs (c ∷ cs) below = λ i. choice_is space notes runs c below.0 i ++ choices_are space notes runs cs below.1 i

-- ---- choices and runs are by slot

-- what comes of serving a slot: nothing, or one choice with its runs
abbrev IsOfSlot : ℕ → Serving → Type 0
IsOfSlot slot o =
    ((o.runs ≡ []) × (o.choices ≡ []))
    ⊎ ((c : SlotChoice) × (o.choices ≡ c ∷ []) × (c.slot ≡ slot) × AllByRecursion (λ r. r.slot ≡ slot) o.runs)

either : {A : Type 0} (P : A → Type 0) (test : Bool) (x y : A) → P x → P y → P (if test then x else y)
either P true x y first second = first
either P false x y first second = second

slot_served : (slot aggr tick : ℕ) (space : List Target) (regions : RegionList) (notes : List Note) → IsOfSlot slot (serve_slot slot space aggr tick regions notes)
slot_served slot aggr tick space regions notes = by (scheme_of notes slot)
  where
    by : (held : Option Scheme) → IsOfSlot slot (option_map_or (serve_scheme slot space aggr tick regions notes) held (nothing_served regions notes))
    by None = inl (refl, refl)
    by (Some scheme) =
        let now = with_turn slot tick scheme.quota notes in
        let left = left_of scheme.quota (cost_of now slot) (charged_of now slot) in
        either (IsOfSlot slot) (is_active_in now slot scheme) _ _
        (inr (choice_of slot left (outcome_of slot space aggr scheme left regions), refl, refl, runs_of_all slot (passes scheme.filters space regions.ranges) (spans regions.rows) (chosen_of space aggr scheme left regions)))
        (inr (no_choice slot, refl, refl, tt))

-- runs and choices of slots from this one on, before the last
record AreServed (slot last : ℕ) (runs : List AppliedRun) (cs : List SlotChoice) : Type 0 where
  by_slot : AreBySlot slot runs cs
  below : AllByRecursion (λ c. c.slot < last) cs

-- those of a slot before those of later ones
one_more : (slot last : ℕ) (o : Serving) (runs : List AppliedRun) (cs : List SlotChoice) → slot < last → IsOfSlot slot o → AreServed (slot + 1) last runs cs → AreServed slot last (o.runs ++ runs) (o.choices ++ cs)
one_more slot last o runs cs before (inl (no_runs, no_choices)) later =
    subst (λ (rs : List AppliedRun). AreServed slot last (rs ++ runs) (o.choices ++ cs)) (sym no_runs)
    (subst (λ (own : List SlotChoice). AreServed slot last runs (own ++ cs)) (sym no_choices)
    (record { by_slot = no_slot slot runs cs later.by_slot; below = later.below }))
one_more slot last o runs cs before (inr (c, choices, same, of)) later =
    let own : AllByRecursion (λ (r : AppliedRun). r.slot ≡ c.slot) o.runs = subst (λ (n : ℕ). AllByRecursion (λ (r : AppliedRun). r.slot ≡ n) o.runs) (sym same) of in
    let after : AreBySlot (c.slot + 1) runs cs = subst (λ (n : ℕ). AreBySlot (n + 1) runs cs) (sym same) later.by_slot in
    let here : AreServed slot last (o.runs ++ runs) (c ∷ cs) = record {
      by_slot = subst (λ (n : ℕ). AreBySlot n (o.runs ++ runs) (c ∷ cs)) same (one_choice c o.runs runs cs own after);
      below = (omega (arith, same, before), later.below);
    } in
    subst (λ (first : List SlotChoice). AreServed slot last (o.runs ++ runs) (first ++ cs)) (sym choices) here

slots_served : (n slot last aggr tick : ℕ) (space : List Target) (regions : RegionList) (notes : List Note) → slot + n ≤ last
    → AreServed slot last (serve_slots n slot space aggr tick regions notes).runs (serve_slots n slot space aggr tick regions notes).choices
slots_served zero slot last aggr tick space regions notes few = record { by_slot = record { runs_from = tt; choices_from = tt; text = λ space shown. refl }; below = tt }
slots_served (suc n) slot last aggr tick space regions notes few =
    let first = serve_slot slot space aggr tick regions notes in
    let others = serve_slots n (slot + 1) space aggr tick (record regions { rows = first.rows }) first.notes in
    one_more slot last first others.runs others.choices (omega (arith, few)) (slot_served slot aggr tick space regions notes)
    (slots_served n (slot + 1) last aggr tick space (record regions { rows = first.rows }) first.notes (omega (arith, few)))

-- an aggregation
aggregate_is : (words : List ℕ) (s : State) → aggregate_text (aggregated words s) ≡ as_text.aggregate (printed_state (aggregated words s))
aggregate_is words s =
    let o = served s in
    let are = slots_served slot_count 0 slot_count s.core.attrs.aggr s.core.ticks s.core.space (merged_regions s.core) s.notes (omega arith) in
    let r = (aggregated words s).core.report in
    line_more (codes "aggregate tick=") (decimal r.tick) (codes " threshold=") (decimal r.threshold) (codes " rows=") (decimal (length r.rows)) (codes "\n")
    (flat_map (choice_lines_of s.core.space o.notes o.runs) o.choices ++ flat_map (row_text s.core.space) o.rows)
    ∙ (λ i. aggregate_line (aggregated words s).core.report
    ++ ((choices_are s.core.space o.notes o.runs o.choices are.below ∙ sym (are.by_slot.text s.core.space (slots_of o.notes))) i ++ rows_are s.core.space o.rows i))

pub states_are_text : IsTextOfStates
states_are_text = record { show = show_is; aggregate = aggregate_is }
