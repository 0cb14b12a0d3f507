-- The text of a value whose numbers have 64 bits is read back as that value.
use Rattle.std.proofs.Common.{◌≡◌, ℕ, suc, ◌<◌, ◌≤◌, ◌^◌, ◌+◌, List, [], ◌∷◌, ◌++◌, refl, sym, ap, ap₂, ◌∙◌, arith, append-nil, Some, None, max}
use Rattle.std.specs.Prelude.{⊤, map, Option, option_map, option_and_then}
use Rattle.std.specs.Option.{option_map_or}
use Rattle.json.specs.Json as json
use Rattle.json.specs.Lex.{tokens}
use Rattle.json.specs.Token.{Token}
use Rattle.json.specs.Tree as tree
use Rattle.json.proofs.Printed.Decimals.{IsNumber-decimal}
use Rattle.json.proofs.Printed.Tokens.{tokens-print}
use Rattle.json.proofs.Printed.Trees.{ArePrintable-json_tokens, value-json_tokens}
use Rattle.serde_json.specs.Data.{unsigned, negative, float, Data, null, boolean, number, string, array, object, Items, no_items, item, Members, no_members, member, put, depth, items_depth, members_depth}
use Rattle.serde_json.specs.Read.{read, max_depth, of_json, of_items, of_members}
use Rattle.serde_json.specs.Written.{outline, items_outline, members_outline, compact_text}
use Rattle.serde_json.proofs.Numbers.{number_of-decimal}
use Rattle.serde_json.proofs.Texts.{print-outline}
use Rattle.serde_json.specs.View.{items_of}
use Rattle.damon_types.specs.declared.row.Row.{Row}
use Rattle.damon_types.specs.declared.scheme.Action.{Action}
use Rattle.damon_types.specs.declared.space.Target.{Target}
use Rattle.scheme_engine.specs.declared.applied.AppliedRun.{AppliedRun}
use Rattle.scheme_engine.specs.declared.applied.SlotChoice.{SlotChoice}
use Rattle.scheme_engine.specs.declared.slot.SlotView.{SlotView}
use Rattle.scheme_engine.specs.Slots.{SlotValue, slot_view}
use Rattle.damon_core.specs.State.{row_count}
use Rattle.snapshot_print.specs.Json.{action_or_null, aggregate_json, answer_json, applied_json, choice_json, count_or_null, end_json, row_json, set_slots_json, show_json, slot_json}
use Rattle.snapshot_print.specs.Printed.{Printed}
use Rattle.snapshot_print.specs.Schemes.{action_in}
use Rattle.snapshot_print.specs.Readable.{HasWords, ItemsHaveWords, MembersHaveWords}

mutual
  has_numbers : (d : Data) → HasWords d → tree.HasNumbers (outline d)
  has_numbers null h = tt
  has_numbers (boolean b) h = tt
  has_numbers (number (unsigned n)) h = IsNumber-decimal n h
  has_numbers (number (negative z)) h = absurd h
  has_numbers (number (float x)) h = absurd h
  has_numbers (string s) h = tt
  has_numbers (array ds) h = items_numbers ds h
  has_numbers (object ms) h = members_numbers ms h

  items_numbers : (ds : Items) → ItemsHaveWords ds → tree.ItemsHaveNumbers (items_outline ds)
  items_numbers no_items h = tt
  items_numbers (item d ds) h = (has_numbers d h.0, items_numbers ds h.1)

  members_numbers : (ms : Members) → MembersHaveWords ms → tree.MembersHaveNumbers (members_outline ms)
  members_numbers no_members h = tt
  members_numbers (member k d ms) h = (has_numbers d h.0, members_numbers ms h.1)

mutual
  same_depth : (d : Data) → tree.depth (outline d) ≡ depth d
  same_depth null = refl
  same_depth (boolean b) = refl
  same_depth (number n) = refl
  same_depth (string s) = refl
  same_depth (array ds) = ap suc (same_items ds)
  same_depth (object ms) = ap suc (same_members ms)

  same_items : (ds : Items) → tree.items_depth (items_outline ds) ≡ items_depth ds
  same_items no_items = refl
  same_items (item d ds) = ap₂ max (same_depth d) (same_items ds)

  same_members : (ms : Members) → tree.members_depth (members_outline ms) ≡ members_depth ms
  same_members no_members = refl
  same_members (member k d ms) = ap₂ max (same_depth d) (same_members ms)

-- the JSON of a value is read as the value
abbrev pub IsRead : Data → Type 0
IsRead d = of_json (outline d) ≡ Some d

abbrev whole : Option (json.Json × List Token) → Option Data
whole o = option_and_then of_json (option_and_then (λ p. json.if_last p.0 p.1) o)

-- the text of such a value is read as the value
text_is_read : (d : Data) → HasWords d → IsRead d → depth d ≤ max_depth → read (compact_text d) ≡ Some d
text_is_read d words is_read shallow =
    let ts = tree.json_tokens (outline d) in
    let known : tokens (compact_text d) ≡ ts = ap tokens (sym (print-outline d)) ∙ tokens-print ts (ArePrintable-json_tokens (outline d) (has_numbers d words)) in
    let deep : tree.depth (outline d) ≤ max_depth = omega (arith, same_depth d) in
    ap whole (ap (json.value max_depth) (known ∙ sym (append-nil ts)) ∙ value-json_tokens (outline d) max_depth [] deep) ∙ is_read

number_is_read : (n : ℕ) → n < 2 ^ 64 → IsRead (number (unsigned n))
number_is_read n h = ap (option_map number) (number_of-decimal n h)

-- ---- objects and lists

abbrev AreRead : Members → Type 0
AreRead no_members = ⊤
AreRead (member k d ms) = IsRead d × AreRead ms

-- members put one after another
abbrev put_all : Members → Members → Members
put_all no_members found = found
put_all (member k d ms) found = put_all ms (put k d found)

members_are_read : (ms found : Members) → AreRead ms → of_members (members_outline ms) found ≡ Some (put_all ms found)
members_are_read no_members found h = refl
members_are_read (member k d ms) found h =
    ap (λ (o : Option Data). option_and_then (λ x. of_members (members_outline ms) (put k x found)) o) h.0 ∙ members_are_read ms (put k d found) h.1

-- an object whose members are in order
object_is_read : (ms : Members) → AreRead ms → put_all ms no_members ≡ ms → IsRead (object ms)
object_is_read ms h ordered = ap (option_map object) (members_are_read ms no_members h ∙ ap Some ordered)

abbrev AreItemsRead : Items → Type 0
AreItemsRead ds = of_items (items_outline ds) ≡ Some ds

one_more : (d : Data) (ds : Items) → IsRead d → AreItemsRead ds → AreItemsRead (item d ds)
one_more d ds first others =
    ap (λ (o : Option Data). option_and_then (λ x. option_map (item x) (of_items (items_outline ds))) o) first ∙ ap (option_map (item d)) others

list_is_read : {A : Type 0} → (value : A → Data) → ((x : A) → HasWords (value x) → IsRead (value x)) → (xs : List A) → ItemsHaveWords (items_of (map value xs)) → AreItemsRead (items_of (map value xs))
list_is_read value each [] w = refl
list_is_read value each (x ∷ xs) w = one_more (value x) (items_of (map value xs)) (each x w.0) (list_is_read value each xs w.1)

list_depth : {A : Type 0} → (value : A → Data) (n : ℕ) → ((x : A) → depth (value x) ≤ n) → (xs : List A) → items_depth (items_of (map value xs)) ≤ n
list_depth value n each [] = omega arith
list_depth value n each (x ∷ xs) = omega (arith, each x, list_depth value n each xs)

-- ---- the values of a report

row_is_read : (space : List Target) (r : Row) → HasWords (row_json space r) → IsRead (row_json space r)
row_is_read space r w =
    object_is_read _ (number_is_read r.age w.0, (number_is_read r.count w.1.0, (refl, (number_is_read r.last w.1.1.1.0, (refl, (number_is_read r.target w.1.1.1.1.1.0, tt)))))) refl

option_is_read : (n : Option ℕ) → HasWords (count_or_null n) → IsRead (count_or_null n)
option_is_read None w = refl
option_is_read (Some n) w = number_is_read n w

action_is_read : (a : Option Action) → IsRead (action_or_null a)
action_is_read None = refl
action_is_read (Some a) = refl

applied_is_read : (space : List Target) (slots : List SlotValue) (r : AppliedRun) → HasWords (applied_json space slots r) → IsRead (applied_json space slots r)
applied_is_read space slots r w =
    object_is_read _ (action_is_read (action_in slots r.slot), (refl, (number_is_read r.score w.1.1.0, (number_is_read r.slot w.1.1.1.0, (refl, (number_is_read r.target w.1.1.1.1.1.0, tt)))))) refl

choice_is_read : (c : SlotChoice) → HasWords (choice_json c) → IsRead (choice_json c)
choice_is_read c w =
    object_is_read _ (refl, (option_is_read c.left w.1.0, (option_is_read c.lowest w.1.1.0, (number_is_read c.slot w.1.1.1.0, (number_is_read c.taken w.1.1.1.1.0, tt))))) refl

slot_is_read : (slot : ℕ) (v : SlotView) → HasWords (slot_json slot v) → IsRead (slot_json slot v)
slot_is_read slot v w =
    object_is_read _ (refl, (refl, (number_is_read v.applied w.1.1.0, (number_is_read v.window.charged w.1.1.1.0, (number_is_read v.exceeds w.1.1.1.1.0, (number_is_read slot w.1.1.1.1.1.0, (number_is_read v.window.start w.1.1.1.1.1.1.0, (number_is_read v.tried w.1.1.1.1.1.1.1.0, tt)))))))) refl

abbrev shown : ℕ → Option SlotView → List Data
shown slot v = option_map_or (λ x. slot_json slot x ∷ []) v []

with_slot : (slot : ℕ) (v : Option SlotView) (rest : List Data) → ItemsHaveWords (items_of (shown slot v ++ rest)) → (ItemsHaveWords (items_of rest) → AreItemsRead (items_of rest)) → AreItemsRead (items_of (shown slot v ++ rest))
with_slot slot None rest w others = others w
with_slot slot (Some v) rest w others = one_more (slot_json slot v) (items_of rest) (slot_is_read slot v w.0) (others w.1)

slots_are_read : (slot : ℕ) (ss : List SlotValue) → ItemsHaveWords (items_of (set_slots_json slot ss)) → AreItemsRead (items_of (set_slots_json slot ss))
slots_are_read slot [] w = refl
slots_are_read slot (s ∷ ss) w = with_slot slot (slot_view s) (set_slots_json (slot + 1) ss) w (slots_are_read (slot + 1) ss)

slot_depth : (slot : ℕ) (v : Option SlotView) (rest : List Data) → items_depth (items_of rest) ≤ 1 → items_depth (items_of (shown slot v ++ rest)) ≤ 1
slot_depth slot None rest others = others
slot_depth slot (Some v) rest others = omega (arith, others)

slots_depth : (slot : ℕ) (ss : List SlotValue) → items_depth (items_of (set_slots_json slot ss)) ≤ 1
slots_depth slot [] = omega arith
slots_depth slot (s ∷ ss) = slot_depth slot (slot_view s) (set_slots_json (slot + 1) ss) (slots_depth (slot + 1) ss)

action_depth : (a : Option Action) → depth (action_or_null a) ≡ 0
action_depth None = refl
action_depth (Some a) = refl

option_depth : (n : Option ℕ) → depth (count_or_null n) ≡ 0
option_depth None = refl
option_depth (Some n) = refl

applied_depth : (space : List Target) (slots : List SlotValue) (r : AppliedRun) → depth (applied_json space slots r) ≤ 1
applied_depth space slots r = omega (arith, action_depth (action_in slots r.slot))

choice_depth : (c : SlotChoice) → depth (choice_json c) ≤ 1
choice_depth c = omega (arith, option_depth c.left, option_depth c.lowest)

pub show_is_read : (p : Printed) → HasWords (show_json p) → read (compact_text (show_json p)) ≡ Some (show_json p)
show_is_read p w =
    let rows = list_is_read (row_json p.core.space) (row_is_read p.core.space) p.core.regions.rows w.1.1.0 in
    let slots = slots_are_read 0 p.slots w.1.1.1.0 in
    let rows_deep : items_depth (items_of (map (row_json p.core.space) p.core.regions.rows)) ≤ 1 = list_depth (row_json p.core.space) 1 (λ r. omega arith) p.core.regions.rows in
    let slots_deep : items_depth (items_of (set_slots_json 0 p.slots)) ≤ 1 = slots_depth 0 p.slots in
    text_is_read (show_json p) w
    (object_is_read _ (refl, (refl, (ap (option_map array) rows, (ap (option_map array) slots, (number_is_read p.core.ticks w.1.1.1.1.0, tt))))) refl)
    (omega (arith, rows_deep, slots_deep))

pub aggregate_is_read : (p : Printed) → HasWords (aggregate_json p) → read (compact_text (aggregate_json p)) ≡ Some (aggregate_json p)
aggregate_is_read p w =
    let applied = applied_json p.core.space p.slots in
    let runs = list_is_read applied (applied_is_read p.core.space p.slots) p.core.report.runs w.0 in
    let choices = list_is_read choice_json choice_is_read p.core.report.choices w.1.0 in
    let rows = list_is_read (row_json p.core.space) (row_is_read p.core.space) p.core.report.rows w.1.1.1.0 in
    let runs_deep : items_depth (items_of (map applied p.core.report.runs)) ≤ 1 = list_depth applied 1 (applied_depth p.core.space p.slots) p.core.report.runs in
    let choices_deep : items_depth (items_of (map choice_json p.core.report.choices)) ≤ 1 = list_depth choice_json 1 choice_depth p.core.report.choices in
    let rows_deep : items_depth (items_of (map (row_json p.core.space) p.core.report.rows)) ≤ 1 = list_depth (row_json p.core.space) 1 (λ r. omega arith) p.core.report.rows in
    text_is_read (aggregate_json p) w
    (object_is_read _ (ap (option_map array) runs, (ap (option_map array) choices, (refl, (ap (option_map array) rows, (number_is_read p.core.report.threshold w.1.1.1.1.0, (number_is_read p.core.report.tick w.1.1.1.1.1.0, tt)))))) refl)
    (omega (arith, runs_deep, choices_deep, rows_deep))

pub answer_is_read : (tick : ℕ) (answer : List ℕ) → tick < 2 ^ 64 → read (compact_text (answer_json tick answer)) ≡ Some (answer_json tick answer)
answer_is_read tick answer w =
    text_is_read (answer_json tick answer) (tt, (tt, (w, tt))) (object_is_read _ (refl, (refl, (number_is_read tick w, tt))) refl) (omega arith)

pub end_is_read : (p : Printed) → HasWords (end_json p) → read (compact_text (end_json p)) ≡ Some (end_json p)
end_is_read p w =
    text_is_read (end_json p) w
    (object_is_read _ (number_is_read p.checks w.0, (number_is_read p.hits w.1.0, (refl, (number_is_read (row_count p.core) w.1.1.1.0, (number_is_read p.core.ticks w.1.1.1.1.0, tt))))) refl)
    (omega arith)
