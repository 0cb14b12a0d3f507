-- The texts of objects in JSON, as they are written one part after another.
use Rattle.std.proofs.Common.{◌≡◌, ℕ, ◌+◌, ◌*◌, List, [], ◌∷◌, ◌++◌, codes, refl, ap, sym, ◌∙◌, append_assoc, append-nil, decimal, Bool, true, false, Some}
use Rattle.damon_types.specs.declared.row.Row.{Row}
use Rattle.damon_types.specs.declared.scheme.Action.{Action}
use Rattle.damon_types.specs.declared.scheme.Action.TheVariants.{Stat, Willneed, Cold, Pageout, Hugepage, Nohugepage, LruPrio, LruDeprio}
use Rattle.damon_types.specs.declared.space.Target.{Target}
use Rattle.json.specs.Print.{escape, escape_byte, quoted}
use Rattle.line_text.specs.Address.{spelled_address}
use Rattle.scheme_engine.specs.declared.applied.AppliedRun.{AppliedRun}
use Rattle.scheme_engine.specs.Slots.{SlotValue}
use Rattle.serde_json.specs.Data.{Data, string, Members, member, no_members}
use Rattle.serde_json.specs.Written.{comma_if, compact_text, members_text}
use Rattle.snapshot_print.specs.Fields.{page_address}
use Rattle.snapshot_print.specs.Json.{action_or_null, applied_json, count_of, row_json}
use Rattle.snapshot_print.specs.Pieces.{piece, run_prefix, run_rest}
use Rattle.damon_types.specs.Actions.{action_name}
use Rattle.snapshot_print.specs.Schemes.{action_in}
use Rattle.snapshot_print.proofs.Escaping.{address_is_plain}

-- the text of members, and then another text
pub record AreWritten (later : Bool) (ms : Members) (rest whole : List ℕ) : Type 0 where
  pub written : members_text later ms ++ rest ≡ whole

-- no more members
pub last_written : (rest : List ℕ) → AreWritten true no_members rest (codes "}" ++ rest)
last_written rest = record { written = refl }

-- a member, where the text of the others is known
pub some_member : {ms : Members} {rest others : List ℕ} → (later : Bool) (name : List ℕ) (d : Data) → AreWritten true ms rest others → AreWritten later (member name d ms) rest (comma_if later ++ (quoted name ++ 58 ∷ (compact_text d ++ others)))
some_member {ms} {rest} {others} later name d known = record {
  written =
      append_assoc (comma_if later) _ rest
      ∙ ap (λ t. comma_if later ++ t) (append_assoc (quoted name) _ rest)
      ∙ ap (λ t. comma_if later ++ (quoted name ++ 58 ∷ t)) (append_assoc (compact_text d) (members_text true ms) rest ∙ ap (λ t. compact_text d ++ t) known.written);
}

-- a member whose value is a text with nothing to escape
pub plain_member : {ms : Members} {rest others : List ℕ} → (later : Bool) (name text : List ℕ) → escape text ≡ text → AreWritten true ms rest others → AreWritten later (member name (string text) ms) rest (comma_if later ++ (quoted name ++ 58 ∷ 34 ∷ (text ++ 34 ∷ others)))
plain_member {ms} {rest} {others} later name text plain known = record {
  written =
      (some_member later name (string text) known).written
      ∙ ap (λ t. comma_if later ++ (quoted name ++ 58 ∷ 34 ∷ t)) (append_assoc (escape text) (34 ∷ []) others ∙ ap (λ t. t ++ 34 ∷ others) plain);
}

-- the item of a row
pub row_item : (space : List Target) (r : Row) (rest : List ℕ) → piece (row_json space r) ++ rest
    ≡ codes ",{\"age\":" ++ (decimal r.age ++ (codes ",\"count\":" ++ (decimal r.count
    ++ (codes ",\"end\":\"" ++ (spelled_address (page_address space r.start + 4096 * r.pages) ++ (codes "\",\"last\":" ++ (decimal r.last
    ++ (codes ",\"start\":\"" ++ (spelled_address (page_address space r.start) ++ (codes "\",\"target\":" ++ (decimal r.target ++ (codes "}" ++ rest))))))))))))
unfolding escape_byte
row_item space r rest =
    let target = some_member true (codes "target") (count_of r.target) (last_written rest) in
    let start = plain_member true (codes "start") (spelled_address (page_address space r.start)) (address_is_plain (page_address space r.start)) target in
    let last = some_member true (codes "last") (count_of r.last) start in
    let after = plain_member true (codes "end") (spelled_address (page_address space r.start + 4096 * r.pages)) (address_is_plain (page_address space r.start + 4096 * r.pages)) last in
    let count = some_member true (codes "count") (count_of r.count) after in
    ap (λ t. 44 ∷ 123 ∷ t) (some_member false (codes "age") (count_of r.age) count).written

action_is_plain : (a : Action) → escape (action_name a) ≡ action_name a
unfolding escape_byte
action_is_plain Stat = refl
action_is_plain Willneed = refl
action_is_plain Cold = refl
action_is_plain Pageout = refl
action_is_plain Hugepage = refl
action_is_plain Nohugepage = refl
action_is_plain LruPrio = refl
action_is_plain LruDeprio = refl

-- the prefix of the item of a run, where its slot is set
pub set_prefix : (a : Action) (rest : List ℕ) → run_prefix (Some a) ++ rest ≡ codes ",{\"action\":\"" ++ (action_name a ++ (codes "\",\"end\":\"" ++ rest))
set_prefix a rest =
    ap (λ t. codes ",{\"action\":\"" ++ t)
    (append_assoc (escape (action_name a) ++ 34 ∷ []) (codes ",\"end\":\"") rest
    ∙ append_assoc (escape (action_name a)) (34 ∷ []) (codes ",\"end\":\"" ++ rest)
    ∙ ap (λ t. t ++ (codes "\",\"end\":\"" ++ rest)) (action_is_plain a))

-- the item of a run in its two parts
pub run_item : (space : List Target) (slots : List SlotValue) (r : AppliedRun) → run_prefix (action_in slots r.slot) ++ run_rest space r ≡ piece (applied_json space slots r)
unfolding escape_byte
run_item space slots r =
    let action = action_or_null (action_in slots r.slot) in
    let from = spelled_address (page_address space r.start) in
    let to = spelled_address (page_address space r.start + 4096 * r.pages) in
    let rest = run_rest space r in
    let target = some_member true (codes "target") (count_of r.target) (last_written []) in
    let start = plain_member true (codes "start") from (address_is_plain (page_address space r.start)) target in
    let slot = some_member true (codes "slot") (count_of r.slot) start in
    let score = some_member true (codes "score") (count_of r.score) slot in
    let after = plain_member true (codes "end") to (address_is_plain (page_address space r.start + 4096 * r.pages)) score in
    let whole = some_member false (codes "action") action after in
    ap (λ t. codes ",{\"action\":" ++ t) (append_assoc (compact_text action) (codes ",\"end\":\"") rest)
    ∙ sym (ap (λ t. 44 ∷ 123 ∷ t) whole.written)
    ∙ append-nil _

rest_assoc : (a b c d e f g h i j rest : List ℕ) → (a ++ (b ++ (c ++ (d ++ (e ++ (f ++ (g ++ (h ++ (i ++ j))))))))) ++ rest ≡ a ++ (b ++ (c ++ (d ++ (e ++ (f ++ (g ++ (h ++ (i ++ (j ++ rest)))))))))
rest_assoc a b c d e f g h i j rest = simp append_assoc

-- the second of them
pub run_rest_joined : (space : List Target) (r : AppliedRun) (rest : List ℕ) → run_rest space r ++ rest
    ≡ spelled_address (page_address space r.start + 4096 * r.pages) ++ (codes "\",\"score\":" ++ (decimal r.score ++ (codes ",\"slot\":" ++ (decimal r.slot
    ++ (codes ",\"start\":\"" ++ (spelled_address (page_address space r.start) ++ (codes "\",\"target\":" ++ (decimal r.target ++ (codes "}" ++ rest)))))))))
run_rest_joined space r rest =
    rest_assoc (spelled_address (page_address space r.start + 4096 * r.pages)) (codes "\",\"score\":") (decimal r.score) (codes ",\"slot\":") (decimal r.slot) (codes ",\"start\":\"") (spelled_address (page_address space r.start)) (codes "\",\"target\":") (decimal r.target) (codes "}") rest
