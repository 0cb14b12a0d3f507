-- Receipts that are read ahead of the entries: which they are, what passes name them, and which is refused.
use Rattle.std.specs.Prelude.{◌≡◌, ℕ, ◌+◌, ◌/◌, ◌%◌, ◌≤◌, ◌<◌, ◌==◌, Bool, true, false, not, ◌&&◌, ◌||◌, nat_le, nat_lt, suc, List, [], ◌∷◌, codes, length, map, slice_index_or, All, Option, Some, None, Result, Ok, option_map, if◌then◌else◌}
use Rattle.std.specs.Borrow.{Bor}
use Rattle.std.specs.List.{list_any}
use Rattle.damon_types.specs.declared.space.Target.{Target}
use Rattle.page_words.specs.declared.view.Entry.{Entry as Step}
use Rattle.line_text.specs.Parts.{parts}
use Rattle.script_lines.specs.declared.kind.ScriptKind.{ScriptKind}
use Rattle.script_lines.specs.Refusal.{◌>>=◌}
use Rattle.script_lines.specs.Words.{arguments, byte_address, number_8, number_32, number_64, same_word}
use Rattle.damon_control.specs.declared.live.TheConstants.{MAX_WORKERS}
use Rattle.damon_control.specs.declared.reader.TheConstants.{MAX_BYTES}
use Rattle.run_journal.specs.declared.entry.Receipt.{Receipt}
use Rattle.journal_check.specs.declared.receipts.order.TheConstants.{TAGS}
use Rattle.journal_text.specs.SeenLine.{is_receipt, is_risen, is_tag, may_be_seen, receipts_so_far, seen_fields, seen_line, with_receipt}

-- ---- which receipts a text has

-- the lines after the first `receipts`
abbrev pub after_receipts : List (List ℕ) → List (List ℕ)
after_receipts [] = []
after_receipts (line ∷ lines) = if same_word line (codes "receipts") then lines else after_receipts lines

-- one item more in front of a list, or an empty list for `None`
abbrev pub in_front_of : {A : Type 0} → List A → Option A → List A
in_front_of xs None = []
in_front_of xs (Some x) = x ∷ xs

-- The receipts that lines say one after another, each with its worker, up to the first line that says none. No LF ends the last
-- line, so it says none.
abbrev pub seen_ahead : List Target → List (List ℕ) → List (ℕ × Receipt)
seen_ahead space [] = []
seen_ahead space (line ∷ []) = []
seen_ahead space (line ∷ next ∷ lines) = in_front_of (seen_ahead space (next ∷ lines)) (seen_line space line)

-- the numbers of four words: a worker, a target, an address and a tag
abbrev pub seen_numbers : List ℕ × List ℕ × List ℕ × List ℕ → Result (ℕ × (ℕ × (ℕ × ℕ))) ScriptKind
seen_numbers fields = do
  worker ← number_8 fields.0
  target ← number_32 fields.1
  addr ← byte_address fields.2
  tag ← number_64 fields.3
  Ok (worker, (target, (addr, tag)))

-- the numbers of a `seen` line
abbrev pub seen_said : List ℕ → Result (ℕ × (ℕ × (ℕ × ℕ))) ScriptKind
seen_said line = arguments (codes "seen") line >>= seen_fields

-- a receipt that was read, and those of the lines of the text that is left, if there is one
abbrev pub seen_next : List Target → Option ((ℕ × Receipt) × Bor (List ℕ)) → List (ℕ × Receipt)
seen_next space None = []
seen_next space (Some x) = x.0 ∷ seen_ahead space (parts 10 x.1.now)

-- the receipts without their workers
abbrev pub receipts_of : List (ℕ × Receipt) → List Receipt
receipts_of xs = map (λ x. x.1) xs

-- ---- which passes name them

-- a pass with these picks names a receipt: its number is the tag, and the page is a pick
abbrev pub is_named : ℕ → List ℕ → Receipt → Bool
is_named pass picks r = (pass == r.tag) && list_any (λ p. p == r.page) picks

-- Receipts ahead, each with its worker; whether each names a pass that has cleared its page so far (a receipt with tag 0 names
-- none, and is always right); and the number of pages.
pub record AheadView : Type 0 where
  pub receipts : List (ℕ × Receipt)
  pub named : List Bool
  pub pages : ℕ

-- whether each receipt names no pass
abbrev pub named_by_none : List (ℕ × Receipt) → List Bool
named_by_none xs = map (λ x. x.1.tag == 0) xs

-- whether each receipt names a pass that cleared its page, by these steps
abbrev pub named_by : List Step → List (ℕ × Receipt) → List Bool
named_by done xs = map (λ x. is_tag done x.1.page x.1.tag) xs

-- after a pass with these picks the receipts are the same, and each is named that was named before or that the pass names
pub record IsPrepared (now : ℕ) (picks : List ℕ) (before after : AheadView) : Type 0 where
  pub receipts : after.receipts ≡ before.receipts
  pub each : (i : ℕ) (d : ℕ × Receipt) → i < length before.receipts
      → slice_index_or after.named i false ≡ (slice_index_or before.named i false || is_named now picks (slice_index_or before.receipts i d).1)
  pub count : length after.named ≡ length before.named
  pub pages : after.pages ≡ before.pages

-- ---- which is refused

-- the index of the first receipt that may not be seen after those before it
abbrev pub first_refused : List Step → List (List Receipt) → List (ℕ × Receipt) → Option ℕ
first_refused done all [] = None
first_refused done all (x ∷ xs) =
    if may_be_seen done all x.0 x.1 then option_map suc (first_refused done (with_receipt all x.0 x.1) xs) else Some 0

-- ---- how they are kept

-- the receipts of each worker
abbrev pub ByWorker : Type 0
ByWorker = List (List Receipt)

-- a receipt may come next as far as its worker and the tags of its page go: whether it is named is left open
abbrev pub may_follow : List (List Receipt) → ℕ → Receipt → Bool
may_follow all worker r = (nat_le (length all) (worker + 1) && nat_lt worker MAX_WORKERS) && is_risen (receipts_so_far all worker) r

-- the index of the first receipt that is not named, or may not come next
abbrev pub first_wrong : List Bool → List (List Receipt) → List (ℕ × Receipt) → Option ℕ
first_wrong (name ∷ named) all (x ∷ xs) =
    if name && may_follow all x.0 x.1 then option_map suc (first_wrong named (with_receipt all x.0 x.1) xs) else Some 0
first_wrong _ all _ = None

-- whether a pick is of this page
abbrev pub is_picked : List ℕ → ℕ → Bool
is_picked picks page = list_any (λ p. p == page) picks

-- no entry of a table is set
abbrev pub IsUnset : List Bool → Type 0
IsUnset table = (page : ℕ) → slice_index_or table page false ≡ false

-- a table says of each page whether a receipt has it with this tag
abbrev pub ShowsTag : ℕ → List (ℕ × Receipt) → List Bool → Type 0
ShowsTag tag receipts table = (page : ℕ) → page < length table → slice_index_or table page false ≡ list_any (is_receipt page tag) (receipts_of receipts)

-- each receipt is named that was named before or that a pass with these picks names
abbrev pub NamesMore : ℕ → List ℕ → List (ℕ × Receipt) → List Bool → List Bool → Type 0
NamesMore pass picks receipts before after =
    (i : ℕ) (d : ℕ × Receipt) → i < length receipts
    → slice_index_or after i false ≡ (slice_index_or before i false || is_named pass picks (slice_index_or receipts i d).1)

-- a receipt that names a pass has a tag that is the number of a pass of a text
abbrev pub AreNamedEarly : List (ℕ × Receipt) → List Bool → Type 0
AreNamedEarly receipts named =
    (i : ℕ) (d : ℕ × Receipt) → i < length receipts → slice_index_or named i false ≡ true → (slice_index_or receipts i d).1.tag ≤ MAX_BYTES + 1

-- receipts with what is kept of them
pub record IsAhead (receipts : List (ℕ × Receipt)) (named marked : List Bool) : Type 0 where
  pub count : length named ≡ length receipts
  pub within : All (λ x. x.1.page < length marked) receipts
  pub tags : AreNamedEarly receipts named
  pub unmarked : IsUnset marked

-- a worker and the number of a pass that are kept in one number
abbrev pub last_in : ℕ → ℕ × ℕ
last_in n = (n / TAGS, n % TAGS)

-- a tag may come after the last one of its page, where that is of the same worker
abbrev pub is_later : ℕ × ℕ → ℕ → ℕ → Bool
is_later last worker tag = not (last.0 == worker) || nat_le last.1 tag

-- the same with the worker: it is the last one of those before or comes after them, and its number is not too great
abbrev pub may_come : ℕ → ℕ × ℕ → ℕ → ℕ → Bool
may_come workers last worker tag = (nat_le workers (worker + 1) && nat_lt worker MAX_WORKERS) && is_later last worker tag

-- the number of workers so far, and for each page the last worker with a receipt of it and the tag of its last one: they tell
-- which tags of the last worker, and of those after it, rise
pub record KeepsLast (all : List (List Receipt)) (workers : ℕ) (last : List (ℕ × ℕ)) : Type 0 where
  pub count : length all ≡ workers
  pub rises : (worker : ℕ) (r : Receipt) (d : ℕ × ℕ) → r.page < length last → length all ≤ worker + 1
      → is_risen (receipts_so_far all worker) r ≡ is_later (slice_index_or last r.page d) worker r.tag
