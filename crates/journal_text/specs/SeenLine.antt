-- The lines of receipts: what a line may say after the receipts before it.
use Rattle.std.specs.Prelude.{◌≡◌, ℕ, ◌+◌, ◌-◌, ◌*◌, ◌^◌, ◌<◌, Bool, true, not, ◌&&◌, ◌||◌, ◌==◌, nat_le, nat_lt, List, [], ◌++◌, codes, length, replicate, Option, Some, None, Result, Ok, Err, option_and_then, option_map, slice_index_or, if◌then◌else◌}
use Rattle.std.specs.List.{list_all, list_any}
use Rattle.std.specs.Option.{ok_or, option_or}
use Rattle.damon_types.specs.declared.space.Target.{Target}
use Rattle.damon_types.specs.Space.{page_of, place_of}
use Rattle.line_text.specs.Parts.{four_of, parts}
use Rattle.page_words.specs.declared.view.Entry.{Entry as Step}
use Rattle.page_words.specs.declared.view.Entry.TheVariants.{Load}
use Rattle.page_words.specs.Clears.{clear_passes_of, pass_of}
use Rattle.script_lines.specs.declared.kind.ScriptKind.{ScriptKind}
use Rattle.script_lines.specs.declared.kind.ScriptKind.TheVariants.{Form}
use Rattle.script_lines.specs.Refusal.{◌>>=◌}
use Rattle.script_lines.specs.Words.{arguments, byte_address, number_8, number_32, number_64, same_word}
use Rattle.damon_control.specs.declared.live.TheConstants.{MAX_WORKERS}
use Rattle.damon_control.specs.Live.{LiveValue}
use Rattle.run_journal.specs.declared.entry.Receipt.{Receipt}
use Rattle.run_journal.specs.Growth.{added_to}
use Rattle.journal_text.specs.EntryLine.{where_so}
use Rattle.run_journal.specs.Lawful.{all_of}
use Rattle.journal_text.specs.Place.{AtLast, InReceipts, JournalPlace}
use Rattle.run_journal.specs.Replay.{JournalValue, replay}
use Rattle.journal_text.specs.Spelled.{spelled_seen}
use Rattle.run_journal.specs.Steps.{steps}
use Rattle.journal_text.specs.Text.{last_text}

-- ---- what a line says

-- the words of a `seen` line: a worker, a target, an address and a tag
abbrev pub seen_fields : List (List ℕ) → Result (ℕ × (ℕ × (ℕ × ℕ))) ScriptKind
seen_fields words = do
  fields ← ok_or (four_of words) Form
  worker ← number_8 fields.0
  target ← number_32 fields.1
  addr ← byte_address fields.2
  tag ← number_64 fields.3
  Ok (worker, (target, (addr, tag)))

-- what they say: a worker, and a receipt
abbrev pub seen_of : List Target → Result (ℕ × (ℕ × (ℕ × ℕ))) ScriptKind → Option (ℕ × Receipt)
seen_of space (Ok x) = option_map (λ page. (x.0, record { page = page; tag = x.1.1.1 })) (page_of space x.1.0 x.1.1.0)
seen_of space (Err kind) = None

-- what a `seen` line says, in its one spelling
abbrev pub seen_line : List Target → List ℕ → Option (ℕ × Receipt)
seen_line space line =
    option_and_then (λ x. if same_word line (spelled_seen space x.0 x.1) then Some x else None)
    (seen_of space (arguments (codes "seen") line >>= seen_fields))

-- ---- what it may say

-- the pass cleared the page
abbrev pub was_cleared : List Step → ℕ → ℕ → Bool
was_cleared done page tag = list_any (λ pass. pass == tag) (clear_passes_of page done)

-- the tag is 0 or the number of a pass that cleared the page
abbrev pub is_tag : List Step → ℕ → ℕ → Bool
is_tag done page tag = (tag == 0) || was_cleared done page tag

-- a receipt is of another page, or its tag is not greater
abbrev pub is_below : Receipt → Receipt → Bool
is_below q r = not (q.page == r.page) || nat_le q.tag r.tag

-- no receipt of this page has a greater tag
abbrev pub is_risen : List Receipt → Receipt → Bool
is_risen rs r = list_all (λ (q : Receipt). is_below q r) rs

-- the receipts so far of a worker
abbrev pub receipts_so_far : List (List Receipt) → ℕ → List Receipt
receipts_so_far all worker = slice_index_or all worker []

-- A receipt may come next: its worker is the last one so far or comes after it, its tag is a pass that cleared the page, or 0, and no
-- receipt of the worker so far has a greater tag for the page.
abbrev pub may_be_seen : List Step → List (List Receipt) → ℕ → Receipt → Bool
may_be_seen done all worker r =
    (nat_le (length all) (worker + 1) && nat_lt worker MAX_WORKERS) && (is_tag done r.page r.tag && is_risen (receipts_so_far all worker) r)

-- receipts with one more, of this worker
abbrev pub with_receipt : List (List Receipt) → ℕ → Receipt → List (List Receipt)
with_receipt all worker r = added_to worker r (all ++ replicate (worker + 1 - length all) [])

-- the place after a `seen` line
abbrev pub after_seen : LiveValue → JournalValue → List (List Receipt) → List ℕ → Option JournalPlace
after_seen v j all line =
    option_and_then (λ x. where_so (may_be_seen (steps v j) all x.0 x.1) (InReceipts v j (with_receipt all x.0 x.1))) (seen_line v.setup.space line)

-- ---- after the last receipt

-- a receipt of this page with this tag
abbrev pub is_receipt : ℕ → ℕ → Receipt → Bool
is_receipt page tag r = (r.page == page) && (r.tag == tag)

-- a load that was a hit has a receipt
abbrev pub has_receipt : List Receipt → Step → Bool
has_receipt rs (Load page word) = (word == 2 * pass_of word) || list_any (is_receipt page (pass_of word)) rs
has_receipt rs _ = true

-- the place after `settled`, where each hit has a receipt: what is printed of the last state is wanted
abbrev pub after_settled : LiveValue → JournalValue → List (List Receipt) → List ℕ → Option JournalPlace
after_settled v j all line =
    where_so (same_word line (codes "settled") && list_all (has_receipt (all_of all)) (steps v j))
    (AtLast (record { live = v; journal = j; receipts = all }) (parts 10 (last_text (replay v j).state)))

-- the place after a line among the receipts
abbrev pub after_receipt : LiveValue → JournalValue → List (List Receipt) → List ℕ → Option JournalPlace
after_receipt v j all line = option_or (after_settled v j all line) (after_seen v j all line)

-- ---- what a text can spell

-- the place of a page can be spelled, and is that of the page
pub record PlaceFits (space : List Target) (page : ℕ) : Type 0 where
  pub target : (place_of space page).target < 2 ^ 32
  pub addr : (place_of space page).addr < 2 ^ 64
  pub numbered : page_of space (place_of space page).target (place_of space page).addr ≡ Some page
