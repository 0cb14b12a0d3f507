-- Worked texts, read as journals.
use Rattle.std.proofs.Common.{◌≡◌, ℕ, true, List, [], ◌∷◌, ◌++◌, codes, Ok, Err, refl}
use Rattle.std.specs.Prelude.{is_ok}
use Rattle.std.specs.Fmt.{digits}
use Rattle.rand_core.specs.Steps.{stream_of}
use Rattle.rand_core.specs.Stream.{next_u32}
use Rattle.damon_core.specs.Slots.{slot_count}
use Rattle.damon_control.specs.Live.{ShowCall}
use Rattle.journal_text.proofs.Examples.{one_page, one_pass, two_receipts}
use Rattle.journal_text.specs.Reading.{read_journal}

-- ---- a pass with a hit

-- the text of the example journal, with these lines between `receipts` and `settled`, and these bytes after its last line
abbrev pub page_text : List ℕ → List ℕ → List ℕ
page_text seen more =
    codes "damon journal 1\nseed 42\nunit 1\ncap 3\nattrs 3 3 5\ntarget 0x0 1\nrange 0 0x0 0x1000 0\nbegin\nprepare 1 at 0\ncall 0 0 show\nanswer shown tick=0 rows=1\ncheck 1 1\nreceipts\n"
    ++ (seen ++ (codes "settled\nshow tick=1 phase=idle rows=1\nrow 0 0x0-0x1000 count=1 last=0 age=0\nend ticks=1 rows=1 checks=1 hits=1\n" ++ more))

-- its script has only what the text says: no touches, and four controllers
pub journal_is_read : read_journal (page_text (codes "seen 0 0 0x0 1\nseen 1 0 0x0 0\n") []) ≡ Ok (record {
  live = record one_page { passes = 0; workers = []; controllers = (ShowCall ∷ []) ∷ [] ∷ [] ∷ [] ∷ [] };
  journal = one_pass;
  receipts = two_receipts;
})
unfolding digits next_u32 stream_of slot_count
journal_is_read = refl

-- the receipt of the hit is missing
pub without_receipt : read_journal (page_text (codes "seen 0 0 0x0 0\nseen 1 0 0x0 0\n") []) ≡ Err 16
unfolding digits next_u32 stream_of slot_count
without_receipt = refl

pub byte_after_end : read_journal (page_text (codes "seen 0 0 0x0 1\nseen 1 0 0x0 0\n") (codes "x")) ≡ Err 20
unfolding digits next_u32 stream_of slot_count
byte_after_end = refl

pub no_text : read_journal [] ≡ Err 1
no_text = refl

-- ---- a commit that makes a pass void

-- the text of a run, with these lines 10, 14 and 15: `call`, `void` and `prepare`
abbrev pub void_text : List ℕ → List ℕ → List ℕ → List ℕ
void_text call void prepare =
    codes "damon journal 1\nseed 42\nunit 1\ncap 3\nattrs 3 3 5\ntarget 0x0 2\nrange 0 0x0 0x2000 0\nbegin\nprepare 1 at 0\n"
    ++ (call ++ (codes "\nrange 0 0x0 0x1000 0\napply\nanswer ok rows=1 void=yes\n" ++ (void ++ (codes "\n" ++ (prepare
    ++ codes "\ncheck 2 0\nreceipts\nsettled\nshow tick=2 phase=idle rows=1\nrow 0 0x0-0x1000 count=0 last=0 age=0\nend ticks=2 rows=1 checks=1 hits=0\n")))))

pub void_is_read : is_ok (read_journal (void_text (codes "call 0 0 commit") (codes "void 1") (codes "prepare 2 at 2"))) ≡ true
unfolding digits next_u32 stream_of slot_count
void_is_read = refl

pub check_of_void : read_journal (void_text (codes "call 0 0 commit") (codes "check 1 00") (codes "prepare 2 at 2")) ≡ Err 14
unfolding digits next_u32 stream_of slot_count
check_of_void = refl

pub wrong_position : read_journal (void_text (codes "call 0 0 commit") (codes "void 1") (codes "prepare 2 at 3")) ≡ Err 15
unfolding digits next_u32 stream_of slot_count
wrong_position = refl

pub wrong_index : read_journal (void_text (codes "call 0 1 commit") (codes "void 1") (codes "prepare 2 at 2")) ≡ Err 10
unfolding digits next_u32 stream_of slot_count
wrong_index = refl
