-- The lines of receipts by the rules are read back.
use Rattle.std.proofs.Common.{◌≡◌, ◌⊎◌, ℕ, zero, suc, ◌+◌, ◌-◌, ◌^◌, ◌≤◌, ◌<◌, true, List, [], ◌∷◌, ◌++◌, codes, decimal, length, map, Some, None, Ok, refl, sym, ap, ◌∙◌, subst, append_assoc, append-nil, length-append, arith}
use Rattle.std.proofs.Math.ListN.{get_or-append}
use Rattle.std.proofs.Math.Seq.{get_or-append_seam}
use Rattle.std.proofs.lemmas.List.{length-replicate, map-append}
use Rattle.std.specs.Prelude.{All, option_and_then, option_map, replicate, slice_index_or, if◌then◌else◌}
use Rattle.std.specs.List.{AllByRecursion, AllPairs, Contains, list_all}
use Rattle.std.specs.Cmp.Derive.{both_true}
use Rattle.std.specs.Option.{ok_or}
use Rattle.damon_types.specs.declared.space.Target.{Target}
use Rattle.damon_types.specs.Space.{pages_of, place_of}
use Rattle.line_text.specs.Address.{spelled_address}
use Rattle.line_text.proofs.Lemmas.{address-spelled_address, number-decimal}
use Rattle.page_words.specs.Clears.{clear_passes_of}
use Rattle.page_words.specs.Views.{TagsRise, touch}
use Rattle.script_lines.specs.declared.kind.ScriptKind.TheVariants.{Number}
use Rattle.script_lines.specs.Refusal.{◌>>=◌}
use Rattle.script_lines.specs.Words.{byte_address, number_8, number_32, number_64, same_word}
use Rattle.damon_control.specs.declared.live.TheConstants.{MAX_WORKERS}
use Rattle.damon_control.specs.Live.{LiveValue}
use Rattle.run_journal.specs.declared.entry.Receipt.{Receipt}
use Rattle.run_journal.specs.Growth.{added_to}
use Rattle.journal_text.specs.EntryLine.{where_so}
use Rattle.run_journal.specs.Lawful.{touches_of}
use Rattle.journal_text.specs.Place.{InReceipts}
use Rattle.run_journal.specs.Replay.{JournalValue}
use Rattle.journal_text.specs.SeenLine.{PlaceFits, after_receipt, may_be_seen, receipts_so_far, seen_fields, seen_line, seen_of, with_receipt}
use Rattle.journal_text.specs.Spelled.{spelled_seen}
use Rattle.run_journal.specs.Steps.{steps}
use Rattle.journal_text.specs.Text.{seen_lines}
use Rattle.journal_text.proofs.Common.{same_line, then-Ok}
use Rattle.journal_text.proofs.Leading.{found, leads_by, leads_to}
use Rattle.journal_text.proofs.PlainLines.{address_word, arguments-spaced, decimal_word, is_plain_word}
use Rattle.journal_text.proofs.SeenSay.{Rises, may_decides, padded_at}

-- ---- one line

-- the place of each page of a space fits
abbrev pub PlacesFit : List Target → Type 0
PlacesFit space = (page : ℕ) → page < pages_of space → PlaceFits space page

-- the words of a `seen` line
abbrev pub seen_words : List Target → ℕ → Receipt → List (List ℕ)
seen_words space w r = decimal w ∷ decimal (place_of space r.page).target ∷ spelled_address (place_of space r.page).addr ∷ decimal r.tag ∷ []

-- they are plain words
pub words_plain : (space : List Target) (w : ℕ) (r : Receipt) → PlaceFits space r.page → w < 2 ^ 8 → r.tag < 2 ^ 64 → list_all is_plain_word (codes "seen" ∷ seen_words space w r) ≡ true
words_plain space w r fit worker tag =
    let target : (place_of space r.page).target < 2 ^ 64 = omega (arith, fit.target) in
    both_true (decimal_word w (omega (arith, worker)))
    (both_true (decimal_word (place_of space r.page).target target)
    (both_true (address_word (place_of space r.page).addr (fit.addr))
    (both_true (decimal_word r.tag tag) refl)))

-- and are read as the numbers that they spell
fields_back : (space : List Target) (w : ℕ) (r : Receipt) → PlaceFits space r.page → w < 2 ^ 8 → r.tag < 2 ^ 64
    → seen_fields (seen_words space w r) ≡ Ok (w, ((place_of space r.page).target, ((place_of space r.page).addr, r.tag)))
fields_back space w r fit worker tag =
    let target = (place_of space r.page).target in
    let addr = (place_of space r.page).addr in
    then-Ok (number_8 (decimal w)) _ w _ (ap (λ o. ok_or o Number) (number-decimal (2 ^ 8 - 1) w (omega (arith, worker)) (omega arith)))
    (then-Ok (number_32 (decimal target)) _ target _ (ap (λ o. ok_or o Number) (number-decimal (2 ^ 32 - 1) target (omega (arith, fit.target)) (omega arith)))
    (then-Ok (byte_address (spelled_address addr)) _ addr _ (ap (λ o. ok_or o Number) (address-spelled_address addr (fit.addr)))
    (then-Ok (number_64 (decimal r.tag)) _ r.tag _ (ap (λ o. ok_or o Number) (number-decimal (2 ^ 64 - 1) r.tag (omega (arith, tag)) (omega arith))) refl)))

-- a `seen` line is read as its worker and its receipt
pub seen_back : (space : List Target) (w : ℕ) (r : Receipt) → PlaceFits space r.page → w < 2 ^ 8 → r.tag < 2 ^ 64 → seen_line space (spelled_seen space w r) ≡ Some (w, r)
seen_back space w r fit worker tag =
    let line = spelled_seen space w r in
    let only : ℕ × Receipt = (w, r) in
    ap (λ a. option_and_then (λ (x : ℕ × Receipt). if same_word line (spelled_seen space x.0 x.1) then Some x else None) (seen_of space (a >>= seen_fields))) (arguments-spaced (codes "seen") (seen_words space w r) refl (words_plain space w r fit worker tag))
    ∙ ap (λ f. option_and_then (λ (x : ℕ × Receipt). if same_word line (spelled_seen space x.0 x.1) then Some x else None) (seen_of space f)) (fields_back space w r fit worker tag)
    ∙ ap (λ o. option_and_then (λ (x : ℕ × Receipt). if same_word line (spelled_seen space x.0 x.1) then Some x else None) (option_map (λ p. (w, record { page = p; tag = r.tag })) o)) (fit.numbered)
    ∙ ap (λ t. if t then Some only else None) (same_line line)

-- ---- what may come next

-- each element before another one in a list is related to it
all_before : {X : Type 0} (R : X → X → Type 0) (xs : List X) (y : X) (ys : List X) → AllPairs R (xs ++ y ∷ ys) → All (λ x. R x y) xs
all_before R xs y ys pairs k d below =
    subst (R (slice_index_or xs k d)) (get_or-append_seam xs y ys d)
    (subst (λ x. R x (slice_index_or (xs ++ y ∷ ys) (length xs) d)) (get_or-append xs (y ∷ ys) d k below) (pairs k (length xs) d below (omega (arith, length-append xs (y ∷ ys)))))

-- no touch is above one after it in a list that rises
risen_back : (rs : List Receipt) (r : Receipt) (more : List Receipt) → TagsRise (touches_of (rs ++ r ∷ more)) → All (λ t. Rises t (touch r.page r.tag)) (touches_of rs)
risen_back rs r more pairs =
    all_before Rises (touches_of rs) (touch r.page r.tag) (touches_of more) (subst (λ ts. AllPairs Rises ts) (map-append (λ q. touch q.page q.tag) rs (r ∷ more)) pairs)

-- a receipt that can be read
pub record IsRead (space : List Target) (v : LiveValue) (j : JournalValue) (r : Receipt) : Type 0 where
  pub page : r.page < pages_of space
  pub tag : r.tag < 2 ^ 64
  pub named : (r.tag ≡ 0) ⊎ Contains (clear_passes_of r.page (steps v j)) r.tag

-- ---- lists of receipts

-- with empty lists at its end this is the other list
abbrev pub Pads : List (List Receipt) → List (List Receipt) → Type 0
Pads before full = (n : ℕ) × (before ++ replicate n [] ≡ full)

-- one receipt more of the last worker
added_middle : (front : List (List Receipt)) (rs : List Receipt) (r : Receipt) → added_to (length front) r (front ++ rs ∷ []) ≡ front ++ (rs ++ r ∷ []) ∷ []
added_middle [] rs r = refl
added_middle (f ∷ front) rs r = ap (λ l. f ∷ l) (added_middle front rs r)

-- and those of this worker so far
index_middle : (front : List (List Receipt)) (rs : List Receipt) → slice_index_or (front ++ rs ∷ []) (length front) [] ≡ rs
index_middle [] rs = refl
index_middle (f ∷ front) rs = index_middle front rs

-- no receipts of a worker
abbrev nobody : List Receipt
nobody = []

-- one such worker more
empty_snoc : (n : ℕ) → replicate (suc n) nobody ≡ replicate n nobody ++ nobody ∷ []
empty_snoc zero = refl
empty_snoc (suc n) = ap (λ l. nobody ∷ l) (empty_snoc n)

-- at the end of a list
pad_more : (n : ℕ) (before : List (List Receipt)) → before ++ replicate (suc n) [] ≡ (before ++ replicate n []) ++ [] ∷ []
pad_more n before = ap (λ l. before ++ l) (empty_snoc n) ∙ sym (append_assoc before (replicate n nobody) (nobody ∷ []))

-- one receipt of this worker more
record MoreSeen (before front : List (List Receipt)) (rs : List Receipt) (r : Receipt) : Type 0 where
  few : length before ≤ length front + 1
  grown : with_receipt before (length front) r ≡ front ++ (rs ++ r ∷ []) ∷ []
  those : receipts_so_far before (length front) ≡ rs

-- the next receipt of the last worker pads the list up to this worker
more_seen : (before front : List (List Receipt)) (rs : List Receipt) (r : Receipt) → Pads before (front ++ rs ∷ []) → MoreSeen before front rs r
more_seen before front rs r pads =
    let none : List Receipt = [] in
    let n = pads.0 in
    let w = length front in
    let sizes : length (before ++ replicate n none) ≡ length (front ++ rs ∷ []) = ap length pads.1 in
    let count : length before + n ≡ w + 1 = omega (arith, sizes, length-append before (replicate n none), length-replicate n none, length-append front (rs ∷ [])) in
    let missing : w + 1 - length before ≡ n = omega (arith, count) in
    record {
      few = omega (arith, count);
      grown = ap (λ k. added_to w r (before ++ replicate k none)) missing ∙ ap (added_to w r) pads.1 ∙ added_middle front rs r;
      those = sym (padded_at before n w) ∙ ap (λ l. slice_index_or l w []) pads.1 ∙ index_middle front rs;
    }

-- where lines of receipts lead
pub record SeenTo (v : LiveValue) (j : JournalValue) (before full : List (List Receipt)) (seen : List (List ℕ)) : Type 0 where
  pub behind : List (List Receipt)
  pub pads : Pads behind full
  pub leads : (lines : List (List ℕ)) → leads_to (InReceipts v j before) (seen ++ lines) ≡ leads_to (InReceipts v j behind) lines

-- the line of a receipt that can be read leads on
receipt_leads : (v : LiveValue) (j : JournalValue) → PlacesFit v.setup.space → (before front : List (List Receipt)) (rs : List Receipt) (r : Receipt) (more : List Receipt) → length front < MAX_WORKERS
    → MoreSeen before front rs r → TagsRise (touches_of (rs ++ r ∷ more)) → IsRead v.setup.space v j r
    → after_receipt v j before (spelled_seen v.setup.space (length front) r) ≡ Some (InReceipts v j (with_receipt before (length front) r))
receipt_leads v j fit before front rs r more few next rise read =
    let w = length front in
    let back = seen_back v.setup.space w r (fit r.page read.page) (omega (arith, few)) read.tag in
    let risen : All (λ t. Rises t (touch r.page r.tag)) (touches_of (receipts_so_far before w)) =
    subst (λ qs. All (λ t. Rises t (touch r.page r.tag)) (touches_of qs)) (sym next.those) (risen_back rs r more rise)
    in
    let may = (may_decides (steps v j) before w r).1 ((next.few, few), (read.named, risen)) in
    ap (λ o. option_and_then (λ (x : ℕ × Receipt). where_so (may_be_seen (steps v j) before x.0 x.1) (InReceipts v j (with_receipt before x.0 x.1))) o) back
    ∙ found (may_be_seen (steps v j) before w r) (InReceipts v j (with_receipt before w r)) may

-- the lines of one worker
worker_seen : (v : LiveValue) (j : JournalValue) → PlacesFit v.setup.space → (before front : List (List Receipt)) (rs more : List Receipt) → length front < MAX_WORKERS
    → Pads before (front ++ rs ∷ []) → TagsRise (touches_of (rs ++ more)) → AllByRecursion (IsRead v.setup.space v j) more
    → SeenTo v j before (front ++ (rs ++ more) ∷ []) (map (spelled_seen v.setup.space (length front)) more)
worker_seen v j fit before front rs [] few pads rise each = record { behind = before; pads = subst (λ l. Pads before (front ++ l ∷ [])) (sym (append-nil rs)) pads; leads = λ lines. refl }
worker_seen v j fit before front rs (r ∷ more) few pads rise each =
    let w = length front in
    let next = more_seen before front rs r pads in
    let group = append_assoc rs (r ∷ []) more in
    let behind = with_receipt before w r in
    let rest = worker_seen v j fit behind front (rs ++ r ∷ []) more few (zero, append-nil behind ∙ next.grown) (subst (λ l. TagsRise (touches_of l)) (sym group) rise) each.1 in
    record {
      behind = rest.behind;
      pads = subst (λ l. Pads rest.behind (front ++ l ∷ [])) group rest.pads;
      leads = λ lines.
          leads_by (InReceipts v j before) (InReceipts v j behind) (spelled_seen v.setup.space w r) (map (spelled_seen v.setup.space w) more ++ lines)
          (receipt_leads v j fit before front rs r more few next rise each.0)
          ∙ rest.leads lines;
    }

-- and those of all
pub workers_seen : (v : LiveValue) (j : JournalValue) → PlacesFit v.setup.space → (before front rest : List (List Receipt)) (w : ℕ) → length front ≡ w → w + length rest ≤ MAX_WORKERS
    → Pads before front → AllByRecursion (λ rs. TagsRise (touches_of rs)) rest → AllByRecursion (λ rs. AllByRecursion (IsRead v.setup.space v j) rs) rest
    → SeenTo v j before (front ++ rest) (seen_lines v.setup.space w rest)
workers_seen v j fit before front [] w count few pads rise each = record { behind = before; pads = subst (Pads before) (sym (append-nil front)) pads; leads = λ lines. refl }
workers_seen v j fit before front (rs ∷ rest) w count few pads rise each =
    let here : Pads before (front ++ [] ∷ []) = (suc pads.0, pad_more pads.0 before ∙ ap (λ l. l ++ [] ∷ []) pads.1) in
    let own = worker_seen v j fit before front [] rs (omega (arith, count, few)) here rise.0 each.0 in
    let next = workers_seen v j fit own.behind (front ++ rs ∷ []) rest (w + 1) (omega (arith, length-append front (rs ∷ []), count)) (omega (arith, few)) own.pads rise.1 each.1 in
    let group = append_assoc front (rs ∷ []) rest in
    record {
      behind = next.behind;
      pads = subst (Pads next.behind) group next.pads;
      leads = λ lines.
          ap (leads_to (InReceipts v j before)) (append_assoc (map (spelled_seen v.setup.space w) rs) (seen_lines v.setup.space (w + 1) rest) lines)
          ∙ ap (λ n. leads_to (InReceipts v j before) (map (spelled_seen v.setup.space n) rs ++ (seen_lines v.setup.space (w + 1) rest ++ lines))) (sym count)
          ∙ own.leads (seen_lines v.setup.space (w + 1) rest ++ lines)
          ∙ next.leads lines;
    }
