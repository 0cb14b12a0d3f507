-- What the reader keeps of the entries, after an entry that is no call.
use Rattle.std.proofs.Common.{◌≡◌, ℕ, ◌+◌, ◌^◌, ◌≤◌, ◌<◌, ◌==◌, ◌||◌, Bool, true, false, not, List, [], ◌∷◌, ◌++◌, length, map, take, refl, sym, ap, ◌∙◌, subst, append-nil, length-append, arith}
use Rattle.std.specs.Prelude.{cond, slice_index_or}
use Rattle.std.specs.List.{AllByRecursion, count_by}
use Rattle.std.proofs.lemmas.List.Sums.{sum_by-append, sum_by_push}
use Rattle.std.proofs.lemmas.List.{get_or-map, get_or_default, length-map, same_lists, take_all}
use Rattle.live_commit.specs.declared.phase.Phase.{Phase}
use Rattle.live_commit.specs.Setup.{SetupValue}
use Rattle.damon_types.specs.Space.{pages_of}
use Rattle.page_words.specs.declared.view.Entry.{Entry as Step}
use Rattle.damon_core.specs.State.{Core, row_count}
use Rattle.damon_control.specs.Live.{LiveValue}
use Rattle.run_journal.specs.declared.entry.Entry.{Entry}
use Rattle.run_journal.specs.declared.entry.Entry.TheVariants.{Prepare, Check}
use Rattle.run_journal.specs.declared.entry.Receipt.{Receipt}
use Rattle.journal_check.specs.declared.entries.fold.Fold.{Fold}
use Rattle.run_journal.specs.declared.lawful.Lawful.{Lawful}
use Rattle.journal_check.specs.Ahead.{AheadView, IsPrepared, is_named, named_by, named_by_none, receipts_of}
use Rattle.journal_text.specs.EntryLine.{said_entry}
use Rattle.run_journal.specs.Counted.{CountsOf, prepares}
use Rattle.journal_check.specs.Folding.{FoldStands, GoesOn, IsWithin, open_hits}
use Rattle.run_journal.specs.Growth.{longer, replay_with}
use Rattle.journal_check.specs.Kept.{GainsEntry, IsKept, call_of}
use Rattle.run_journal.specs.Replay.{JournalValue, Replayed, carried, replay}
use Rattle.run_journal.specs.Replaying.{IsCarried, IsReplayOf, ReplayingView}
use Rattle.journal_text.specs.SeenLine.{has_receipt, is_tag}
use Rattle.page_words.specs.PassSteps.{clear_steps, load_steps}
use Rattle.run_journal.specs.Steps.{steps}
use Rattle.journal_check.proofs.AheadLemmas.{named_same, tag_more}
use Rattle.journal_check.proofs.KeptEntries.{kept_more}

-- ---- which receipts are named

-- after a pass is prepared
pub named_prepared : (done : List Step) (pass : ℕ) (picks : List ℕ) (old new : AheadView) → old.named ≡ named_by done old.receipts → IsPrepared pass picks old new
    → new.named ≡ named_by (done ++ clear_steps pass picks) new.receipts
named_prepared done pass picks old new was p =
    let after = named_by (done ++ clear_steps pass picks) in
    let d : ℕ × Receipt = (0, record { page = 0; tag = 0 }) in
    let tag = λ (ss : List Step) (x : ℕ × Receipt). is_tag ss x.1.page x.1.tag in
    let before : length old.named ≡ length old.receipts = ap length was ∙ length-map old.receipts (tag done) in
    let count : length new.named ≡ length (after old.receipts) = p.count ∙ (before ∙ sym (length-map old.receipts (tag (done ++ clear_steps pass picks)))) in
    same_lists new.named (after old.receipts) count (λ i b below.
    let here : i < length old.receipts = omega (arith, below, p.count, before) in
    let x = slice_index_or old.receipts i d in
    get_or_default new.named i b false below
    ∙ (p.each i d here
    ∙ (ap (λ l. slice_index_or l i false || is_named pass picks x.1) was
    ∙ (ap (λ b. b || is_named pass picks x.1) (get_or-map (tag done) old.receipts i d false here)
    ∙ (sym (tag_more done pass picks x.1.page x.1.tag) ∙ sym (get_or-map (tag (done ++ clear_steps pass picks)) old.receipts i d b here))))))
    ∙ ap after (sym p.receipts)

-- before all entries
or_none : (b : Bool) → b ≡ (b || false)
or_none true = refl
or_none false = refl

pub named_none : (xs : List (ℕ × Receipt)) → named_by_none xs ≡ named_by [] xs
named_none [] = refl
named_none (x ∷ xs) = λ k. or_none (x.1.tag == 0) k ∷ named_none xs k

-- after the loads of a pass
named_loaded : (done : List Step) (pass : ℕ) (picks : List ℕ) (bits : List Bool) (xs : List (ℕ × Receipt)) → named_by (done ++ load_steps pass picks bits) xs ≡ named_by done xs
named_loaded done pass picks bits [] = refl
named_loaded done pass picks bits (x ∷ xs) =
    λ k. ((x.1.tag == 0) || named_same done pass picks bits x.1.page x.1.tag k) ∷ named_loaded done pass picks bits xs k

-- ---- how many hits have no receipt

counted_append : {A : Type 0} (f : A → Bool) (xs ys : List A) → count_by f (xs ++ ys) ≡ count_by f xs + count_by f ys
counted_append f xs ys = sum_by-append (λ x. cond (f x) 1 0) xs ys

open_clears : (rs : List Receipt) (pass : ℕ) (picks : List ℕ) → open_hits rs (clear_steps pass picks) ≡ 0
open_clears rs pass [] = refl
open_clears rs pass (p ∷ picks) = open_clears rs pass picks

-- ---- which entry a line says

-- a replay that shows a core and a number of words
abbrev shown : Replayed → Core → ℕ → Replayed
shown r core drawn = record r { state = record r.state { core = core }; drawn = drawn }

-- what is said after a journal is said by what its monitor shows
pub said_in : (v : LiveValue) (j : JournalValue) (r : ReplayingView) (line : List ℕ) (ph : Phase) → IsReplayOf v j r → r.monitor.core.phase ≡ ph
    → said_entry (replay v j) (replay v j).state.core.phase line ≡ said_entry (shown (replay v j) r.monitor.core r.drawn) ph line
said_in v j r line ph h is =
    let same : (replay v j).state.core ≡ r.monitor.core = sym h.stands.same in
    (λ i. said_entry (shown (replay v j) (same i) (sym h.drawn i)) (same i).phase line) ∙ ap (λ p. said_entry (shown (replay v j) r.monitor.core r.drawn) p line) is

-- ---- what stands after an entry

-- all but the replay, the receipts and the numbers stays
pub record SameRest (bits : List Bool) (old new : Fold) : Type 0 where
  pub version : new.version ≡ old.version
  pub next : new.next ≡ old.next
  pub receipts : new.ahead.receipts ≡ old.ahead.receipts
  pub space : new.replay.monitor.core.space ≡ old.replay.monitor.core.space
  pub kept : GainsEntry old.kept new.kept bits []

counts_more : (j : JournalValue) (e : Entry) (old new : Lawful) → CountsOf j old → new.passes ≡ old.passes + prepares e → new.loads ≡ old.loads → new.hits ≡ old.hits → CountsOf (longer j e []) new
counts_more j e old new was passes loads hits = record {
  passes = passes ∙ (ap (λ n. n + prepares e) was.passes ∙ sym (sum_by_push prepares j.entries e));
  loads = loads ∙ (was.loads ∙ ap length (sym (append-nil j.bits)));
  hits = hits ∙ (was.hits ∙ ap (count_by (λ bit. bit)) (sym (append-nil j.bits)));
}

pub prepare_stands : (v : LiveValue) (j : JournalValue) (pass position : ℕ) (old new : Fold) → FoldStands v j old → IsCarried v v j (Prepare pass position) [] new.replay → SameRest [] old new
    → IsPrepared pass new.replay.monitor.core.picks old.ahead new.ahead → new.unreceived ≡ old.unreceived
    → new.counts.passes ≡ old.counts.passes + 1 → new.counts.loads ≡ old.counts.loads → new.counts.hits ≡ old.counts.hits → FoldStands v (longer j (Prepare pass position) []) new
prepare_stands v j pass position old new h carried_is rest prepared unseen passes loads hits =
    let e = Prepare pass position in
    let picks : (carried v (replay_with v j []) e).state.core.picks ≡ new.replay.monitor.core.picks =
    ap (λ (r : Replayed). r.state.core.picks) (sym carried_is.is) ∙ ap (λ (c : Core). c.picks) (sym carried_is.replays.stands.same)
    in
    let done : steps v (longer j e []) ≡ steps v j ++ clear_steps pass new.replay.monitor.core.picks = carried_is.steps_are ∙ ap (λ ps. steps v j ++ clear_steps pass ps) picks in
    let rs = receipts_of new.ahead.receipts in
    record {
      replay = carried_is.replays;
      version = rest.version ∙ h.version;
      space = rest.space ∙ h.space;
      next = rest.next ∙ h.next;
      named = named_prepared (steps v j) pass new.replay.monitor.core.picks old.ahead new.ahead h.named prepared ∙ ap (λ ss. named_by ss new.ahead.receipts) (sym done);
      open_is =
          let clears = open_clears rs pass new.replay.monitor.core.picks in
          let all = counted_append (λ s. not (has_receipt rs s)) (steps v j) (clear_steps pass new.replay.monitor.core.picks) in
          unseen ∙ (h.open_is ∙ (ap (λ xs. open_hits (receipts_of xs) (steps v j)) (sym rest.receipts) ∙ (omega (arith, all, clears) ∙ ap (open_hits rs) (sym done))));
      counts = counts_more j e old.counts new.counts h.counts passes loads hits;
      kept = kept_more v j e [] old.kept new.kept (λ n. refl) h.kept rest.kept;
    }

-- an entry without steps, in a script that may have got its call
pub entry_stands : (v w : LiveValue) (j : JournalValue) (e : Entry) (old new : Fold) → FoldStands v j old → IsCarried v w j e [] new.replay → w.setup ≡ v.setup → steps w (longer j e []) ≡ steps v j ++ [] → prepares e ≡ 0
    → new.version ≡ old.version → new.next ≡ map (λ calls. length calls) w.controllers → new.ahead ≡ old.ahead → new.replay.monitor.core.space ≡ old.replay.monitor.core.space → new.unreceived ≡ old.unreceived → new.counts ≡ old.counts
    → IsKept w (longer j e []) new.kept → FoldStands w (longer j e []) new
entry_stands v w j e old new h carried_is setup steps_are none version next ahead space unseen counts kept =
    let done : steps w (longer j e []) ≡ steps v j = steps_are ∙ append-nil (steps v j) in
    let same : old.counts.passes ≡ old.counts.passes + prepares e = omega (arith, none) in
    record {
      replay = carried_is.replays;
      version = version ∙ (h.version ∙ ap (λ (s : SetupValue). s.version) (sym setup));
      space = space ∙ (h.space ∙ ap (λ (s : SetupValue). s.space) (sym setup));
      next = next;
      named = ap (λ (a : AheadView). a.named) ahead ∙ (h.named ∙ (ap (λ (a : AheadView). named_by (steps v j) a.receipts) (sym ahead) ∙ ap (λ ss. named_by ss new.ahead.receipts) (sym done)));
      open_is = unseen ∙ (h.open_is ∙ (ap (λ (a : AheadView). open_hits (receipts_of a.receipts) (steps v j)) (sym ahead) ∙ ap (open_hits (receipts_of new.ahead.receipts)) (sym done)));
      counts = counts_more j e old.counts new.counts h.counts (ap (λ (c : Lawful). c.passes) counts ∙ same) (ap (λ (c : Lawful). c.loads) counts) (ap (λ (c : Lawful). c.hits) counts);
      kept = kept;
    }

-- one that is no call, too
pub quiet_stands : (v : LiveValue) (j : JournalValue) (e : Entry) (old new : Fold) → FoldStands v j old → IsCarried v v j e [] new.replay → steps v (longer j e []) ≡ steps v j ++ [] → prepares e ≡ 0 → ((n : ℕ) → call_of v n e ≡ []) → SameRest [] old new → new.ahead ≡ old.ahead
    → new.unreceived ≡ old.unreceived → new.counts ≡ old.counts → FoldStands v (longer j e []) new
quiet_stands v j e old new h c steps_are none no_call rest ahead unseen counts =
    entry_stands v v j e old new h c refl steps_are none rest.version (rest.next ∙ h.next) ahead rest.space unseen counts (kept_more v j e [] old.kept new.kept no_call h.kept rest.kept)

pub check_stands : (v : LiveValue) (j : JournalValue) (pass : ℕ) (bits : List Bool) (old new : Fold) → FoldStands v j old → IsCarried v v j (Check pass) bits new.replay → SameRest bits old new → new.ahead ≡ old.ahead
    → length bits ≡ row_count old.replay.monitor.core
    → new.unreceived ≡ old.unreceived + open_hits (receipts_of old.ahead.receipts) (load_steps pass old.replay.monitor.core.picks bits)
    → new.counts.passes ≡ old.counts.passes → new.counts.loads ≡ old.counts.loads + length bits → new.counts.hits ≡ old.counts.hits + count_by (λ bit. bit) bits → FoldStands v (longer j (Check pass) bits) new
check_stands v j pass bits old new h carried_is rest ahead size unseen passes loads hits =
    let e = Check pass in
    let r = replay_with v j bits in
    let same : r.state.core ≡ old.replay.monitor.core = sym h.replay.stands.same in
    let picks = old.replay.monitor.core.picks in
    let all : take (row_count r.state.core) bits ≡ bits = take_all (row_count r.state.core) bits (let n = ap row_count same in omega (arith, n, size)) in
    let own : load_steps pass r.state.core.picks (take (row_count r.state.core) bits) ≡ load_steps pass picks bits = ap (load_steps pass r.state.core.picks) all ∙ ap (λ (c : Core). load_steps pass c.picks bits) same in
    let done : steps v (longer j e bits) ≡ steps v j ++ load_steps pass picks bits = carried_is.steps_are ∙ ap (λ ss. steps v j ++ ss) own in
    let rs = receipts_of old.ahead.receipts in
    let receipts = ap (λ (a : AheadView). a.receipts) ahead in
    let none : old.counts.passes ≡ old.counts.passes + prepares e = omega arith in
    record {
      replay = carried_is.replays;
      version = rest.version ∙ h.version;
      space = rest.space ∙ h.space;
      next = rest.next ∙ h.next;
      named =
          ap (λ (a : AheadView). a.named) ahead
          ∙ (h.named
          ∙ (sym (named_loaded (steps v j) pass picks bits old.ahead.receipts)
          ∙ (ap (λ ss. named_by ss old.ahead.receipts) (sym done) ∙ ap (named_by (steps v (longer j e bits))) (sym receipts))));
      open_is =
          unseen
          ∙ (ap (λ n. n + open_hits rs (load_steps pass picks bits)) h.open_is
          ∙ (sym (counted_append (λ s. not (has_receipt rs s)) (steps v j) (load_steps pass picks bits))
          ∙ (ap (open_hits rs) (sym done) ∙ ap (λ xs. open_hits (receipts_of xs) (steps v (longer j e bits))) (sym receipts))));
      counts = record {
        passes = passes ∙ (none ∙ (ap (λ n. n + prepares e) h.counts.passes ∙ sym (sum_by_push prepares j.entries e)));
        loads = loads ∙ (ap (λ n. n + length bits) h.counts.loads ∙ sym (length-append j.bits bits));
        hits = hits ∙ (ap (λ n. n + count_by (λ bit. bit) bits) h.counts.hits ∙ sym (counted_append (λ bit. bit) j.bits bits));
      };
      kept = kept_more v j e bits old.kept new.kept (λ n. refl) h.kept rest.kept;
    }

-- ---- the numbers stay within the lines

pub all_later : (ns : List ℕ) (n m : ℕ) → n ≤ m → AllByRecursion (λ k. k ≤ n) ns → AllByRecursion (λ k. k ≤ m) ns
all_later [] n m later all = tt
all_later (k ∷ ns) n m later all = (omega (arith, later, all.0), all_later ns n m later all.1)

-- one line more, with the numbers of calls that are within it
pub within_more : (old new : Fold) (lines : ℕ) → IsWithin old lines → AllByRecursion (λ n. n ≤ lines + 1) new.next → new.ahead.pages ≡ old.ahead.pages → new.replay.monitor.core.space ≡ old.replay.monitor.core.space
    → new.replay.monitor.core.ticks ≤ old.replay.monitor.core.ticks + 1 → new.replay.drawn ≤ old.replay.drawn + 2 ^ 33 → new.kept.entries ≡ old.kept.entries + 1
    → new.counts.passes ≤ old.counts.passes + 1 → new.counts.loads ≤ old.counts.loads + 2 ^ 32 → new.counts.hits + old.counts.loads ≤ old.counts.hits + new.counts.loads
    → new.unreceived + old.counts.loads ≤ old.unreceived + new.counts.loads → IsWithin new (lines + 1)
within_more old new lines h next pages space ticks drawn entries passes loads hits unseen = record {
  ticks = omega (arith, ticks, h.ticks);
  drawn = omega (arith, drawn, h.drawn);
  next = next;
  passes = omega (arith, passes, h.passes);
  loads = omega (arith, loads, h.loads);
  hits = omega (arith, hits, h.hits);
  open_few = omega (arith, unseen, h.open_few);
  pages = pages ∙ (h.pages ∙ ap pages_of (sym space));
  entries = omega (arith, entries, h.entries);
}

-- after an entry that is no call
pub entry_goes : (bits : List Bool) (old new : Fold) → SameRest bits old new → new.ahead.pages ≡ old.ahead.pages → new.replay.monitor.core.ticks ≤ old.replay.monitor.core.ticks + 1 → new.replay.drawn ≤ old.replay.drawn + 2 ^ 33
    → new.counts.passes ≤ old.counts.passes + 1 → new.counts.loads ≤ old.counts.loads + 2 ^ 32 → new.counts.hits + old.counts.loads ≤ old.counts.hits + new.counts.loads
    → new.unreceived + old.counts.loads ≤ old.unreceived + new.counts.loads → GoesOn old new
entry_goes bits old new rest pages ticks drawn passes loads hits unseen = record {
  within = λ lines h.
      let next : AllByRecursion (λ n. n ≤ lines + 1) new.next = subst (AllByRecursion (λ n. n ≤ lines + 1)) (sym rest.next) (all_later old.next lines (lines + 1) (omega arith) h.next) in
      within_more old new lines h next pages rest.space ticks drawn rest.kept.entries passes loads hits unseen;
  receipts = rest.receipts;
  space = rest.space;
  keeping = rest.kept.keeping;
}
