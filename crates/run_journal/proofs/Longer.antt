-- A journal with one entry more, whose script may have got more calls.
use Rattle.std.proofs.Common.{◌≡◌, ◌⊎◌, inl, inr, ⊎_elim, ℕ, zero, suc, ◌<◌, Bool, List, [], ◌∷◌, ◌++◌, length, refl, sym, ap, ◌∙◌, subst, arith}
use Rattle.std.specs.Prelude.{Option, Some, slice_get, slice_index_or}
use Rattle.std.specs.Option.{option_map_or}
use Rattle.damon_core.specs.Reached.{run}
use Rattle.damon_control.specs.Live.{CallValue, LiveValue}
use Rattle.run_journal.specs.declared.entry.Entry.{Entry}
use Rattle.run_journal.specs.declared.entry.Entry.TheVariants.{Prepare, Check, Void, Aggregate, Call}
use Rattle.run_journal.specs.Growth.{added_to, longer, replay_with}
use Rattle.run_journal.specs.Replay.{EntriesFit, EntryFits, IsJournalOf, JournalValue, Replayed, begun, call_at, call_event, carried, check_size, check_sizes, check_sizes_from, replay, replay_from}
use Rattle.run_journal.specs.Steps.{entry_steps, steps, steps_from}
use Rattle.run_journal.proofs.Growing.{grown}

-- ---- lists of calls

-- an item of a list is one of the list with more behind
slice_get-append : {A : Type 0} (xs ys : List A) (i : ℕ) (x : A) → slice_get xs i ≡ Some x → slice_get (xs ++ ys) i ≡ Some x
slice_get-append [] ys i x is = absurd cc
slice_get-append (y ∷ xs) ys zero x is = is
slice_get-append (y ∷ xs) ys (suc i) x is = slice_get-append xs ys i x is

-- the last item
slice_get-last : {A : Type 0} (xs : List A) (x : A) → slice_get (xs ++ x ∷ []) (length xs) ≡ Some x
slice_get-last [] x = refl
slice_get-last (y ∷ xs) x = slice_get-last xs x

-- the call of a controller with an index
abbrev pub called_in : List (List CallValue) → ℕ → ℕ → Option CallValue
called_in lists controller index = slice_get (slice_index_or lists controller []) index

-- one call more keeps those before
pub added-keeps : (lists : List (List CallValue)) (k : ℕ) (call : CallValue) (c i : ℕ) (x : CallValue) → called_in lists c i ≡ Some x → called_in (added_to k call lists) c i ≡ Some x
added-keeps [] zero call c i x is = is
added-keeps [] (suc k) call c i x is = is
added-keeps (l ∷ lists) zero call zero i x is = slice_get-append l (call ∷ []) i x is
added-keeps (l ∷ lists) zero call (suc c) i x is = is
added-keeps (l ∷ lists) (suc k) call zero i x is = is
added-keeps (l ∷ lists) (suc k) call (suc c) i x is = added-keeps lists k call c i x is

-- and it is the last one of its controller
pub added-last : (lists : List (List CallValue)) (k : ℕ) (call : CallValue) → k < length lists → called_in (added_to k call lists) k (length (slice_index_or lists k [])) ≡ Some call
added-last [] k call below = absurd (omega (arith, below))
added-last (l ∷ lists) zero call below = slice_get-last l call
added-last (l ∷ lists) (suc k) call below = added-last lists k call (omega (arith, below))

-- an item of a list with one more behind is one of the list, or that one
slice_get-more : {A : Type 0} (xs : List A) (y : A) (i : ℕ) (x : A) → slice_get (xs ++ y ∷ []) i ≡ Some x → (slice_get xs i ≡ Some x) ⊎ ((i ≡ length xs) × (y ≡ x))
slice_get-more [] y zero x is = inr (refl, cc)
slice_get-more [] y (suc i) x is = absurd (none_there i is)
  where
    none_there : (k : ℕ) → slice_get [] k ≡ Some x → ⊥
    none_there k there = cc
slice_get-more (z ∷ xs) y zero x is = inl is
slice_get-more (z ∷ xs) y (suc i) x is = ⊎_elim (λ before. inl before) (λ (last : (i ≡ length xs) × (y ≡ x)). inr (ap suc last.0, last.1)) (slice_get-more xs y i x is)

-- a call is one of those before, or the one that was added
pub added-of : (lists : List (List CallValue)) (k : ℕ) (call : CallValue) (c i : ℕ) (x : CallValue) → called_in (added_to k call lists) c i ≡ Some x
    → (called_in lists c i ≡ Some x) ⊎ ((c ≡ k) × (i ≡ length (slice_index_or lists k [])) × (call ≡ x))
added-of [] zero call c i x is = inl is
added-of [] (suc k) call c i x is = inl is
added-of (l ∷ lists) zero call zero i x is = ⊎_elim (λ before. inl before) (λ (last : (i ≡ length l) × (call ≡ x)). inr (refl, last.0, last.1)) (slice_get-more l call i x is)
added-of (l ∷ lists) zero call (suc c) i x is = inl is
added-of (l ∷ lists) (suc k) call zero i x is = inl is
added-of (l ∷ lists) (suc k) call (suc c) i x is = ⊎_elim (λ before. inl before) (λ (last : (c ≡ k) × (i ≡ length (slice_index_or lists k [])) × (call ≡ x)). inr (ap suc last.0, last.1, last.2)) (added-of lists k call c i x is)

-- there are as many controllers as before
pub length-added : (lists : List (List CallValue)) (k : ℕ) (call : CallValue) → length (added_to k call lists) ≡ length lists
length-added [] zero call = refl
length-added [] (suc k) call = refl
length-added (l ∷ lists) zero call = refl
length-added (l ∷ lists) (suc k) call = omega (arith, length-added lists k call)

-- ---- other calls, among which each entry finds its own

-- a script with these calls
abbrev pub with_calls : LiveValue → List (List CallValue) → LiveValue
with_calls v calls = record v { controllers = calls }

-- these calls are those of the script, and perhaps more
abbrev pub KeepsCalls : LiveValue → List (List CallValue) → Type 0
KeepsCalls v calls = (c i : ℕ) (x : CallValue) → call_at v c i ≡ Some x → called_in calls c i ≡ Some x

-- an entry of two scripts fits, and does the same
pub record SameEntry (v w : LiveValue) (r : Replayed) (e : Entry) : Type 0 where
  pub fits : EntryFits w r e
  pub next : carried w r e ≡ carried v r e
  pub done : entry_steps w r e ≡ entry_steps v r e

-- so it does where there are more calls
pub entry-kept : (v : LiveValue) (calls : List (List CallValue)) → KeepsCalls v calls → (r : Replayed) (e : Entry) → EntryFits v r e → SameEntry v (with_calls v calls) r e
entry-kept v calls keeps r (Prepare pass pos) fits = record { fits = fits; next = refl; done = refl }
entry-kept v calls keeps r (Check pass) fits = record { fits = fits; next = refl; done = refl }
entry-kept v calls keeps r (Void pass) fits = record { fits = fits; next = refl; done = refl }
entry-kept v calls keeps r (Aggregate tick pos) fits = record { fits = fits; next = refl; done = refl }
entry-kept v calls keeps r (Call c i answer) fits =
    let same : called_in calls c i ≡ call_at v c i = keeps c i fits.1.0 fits.1.1 ∙ sym fits.1.1 in
    record {
      fits = (fits.0, (fits.1.0, keeps c i fits.1.0 fits.1.1, fits.1.2));
      next = ap (λ o. record (carried v r (Call c i answer)) { state = run r.state (option_map_or (λ call. call_event call ∷ []) o []) }) same;
      done = refl;
    }

-- entries of two scripts do the same
pub record SameEntries (v w : LiveValue) (r : Replayed) (es : List Entry) : Type 0 where
  pub fit : EntriesFit w r es
  pub is : replay_from w r es ≡ replay_from v r es
  pub steps_are : steps_from w r es ≡ steps_from v r es
  pub sizes_are : check_sizes_from w r es ≡ check_sizes_from v r es

-- and so do all entries
pub entries-kept : (v : LiveValue) (calls : List (List CallValue)) → KeepsCalls v calls → (r : Replayed) (es : List Entry) → EntriesFit v r es → SameEntries v (with_calls v calls) r es
entries-kept v calls keeps r [] fit = record { fit = tt; is = refl; steps_are = refl; sizes_are = refl }
entries-kept v calls keeps r (e ∷ es) fit =
    let w = with_calls v calls in
    let here = entry-kept v calls keeps r e fit.0 in
    let rest = entries-kept v calls keeps (carried v r e) es fit.1 in
    record {
      fit = (here.fits, subst (λ x. EntriesFit w x es) (sym here.next) rest.fit);
      is = ap (λ x. replay_from w x es) here.next ∙ rest.is;
      steps_are = (λ i. here.done i ++ steps_from w (here.next i) es) ∙ ap (λ l. entry_steps v r e ++ l) rest.steps_are;
      sizes_are = ap (λ x. check_size r e ++ check_sizes_from w x es) here.next ∙ ap (λ l. check_size r e ++ l) rest.sizes_are;
    }

-- ---- one entry more, after which the script may have more calls

-- The longer journal is one of the script with the new calls: its replay, its steps and the sizes of its checks are those before,
-- and then those of the entry.
pub record IsLonger (v w : LiveValue) (j : JournalValue) (e : Entry) (bits : List Bool) : Type 0 where
  pub journal : IsJournalOf w (longer j e bits)
  pub is : replay w (longer j e bits) ≡ carried w (replay_with v j bits) e
  pub steps_are : steps w (longer j e bits) ≡ steps v j ++ entry_steps w (replay_with v j bits) e
  pub sizes_are : check_sizes w (longer j e bits) ≡ check_sizes v j ++ check_size (replay_with v j bits) e

-- a journal is also one of the script with more calls
pub journal-kept : (v : LiveValue) (calls : List (List CallValue)) (j : JournalValue) → KeepsCalls v calls → IsJournalOf v j → IsJournalOf (with_calls v calls) j
journal-kept v calls j keeps is =
    let same = entries-kept v calls keeps (begun v j.bits) j.entries is.fit in
    record { fit = same.fit; none_left = ap (λ (x : Replayed). x.bits) same.is ∙ is.none_left }

-- one entry more, which fits among the new calls and leaves no result
pub lengthened : (v : LiveValue) (calls : List (List CallValue)) (j : JournalValue) (e : Entry) (bits : List Bool) → KeepsCalls v calls → IsJournalOf v j
    → EntryFits (with_calls v calls) (replay_with v j bits) e → (carried (with_calls v calls) (replay_with v j bits) e).bits ≡ [] → IsLonger v (with_calls v calls) j e bits
lengthened v calls j e bits keeps is fits none =
    let w = with_calls v calls in
    let same = entries-kept v calls keeps (begun v j.bits) j.entries is.fit in
    let before : replay_with w j bits ≡ replay_with v j bits = ap {A = Replayed} {B = Replayed} (λ x. record x { bits = bits }) same.is in
    let own = journal-kept v calls j keeps is in
    let more = grown w j e bits own (subst (λ x. EntryFits w x e) (sym before) fits) (ap (λ x. (carried w x e).bits) before ∙ none) in
    record {
      journal = more.journal;
      is = more.is ∙ ap (λ x. carried w x e) before;
      steps_are = more.steps_are ∙ (ap (λ l. l ++ entry_steps w (replay_with w j bits) e) same.steps_are ∙ ap (λ x. steps v j ++ entry_steps w x e) before);
      sizes_are = more.sizes_are ∙ (ap (λ l. l ++ check_size (replay_with w j bits) e) same.sizes_are ∙ ap (λ x. check_sizes v j ++ check_size x e) before);
    }
