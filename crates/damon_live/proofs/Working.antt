-- What workers did, and their receipts.
use Rattle.std.proofs.Common.{◌≡◌, ℕ, zero, suc, ◌+◌, ◌<◌, ◌≤◌, Some, List, [], ◌∷◌, ◌++◌, length, take, get_or, refl, sym, ap, ◌∙◌, subst, append_assoc, length-append, arith}
use Rattle.std.specs.Prelude.{All, map, slice_get, slice_index_or}
use Rattle.std.specs.List.{AllByRecursion}
use Rattle.std.proofs.lemmas.List.{append-nil, take_all, take_more}
use Rattle.std.proofs.lemmas.List.Sums.{sum_by-cons}
use Rattle.damon_types.specs.declared.space.Target.{Target}
use Rattle.damon_types.specs.Space.{IsSpace, pages_of}
use mathlib.Core.List.{map-append}
use Rattle.page_words.specs.declared.view.Entry.{Entry as Step}
use Rattle.page_words.specs.declared.view.Entry.TheVariants.{Gathered}
use Rattle.damon_types.specs.Listed.{Listed}
use Rattle.damon_control.specs.Live.{LiveValue}
use Rattle.damon_control.specs.LiveView.{traces_of}
use Rattle.run_journal.specs.declared.entry.Receipt.{Receipt}
use Rattle.run_journal.specs.Lawful.{all_of, gathers, receipts_said, touches_of}
use Rattle.damon_live.specs.Whole.{pages_touched}
use Rattle.damon_live.specs.Work.{AreNumbered, IsGathered}

-- the trace of a worker, as the script keeps it
pub trace_found : (lists : List (Listed ℕ)) (worker : ℕ) (t : Listed ℕ) → slice_get lists worker ≡ Some t → slice_index_or (traces_of lists) worker [] ≡ t.list
trace_found [] worker t here = absurd (cc here)
trace_found (l ∷ ls) zero t here = let e : l ≡ t = cc here in ap (λ (k : Listed ℕ). k.list) e
trace_found (l ∷ ls) (suc worker) t here = trace_found ls worker t here

-- what holds of each item holds of one that is found
pub all_found : {A : Type 0} (P : A → Type 0) (xs : List A) (k : ℕ) (x : A) → All P xs → slice_get xs k ≡ Some x → P x
all_found P [] k x all here = absurd (cc here)
all_found P (y ∷ ys) zero x all here = let e : y ≡ x = cc here in subst P e (all 0 y (omega arith))
all_found P (y ∷ ys) (suc k) x all here = all_found P ys k x (λ i d below. all (suc i) d (omega (arith, below))) here

pub found_below : {A : Type 0} (xs : List A) (k : ℕ) (x : A) → slice_get xs k ≡ Some x → k < length xs
found_below [] k x here = absurd (cc here)
found_below (y ∷ ys) zero x here = omega arith
found_below (y ∷ ys) (suc k) x here = omega (arith, found_below ys k x here)

-- one item more, with the next number
pub numbered_more : {A : Type 0} (number : A → ℕ) (xs : List A) (x : A) → AreNumbered number xs → number x ≡ length xs → AreNumbered number (xs ++ x ∷ [])
numbered_more {A = A} number xs x are next i d below =
    let plain : 0 + i ≡ i = omega arith in
    from 0 xs (λ k e l. let same : k ≡ 0 + k = omega arith in are k e l ∙ same) (let size : length xs ≡ 0 + length xs = omega arith in next ∙ size) i below ∙ plain
  where
    from : (n : ℕ) (ys : List A) → ((k : ℕ) (e : A) → k < length ys → number (slice_index_or ys k e) ≡ n + k) → number x ≡ n + length ys → (k : ℕ) → k < length (ys ++ x ∷ []) → number (slice_index_or (ys ++ x ∷ []) k d) ≡ n + k
    from n [] some last zero here = last
    from n [] some last (suc k) here = absurd (omega (arith, here))
    from n (y ∷ ys) some last zero here = some 0 y (omega arith)
    from n (y ∷ ys) some last (suc k) here =
        let later : n + 1 + k ≡ n + suc k = omega arith in
        let size : n + suc (length ys) ≡ n + 1 + length ys = omega arith in
        from (n + 1) ys (λ j e l. let same : n + suc j ≡ n + 1 + j = omega arith in some (suc j) e (omega (arith, l)) ∙ same) (last ∙ size) k (omega (arith, here)) ∙ later

-- one seat more is gathered
pub gathers_more : (k : ℕ) (all : List (List Receipt)) (rs : List Receipt) (worker : ℕ) → worker ≡ k + length all → gathers k (all ++ rs ∷ []) ≡ gathers k all ++ Gathered worker (touches_of rs) ∷ []
gathers_more k [] rs worker is = let e : k ≡ worker = omega (arith, is) in ap (λ n. Gathered n (touches_of rs) ∷ []) e
gathers_more k (x ∷ all) rs worker is = ap (λ l. Gathered k (touches_of x) ∷ l) (gathers_more (k + 1) all rs worker (omega (arith, is)))

-- receipts of the pages of traces are of pages of the space
receipts_within : (pages : ℕ) (rs : List Receipt) (t : List ℕ) (rest : List Receipt) → pages_touched rs ≡ t → All (λ p. p < pages) t → AllByRecursion (λ (r : Receipt). r.page < pages) rest → AllByRecursion (λ (r : Receipt). r.page < pages) (rs ++ rest)
receipts_within pages [] t rest is within more = more
receipts_within pages (r ∷ rs) [] rest is within more = absurd (cc is)
receipts_within pages (r ∷ rs) (p ∷ t) rest is within more =
    let head : p ≡ r.page = cc is in
    let tail : pages_touched rs ≡ t = cc is in
    (subst (λ k. k < pages) head (within 0 p (omega arith)), receipts_within pages rs t rest tail (λ i d below. within (suc i) d (omega (arith, below))) more)

pub all_within : (pages : ℕ) (all : List (List Receipt)) (ts : List (List ℕ)) → map pages_touched all ≡ ts → All (λ t. All (λ p. p < pages) t) ts → AllByRecursion (λ (r : Receipt). r.page < pages) (all_of all)
all_within pages [] ts is within = tt
all_within pages (rs ∷ all) [] is within = absurd (cc is)
all_within pages (rs ∷ all) (t ∷ ts) is within =
    let head : pages_touched rs ≡ t = cc is in
    let tail : map pages_touched all ≡ ts = cc is in
    receipts_within pages rs t (all_of all) head (within 0 t (omega arith)) (all_within pages all ts tail (λ i d below. within (suc i) d (omega (arith, below))))

-- as many others with the same numbers
pub numbered_alike : {A B : Type 0} (f : A → ℕ) (h : B → ℕ) (xs : List A) (ys : List B) → length ys ≡ length xs → AreNumbered f xs → ((i : ℕ) (y : B) (x : A) → i < length xs → h (slice_index_or ys i y) ≡ f (slice_index_or xs i x)) → AreNumbered h ys
numbered_alike f h [] ys size are alike i y below = absurd (omega (arith, size, below))
numbered_alike f h (x ∷ xs) ys size are alike i y below = alike i y x (omega (arith, size, below)) ∙ are i x (omega (arith, size, below))

-- the pages of the traces, as the script says them
pub pages_said : (pages : ℕ) (lists : List (Listed ℕ)) → All (λ (t : Listed ℕ). All (λ p. p < pages) t.list) lists → All (λ (t : List ℕ). All (λ p. p < pages) t) (traces_of lists)
pages_said pages [] all i d below = absurd (omega (arith, below))
pages_said pages (l ∷ ls) all zero d below = all 0 l (omega arith)
pages_said pages (l ∷ ls) all (suc i) d below = pages_said pages ls (λ k e lt. all (suc k) e (omega (arith, lt))) i d (omega (arith, below))

same_index : (xs : List (List ℕ)) (k : ℕ) → slice_index_or xs k [] ≡ get_or xs k []
same_index [] k = refl
same_index (x ∷ xs) zero = refl
same_index (x ∷ xs) (suc k) = same_index xs k

-- the seats of the first workers were gathered, in order
pub record AreGathered (v : LiveValue) (start now : List Step) (all : List (List Receipt)) : Type 0 where
  pub entries : now ≡ start ++ gathers 0 all
  pub traces : map pages_touched all ≡ take (length all) v.workers

pub none_said : (all : Listed (Listed Receipt)) → all.list ≡ [] → receipts_said all ≡ []
none_said all none = ap (map (λ (rs : Listed Receipt). rs.list)) none

pub none_counted : (all : Listed (Listed Receipt)) → all.list ≡ [] → length (receipts_said all) ≡ 0
none_counted all none = ap length (none_said all none)

pub none_gathered : (v : LiveValue) (start : List Step) (all : Listed (Listed Receipt)) → all.list ≡ [] → AreGathered v start start (receipts_said all)
none_gathered v start all none = record {
  entries = sym (append-nil start) ∙ ap (λ rs. start ++ gathers 0 rs) (sym (none_said all none));
  traces = ap (map pages_touched) (none_said all none) ∙ ap (λ (rs : List (List Receipt)). take (length rs) v.workers) (sym (none_said all none));
}

-- once all are
pub all_traces : (v : LiveValue) (start now : List Step) (all : List (List Receipt)) → AreGathered v start now all → length all ≡ length v.workers → map pages_touched all ≡ v.workers
all_traces v start now all a size = a.traces ∙ (ap (λ k. take k v.workers) size ∙ take_all (length v.workers) v.workers (omega arith))

pub one_more_gathered : (v : LiveValue) (worker : ℕ) (start old new : List Step) (before after : List (List Receipt)) → AreGathered v start old before → IsGathered v worker old new before after → worker ≡ length before → length before < length v.workers → AreGathered v start new after
one_more_gathered v worker start old new before after a i next below =
    let rs = i.receipts in
    let step : Step = Gathered worker (touches_of rs) in
    let plain : worker ≡ 0 + length before = omega (arith, next) in
    let grown = gathers_more 0 before rs worker plain in
    let size : length after ≡ length before + 1 = ap length i.more ∙ length-append before (rs ∷ []) in
    let trace : pages_touched rs ≡ get_or v.workers (length before) [] = i.trace ∙ (same_index v.workers worker ∙ ap (λ k. get_or v.workers k []) next) in
    record {
      entries =
          i.entries
          ∙ (ap (λ es. es ++ step ∷ []) a.entries
          ∙ (append_assoc start (gathers 0 before) (step ∷ [])
          ∙ (ap (λ es. start ++ es) (sym grown) ∙ ap (λ l. start ++ gathers 0 l) (sym i.more))));
      traces =
          ap (map pages_touched) i.more
          ∙ (map-append pages_touched before (rs ∷ [])
          ∙ (ap (λ l. l ++ pages_touched rs ∷ []) a.traces
          ∙ (ap (λ t. take (length before) v.workers ++ t ∷ []) trace
          ∙ (sym (take_more v.workers (length before) [] below) ∙ ap (λ k. take k v.workers) (sym size)))));
    }

-- a space has a page
pub some_page : (ts : List Target) → IsSpace ts → 1 ≤ pages_of ts
some_page [] sound = absurd (omega (arith, sound.some))
some_page (t ∷ ts) sound = (let one = sound.each 0 t (omega arith) in omega (arith, one.some, sum_by-cons (λ (x : Target). x.pages) t ts))

-- the trace of a worker is in the space
pub trace_within : (pages : ℕ) (ts : List (List ℕ)) (worker : ℕ) → All (λ (t : List ℕ). All (λ p. p < pages) t) ts → worker < length ts → All (λ p. p < pages) (slice_index_or ts worker [])
trace_within pages [] worker all below = absurd (omega (arith, below))
trace_within pages (t ∷ ts) zero all below = all 0 t (omega arith)
trace_within pages (t ∷ ts) (suc worker) all below = trace_within pages ts worker (λ k e lt. all (suc k) e (omega (arith, lt))) (omega (arith, below))
