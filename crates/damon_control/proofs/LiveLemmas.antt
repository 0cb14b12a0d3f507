-- The lines of the blocks of a live script.
use Rattle.std.proofs.Common.{◌≡◌, ◌∷◌, [], ◌==◌, ◌||◌, ◌+◌, ◌-◌, ◌<◌, ◌≤◌, ℕ, zero, suc, Bool, true, false, not, List, ◌++◌, length, map, codes, Ok, Err, refl, sym, ap, ◌∙◌, arith}
use Rattle.std.specs.Prelude.{All, Result}
use Rattle.std.specs.List.{AllByRecursion, range_with_len}
use Rattle.std.proofs.lemmas.Bool.Decides.{nat_tests}
use Rattle.std.proofs.lemmas.List.{length-append, length-map}
use Rattle.std.proofs.lemmas.List.Elements.{All-from_recursion}
use Rattle.std.proofs.lemmas.List.Sums.{sum_by-append, sum_by-cons}
use Rattle.damon_types.specs.Listed.{Listed}
use Rattle.damon_control.specs.declared.live.Call.{Call}
use Rattle.damon_control.specs.declared.fault.ScriptFault.{ScriptFault}
use Rattle.script_lines.specs.declared.kind.ScriptKind.{ScriptKind}
use Rattle.damon_control.specs.declared.grammar.Grammar.TheVariants.{OfLive}
use Rattle.damon_control.specs.declared.lines.Lines.{Lines}
use Rattle.script_lines.specs.Body.{no_commit}
use Rattle.damon_control.specs.Left.{first_begins, reads_left, reads_on}
use Rattle.damon_control.specs.Live.{CallValue, LiveValue, ShowCall, call_within, count_all, to_last, with_call}
use Rattle.script_lines.specs.Blocks.{touches_within}
use Rattle.damon_control.specs.LiveView.{NoBlock, NoCall, NoWorker, call_value, calls_of, reads_call, reads_touches, with_controllers, with_workers}
use Rattle.script_lines.specs.Refusal.{◌>>=◌}
use Rattle.damon_control.specs.Script.{InBody, InCommit, Place, after_live, at, live_within}
use Rattle.script_lines.specs.Words.{alone, begins_with, same_word}
use Rattle.script_lines.proofs.Lemmas.{begins_other}

pub to_last-more : {A : Type 0} (lists : List (List A)) (last items : List A) → to_last (lists ++ last ∷ []) items ≡ lists ++ (last ++ items) ∷ []
to_last-more [] last items = refl
to_last-more (list ∷ []) last items = refl
to_last-more (list ∷ next ∷ more) last items = ap (λ ls. list ∷ ls) (to_last-more (next ∷ more) last items)

pub count_all-more : {A : Type 0} (lists : List (List A)) (last : List A) → count_all (lists ++ last ∷ []) ≡ count_all lists + length last
count_all-more lists last = omega (arith, sum_by-append length lists (last ∷ []), sum_by-cons length last [])

pub some_more : {A : Type 0} (xs : List A) (x : A) → (length (xs ++ x ∷ []) == 0) ≡ false
some_more xs x = grind (arith, nat_tests, length-append xs (x ∷ []))

-- what is said by a step within a live script
pub joined : {A : Type 0} (n : ℕ) (r : Result A ScriptKind) (f : A → LiveValue) (next : Place OfLive → Result LiveValue ScriptFault)
    → (at n (live_within (r >>= λ x. Ok (f x))) >>= next) ≡ (at n r >>= λ x. next (InBody (f x)))
joined n (Ok x) f next = refl
joined n (Err kind) f next = refl

-- ---- touches

-- a line of touches of the last worker
pub touches_after : (v : LiveValue) (ws : List (List ℕ)) (t line : List ℕ) → (begins_with (codes "touch") line || begins_with (codes "sweep") line) ≡ true
    → after_live (with_workers v (ws ++ t ∷ [])) line ≡ live_within (touches_within v.setup.space line (count_all ws + length t) >>= λ pages. Ok (with_workers v (ws ++ (t ++ pages) ∷ [])))
touches_after v ws t line is = by (begins_with (codes "touch") line) refl
  where
    from : (word : List ℕ) → begins_with word line ≡ true → same_word word (codes "end") ≡ false → same_word word (codes "controller") ≡ false → same_word word (codes "worker") ≡ false
        → after_live (with_workers v (ws ++ t ∷ [])) line ≡ live_within (touches_within v.setup.space line (count_all ws + length t) >>= λ pages. Ok (with_workers v (ws ++ (t ++ pages) ∷ [])))
    from word begins one two three =
        rw (begins_other word (codes "end") line begins one, begins_other word (codes "controller") line begins two, begins_other word (codes "worker") line begins three, some_more ws t)
        (ap (λ n. live_within (touches_within v.setup.space line n >>= λ pages. Ok (with_workers v (to_last (ws ++ t ∷ []) pages)))) (count_all-more ws t)
        ∙ ap (λ (f : List ℕ → List (List ℕ)). live_within (touches_within v.setup.space line (count_all ws + length t) >>= λ pages. Ok (with_workers v (f pages)))) (λ i pages. to_last-more ws t pages i))

    by : (test : Bool) → begins_with (codes "touch") line ≡ test
        → after_live (with_workers v (ws ++ t ∷ [])) line ≡ live_within (touches_within v.setup.space line (count_all ws + length t) >>= λ pages. Ok (with_workers v (ws ++ (t ++ pages) ∷ [])))
    by true e = from (codes "touch") e refl refl refl
    by false e = from (codes "sweep") (rw e at is) refl refl refl

pub touches_read : (v : LiveValue) (ws : List (List ℕ)) (t line : List ℕ) (lines : Lines) → (begins_with (codes "touch") line || begins_with (codes "sweep") line) ≡ true
    → reads_on OfLive (InBody (with_workers v (ws ++ t ∷ []))) line lines ≡ reads_touches v ws t line lines
touches_read v ws t line lines is =
    ap (λ r. at lines.taken r >>= λ next. reads_left OfLive next lines) (touches_after v ws t line is)
    ∙ joined lines.taken (touches_within v.setup.space line (count_all ws + length t)) (λ pages. with_workers v (ws ++ (t ++ pages) ∷ [])) (λ next. reads_left OfLive next lines)

-- ---- pages in order

pub range-more : (a n : ℕ) → range_with_len a (suc n) ≡ range_with_len a n ++ (a + n) ∷ []
range-more a zero = let same : a ≡ a + 0 = omega arith in ap (λ k. k ∷ []) same
range-more a (suc n) =
    let same : a + 1 + n ≡ a + suc n = omega arith in
    ap (λ ks. a ∷ ks) (range-more (a + 1) n ∙ ap (λ k. range_with_len (a + 1) n ++ k ∷ []) same)

-- one page more
pub range-step : (a page : ℕ) → a ≤ page → range_with_len a (page + 1 - a) ≡ range_with_len a (page - a) ++ page ∷ []
range-step a page low =
    let more : page + 1 - a ≡ suc (page - a) = omega (arith, low) in
    let last : a + (page - a) ≡ page = omega (arith, low) in
    ap (λ n. range_with_len a n) more ∙ range-more a (page - a) ∙ ap (λ p. range_with_len a (page - a) ++ p ∷ []) last

range-below : (a n most : ℕ) → a + n ≤ most → AllByRecursion (λ p. p < most) (range_with_len a n)
range-below a zero most within = tt
range-below a (suc n) most within = (omega (arith, within), range-below (a + 1) n most (omega (arith, within)))

pub range-All : (a n most : ℕ) → a + n ≤ most → All (λ p. p < most) (range_with_len a n)
range-All a n most within = All-from_recursion (λ p. p < most) (range_with_len a n) (range-below a n most within)

-- ---- calls

pub call_read : (v : LiveValue) (cs : List (List CallValue)) (t : List CallValue) (call : CallValue) (lines : Lines)
    → (at lines.taken (live_within (with_call (with_controllers v (cs ++ t ∷ [])) call)) >>= λ next. reads_left OfLive next lines) ≡ reads_call v cs t call lines
call_read v cs t call lines =
    ap (λ n. at lines.taken (live_within (call_within n >>= λ x. Ok (with_controllers v (to_last (cs ++ t ∷ []) (call ∷ []))))) >>= λ next. reads_left OfLive next lines) (count_all-more cs t)
    ∙ ap (λ ls. at lines.taken (live_within (call_within (count_all cs + length t) >>= λ x. Ok (with_controllers v ls))) >>= λ next. reads_left OfLive next lines) (to_last-more cs t (call ∷ []))
    ∙ joined lines.taken (call_within (count_all cs + length t)) (λ x. with_controllers v (cs ++ (t ++ call ∷ []) ∷ [])) (λ next. reads_left OfLive next lines)

-- a line of one word was taken
pub taken_alone : (n : ℕ) (r : Result (Unit {0}) ScriptKind) (next : Place OfLive) (lines : Lines) → at n r ≡ Ok tt
    → (at n (r >>= λ x. Ok next) >>= λ p. reads_left OfLive p lines) ≡ reads_left OfLive next lines
taken_alone n (Ok x) next lines is = refl
taken_alone n (Err kind) next lines is = absurd cc

-- the first line of a commit
pub commit_after : (v : LiveValue) (cs : List (List CallValue)) (t : List CallValue) (line : List ℕ) → begins_with (codes "commit") line ≡ true
    → after_live (with_controllers v (cs ++ t ∷ [])) line ≡ (alone (codes "commit") line >>= λ x. Ok (InCommit (with_controllers v (cs ++ t ∷ [])) no_commit))
commit_after v cs t line begins =
    rw (begins_other (codes "commit") (codes "end") line begins refl, begins_other (codes "commit") (codes "controller") line begins refl, some_more cs t, begins) refl

pub show_after : (v : LiveValue) (cs : List (List CallValue)) (t : List CallValue) (line : List ℕ) → begins_with (codes "show") line ≡ true → alone (codes "show") line ≡ Ok tt
    → after_live (with_controllers v (cs ++ t ∷ [])) line ≡ live_within (with_call (with_controllers v (cs ++ t ∷ [])) ShowCall)
show_after v cs t line begins said =
    rw (begins_other (codes "show") (codes "end") line begins refl, begins_other (codes "show") (codes "controller") line begins refl, some_more cs t, begins_other (codes "show") (codes "commit") line begins refl, said) refl

-- ---- the end

pub some_of : {A : Type 0} (xs : List A) → not (length xs == 0) ≡ true → 1 ≤ length xs
some_of xs is = grind (arith, nat_tests)

pub none_of : {A : Type 0} (xs : List A) → not (length xs == 0) ≡ false → xs ≡ []
none_of [] is = refl
none_of (x ∷ xs) is = absurd (omega (arith, few))
  where
    few : length (x ∷ xs) ≡ 0
    few = grind (arith, nat_tests)

map_none : {A B : Type 0} (f : A → B) (xs : List A) → map f xs ≡ [] → xs ≡ []
map_none f [] is = refl
map_none f (x ∷ xs) is = absurd cc

-- no block goes on, where none of the controllers does, and none of the workers where there is no controller
pub no_block : (v : LiveValue) (text : List ℕ) (lists : List (Listed Call)) → v.controllers ≡ calls_of lists → first_begins (codes "controller") text ≡ false
    → (1 ≤ length lists → NoCall text) → (lists ≡ [] → NoWorker v.workers text) → NoBlock v text
no_block v text lists is controller calls workers = record {
  controller = controller;
  no_call = λ some. calls (omega (arith, some_of v.controllers some, ap length is, length-map lists (λ (l : Listed Call). map call_value l.list)));
  no_worker = λ none. workers (map_none (λ (l : Listed Call). map call_value l.list) lists (sym is ∙ none_of v.controllers none));
}
