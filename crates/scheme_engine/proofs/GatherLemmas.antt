-- Candidates, gathered row by row.
use Rattle.std.proofs.Common.{◌≡◌, ◌≢◌, ℕ, zero, suc, ◌+◌, ◌≤◌, ◌<◌, Bool, true, false, cond, List, [], ◌∷◌, ◌++◌, Option, Some, None, length, length-append, map, take, drop, get_or, refl, sym, ap, ◌∙◌, arith}
use Rattle.std.specs.Prelude.{◌&&◌, All, AllPairs, IfSome, nat_lt, count_by, filter, filter_map, slice_get}
use Rattle.std.specs.List.{cons_option}
use Rattle.std.proofs.lemmas.Bool.Decides.{nat_tests}
use Rattle.std.proofs.lemmas.List.Elements.{All-cons, All-nil, All-weaker, filter-append, filter_map-append}
use Rattle.std.proofs.lemmas.List.{drop-map, get_or-append-add, get_or-drop, get_or-map, get_or-take, length-map, length-take-le, take-map, take_more}
use Rattle.std.proofs.lemmas.List.Sums.{length-filter}
use Rattle.std.proofs.Math.Seq.{take-add}
use Rattle.damon_types.specs.declared.range.Range.{Range}
use Rattle.damon_types.specs.declared.row.Row.{Row}
use Rattle.damon_types.specs.declared.scheme.Scheme.{Scheme}
use Rattle.damon_types.specs.declared.space.Target.{Target}
use Rattle.damon_types.specs.Ranges.{page_total}
use Rattle.damon_types.specs.Span.{Span, span_of, spans}
use Rattle.region_list.specs.Rows.{no_row}
use Rattle.region_list.proofs.Lemmas.{RiseFrom}
use Rattle.scheme_filter.specs.Passes.{passes}
use Rattle.scheme_match.specs.Match.{AreTested, is_match}
use Rattle.priority.specs.declared.candidates.Candidate.{Candidate}
use Rattle.priority.specs.Score.{score_of}
use Rattle.scheme_engine.specs.Candidates.{candidate_of, candidates_of, passing_pages}

-- filtering keeps at most the length
length-cons_option : {Y : Type 0} (o : Option Y) (ys : List Y) → length (cons_option o ys) ≤ length ys + 1
length-cons_option None ys = omega arith
length-cons_option (Some y) ys = omega arith

pub length-filter_map : {X Y : Type 0} (h : X → Option Y) (xs : List X) → length (filter_map h xs) ≤ length xs
length-filter_map h [] = omega arith
length-filter_map h (x ∷ xs) = omega (arith, length-cons_option (h x) (filter_map h xs), length-filter_map h xs)

-- one more row
pub filter_map_more : {X Y : Type 0} (h : X → Option Y) (xs : List X) (i : ℕ) (d : X) → i < length xs → filter_map h (take (i + 1) xs) ≡ filter_map h (take i xs) ++ cons_option (h (get_or xs i d)) []
filter_map_more h xs i d within = ap (filter_map h) (take_more xs i d within) ∙ filter_map-append h (take i xs) (get_or xs i d ∷ [])

-- what holds of each item that is kept
All-cons_option : {Y : Type 0} (P : Y → Type 0) (o : Option Y) (ys : List Y) → IfSome o P → All P ys → All P (cons_option o ys)
All-cons_option P None ys here rest = rest
All-cons_option P (Some y) ys here rest = All-cons P y ys here rest

if_kept : {Y : Type 0} (P : Y → Type 0) (b : Bool) (y : Y) → (b ≡ true → P y) → IfSome (cond b (Some y) None) P
if_kept P true y here = here refl
if_kept P false y here = tt

-- what is known of the candidate of a row
pub record IsOfRow (passes : ℕ → Bool) (r : Row) (c : Candidate) : Type 0 where
  pub start : c.start ≡ r.start
  pub target : c.target ≡ r.target
  pub passing : c.passing ≡ length (passing_pages passes (span_of r))
  pub some : 1 ≤ c.passing
  pub share : c.share ≡ 0

pub candidate_is : (space : List Target) (ranges : List Range) (aggr : ℕ) (scheme : Scheme) (r : Row) → IfSome (candidate_of space ranges aggr scheme r) (IsOfRow (passes scheme.filters space ranges) r)
candidate_is space ranges aggr scheme r =
    let n = length (passing_pages (passes scheme.filters space ranges) (span_of r)) in
    let c : Candidate = record { target = r.target; start = r.start; score = score_of r (page_total ranges) aggr scheme; passing = n; share = 0 } in
    if_kept (IsOfRow (passes scheme.filters space ranges) r) (is_match scheme.pattern r && nat_lt 0 n) c
    (λ kept. record { start = refl; target = refl; passing = refl; some = grind (arith, nat_tests); share = refl })

-- starts that rise pair by pair rise from the least page that none is below
pub rise_of : (p : ℕ) (ss : List Span) → ((i : ℕ) (d : Span) → i < length ss → p ≤ (get_or ss i d).start) → AllPairs (λ s t. s.start < t.start) ss → RiseFrom p ss
rise_of p [] low pairs = tt
rise_of p (s ∷ ss) low pairs =
    let later : (i : ℕ) (d : Span) → i < length ss → s.start + 1 ≤ (get_or ss i d).start =
    λ i d within. let after : s.start < (get_or ss i d).start = pairs 0 (suc i) d (omega arith) (omega (arith, within)) in omega (arith, after) in
    (low 0 s (omega arith), rise_of (s.start + 1) ss later (λ i j d before within. pairs (suc i) (suc j) d (omega (arith, before)) (omega (arith, within))))

-- no row starts before the page from which starts rise
starts_rise : (p : ℕ) (rows : List Row) (i : ℕ) (d : Row) → RiseFrom p (spans rows) → i < length rows → p ≤ (get_or rows i d).start
starts_rise p [] i d rise within = absurd (omega arith)
starts_rise p (r ∷ rows) zero d rise within = rise.0
starts_rise p (r ∷ rows) (suc i) d rise within = omega (arith, rise.0, starts_rise (r.start + 1) rows i d rise.1 (omega arith))

-- what follows of the value, if there is one
if_weaker : {Y : Type 0} (P Q : Y → Type 0) (o : Option Y) → ((y : Y) → P y → Q y) → IfSome o P → IfSome o Q
if_weaker P Q None step is = tt
if_weaker P Q (Some y) step is = step y is

-- the candidates among the rows before one start before it
pub start_before : (space : List Target) (ranges : List Range) (aggr : ℕ) (scheme : Scheme) (p : ℕ) (rows : List Row) (i : ℕ) (d : Row) → RiseFrom p (spans rows) → i < length rows → All (λ c. c.start ≢ (get_or rows i d).start) (candidates_of space ranges aggr scheme (take i rows))
start_before space ranges aggr scheme p [] i d rise within = absurd (omega arith)
start_before space ranges aggr scheme p (r ∷ rows) zero d rise within = All-nil (λ (c : Candidate). c.start ≢ r.start)
start_before space ranges aggr scheme p (r ∷ rows) (suc i) d rise within =
    let here : i < length rows = omega arith in
    let later = starts_rise (r.start + 1) rows i d rise.1 here in
    let other : (c : Candidate) → IsOfRow (passes scheme.filters space ranges) r c → c.start ≢ (get_or rows i d).start = λ c is. λ same. omega (arith, is.start, later) in
    All-cons_option (λ c. c.start ≢ (get_or rows i d).start) (candidate_of space ranges aggr scheme r) (candidates_of space ranges aggr scheme (take i rows))
    (if_weaker (IsOfRow (passes scheme.filters space ranges) r) (λ c. c.start ≢ (get_or rows i d).start) (candidate_of space ranges aggr scheme r) other (candidate_is space ranges aggr scheme r))
    (start_before space ranges aggr scheme (r.start + 1) rows i d rise.1 here)

-- each candidate is that of a row
pub record HasRow (passes : ℕ → Bool) (rows : List Row) (c : Candidate) : Type 0 where
  pub index : ℕ
  pub row : Row
  pub at : slice_get rows index ≡ Some row
  pub is : IsOfRow passes row c

pub candidates_have_rows : (space : List Target) (ranges : List Range) (aggr : ℕ) (scheme : Scheme) (rows : List Row) → All (HasRow (passes scheme.filters space ranges) rows) (candidates_of space ranges aggr scheme rows)
candidates_have_rows space ranges aggr scheme [] = All-nil (HasRow (passes scheme.filters space ranges) [])
candidates_have_rows space ranges aggr scheme (r ∷ rows) =
    let passing = passes scheme.filters space ranges in
    All-cons_option (HasRow passing (r ∷ rows)) (candidate_of space ranges aggr scheme r) (candidates_of space ranges aggr scheme rows)
    (if_weaker (IsOfRow passing r) (HasRow passing (r ∷ rows)) (candidate_of space ranges aggr scheme r) (λ c is. record { index = 0; row = r; at = refl; is = is }) (candidate_is space ranges aggr scheme r))
    (All-weaker (HasRow passing rows) (HasRow passing (r ∷ rows)) (λ c has. record { index = suc has.index; row = has.row; at = has.at; is = has.is }) (candidates_of space ranges aggr scheme rows)
    (candidates_have_rows space ranges aggr scheme rows))

pub no_match : (space : List Target) (ranges : List Range) (aggr : ℕ) (scheme : Scheme) (r : Row) → is_match scheme.pattern r ≡ false → candidate_of space ranges aggr scheme r ≡ None
no_match space ranges aggr scheme r other = rw other refl

-- starts that rise from a page rise from any page before it
rise_weaker : (q p : ℕ) (rows : List Row) → q ≤ p → RiseFrom p (spans rows) → RiseFrom q (spans rows)
rise_weaker q p [] low rise = tt
rise_weaker q p (r ∷ rows) low rise = (omega (arith, rise.0), rise.1)

rise_cond : (b : Bool) (q : ℕ) (r : Row) (rows : List Row) → q ≤ r.start → RiseFrom (r.start + 1) (spans rows) → RiseFrom q (spans (cond b (r ∷ rows) rows))
rise_cond true q r rows low rise = (low, rise)
rise_cond false q r rows low rise = rise_weaker q (r.start + 1) rows (omega arith) rise

-- the starts of some of the rows rise too
rise_kept : (p : Row → Bool) (q n : ℕ) (rows : List Row) → RiseFrom q (spans rows) → RiseFrom q (spans (filter p (take n rows)))
rise_kept p q zero rows rise = tt
rise_kept p q (suc n) [] rise = tt
rise_kept p q (suc n) (r ∷ rows) rise = rise_cond (p r) q r (filter p (take n rows)) rise.0 (rise_kept p (r.start + 1) n rows rise.1)

-- the rows before an index, and those of the next n that match
abbrev pub seen : (Row → Bool) → List Row → ℕ → ℕ → List Row
seen p rows from n = take from rows ++ filter p (take n (drop from rows))

pub seen_rise : (p : Row → Bool) (q from n : ℕ) (rows : List Row) → RiseFrom q (spans rows) → RiseFrom q (spans (seen p rows from n))
seen_rise p q zero n rows rise = rise_kept p q n rows rise
seen_rise p q (suc from) zero [] rise = tt
seen_rise p q (suc from) (suc n) [] rise = tt
seen_rise p q (suc from) n (r ∷ rows) rise = (rise.0, seen_rise p (r.start + 1) from n rows rise.1)

-- a row that was seen, and how many were
pub seen_at : (p : Row → Bool) (rows : List Row) (from n k : ℕ) (d : Row) → from ≤ length rows → get_or (seen p rows from n) (from + k) d ≡ get_or (filter p (take n (drop from rows))) k d
seen_at p rows from n k d within =
    ap (λ i. get_or (seen p rows from n) (i + k) d) (sym (length-take-le from rows within))
    ∙ get_or-append-add (take from rows) (filter p (take n (drop from rows))) k d

pub length-seen : (p : Row → Bool) (rows : List Row) (from n : ℕ) → from ≤ length rows → length (seen p rows from n) ≡ from + length (filter p (take n (drop from rows)))
length-seen p rows from n within = omega (arith, length-append (take from rows) (filter p (take n (drop from rows))), length-take-le from rows within)

-- what a row that does not match adds to a list: nothing
kept_alone : {X Y : Type 0} (h : X → Option Y) (p : X → Bool) → ((x : X) → p x ≡ false → h x ≡ None) → (xs : List X) → filter_map h (filter p xs) ≡ filter_map h xs
kept_alone h p none [] = refl
kept_alone h p none (x ∷ xs) = by (p x) refl (kept_alone h p none xs)
  where
    by : (b : Bool) → p x ≡ b → filter_map h (filter p xs) ≡ filter_map h xs → filter_map h (filter p (x ∷ xs)) ≡ filter_map h (x ∷ xs)
    by true here rest = rw here (ap (cons_option (h x)) rest)
    by false out rest = rw (out, none x out) rest

-- once all of the next n rows were seen, the candidates are those of the rows up to there
pub seen_all : (space : List Target) (ranges : List Range) (aggr : ℕ) (scheme : Scheme) (rows : List Row) (from n : ℕ) → candidates_of space ranges aggr scheme (seen (is_match scheme.pattern) rows from n) ≡ candidates_of space ranges aggr scheme (take (from + n) rows)
seen_all space ranges aggr scheme rows from n =
    let h = candidate_of space ranges aggr scheme in
    let p = is_match scheme.pattern in
    let next = take n (drop from rows) in
    filter_map-append h (take from rows) (filter p next)
    ∙ ap (λ cs. filter_map h (take from rows) ++ cs) (kept_alone h p (no_match space ranges aggr scheme) next)
    ∙ sym (filter_map-append h (take from rows) next)
    ∙ sym (ap (filter_map h) (take-add from n rows))

-- how many rows match up to there
pub tried_more : (p : Row → Bool) (rows : List Row) (from n : ℕ) → count_by p (take (from + n) rows) ≡ count_by p (take from rows) + length (filter p (take n (drop from rows)))
tried_more p rows from n =
    let next = take n (drop from rows) in
    let both = ap (filter p) (take-add from n rows) ∙ filter-append p (take from rows) next in
    omega (arith, ap length both, length-append (filter p (take from rows)) (filter p next), length-filter p (take (from + n) rows), length-filter p (take from rows))

-- a stretch of a column has the numbers of the rows there
column_part : (f : Row → ℕ) (rows : List Row) (from n : ℕ) → take n (drop from (map f rows)) ≡ map f (take n (drop from rows))
column_part f rows from n = ap (take n) (drop-map f from rows) ∙ take-map f n (drop from rows)

pub tested_part : (rows own : List Row) (pages counts ages : List ℕ) (from n : ℕ) → own ≡ rows → pages ≡ map (λ r. r.pages) own → counts ≡ map (λ r. r.count) own → ages ≡ map (λ r. r.age) own → AreTested (take n (drop from rows)) (take n (drop from pages)) (take n (drop from counts)) (take n (drop from ages))
tested_part rows own pages counts ages from n same sizes all_counts all_ages = record {
  size = ap (λ xs. take n (drop from xs)) (sizes ∙ ap (map (λ (r : Row). r.pages)) same) ∙ column_part (λ r. r.pages) rows from n;
  count = ap (λ xs. take n (drop from xs)) (all_counts ∙ ap (map (λ (r : Row). r.count)) same) ∙ column_part (λ r. r.count) rows from n;
  age = ap (λ xs. take n (drop from xs)) (all_ages ∙ ap (map (λ (r : Row). r.age)) same) ∙ column_part (λ r. r.age) rows from n;
}

all_cond : {X : Type 0} (P : X → Type 0) (b : Bool) (x : X) (xs : List X) → (b ≡ true → P x) → All P xs → All P (cond b (x ∷ xs) xs)
all_cond P true x xs here rest = All-cons P x xs (here refl) rest
all_cond P false x xs here rest = rest

-- each row that is kept matches
pub kept_match : {X : Type 0} (p : X → Bool) (xs : List X) → All (λ x. p x ≡ true) (filter p xs)
kept_match p [] = All-nil (λ x. p x ≡ true)
kept_match p (x ∷ xs) = all_cond (λ y. p y ≡ true) (p x) x (filter p xs) (λ is. is) (kept_match p xs)

-- as many places are found as rows match
pub length-found : (block kept : List Row) (found : List ℕ) (number : ℕ) → number ≤ length found → map (λ i. get_or block i no_row) (take number found) ≡ kept → length kept ≡ number
length-found block kept found number room are =
    omega (arith, ap length are, length-map (take number found) (λ i. get_or block i no_row), length-take-le number found room)

-- the row at a place that was found
pub found_at : (rows kept : List Row) (from n number : ℕ) (found : List ℕ) (k : ℕ) → k < number → number ≤ length found → get_or found k 0 < n → map (λ i. get_or (take n (drop from rows)) i no_row) (take number found) ≡ kept → get_or rows (from + get_or found k 0) no_row ≡ get_or kept k no_row
found_at rows kept from n number found k here room below are =
    let block = take n (drop from rows) in
    let i = get_or found k 0 in
    let listed : k < length (take number found) = omega (arith, length-take-le number found room) in
    sym (get_or-take n (drop from rows) i no_row below ∙ get_or-drop from rows i no_row)
    ∙ ap (λ j. get_or block j no_row) (sym (get_or-take number found k 0 here))
    ∙ sym (get_or-map (λ j. get_or block j no_row) (take number found) k 0 no_row listed)
    ∙ ap (λ rs. get_or rs k no_row) are
