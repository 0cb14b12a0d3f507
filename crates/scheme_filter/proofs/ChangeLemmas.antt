-- The answer of filters stays the same up to the next change, and each change that is passed is one fewer.
use Rattle.std.proofs.Common.{◌≡◌, ◌⊎◌, inl, inr, ℕ, ◌+◌, ◌-◌, ◌*◌, ◌<◌, ◌≤◌, Bool, not, List, [], ◌∷◌, ◌++◌, length, refl, sym, ap, ◌∙◌, subst, arith, true}
use Rattle.std.specs.Prelude.{nat_lt, nat_le, ◌&&◌, find, unwrap_or, option_map, Some, if◌then◌else◌, slice_get}
use Rattle.std.proofs.lemmas.Bool.{cases_lt}
use Rattle.std.proofs.lemmas.Bool.Decides.{nat_tests}
use Rattle.damon_types.specs.declared.filter.Filter.{Filter}
use Rattle.damon_types.specs.declared.filter.FilterKind.{FilterKind}
use Rattle.damon_types.specs.declared.filter.FilterKind.TheVariants.{Addr, Target, Class}
use Rattle.scheme_filter.specs.declared.row_pages.RowPages.{RowPages}
use Rattle.scheme_filter.specs.Passes.{is_of, applies}
use Rattle.scheme_filter.specs.RowPages.{PassesChange, answer_at, place_at, page_from, kind_changes, changes, nearer, first_after, count_after}

nearer_above : (at page next : ℕ) → at < next → at < nearer at page next
nearer_above at page next less = grind (arith, nat_tests)

nearer_below : (at page next : ℕ) → nearer at page next ≤ next
nearer_below at page next = grind (arith, nat_tests)

nearer_page : (at page next : ℕ) → at < page → nearer at page next ≤ page
nearer_page at page next less = grind (arith, nat_tests)

-- a page that is nearer
nearer_is : (at page next : ℕ) → nearer at page next < next → (at < page) × (nearer at page next ≡ page)
nearer_is at page next less = by (cases_lt at page)
  where
    by : (at < page) ⊎ (page ≤ at) → (at < page) × (nearer at page next ≡ page)
    by (inl later) = (later, grind (arith, nat_tests))
    by (inr earlier) = let far : nearer at page next ≡ next = grind (arith, nat_tests) in absurd (omega (arith, far, less))

pub first_after-above : (at end : ℕ) (ps : List ℕ) → at < end → at < first_after at end ps
first_after-above at end [] less = less
first_after-above at end (p ∷ ps) less = first_after-above at (nearer at p end) ps (nearer_above at p end less)

pub first_after-below : (at end : ℕ) (ps : List ℕ) → first_after at end ps ≤ end
first_after-below at end [] = omega arith
first_after-below at end (p ∷ ps) = omega (arith, first_after-below at (nearer at p end) ps, nearer_below at p end)

first_after-append : (at end : ℕ) (ps qs : List ℕ) → first_after at end (ps ++ qs) ≡ first_after at (first_after at end ps) qs
first_after-append at end [] qs = refl
first_after-append at end (p ∷ ps) qs = first_after-append at (nearer at p end) ps qs

-- a page of the row has at least this address exactly from `page_from` on
page_from-is : (row : RowPages) (addr page : ℕ) → row.start ≤ page → page < row.end → nat_le addr (place_at row page).addr ≡ nat_le (page_from row addr) page
page_from-is row addr page after before = by (cases_lt page (page_from row addr))
  where
    by : (page < page_from row addr) ⊎ (page_from row addr ≤ page) → nat_le addr (row.first.addr + 4096 * (page - row.start)) ≡ nat_le (page_from row addr) page
    by (inl lower) =
        let low : row.first.addr + 4096 * (page - row.start) < addr = omega (arith, lower, after, before) in
        grind (arith, nat_tests)
    by (inr higher) =
        let high : addr ≤ row.first.addr + 4096 * (page - row.start) = omega (arith, higher, after, before) in
        grind (arith, nat_tests)

-- no change lies between two pages
same_side : (change at page end : ℕ) → at ≤ page → page < end → (at < change → end ≤ change) → nat_le change page ≡ nat_le change at
same_side change at page end after before apart = by (cases_lt at change)
  where
    by : (at < change) ⊎ (change ≤ at) → nat_le change page ≡ nat_le change at
    by (inl later) = let far = apart later in grind (arith, nat_tests)
    by (inr earlier) = grind (arith, nat_tests)

lt-le : (a b : ℕ) → nat_lt a b ≡ not (nat_le b a)
lt-le a b = grind (arith, nat_tests)

is_of_same : (row : RowPages) (at page end : ℕ) (kind : FilterKind) → row.start ≤ at → at ≤ page → page < first_after at end (kind_changes row kind) → end ≤ row.end → is_of kind (place_at row page) row.class ≡ is_of kind (place_at row at) row.class
is_of_same row at page end (Addr from to) within after before bound =
    ap (λ v. v && nat_lt (place_at row page).addr to) (side from from_apart)
    ∙ ap (λ v. nat_le from (place_at row at).addr && v) (lt-le (place_at row page).addr to ∙ ap not (side to to_apart) ∙ sym (lt-le (place_at row at).addr to))
  where
    next : ℕ
    next = first_after at end (kind_changes row (Addr from to))

    first : ℕ
    first = nearer at (page_from row from) end

    from_apart : at < page_from row from → next ≤ page_from row from
    from_apart later = omega (arith, nearer_page at (page_from row from) end later, nearer_below at (page_from row to) first)

    to_apart : at < page_from row to → next ≤ page_from row to
    to_apart later = nearer_page at (page_from row to) first later

    inside : next ≤ row.end
    inside = omega (arith, bound, first_after-below at end (kind_changes row (Addr from to)))

    side : (addr : ℕ) → (at < page_from row addr → next ≤ page_from row addr) → nat_le addr (place_at row page).addr ≡ nat_le addr (place_at row at).addr
    side addr apart =
        page_from-is row addr page (omega (arith, within, after)) (omega (arith, before, inside))
        ∙ same_side (page_from row addr) at page next after before apart
        ∙ sym (page_from-is row addr at within (omega (arith, after, before, inside)))
is_of_same row at page end (Target target) within after before bound = refl
is_of_same row at page end (Class class) within after before bound = refl

-- up to the next change the first filter that applies is the same
find_same : (row : RowPages) (at page end : ℕ) (fs : List Filter) → row.start ≤ at → at ≤ page → page < first_after at end (changes row fs) → end ≤ row.end → find (λ f. applies f (place_at row page) row.class) fs ≡ find (λ f. applies f (place_at row at) row.class) fs
find_same row at page end [] within after before bound = refl
find_same row at page end (f ∷ fs) within after before bound =
    let here = first_after at end (kind_changes row f.kind) in
    let later : page < first_after at here (changes row fs) = subst (λ n. page < n) (first_after-append at end (kind_changes row f.kind) (changes row fs)) before in
    let one = is_of_same row at page end f.kind within after (omega (arith, later, first_after-below at here (changes row fs))) bound in
    let rest = find_same row at page here fs within after later (omega (arith, bound, first_after-below at end (kind_changes row f.kind))) in
    ap (λ v. if (if f.matching then v else not v) then Some f else find (λ f. applies f (place_at row page) row.class) fs) one
    ∙ ap (λ v. if applies f (place_at row at) row.class then Some f else v) rest

-- and so is the answer
pub answer_same : (row : RowPages) (at page : ℕ) (fs : List Filter) → row.start ≤ at → at ≤ page → page < first_after at row.end (changes row fs) → answer_at fs row page ≡ answer_at fs row at
answer_same row at page fs within after before = ap (λ found. unwrap_or (option_map (λ f. f.allow) found) (unwrap_or (option_map (λ f. not f.allow) (slice_get fs (length fs - 1))) true)) (find_same row at page row.end fs within after before (omega arith))

one_falls : (at later p : ℕ) → at ≤ later → (if nat_lt later p then 1 else 0) ≤ (if nat_lt at p then 1 else 0)
one_falls at later p more = grind (arith, nat_tests)

one_fewer : (at later p : ℕ) → at < p → p ≤ later → (if nat_lt later p then 1 else 0) < (if nat_lt at p then 1 else 0)
one_fewer at later p before past = grind (arith, nat_tests)

count_after-falls : (at later : ℕ) (ps : List ℕ) → at ≤ later → count_after later ps ≤ count_after at ps
count_after-falls at later [] more = omega arith
count_after-falls at later (p ∷ ps) more = omega (arith, one_falls at later p more, count_after-falls at later ps more)

-- the first change that is not the end is one fewer to come
pub count_after-fewer : (at end : ℕ) (ps : List ℕ) → at < end → first_after at end ps < end → count_after (first_after at end ps) ps < count_after at ps
count_after-fewer at end [] less change = absurd (omega (arith, change))
count_after-fewer at end (p ∷ ps) less change =
    by (cases_lt (first_after at (nearer at p end) ps) (nearer at p end)) (count_after-fewer at (nearer at p end) ps (nearer_above at p end less))
  where
    next : ℕ
    next = first_after at (nearer at p end) ps

    after : at ≤ first_after at (nearer at p end) ps
    after = omega (arith, first_after-above at (nearer at p end) ps (nearer_above at p end less))

    by : (next < nearer at p end) ⊎ (nearer at p end ≤ next) → (next < nearer at p end → count_after next ps < count_after at ps) → count_after next (p ∷ ps) < count_after at (p ∷ ps)
    by (inl fewer) rest = omega (arith, rest fewer, one_falls at next p after)
    by (inr same) rest =
        let is : next ≡ nearer at p end = omega (arith, same, first_after-below at (nearer at p end) ps) in
        let here = nearer_is at p end (omega (arith, is, change)) in
        omega (arith, one_fewer at next p here.0 (omega (arith, is, here.1)), count_after-falls at next ps after)

count_after-append : (at : ℕ) (ps qs : List ℕ) → count_after at (ps ++ qs) ≡ count_after at ps + count_after at qs
count_after-append at [] qs = omega arith
count_after-append at (p ∷ ps) qs = omega (arith, count_after-append at ps qs)

kind_changes-few : (row : RowPages) (at : ℕ) (kind : FilterKind) → count_after at (kind_changes row kind) ≤ 2
kind_changes-few row at (Addr from to) = grind (arith, nat_tests)
kind_changes-few row at (Target target) = omega arith
kind_changes-few row at (Class class) = omega arith

-- there are at most two changes for each filter
pub changes-few : (row : RowPages) (at : ℕ) (fs : List Filter) → count_after at (changes row fs) ≤ 2 * length fs
changes-few row at [] = omega arith
changes-few row at (f ∷ fs) = omega (arith, count_after-append at (kind_changes row f.kind) (changes row fs), kind_changes-few row at f.kind, changes-few row at fs)

-- a search that has come to a page: the pages before it do not have the wanted answer
pub record Searched (fs : List Filter) (row : RowPages) (wanted : Bool) (from page : ℕ) : Type 0 where
  pub low : from ≤ page
  pub high : page ≤ row.end
  pub others : (p : ℕ) → from ≤ p → p < page → answer_at fs row p ≡ not wanted
  pub change : PassesChange fs row from page

-- nor do the pages up to the next change, if this one does not
pub searched_on : (fs : List Filter) (row : RowPages) (wanted : Bool) (from page : ℕ) → row.start ≤ from → page < row.end → answer_at fs row page ≡ not wanted → Searched fs row wanted from page → Searched fs row wanted from (first_after page row.end (changes row fs))
searched_on fs row wanted from page within before other searched = record {
  low = omega (arith, searched.low, after);
  high = first_after-below page row.end (changes row fs);
  others = λ p low high. by p low high (cases_lt p page);
  change = λ later inside. fewer inside (cases_lt from page);
}
  where
    next : ℕ
    next = first_after page row.end (changes row fs)

    after : page < first_after page row.end (changes row fs)
    after = first_after-above page row.end (changes row fs) before

    by : (p : ℕ) → from ≤ p → p < next → (p < page) ⊎ (page ≤ p) → answer_at fs row p ≡ not wanted
    by p low high (inl old) = searched.others p low old
    by p low high (inr new) = answer_same row page p fs (omega (arith, within, searched.low)) new high ∙ other

    fewer : next < row.end → (from < page) ⊎ (page ≤ from) → count_after next (changes row fs) < count_after from (changes row fs)
    fewer inside (inl later) = omega (arith, searched.change later before, count_after-fewer page row.end (changes row fs) before inside)
    fewer inside (inr first) = let same : page ≡ from = omega (arith, first, searched.low) in subst (λ n. count_after next (changes row fs) < count_after n (changes row fs)) same (count_after-fewer page row.end (changes row fs) before inside)
