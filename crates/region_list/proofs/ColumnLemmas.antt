-- Rows and their columns.
use Rattle.std.proofs.Common.{◌≡◌, ℕ, zero, suc, ◌+◌, ◌<◌, List, [], ◌∷◌, ◌++◌, Some, None, length, map, take, drop, set, refl, sym, ap, ◌∙◌, subst, arith}
use Rattle.std.specs.Prelude.{slice_get}
use Rattle.std.specs.List.{insert}
use Rattle.std.proofs.lemmas.List.{map-append, map-set, take-map, drop-map}
use Rattle.std.proofs.Math.Seq.{drop-cons, map-set_same}
use Rattle.std.proofs.lemmas.Option.{get_or_from_slice_get}
use Rattle.damon_types.specs.declared.row.Row.{Row}
use Rattle.region_list.specs.Rows.{no_row, row_at, with_values}
use Rattle.damon_types.specs.Span.{Span, span_of, spans}
use Rattle.region_list.specs.Columns.{zipped, AreColumns, AreValues}

-- the columns of rows, put together, are the rows
pub zipped_map : (rows : List Row) → zipped (map (λ r. r.target) rows) (map (λ r. r.start) rows) (map (λ r. r.pages) rows) (map (λ r. r.count) rows) (map (λ r. r.last) rows) (map (λ r. r.age) rows) ≡ rows
zipped_map [] = refl
zipped_map (r ∷ rows) = ap (λ rs. r ∷ rs) (zipped_map rows)

-- columns of rows, put together, are these rows
pub zipped_is : (rows : List Row) (targets starts pages counts lasts ages : List ℕ) → AreColumns rows targets starts pages counts lasts ages → zipped targets starts pages counts lasts ages ≡ rows
zipped_is rows ts ss ps cs ls gs is = rw (is.target, is.start, is.size, is.count, is.last, is.age) (zipped_map rows)

-- there are as many rows as targets
pub length_zipped : (targets starts pages counts lasts ages : List ℕ) → length (zipped targets starts pages counts lasts ages) ≡ length targets
length_zipped [] ss ps cs ls gs = refl
length_zipped (t ∷ ts) ss ps cs ls gs = ap suc (length_zipped ts _ _ _ _ _)

-- columns of some rows are columns of what they are put together to
pub columns_are : (rows : List Row) (targets starts pages counts lasts ages : List ℕ) → AreColumns rows targets starts pages counts lasts ages → AreColumns (zipped targets starts pages counts lasts ages) targets starts pages counts lasts ages
columns_are rows ts ss ps cs ls gs is = subst (λ rs. AreColumns rs ts ss ps cs ls gs) (sym (zipped_is rows ts ss ps cs ls gs is)) is

-- a row is appended
pub columns_pushed : (rows : List Row) (r : Row) (ts ss ps cs ls gs ts' ss' ps' cs' ls' gs' : List ℕ) → AreColumns rows ts ss ps cs ls gs → ts' ≡ ts ++ r.target ∷ [] → ss' ≡ ss ++ r.start ∷ [] → ps' ≡ ps ++ r.pages ∷ [] → cs' ≡ cs ++ r.count ∷ [] → ls' ≡ ls ++ r.last ∷ [] → gs' ≡ gs ++ r.age ∷ [] → AreColumns (rows ++ r ∷ []) ts' ss' ps' cs' ls' gs'
columns_pushed rows r ts ss ps cs ls gs ts' ss' ps' cs' ls' gs' is t s p c l g = record {
  target = t ∙ ap (λ l. l ++ r.target ∷ []) is.target ∙ sym (map-append (λ r. r.target) rows (r ∷ []));
  start = s ∙ ap (λ l. l ++ r.start ∷ []) is.start ∙ sym (map-append (λ r. r.start) rows (r ∷ []));
  size = p ∙ ap (λ l. l ++ r.pages ∷ []) is.size ∙ sym (map-append (λ r. r.pages) rows (r ∷ []));
  count = c ∙ ap (λ l. l ++ r.count ∷ []) is.count ∙ sym (map-append (λ r. r.count) rows (r ∷ []));
  last = l ∙ ap (λ l. l ++ r.last ∷ []) is.last ∙ sym (map-append (λ r. r.last) rows (r ∷ []));
  age = g ∙ ap (λ l. l ++ r.age ∷ []) is.age ∙ sym (map-append (λ r. r.age) rows (r ∷ []));
}

-- the first rows
pub columns_taken : (n : ℕ) (rows : List Row) (ts ss ps cs ls gs ts' ss' ps' cs' ls' gs' : List ℕ) → AreColumns rows ts ss ps cs ls gs → ts' ≡ take n ts → ss' ≡ take n ss → ps' ≡ take n ps → cs' ≡ take n cs → ls' ≡ take n ls → gs' ≡ take n gs → AreColumns (take n rows) ts' ss' ps' cs' ls' gs'
columns_taken n rows ts ss ps cs ls gs ts' ss' ps' cs' ls' gs' is t s p c l g = record {
  target = t ∙ ap (take n) is.target ∙ take-map (λ r. r.target) n rows;
  start = s ∙ ap (take n) is.start ∙ take-map (λ r. r.start) n rows;
  size = p ∙ ap (take n) is.size ∙ take-map (λ r. r.pages) n rows;
  count = c ∙ ap (take n) is.count ∙ take-map (λ r. r.count) n rows;
  last = l ∙ ap (take n) is.last ∙ take-map (λ r. r.last) n rows;
  age = g ∙ ap (take n) is.age ∙ take-map (λ r. r.age) n rows;
}

-- one row is replaced
pub columns_set : (i : ℕ) (r : Row) (rows : List Row) (ts ss ps cs ls gs ts' ss' ps' cs' ls' gs' : List ℕ) → AreColumns rows ts ss ps cs ls gs → ts' ≡ set ts i r.target → ss' ≡ set ss i r.start → ps' ≡ set ps i r.pages → cs' ≡ set cs i r.count → ls' ≡ set ls i r.last → gs' ≡ set gs i r.age → AreColumns (set rows i r) ts' ss' ps' cs' ls' gs'
columns_set i r rows ts ss ps cs ls gs ts' ss' ps' cs' ls' gs' is t s p c l g = record {
  target = t ∙ ap (λ l. set l i r.target) is.target ∙ sym (map-set (λ r. r.target) rows i r);
  start = s ∙ ap (λ l. set l i r.start) is.start ∙ sym (map-set (λ r. r.start) rows i r);
  size = p ∙ ap (λ l. set l i r.pages) is.size ∙ sym (map-set (λ r. r.pages) rows i r);
  count = c ∙ ap (λ l. set l i r.count) is.count ∙ sym (map-set (λ r. r.count) rows i r);
  last = l ∙ ap (λ l. set l i r.last) is.last ∙ sym (map-set (λ r. r.last) rows i r);
  age = g ∙ ap (λ l. set l i r.age) is.age ∙ sym (map-set (λ r. r.age) rows i r);
}

-- columns with one more number
inserted : (f : Row → ℕ) (i : ℕ) (r : Row) (rows : List Row) → insert (map f rows) i (f r) ≡ map f (insert rows i r)
inserted f i r rows = ap2 (λ front back. front ++ f r ∷ back) (take-map f i rows) (drop-map f i rows) ∙ sym (map-append f (take i rows) (r ∷ drop i rows))
  where
    ap2 : (g : List ℕ → List ℕ → List ℕ) {a b c d : List ℕ} → a ≡ b → c ≡ d → g a c ≡ g b d
    ap2 g p q = rw (p, q) refl

-- a row is put before the one with this index
pub columns_put : (i : ℕ) (r : Row) (rows : List Row) (ts ss ps cs ls gs ts' ss' ps' cs' ls' gs' : List ℕ) → AreColumns rows ts ss ps cs ls gs → ts' ≡ insert ts i r.target → ss' ≡ insert ss i r.start → ps' ≡ insert ps i r.pages → cs' ≡ insert cs i r.count → ls' ≡ insert ls i r.last → gs' ≡ insert gs i r.age → AreColumns (insert rows i r) ts' ss' ps' cs' ls' gs'
columns_put i r rows ts ss ps cs ls gs ts' ss' ps' cs' ls' gs' is t s p c l g = record {
  target = t ∙ ap (λ xs. insert xs i r.target) is.target ∙ inserted (λ r. r.target) i r rows;
  start = s ∙ ap (λ xs. insert xs i r.start) is.start ∙ inserted (λ r. r.start) i r rows;
  size = p ∙ ap (λ xs. insert xs i r.pages) is.size ∙ inserted (λ r. r.pages) i r rows;
  count = c ∙ ap (λ xs. insert xs i r.count) is.count ∙ inserted (λ r. r.count) i r rows;
  last = l ∙ ap (λ xs. insert xs i r.last) is.last ∙ inserted (λ r. r.last) i r rows;
  age = g ∙ ap (λ xs. insert xs i r.age) is.age ∙ inserted (λ r. r.age) i r rows;
}

-- columns with one number less
removed : (f : Row → ℕ) (i : ℕ) (rows : List Row) → take i (map f rows) ++ drop (i + 1) (map f rows) ≡ map f (take i rows ++ drop (i + 1) rows)
removed f i rows = ap2 (λ front back. front ++ back) (take-map f i rows) (drop-map f (i + 1) rows) ∙ sym (map-append f (take i rows) (drop (i + 1) rows))
  where
    ap2 : (g : List ℕ → List ℕ → List ℕ) {a b c d : List ℕ} → a ≡ b → c ≡ d → g a c ≡ g b d
    ap2 g p q = rw (p, q) refl

-- the row with this index is taken out
pub columns_removed : (i : ℕ) (rows : List Row) (ts ss ps cs ls gs ts' ss' ps' cs' ls' gs' : List ℕ) → AreColumns rows ts ss ps cs ls gs → ts' ≡ take i ts ++ drop (i + 1) ts → ss' ≡ take i ss ++ drop (i + 1) ss → ps' ≡ take i ps ++ drop (i + 1) ps → cs' ≡ take i cs ++ drop (i + 1) cs → ls' ≡ take i ls ++ drop (i + 1) ls → gs' ≡ take i gs ++ drop (i + 1) gs → AreColumns (take i rows ++ drop (i + 1) rows) ts' ss' ps' cs' ls' gs'
columns_removed i rows ts ss ps cs ls gs ts' ss' ps' cs' ls' gs' is t s p c l g = record {
  target = t ∙ ap (λ xs. take i xs ++ drop (i + 1) xs) is.target ∙ removed (λ r. r.target) i rows;
  start = s ∙ ap (λ xs. take i xs ++ drop (i + 1) xs) is.start ∙ removed (λ r. r.start) i rows;
  size = p ∙ ap (λ xs. take i xs ++ drop (i + 1) xs) is.size ∙ removed (λ r. r.pages) i rows;
  count = c ∙ ap (λ xs. take i xs ++ drop (i + 1) xs) is.count ∙ removed (λ r. r.count) i rows;
  last = l ∙ ap (λ xs. take i xs ++ drop (i + 1) xs) is.last ∙ removed (λ r. r.last) i rows;
  age = g ∙ ap (λ xs. take i xs ++ drop (i + 1) xs) is.age ∙ removed (λ r. r.age) i rows;
}

-- a row keeps its span, and gets other values
pub columns_valued : (i n l a : ℕ) (rows : List Row) (ts ss ps cs ls gs : List ℕ) → AreColumns rows ts ss ps cs ls gs → AreColumns (with_values rows i n l a) ts ss ps (set cs i n) (set ls i l) (set gs i a)
columns_valued i n l a rows ts ss ps cs ls gs is =
    let r = record (row_at rows i) { count = n; last = l; age = a } in
    record {
      target = is.target ∙ sym (map-set_same (λ r. r.target) rows i r no_row refl);
      start = is.start ∙ sym (map-set_same (λ r. r.start) rows i r no_row refl);
      size = is.size ∙ sym (map-set_same (λ r. r.pages) rows i r no_row refl);
      count = ap (λ xs. set xs i n) is.count ∙ sym (map-set (λ r. r.count) rows i r);
      last = ap (λ xs. set xs i l) is.last ∙ sym (map-set (λ r. r.last) rows i r);
      age = ap (λ xs. set xs i a) is.age ∙ sym (map-set (λ r. r.age) rows i r);
    }

-- the rows from one with this index on
pub drop_row : (rows : List Row) (i : ℕ) (r : Row) → i < length rows → slice_get rows i ≡ Some r → drop i rows ≡ r ∷ drop (i + 1) rows
drop_row rows i r here is =
    let next : suc i ≡ i + 1 = omega arith in
    drop-cons rows i r here ∙ ap (λ x. x ∷ drop (suc i) rows) (get_or_from_slice_get rows i r r is) ∙ ap (λ n. r ∷ drop n rows) next

-- rows with the same spans have the same column of a field of spans
same_column : (f : Span → ℕ) (rows others : List Row) → spans others ≡ spans rows → map (λ r. f (span_of r)) others ≡ map (λ r. f (span_of r)) rows
same_column f rows others same = sym (mapped f others) ∙ ap (map f) same ∙ mapped f rows
  where
    mapped : (f : Span → ℕ) (rows : List Row) → map f (spans rows) ≡ map (λ r. f (span_of r)) rows
    mapped f [] = refl
    mapped f (r ∷ rows) = ap (λ ns. f (span_of r) ∷ ns) (mapped f rows)

-- all rows get other values, and their spans stay
pub columns_revalued : (rows others : List Row) (ts ss ps cs ls gs cs' ls' gs' : List ℕ) → AreColumns rows ts ss ps cs ls gs → spans others ≡ spans rows → AreValues others cs' ls' gs' → AreColumns others ts ss ps cs' ls' gs'
columns_revalued rows others ts ss ps cs ls gs cs' ls' gs' is same values = record {
  target = is.target ∙ sym (same_column (λ s. s.target) rows others same);
  start = is.start ∙ sym (same_column (λ s. s.start) rows others same);
  size = is.size ∙ sym (same_column (λ s. s.pages) rows others same);
  count = values.count;
  last = values.last;
  age = values.age;
}

-- several rows are appended
pub columns_appended : (rows more : List Row) (ts ss ps cs ls gs ts' ss' ps' cs' ls' gs' : List ℕ) → AreColumns rows ts ss ps cs ls gs → ts' ≡ ts ++ map (λ r. r.target) more → ss' ≡ ss ++ map (λ r. r.start) more → ps' ≡ ps ++ map (λ r. r.pages) more → cs' ≡ cs ++ map (λ r. r.count) more → ls' ≡ ls ++ map (λ r. r.last) more → gs' ≡ gs ++ map (λ r. r.age) more → AreColumns (rows ++ more) ts' ss' ps' cs' ls' gs'
columns_appended rows more ts ss ps cs ls gs ts' ss' ps' cs' ls' gs' is t s p c l g = record {
  target = t ∙ ap (λ xs. xs ++ map (λ r. r.target) more) is.target ∙ sym (map-append (λ r. r.target) rows more);
  start = s ∙ ap (λ xs. xs ++ map (λ r. r.start) more) is.start ∙ sym (map-append (λ r. r.start) rows more);
  size = p ∙ ap (λ xs. xs ++ map (λ r. r.pages) more) is.size ∙ sym (map-append (λ r. r.pages) rows more);
  count = c ∙ ap (λ xs. xs ++ map (λ r. r.count) more) is.count ∙ sym (map-append (λ r. r.count) rows more);
  last = l ∙ ap (λ xs. xs ++ map (λ r. r.last) more) is.last ∙ sym (map-append (λ r. r.last) rows more);
  age = g ∙ ap (λ xs. xs ++ map (λ r. r.age) more) is.age ∙ sym (map-append (λ r. r.age) rows more);
}

-- a stretch of a column
pub stretch : (f : Row → ℕ) (from n : ℕ) (column : List ℕ) (rows : List Row) → column ≡ map f rows → take n (drop from column) ≡ map f (take n (drop from rows))
stretch f from n column rows is = ap (λ xs. take n (drop from xs)) is ∙ ap (λ xs. take n xs) (drop-map f from rows) ∙ take-map f n (drop from rows)
