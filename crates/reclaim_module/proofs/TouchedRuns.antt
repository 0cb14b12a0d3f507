-- A run of pages that is touched, one page after another.
use Rattle.std.proofs.Common.{◌≡◌, ℕ, suc, ◌+◌, ◌<◌, Bool, false, cond, ◌&&◌, List, length, sym, ap, ◌∙◌, arith}
use Rattle.std.specs.Prelude.{slice_set, if◌then◌else◌}
use Rattle.std.proofs.lemmas.Bool.Decides.{nat_tests}
use Rattle.page_bits.specs.Runs.{count_pages, in_run}
use Rattle.page_bits.specs.Sets.{each_page, with_run}
use Rattle.page_bits.proofs.Lemmas.{both_bits, count_none, run_joins}
use Rattle.reclaim_module.specs.Calls.{after_touch, touched_run}
use Rattle.reclaim_module.specs.Pages.{ReclaimView, is_out_in, out_count}
use Rattle.reclaim_module.proofs.Moving.{at_page, each_page_again, each_page_same, length_with_run, one_comes_back, out_loss, touch_loss}

-- a model by its parts
same_model : (r : ReclaimView) (out out' : List Bool) (n n' : ℕ) → out ≡ out' → n ≡ n' → record r { out = out; counts = record r.counts { refaults = n } } ≡ record r { out = out'; counts = record r.counts { refaults = n' } }
same_model r out out' n n' outs counts =
    ap (λ (xs : List Bool). record r { out = xs; counts = record r.counts { refaults = n } }) outs
    ∙ ap (λ (k : ℕ). record r { out = out'; counts = record r.counts { refaults = k } }) counts

pub touched_none : (start : ℕ) (r : ReclaimView) → touched_run start 0 r ≡ r
touched_none start r =
    let n = length r.out in
    let off : (p : ℕ) → in_run start 0 p ≡ false = λ p. grind (arith, nat_tests) in
    let f : ℕ → Bool = λ p. if in_run start 0 p then false else is_out_in r.out p in
    let outs : with_run start 0 false r.out ≡ r.out = each_page_same n f (is_out_in r.out) (λ p below. ap (λ b. if b then false else is_out_in r.out p) (off p)) ∙ sym (each_page_again r.out) in
    let none = count_none n (λ p. in_run start 0 p && is_out_in r.out p) (λ p below. ap (λ b. b && is_out_in r.out p) (off p)) in
    same_model r (with_run start 0 false r.out) r.out (r.counts.refaults + count_pages n (λ p. in_run start 0 p && is_out_in r.out p)) r.counts.refaults outs (omega (arith, none))

-- two runs of which the second begins where the first ends
runs_join : (start n m : ℕ) (now : Bool) (xs : List Bool) → with_run start (n + m) now xs ≡ with_run (start + n) m now (with_run start n now xs)
runs_join start n m now xs =
    let ys = with_run start n now xs in
    let all = length xs in
    let first : ℕ → Bool = λ p. if in_run start n p then now else is_out_in xs p in
    let whole : ℕ → Bool = λ p. if in_run start (n + m) p then now else is_out_in xs p in
    let second : ℕ → Bool = λ p. if in_run (start + n) m p then now else is_out_in ys p in
    each_page_same all whole second (λ p below.
    ap (λ b. if b then now else is_out_in xs p) (run_joins start n m p)
    ∙ (sym (both_bits now (in_run start n p) (in_run (start + n) m p) (is_out_in xs p))
    ∙ ap (λ b. if in_run (start + n) m p then now else b) (sym (at_page all first p below))))
    ∙ ap (λ k. each_page k second) (sym (length_with_run start n now xs))

-- the first page of a run is touched, and then the others
pub touched_first : (start n : ℕ) (r : ReclaimView) → start < length r.out → touched_run start (suc n) r ≡ touched_run (start + 1) n (after_touch start r)
touched_first start n r here =
    let xs = r.out in
    let ys = slice_set xs start false in
    let count : suc n ≡ 1 + n = omega arith in
    let outs : with_run start (suc n) false xs ≡ with_run (start + 1) n false ys =
    ap (λ k. with_run start k false xs) count ∙ runs_join start 1 n false xs ∙ ap (λ zs. with_run (start + 1) n false zs) (one_comes_back start xs here) in
    same_model r (with_run start (suc n) false xs) (with_run (start + 1) n false ys)
    (r.counts.refaults + count_pages (length xs) (λ p. in_run start (suc n) p && is_out_in xs p))
    (r.counts.refaults + cond (is_out_in xs start) 1 0 + count_pages (length ys) (λ p. in_run (start + 1) n p && is_out_in ys p))
    outs (omega (arith, out_loss start (suc n) xs, out_loss (start + 1) n ys, touch_loss start xs here, ap out_count outs))
