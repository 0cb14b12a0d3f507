-- The hits so far of the pass under way, load by load.
use Rattle.std.proofs.Common.{◌≡◌, ℕ, ◌+◌, ◌≤◌, Bool, List, [], ◌∷◌, cond, take, refl, sym, ap, ◌∙◌, arith}
use Rattle.std.specs.Prelude.{count_by, map}
use Rattle.std.proofs.lemmas.List.{length-take}
use Rattle.std.proofs.lemmas.List.Sums.{count_by-le-length, sum_by-cons}
use Rattle.live_commit.specs.declared.phase.Phase.{Phase}
use Rattle.live_commit.specs.declared.phase.Phase.TheVariants.{Idle, Clearing, Armed, Checking, Void, Due}
use Rattle.damon_core.specs.Event.{IsLoading, load_index}
use Rattle.damon_core.specs.Kept.{CountsHits}

-- the hits before a load
hits_so_far : (ph : Phase) (rows : ℕ) (bits : List Bool) (found : ℕ) → IsLoading ph rows → CountsHits ph bits found → found ≡ count_by (λ hit. hit) (take (load_index ph) bits)
hits_so_far Armed rows bits found loading counts = counts
hits_so_far (Checking k) rows bits found loading counts = counts
hits_so_far (Clearing k) rows bits found loading counts = absurd loading
hits_so_far Idle rows bits found loading counts = absurd loading
hits_so_far Void rows bits found loading counts = absurd loading
hits_so_far Due rows bits found loading counts = absurd loading

-- there are no more of them than loads
pub hits_few : (ph : Phase) (rows : ℕ) (bits : List Bool) (found : ℕ) → IsLoading ph rows → CountsHits ph bits found → found ≤ load_index ph
hits_few ph rows bits found loading counts =
    omega (arith, hits_so_far ph rows bits found loading counts, count_by-le-length (λ (hit : Bool). hit) (take (load_index ph) bits), length-take (load_index ph) bits)

true_marks : (f : ℕ → Bool) (pages : List ℕ) → count_by (λ hit. hit) (map f pages) ≡ count_by f pages
true_marks f [] = refl
true_marks f (p ∷ pages) =
    sum_by-cons (λ (hit : Bool). cond hit 1 0) (f p) (map f pages)
    ∙ ap (λ n. cond (f p) 1 0 + n) (true_marks f pages)
    ∙ sym (sum_by-cons (λ q. cond (f q) 1 0) p pages)
