-- A page is out since its last `pageout` note.
use Rattle.std.proofs.Common.{◌≡◌, ℕ, Bool, true, false, not, ◌&&◌, ◌||◌, List, [], ◌∷◌, ◌++◌, refl, sym, ap, subst, ◌∙◌, arith}
use Rattle.std.proofs.lemmas.Bool.{false≢true}
use Rattle.damon_core.specs.Note.{Note}
use Rattle.reclaim_module.specs.Out.{AllLeavePage, IsOutSinceLast, LeavesPage, is_out, is_paged_out, is_prefetched, is_touch_of}

-- whether a page is out after a note that does not page it out
was_out : (out touch back : Bool) → (out && not (touch || back)) ≡ true → (out ≡ true) × (touch ≡ false) × (back ≡ false)
was_out out touch back is = (grind arith, grind arith, grind arith)

-- the last note is found
pub since_last : (notes : List Note) (page : ℕ) → is_out notes page ≡ true → IsOutSinceLast notes page
since_last [] page is = absurd (false≢true is)
since_last (note ∷ earlier) page is = by (is_paged_out earlier note page) refl (since_last earlier page) where
  by : (gone : Bool) → is_paged_out earlier note page ≡ gone → (is_out earlier page ≡ true → IsOutSinceLast earlier page) → IsOutSinceLast (note ∷ earlier) page
  by true paged found = record { newer = []; last = note; before = earlier; is = refl; gone = paged; leave = tt }
  by false paged found =
      let was = was_out (is_out earlier page) (is_touch_of note page) (is_prefetched earlier note page) (sym (ap (λ b. b || (is_out earlier page && not (is_touch_of note page || is_prefetched earlier note page))) paged) ∙ is) in
      let since = found was.0 in
      let leaves : LeavesPage earlier note page = record { gone = paged; touch = was.1; back = was.2 } in
      record {
        newer = note ∷ since.newer;
        last = since.last;
        before = since.before;
        is = ap (λ rest. note ∷ rest) since.is;
        gone = since.gone;
        leave = (subst (λ rest. LeavesPage rest note page) since.is leaves, since.leave);
      }

-- and notes that leave the page keep it out
kept_out : (newer before : List Note) (page : ℕ) → is_out before page ≡ true → AllLeavePage newer before page → is_out (newer ++ before) page ≡ true
kept_out [] before page is all = is
kept_out (note ∷ newer) before page is all =
    let rest = newer ++ before in
    by (is_paged_out rest note page) (is_out rest page) (is_touch_of note page) (is_prefetched rest note page) all.0.gone (kept_out newer before page is all.1) all.0.touch all.0.back where
      by : (g o t b : Bool) → g ≡ false → o ≡ true → t ≡ false → b ≡ false → (g || (o && not (t || b))) ≡ true
      by g o t b gone out touch back = grind arith

pub out_by_last : (notes : List Note) (page : ℕ) → IsOutSinceLast notes page → is_out notes page ≡ true
out_by_last notes page since =
    let first : is_out (since.last ∷ since.before) page ≡ true = ap (λ b. b || (is_out since.before page && not (is_touch_of since.last page || is_prefetched since.before since.last page))) since.gone in
    ap (λ all. is_out all page) since.is ∙ kept_out since.newer (since.last ∷ since.before) page first since.leave
