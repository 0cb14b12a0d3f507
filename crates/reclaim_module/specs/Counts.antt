-- How many pages went out and came back, by what has happened. A page counts once for each note.
use Rattle.std.specs.Prelude.{ℕ, ◌+◌, not, ◌&&◌, List, [], ◌∷◌, cond}
use Rattle.damon_core.specs.Note.{Note, touched}
use Rattle.reclaim_module.specs.Out.{is_out, is_paged_out, is_prefetched}
use Rattle.page_bits.specs.Runs.{count_pages}

-- over all runs of `pageout` schemes: the pages of the space in their runs that were not out just before
abbrev pub pageouts_of : ℕ → List Note → ℕ
pageouts_of pages [] = 0
pageouts_of pages (note ∷ earlier) =
    count_pages pages (λ page. is_paged_out earlier note page && not (is_out earlier page)) + pageouts_of pages earlier

-- how many touches were of a page that was out just before
abbrev pub refaults_of : List Note → ℕ
refaults_of [] = 0
refaults_of (touched page ∷ earlier) = cond (is_out earlier page) 1 0 + refaults_of earlier
refaults_of (_ ∷ earlier) = refaults_of earlier

-- over all runs of `willneed` schemes: the pages of the space in their runs that were out just before
abbrev pub prefetches_of : ℕ → List Note → ℕ
prefetches_of pages [] = 0
prefetches_of pages (note ∷ earlier) =
    count_pages pages (λ page. is_prefetched earlier note page && is_out earlier page) + prefetches_of pages earlier
