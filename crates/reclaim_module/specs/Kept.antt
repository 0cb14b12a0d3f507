-- How the pages that are out are stored. Only proofs need this file.
use Rattle.std.specs.Prelude.{◌≡◌, ℕ, ◌+◌, Bool, List}
use Rattle.reclaim_module.specs.declared.reclaim.Counts.{Counts}
use Rattle.reclaim_module.specs.Pages.{out_count}

-- the number of pages out is kept, and each page that went out is out or came back
pub record IsReclaim (set : List Bool) (out : ℕ) (counts : Counts) : Type 0 where
  pub now : out ≡ out_count set
  pub balance : counts.pageouts ≡ out + (counts.refaults + counts.prefetches)
