-- What a touch and the actions of schemes make of the pages.
use Rattle.std.specs.Prelude.{ℕ, ◌+◌, Bool, true, false, not, ◌&&◌, List, length, replicate, slice_set, cond}
use Rattle.damon_types.specs.declared.scheme.Action.{Action}
use Rattle.damon_types.specs.declared.scheme.Action.TheVariants.{Pageout, Willneed}
use Rattle.page_bits.specs.Runs.{count_pages, in_run}
use Rattle.page_bits.specs.Sets.{with_run}
use Rattle.reclaim_module.specs.Pages.{ReclaimView, is_out_in}

-- all pages of a space are resident, and nothing was counted
abbrev pub all_resident : ℕ → ReclaimView
all_resident pages = record {
  out = replicate pages false;
  counts = record { pageouts = 0; refaults = 0; prefetches = 0 };
}

-- a touch brings the page back, and is a refault if the page was out
abbrev pub after_touch : ℕ → ReclaimView → ReclaimView
after_touch page r = record {
  out = slice_set r.out page false;
  counts = record r.counts { refaults = r.counts.refaults + cond (is_out_in r.out page) 1 0 };
}

-- the pages of a run go out, and those that were not out are counted
abbrev pub paged_out : ℕ → ℕ → ReclaimView → ReclaimView
paged_out start pages r = record {
  out = with_run start pages true r.out;
  counts = record r.counts {
    pageouts = r.counts.pageouts + count_pages (length r.out) (λ page. in_run start pages page && not (is_out_in r.out page));
  };
}

-- the pages of a run come back, and those that were out are counted
abbrev pub prefetched : ℕ → ℕ → ReclaimView → ReclaimView
prefetched start pages r = record {
  out = with_run start pages false r.out;
  counts = record r.counts {
    prefetches = r.counts.prefetches + count_pages (length r.out) (λ page. in_run start pages page && is_out_in r.out page);
  };
}

-- the pages of a run are touched, one after another: those that were out come back, and each of them is a refault
abbrev pub touched_run : ℕ → ℕ → ReclaimView → ReclaimView
touched_run start pages r = record {
  out = with_run start pages false r.out;
  counts = record r.counts {
    refaults = r.counts.refaults + count_pages (length r.out) (λ page. in_run start pages page && is_out_in r.out page);
  };
}

-- an action is applied to a run; those other than `pageout` and `willneed` move nothing
abbrev pub after_action : Action → ℕ → ℕ → ReclaimView → ReclaimView
after_action Pageout start pages r = paged_out start pages r
after_action Willneed start pages r = prefetched start pages r
after_action _ start pages r = r
