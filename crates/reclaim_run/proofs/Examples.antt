-- The metric and the line of proactive reclaim, worked out by hand.
use Rattle.std.specs.Prelude.{◌≡◌, codes, refl}
use Rattle.std.specs.Fmt.{digits}
use Rattle.reclaim_run.specs.Reclaimed.{reclaim_line, thousandths}

a_hundred_of_1024_pages : thousandths 100 1024 ≡ 97
a_hundred_of_1024_pages = refl

all_pages : thousandths 3 3 ≡ 1000
all_pages = refl

no_page : thousandths 0 3 ≡ 0
no_page = refl

a_line : reclaim_line 20 (record { resident = 925; out = 99; counts = record { pageouts = 100; refaults = 1; prefetches = 0 } })
    ≡ codes "reclaim tick=20 resident=925 out=99 pageouts=100 refaults=1 prefetches=0\n"
unfolding digits
a_line = refl
