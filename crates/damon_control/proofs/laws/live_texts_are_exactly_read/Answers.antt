use Rattle.damon_control.proofs.LeadingLive.{IsLiveText-live_of}
use Rattle.damon_control.proofs.Says.{live_of-IsLiveText}
use Rattle.damon_control.proofs.laws.live_texts_are_exactly_read.Goals as goal

pub returns : goal.returns
returns c = record { texts = λ text v. (live_of-IsLiveText text v, IsLiveText-live_of text v) }
