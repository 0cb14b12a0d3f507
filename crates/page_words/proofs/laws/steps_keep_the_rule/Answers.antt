use Rattle.page_words.proofs.AtSeats.{touch_keeps, clear_keeps, load_keeps, split_keeps, gather_keeps}
use Rattle.page_words.proofs.Stepping.{opens}
use Rattle.page_words.proofs.laws.steps_keep_the_rule.Goals as goal

pub returns-clause-new : goal.returns-clause-new
returns-clause-new c pages = opens pages

pub returns-clause-touch : goal.returns-clause-touch
returns-clause-touch c pages slots id page me inside is = touch_keeps pages slots id page me inside is

pub returns-clause-clear : goal.returns-clause-clear
returns-clause-clear c pages slots id page pass out me inside some_pass later is = clear_keeps pages slots id page me pass out inside some_pass later is

pub returns-clause-load : goal.returns-clause-load
returns-clause-load c pages slots id page out me is = load_keeps pages slots id page me out is

pub returns-clause-split : goal.returns-clause-split
returns-clause-split c pages id worker out me is = split_keeps pages id worker out me is

pub returns-clause-gather : goal.returns-clause-gather
returns-clause-gather c pages id other out me you is that = gather_keeps pages id other out me you is that
