use Rattle.page_words.proofs.words.PageWords.split_off.Given as goal

-- the worker's number
abbrev pub ghosts-split : goal.ghosts-split
ghosts-split a = record { number = a.worker }
