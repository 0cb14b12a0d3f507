use Rattle.reclaim_module.proofs.Standing.{out_by_notes, resident_by_notes}
use Rattle.reclaim_module.proofs.laws.model_counts_pages.Goals as goal

pub returns : goal.returns
returns c = record { out = out_by_notes; resident = resident_by_notes }
