use Rattle.reclaim_module.proofs.BySlot.{page_out_slot_by_slot}
use Rattle.reclaim_module.proofs.laws.slots_page_out_what_is_resident.Goals as goal

pub returns : goal.returns
returns c = page_out_slot_by_slot
