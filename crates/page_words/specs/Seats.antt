-- The seats, as contracts see them.
use Rattle.std.specs.Prelude.{◌≡◌, ℕ, List, []}
use Rattle.atomic_table.specs.Seated.{TableId}
use Rattle.atomic_table.specs.Table.{Me}
use Rattle.page_words.specs.declared.view.Touch.{Touch}
use Rattle.page_words.specs.declared.view.Entry.{Entry}
use Rattle.page_words.specs.declared.view.View.{View}
use Rattle.page_words.specs.declared.view.View.TheVariants.{Toucher, Monitor, Spent}

-- a touch seat: its table, its worker's number, and its touches in order
pub record TouchSeatView : Type 0 where
  pub table : TableId
  pub worker : ℕ
  pub touches : List Touch

-- the monitor's seat: its table, its entries in order, and the number of touch seats that are out
pub record MonitorSeatView : Type 0 where
  pub table : TableId
  pub entries : List Entry
  pub out : ℕ

-- the worker's number of a touch view
abbrev pub worker_of : View → ℕ
worker_of (Toucher worker touches) = worker
worker_of (Monitor entries out) = 0
worker_of Spent = 0

-- the touches of a touch view
abbrev pub touches_of : View → List Touch
touches_of (Toucher worker touches) = touches
touches_of (Monitor entries out) = []
touches_of Spent = []

-- the entries of the monitor's view
abbrev pub entries_of : View → List Entry
entries_of (Toucher worker touches) = []
entries_of (Monitor entries out) = entries
entries_of Spent = []

-- the seat has a touch view and no slot
abbrev pub IsTouchSeat : {S : Type 0} → Me S View → Type 0
IsTouchSeat me = me ≡ (Toucher (worker_of me.0) (touches_of me.0), [])

-- the seat has the monitor's view, with `out` touch seats out, and no slot
abbrev pub IsMonitorSeat : {S : Type 0} → Me S View → ℕ → Type 0
IsMonitorSeat me out = me ≡ (Monitor (entries_of me.0) out, [])
