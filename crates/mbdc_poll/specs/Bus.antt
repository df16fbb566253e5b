-- A bus in two halves, as contracts see it (this product).
use Rattle.mbdc_bus.specs.declared.half.HalfBus.{Ghosts}

-- the ghost members of a bus
abbrev pub Bus : Type 0 → Type 1
Bus B = Ghosts B
