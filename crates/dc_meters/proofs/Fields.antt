-- The state that a house's fields hold.
use Rattle.mbdc_change.specs.State.{State}
use Rattle.dc_meters.specs.declared.house.House.TheInside.{Inside}

abbrev pub state_in : {A : Type 0} → Inside A → State
state_in h =
    record { meters = h.meters.entries; readings = h.readings.items; next_serial = h.next_serial; confirmed = h.confirmed; last_number = h.last_number; last_line = h.last_line }
