use Rattle.std.proofs.Common.{◌≡◌}
use Rattle.std.specs.Prelude.{option_map}
use Rattle.std.specs.Option.{option_or}
use Rattle.std.specs.BTreeMap.{get}
use Rattle.dc_address.specs.declared.identity.Identity.{Identity}
use Rattle.dc_address.specs.Identity.{identity_cmp}
use Rattle.dc_report.proofs.LastReadings.{last_serial}
use Rattle.dc_report.proofs.last.last_readings.Given as goal

-- a meter's last reading is that of the serials that are left, or else what is kept of those so far
abbrev pub invariant-loop-serial : goal.invariant-loop-serial
invariant-loop-serial g l = (meter : Identity) → option_or (last_serial l.house.state.readings meter l.serial-iterator) (option_map (λ r. r.now) (get identity_cmp l.last meter)) ≡ last_serial l.house.state.readings meter l.initial.serial-iterator
