-- A bus in memory, as the list of its meters (EN 13757-3, selection with wildcards).
use Rattle.std.specs.Prelude.{List, [], Option, Some, None, filter}
use Rattle.dc_address.specs.Mask.{MaskParts, matches}
use Rattle.dc_address.specs.declared.identity.Identity.{Identity}

-- its meters, and the last selection
pub record Listed : Type 0 where
  pub meters : List Identity
  pub mask : Option MaskParts

abbrev pub matched_by : Option MaskParts → List Identity → List Identity
matched_by None meters = []
matched_by (Some mask) meters = filter (matches mask) meters

-- the meters that the last selection matched
abbrev pub chosen : Listed → List Identity
chosen bus = matched_by bus.mask bus.meters
