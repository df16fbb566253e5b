-- The names of device types (EN 13757-3, device type identification; OMS Volume 2). Those that the register table names
-- have its names.
use Rattle.std.specs.Prelude.{ℕ, List, map}
use Rattle.dc_records.specs.Codes.{name_in}
use Rattle.dc_records.specs.declared.names.media.TheConstants.{MEDIA}

abbrev pub medium_name : ℕ → List ℕ
medium_name kind = name_in (map (λ r. (r.0, r.1.now)) MEDIA) kind
