-- The names of device types (EN 13757-3, device type identification), and two hex digits for any other.
use Rattle.std.specs.Prelude.{ℕ, ◌/◌, ◌%◌, ◌==◌, if◌then◌else◌, List, [], ◌∷◌, codes}
use Rattle.dc_address.specs.Text.{hex_code}

abbrev pub medium_text : ℕ → List ℕ
medium_text kind =
    if kind == 0x02 then codes "electricity"
    else (if kind == 0x03 then codes "gas"
    else (if kind == 0x04 then codes "heat-outlet"
    else (if kind == 0x06 then codes "warm-water"
    else (if kind == 0x07 then codes "water"
    else (if kind == 0x08 then codes "heat-cost-allocator"
    else (if kind == 0x0C then codes "heat-inlet"
    else (if kind == 0x15 then codes "hot-water"
    else (if kind == 0x16 then codes "cold-water"
    else hex_code (kind / 16) ∷ hex_code (kind % 16) ∷ []))))))))
