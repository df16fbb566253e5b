-- What a configuration field says of a body's security (EN 13757-3, configuration field; OMS Volume 2), and the media of fixed
-- data (EN 13757-3, fixed data structure).
use Rattle.std.specs.Prelude.{ℕ, ◌/◌, ◌%◌, ◌==◌, ◌||◌, if◌then◌else◌, List, codes, Some, None}
use Rattle.mbdc_reading.specs.declared.content.security.Security.{Security}

-- the mode in bits 12 to 8; in modes 5 and 7 the number of encrypted blocks of 16 bytes in bits 7 to 4
abbrev pub mode_of : ℕ → ℕ
mode_of config = config / 256 % 32

abbrev pub security_of : ℕ → Security
security_of config = record {
  mode = mode_of config;
  blocks = if (mode_of config == 5) || (mode_of config == 7) then Some (config / 16 % 16) else None;
}

abbrev pub security_name : ℕ → List ℕ
security_name mode =
    if mode == 0 then codes "none"
    else if mode == 1 then codes "manufacturer specific"
    else if mode == 2 then codes "DES-CBC, zero vector"
    else if mode == 3 then codes "DES-CBC"
    else if mode == 4 then codes "AES-128-CBC, zero vector"
    else if mode == 5 then codes "AES-128-CBC"
    else if mode == 7 then codes "AES-128-CBC, derived key"
    else if mode == 8 then codes "AES-128-CTR, CMAC"
    else if mode == 9 then codes "AES-128-GCM"
    else if mode == 10 then codes "AES-128-CCM"
    else if mode == 13 then codes "TLS"
    else codes "reserved"

-- 10 to 14 are the media 3, 4, 6, 7 and 8 in mode 2, whose counters have their highest byte first
abbrev pub medium_of : ℕ → List ℕ
medium_of medium =
    if medium == 0 then codes "other"
    else if medium == 1 then codes "oil"
    else if medium == 2 then codes "electricity"
    else if (medium == 3) || (medium == 10) then codes "gas"
    else if (medium == 4) || (medium == 11) then codes "heat"
    else if medium == 5 then codes "steam"
    else if (medium == 6) || (medium == 12) then codes "warm-water"
    else if (medium == 7) || (medium == 13) then codes "water"
    else if (medium == 8) || (medium == 14) then codes "heat-cost-allocator"
    else codes "reserved"
