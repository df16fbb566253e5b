-- Worked texts, which compute.
use Rattle.std.proofs.Common.{◌≡◌, [], ◌∷◌, Ok, Err, refl}
use Rattle.dc_records.specs.declared.fault.BodyFault.TheVariants.{TooManyDife}
use Rattle.dc_records.specs.Reading.{record_at}

nine_difes : record_at (0xC1 ∷ 0x8F ∷ 0x8F ∷ 0x8F ∷ 0x8F ∷ 0x8F ∷ 0x8F ∷ 0x8F ∷ 0x8F ∷ 0x8F ∷ 0x0F ∷ 0x13 ∷ 0x05 ∷ []) ≡ Ok (record { storage = 2199023255551; tariff = 0; subunit = 0; function = 0; field = 1; vib = 0x13 ∷ []; content = 0x05 ∷ [] }, [])
unfolding record_at
nine_difes = refl

tenth_goes_on : record_at (0xC1 ∷ 0x8F ∷ 0x8F ∷ 0x8F ∷ 0x8F ∷ 0x8F ∷ 0x8F ∷ 0x8F ∷ 0x8F ∷ 0x8F ∷ 0x8F ∷ []) ≡ Err TooManyDife
unfolding record_at
tenth_goes_on = refl
