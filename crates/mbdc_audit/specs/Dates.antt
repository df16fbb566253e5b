-- Tests of the dates of a readout's records (this product).
use Rattle.std.specs.Prelude.{ℕ, ◌+◌, ◌*◌, ◌==◌, ◌&&◌, ◌||◌, Bool, true, false, nat_lt, nat_le, List, [], ◌∷◌, map}
use Rattle.std.specs.Prelude.{flat_map, if◌then◌else◌, Option, None, Some}
use Rattle.std.specs.List.{list_all}
use Rattle.dc_records.specs.Record.{Entry}
use Rattle.mbdc_audit.specs.declared.evidence.Meant.{Meant}
use Rattle.mbdc_audit.specs.declared.evidence.Meant.TheVariants as meant
use Rattle.mbdc_audit.specs.declared.moment.Dated.{Dated}
use Rattle.mbdc_audit.specs.Evidence.{date_in_record, near}

-- the days with which a record dates a storage
abbrev pub days_in : ℕ → Entry → List ℕ
days_in storage e = if e.storage == storage then map (λ d. d.day) (date_in_record e) else []

abbrev pub days : ℕ → List Entry → List ℕ
days storage records = flat_map (days_in storage) records

-- a day is the first one of a list
abbrev pub is_first : List ℕ → ℕ → Bool
is_first [] day = false
is_first (first ∷ days) day = first == day

-- a record doesn't date a storage above 0 with another day than the first one
abbrev pub is_once : List Entry → Entry → Bool
is_once records e = (e.storage == 0)
    || list_all (λ d. is_first (days e.storage records) d.day) (date_in_record e)

abbrev pub is_near_to : Meant → Option ℕ → Bool
is_near_to by None = true
is_near_to (meant.Current moment) (Some s) = nat_le s (moment + near) && nat_le moment (s + near)
is_near_to (meant.Stored day) (Some s) = nat_le (day * 86400) s

-- a date and time lies near the moment that is meant, or not before the end of the day before
abbrev pub is_near : Meant → Dated → Bool
is_near by d = is_near_to by d.second

-- a day isn't after the moment that is meant
abbrev pub is_past : Meant → Dated → Bool
is_past (meant.Current moment) d = nat_le ((d.day + 1) * 86400) (moment + near)
is_past (meant.Stored day) d = true

abbrev pub may_be_own : Meant → Entry → Bool
may_be_own by e = nat_lt 0 e.storage || list_all (is_near by) (date_in_record e)

abbrev pub may_be_stored : Meant → Entry → Bool
may_be_stored by e = (e.storage == 0) || list_all (is_past by) (date_in_record e)
