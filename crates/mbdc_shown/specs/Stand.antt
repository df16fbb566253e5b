-- What is told of a reading (this product; EN 13757-3): its headline, and its current records, those of storage number 0 that are
-- instantaneous.
use Rattle.std.specs.Prelude.{ℕ, ◌-◌, ◌==◌, ◌&&◌, if◌then◌else◌, Bool, true, false, List, [], drop, filter, map, Option, Some, None}
use Rattle.std.specs.List.{flat_map}
use Rattle.mbdc_change.specs.State.{PartRow}
use Rattle.mbdc_reading.specs.declared.content.headline.Key.{Key}
use Rattle.mbdc_reading.specs.declared.content.headline.Main.{Main}
use Rattle.mbdc_reading.specs.declared.reading.How.{How}
use Rattle.mbdc_reading.specs.declared.reading.How.TheVariants as how
use Rattle.mbdc_reading.specs.Headline.{headline_from}
use Rattle.mbdc_reading.specs.Reading.{reading_of}
use Rattle.mbdc_reading.specs.Sent.{Sent, sent_at}
use Rattle.mbdc_shown.specs.declared.stand.Current.{Current}
use Rattle.mbdc_shown.specs.declared.stand.Current.TheVariants.{Values, Also, Unread}

-- ---- which records

-- those of a telegram's body
abbrev pub body_sent : List ℕ → List Sent
body_sent body = sent_at (drop 12 body)

-- those of telegrams, one after the other
abbrev pub bodies_sent : List (List ℕ) → List Sent
bodies_sent bodies = flat_map body_sent bodies

-- the telegrams of a reading
abbrev pub body_of : PartRow → List ℕ
body_of part = part.body

abbrev pub bodies_of : List PartRow → List (List ℕ)
bodies_of parts = map body_of parts

-- ---- the current ones: as the due-date table has them, by their codes, or not read

abbrev pub is_read_as : Current → How → Bool
is_read_as Values (how.Point quantity) = true
is_read_as Also how.Plain = true
is_read_as Also how.Qualified = true
is_read_as Unread how.Other = true
is_read_as list how = false

abbrev pub is_in : Current → Sent → Bool
is_in list s = (s.entry.storage == 0) && ((s.entry.function == 0) && is_read_as list (reading_of s.entry s.len).how)

abbrev pub listed : Current → List Sent → List Sent
listed list ss = filter (is_in list) ss

-- ---- for private clauses

-- the records of a headline that come after the last one
abbrev pub headline_left : ℕ → Option Main → Option Key → List Sent → List Sent
headline_left left None last ss = []
headline_left left (Some main) last ss = headline_from left main last ss

-- how many may come after a record of this tariff: none after a total
abbrev pub left_after : ℕ → ℕ → ℕ
left_after left tariff = if tariff == 0 then 0 else left - 1
