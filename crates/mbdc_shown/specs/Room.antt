-- How many more readings an image has room for (this product): the line `ROOM` of `status`.
use Rattle.std.specs.Prelude.{ℕ, ◌-◌, ◌/◌, ◌==◌, if◌then◌else◌, List, ◌++◌, codes, length, Option, None, Some}
use Rattle.mbdc_io.specs.Words.{number_word}
use Rattle.mbdc_change.specs.Size.{size_of, empty_size}
use Rattle.mbdc_change.specs.State.{State}

-- a number after its name
unfoldable pub number_line : List ℕ → Option ℕ → List ℕ
number_line name None = name ++ codes " NONE\n"
number_line name (Some number) = name ++ (number_word number ++ codes "\n")

-- the bytes that a reading takes, of those that are held
abbrev pub bytes_a_reading : State → ℕ
bytes_a_reading s =
    if length s.readings == 0 then 0
    else (size_of s - empty_size) / length s.readings

-- how many more readings of that size the budget has room for; none where none is held
abbrev pub readings_left : ℕ → State → Option ℕ
readings_left budget s =
    if bytes_a_reading s == 0 then None
    else Some ((budget - size_of s) / bytes_a_reading s)

unfoldable pub room_words : Option ℕ → List ℕ
room_words readings = number_line (codes "ROOM") readings
