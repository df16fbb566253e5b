-- The text of a register (this product).
use Rattle.std.specs.Prelude.{ℕ, List, ◌++◌, codes, length}
use Rattle.mbdc_change.specs.Size.{size_of}
use Rattle.mbdc_change.specs.State.{State}
use Rattle.mbdc_io.specs.Words.{number_word}
use Rattle.dc_upload.specs.Register.{meter_lines}

-- the meters by identity as the office is shown them, how many readings there are, and what the state is counted as
unfoldable pub register_text : State → List ℕ
register_text s =
    meter_lines s
    ++ (codes "READINGS" ++ (number_word (length s.readings)
    ++ (codes "\nSIZE" ++ (number_word (size_of s) ++ codes "\n"))))
