-- The changes that aren't committed yet (this product).
use Rattle.std.specs.Prelude.{ℕ, ◌≤◌, ◌*◌, List, length}
use Rattle.mbdc_change.specs.Encoding.{longest_change}
use Rattle.mbdc_io.specs.Bytes.{Filled}

-- the encodings of the pending changes, one after the other, and their number
pub record Waiting : Type 0 where
  pub bytes : List ℕ
  pub count : ℕ

-- maximum number of pending changes
abbrev pub most_waiting : ℕ
most_waiting = 4

-- room for the maximum number of pending changes
abbrev pub waiting_room : ℕ
waiting_room = longest_change * most_waiting

pub record IsWaiting (filled : Filled) (count : ℕ) : Type 0 where
  pub few : count ≤ most_waiting
  pub some : count ≤ length filled.bytes
  pub short : length filled.bytes ≤ longest_change * count
