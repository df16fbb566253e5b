-- How many failed tries of a readout brought what (this product; the frames of EN 13757-2).
use Rattle.std.specs.Prelude.{ℕ, ◌+◌, ◌==◌, min, Bool, true, false, not, ◌&&◌, List, length, is_some, count_by}
use Rattle.dc_linkframe.specs.Reading.{frame_of}
use Rattle.dc_readout.specs.declared.misses.misses.Misses.{Misses}

-- no byte
abbrev pub is_silent : List ℕ → Bool
is_silent answer = length answer == 0

-- bytes that are no frame
abbrev pub is_noise : List ℕ → Bool
is_noise answer = not (is_silent answer) && not (is_some (frame_of answer))

-- a frame
abbrev pub is_other : List ℕ → Bool
is_other answer = is_some (frame_of answer)

-- THE MISSES of a readout whose failed tries brought these: how many of each kind, up to 255.
abbrev pub misses_of : List (List ℕ) → Misses
misses_of answers = record {
  silent = min 255 (count_by is_silent answers);
  noise = min 255 (count_by is_noise answers);
  others = min 255 (count_by is_other answers);
}

-- ---- one try more

abbrev pub counted : Bool → ℕ → ℕ
counted true count = min 255 (count + 1)
counted false count = count

abbrev pub and_missed : List ℕ → Misses → Misses
and_missed answer misses = record {
  silent = counted (is_silent answer) misses.silent;
  noise = counted (is_noise answer) misses.noise;
  others = counted (is_other answer) misses.others;
}
