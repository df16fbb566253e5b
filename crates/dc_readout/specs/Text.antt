-- The sentence that says what the failed tries of a readout brought (this product).
use Rattle.std.specs.Prelude.{ℕ, ◌+◌, ◌==◌, Bool, true, ◌&&◌, List, [], ◌++◌, codes, decimal, if◌then◌else◌}
use Rattle.dc_readout.specs.declared.misses.misses.Misses.{Misses}

-- how many tries failed
unfoldable pub tries_text : Misses → List ℕ
tries_text misses =
    decimal (misses.silent + misses.noise + misses.others)
    ++ (if misses.silent + misses.noise + misses.others == 1 then codes " try failed"
    else codes " tries failed")

abbrev pub before_count : Bool → List ℕ
before_count is_first = if is_first then codes ": " else codes ", "

-- a count with its words, unless it is 0
unfoldable pub part_text : Bool → ℕ → List ℕ → List ℕ
part_text is_first count words =
    if count == 0 then [] else before_count is_first ++ decimal count ++ words

-- no try brought anything but a frame
abbrev pub has_frames_alone : Misses → Bool
has_frames_alone misses = misses.silent == 0 && misses.noise == 0

unfoldable pub silent_text : Misses → List ℕ
silent_text misses = part_text true misses.silent (codes " silent")

unfoldable pub noise_text : Misses → List ℕ
noise_text misses = part_text (misses.silent == 0) misses.noise (codes " unreadable")

unfoldable pub others_text : Misses → List ℕ
others_text misses =
    part_text (has_frames_alone misses) misses.others (codes " with a wrong frame")

-- THE SENTENCE, as `3 tries failed: 2 silent, 1 unreadable`
unfoldable pub sentence_of : Misses → List ℕ
sentence_of misses =
    tries_text misses ++ silent_text misses ++ noise_text misses ++ others_text misses
