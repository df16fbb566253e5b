-- The line on standard error that says why a readout failed (this product).
use Rattle.std.specs.Prelude.{ℕ, ◌==◌, Bool, ◌&&◌, List, [], ◌++◌, codes, decimal, if◌then◌else◌}
use Rattle.dc_address.specs.Text.{text_of}
use Rattle.dc_address.specs.declared.identity.Identity.{Identity}
use Rattle.dc_readout.specs.Text.{has_frames_alone, sentence_of}
use Rattle.dc_readout.specs.declared.misses.misses.Misses.{Misses}
use Rattle.dc_readout.specs.declared.misses.reason.Owner.{Owner}
use Rattle.dc_readout.specs.declared.misses.reason.Owner.TheVariants.{Meter, Address, Number, OnLine}

-- no try failed
abbrev pub has_none : Misses → Bool
has_none misses = has_frames_alone misses && misses.others == 0

unfoldable pub number_after : List ℕ → ℕ → List ℕ
number_after before number = before ++ decimal number

unfoldable pub line_of : ℕ → Identity → List ℕ
line_of line meter = number_after (codes "line ") line ++ codes ": " ++ text_of meter

-- `12345678.PAD.01.07`, `address 5`, `12345678`, `line 2: 12345678.PAD.01.07`
abbrev pub owner_text : Owner → List ℕ
owner_text (Meter meter) = text_of meter
owner_text (Address address) = number_after (codes "address ") address
owner_text (Number digits) = digits
owner_text (OnLine line meter) = line_of line meter

unfoldable pub sentence_line : Misses → List ℕ
sentence_line misses = codes ": " ++ sentence_of misses ++ codes "\n"

unfoldable pub reason_line : Owner → Misses → List ℕ
reason_line owner misses = codes "mbdc: " ++ owner_text owner ++ sentence_line misses

-- THE LINE, as `mbdc: line 2: 12345678.PAD.01.07: 3 tries failed: 2 silent, 1 unreadable`; nothing where no try failed
unfoldable pub reason_text : Owner → Misses → List ℕ
reason_text owner misses = if has_none misses then [] else reason_line owner misses
