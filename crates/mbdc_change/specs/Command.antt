-- The commands of the billing office (this product): what each names, its line of words separated by
-- single spaces, and its bytes, both ways.
use Rattle.std.specs.Prelude.{ℕ, ◌<◌, Option, None, Some, List, [], ◌∷◌, codes, ◌++◌, ◌==◌}
use Rattle.std.specs.Prelude.{if◌then◌else◌}
use Rattle.std.specs.List.{join_with_byte}
use Rattle.std.specs.Fmt.{decimal}
use Rattle.dc_address.specs.Text.{text_of}
use Rattle.dc_address.specs.declared.identity.Identity.{Identity}
use Rattle.dc_address.specs.Identity.{wire_of}
use Rattle.mbdc_change.specs.declared.command.Command.{Command}
use Rattle.mbdc_change.specs.declared.command.Command.TheVariants.{Fit, Move, Out, Confirm, Swap}
use Rattle.mbdc_change.specs.declared.change.Change.{Change}
use Rattle.mbdc_change.specs.declared.change.Change.TheVariants.{Command as Numbered}
use Rattle.mbdc_change.specs.Flat.{IsFlat}
use Rattle.mbdc_change.specs.Fields.{IsAddress, IsBusLine, IsOfBytes, address_word, end_of_numbers}
use Rattle.mbdc_change.specs.Pieces.{Reader, address_at, address_byte, both, byte, chosen, counted}
use Rattle.mbdc_change.specs.Pieces.{flat_at, identity_at, line_at, long_bytes, number_at, serial_at}

-- ---- what a command names

-- each value that the command names is valid
abbrev pub IsCommand : Command → Type 0
IsCommand (Fit meter line address flat) = IsBusLine line × IsAddress address × IsFlat flat
IsCommand (Move meter flat) = IsFlat flat
IsCommand (Out meter) = Unit {0}
IsCommand (Confirm serial) = serial < end_of_numbers
IsCommand (Swap old new address) = IsAddress address

-- each meter that the command names
abbrev pub NamesMeters : Command → Type 0
NamesMeters (Fit meter line address flat) = IsOfBytes meter
NamesMeters (Move meter flat) = IsOfBytes meter
NamesMeters (Out meter) = IsOfBytes meter
NamesMeters (Confirm serial) = Unit {0}
NamesMeters (Swap old new address) = IsOfBytes old × IsOfBytes new

-- the meter that the command removes
abbrev pub meter_removed : Command → Option Identity
meter_removed (Fit meter line address flat) = None
meter_removed (Move meter flat) = None
meter_removed (Out meter) = Some meter
meter_removed (Confirm serial) = None
meter_removed (Swap old new address) = Some old

-- ---- its line

-- the length of the longest line in bytes
abbrev pub longest_line : ℕ
longest_line = 120

-- the word after the number
abbrev pub verb_of : Command → List ℕ
verb_of (Fit meter line address flat) = codes "FIT"
verb_of (Move meter flat) = codes "MOVE"
verb_of (Out meter) = codes "OUT"
verb_of (Confirm serial) = codes "CONFIRM"
verb_of (Swap old new address) = codes "SWAP"

-- the words after the verb
abbrev pub argument_words : Command → List (List ℕ)
argument_words (Fit meter line address flat) =
    text_of meter ∷ decimal line ∷ address_word address ∷ flat ∷ []
argument_words (Move meter flat) = text_of meter ∷ flat ∷ []
argument_words (Out meter) = text_of meter ∷ []
argument_words (Confirm serial) = decimal serial ∷ []
argument_words (Swap old new address) = text_of old ∷ text_of new ∷ address_word address ∷ []

-- the verb and the arguments
abbrev pub command_words : Command → List (List ℕ)
command_words command = verb_of command ∷ argument_words command

-- the words of the command's line: its number, the verb, the arguments
abbrev pub words_of : ℕ → Command → List (List ℕ)
words_of number command = decimal number ∷ command_words command

-- the command's line: its words separated by single spaces, without LF
unfoldable pub line_of : ℕ → Command → List ℕ
line_of number command = join_with_byte 32 (words_of number command)

-- the text after the number and its space: the verb and the arguments
abbrev pub command_text : Command → List ℕ
command_text command = join_with_byte 32 (command_words command)

abbrev pub arguments_of : Command → List ℕ
arguments_of command = join_with_byte 32 (argument_words command)

-- ---- its bytes: a tag, the number, the arguments

-- the encoding of a numbered command; the tag is 2 to 6
abbrev pub command_bytes : ℕ → Command → List ℕ
command_bytes number (Fit meter line address flat) =
    ((((byte 2 ++ long_bytes number) ++ wire_of meter) ++ byte line) ++ byte (address_byte address))
    ++ counted flat
command_bytes number (Move meter flat) =
    ((byte 3 ++ long_bytes number) ++ wire_of meter) ++ counted flat
command_bytes number (Out meter) = (byte 4 ++ long_bytes number) ++ wire_of meter
command_bytes number (Confirm serial) = (byte 5 ++ long_bytes number) ++ long_bytes serial
command_bytes number (Swap old new address) =
    (((byte 6 ++ long_bytes number) ++ wire_of old) ++ wire_of new) ++ byte (address_byte address)

abbrev pub fit_of : (((ℕ × Identity) × ℕ) × Option ℕ) × List ℕ → Change
fit_of x = Numbered x.0.0.0.0 (Fit x.0.0.0.1 x.0.0.1 x.0.1 x.1)

unfoldable pub fit_at : Reader Change
fit_at bytes = chosen (λ (x : (((ℕ × Identity) × ℕ) × Option ℕ) × List ℕ). Some (fit_of x))
    (both (both (both (both number_at identity_at) line_at) address_at) flat_at) bytes

abbrev pub move_of : (ℕ × Identity) × List ℕ → Change
move_of x = Numbered x.0.0 (Move x.0.1 x.1)

unfoldable pub move_at : Reader Change
move_at bytes = chosen (λ (x : (ℕ × Identity) × List ℕ). Some (move_of x))
    (both (both number_at identity_at) flat_at) bytes

abbrev pub out_of : ℕ × Identity → Change
out_of x = Numbered x.0 (Out x.1)

unfoldable pub out_at : Reader Change
out_at bytes = chosen (λ (x : ℕ × Identity). Some (out_of x)) (both number_at identity_at) bytes

abbrev pub confirm_of : ℕ × ℕ → Change
confirm_of x = Numbered x.0 (Confirm x.1)

unfoldable pub confirm_at : Reader Change
confirm_at bytes = chosen (λ (x : ℕ × ℕ). Some (confirm_of x)) (both number_at serial_at) bytes

abbrev pub swap_of : ((ℕ × Identity) × Identity) × Option ℕ → Change
swap_of x = Numbered x.0.0.0 (Swap x.0.0.1 x.0.1 x.1)

unfoldable pub swap_at : Reader Change
swap_at bytes = chosen (λ (x : ((ℕ × Identity) × Identity) × Option ℕ). Some (swap_of x))
    (both (both (both number_at identity_at) identity_at) address_at) bytes

-- the command of a tag
abbrev pub command_at : ℕ → Reader Change
command_at tag bytes =
    if tag == 2 then fit_at bytes else
    if tag == 3 then move_at bytes else
    if tag == 4 then out_at bytes else
    if tag == 5 then confirm_at bytes else
    if tag == 6 then swap_at bytes else None
