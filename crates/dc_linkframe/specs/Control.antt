-- What a master sends to a meter and what it may answer: control bytes and the address of selected meters
-- (EN 13757-2, link layer), control information (EN 13757-3, CI field).
use Rattle.std.specs.Prelude.{ℕ, Bool, ◌||◌, List, ◌==◌, if◌then◌else◌}
use Rattle.dc_linkframe.specs.Frame.{FrameSeen, short, long}

-- ---- control bytes

-- SND_NKE: the meter's link begins anew
abbrev pub snd_nke : ℕ
snd_nke = 0x40

-- SND_UD, data for the meter: its frame count bit counts, and is 0
abbrev pub snd_ud : ℕ
snd_ud = 0x53

-- REQ_UD2, the request for data, by its frame count bit
abbrev pub req_ud2 : Bool → ℕ
req_ud2 bit = if bit then 0x7B else 0x5B

-- RSP_UD, the meter's data, with the bits for access demand and flow control either way
abbrev pub is_rsp_ud : ℕ → Bool
is_rsp_ud control = control == 0x08 || control == 0x18 || control == 0x28 || control == 0x38

-- ---- control information

-- data in the variable data structure, with the long header
abbrev pub variable_data : ℕ
variable_data = 0x72

-- CI field of an application error reported by the meter
abbrev pub application_error : ℕ
application_error = 0x70

-- a selection of meters by identity
abbrev pub selection : ℕ
selection = 0x52

-- ---- requests

-- the address of whichever meters are selected
abbrev pub selected : ℕ
selected = 0xFD

-- SND_NKE to an address
abbrev pub reset_to : ℕ → FrameSeen
reset_to address = short snd_nke address

-- the request for data from an address, by its frame count bit
abbrev pub request_to : Bool → ℕ → FrameSeen
request_to bit address = short (req_ud2 bit) address

-- the selection by a mask's eight bytes
abbrev pub selection_by : List ℕ → FrameSeen
selection_by mask = long snd_ud selected selection mask
