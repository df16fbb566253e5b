-- What spells a link frame: EN 13757-2, which takes the frame format class FT 1.2 of IEC 60870-5-1.
use Rattle.std.specs.Prelude.{◌≡◌, ℕ, ◌%◌, ◌≤◌, List, [], ◌∷◌, ◌++◌, length, sum}
use Rattle.dc_linkframe.specs.declared.frame.Frame.{Frame}
use Rattle.dc_linkframe.specs.declared.frame.Frame.TheVariants.{Ack, Short, Long}

-- a frame without where its body lies: control byte, address, control information and body
pub data FrameSeen : Type 0 where
  ack : FrameSeen
  short : ℕ → ℕ → FrameSeen
  long : ℕ → ℕ → ℕ → List ℕ → FrameSeen

abbrev pub seen : Frame → FrameSeen
seen Ack = ack
seen (Short control address) = short control address
seen (Long control address ci body) = long control address ci body.now

-- the checksum: the sum of the bytes, without carry
abbrev pub checksum : List ℕ → ℕ
checksum bytes = sum bytes % 256

-- a content with its checksum and the stop byte
abbrev pub closed : List ℕ → List ℕ
closed content = content ++ checksum content ∷ 0x16 ∷ []

-- a content of its own length, which is sent twice
abbrev pub counted : List ℕ → List ℕ
counted content = 0x68 ∷ length content ∷ length content ∷ 0x68 ∷ closed content

-- the one spelling of each frame
abbrev pub spelling : FrameSeen → List ℕ
spelling ack = 0xE5 ∷ []
spelling (short control address) = 0x10 ∷ closed (control ∷ address ∷ [])
spelling (long control address ci body) = counted (control ∷ address ∷ ci ∷ body)

-- the longest body: a count is a byte, and counts control, address and control information too
abbrev pub longest_body : ℕ
longest_body = 252

abbrev pub HasRoom : FrameSeen → Type 0
HasRoom ack = Unit {0}
HasRoom (short control address) = Unit {0}
HasRoom (long control address ci body) = length body ≤ longest_body

-- the whole text is the frame
pub record Spells (text : List ℕ) (frame : FrameSeen) : Type 0 where
  pub spelled : text ≡ spelling frame
  pub has_room : HasRoom frame
