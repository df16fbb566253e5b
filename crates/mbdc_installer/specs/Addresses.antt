-- The search at primary addresses (EN 13757-2): who is there, and which bytes are late (this product).
use Rattle.std.specs.Prelude.{◌≡◌, ℕ, ◌==◌, ◌&&◌, ◌||◌, not, Bool, List, [], ◌∷◌, ◌++◌, is_some, if◌then◌else◌}
use Rattle.dc_linkframe.specs.Reading.{frame_of}
use Rattle.dc_search.specs.Answer.{answer_of}
use Rattle.mbdc_installer.specs.Course.{one_if}
use Rattle.mbdc_installer.specs.Scan.{IsAsked, address_line, is_ack, is_none, sender_at}

-- the greatest primary address
abbrev pub greatest : ℕ
greatest = 250

-- somebody is there: the reset is acknowledged, or bytes come to the request
abbrev pub is_there : List ℕ → List ℕ → Bool
is_there answer telegram = is_ack (frame_of answer) || not (is_none telegram)

abbrev pub line_of : ℕ → List ℕ → List ℕ → List ℕ
line_of address answer telegram =
    if is_there answer telegram then address_line address (sender_at address telegram) else []

-- LATE BYTES, which nobody at the address sends to this reset or request: some came to the reset, and nothing to three
-- requests; an acknowledgement came before other bytes in place of a telegram; or one meter's telegram came, twice, and
-- not one acknowledgement to the reset.
abbrev pub is_late : List ℕ → List ℕ → Bool
is_late answer [] = not (is_none answer)
is_late answer (byte ∷ bytes) = byte == 0xE5 && not (is_none bytes)
    || is_some (answer_of (byte ∷ bytes)) && not (is_ack (frame_of answer))

-- an address is asked, and printed where somebody is there; where late bytes came, that is one more
pub record AsksOne {B : Type 0} (asks_all : B → List ℕ → List ℕ → B → Type 0) (address : ℕ)
    (old : B) (line : List ℕ) (late rest : ℕ) (new : B) : Type 0 where
  pub answer : List ℕ
  pub telegram : List ℕ
  pub asked : IsAsked asks_all address old answer telegram new
  pub line_is : line ≡ line_of address answer telegram
  pub late_is : late ≡ one_if (is_late answer telegram) rest

-- THESE ADDRESSES are asked in turn, and nothing else goes out. At so many of them late bytes came.
abbrev pub AsksEach : {B : Type 0} → (B → List ℕ → List ℕ → B → Type 0) → List ℕ → B → List ℕ → ℕ → B
    → Type 0
AsksEach asks_all [] old text late new = (new ≡ old) × (text ≡ []) × (late ≡ 0)
AsksEach {B} asks_all (address ∷ more) old text late new =
    (line later : List ℕ) × (rest : ℕ) × (between : B) × (text ≡ line ++ later)
    × AsksOne asks_all address old line late rest between × AsksEach asks_all more between later rest new
