-- The bytes of the pieces that changes and states are made of (this product), and how each is read:
-- numbers little-endian, identities as they are sent, texts and bodies after a length byte.
use Rattle.std.specs.Prelude.{ℕ, Option, None, Some, List, [], ◌∷◌, Bool, length, ◌++◌, ◌≡◌, zero}
use Rattle.std.specs.Prelude.{suc, true, false, ◌&&◌, take, drop, Result, Ok, Err, nat_lt, nat_le}
use Rattle.std.specs.Prelude.{◌==◌, if◌then◌else◌, refl}
use Rattle.std.specs.List.{list_all}
use Rattle.byteorder.specs.Endian.{little_bytes, little_number}
use Rattle.dc_address.specs.declared.identity.Identity.{Identity}
use Rattle.dc_address.specs.Identity.{is_identity}
use Rattle.dc_address.proofs.Identities.{spelled_identity}
use Rattle.mbdc_change.specs.declared.decode_fault.DecodeFault.{DecodeFault}
use Rattle.mbdc_change.specs.declared.decode_fault.DecodeFault.TheVariants.{Bad, NoMemory}
use Rattle.mbdc_change.specs.Flat.{is_flat_byte, longest_flat}
use Rattle.mbdc_change.specs.Fields.{end_of_numbers, last_moment}

-- ---- a piece as bytes

-- a number in eight bytes
unfoldable pub long_bytes : ℕ → List ℕ
long_bytes number = little_bytes 8 number

-- a number in four bytes
unfoldable pub count_bytes : ℕ → List ℕ
count_bytes number = little_bytes 4 number

-- a byte
unfoldable pub byte : ℕ → List ℕ
byte value = value ∷ []

-- a length byte, then that many bytes
unfoldable pub counted : List ℕ → List ℕ
counted bytes = byte (length bytes) ++ bytes

-- the primary address; 0 for secondary addressing
abbrev pub address_byte : Option ℕ → ℕ
address_byte None = 0
address_byte (Some address) = address

-- ---- reading a value from the start of bytes: the value and the rest, or `None`

abbrev pub Reader : Type 0 → Type 0
Reader X = List ℕ → Option (X × List ℕ)

-- a function's result, seen by `view`, is what the definition reads, unless memory ran out
abbrev pub Fails : {Y : Type 0} → DecodeFault → Option Y → Type 0
Fails Bad read = read ≡ None
Fails NoMemory read = Unit {0}

abbrev pub Gives : {X Y : Type 0} → (X → Y) → Result X DecodeFault → Option Y → Type 0
Gives view (Ok x) read = read ≡ Some (view x)
Gives view (Err e) read = Fails e read

-- the same for functions that use no memory: what can't be read is `Bad`
abbrev pub Reads : {X Y : Type 0} → (X → Y) → Result X DecodeFault → Option Y → Type 0
Reads view (Ok x) read = read ≡ Some (view x)
Reads view (Err e) read = (e ≡ Bad) × (read ≡ None)

-- ---- combinators

infixl 10 ◌>>=◌
abbrev pub ◌>>=◌ : {A B : Type 0} → Option A → (A → Option B) → Option B
(Some x) >>= f = f x
None >>= f = None

-- one value and then another
abbrev pub both : {X Y : Type 0} → Reader X → Reader Y → Reader (X × Y)
both first second bytes = first bytes >>= λ x. second x.1 >>= λ y. Some ((x.0, y.0), y.1)

-- the value that a value read decodes to, if it is allowed
abbrev pub chosen : {X Y : Type 0} → (X → Option Y) → Reader X → Reader Y
chosen meaning at bytes = at bytes >>= λ x. meaning x.0 >>= λ y. Some (y, x.1)

-- a value that passes a test
abbrev pub only : {X : Type 0} → (X → Bool) → X → Option X
only test x = if test x then Some x else None

-- this many values
abbrev pub many : {X : Type 0} → Reader X → ℕ → Reader (List X)
many at zero bytes = Some ([], bytes)
many at (suc n) bytes = at bytes >>= λ x. many at n x.1 >>= λ xs. Some (x.0 ∷ xs.0, xs.1)

-- a count, and then that many values
abbrev pub listed : {X : Type 0} → Reader ℕ → Reader X → Reader (List X)
listed count at bytes = count bytes >>= λ n. many at n.0 n.1

-- ---- a piece from bytes

unfoldable pub byte_at : Reader ℕ
byte_at [] = None
byte_at (b ∷ rest) = Some (b, rest)

abbrev pub split_at : ℕ → Reader (List ℕ)
split_at n bytes = if nat_lt (length bytes) n then None else Some (take n bytes, drop n bytes)

unfoldable pub long_at : Reader ℕ
long_at bytes = split_at 8 bytes >>= λ x. Some (little_number 8 x.0, x.1)

unfoldable pub count_at : Reader ℕ
count_at bytes = split_at 4 bytes >>= λ x. Some (little_number 4 x.0, x.1)

unfoldable pub counted_at : Reader (List ℕ)
counted_at bytes = byte_at bytes >>= λ n. split_at n.0 n.1

abbrev pub identity_by : (wire : List ℕ) (is : Bool) → is_identity wire ≡ is → Option Identity
identity_by wire true is = Some (spelled_identity wire is).0
identity_by wire false is = None

unfoldable pub identity_of : List ℕ → Option Identity
identity_of wire = identity_by wire (is_identity wire) refl

unfoldable pub identity_at : Reader Identity
identity_at bytes = chosen identity_of (split_at 8) bytes

unfoldable pub moment_at : Reader ℕ
moment_at bytes = chosen (only (λ n. nat_le n last_moment)) long_at bytes

-- the number of a command
unfoldable pub number_at : Reader ℕ
number_at bytes = chosen (only (λ n. nat_le 1 n && nat_lt n end_of_numbers)) long_at bytes

unfoldable pub serial_at : Reader ℕ
serial_at bytes = chosen (only (λ n. nat_lt n end_of_numbers)) long_at bytes

unfoldable pub line_at : Reader ℕ
line_at bytes = chosen (only (λ n. nat_le 1 n && nat_le n 8)) byte_at bytes

-- the primary address; 0 means secondary addressing
abbrev pub address_of : ℕ → Option (Option ℕ)
address_of number = if number == 0 then Some None else if nat_le number 250 then Some (Some number)
    else None

unfoldable pub address_at : Reader (Option ℕ)
address_at bytes = chosen address_of byte_at bytes

abbrev pub is_flat : List ℕ → Bool
is_flat name = nat_lt 0 (length name) &&
    (nat_le (length name) longest_flat && list_all is_flat_byte name)

unfoldable pub flat_at : Reader (List ℕ)
flat_at bytes = chosen (only is_flat) counted_at bytes
