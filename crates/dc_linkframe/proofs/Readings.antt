-- What is read was spelled: the other way round of `frame_of-spelled`.
use Rattle.std.proofs.Common.{◌≡◌, ℕ, ◌+◌, ◌-◌, ◌<◌, ◌≤◌, Bool, true, false, List, [], ◌∷◌, length, take, drop, get_or, Option, Some, None, refl, ap, sym, subst, ◌∙◌, arith, if◌then◌else◌}
use Rattle.std.proofs.lemmas.Bool.{eqb-true}
use Rattle.std.proofs.lemmas.Bool.Decides.{nat_tests}
use Rattle.std.proofs.lemmas.List.{length-take-le, length-drop}
use Rattle.dc_linkframe.specs.declared.fault.FrameFault.{FrameFault}
use Rattle.dc_linkframe.specs.declared.fault.FrameFault.TheVariants.{Empty, Start, Truncated, Lengths, Trailing, Stop, Checksum}
use Rattle.dc_linkframe.specs.Frame.{FrameSeen, ack, short, long, checksum, Spells}
use Rattle.dc_linkframe.specs.Fault.{fault_of, stands, begins_ack, begins_short}
use Rattle.dc_linkframe.specs.Reading.{frame_of, fields_of, unless_faulty}
use Rattle.dc_linkframe.proofs.Spellings.{long_parts, long_found, stop_of-sent, sum_of-sent, frame_of-spelled}

not_first : (b : Bool) (x : FrameFault) (rest : Option FrameFault) → (if b then Some x else rest) ≡ None → (b ≡ false) × (rest ≡ None)
not_first true x rest e = absurd cc
not_first false x rest e = (refl, e)

record NoFault (text : List ℕ) : Type 0 where
  empty : stands text Empty ≡ false
  start : stands text Start ≡ false
  truncated : stands text Truncated ≡ false
  lengths : stands text Lengths ≡ false
  trailing : stands text Trailing ≡ false
  stop : stands text Stop ≡ false
  sum : stands text Checksum ≡ false

no_fault : (text : List ℕ) → fault_of text ≡ None → NoFault text
no_fault text none =
    let a = not_first (stands text Empty) Empty _ none in
    let b = not_first (stands text Start) Start _ a.1 in
    let c = not_first (stands text Truncated) Truncated _ b.1 in
    let d = not_first (stands text Lengths) Lengths _ c.1 in
    let e = not_first (stands text Trailing) Trailing _ d.1 in
    let f = not_first (stands text Stop) Stop _ e.1 in
    let g = not_first (stands text Checksum) Checksum _ f.1 in
    record { empty = a.0; start = b.0; truncated = c.0; lengths = d.0; trailing = e.0; stop = f.0; sum = g.0 }

ack_spelled : (text : List ℕ) → NoFault text → begins_ack text ≡ true → Spells text ack
ack_spelled [] fine begins = absurd cc
ack_spelled (a ∷ []) fine begins =
    record { spelled = ap (λ b. b ∷ []) (eqb-true a 0xE5 begins); has_room = tt }
ack_spelled (a ∷ b ∷ rest) fine begins =
    let trailing = fine.trailing in grind (arith, nat_tests)

short_spelled : (text : List ℕ) → NoFault text → begins_ack text ≡ false → begins_short text ≡ true → Spells text (short (get_or text 1 0) (get_or text 2 0))
short_spelled [] fine other begins = absurd cc
short_spelled (a ∷ []) fine other begins = let truncated = fine.truncated in grind (arith, nat_tests)
short_spelled (a ∷ b ∷ []) fine other begins = let truncated = fine.truncated in grind (arith, nat_tests)
short_spelled (a ∷ b ∷ c ∷ []) fine other begins = let truncated = fine.truncated in grind (arith, nat_tests)
short_spelled (a ∷ b ∷ c ∷ d ∷ []) fine other begins = let truncated = fine.truncated in grind (arith, nat_tests)
short_spelled (a ∷ b ∷ c ∷ d ∷ e ∷ []) fine other begins =
    let start : a ≡ 0x10 = eqb-true a 0x10 begins in
    let stop = fine.stop in
    let sum = fine.sum in
    let last : e ≡ 0x16 = grind (arith, nat_tests) in
    let right : d ≡ checksum (b ∷ c ∷ []) = grind (arith, nat_tests) in
    record { spelled = cc; has_room = tt }
short_spelled (a ∷ b ∷ c ∷ d ∷ e ∷ f ∷ rest) fine other begins = let trailing = fine.trailing in grind (arith, nat_tests)

-- the lengths and starts that a long frame has, at their places
record IsLong (text : List ℕ) : Type 0 where
  four : 4 ≤ length text
  start : get_or text 0 0 ≡ 0x68
  again : get_or text 1 0 ≡ get_or text 2 0
  three : 3 ≤ get_or text 1 0
  repeated : get_or text 3 0 ≡ 0x68
  whole : length text ≡ get_or text 1 0 + 6

is_long : (text : List ℕ) → NoFault text → begins_ack text ≡ false → begins_short text ≡ false → IsLong text
is_long [] fine other another = let empty = fine.empty in absurd cc
is_long (a ∷ []) fine other another = let truncated = fine.truncated in grind (arith, nat_tests)
is_long (a ∷ b ∷ []) fine other another = let truncated = fine.truncated in grind (arith, nat_tests)
is_long (a ∷ b ∷ c ∷ []) fine other another = let truncated = fine.truncated in grind (arith, nat_tests)
is_long (a ∷ b ∷ c ∷ d ∷ rest) fine other another =
    let start = fine.start in
    let truncated = fine.truncated in
    let lengths = fine.lengths in
    let trailing = fine.trailing in
    let first : a ≡ 0x68 = grind (arith, nat_tests) in
    let second : b ≡ c = grind (arith, nat_tests) in
    let third : d ≡ 0x68 = grind (arith, nat_tests) in
    let some : 3 ≤ b = grind (arith, nat_tests) in
    let all : length (a ∷ b ∷ c ∷ d ∷ rest) ≡ b + 6 = grind (arith, nat_tests) in
    record { four = omega arith; start = first; again = second; three = some; repeated = third; whole = all }

long_spelled : (text : List ℕ) → get_or text 1 0 < 256 → NoFault text → begins_ack text ≡ false → begins_short text ≡ false → (frame : FrameSeen) × Spells text frame
long_spelled text byte fine other another =
    let is = is_long text fine other another in
    let len : ℕ = get_or text 1 0 in
    let inner : List ℕ = take (length text - 4) (drop 4 text) in
    let content : List ℕ = take len inner in
    let end : List ℕ = drop len inner in
    let behind : length (drop 4 text) ≡ len + 2 = omega (arith, length-drop 4 text, is.whole) in
    let all : length inner ≡ len + 2 = omega (arith, length-take-le (length text - 4) (drop 4 text) (omega (arith, length-drop 4 text)), length-drop 4 text, is.whole) in
    let front : length content ≡ len = length-take-le len inner (omega (arith, all)) in
    let two : length end ≡ 2 = omega (arith, length-drop len inner, all) in
    let parts = long_parts text content end len is.four is.start refl is.again is.repeated front refl refl two in
    let stop : get_or end 1 0 ≡ 0x16 = stop_of-sent content (get_or end 0 0) (get_or end 1 0) (ap (λ t. stands t Stop) (sym parts) ∙ fine.stop) in
    let sum : get_or end 0 0 ≡ checksum content = sum_of-sent content (get_or end 0 0) (get_or end 1 0) (ap (λ t. stands t Checksum) (sym parts) ∙ fine.sum) in
    (_, long_found text content (get_or end 0 0) (get_or end 1 0) parts (omega (arith, front)) (omega (arith, front, is.three)) stop sum)

by_start : (text : List ℕ) (one two : Bool) → get_or text 1 0 < 256 → NoFault text → begins_ack text ≡ one → begins_short text ≡ two → (frame : FrameSeen) × Spells text frame
by_start text true two byte fine first second = (_, ack_spelled text fine first)
by_start text false true byte fine first second = (_, short_spelled text fine first second)
by_start text false false byte fine first second = long_spelled text byte fine first second

read_without_fault : (text : List ℕ) (fault : Option FrameFault) (frame : FrameSeen) → unless_faulty fault (fields_of text) ≡ Some frame → fault ≡ None
read_without_fault text None frame e = refl
read_without_fault text (Some fault) frame e = absurd cc

-- what is read was spelled, where the byte that may count a content is one
pub Spells-frame_of : (text : List ℕ) (frame : FrameSeen) → get_or text 1 0 < 256 → frame_of text ≡ Some frame → Spells text frame
unfolding frame_of
Spells-frame_of text frame byte read =
    let found = by_start text (begins_ack text) (begins_short text) byte (no_fault text (read_without_fault text (fault_of text) frame read)) refl refl in
    let one : Some found.0 ≡ Some frame = sym (frame_of-spelled text found.0 found.1) ∙ read in
    let same : found.0 ≡ frame = cc in
    subst (Spells text) same found.1

-- a long frame that is read has a body of at most 252 bytes
pub length-body_read : (text body : List ℕ) (control address ci : ℕ) → get_or text 1 0 < 256 → frame_of text ≡ Some (long control address ci body) → length body ≤ 252
length-body_read text body control address ci byte read = (Spells-frame_of text (long control address ci body) byte read).has_room
