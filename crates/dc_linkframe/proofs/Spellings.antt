-- Laws of spellings, for proofs here and above: each frame has one, no two share one, and it has no fault and
-- is read as its frame.
use Rattle.std.proofs.Common.{◌≡◌, ℕ, suc, ◌+◌, ◌-◌, ◌≤◌, ◌<◌, true, false, not, ◌==◌, List, [], ◌∷◌, ◌++◌, length, take, drop, get_or, Some, None, Ok, Err, Result, IfOk, IfErr, IsOkAnd, option_map, refl, ap, ◌∙◌, sym, arith}
use Rattle.std.specs.Result.{result_ok}
use Rattle.std.proofs.lemmas.Bool.{eq-eqb, ne_eqb, le-ltb}
use Rattle.std.proofs.lemmas.Bool.Decides.{nat_tests}
use Rattle.std.proofs.lemmas.List.{length-append, get_or-append-add, take_all, take-append-drop}
use Rattle.std.proofs.Math.Seq.{take-append_seam}
use Rattle.dc_linkframe.specs.declared.frame.Frame.{Frame}
use Rattle.dc_linkframe.specs.declared.fault.FrameFault.{FrameFault}
use Rattle.dc_linkframe.specs.declared.fault.FrameFault.TheVariants.{Empty, Truncated, Lengths, Trailing, Stop, Checksum}
use Rattle.dc_linkframe.specs.Frame.{FrameSeen, ack, short, long, seen, checksum, spelling, counted, Spells}
use Rattle.dc_linkframe.specs.Fault.{fault_of, stands, content_of}
use Rattle.dc_linkframe.specs.Reading.{frame_of, fields_of, unless_faulty}

-- prefixes of one length, of one list, are one
same_front : (xs ys xs' ys' : List ℕ) → xs ++ ys ≡ xs' ++ ys' → length xs ≡ length xs' → xs ≡ xs'
same_front xs ys xs' ys' e l =
    sym (take-append_seam xs ys) ∙ ap (take (length xs)) e ∙ ap (λ n. take n (xs' ++ ys')) l ∙ take-append_seam xs' ys'

-- a content between its lengths and two bytes
module _ (content : List ℕ) (sum stop : ℕ) where
  tail : List ℕ
  tail = sum ∷ stop ∷ []

  unfoldable pub sent : List ℕ
  sent = 0x68 ∷ length content ∷ length content ∷ 0x68 ∷ (content ++ sum ∷ stop ∷ [])

  length-sent : length sent ≡ 6 + length content
  unfolding sent tail
  length-sent = omega (arith, length-append content tail)

  content_of-sent : content_of sent ≡ content
  unfolding sent tail
  content_of-sent =
      ap (λ n. take n (content ++ tail)) (omega (arith, length-sent)) ∙ take-append_seam content tail

  sum_of_sent : get_or sent (length sent - 2) 0 ≡ sum
  unfolding sent tail
  sum_of_sent =
      let at : length sent - 2 ≡ suc (suc (suc (suc (length content + 0)))) = omega (arith, length-sent) in
      ap (λ n. get_or sent n 0) at ∙ get_or-append-add content tail 0 0

  stop_of_sent : get_or sent (length sent - 1) 0 ≡ stop
  unfolding sent tail
  stop_of_sent =
      let at : length sent - 1 ≡ suc (suc (suc (suc (length content + 1)))) = omega (arith, length-sent) in
      ap (λ n. get_or sent n 0) at ∙ get_or-append-add content tail 1 0

  module _ (three : 3 ≤ length content) where
    not_empty : stands sent Empty ≡ false
    unfolding sent
    not_empty = ne_eqb _ _ (λ e. omega arith)

    not_truncated : stands sent Truncated ≡ false
    unfolding sent
    not_truncated = le-ltb _ _ (omega (arith, length-sent))

    lengths_stand : stands sent Lengths ≡ false
    unfolding sent
    lengths_stand =
        rw (eq-eqb (length content) (length content) refl, le-ltb (length content) 3 three)

    not_trailing : stands sent Trailing ≡ false
    unfolding sent
    not_trailing = le-ltb _ _ (omega (arith, length-sent))

    stopped : stop ≡ 0x16 → stands sent Stop ≡ false
    unfolding sent
    stopped is = rw (stop_of_sent, is)

    -- with the stop byte and the right sum it has no fault
    faultless : stop ≡ 0x16 → sum ≡ checksum content → fault_of sent ≡ None
    unfolding sent
    faultless is right =
        let sums : stands sent Checksum ≡ false = rw (sum_of_sent, content_of-sent, right, eq-eqb (checksum content) (checksum content) refl) in
        rw (not_empty, not_truncated, lengths_stand, not_trailing, stopped is, sums)

    -- with another sum its checksum is the fault
    pub wrong_sum : stop ≡ 0x16 → (sum ≡ checksum content → ⊥) → fault_of sent ≡ Some Checksum
    unfolding sent
    wrong_sum is wrong =
        let sums : stands sent Checksum ≡ true = rw (sum_of_sent, content_of-sent, ne_eqb sum (checksum content) wrong) in
        rw (not_empty, not_truncated, lengths_stand, not_trailing, stopped is, sums)

-- with no fault of the stop byte and none of the checksum it ends as a frame does
pub stop_of-sent : (content : List ℕ) (sum stop : ℕ) → stands (sent content sum stop) Stop ≡ false → stop ≡ 0x16
unfolding sent
stop_of-sent content sum stop fine =
    let other : not (stop == 0x16) ≡ false = rw (stop_of_sent content sum stop) at fine in grind (arith, nat_tests)

pub sum_of-sent : (content : List ℕ) (sum stop : ℕ) → stands (sent content sum stop) Checksum ≡ false → sum ≡ checksum content
unfolding sent
sum_of-sent content sum stop fine =
    let other : not (sum == checksum content) ≡ false = rw (sum_of_sent content sum stop, content_of-sent content sum stop) at fine in
    grind (arith, nat_tests)

two_of : (xs : List ℕ) → length xs ≡ 2 → xs ≡ get_or xs 0 0 ∷ get_or xs 1 0 ∷ []
two_of [] two = absurd (omega arith)
two_of (a ∷ []) two = absurd (omega arith)
two_of (a ∷ b ∷ []) two = refl
two_of (a ∷ b ∷ c ∷ rest) two = absurd (omega arith)

pub three_of : (xs : List ℕ) → 3 ≤ length xs → xs ≡ get_or xs 0 0 ∷ get_or xs 1 0 ∷ get_or xs 2 0 ∷ take (length xs - 3) (drop 3 xs)
three_of [] three = absurd (omega arith)
three_of (a ∷ []) three = absurd (omega arith)
three_of (a ∷ b ∷ []) three = absurd (omega arith)
three_of (a ∷ b ∷ c ∷ rest) three =
    let behind : length (a ∷ b ∷ c ∷ rest) - 3 ≡ length rest = omega arith in
    rw (behind, take_all (length rest) rest (omega arith))

-- a text of the right lengths, cut into its content and two bytes
pub long_parts : (text content end : List ℕ) (len : ℕ) → 4 ≤ length text → get_or text 0 0 ≡ 0x68 → len ≡ get_or text 1 0 → get_or text 1 0 ≡ get_or text 2 0 → get_or text 3 0 ≡ 0x68 → length content ≡ len → content ≡ take len (take (length text - 4) (drop 4 text)) → end ≡ drop len (take (length text - 4) (drop 4 text)) → length end ≡ 2 → text ≡ sent content (get_or end 0 0) (get_or end 1 0)
unfolding sent
long_parts [] content end len four start counted again repeated whole front back two = absurd (omega arith)
long_parts (a ∷ []) content end len four start counted again repeated whole front back two = absurd (omega arith)
long_parts (a ∷ b ∷ []) content end len four start counted again repeated whole front back two = absurd (omega arith)
long_parts (a ∷ b ∷ c ∷ []) content end len four start counted again repeated whole front back two = absurd (omega arith)
long_parts (a ∷ b ∷ c ∷ d ∷ rest) content end len four start counted again repeated whole front back two =
    let behind : length (a ∷ b ∷ c ∷ d ∷ rest) - 4 ≡ length rest = omega arith in
    let all : take (length (a ∷ b ∷ c ∷ d ∷ rest) - 4) rest ≡ rest = rw (behind, take_all (length rest) rest (omega arith)) in
    let inside : content ++ end ≡ rest = rw (front, back, all, take-append-drop len rest) in
    let pair = two_of end two in
    let first : b ≡ length content = omega arith in
    let second : c ≡ length content = omega arith in
    let after : rest ≡ content ++ get_or end 0 0 ∷ get_or end 1 0 ∷ [] = sym inside ∙ ap (λ xs. content ++ xs) pair in
    cc

pub same_frame : (one other : FrameSeen) → spelling one ≡ spelling other → one ≡ other
same_frame ack ack e = refl
same_frame ack (short c a) e = absurd cc
same_frame ack (long c a i b) e = absurd cc
same_frame (short c a) ack e = absurd cc
same_frame (short c a) (short c' a') e = cc
same_frame (short c a) (long c' a' i' b') e = absurd cc
same_frame (long c a i b) ack e = absurd cc
same_frame (long c a i b) (short c' a') e = absurd cc
same_frame (long c a i b) (long c' a' i' b') e =
    let len : length b ≡ length b' = omega (arith, ap (λ xs. get_or xs 1 0) e) in
    let body = same_front b _ b' _ (ap (drop 7) e) len in
    cc

pub fault_of-spelling : (frame : FrameSeen) → fault_of (spelling frame) ≡ None
unfolding sent
fault_of-spelling ack = refl
fault_of-spelling (short c a) = grind (arith, nat_tests)
fault_of-spelling (long c a i b) = faultless (c ∷ a ∷ i ∷ b) (checksum (c ∷ a ∷ i ∷ b)) 0x16 (omega arith) refl refl

fields_of-spelling : (frame : FrameSeen) → fields_of (spelling frame) ≡ frame
unfolding sent
fields_of-spelling ack = refl
fields_of-spelling (short c a) = refl
fields_of-spelling (long c a i b) =
    let tail : List ℕ = checksum (c ∷ a ∷ i ∷ b) ∷ 0x16 ∷ [] in
    let len : length (spelling (long c a i b)) - 2 - 7 ≡ length b = omega (arith, length-append b tail) in
    ap (long c a i) (ap (λ n. take n (b ++ tail)) len ∙ take-append_seam b tail)

-- a spelled frame is read
pub frame_of-spelling : (frame : FrameSeen) → frame_of (spelling frame) ≡ Some frame
unfolding frame_of
frame_of-spelling frame = rw (fault_of-spelling frame, fields_of-spelling frame)

pub frame_of-spelled : (text : List ℕ) (frame : FrameSeen) → Spells text frame → frame_of text ≡ Some frame
frame_of-spelled text frame spells = ap frame_of spells.spelled ∙ frame_of-spelling frame

pub frame_of-faulty : (text : List ℕ) (fault : FrameFault) → fault_of text ≡ Some fault → frame_of text ≡ None
unfolding frame_of
frame_of-faulty text fault stands = ap (λ found. unless_faulty found (fields_of text)) stands

-- a text with a fault spells no frame
pub faults_spell_nothing : (text : List ℕ) (fault : FrameFault) (frame : FrameSeen) → fault_of text ≡ Some fault → Spells text frame → ⊥
faults_spell_nothing text fault frame stands spells =
    let none : fault_of text ≡ None = rw spells.spelled (fault_of-spelling frame) in
    cc

-- what was found is all that the text spells
pub only_found : (text : List ℕ) (result : Result Frame FrameFault) → IfOk result (λ f. Spells text (seen f)) → IfErr result (λ fault. fault_of text ≡ Some fault) → (frame : FrameSeen) → Spells text frame → IsOkAnd result (λ f. seen f ≡ frame)
only_found text (Ok f) found refused frame spells =
    same_frame (seen f) frame (sym found.spelled ∙ spells.spelled)
only_found text (Err fault) found refused frame spells =
    absurd (faults_spell_nothing text fault frame refused spells)

-- the fault that stands is the one that is answered
pub only_refused : (text : List ℕ) (result : Result Frame FrameFault) → IfOk result (λ f. Spells text (seen f)) → IfErr result (λ fault. fault_of text ≡ Some fault) → (fault : FrameFault) → fault_of text ≡ Some fault → result ≡ Err fault
only_refused text (Ok f) found refused fault stands =
    absurd (faults_spell_nothing text fault (seen f) stands found)
only_refused text (Err other) found refused fault stands =
    let same : other ≡ fault = cc in ap Err same

-- a text that counts its content, and ends with its sum, spells that long frame
pub long_found : (text content : List ℕ) (sum stop : ℕ) → text ≡ sent content sum stop → length content < 256 → 3 ≤ length content → stop ≡ 0x16 → sum ≡ checksum content → Spells text (long (get_or content 0 0) (get_or content 1 0) (get_or content 2 0) (take (length content - 3) (drop 3 content)))
unfolding sent
long_found text content sum stop parts small three is right =
    let cut = three_of content three in
    let len : length (take (length content - 3) (drop 3 content)) + 3 ≡ length content = omega (arith, sym (ap length cut)) in
    record { spelled = parts ∙ ap (λ s. sent content s stop) right ∙ ap (λ s. sent content (checksum content) s) is ∙ ap counted cut; has_room = omega arith }

-- what is answered is what is read
pub same_as_read : (text : List ℕ) (result : Result Frame FrameFault) → IfOk result (λ f. Spells text (seen f)) → IfErr result (λ fault. fault_of text ≡ Some fault) → option_map seen (result_ok result) ≡ frame_of text
same_as_read text (Ok f) found refused = sym (frame_of-spelled text (seen f) found)
same_as_read text (Err fault) found refused = sym (frame_of-faulty text fault refused)
