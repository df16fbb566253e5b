-- What `need` says of the frame at the front: by the first byte, and a long frame by its first four.
use Rattle.std.proofs.Common.{◌≡◌, ℕ, suc, ◌+◌, ◌<◌, ◌≤◌, ◌⊎◌, inl, inr, Bool, true, false, List, [], ◌∷◌, ◌++◌, length, take, get_or, Some, None, refl, arith, if◌then◌else◌}
use Rattle.std.proofs.lemmas.Bool.{le-ltb, ne_eqb}
use Rattle.std.proofs.lemmas.Bool.Decides.{nat_tests}
use Rattle.std.proofs.lemmas.List.{length-append, length-take-le}
use Rattle.dc_linkframe.specs.declared.fault.FrameFault.{FrameFault}
use Rattle.dc_linkframe.specs.declared.fault.FrameFault.TheVariants.{Empty, Start, Truncated, Lengths, Trailing, Stop, Checksum}
use Rattle.dc_linkframe.specs.declared.needs.Need.TheVariants.{More, Whole}
use Rattle.dc_linkframe.specs.Fault.{fault_of, stands, lengths_agree}
use Rattle.dc_linkframe.specs.Need.{need_of, up_to}

-- with fewer bytes than it has, a frame isn't whole
not_whole : (whole k : ℕ) (text : List ℕ) → length text < whole → up_to whole text ≡ Whole k → ⊥
not_whole whole k text fewer e = grind (arith, nat_tests)

pub never_whole : (text further : List ℕ) (n k : ℕ) → need_of text ≡ More n → length further < n → need_of (text ++ further) ≡ Whole k → ⊥
never_whole [] [] n k e fewer w = cc
never_whole [] (b ∷ bs) n k e fewer w = let one : n ≡ 1 = cc in omega arith
never_whole (a ∷ []) further n k e fewer w = grind (arith, nat_tests)
never_whole (a ∷ b ∷ []) further n k e fewer w = grind (arith, nat_tests)
never_whole (a ∷ b ∷ c ∷ []) further n k e fewer w = grind (arith, nat_tests)
never_whole (a ∷ b ∷ c ∷ d ∷ rest) further n k e fewer w =
    let len = length-append rest further in grind (arith, nat_tests)

-- where no earlier fault stands, it is one of the last two
late_fault : (text : List ℕ) (fault : FrameFault) → stands text Empty ≡ false → stands text Start ≡ false → stands text Truncated ≡ false → stands text Lengths ≡ false → stands text Trailing ≡ false → fault_of text ≡ Some fault → (fault ≡ Stop) ⊎ (fault ≡ Checksum)
late_fault text fault empty start truncated lengths trailing e =
    let left = rw (empty, start, truncated, lengths, trailing) at e in
    last_two (stands text Stop) (stands text Checksum) left
  where
    last_two : (stop sum : Bool) → (if stop then Some Stop else if sum then Some Checksum else None) ≡ Some fault → (fault ≡ Stop) ⊎ (fault ≡ Checksum)
    last_two true sum e = inl cc
    last_two false true e = inr cc
    last_two false false e = absurd cc

-- a frame that is whole, by what it begins with
IsWhole : List ℕ → ℕ → Type 0
IsWhole text n =
    ((get_or text 0 0 ≡ 0xE5) × (n ≡ 1)) ⊎ (((get_or text 0 0 ≡ 0x10) × (n ≡ 5) × (n ≤ length text)) ⊎ ((get_or text 0 0 ≡ 0x68) × (lengths_agree text ≡ true) × (4 ≤ length text) × (n ≡ get_or text 1 0 + 6) × (n ≤ length text)))

is_whole : (a : ℕ) (others : List ℕ) (n : ℕ) → need_of (a ∷ others) ≡ Whole n → IsWhole (a ∷ others) n
unfolding IsWhole
is_whole a others n w = grind (arith, nat_tests)

late_ack : (a : ℕ) (others : List ℕ) (n : ℕ) → a ≡ 0xE5 → n ≡ 1 → fault_of (take n (a ∷ others)) ≡ None
late_ack a others n start one = rw (one, start)

late_short : (a : ℕ) (others : List ℕ) (n : ℕ) (fault : FrameFault) → a ≡ 0x10 → n ≡ 5 → n ≤ length (a ∷ others) → fault_of (take n (a ∷ others)) ≡ Some fault → (fault ≡ Stop) ⊎ (fault ≡ Checksum)
late_short a [] n fault start five fits e = absurd (omega arith)
late_short a (b ∷ []) n fault start five fits e = absurd (omega arith)
late_short a (b ∷ c ∷ []) n fault start five fits e = absurd (omega arith)
late_short a (b ∷ c ∷ d ∷ []) n fault start five fits e = absurd (omega arith)
late_short a (b ∷ c ∷ d ∷ s ∷ rest) n fault start five fits e =
    let front = rw (five, start) at e in
    late_fault (0x10 ∷ b ∷ c ∷ d ∷ s ∷ []) fault refl refl refl refl refl front

late_long : (a b c d : ℕ) (rest : List ℕ) (n : ℕ) (fault : FrameFault) → a ≡ 0x68 → lengths_agree (a ∷ b ∷ c ∷ d ∷ rest) ≡ true → n ≡ b + 6 → n ≤ length (a ∷ b ∷ c ∷ d ∷ rest) → fault_of (take n (a ∷ b ∷ c ∷ d ∷ rest)) ≡ Some fault → (fault ≡ Stop) ⊎ (fault ≡ Checksum)
late_long a b c d rest n fault start agree counted fits e =
    let at : n ≡ suc (suc (suc (suc (b + 2)))) = omega arith in
    let front = rw (at, start) at e in
    let len : length (take (b + 2) rest) ≡ b + 2 = length-take-le (b + 2) rest (omega arith) in
    late_fault (0x68 ∷ b ∷ c ∷ d ∷ take (b + 2) rest) fault (ne_eqb _ _ (λ e. omega arith)) refl (le-ltb _ _ (omega arith)) (rw agree) (le-ltb _ _ (omega arith)) front

pub late_faults : (text : List ℕ) (n : ℕ) (fault : FrameFault) → need_of text ≡ Whole n → fault_of (take n text) ≡ Some fault → (fault ≡ Stop) ⊎ (fault ≡ Checksum)
unfolding IsWhole
late_faults [] n fault w e = absurd cc
late_faults (a ∷ others) n fault w e =
    elim (is_whole a others n w) [
      | inl ack ↦ let none = late_ack a others n ack.0 ack.1 in absurd cc
      | inr more ↦ elim more [
        | inl short ↦ late_short a others n fault short.0 short.1 short.2 e
        | inr long ↦ by_long a others n fault long e
      ]
    ]
  where
    by_long : (a : ℕ) (others : List ℕ) (n : ℕ) (fault : FrameFault) → ((a ≡ 0x68) × (lengths_agree (a ∷ others) ≡ true) × (4 ≤ length (a ∷ others)) × (n ≡ get_or (a ∷ others) 1 0 + 6) × (n ≤ length (a ∷ others))) → fault_of (take n (a ∷ others)) ≡ Some fault → (fault ≡ Stop) ⊎ (fault ≡ Checksum)
    by_long a [] n fault h e = absurd (omega arith)
    by_long a (b ∷ []) n fault h e = absurd (omega arith)
    by_long a (b ∷ c ∷ []) n fault h e = absurd (omega arith)
    by_long a (b ∷ c ∷ d ∷ rest) n fault h e = late_long a b c d rest n fault h.0 h.1 h.3 h.4 e
