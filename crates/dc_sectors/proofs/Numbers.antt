-- Numbers in a sector read back: lemmas for the crates above.
use Rattle.std.proofs.Common.{◌≡◌, ℕ, ◌+◌, ◌-◌, ◌^◌, ◌<◌, ◌≤◌, List, [], ◌++◌, length, take, drop, arith, ap, sym, ◌∙◌, append_assoc, append-nil}
use Rattle.std.proofs.lemmas.List.{drop-drop, drop_all, drop_at, drop-append-le, take_rest, take_at, length-drop}
use borrow.Rule.Slice.PartMut.{put_mid, mid_of}
use Rattle.byteorder.specs.Endian.{little_number, little_bytes}
use Rattle.byteorder.specs.Numbers.{little_from-append, little_number-reads_back, length-bytes_low_first}
use Rattle.dc_sectors.specs.Fields.{field, number_bytes}

pub length-number_bytes : (n number : ℕ) → length (number_bytes n number) ≡ n
unfolding number_bytes
length-number_bytes n number = length-bytes_low_first 0 n number

-- a number reads back from its bytes
pub field-number_bytes : (n at number : ℕ) (front rest : List ℕ) → length front ≡ at → number < 256 ^ n → field n at ((front ++ number_bytes n number) ++ rest) ≡ number
unfolding number_bytes
field-number_bytes n at number front rest long fits =
    ap (λ (l : List ℕ). little_number n (drop at l)) (append_assoc front (little_bytes n number) rest)
    ∙ ap (little_number n) (drop_at front (little_bytes n number ++ rest) at long)
    ∙ little_number-reads_back n number rest fits

-- a number reads no byte after its own
pub field-append : (n at : ℕ) (front rest : List ℕ) → at + n ≤ length front → field n at (front ++ rest) ≡ field n at front
field-append n at front rest within =
    ap (little_number n) (drop-append-le at front rest (omega arith)) ∙ little_from-append n (drop at front) rest (omega (arith, length-drop at front))

-- what a write of a number makes of a sector
pub put_number : (n at number k : ℕ) (old buffer : List ℕ) → at + n ≤ length old → k ≡ length old - at → buffer ≡ little_bytes n number ++ drop n (mid_of at k old)
    → put_mid at k old buffer ≡ take at old ++ (number_bytes n number ++ drop (at + n) old)
unfolding number_bytes
put_number n at number k old buffer within rest is =
    let all : take k (drop at old) ≡ drop at old = ap (λ (j : ℕ). take j (drop at old)) rest ∙ take_rest old at in
    let none : drop k (drop at old) ≡ [] = drop_all k (drop at old) (omega (arith, length-drop at old)) in
    let tail : drop n (drop at old) ≡ drop (at + n) old = drop-drop n at old in
    ap (λ (l : List ℕ). take at old ++ (buffer ++ l)) none
    ∙ ap (λ (l : List ℕ). take at old ++ l) (append-nil buffer ∙ is ∙ ap (λ (l : List ℕ). little_bytes n number ++ drop n l) all ∙ ap (λ (l : List ℕ). little_bytes n number ++ l) tail)

-- A number written after the prefix that is already there goes to its end.
pub written_behind : (n at number : ℕ) (front rest old new : List ℕ) → old ≡ front ++ rest → length front ≡ at → new ≡ take at old ++ (number_bytes n number ++ drop (at + n) old)
    → new ≡ (front ++ number_bytes n number) ++ drop n rest
written_behind n at number front rest old new is long put =
    let before : take at old ≡ front = ap (take at) is ∙ take_at front rest at long in
    let behind : drop (at + n) old ≡ drop n rest = sym (drop-drop n at old) ∙ ap (λ (l : List ℕ). drop n (drop at l)) is ∙ ap (drop n) (drop_at front rest at long) in
    put ∙ ap (λ (l : List ℕ). l ++ (number_bytes n number ++ drop (at + n) old)) before
    ∙ ap (λ (l : List ℕ). front ++ (number_bytes n number ++ l)) behind
    ∙ sym (append_assoc front (number_bytes n number) (drop n rest))
