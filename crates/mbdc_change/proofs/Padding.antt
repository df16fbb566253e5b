-- Bytes followed by zeros.
use Rattle.std.proofs.Common.{◌≡◌, ℕ, ◌-◌, ◌≤◌, List, ◌++◌, length, take, drop, replicate, ap, subst, sym, ◌∙◌, arith, ◌+◌, length-append, append_assoc}
use Rattle.std.proofs.lemmas.List.{drop-replicate}
use Rattle.std.proofs.Math.Seq.{take-append_seam, drop-append_seam}
use borrow.Rule.Slice.PartMut.{put_mid}
use Rattle.mbdc_change.specs.Flat.{IsKept, IsFlat, padded}

-- copied over zeros
pub padded_copied : (room : ℕ) (bytes : List ℕ) → bytes ++ drop (length bytes) (replicate room 0) ≡ padded room bytes
padded_copied room bytes = ap (λ (zeros : List ℕ). bytes ++ zeros) (drop-replicate (length bytes) room 0)

pub take-padded : (room : ℕ) (bytes : List ℕ) → take (length bytes) (padded room bytes) ≡ bytes
take-padded room bytes = take-append_seam bytes (replicate (room - length bytes) 0)

pub IsKept-padded : (room : ℕ) (bytes : List ℕ) → length bytes ≤ room → IsKept room (padded room bytes) (length bytes)
IsKept-padded room bytes fits = record {
  fits = fits;
  counted = ap length (take-padded room bytes);
  zeros = ap (padded room) (take-padded room bytes);
}

pub IsFlat-padded : (bytes : List ℕ) → IsFlat bytes → IsFlat (take (length bytes) (padded 12 bytes))
IsFlat-padded bytes is = subst IsFlat (sym (take-padded 12 bytes)) is

-- bytes written after a text, over its zeros
written : (room : ℕ) (text word : List ℕ) → length text + length word ≤ room → put_mid (length text) (length word) (padded room text) word ≡ padded room (text ++ word)
written room text word fits =
    let rest : drop (length word) (drop (length text) (padded room text)) ≡ replicate ((room - length text) - length word) 0 =
    ap (drop (length word)) (drop-append_seam text (replicate (room - length text) 0)) ∙ drop-replicate (length word) (room - length text) 0 in
    let left : (room - length text) - length word ≡ room - length (text ++ word) = omega (arith, length-append text word) in
    ap (λ (front : List ℕ). front ++ (word ++ drop (length word) (drop (length text) (padded room text)))) (take-padded room text)
    ∙ ap (λ (zeros : List ℕ). text ++ (word ++ zeros)) (rest ∙ ap (λ (n : ℕ). replicate n 0) left)
    ∙ sym (append_assoc text word (replicate (room - length (text ++ word)) 0))

pub put_padded : (room a k : ℕ) (text word bytes copied : List ℕ) → bytes ≡ padded room text → a ≡ length text → k ≡ length word → copied ≡ word → length text + length word ≤ room
    → put_mid a k bytes copied ≡ padded room (text ++ word)
put_padded room a k text word bytes copied bytes_are a_is k_is copied_is fits = rw (bytes_are, a_is, k_is, copied_is) (written room text word fits)
