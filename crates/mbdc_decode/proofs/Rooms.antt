-- Bytes just before the end of a room.
use Rattle.std.proofs.Common.{◌≡◌, ℕ, suc, ◌+◌, ◌-◌, ◌<◌, ◌≤◌, ◌∙◌, List, ◌∷◌, ◌++◌, length, drop, get_or, refl, sym, ap, arith, drop-cons}
use Rattle.std.proofs.lemmas.List.{drop-drop, drop-append-le}
use Rattle.mbdc_io.specs.Hex.{upper_pair, upper_hex}

-- the last bytes of a piece
pub last_of_piece : (room piece rest : List ℕ) (start end n : ℕ) → start + length piece ≡ end → n ≤ length piece → drop start room ≡ piece ++ rest
    → drop (end - n) room ≡ drop (length piece - n) piece ++ rest
last_of_piece room piece rest start end n ends few is =
    let from : end - n ≡ start + (length piece - n) = omega arith in
    ap (λ (k : ℕ). drop k room) from ∙ sym (drop-drop (length piece - n) start room) ∙ ap (drop (length piece - n)) is
    ∙ drop-append-le (length piece - n) piece rest (omega arith)

first_pair : (b : ℕ) (bytes : List ℕ) → upper_hex (b ∷ bytes) ≡ upper_pair b ++ upper_hex bytes
unfolding upper_hex
first_pair b bytes = refl

-- the hex digits of the bytes from a place on
pub hex_from : (bytes : List ℕ) (at : ℕ) → at < length bytes → upper_hex (drop at bytes) ≡ upper_pair (get_or bytes at 0) ++ upper_hex (drop (at + 1) bytes)
hex_from bytes at below =
    let next : suc at ≡ at + 1 = omega arith in
    ap upper_hex (drop-cons bytes at 0 below ∙ ap (λ (n : ℕ). get_or bytes at 0 ∷ drop n bytes) next)
    ∙ first_pair (get_or bytes at 0) (drop (at + 1) bytes)
