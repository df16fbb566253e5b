-- A head written over the first bytes of a sector.
use Rattle.std.proofs.Common.{◌≡◌, ℕ, ◌≤◌, List, [], ◌∷◌, ◌++◌, length, take, drop, set, refl, ap, ◌∙◌, arith, length-append}
use Rattle.std.proofs.lemmas.List.{drop-drop}
use Rattle.dc_sectors.specs.Fields.{number_bytes}
use Rattle.dc_sectors.proofs.Numbers.{length-number_bytes, written_behind}
use Rattle.dc_pages.specs.Group.{head_bytes}

pub set_two : (sector : List ℕ) (a b : ℕ) → 2 ≤ length sector → set (set sector 0 a) 1 b ≡ (a ∷ b ∷ []) ++ drop 2 sector
set_two [] a b long = absurd (omega arith)
set_two (x ∷ []) a b long = absurd (omega arith)
set_two (x ∷ y ∷ sector) a b long = refl

-- the two bytes, and then each number after the one before
pub head_written : (kind version used index session sequence : ℕ) (old a b c d e : List ℕ) → a ≡ (kind ∷ version ∷ []) ++ drop 2 old
    → b ≡ take 2 a ++ (number_bytes 2 used ++ drop 4 a) → c ≡ take 4 b ++ (number_bytes 4 index ++ drop 8 b)
    → d ≡ take 8 c ++ (number_bytes 8 session ++ drop 16 c) → e ≡ take 16 d ++ (number_bytes 8 sequence ++ drop 24 d)
    → e ≡ head_bytes kind version used index session sequence ++ drop 24 old
unfolding head_bytes
head_written kind version used index session sequence old a b c d e start first second third fourth =
    let one = (kind ∷ version ∷ []) ++ number_bytes 2 used in
    let two = one ++ number_bytes 4 index in
    let three = two ++ number_bytes 8 session in
    let one_long : length one ≡ 4 = omega (arith, length-append (kind ∷ version ∷ []) (number_bytes 2 used), length-number_bytes 2 used) in
    let two_long : length two ≡ 8 = omega (arith, one_long, length-append one (number_bytes 4 index), length-number_bytes 4 index) in
    let three_long : length three ≡ 16 = omega (arith, two_long, length-append two (number_bytes 8 session), length-number_bytes 8 session) in
    let at_b = written_behind 2 2 used (kind ∷ version ∷ []) (drop 2 old) a b start refl first in
    let at_c = written_behind 4 4 index one (drop 2 (drop 2 old)) b c at_b one_long second in
    let at_d = written_behind 8 8 session two (drop 4 (drop 2 (drop 2 old))) c d at_c two_long third in
    let at_e = written_behind 8 16 sequence three (drop 8 (drop 4 (drop 2 (drop 2 old)))) d e at_d three_long fourth in
    at_e ∙ ap (λ (l : List ℕ). (three ++ number_bytes 8 sequence) ++ l)
    (ap (λ (l : List ℕ). drop 8 (drop 8 (drop 4 l))) (drop-drop 2 2 old) ∙ ap (λ (l : List ℕ). drop 8 (drop 8 l)) (drop-drop 4 4 old) ∙ ap (drop 8) (drop-drop 8 8 old) ∙ drop-drop 8 16 old)
