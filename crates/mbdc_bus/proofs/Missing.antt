-- Where no answer begins: blocks have one spelling, so the bytes taken show that none does.
use Rattle.std.proofs.Common.{◌≡◌, ◌⊎◌, inl, inr, ℕ, ◌+◌, ◌-◌, ◌<◌, ◌≤◌, List, [], ◌∷◌, ◌++◌, Option, Some, None, length, drop, arith, ap, sym, ◌∙◌, append_assoc, append-nil, length-append, subst}
use Rattle.std.specs.List.{All}
use Rattle.std.proofs.Math.Seq.{drop-append_seam}
use Rattle.std.proofs.lemmas.List.Elements.{All-head, All-tail}
use Rattle.mbdc_io.specs.Failures.{HasRisen}
use Rattle.mbdc_io.specs.Stream.{IsAtEnd, Takes}
use Rattle.mbdc_io.proofs.Pieces.{takes-both}
use Rattle.mbdc_bus.specs.Blocks.{Answers, IsBlock, block, blocks_bytes, most_blocks}
use Rattle.mbdc_bus.specs.Talk.{HasNoAnswer, IsFront, TakesFront}
use Rattle.mbdc_bus.proofs.Reading.{Reading}

-- these bytes begin with no answer of at most this many blocks
abbrev NoneWithin : ℕ → List ℕ → Type 0
NoneWithin limit bytes = (blocks : List (List ℕ)) (rest : List ℕ) → All IsBlock blocks → length blocks ≤ limit → bytes ≡ blocks_bytes blocks ++ (0 ∷ rest) → ⊥

-- at the end
none_at_end : (limit : ℕ) → NoneWithin limit []
none_at_end limit [] rest each few is = cc
none_at_end limit (b ∷ blocks) rest each few is = cc

abbrev first_byte : List ℕ → ℕ
first_byte [] = 0
first_byte (x ∷ xs) = x

-- within a block
none_in_cut : (limit count : ℕ) (bytes : List ℕ) → length bytes < count → NoneWithin limit (count ∷ bytes)
none_in_cut limit count bytes short [] rest each few is =
    let same : count ≡ 0 = ap first_byte is in absurd (omega (arith, same, short))
none_in_cut limit count bytes short (b ∷ blocks) rest each few is =
    let same : count ≡ length b = ap first_byte is in
    let others : bytes ≡ (b ++ blocks_bytes blocks) ++ (0 ∷ rest) = ap (drop 1) is in
    let long : length bytes ≡ length b + length (blocks_bytes blocks) + length (0 ∷ rest) =
    ap length others ∙ length-append (b ++ blocks_bytes blocks) (0 ∷ rest) ∙ ap (λ (n : ℕ). n + length (0 ∷ rest)) (length-append b (blocks_bytes blocks)) in
    absurd (omega (arith, long, same, short))

-- after the last block that an answer may have
none_past : (count : ℕ) (bytes : List ℕ) → 0 < count → NoneWithin 0 (count ∷ bytes)
none_past count bytes some [] rest each few is =
    let same : count ≡ 0 = ap first_byte is in absurd (omega (arith, same, some))
none_past count bytes some (b ∷ blocks) rest each few is = absurd (omega (arith, few))

-- after a block
none_behind : (limit : ℕ) (b tail : List ℕ) → 0 < length b → NoneWithin limit tail → NoneWithin (limit + 1) (block b ++ tail)
none_behind limit b tail some none [] rest each few is =
    let same : length b ≡ 0 = ap first_byte is in absurd (omega (arith, same, some))
none_behind limit b tail some none (c ∷ blocks) rest each few is =
    let same : length b ≡ length c = ap first_byte is in
    let others : b ++ tail ≡ c ++ (blocks_bytes blocks ++ (0 ∷ rest)) = ap (drop 1) is ∙ append_assoc c (blocks_bytes blocks) (0 ∷ rest) in
    let back : tail ≡ blocks_bytes blocks ++ (0 ∷ rest) =
    sym (drop-append_seam b tail) ∙ ap (drop (length b)) others ∙ ap (λ (n : ℕ). drop n (c ++ (blocks_bytes blocks ++ (0 ∷ rest)))) same ∙ drop-append_seam c (blocks_bytes blocks ++ (0 ∷ rest)) in
    none blocks rest (All-tail IsBlock c blocks each) (omega (arith, few)) back

none_behind_all : (blocks : List (List ℕ)) (limit : ℕ) (tail : List ℕ) → All IsBlock blocks → NoneWithin limit tail → NoneWithin (limit + length blocks) (blocks_bytes blocks ++ tail)
none_behind_all [] limit tail each none = subst (λ (n : ℕ). NoneWithin n tail) (omega arith) none
none_behind_all (b ∷ blocks) limit tail each none =
    let later : NoneWithin (limit + length blocks + 1) (block b ++ (blocks_bytes blocks ++ tail)) = none_behind (limit + length blocks) b (blocks_bytes blocks ++ tail) (All-head IsBlock b blocks each).0 (none_behind_all blocks limit tail (All-tail IsBlock b blocks each) none) in
    let more : limit + length blocks + 1 ≡ limit + length (b ∷ blocks) = omega arith in
    subst (λ (n : ℕ). NoneWithin n ((block b ++ blocks_bytes blocks) ++ tail)) more (subst (NoneWithin (limit + length blocks + 1)) (sym (append_assoc (block b) (blocks_bytes blocks) tail)) later)

-- the prefix of a block at the end of all bytes
none_in_front : (limit before : ℕ) (front : List ℕ) → IsFront before front → NoneWithin limit front
none_in_front limit before [] is = none_at_end limit
none_in_front limit before (count ∷ bytes) is = none_in_cut limit count bytes is.0

no_answer : (bytes : List ℕ) → NoneWithin most_blocks bytes → (answer rest : List ℕ) → Answers bytes answer rest → ⊥
no_answer bytes none answer rest so = none so.blocks rest so.are.each so.are.few so.parts

none_after : (blocks : List (List ℕ)) (limit : ℕ) (bytes tail : List ℕ) → All IsBlock blocks → limit + length blocks ≡ most_blocks → bytes ≡ blocks_bytes blocks ++ tail → NoneWithin limit tail → NoneWithin most_blocks bytes
none_after blocks limit bytes tail each all is none =
    subst (NoneWithin most_blocks) (sym is) (subst (λ (n : ℕ). NoneWithin n (blocks_bytes blocks ++ tail)) all (none_behind_all blocks limit tail each none))

-- The reader came to its end within an answer.
pub ended : (old new : Option (List ℕ)) → TakesFront old new → IsAtEnd new → HasNoAnswer old
ended None new so end = tt
ended (Some bytes) None so end = let no = so.taken in cc
ended (Some bytes) (Some left) so end =
    let taken = so.taken in
    let all : bytes ≡ (blocks_bytes so.blocks ++ so.front) ++ left = cc in
    let is : bytes ≡ blocks_bytes so.blocks ++ so.front = all ∙ ap (λ (xs : List ℕ). (blocks_bytes so.blocks ++ so.front) ++ xs) end ∙ append-nil (blocks_bytes so.blocks ++ so.front) in
    let limit : ℕ = most_blocks - length so.blocks in
    no_answer bytes (none_after so.blocks limit bytes so.front so.are.each (omega (arith, so.are.few)) is (none_in_front limit (length so.blocks) so.front so.is_front))

-- It counted one block too many.
past_by : (old new : Option (List ℕ)) (blocks : List (List ℕ)) (count : ℕ) → All IsBlock blocks → length blocks ≡ most_blocks → Takes old new (blocks_bytes blocks ++ (count ∷ [])) → 0 < count → HasNoAnswer old
past_by None new blocks count each all taken some = tt
past_by (Some bytes) None blocks count each all taken some = cc
past_by (Some bytes) (Some left) blocks count each all taken some =
    let whole : bytes ≡ (blocks_bytes blocks ++ (count ∷ [])) ++ left = cc in
    let is : bytes ≡ blocks_bytes blocks ++ (count ∷ left) = whole ∙ append_assoc (blocks_bytes blocks) (count ∷ []) left in
    no_answer bytes (none_after blocks 0 bytes (count ∷ left) each (omega (arith, all)) is (none_past count left some))

pub overran : (old a new : Option (List ℕ)) (number count : ℕ) (held : List ℕ) → Reading old a number held → number ≡ most_blocks → Takes a new (count ∷ []) → 0 < count → HasNoAnswer old
overran old a new number count held so all length_is some =
    past_by old new so.blocks count so.each (so.many ∙ all) (takes-both old a new (blocks_bytes so.blocks) (count ∷ []) so.taken length_is) some

-- it broke off there
pub lost : (f0 f1 f2 : ℕ) (old new : Option (List ℕ)) → f1 ≡ f0 → HasRisen f1 f2 ⊎ IsAtEnd new → TakesFront old new → HasRisen f0 f2 ⊎ HasNoAnswer old
lost f0 f1 f2 old new same (inl risen) front = inl (subst (λ (n : ℕ). HasRisen n f2) same risen)
lost f0 f1 f2 old new same (inr end) front = inr (ended old new front end)
