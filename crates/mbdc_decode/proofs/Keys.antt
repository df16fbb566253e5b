-- The text of a name with what stands around it.
use Rattle.std.proofs.Common.{◌≡◌, ℕ, zero, suc, ◌+◌, ◌-◌, List, [], ◌∷◌, ◌++◌, length, take, drop, slice_set, refl, ap, sym, ◌∙◌, arith, append_assoc, length-append}
use Rattle.std.proofs.Math.Seq.{take-append_seam}
use Rattle.json.specs.Print.{escape, quoted}

two_set : (text : List ℕ) (first second : ℕ) → length text ≡ 2 → slice_set (slice_set text 0 first) 1 second ≡ first ∷ second ∷ []
two_set [] first second two = absurd (omega arith)
two_set (a ∷ []) first second two = absurd (omega arith)
two_set (a ∷ b ∷ []) first second two = refl
two_set (a ∷ b ∷ c ∷ text) first second two = absurd (omega arith)

-- a comma, a name in quotes, its colon and more bytes, at the front of a room
pub key_put : (front colon name after rest : List ℕ) → length front ≡ 2 → length colon ≡ 2
    → take (length name + length after + 4)
    (slice_set (slice_set front 0 44) 1 34 ++ (name ++ (slice_set (slice_set colon 0 34) 1 58 ++ (after ++ rest))))
    ≡ 44 ∷ 34 ∷ (name ++ 34 ∷ 58 ∷ after)
key_put front colon name after rest two also =
    let n : ℕ = length name + length after + 4 in
    let text : List ℕ = 44 ∷ 34 ∷ (name ++ 34 ∷ 58 ∷ after) in
    let long : n ≡ length text = omega (arith, length-append name (34 ∷ 58 ∷ after)) in
    ap (λ (t : List ℕ). take n (t ++ (name ++ (slice_set (slice_set colon 0 34) 1 58 ++ (after ++ rest))))) (two_set front 44 34 two)
    ∙ ap (λ (t : List ℕ). take n (44 ∷ 34 ∷ (name ++ (t ++ (after ++ rest))))) (two_set colon 34 58 also)
    ∙ ap (λ (t : List ℕ). take n (44 ∷ 34 ∷ t)) (sym (append_assoc name (34 ∷ 58 ∷ after) rest))
    ∙ ap (λ (k : ℕ). take k (text ++ rest)) long ∙ take-append_seam text rest

-- the same without its first byte
pub but_first : (text rest : List ℕ) (n byte : ℕ) → take n text ≡ byte ∷ rest → take (n - 1) (drop 1 text) ≡ rest
but_first [] rest zero byte is = cc
but_first [] rest (suc n) byte is = cc
but_first (b ∷ text) rest zero byte is = cc
but_first (b ∷ text) rest (suc n) byte is = let less : suc n - 1 ≡ n = omega arith in rw less cc

-- a name that needs no escape
pub key_text : (before name after : List ℕ) → escape name ≡ name → before ++ (34 ∷ (name ++ 34 ∷ 58 ∷ after)) ≡ before ++ (quoted name ++ 58 ∷ after)
key_text before name after plain =
    ap (λ (s : List ℕ). before ++ 34 ∷ s) (sym (ap (λ (s : List ℕ). (s ++ 34 ∷ []) ++ 58 ∷ after) plain ∙ append_assoc name (34 ∷ []) (58 ∷ after)))

-- a name and a text, in two puts
pub text_field : (before name text key string : List ℕ) → key ≡ name → string ≡ text
    → (before ++ (quoted key ++ 58 ∷ 34 ∷ [])) ++ (escape string ++ 34 ∷ []) ≡ before ++ (quoted name ++ 58 ∷ quoted text)
text_field before name text key string is_key is_string =
    append_assoc before (quoted key ++ 58 ∷ 34 ∷ []) (escape string ++ 34 ∷ [])
    ∙ ap (λ (s : List ℕ). before ++ s) (append_assoc (quoted key) (58 ∷ 34 ∷ []) (escape string ++ 34 ∷ []))
    ∙ ap (λ (s : List ℕ). before ++ (quoted s ++ 58 ∷ quoted string)) is_key
    ∙ ap (λ (s : List ℕ). before ++ (quoted name ++ 58 ∷ quoted s)) is_string
