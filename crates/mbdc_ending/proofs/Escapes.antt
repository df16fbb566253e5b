-- What is escaped so far, and one character more.
use Rattle.std.proofs.Common.{◌≡◌, ℕ, List, [], ◌∷◌, ◌++◌, length, take, drop, get_or, map, ap, sym, ◌∙◌, ◌+◌, ◌<◌, subst, Option, Some, MatchOption, rules, arith}
use Rattle.std.specs.List.{flat_map}
use Rattle.std.specs.Char.{encode_utf8}
use Rattle.std.specs.Str.{encode_utf8_all}
use Rattle.std.proofs.lemmas.Grind.{flat_map-append, common_steps}
use Rattle.std.proofs.lemmas.List.{append-nil, map-id}
use Rattle.std.proofs.lemmas.Str.{encodes-append}
use Rattle.std.specs.Char.Iter.{escape_left, escape_rest, escape_steps}
use Rattle.mbdc_ending.specs.Escape.{shown}

-- a character more is its bytes more
pub one_more : (xs : List ℕ) (x : ℕ) → encode_utf8_all (xs ++ x ∷ []) ≡ encode_utf8_all xs ++ encode_utf8 x
one_more xs x = encodes-append xs (x ∷ []) ∙ ap (λ bytes. encode_utf8_all xs ++ bytes) (search rules)

-- what is shown so far, and of one character more
pub shown_more : (xs : List ℕ) (x : ℕ) → encode_utf8_all (flat_map shown (xs ++ x ∷ [])) ≡ encode_utf8_all (flat_map shown xs) ++ encode_utf8_all (shown x)
shown_more xs x =
    ap encode_utf8_all (flat_map-append shown xs (x ∷ []))
    ∙ encodes-append (flat_map shown xs) (flat_map shown (x ∷ []))
    ∙ ap (λ cs. encode_utf8_all (flat_map shown xs) ++ encode_utf8_all cs) (append-nil (shown x))

-- the bytes of characters so far, of one character, and of the rest
pub bytes_within : (xs rest all : List ℕ) (x : ℕ) → xs ++ (x ∷ rest) ≡ all → encode_utf8_all xs ++ (encode_utf8 x ++ encode_utf8_all rest) ≡ encode_utf8_all all
bytes_within xs rest all x is = sym (encodes-append xs (x ∷ rest)) ∙ ap encode_utf8_all is

-- what is shown of characters so far, of one character, and of the rest
pub shown_within : (all xs : List ℕ) (x : ℕ) → map (λ c. c) xs ≡ take (length xs) all → length xs < length all → x ≡ get_or all (length xs) x
    → encode_utf8_all (flat_map shown xs) ++ (encode_utf8_all (shown x) ++ encode_utf8_all (flat_map shown (drop (length xs + 1) all))) ≡ encode_utf8_all (flat_map shown all)
shown_within all xs x so_far below here =
    let rest : List ℕ = drop (length xs + 1) all in
    let front : xs ≡ take (length xs) all = sym (map-id xs) ∙ so_far in
    let parts : all ≡ take (length xs) all ++ (get_or all (length xs) x ∷ rest) = grind (arith, common_steps) in
    let whole : xs ++ (x ∷ rest) ≡ all = ap (λ (cs : List ℕ). cs ++ (x ∷ rest)) front ∙ ap (λ (c : ℕ). take (length xs) all ++ (c ∷ rest)) here ∙ sym parts in
    ap (λ (bytes : List ℕ). encode_utf8_all (flat_map shown xs) ++ bytes) (sym (encodes-append (shown x) (flat_map shown rest)))
    ∙ sym (encodes-append (flat_map shown xs) (shown x ++ flat_map shown rest))
    ∙ ap encode_utf8_all (sym (flat_map-append shown xs (x ∷ rest)) ∙ ap (flat_map shown) whole)

-- the character that comes is the first of those that an escape has left
pub comes_first : (old new : _) (item : Option ℕ) (x : ℕ) → item ≡ Some x → escape_steps old item new → escape_rest old ≡ x ∷ escape_rest new
comes_first old new item x is steps =
    (subst (λ (o : Option ℕ). MatchOption o ((escape_left old ≡ 0) × (new ≡ old)) (λ y. (escape_rest old ≡ y ∷ escape_rest new) × (escape_left new + 1 ≡ escape_left old))) is steps.1).0
