-- Bytes that are put or taken in several pieces, one after the other: what callers of a chain of puts cite.
use Rattle.std.proofs.Common.{◌≡◌, ℕ, List, [], ◌∷◌, ◌++◌, length, take, drop, Option, None, Some, true, refl, ap, ◌∙◌, sym, subst, append_assoc}
use Rattle.std.proofs.lemmas.List.{append-nil}
use Rattle.std.proofs.lemmas.Slice.Eq.{bytes_eq-Decides}
use Rattle.std.proofs.Math.Seq.{take-append_seam}
use Rattle.std.proofs.Math.ListN.{take-append-drop}
use Rattle.std.specs.Prelude.{nat_eq}
use Rattle.std.specs.List.{starts_with}
use Rattle.std.specs.Io.KnownBytes.{append_known, prepend_known}
use Rattle.mbdc_io.specs.Stream.{Takes, Puts, begins_with, PutsFront}

-- a piece that went in, and what is to follow it
pub append_known-more : (known : Option (List ℕ)) (front back : List ℕ) → append_known (append_known known front) back ≡ append_known known (front ++ back)
append_known-more None front back = refl
append_known-more (Some xs) front back = ap Some (append_assoc xs front back)

-- nothing is to follow
pub append_known-nil : (known : Option (List ℕ)) → append_known known [] ≡ known
append_known-nil None = refl
append_known-nil (Some xs) = ap Some (append-nil xs)

-- two pieces, one after the other
pub puts-both : (old between new : Option (List ℕ)) (a b : List ℕ) → Puts old between a → Puts between new b → Puts old new (a ++ b)
puts-both None between new a b first second = second ∙ ap (λ (m : Option (List ℕ)). append_known m b) first
puts-both (Some held) between new a b first second = second ∙ ap (λ (m : Option (List ℕ)). append_known m b) first ∙ ap Some (append_assoc held a b)

-- no bytes
pub puts-none : (old : Option (List ℕ)) → Puts old old []
puts-none None = refl
puts-none (Some held) = ap Some (sym (append-nil held))

-- the same pieces, split further: two of them, and a first byte with the rest
pub append_known-apart : (known : Option (List ℕ)) (front back : List ℕ) → append_known known (front ++ back) ≡ append_known (append_known known front) back
append_known-apart known front back = sym (append_known-more known front back)

pub append_known-byte : (known : Option (List ℕ)) (byte : ℕ) (back : List ℕ) → append_known known (byte ∷ back) ≡ append_known (append_known known (byte ∷ [])) back
append_known-byte known byte back = append_known-apart known (byte ∷ []) back

begins_front : (all front rest : List ℕ) → all ≡ front ++ rest → starts_with nat_eq all front ≡ true
begins_front all front rest is =
    (bytes_eq-Decides front (take (length front) all)).1 (sym (ap (take (length front)) is ∙ take-append_seam front rest))

begins_rest : (all front : List ℕ) → starts_with nat_eq all front ≡ true → all ≡ front ++ drop (length front) all
begins_rest all front begins =
    sym (take-append-drop (length front) all)
    ∙ ap (λ (xs : List ℕ). xs ++ drop (length front) all) (sym ((bytes_eq-Decides front (take (length front) all)).0 begins))

-- what is followed by a rest is a prefix
pub begins_with-rest : (all front : Option (List ℕ)) (rest : List ℕ) → all ≡ append_known front rest → begins_with all front ≡ true
unfolding begins_with
begins_with-rest None None rest is = refl
begins_with-rest None (Some front) rest is = cc
begins_with-rest (Some all) None rest is = cc
begins_with-rest (Some all) (Some front) rest is = begins_front all front rest (let e : Some all ≡ Some (front ++ rest) = is in cc)

-- a prefix is followed by a rest
pub rest_of_front : (all front : Option (List ℕ)) → begins_with all front ≡ true → (rest : List ℕ) × (all ≡ append_known front rest)
unfolding begins_with
rest_of_front None None begins = ([], refl)
rest_of_front None (Some front) begins = cc
rest_of_front (Some all) None begins = cc
rest_of_front (Some all) (Some front) begins = (drop (length front) all, ap Some (begins_rest all front begins))

-- a prefix of bytes is one of them and more
pub begins_with-more : (all front : Option (List ℕ)) (more : List ℕ) → begins_with all front ≡ true → begins_with (append_known all more) front ≡ true
begins_with-more all front more begins =
    let found = rest_of_front all front begins in
    begins_with-rest (append_known all more) front (found.0 ++ more)
    (ap (λ (m : Option (List ℕ)). append_known m more) found.1 ∙ append_known-more front found.0 more)

-- all of them is a prefix
pub begins_with-same : (known : Option (List ℕ)) → begins_with known known ≡ true
begins_with-same known = begins_with-rest known known [] (sym (append_known-nil known))

-- bytes that are known, and more
pub begins_with-told : (all more : List ℕ) → begins_with (Some (all ++ more)) (Some all) ≡ true
begins_with-told all more = begins_with-rest (Some (all ++ more)) (Some all) more refl

-- a sink proves its own failed put by these, where nothing went in
pub ruleset told = (begins_with-told, begins_with-same)

-- what a chain of puts is proved by, up to its end or to the put that failed
pub ruleset written = (append_known-nil, append_known-apart, append_known-byte, begins_with-more)

-- the same of texts that are to stay in one piece
pub ruleset joined = (append_known-more, append_known-nil)

-- where nothing went in, that is a prefix of whatever was to go
pub puts_front-none : (old : Option (List ℕ)) (bytes : List ℕ) → PutsFront old old bytes
puts_front-none old bytes = record { begins = begins_with-more old old bytes (begins_with-same old) }

pub nothing_put : (old new : Option (List ℕ)) (bytes : List ℕ) → new ≡ old → PutsFront old new bytes
nothing_put old new bytes same = record { begins = begins_with-rest (append_known old bytes) new bytes (ap (λ (m : Option (List ℕ)). append_known m bytes) (sym same)) }

-- a prefix of the first piece is one of both
pub puts_front-first : {old new : Option (List ℕ)} {a : List ℕ} (b : List ℕ) → PutsFront old new a → PutsFront old new (a ++ b)
puts_front-first {old} {new} {a} b p = record {
  begins = let P : Option (List ℕ) → Type 0 = λ m. begins_with m new ≡ true in subst P (append_known-more old a b) (begins_with-more (append_known old a) new b p.begins);
}

-- the first piece, and a prefix of the second
pub puts_front-second : {old between new : Option (List ℕ)} (a : List ℕ) {b : List ℕ} → Puts old between a → PutsFront between new b → PutsFront old new (a ++ b)
puts_front-second {old} {between} {new} a {b} first p = record {
  begins = let P : Option (List ℕ) → Type 0 = λ m. begins_with m new ≡ true in subst P (ap (λ (m : Option (List ℕ)). append_known m b) first ∙ append_known-more old a b) p.begins;
}

-- a prefix of a piece, after pieces that went in and before a rest
pub puts_front-within : {old between new : Option (List ℕ)} (before piece rest : List ℕ) {all : List ℕ} → Puts old between before → before ++ (piece ++ rest) ≡ all → PutsFront between new piece → PutsFront old new all
puts_front-within {old} {between} {new} before piece rest {all} went is front =
    let P : List ℕ → Type 0 = λ xs. PutsFront old new xs in subst P is (puts_front-second before went (puts_front-first rest front))

-- two pieces taken, one after the other
pub takes-both : (old between new : Option (List ℕ)) (a b : List ℕ) → Takes old between a → Takes between new b → Takes old new (a ++ b)
takes-both old between None a b first second = first ∙ ap (prepend_known a) second
takes-both old between (Some left) a b first second = first ∙ ap (prepend_known a) second ∙ ap Some (sym (append_assoc a b left))
