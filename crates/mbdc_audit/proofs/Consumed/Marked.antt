-- Steps that are counted, and those that are marked.
use Rattle.std.proofs.Common.{◌≡◌, ℕ, ◌+◌, ◌<◌, ◌≤◌, Bool, true, false, ◌&&◌, ◌||◌, cond, ltb, leb, List, [], ◌∷◌, length, refl, arith}
use Rattle.std.specs.Prelude.{filter}
use Rattle.std.proofs.lemmas.Bool.{lt-ltb, le-leb, or_right, and_from}
use Rattle.mbdc_audit.specs.declared.consumption.entry.Entry.{Entry}
use Rattle.mbdc_audit.specs.Consumption.Step.{with_next, is_backwards, is_doubtful, is_too_much}
use Rattle.mbdc_audit.specs.Consumption.Mark.{Step, touches, is_doubtful_next, steps_after, is_marked_in}

-- how many of the steps pass a test
abbrev pub passes : (Entry → Entry → Bool) → List Entry → ℕ
passes test entries = length (filter (λ p. test p.0 p.1) (with_next entries))

pub kept : {X : Type 0} (b : Bool) (x : X) (xs : List X) → length (cond b (x ∷ xs) xs) ≡ cond b 1 0 + length xs
kept true x xs = omega arith
kept false x xs = omega arith

pub passes-cons : (test : Entry → Entry → Bool) (a b : Entry) (rest : List Entry) → passes test (a ∷ (b ∷ rest)) ≡ cond (test a b) 1 0 + passes test (b ∷ rest)
passes-cons test a b rest = kept (test a b) (a, b) (filter (λ p. test p.0 p.1) (with_next (b ∷ rest)))

-- ---- the steps of a period that ran backwards

abbrev pub touched : ℕ → ℕ → Entry → Entry → Bool
touched from to a b = is_backwards a b && touches from to a b

and_true : (x y : Bool) → y ≡ true → (x && y) ≡ x
and_true true y is = is
and_true false y is = refl

-- one that ends in the period touches it
pub ends_in : (from to : ℕ) (a b : Entry) → from < b.moment → b.moment ≤ to → touched from to a b ≡ is_backwards a b
ends_in from to a b after le =
    and_true (is_backwards a b) (touches from to a b)
    (and_from (ltb from b.moment) (ltb a.moment to || leb b.moment to) (lt-ltb from b.moment after) (or_right (ltb a.moment to) (leb b.moment to) (le-leb b.moment to le)))

-- ---- they are marked

bits : (was backwards is_more will_be touches : Bool) → cond (backwards && touches) 1 0 ≤ cond ((was || ((backwards || is_more) || will_be)) && touches) 1 0
bits true true m w t = omega arith
bits true false m w t = omega arith
bits false true m w t = omega arith
bits false false m w t = omega arith

-- no more steps ran backwards than are marked
pub touched-marked : (from to : ℕ) (was : Bool) (entries : List Entry) → passes (touched from to) entries ≤ length (filter (is_marked_in from to) (steps_after was entries))
touched-marked from to was [] = omega arith
touched-marked from to was (a ∷ []) = omega arith
touched-marked from to was (a ∷ (b ∷ rest)) =
    let s : Step = record { before = a; after = b; is_after_doubtful = was; is_before_doubtful = is_doubtful_next b rest } in
    let steps = steps_after (is_doubtful a b) (b ∷ rest) in
    let whole = passes-cons (touched from to) a b rest in
    let more = touched-marked from to (is_doubtful a b) (b ∷ rest) in
    let split = kept (is_marked_in from to s) s (filter (is_marked_in from to) steps) in
    let bit = bits was (is_backwards a b) (is_too_much a b) (is_doubtful_next b rest) (touches from to a b) in
    omega (arith, whole, more, split, bit)
