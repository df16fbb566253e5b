-- Records give one amount.
use Rattle.std.proofs.Common.{arith, ◌≡◌, ◌+◌, ◌*◌, ◌/◌, ◌^◌, ◌++◌, ℕ, suc, List, [], ◌∷◌, true, Option, None, Some}
use Rattle.mbdc_audit.proofs.Powers.{power_some}
use Rattle.std.proofs.Common.{sym, ap, subst, ◌∙◌, slice_index_or, drop}
use Rattle.std.specs.Prelude.{All, ℤ, pos, negsuc, nat_abs}
use Rattle.std.proofs.Math.Nat.{mul-div_cancel}
use Rattle.dc_records.specs.Record.{Entry}
use Rattle.dc_units.specs.declared.point.Point.{Point}
use Rattle.dc_units.specs.declared.point.Seen.{Seen}
use Rattle.dc_units.specs.declared.point.Seen.TheVariants.{Point as Known, Other}
use Rattle.dc_units.specs.declared.value.Value as value_type
use Rattle.dc_units.specs.declared.value.Value.TheVariants as value
use Rattle.mbdc_audit.specs.Evidence.{Counts, Gives, IsScaled, is_meant}
use Rattle.mbdc_audit.specs.Uses.{size_of}
use Rattle.mbdc_audit.specs.declared.uses.Counted.{Counted}

-- ---- one record

abbrev point_or : Point → Seen → Point
point_or d (Known p) = p
point_or d Other = d

abbrev mantissa : value_type.Value → ℕ
mantissa (value.Number d) = nat_abs d.mantissa
mantissa _ = 0

abbrev exponent : value_type.Value → ℤ
exponent (value.Number d) = d.exponent
exponent _ = pos 0

abbrev size_or : Option (Counted × ℕ) → ℕ
size_or None = 0
size_or (Some x) = x.1

undone : (n k : ℕ) → n * 10 ^ (k + 1) / 10 ^ (k + 1) ≡ n
undone n k = mul-div_cancel n (power_some (k + 1))

one_scaled : (digits size : ℕ) (power : ℤ) (n m : ℕ) → IsScaled digits size power n → IsScaled digits size power m → n ≡ m
one_scaled digits size (pos power) n m e e' = e ∙ sym e'
one_scaled digits size (negsuc k) n m e e' =
    sym (undone n k) ∙ (ap (λ (x : ℕ). x / 10 ^ (k + 1)) (e ∙ sym e') ∙ undone m k)

pub one_count : (vib : List ℕ) (q : Counted) (e : Entry) (n m : ℕ) → Counts vib q e n → Counts vib q e m → n ≡ m
one_count vib q e n m c d =
    let point : c.is.point ≡ d.is.point = ap (point_or c.is.point) (sym c.is.seen_as ∙ d.is.seen_as) in
    let size : c.is.size ≡ d.is.size =
    ap size_or (sym c.is.counted ∙ (ap (λ (p : Point). size_of p.quantity) point ∙ d.is.counted)) in
    let number = sym c.is.number ∙ (ap (λ (p : Point). p.value) point ∙ d.is.number) in
    let digits : c.is.digits ≡ d.is.digits = ap mantissa number in
    let power : c.is.power ≡ d.is.power = ap exponent number in
    one_scaled d.is.digits d.is.size d.is.power n m
    (subst (λ (x : ℕ). IsScaled x d.is.size d.is.power n) digits
    (subst (λ (x : ℕ). IsScaled c.is.digits x d.is.power n) size
    (subst (λ (x : ℤ). IsScaled c.is.digits c.is.size x n) power c.is.scaled))) d.is.scaled

-- ---- the first of records

head : (x y : Entry) (xs ys : List Entry) → x ∷ xs ≡ y ∷ ys → x ≡ y
head x y xs ys e = ap (λ (l : List Entry). slice_index_or l 0 x) e

tail : (x y : Entry) (xs ys : List Entry) → x ∷ xs ≡ y ∷ ys → xs ≡ ys
tail x y xs ys e = ap (λ (l : List Entry). drop 1 l) e

-- none of a list is none of its rest
rest_of : (P : Entry → Type 0) (b : Entry) (bs : List Entry) → All (λ e. P e → ⊥) (b ∷ bs) → All (λ e. P e → ⊥) bs
rest_of P b bs none k d lt = none (suc k) d (omega (arith, lt))

first_one : (P : Entry → Type 0) (before before' : List Entry) (it it' : Entry) (after after' : List Entry)
    → before ++ (it ∷ after) ≡ before' ++ (it' ∷ after') → P it → P it'
    → All (λ e. P e → ⊥) before → All (λ e. P e → ⊥) before' → it ≡ it'
first_one P [] [] it it' after after' e p p' none none' = head it it' after after' e
first_one P [] (b ∷ bs) it it' after after' e p p' none none' =
    absurd (none' 0 b (omega arith) (subst P (head it b after (bs ++ (it' ∷ after')) e) p))
first_one P (b ∷ bs) [] it it' after after' e p p' none none' =
    absurd (none 0 b (omega arith) (subst P (sym (head b it' (bs ++ (it ∷ after)) after' e)) p'))
first_one P (b ∷ bs) (c ∷ cs) it it' after after' e p p' none none' =
    first_one P bs cs it it' after after' (tail b c (bs ++ (it ∷ after)) (cs ++ (it' ∷ after')) e) p p'
    (rest_of P b bs none) (rest_of P c cs none')

abbrev Is : List ℕ → Counted → Option ℕ → List Entry → Entry → Type 0
Is vib q day records e = (is_meant day records e ≡ true) × ((n : ℕ) × Counts vib q e n)

pub one_amount : (vib : List ℕ) (q : Counted) (day : Option ℕ) (records : List Entry) (n m : ℕ)
    → Gives vib q day records n → Gives vib q day records m → n ≡ m
one_amount vib q day records n m g h =
    let one : g.it ≡ h.it = first_one (Is vib q day records) g.before h.before g.it h.it g.after h.after
    (sym g.parts ∙ h.parts) (g.meant, (n, g.counts)) (h.meant, (m, h.counts))
    (λ k d lt p. g.is_first k d lt p.0 p.1.0 p.1.1) (λ k d lt p. h.is_first k d lt p.0 p.1.0 p.1.1) in
    one_count vib q h.it n m (subst (λ (e : Entry). Counts vib q e n) one g.counts) h.counts
