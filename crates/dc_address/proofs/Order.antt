-- The order of identities is total, and only equal ones tie.
use Rattle.std.proofs.Common.{◌≡◌, ℕ, true, refl, ap, ◌∙◌}
use Rattle.std.specs.Ordering.{nat_cmp, ordering_then, ordering_reverse, is_eq}
use Rattle.std.specs.declared.cmp.Ordering.{Ordering}
use Rattle.std.specs.declared.cmp.Ordering.TheVariants.{Less, Equal, Greater}
use Rattle.std.specs.Cmp.{IsTotalOrder, nat_cmp_total, tied_then}
use Rattle.std.proofs.lemmas.Cmp.{on_total, then_total, ranked}
use Rattle.std.proofs.lemmas.Bool.{and_parts}
use Rattle.dc_address.specs.declared.identity.Identity.{Identity}
use Rattle.dc_address.specs.Identity.{identity_cmp}
use Rattle.dc_address.proofs.Identities.{same_identity}

pub identities_total : IsTotalOrder identity_cmp
identities_total =
    then_total (on_total (λ a. a.number) nat_cmp_total)
    (then_total (on_total (λ a. a.maker) nat_cmp_total)
    (then_total (on_total (λ a. a.version) nat_cmp_total) (on_total (λ a. a.kind) nat_cmp_total)))

tied : (x y : ℕ) (o : Ordering) → o ≡ nat_cmp x y → is_eq o ≡ true → x ≡ y
tied x y Less e t = cc
tied x y Equal e t = ranked x y Equal e
tied x y Greater e t = cc

both_tied : (a b : Ordering) → is_eq (ordering_then a b) ≡ true → (is_eq a ≡ true) × (is_eq b ≡ true)
both_tied a b t = and_parts (is_eq a) (is_eq b) (tied_then a b ∙ t)

-- identities that tie are one
pub same_from_tie : (a b : Identity) → is_eq (identity_cmp a b) ≡ true → a ≡ b
same_from_tie a b t =
    let first = both_tied (nat_cmp a.number b.number) (ordering_then (nat_cmp a.maker b.maker) (ordering_then (nat_cmp a.version b.version) (nat_cmp a.kind b.kind))) t in
    let second = both_tied (nat_cmp a.maker b.maker) (ordering_then (nat_cmp a.version b.version) (nat_cmp a.kind b.kind)) first.1 in
    let third = both_tied (nat_cmp a.version b.version) (nat_cmp a.kind b.kind) second.1 in
    same_identity a b
    (tied a.number b.number (nat_cmp a.number b.number) refl first.0)
    (tied a.maker b.maker (nat_cmp a.maker b.maker) refl second.0)
    (tied a.version b.version (nat_cmp a.version b.version) refl third.0)
    (tied a.kind b.kind (nat_cmp a.kind b.kind) refl third.1)

pub same_from_equal : (a b : Identity) → identity_cmp a b ≡ Equal → a ≡ b
same_from_equal a b e = same_from_tie a b (ap is_eq e)

own_reverse : (o : Ordering) → o ≡ ordering_reverse o → o ≡ Equal
own_reverse Less e = cc
own_reverse Equal e = refl
own_reverse Greater e = cc

-- each identity ties with itself
pub equal_to_itself : (a : Identity) → identity_cmp a a ≡ Equal
equal_to_itself a = own_reverse (identity_cmp a a) (identities_total.antisymm a a)
