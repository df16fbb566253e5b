-- Meters that are regular one by one and two by two are regular, and the other way round.
use Rattle.std.proofs.Common.{◌≡◌, ℕ, ◌<◌, Bool, true, false, ◌||◌, List, length, Option, Some, None, refl, sym, ◌∙◌, ap}
use Rattle.std.specs.Prelude.{slice_get}
use Rattle.std.proofs.lemmas.Bool.{eqb-true, eq-eqb}
use Rattle.std.proofs.lemmas.Option.{slice_get_within}
use Rattle.dc_address.specs.Mask.{mask_of, matches}
use Rattle.dc_readout.specs.Meter.{Meter}
use Rattle.dc_readout.specs.World.{AreRegular}
use Rattle.dc_readout.specs.Regular.{IsFitting, StandsApart, shares}

shared : (one other : Option ℕ) (address : ℕ) → one ≡ Some address → other ≡ Some address → shares one other ≡ true
shared one other address is is' = rw (is, is') (eq-eqb address address refl)

clash_shared : (b : Bool) → b ≡ true → (a : Bool) → (a || b) ≡ true
clash_shared b is true = refl
clash_shared b is false = is

first_clash : (a b : Bool) → a ≡ true → (a || b) ≡ true
first_clash a b is = rw is refl

pub all_regular : (meters : List Meter) → ((i : ℕ) (one : Meter) → i < length meters → slice_get meters i ≡ Some one → IsFitting one × StandsApart meters i) → AreRegular meters
all_regular meters all = record {
  fit = λ i j m body at stands. (all i m (slice_get_within meters i m at) at).0.1 j body stands;
  primary = λ i address m at whom. (all i m (slice_get_within meters i m at) at).0.0 address whom;
  addresses = λ i j address one other at at' whom whom'. (all i one (slice_get_within meters i one at) at).1 j one other at at'
      (first_clash _ _ (shared one.address other.address address whom whom'));
  apart = λ i j one other at at' is. (all i one (slice_get_within meters i one at) at).1 j one other at at' (clash_shared _ is _);
}

pub regular_fits : (meters : List Meter) → AreRegular meters → (i : ℕ) (one : Meter) → slice_get meters i ≡ Some one → IsFitting one
regular_fits meters regular i one at = (λ address whom. regular.primary i address one at whom, λ j body stands. regular.fit i j one body at stands)

by_addresses : (meters : List Meter) → AreRegular meters → (i j : ℕ) (one other : Meter) → slice_get meters i ≡ Some one → slice_get meters j ≡ Some other
    → (a b : Option ℕ) → one.address ≡ a → other.address ≡ b → shares a b ≡ true → i ≡ j
by_addresses meters regular i j one other at at' (Some a) (Some b) is is' e =
    regular.addresses i j a one other at at' is (is' ∙ ap Some (sym (eqb-true a b e)))
by_addresses meters regular i j one other at at' (Some a) None is is' e = absurd cc
by_addresses meters regular i j one other at at' None b is is' e = absurd cc

pub regular_apart : (meters : List Meter) → AreRegular meters → (i : ℕ) → StandsApart meters i
regular_apart meters regular i j one other at at' e = by (shares one.address other.address) refl e
  where
    by : (b : Bool) → shares one.address other.address ≡ b → (b || matches (mask_of one.identity) other.identity) ≡ true → i ≡ j
    by true is e = by_addresses meters regular i j one other at at' one.address other.address refl refl is
    by false is e = regular.apart i j one other at at' e
