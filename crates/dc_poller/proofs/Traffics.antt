-- What goes over the gateway of a script, one line after the other.
use Rattle.std.proofs.Common.{◌≡◌, ℕ, Bool, true, false, Result, Ok, Err, Option, None, Some, List, [], ◌++◌, refl, ap, sym, subst, ◌∙◌}
use Rattle.std.specs.Prelude.{IfOk}
use Rattle.mbdc_bus.specs.Bus.{AreExchanged, Exchange}
use Rattle.mbdc_bus.proofs.Exchanges.{exchanged-both}
use Rattle.dc_poller.specs.Link.{HasBus, link_by, link_of}
use Rattle.dc_poller.specs.Traffic.{AreCarried}

pub has_bus_by : (was_lost : Bool) → HasBus (link_by was_lost)
has_bus_by true = tt
has_bus_by false = tt

-- what leaves a lost bus as it is, twice
pub untouched_both : {B : Type 0} (lost : B → Bool) (first old new : B) → (lost first ≡ true → old ≡ first) → (lost old ≡ true → new ≡ old) → lost first ≡ true → new ≡ first
untouched_both lost first old new one two is =
    let same = one is in
    two (ap lost same ∙ is) ∙ same

module _ {B : Type 0} (lost : B → Bool) where
  -- a gateway has a bus
  pub has_one : (old : Option B) (bus : B) → old ≡ Some bus → HasBus (link_of lost old)
  has_one old bus is = subst (λ (o : Option B). HasBus (link_of lost o)) (sym is) (has_bus_by (lost bus))

  pub has_none : (old : Option B) → old ≡ None → ¬ (HasBus (link_of lost old))
  has_none old is = λ has_bus. subst (λ (o : Option B). HasBus (link_of lost o)) is has_bus

module _ {B : Type 0} (lost : B → Bool) (asks : B → List ℕ → List ℕ → B → Type 0) where
  pub carries_none : (old : Option B) → AreCarried lost asks old old []
  carries_none None = refl
  carries_none (Some bus) = record { bus = bus; bus_is = refl; exchanged = refl; untouched = λ is. refl }

  pub carries_some : (exchanges : List Exchange) (old : Option B) (bus after : B) → old ≡ Some bus → AreExchanged asks bus exchanges after → (lost bus ≡ true → after ≡ bus) → AreCarried lost asks old (Some after) exchanges
  carries_some exchanges old bus after is exchanged untouched =
      subst (λ (o : Option B). AreCarried lost asks o (Some after) exchanges) (sym is) (record { bus = after; bus_is = refl; exchanged = exchanged; untouched = untouched })

  pub carried_both : (old between new : Option B) (first more : List Exchange) → AreCarried lost asks old between first → AreCarried lost asks between new more → AreCarried lost asks old new (first ++ more)
  carried_both None between new first more one two = subst (λ (o : Option B). AreCarried lost asks o new more) one two
  carried_both (Some bus) between new first more one two =
      let then = subst (λ (o : Option B). AreCarried lost asks o new more) one.bus_is two in
      record {
        bus = then.bus;
        bus_is = then.bus_is;
        exchanged = exchanged-both asks bus one.bus then.bus first more one.exchanged then.exchanged;
        untouched = untouched_both lost bus one.bus then.bus one.untouched then.untouched;
      }

-- a bus that doesn't come back
pub found_so : {X E L : Type 0} (result : Result X E) (P : L → X → Type 0) (left : L) → IfOk result (P left) → IfOk result (λ x. (l : L) × P l x)
found_so (Ok x) P left p = (left, p)
found_so (Err e) P left p = tt
