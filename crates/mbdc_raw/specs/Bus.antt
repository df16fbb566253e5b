-- The effect of a call on a bus of one of two kinds (this product): the effect on the bus that it
-- is, or none if it is absent.
use Rattle.std.specs.Prelude.{◌≡◌, ℕ, Bool, true, List, []}
use Rattle.mbdc_raw.specs.declared.links.bus.LinkBus.{LinkBus}
use Rattle.mbdc_raw.specs.declared.links.bus.LinkBus.TheVariants.{First, Second, Absent}

abbrev pub lost_by : {A B : Type 0} → (A → Bool) → (B → Bool) → LinkBus A B → Bool
lost_by a b (First bus) = a bus
lost_by a b (Second bus) = b bus
lost_by a b Absent = true

abbrev pub left_by : {A B : Type 0} → (A → ℕ) → (B → ℕ) → LinkBus A B → ℕ
left_by a b (First bus) = a bus
left_by a b (Second bus) = b bus
left_by a b Absent = 0

abbrev pub sends_by : {A B : Type 0} → (A → List ℕ → A → Type 0) → (B → List ℕ → B → Type 0)
    → LinkBus A B → List ℕ → LinkBus A B → Type 0
sends_by a b (First old) request (First new) = a old request new
sends_by a b (First old) request (Second new) = ⊥
sends_by a b (First old) request Absent = ⊥
sends_by a b (Second old) request (First new) = ⊥
sends_by a b (Second old) request (Second new) = b old request new
sends_by a b (Second old) request Absent = ⊥
sends_by a b Absent request (First new) = ⊥
sends_by a b Absent request (Second new) = ⊥
sends_by a b Absent request Absent = Unit {0}

abbrev pub gives_by : {A B : Type 0} → (A → List ℕ → A → Type 0) → (B → List ℕ → B → Type 0)
    → LinkBus A B → List ℕ → LinkBus A B → Type 0
gives_by a b (First old) answer (First new) = a old answer new
gives_by a b (First old) answer (Second new) = ⊥
gives_by a b (First old) answer Absent = ⊥
gives_by a b (Second old) answer (First new) = ⊥
gives_by a b (Second old) answer (Second new) = b old answer new
gives_by a b (Second old) answer Absent = ⊥
gives_by a b Absent answer (First new) = ⊥
gives_by a b Absent answer (Second new) = ⊥
gives_by a b Absent answer Absent = answer ≡ []

abbrev pub waits_by : {A B : Type 0} → (A → A → Type 0) → (B → B → Type 0) → LinkBus A B
    → LinkBus A B → Type 0
waits_by a b (First old) (First new) = a old new
waits_by a b (First old) (Second new) = ⊥
waits_by a b (First old) Absent = ⊥
waits_by a b (Second old) (First new) = ⊥
waits_by a b (Second old) (Second new) = b old new
waits_by a b (Second old) Absent = ⊥
waits_by a b Absent (First new) = ⊥
waits_by a b Absent (Second new) = ⊥
waits_by a b Absent Absent = Unit {0}
