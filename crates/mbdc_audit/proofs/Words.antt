-- The words of values, of numbers and of facts.
use Rattle.std.proofs.Common.{◌≡◌, true, ◌⊎◌, inl, inr, ap}
use Rattle.std.specs.Prelude.{◌||◌}
use Rattle.mbdc_audit.specs.declared.line.Word.{Word}
use Rattle.mbdc_audit.specs.declared.line.Word.TheVariants as word
use Rattle.mbdc_audit.specs.Reader.{is_fact, is_of_house, is_value}
use Rattle.mbdc_audit.specs.File.{is_of_place}

pub value_word : (w : Word) → ((w ≡ word.Read) ⊎ ((w ≡ word.Stored) ⊎ ((w ≡ word.Ended) ⊎ ((w ≡ word.Zero) ⊎ ((w ≡ word.Hand) ⊎ ((w ≡ word.Estimated) ⊎ ((w ≡ word.First) ⊎ ((w ≡ word.Last) ⊎ (w ≡ word.Struck))))))))) → (w ≡ word.Struck) ⊎ (is_value w ≡ true)
value_word w is = elim is [ inl e0 ↦ inr (ap is_value e0) | inr o0 ↦ elim o0 [ inl e1 ↦ inr (ap is_value e1) | inr o1 ↦ elim o1 [ inl e2 ↦ inr (ap is_value e2) | inr o2 ↦ elim o2 [ inl e3 ↦ inr (ap is_value e3) | inr o3 ↦ elim o3 [ inl e4 ↦ inr (ap is_value e4) | inr o4 ↦ elim o4 [ inl e5 ↦ inr (ap is_value e5) | inr o5 ↦ elim o5 [ inl e6 ↦ inr (ap is_value e6) | inr o6 ↦ elim o6 [ inl e7 ↦ inr (ap is_value e7) | inr o7 ↦ inl o7 ] ] ] ] ] ] ] ]

pub number_word : (w : Word) → ((w ≡ word.Shown) ⊎ ((w ≡ word.Value) ⊎ ((w ≡ word.OfUser) ⊎ ((w ≡ word.OfFlat) ⊎ ((w ≡ word.OfHouse) ⊎ ((w ≡ word.Mean) ⊎ ((w ≡ word.Change) ⊎ ((w ≡ word.Weather) ⊎ ((w ≡ word.Carbon) ⊎ (w ≡ word.Cost)))))))))) → (is_of_place w || is_of_house w) ≡ true
number_word w is = elim is [ inl e0 ↦ ap (λ (x : Word). is_of_place x || is_of_house x) e0 | inr o0 ↦ elim o0 [ inl e1 ↦ ap (λ (x : Word). is_of_place x || is_of_house x) e1 | inr o1 ↦ elim o1 [ inl e2 ↦ ap (λ (x : Word). is_of_place x || is_of_house x) e2 | inr o2 ↦ elim o2 [ inl e3 ↦ ap (λ (x : Word). is_of_place x || is_of_house x) e3 | inr o3 ↦ elim o3 [ inl e4 ↦ ap (λ (x : Word). is_of_place x || is_of_house x) e4 | inr o4 ↦ elim o4 [ inl e5 ↦ ap (λ (x : Word). is_of_place x || is_of_house x) e5 | inr o5 ↦ elim o5 [ inl e6 ↦ ap (λ (x : Word). is_of_place x || is_of_house x) e6 | inr o6 ↦ elim o6 [ inl e7 ↦ ap (λ (x : Word). is_of_place x || is_of_house x) e7 | inr o7 ↦ elim o7 [ inl e8 ↦ ap (λ (x : Word). is_of_place x || is_of_house x) e8 | inr o8 ↦ ap (λ (x : Word). is_of_place x || is_of_house x) o8 ] ] ] ] ] ] ] ] ]

pub fact_word : (w : Word) → ((w ≡ word.Factor) ⊎ ((w ≡ word.Emissions) ⊎ ((w ≡ word.Degrees) ⊎ ((w ≡ word.Price) ⊎ (w ≡ word.Average))))) → is_fact w ≡ true
fact_word w is = elim is [ inl e0 ↦ ap is_fact e0 | inr o0 ↦ elim o0 [ inl e1 ↦ ap is_fact e1 | inr o1 ↦ elim o1 [ inl e2 ↦ ap is_fact e2 | inr o2 ↦ elim o2 [ inl e3 ↦ ap is_fact e3 | inr o3 ↦ ap is_fact o3 ] ] ] ]
