-- Exchanges one after the other.
use Rattle.std.proofs.Common.{ℕ, List, [], ◌∷◌, ◌++◌, refl, subst}
use Rattle.mbdc_bus.specs.Bus.{AreExchanged, Exchange}

module _ {B : Type 0} (asks : B → List ℕ → List ℕ → B → Type 0) where
  -- one exchange
  pub exchanged-one : (old new : B) (request answer : List ℕ) → asks old request answer new → AreExchanged asks old (record { request = request; answer = answer } ∷ []) new
  exchanged-one old new request answer asked = (new, asked, refl)

  -- some, and then others
  pub exchanged-both : (old mid new : B) (front back : List Exchange) → AreExchanged asks old front mid → AreExchanged asks mid back new → AreExchanged asks old (front ++ back) new
  exchanged-both old mid new [] back same then = let P : B → Type 0 = λ b. AreExchanged asks b back new in subst P same then
  exchanged-both old mid new (e ∷ front) back so then = (so.0, so.1, exchanged-both so.0 mid new front back so.2 then)
