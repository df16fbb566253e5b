-- A search asks once more.
use Rattle.std.proofs.Common.{◌≡◌, ℕ, List, [], ◌∷◌, ◌++◌, Some, refl, subst, map}
use Rattle.std.specs.Prelude.{option_map}
use Rattle.dc_linkframe.specs.Frame.{spelling}
use Rattle.dc_search.specs.Request.{request_by}
use Rattle.dc_search.specs.State.{SearchState, after, new_search, step_of}
use Rattle.mbdc_bus.specs.Bus.{AreAskedBy, Exchange, HasAsked, HasHeard, heard_all}
use Rattle.mbdc_bus.proofs.Exchanges.{exchanged-both, exchanged-one}

-- the request is that of the search's next step
abbrev pub IsNext : SearchState → List ℕ → Type 0
IsNext s request = option_map spelling (request_by (step_of s)) ≡ Some request

pub asked_by-push : (first s : SearchState) (exchanges : List Exchange) (request answer : List ℕ) → AreAskedBy first exchanges s → IsNext s request
    → AreAskedBy first (exchanges ++ record { request = request; answer = answer } ∷ []) (after answer s)
asked_by-push first s [] request answer same next = let P : SearchState → Type 0 = λ t. AreAskedBy t (record { request = request; answer = answer } ∷ []) (after answer s) in subst P same (next, refl)
asked_by-push first s (e ∷ more) request answer so next = (so.0, asked_by-push (after e.answer first) s more request answer so.1 next)

pub heard_by : (first last : SearchState) (exchanges : List Exchange) → AreAskedBy first exchanges last → last ≡ heard_all (map (λ (e : Exchange). e.answer) exchanges) first
heard_by first last [] same = same
heard_by first last (e ∷ more) so = heard_by (after e.answer first) last more so.1

module _ {B : Type 0} (asks : B → List ℕ → List ℕ → B → Type 0) where
  -- before it asks, nothing happened
  pub asked_nothing : (budget : ℕ) (bus : B) → HasAsked asks budget bus bus (new_search budget)
  asked_nothing budget bus = record { exchanges = []; happened = refl; asked = refl }

  -- one exchange more
  pub asked_more : (budget : ℕ) (old mid new : B) (s : SearchState) (request answer : List ℕ) → HasAsked asks budget old mid s → IsNext s request → asks mid request answer new
      → HasAsked asks budget old new (after answer s)
  asked_more budget old mid new s request answer so next asked = record {
    exchanges = so.exchanges ++ record { request = request; answer = answer } ∷ [];
    happened = exchanged-both asks old mid new so.exchanges (record { request = request; answer = answer } ∷ []) so.happened (exchanged-one asks mid new request answer asked);
    asked = asked_by-push (new_search budget) s so.exchanges request answer so.asked next;
  }

  -- so it is what its answers lead to
  pub asked_heard : (budget : ℕ) (old new : B) (search : SearchState) → HasAsked asks budget old new search → HasHeard budget search
  asked_heard budget old new search so = record { answers = map (λ (e : Exchange). e.answer) so.exchanges; state = heard_by (new_search budget) search so.exchanges so.asked }
