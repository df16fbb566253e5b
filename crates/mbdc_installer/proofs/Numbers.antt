-- The tries that find a meter by its number.
use Rattle.std.proofs.Common.{◌≡◌, ℕ, ◌-◌, ◌<◌, Bool, true, false, ◌&&◌, List, [], ◌∷◌, ◌++◌, None, Some, sym, ◌∙◌, subst, append_assoc}
use Rattle.dc_address.specs.declared.identity.Identity.{Identity}
use Rattle.mbdc_bus.specs.Windows.{Reads}
use Rattle.dc_linkframe.specs.Control.{request_to, selected}
use Rattle.dc_linkframe.specs.Frame.{spelling}
use Rattle.dc_readout.specs.Misses.{and_missed, is_noise, is_silent}
use Rattle.dc_readout.specs.declared.misses.misses.Misses.{Misses}
use Rattle.mbdc_installer.specs.Number.{Tries, are_over, collides, ending, finds, meets_silence, selection_to, with_number}
use Rattle.mbdc_installer.specs.declared.number.Numbered.{Numbered}
use Rattle.mbdc_installer.specs.declared.number.Numbered.TheVariants.{One}

-- one digit is fixed, and then more
pub fixed_first : (front back : List ℕ) (digit : ℕ) → (front ++ digit ∷ []) ++ back ≡ front ++ digit ∷ back
fixed_first front back digit = append_assoc front (digit ∷ []) back

module _ {B : Type 0} (asks_all : B → List ℕ → List ℕ → B → Type 0) (digits : List ℕ) where
  pub ends : (left : ℕ) (collided : Bool) (misses : Misses) (bus : B) (found : Numbered) → left ≡ 0 → found ≡ ending collided misses
      → Tries asks_all digits left collided misses bus found bus
  ends left collided misses bus found none is =
      let P : ℕ → Type 0 = λ n. Tries asks_all digits n collided misses bus found bus in
      let Q : Numbered → Type 0 = λ f. Tries asks_all digits 0 collided misses bus f bus in
      subst P (sym none) (subst Q (sym is) are_over)

  pub silence : (left : ℕ) (collided : Bool) (misses counts : Misses) (old mid new : B) (found : Numbered) (answer : List ℕ) (silent : Bool)
      → 0 < left → silent ≡ is_silent answer → silent ≡ true → asks_all old (spelling (selection_to digits)) answer mid
      → counts ≡ and_missed answer misses → Tries asks_all digits (left - 1) false counts mid found new
      → Tries asks_all digits left collided misses old found new
  silence left collided misses counts old mid new found answer silent some is so asked counted more =
      let P : Misses → Type 0 = λ m. Tries asks_all digits (left - 1) false m mid found new in
      meets_silence answer some (sym is ∙ so) asked (subst P counted more)

  pub one : (left : ℕ) (collided : Bool) (misses : Misses) (old mid new : B) (meter : Identity) (answer telegram : List ℕ) (silent : Bool)
      → 0 < left → silent ≡ is_silent answer → silent ≡ false → asks_all old (spelling (selection_to digits)) answer mid
      → Reads asks_all (spelling (request_to true selected)) mid telegram new → with_number digits telegram ≡ Some meter
      → Tries asks_all digits left collided misses old (One meter) new
  one left collided misses old mid new meter answer telegram silent some is not_so asked second named =
      finds answer telegram some (sym is ∙ not_so) asked second named

  pub collision : (left : ℕ) (collided both : Bool) (misses counts : Misses) (old mid asked new : B) (found : Numbered) (answer telegram : List ℕ) (silent : Bool)
      → 0 < left → silent ≡ is_silent answer → silent ≡ false → asks_all old (spelling (selection_to digits)) answer mid
      → Reads asks_all (spelling (request_to true selected)) mid telegram asked → with_number digits telegram ≡ None
      → both ≡ (collided && is_noise telegram) → counts ≡ and_missed telegram misses → (fewer : ℕ) → fewer ≡ left - 1
      → Tries asks_all digits fewer both counts asked found new
      → Tries asks_all digits left collided misses old found new
  collision left collided both misses counts old mid asked new found answer telegram silent some is not_so first second unread all counted fewer less more =
      let P : Bool → Type 0 = λ b. Tries asks_all digits (left - 1) b counts asked found new in
      let Q : Misses → Type 0 = λ m. Tries asks_all digits (left - 1) (collided && is_noise telegram) m asked found new in
      let R : ℕ → Type 0 = λ n. Tries asks_all digits n both counts asked found new in
      collides answer telegram some (sym is ∙ not_so) first second unread (subst Q counted (subst P all (subst R less more)))
