-- Where no round is left, all lines are over.
use Rattle.std.proofs.Common.{◌≡◌, ℕ, zero, suc, ◌+◌, ◌-◌, ◌*◌, ◌<◌, ◌≤◌, Bool, true, false, List, [], ◌∷◌, length, get_or, refl, ap, sym, subst, ◌∙◌, arith}
use Rattle.std.specs.List.{All, list_all}
use Rattle.std.specs.Prelude.{◌&&◌, ◌==◌}
use Rattle.std.proofs.lemmas.Bool.{ne_eqb}
use Rattle.std.proofs.lemmas.List.Folds.{list_all_at}
use Rattle.dc_address.specs.declared.identity.Identity.{Identity}
use Rattle.mbdc_poll.specs.Waiting.{is_done, is_free}
use Rattle.std.proofs.Math.Nat.{mul-le-mul_left}
use Rattle.std.proofs.lemmas.List.{nil_from_length}
use Rattle.mbdc_poll.specs.Bus.{Bus}
use Rattle.mbdc_poll.specs.Round.{HasFew, IsFresh, IsOver, IsSilent}
use Rattle.mbdc_poll.specs.Station.{IsSoundIn, IsSound, rounds_a_start, rounds_in, rounds_of, starts_left}
use Rattle.mbdc_poll.specs.declared.phase.Phase.{Phase}
use Rattle.mbdc_poll.specs.declared.phase.Phase.TheVariants.{Free, Busy, Pending, Over}
use Rattle.mbdc_poll.specs.declared.phase.Request.{Request}
use Rattle.mbdc_poll.specs.declared.phase.Request.TheVariants.{Quiet}
use Rattle.mbdc_poll.specs.declared.station.Station.{Station}

over_by : (tries count due pass waits : ℕ) (phase : Phase) (request : Request) → IsSoundIn tries count due pass phase request waits → rounds_in 1 1 1 tries count due pass phase request waits ≤ 0 → (count ≡ 0) × (phase ≡ Free)
over_by tries zero due pass waits Free request sound none = (refl, refl)
over_by tries (suc n) zero pass waits Free request sound none =
    absurd (let less = sound.0.3 (omega arith) in some_pass (tries - pass) (omega (arith, less)) none)
  where
    some_pass : (q : ℕ) → 0 < q → (0 - 0 + suc n * q) * rounds_a_start + 0 ≤ 0 → ⊥
    some_pass zero more few = omega (arith, more)
    some_pass (suc q) more few = omega (arith, few)
over_by tries (suc n) (suc m) pass waits Free request sound none = absurd (omega (arith, none))
over_by tries count due pass waits (Busy n) request sound none = absurd (omega (arith, none))
over_by tries count due pass waits (Pending n) request sound none = absurd (omega (arith, none))
over_by tries count due pass waits (Over end) request sound none = absurd (omega (arith, none))

few_starts : (tries count due pass : ℕ) → due ≡ count → pass ≡ 1 → starts_left tries count due pass ≡ count + count * (tries - 1)
few_starts tries count due pass all first = ap (λ (p : ℕ). due + count * (tries - p)) first ∙ ap (λ (n : ℕ). n + count * (tries - 1)) all

few_by : (tries count due pass waits : ℕ) (phase : Phase) (request : Request) → tries < 256 → count ≤ 65535 → due ≡ count → pass ≡ 1 → phase ≡ Free
    → rounds_in 1 1 1 tries count due pass phase request waits + 1 ≤ 65535 * (255 * rounds_a_start) + rounds_a_start
few_by tries count due pass waits Free request small few all first free =
    let later : tries - 1 ≤ 254 = omega (arith, small) in
    let most : count * (tries - 1) ≤ count * 254 = mul-le-mul_left count later in
    let starts = few_starts tries count (due - 0) pass (omega (arith, all)) first in
    subst (λ (n : ℕ). n * rounds_a_start + 0 + 1 ≤ 65535 * (255 * rounds_a_start) + rounds_a_start) (sym starts)
    (most_of (count * (tries - 1)) most)
  where
    most_of : (n : ℕ) → n ≤ count * 254 → (count + n) * rounds_a_start + 0 + 1 ≤ 65535 * (255 * rounds_a_start) + rounds_a_start
    most_of n less = omega (arith, less, few)
few_by tries count due pass waits (Busy n) request small few all first free = absurd cc
few_by tries count due pass waits (Pending n) request small few all first free = absurd cc
few_by tries count due pass waits (Over end) request small few all first free = absurd cc

silent_by : (tries count due pass waits : ℕ) (phase : Phase) (request : Request) → IsSoundIn tries count due pass phase request waits → phase ≡ Free → request ≡ Quiet
silent_by tries count due pass waits Free request sound free = sound.1
silent_by tries count due pass waits (Busy n) request sound free = absurd cc
silent_by tries count due pass waits (Pending n) request sound free = absurd cc
silent_by tries count due pass waits (Over end) request sound free = absurd cc

fresh_by : (tries count due pass waits : ℕ) (phase : Phase) (request : Request) → 0 < tries → due ≡ count → pass ≡ 1 → phase ≡ Free → request ≡ Quiet → IsSoundIn tries count due pass phase request waits
fresh_by tries count due pass waits Free request some all first free quiet =
    ((omega (arith, first), omega (arith, some, first), omega (arith, all), λ less. absurd (omega (arith, less, all))), quiet)
fresh_by tries count due pass waits (Busy n) request some all first free quiet = absurd cc
fresh_by tries count due pass waits (Pending n) request some all first free quiet = absurd cc
fresh_by tries count due pass waits (Over end) request some all first free quiet = absurd cc

over_count : (tries count due pass waits : ℕ) (phase : Phase) (request : Request) → rounds_in 1 1 1 tries count due pass phase request waits ≤ rounds_in 1 1 0 tries count due pass phase request waits + 1
over_count tries count due pass waits Free request = omega arith
over_count tries count due pass waits (Busy n) request = omega arith
over_count tries count due pass waits (Pending n) request = omega arith
over_count tries count due pass waits (Over end) request = omega arith

less_count : (tries count due pass waits : ℕ) (phase : Phase) (request : Request) → rounds_in 1 0 0 tries count due pass phase request waits ≤ rounds_in 1 1 1 tries count due pass phase request waits
less_count tries count due pass waits Free request = omega arith
less_count tries count due pass waits (Busy n) request = omega arith
less_count tries count due pass waits (Pending n) request = omega arith
less_count tries count due pass waits (Over end) request = omega arith

module _ {B : Type 0} (g : Bus B) where
  pub over_one : (tries : ℕ) (s : Station B) → rounds_of g 1 1 1 tries s ≤ rounds_of g 1 1 0 tries s + 1
  over_one tries s = over_count tries (length s.left.now) s.due s.pass (g.waits_left s.bus) s.phase s.request

  pub all_less : (tries : ℕ) (s : Station B) → rounds_of g 1 0 0 tries s ≤ rounds_of g 1 1 1 tries s
  all_less tries s = less_count tries (length s.left.now) s.due s.pass (g.waits_left s.bus) s.phase s.request

  pub all_over : (tries : ℕ) (stations : List (Station B)) → All (IsSound g tries) stations → ((k : ℕ) (d : Station B) → k < length stations → rounds_of g 1 1 1 tries (get_or stations k d) ≤ 0) → All IsOver stations
  all_over tries stations sound none k d below =
      let s : Station B = get_or stations k d in
      let is = over_by tries (length s.left.now) s.due s.pass (g.waits_left s.bus) s.phase s.request (sound k d below) (none k d below) in
      (nil_from_length s.left.now is.0, is.1)

  -- and no request is out
  pub all_silent : (tries : ℕ) (stations : List (Station B)) → All (IsSound g tries) stations → All IsOver stations → All IsSilent stations
  all_silent tries stations sound over k d below =
      let s : Station B = get_or stations k d in
      silent_by tries (length s.left.now) s.due s.pass (g.waits_left s.bus) s.phase s.request (sound k d below) (over k d below).1

  -- a queue of which no meter was started takes no more rounds than these
  pub most_rounds : (tries : ℕ) (s : Station B) → tries < 256 → IsFresh s → HasFew s → rounds_of g 1 1 1 tries s + 1 ≤ 65535 * (255 * rounds_a_start) + rounds_a_start
  most_rounds tries s small fresh few = few_by tries (length s.left.now) s.due s.pass (g.waits_left s.bus) s.phase s.request small few fresh.all fresh.first fresh.free

  pub all_fresh : (tries : ℕ) (stations : List (Station B)) → 0 < tries → All IsFresh stations → All (IsSound g tries) stations
  all_fresh tries stations some fresh k d below =
      let s : Station B = get_or stations k d in
      let is = fresh k d below in
      fresh_by tries (length s.left.now) s.due s.pass (g.waits_left s.bus) s.phase s.request some is.all is.first is.free is.quiet

-- each line has nothing left
done_over : {B : Type 0} (s : Station B) → is_done s ≡ true → IsOver s
done_over s is = by_phase s.phase s.left.now is
  where
    by_phase : (phase : Phase) (left : List Identity) → (is_free phase && length left == 0) ≡ true → (left ≡ []) × (phase ≡ Free)
    by_phase Free [] is = (refl, refl)
    by_phase Free (m ∷ ms) is = absurd (let none : (length (m ∷ ms) == 0) ≡ false = ne_eqb (length (m ∷ ms)) 0 (λ z. omega arith) in let some : (length (m ∷ ms) == 0) ≡ true = is in let both : true ≡ false = sym some ∙ none in cc)
    by_phase (Busy n) left is = absurd cc
    by_phase (Pending n) left is = absurd cc
    by_phase (Over end) left is = absurd cc

holds_at : {X : Type 0} (p : X → Bool) (xs : List X) (k : ℕ) (d : X) → list_all p xs ≡ true → k < length xs → (b : Bool) → p (get_or xs k d) ≡ b → p (get_or xs k d) ≡ true
holds_at p xs k d all below true is = is
holds_at p xs k d all below false is = absurd (let none : list_all p xs ≡ false = list_all_at p xs k d below is in let both : true ≡ false = sym all ∙ none in cc)

pub all_done : {B : Type 0} (stations : List (Station B)) → list_all (λ (s : Station B). is_done s) stations ≡ true → All IsOver stations
all_done {B} stations are k d below =
    let one : Station B → Bool = λ s. is_done s in
    done_over (get_or stations k d) (holds_at one stations k d are below (one (get_or stations k d)) refl)
