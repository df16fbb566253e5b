-- Which meters are read on which line.
use Rattle.std.proofs.Common.{◌≡◌, ℕ, zero, suc, ◌+◌, ◌<◌, Bool, List, [], ◌∷◌, ◌++◌, length, get_or, map, take, drop, ap, sym, subst, ◌∙◌, append_assoc, arith}
use Rattle.std.proofs.lemmas.List.{get_or-map, length-map, map-append}
use Rattle.mbdc_change.specs.State.{State}
use Rattle.dc_address.specs.declared.identity.Identity.{Identity}
use Rattle.mbdc_poll.specs.Planned.{AreQueues, AreStations, ArePlanned, HasQueue, IsPlanned, queue_on}
use Rattle.mbdc_poll.specs.Round.{most_lines}
use Rattle.mbdc_poll.specs.declared.station.Station.{Station}

-- what holds of each by its place holds with one more
pub each_more : {X : Type 0} (P : ℕ → X → Type 0) (xs : List X) (x : X) → ((k : ℕ) (d : X) → k < length xs → P k (get_or xs k d)) → P (length xs) x
    → (k : ℕ) (d : X) → k < length (xs ++ x ∷ []) → P k (get_or (xs ++ x ∷ []) k d)
each_more P [] x each is zero d below = is
each_more P [] x each is (suc k) d below = absurd (omega (arith, below))
each_more P (y ∷ xs) x each is zero d below = each zero d (omega arith)
each_more P (y ∷ xs) x each is (suc k) d below = each_more (λ n. P (suc n)) xs x (λ j e less. each (suc j) e (omega (arith, less))) is k d (omega (arith, below))

-- what comes first after so many, and what after it
pub first_after : {X : Type 0} (n : ℕ) (xs : List X) (x : X) (rest : List X) (d : X) → drop n xs ≡ x ∷ rest → get_or xs n d ≡ x
first_after zero [] x rest d is = absurd cc
first_after (suc n) [] x rest d is = absurd cc
first_after zero (y ∷ xs) x rest d is = cc
first_after (suc n) (y ∷ xs) x rest d is = first_after n xs x rest d is

pub rest_after : {X : Type 0} (n : ℕ) (xs : List X) (x : X) (rest : List X) → drop n xs ≡ x ∷ rest → drop (suc n) xs ≡ rest
rest_after zero [] x rest is = absurd cc
rest_after (suc n) [] x rest is = absurd cc
rest_after zero (y ∷ xs) x rest is = cc
rest_after (suc n) (y ∷ xs) x rest is = rest_after n xs x rest is

module _ {B Q : Type 0} (items : Q → List Identity) (lost : B → Bool) (state : State) (only : List Identity) where
  pub queues_none : (buses : List B) (queues : List Q) → length queues ≡ 0 → AreQueues items lost state only buses queues
  queues_none buses queues none k q b below = absurd (omega (arith, below, none))

  pub queues_more : (buses : List B) (queues : List Q) (at : ℕ) (queue : Q) → AreQueues items lost state only buses queues → length queues ≡ at
      → ((b : B) → items queue ≡ queue_on state only (at + 1) (lost (get_or buses at b))) → AreQueues items lost state only buses (queues ++ queue ∷ [])
  queues_more buses queues at queue are count is k q b below =
      each_more (λ n v. items v ≡ queue_on state only (n + 1) (lost (get_or buses n b))) queues queue (λ j e less. are j e b less)
      (subst (λ n. items queue ≡ queue_on state only (n + 1) (lost (get_or buses n b))) (sym count) (is b)) k q below

  -- the queues of the buses, and the stations of the queues
  planned_with : (buses : List B) (queues : List Q) (stations : List (Station B)) → AreQueues items lost state only buses queues → length queues ≡ length stations
      → map (λ (s : Station B). s.bus) stations ≡ buses → AreStations items lost queues stations → (q : Q) → (k : ℕ) (d : Station B) → k < length stations → IsPlanned lost state only (k + 1) (get_or stations k d)
  planned_with buses queues stations are count same each q k d below =
      let s : Station B = get_or stations k d in
      let has = each k q d below in
      let queue = are k q s.bus (omega (arith, below, count)) in
      let bus : get_or buses k s.bus ≡ s.bus = subst (λ (bs : List B). get_or bs k s.bus ≡ s.bus) same (get_or-map (λ (x : Station B). x.bus) stations k d s.bus below) in
      record { queue = has.queue_is ∙ queue ∙ ap (λ (b : B). queue_on state only (k + 1) (lost b)) bus; said = has.said; fresh = has.fresh }

  planned_none : (buses : List B) (stations : List (Station B)) → 0 ≡ length stations → (k : ℕ) (d : Station B) → k < length stations → IsPlanned lost state only (k + 1) (get_or stations k d)
  planned_none buses stations count k d below = absurd (omega (arith, below, count))

  planned_each : (buses : List B) (queues : List Q) (stations : List (Station B)) → AreQueues items lost state only buses queues → length queues ≡ length stations
      → map (λ (s : Station B). s.bus) stations ≡ buses → AreStations items lost queues stations → (k : ℕ) (d : Station B) → k < length stations → IsPlanned lost state only (k + 1) (get_or stations k d)
  planned_each buses [] stations are count same each = planned_none buses stations count
  planned_each buses (q ∷ queues) stations are count same each = planned_with buses (q ∷ queues) stations are count same each q

  pub planned_by : (all buses : List B) (queues : List Q) (stations : List (Station B)) → buses ≡ take most_lines all → AreQueues items lost state only buses queues → length queues ≡ length buses
      → map (λ (s : Station B). s.bus) stations ≡ buses → AreStations items lost queues stations → ArePlanned lost state only all stations
  planned_by all buses queues stations cut are count same each = record {
    buses_are = same ∙ cut;
    each = planned_each buses queues stations are (count ∙ ap length (sym same) ∙ length-map stations (λ (s : Station B). s.bus)) same each;
  }

pub buses_more : {B : Type 0} (stations : List (Station B)) (station : Station B) (rest all : List B) → map (λ (s : Station B). s.bus) stations ++ station.bus ∷ rest ≡ all → map (λ (s : Station B). s.bus) (stations ++ station ∷ []) ++ rest ≡ all
buses_more {B} stations station rest all is =
    ap (λ (bs : List B). bs ++ rest) (map-append (λ (s : Station B). s.bus) stations (station ∷ [])) ∙ append_assoc (map (λ (s : Station B). s.bus) stations) (station.bus ∷ []) rest ∙ is

-- a station more
pub stations_more : {B Q : Type 0} (items : Q → List Identity) (lost : B → Bool) (queues : List Q) (stations : List (Station B)) (station : Station B) → AreStations items lost queues stations → ((q : Q) → HasQueue lost (items (get_or queues (length stations) q)) station) → AreStations items lost queues (stations ++ station ∷ [])
stations_more items lost queues stations station are is k q d below = each_more (λ n s. HasQueue lost (items (get_or queues n q)) s) stations station (λ j e less. are j q e less) (is q) k d below
