-- How many rounds a line takes at most, by what becomes of it.
use Rattle.std.proofs.Common.{◌≡◌, ℕ, suc, ◌+◌, ◌-◌, ◌*◌, ◌<◌, ◌≤◌, List, [], ◌∷◌, ◌++◌, length, length-append, take, drop, ap, arith}
use Rattle.dc_address.specs.declared.identity.Identity.{Identity}
use Rattle.mbdc_bus.specs.Halves.{most_waits}
use Rattle.mbdc_poll.specs.Queue.{most_asks}
use Rattle.mbdc_poll.specs.Station.{IsPass, rounds_in, rounds_a_start, rounds_a_request, rounds_to_end, rounds_by_request, starts_left}
use Rattle.mbdc_poll.specs.declared.end.End.{End}
use Rattle.mbdc_poll.specs.declared.phase.Phase.TheVariants.{Free, Busy, Over}
use Rattle.mbdc_poll.specs.declared.phase.Request.{Request}
use Rattle.mbdc_poll.specs.declared.phase.Request.TheVariants.{Quiet, Sent}

-- one meter less
pub left_count : (left : List Identity) (due q : ℕ) → (due - 1) + length (drop 1 left) * q ≤ (due - 1) + length left * q
left_count [] due q = omega arith
left_count (meter ∷ more) due q = omega arith

-- a pass stays one, with one meter less, or with one that failed
pub pass_less : (tries : ℕ) (left : List Identity) (due pass : ℕ) → 0 < due → IsPass tries (length left) due pass → IsPass tries (length (drop 1 left)) (due - 1) pass
pass_less tries [] due pass some is = absurd (let few = is.2 in omega (arith, some, few))
pass_less tries (meter ∷ more) due pass some is = let few = is.2 in (is.0, is.1, omega (arith, few, some), λ less. is.3 (omega (arith, less, some)))

pub pass_put_off : (tries : ℕ) (left : List Identity) (due pass : ℕ) → 0 < due → pass < tries → IsPass tries (length left) due pass → IsPass tries (length (drop 1 left ++ take 1 left)) (due - 1) pass
pass_put_off tries [] due pass some before is = absurd (let few = is.2 in omega (arith, some, few))
pass_put_off tries (meter ∷ more) due pass some before is =
    let few = is.2 in
    let count = length-append more (meter ∷ []) in
    (is.0, is.1, omega (arith, few, some, count), λ less. before)

module _ (left : List Identity) (tries : ℕ) (some : 0 < length left) where
  pub start_count : (due pass w w' : ℕ) → 0 < due
      → rounds_in 1 1 1 tries (length left) due pass (Busy most_asks) Quiet w ≤ rounds_in 1 1 1 tries (length left) due pass Free Quiet w' - 1
  start_count due pass w w' more = by_rest (length left * (tries - pass))
    where
      by_rest : (m : ℕ) → (due - 1 + m) * rounds_a_start + (rounds_to_end + most_asks * rounds_a_request + 0) ≤ (due - 0 + m) * rounds_a_start + 0 - 1
      by_rest m = omega (arith, more)

  pub refuse_count : (due pass w w' : ℕ) (end : End) → 0 < due
      → rounds_in 1 1 1 tries (length (drop 1 left)) (due - 1) pass (Over end) Quiet w ≤ rounds_in 1 1 1 tries (length left) due pass Free Quiet w' - 1
  refuse_count due pass w w' end more = by_rest (length left * (tries - pass)) (length (drop 1 left) * (tries - pass)) (left_count left due (tries - pass))
    where
      by_rest : (m m' : ℕ) → (due - 1) + m' ≤ (due - 1) + m → (due - 1 - 0 + m') * rounds_a_start + (1 + 1) ≤ (due - 0 + m) * rounds_a_start + 0 - 1
      by_rest m m' less = omega (arith, more, less)

  pub ask_count : (due pass asks w w' : ℕ) → 0 < asks → w ≤ most_waits
      → rounds_in 0 0 0 tries (length left) due pass (Busy (asks - 1)) Sent w ≤ rounds_in 1 1 1 tries (length left) due pass (Busy asks) Quiet w' - 1
  ask_count due pass asks w w' more few = by_rest ((due - 1 + length left * (tries - pass)) * rounds_a_start)
    where
      by_rest : (m : ℕ) → m + (rounds_to_end + (asks - 1) * rounds_a_request + (0 + 1 + w)) ≤ m + (rounds_to_end + asks * rounds_a_request + 0) - 1
      by_rest m = omega (arith, more, few)

  -- it ended, from whatever a busy one was
  pub end_count : (out pending over due pass asks w w' : ℕ) (request : Request) (end : End) → over ≤ 1
      → rounds_in out pending over tries (length (drop 1 left)) (due - 1) pass (Over end) Quiet w ≤ rounds_in 0 0 0 tries (length left) due pass (Busy asks) request w' - 1
  end_count out pending over due pass asks w w' request end one =
      by_rest (length left * (tries - pass)) (length (drop 1 left) * (tries - pass)) (rounds_by_request 0 request w') (left_count left due (tries - pass))
    where
      by_rest : (m m' n : ℕ) → (due - 1) + m' ≤ (due - 1) + m → (due - 1 - 0 + m') * rounds_a_start + (1 + over) ≤ (due - 1 + m) * rounds_a_start + (rounds_to_end + asks * rounds_a_request + n) - 1
      by_rest m m' n less = omega (arith, less, one)

  -- it failed, and is put off
  pub free_count : (out due pass asks w w' : ℕ) (request : Request) → rounds_in out 0 0 tries (length left) (due - 1) pass Free Quiet w ≤ rounds_in 0 0 0 tries (length left) due pass (Busy asks) request w'
  free_count out due pass asks w w' request = by_rest (length left * (tries - pass)) (rounds_by_request 0 request w')
    where
      by_rest : (m n : ℕ) → (due - 1 - 0 + m) * rounds_a_start + 0 ≤ (due - 1 + m) * rounds_a_start + (rounds_to_end + asks * rounds_a_request + n)
      by_rest m n = omega arith

-- the next pass takes what is left
pub pass_count : (tries count pass : ℕ) → pass < tries → starts_left tries count (count - 0) (pass + 1) ≡ starts_left tries count (0 - 0) pass
pass_count tries count pass less = by_rest (tries - (pass + 1)) (tries - pass) (omega (arith, less))
  where
    by_rest : (q p : ℕ) → p ≡ suc q → (count - 0) + count * q ≡ (0 - 0) + count * p
    by_rest q p is = let there : count * p ≡ count * suc q = ap (λ (x : ℕ). count * x) is in omega (arith, there)
