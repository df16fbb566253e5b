-- How many rounds a line takes at most that takes no step.
use Rattle.std.proofs.Common.{◌≡◌, ℕ, ◌-◌, ◌≤◌, List, [], length, refl, sym, subst, arith}
use Rattle.mbdc_poll.specs.Bus.{Bus}
use Rattle.mbdc_poll.specs.Station.{IsSoundIn, IsSound, rounds_in, rounds_of}
use Rattle.mbdc_poll.specs.declared.phase.Phase.{Phase}
use Rattle.mbdc_poll.specs.declared.phase.Phase.TheVariants.{Free, Busy, Pending, Over}
use Rattle.mbdc_poll.specs.declared.phase.Request.{Request}
use Rattle.mbdc_poll.specs.declared.phase.Request.TheVariants.{Quiet, Sent, Answered}
use Rattle.mbdc_poll.specs.declared.station.Station.{Station}
use Rattle.dc_address.specs.declared.identity.Identity.{Identity}

out_count : (tries count due pass waits : ℕ) (phase : Phase) (request : Request) → IsSoundIn tries count due pass phase request waits → (request ≡ Quiet → ⊥) → rounds_in 0 0 0 tries count due pass phase request waits ≤ rounds_in 1 1 1 tries count due pass phase request waits - 1
out_count tries count due pass waits Free request sound not = absurd (not sound.1)
out_count tries count due pass waits (Busy n) Quiet sound not = absurd (not refl)
out_count tries count due pass waits (Busy n) Sent sound not = omega arith
out_count tries count due pass waits (Busy n) (Answered bytes) sound not = omega arith
out_count tries count due pass waits (Pending n) request sound not = absurd (not sound.3)
out_count tries count due pass waits (Over end) request sound not = absurd (not sound.1)

empty_count : (tries due pass waits : ℕ) (phase : Phase) (request : Request) → IsSoundIn tries 0 due pass phase request waits → rounds_in 0 0 0 tries 0 due pass phase request waits ≤ rounds_in 1 1 1 tries 0 due pass phase request waits - 1
empty_count tries due pass waits Free request sound = let none = sound.0.2 in omega (arith, none)
empty_count tries due pass waits (Busy n) request sound = absurd (let some = sound.1 in let none = sound.0.2 in omega (arith, some, none))
empty_count tries due pass waits (Pending n) request sound = absurd (let some = sound.1 in let none = sound.0.2 in omega (arith, some, none))
empty_count tries due pass waits (Over end) request sound = omega arith

rest_count : (tries count due pass waits : ℕ) (phase : Phase) (request : Request) → (phase ≡ Free → ⊥) → ((n : ℕ) → phase ≡ Busy n → ⊥) → rounds_in 0 0 0 tries count due pass phase request waits ≤ rounds_in 1 1 1 tries count due pass phase request waits - 1
rest_count tries count due pass waits Free request free busy = absurd (free refl)
rest_count tries count due pass waits (Busy n) request free busy = absurd (busy n refl)
rest_count tries count due pass waits (Pending n) request free busy = omega arith
rest_count tries count due pass waits (Over end) request free busy = omega arith

less_count : (tries count due pass waits : ℕ) (phase : Phase) (request : Request) → rounds_in 0 0 0 tries count due pass phase request waits ≤ rounds_in 1 1 1 tries count due pass phase request waits
less_count tries count due pass waits Free request = omega arith
less_count tries count due pass waits (Busy n) Quiet = omega arith
less_count tries count due pass waits (Busy n) Sent = omega arith
less_count tries count due pass waits (Busy n) (Answered bytes) = omega arith
less_count tries count due pass waits (Pending n) request = omega arith
less_count tries count due pass waits (Over end) request = omega arith

not_out : (tries count due pass waits : ℕ) (phase : Phase) (request : Request) → (request ≡ Quiet) → rounds_in 1 0 0 tries count due pass phase request waits ≤ rounds_in 0 0 0 tries count due pass phase request waits
not_out tries count due pass waits Free request e = omega arith
not_out tries count due pass waits (Busy n) Quiet e = omega arith
not_out tries count due pass waits (Busy n) Sent e = absurd cc
not_out tries count due pass waits (Busy n) (Answered bytes) e = absurd cc
not_out tries count due pass waits (Pending n) request e = omega arith
not_out tries count due pass waits (Over end) request e = omega arith

not_busy : (tries count due pass waits : ℕ) (phase : Phase) (request : Request) → ((n : ℕ) → phase ≡ Busy n → ⊥) → IsSoundIn tries count due pass phase request waits → request ≡ Quiet
not_busy tries count due pass waits Free request not sound = sound.1
not_busy tries count due pass waits (Busy n) request not sound = absurd (not n refl)
not_busy tries count due pass waits (Pending n) request not sound = sound.3
not_busy tries count due pass waits (Over end) request not sound = sound.1

module _ {B : Type 0} (g : Bus B) where
  pub fewer_out : (tries : ℕ) (s : Station B) → IsSound g tries s → (s.request ≡ Quiet → ⊥) → rounds_of g 0 0 0 tries s ≤ rounds_of g 1 1 1 tries s - 1
  fewer_out tries s sound not = out_count tries (length s.left.now) s.due s.pass (g.waits_left s.bus) s.phase s.request sound not

  pub fewer_empty : (tries : ℕ) (s : Station B) → IsSound g tries s → s.left.now ≡ [] → rounds_of g 0 0 0 tries s ≤ rounds_of g 1 1 1 tries s - 1
  fewer_empty tries s sound none =
      let sound' = subst (λ (xs : List Identity). IsSoundIn tries (length xs) s.due s.pass s.phase s.request (g.waits_left s.bus)) none sound in
      subst (λ (xs : List Identity). rounds_in 0 0 0 tries (length xs) s.due s.pass s.phase s.request (g.waits_left s.bus) ≤ rounds_in 1 1 1 tries (length xs) s.due s.pass s.phase s.request (g.waits_left s.bus) - 1) (sym none)
      (empty_count tries s.due s.pass (g.waits_left s.bus) s.phase s.request sound')

  pub fewer_rest : (tries : ℕ) (s : Station B) → (s.phase ≡ Free → ⊥) → ((n : ℕ) → s.phase ≡ Busy n → ⊥) → rounds_of g 0 0 0 tries s ≤ rounds_of g 1 1 1 tries s - 1
  fewer_rest tries s free busy = rest_count tries (length s.left.now) s.due s.pass (g.waits_left s.bus) s.phase s.request free busy

  pub rounds_less : (tries : ℕ) (s : Station B) → rounds_of g 0 0 0 tries s ≤ rounds_of g 1 1 1 tries s
  rounds_less tries s = less_count tries (length s.left.now) s.due s.pass (g.waits_left s.bus) s.phase s.request

  pub fewer_silent : (tries : ℕ) (s : Station B) → s.request ≡ Quiet → rounds_of g 1 0 0 tries s ≤ rounds_of g 0 0 0 tries s
  fewer_silent tries s silent = not_out tries (length s.left.now) s.due s.pass (g.waits_left s.bus) s.phase s.request silent

  pub silent_unless : (tries : ℕ) (s : Station B) → IsSound g tries s → ((n : ℕ) → s.phase ≡ Busy n → ⊥) → s.request ≡ Quiet
  silent_unless tries s sound not = not_busy tries (length s.left.now) s.due s.pass (g.waits_left s.bus) s.phase s.request not sound
