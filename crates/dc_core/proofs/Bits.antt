-- An acknowledged telegram toggles the frame count bit (the theorem of specs/Toggled).
use Rattle.std.proofs.Common.{◌≡◌, ℕ, ◌+◌, Bool, true, false, not, Option, Some, arith, refl, subst, ap, ◌∙◌}
use Rattle.std.proofs.lemmas.Bool.Decides.{nat_tests}
use Rattle.dc_linkframe.specs.Frame.{FrameSeen}
use Rattle.dc_linkframe.specs.Control.{request_to}
use Rattle.dc_records.specs.Body.{continues}
use Rattle.dc_records.specs.Telegram.{Parsed}
use Rattle.dc_readout.specs.declared.stage.Stage.TheVariants.{Requests, Pending}
use Rattle.dc_readout.specs.Summary.{Summary, new, asked_by, asked_at, heard_by, settled_by, request_bit, request_of, link_address}
use Rattle.dc_core.specs.Lines.{settled_at}
use Rattle.dc_core.specs.Toggled.{HaveOtherBits, SettlingToggles}
use Rattle.dc_readout.proofs.Taken.{taken}

-- an even count's bit and the next one's
next_bit : (n : ℕ) → request_bit (n + 1) ≡ not (request_bit n)
next_bit n = grind (arith, nat_tests)

other_bits : (address : Option ℕ) (n : ℕ) → HaveOtherBits (request_of address n) (request_of address (n + 1))
other_bits address n = (request_bit n, link_address address, (refl, ap (λ (bit : Bool). request_to bit (link_address address)) (next_bit n)))

toggled : (s settled : Summary) (part : ℕ) (telegram : Parsed) (request other : FrameSeen) (more : Bool) → continues telegram.ending ≡ more → s.stage ≡ Requests → asked_by s ≡ Some request
    → settled_at (Pending more) (heard_by s (new part telegram)) ≡ Some settled → asked_by settled ≡ Some other → HaveOtherBits request other
toggled s settled part telegram request other false more stage asks settles then = absurd (cc settles)
toggled s settled part telegram request other true more stage asks settles then =
    let is : settled_by (heard_by s (new part telegram)) ≡ settled = cc settles in
    let first : request_of s.address s.settled ≡ request = let e : asked_at Requests s.meter s.address s.settled ≡ Some request = rw stage at asks in cc e in
    let last : asked_by (settled_by (heard_by s (new part telegram))) ≡ Some other = ap asked_by is ∙ then in
    let second : request_of s.address (s.settled + 1) ≡ other = let e : Some (request_of s.address (s.settled + 1)) ≡ Some other = rw more at last in cc e in
    subst (λ (a : FrameSeen). HaveOtherBits a other) first (subst (λ (b : FrameSeen). HaveOtherBits (request_of s.address s.settled) b) second (other_bits s.address s.settled))

pub settling_toggles : SettlingToggles
settling_toggles s answer part telegram e =
    let next = taken s answer part telegram e in
    record {
      waits = refl;
      toggles = λ settled request other asks settles then. toggled s settled part telegram request other (continues telegram.ending) refl next.was_asked asks settles then;
    }
