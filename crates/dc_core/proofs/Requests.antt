-- How long a request is.
use Rattle.std.proofs.Common.{◌≡◌, ◌≤◌, ℕ, List, [], ◌∷◌, length, Option, IfSome, ap, sym, subst, ◌∙◌, arith, length-append}
use Rattle.std.specs.Prelude.{option_map}
use Rattle.dc_address.specs.declared.identity.Identity.{Identity}
use Rattle.dc_address.specs.Mask.{mask_of, mask_wire}
use Rattle.dc_address.proofs.Identities.{length-wire_of}
use Rattle.dc_address.proofs.Masks.{mask_wire-mask_of}
use Rattle.dc_linkframe.specs.Control.{snd_ud, selected, selection, selection_by}
use Rattle.dc_linkframe.specs.Frame.{spelling, checksum}
use Rattle.dc_readout.specs.Summary.{Summary, asked_at, asked_by, selection_of}
use Rattle.dc_readout.specs.declared.stage.Stage.{Stage}
use Rattle.dc_readout.specs.declared.stage.Stage.TheVariants.{Resets, Selects, Requests, Pending, Ended}
use Rattle.dc_core.specs.Step.{longest_request}

-- a selection has the eight bytes of a mask
selection_is_short : (mask : List ℕ) → length mask ≡ 8 → length (spelling (selection_by mask)) ≤ longest_request
selection_is_short mask eight = let parts = length-append mask (checksum (snd_ud ∷ selected ∷ selection ∷ mask) ∷ 0x16 ∷ []) in omega (arith, eight, parts)

short_at : (stage : Stage) (meter : Identity) (address : Option ℕ) (settled : ℕ) → IfSome (option_map spelling (asked_at stage meter address settled)) (λ (request : List ℕ). length request ≤ longest_request)
unfolding selection_of
short_at Resets meter address settled = omega arith
short_at Selects meter address settled = selection_is_short (mask_wire (mask_of meter)) (ap length (mask_wire-mask_of meter) ∙ length-wire_of meter)
short_at Requests meter address settled = omega arith
short_at (Pending more) meter address settled = tt
short_at Ended meter address settled = tt

pub request_is_short : (s : Summary) (asked : Option (List ℕ)) → asked ≡ option_map spelling (asked_by s) → IfSome asked (λ (request : List ℕ). length request ≤ longest_request)
request_is_short s asked is = subst (λ (o : Option (List ℕ)). IfSome o (λ (request : List ℕ). length request ≤ longest_request)) (sym is) (short_at s.stage s.meter s.address s.settled)
