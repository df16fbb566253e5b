-- What was parsed is what a text is read as.
use Rattle.std.proofs.Common.{◌≡◌, List, ℕ, Option, Some, None, Result, Ok, Err, MatchResult, IfErr, option_map, ap, sym}
use Rattle.std.specs.Result.{result_ok}
use Rattle.dc_linkframe.specs.declared.fault.FrameFault.{FrameFault}
use Rattle.dc_linkframe.specs.declared.frame.Frame.{Frame}
use Rattle.dc_linkframe.specs.Frame.{FrameSeen, seen}
use Rattle.dc_linkframe.specs.Fault.{fault_of}
use Rattle.dc_linkframe.specs.Reading.{frame_of, fields_of, unless_faulty}
use Rattle.mbdc_decode.specs.Frames.{read_by, read_as}

read_is_parsed : (fault : Option FrameFault) (fields frame : FrameSeen) → unless_faulty fault fields ≡ Some frame → read_by fault fields ≡ Ok frame
read_is_parsed None fields frame is = cc
read_is_parsed (Some f) fields frame is = absurd cc

pub frame_is_parsed : (text : List ℕ) (frame : FrameSeen) → frame_of text ≡ Some frame → read_as text ≡ Ok frame
unfolding read_as frame_of
frame_is_parsed text frame is = read_is_parsed (fault_of text) (fields_of text) frame is

pub fault_is_parsed : (text : List ℕ) (f : FrameFault) → fault_of text ≡ Some f → read_as text ≡ Err f
unfolding read_as
fault_is_parsed text f is = ap (λ (fault : Option FrameFault). read_by fault (fields_of text)) is

pub parse_is_parsed : (text : List ℕ) (r : Result Frame FrameFault) → option_map seen (result_ok r) ≡ frame_of text → IfErr r (λ f. fault_of text ≡ Some f)
    → MatchResult r (λ frame. read_as text ≡ Ok (seen frame)) (λ f. read_as text ≡ Err f)
parse_is_parsed text (Ok frame) exact refused = frame_is_parsed text (seen frame) (sym exact)
parse_is_parsed text (Err f) exact refused = fault_is_parsed text f refused
