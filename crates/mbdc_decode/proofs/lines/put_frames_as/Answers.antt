use Rattle.std.proofs.Common.{◌≡◌, ℕ, List, [], eqb-true, ap, sym, ◌∙◌, arith}
use Rattle.std.specs.Prelude.{◌||◌, flat_map, Bool, false}
use Rattle.mbdc_io.proofs.Bools.{or_false}
use Rattle.mbdc_decode.specs.Frames.{frames_of, any_bad}
use Rattle.mbdc_decode.proofs.Cuts.{no_cut, none_bad}
use Rattle.mbdc_decode.proofs.Faults.{one_fault_more}
use Rattle.mbdc_decode.proofs.Forms.{no_frames, first_of_frames}
use Rattle.mbdc_decode.proofs.Prefixes.{front_of_all, rest_of_all, all_went}
use Rattle.mbdc_decode.proofs.lines.put_frames_as.Goals as goal

pub returns-in_err-bad-clause-wrote : goal.returns-in_err-bad-clause-wrote
returns-in_err-bad-clause-wrote g c defined =
    let f = g.F.LineForm.frame_text c.args.number in
    let text : List ℕ = c.first_frame.result.0.now in
    let after : List ℕ = c.first_frame.result.1.now in
    let is = ap (flat_map f) c.first_frame.ensures.frames ∙ first_of_frames f text (frames_of after) in
    let ok = c.frames.invariant.ok defined in
    let front = front_of_all _ _ _ (f text) (flat_map f (frames_of after)) _ _ is (c.frames.invariant.text defined) (c.in_err-bad.ensures.wrote defined).2 in
    let risen = (c.in_err-bad.ensures.wrote defined).3 in
    grind arith

pub frames-preserved : goal.frames-preserved
frames-preserved g c =
    let f = g.F.LineForm.frame_text c.args.number in
    let text : List ℕ = c.first_frame.result.0.now in
    let after : List ℕ = c.first_frame.result.1.now in
    let is = ap (flat_map f) c.first_frame.ensures.frames ∙ first_of_frames f text (frames_of after) in
    record {
      within = omega (arith, c.first_frame.ensures.shorter, c.frames.invariant.within);
      text = λ defined. rest_of_all _ _ _ (f text) (flat_map f (frames_of after)) _ _ is (c.frames.invariant.text defined) (c.in_ok-bad.ensures.wrote defined).0;
      fault =
          one_fault_more c.frames.found c.in_ok-bad.bad (frames_of c.args.bytes.now) (frames_of c.frames.rest.now) (frames_of after) text c.frames.invariant.fault c.first_frame.ensures.frames
          c.in_ok-bad.ensures.fault;
      ok = λ defined. (c.in_ok-bad.ensures.wrote defined).1 ∙ c.frames.invariant.ok defined;
    }

pub returns-clause-wrote : goal.returns-clause-wrote
returns-clause-wrote g c defined =
    let f = g.F.LineForm.frame_text c.args.number in
    let none : frames_of c.frames.rest.now ≡ [] = no_cut c.frames.rest.now (eqb-true _ _ (sym c.frames-test.ensures)) in
    (all_went _ _ _ _ (ap (flat_map f) none ∙ no_frames f) (c.frames.invariant.text defined), c.frames.invariant.ok defined, tt, tt)

pub returns-clause-fault : goal.returns-clause-fault
returns-clause-fault g c =
    let none : any_bad (frames_of c.frames.rest.now) ≡ false = ap any_bad (no_cut c.frames.rest.now (eqb-true _ _ (sym c.frames-test.ensures))) ∙ none_bad in
    sym (or_false c.frames.found) ∙ ap (λ (b : Bool). c.frames.found || b) (sym none) ∙ c.frames.invariant.fault
