use Rattle.std.proofs.Common.{◌≡◌, Some, sym, ◌∙◌, ap, nat_eq}
use Rattle.std.specs.Prelude.{option_map}
use Rattle.dc_linkframe.specs.Control.{request_to}
use Rattle.dc_linkframe.specs.Frame.{ack, short, seen}
use Rattle.dc_linkframe.specs.Reading.{frame_of}
use Rattle.dc_readout.specs.Summary.{asked_by}
use Rattle.dc_readout.specs.Request.{frame_asked}
use Rattle.dc_readout.proofs.Asked.{sent_frame, data_asked, never_ack}
use Rattle.dc_readout.proofs.world.request.request_of.Goals as goal

pub returns-in_err-control-clause-exact : goal.returns-in_err-control-clause-exact
returns-in_err-control-clause-exact c =
    let s = c.args.session.now in
    let sent = ap frame_of c.as_slice.ensures.bytes ∙ sent_frame (asked_by s) c.in_ok-sent.sent (sym c.in_ok-sent.was ∙ c.ask.ensures.exact) in
    ap (option_map frame_asked) c.from_residual-in_err-control.ensures ∙ ap (option_map seen) c.in_err-control.ensures.value ∙ c.parse.ensures.exact ∙ sent

pub returns-in-Short-2-clause-exact : goal.returns-in-Short-2-clause-exact
returns-in-Short-2-clause-exact c =
    let s = c.args.session.now in
    let control = c.in-Short.control in
    let address = c.in-Short.address in
    let sent = ap frame_of c.as_slice.ensures.bytes ∙ sent_frame (asked_by s) c.in_ok-sent.sent (sym c.in_ok-sent.was ∙ c.ask.ensures.exact) in
    let read : Some (short control address) ≡ asked_by s = ap (option_map seen) (ap Some (sym c.in-Short.is) ∙ sym c.in_ok-control.was ∙ c.ok.ensures.value) ∙ c.parse.ensures.exact ∙ sent in
    ap (λ k. Some (request_to (nat_eq control k) address)) c.req_ud2.ensures
    ∙ data_asked s.stage s.meter s.address s.settled control address read c.if-control-eq-SND_NKE.false

pub returns-in-Ack-clause-exact : goal.returns-in-Ack-clause-exact
returns-in-Ack-clause-exact c =
    let s = c.args.session.now in
    let sent = ap frame_of c.as_slice.ensures.bytes ∙ sent_frame (asked_by s) c.in_ok-sent.sent (sym c.in_ok-sent.was ∙ c.ask.ensures.exact) in
    let read : Some ack ≡ asked_by s = ap (option_map seen) (ap Some (sym c.in-Ack.is) ∙ sym c.in_ok-control.was ∙ c.ok.ensures.value) ∙ c.parse.ensures.exact ∙ sent in
    absurd (never_ack s.stage s.meter s.address s.settled read)
