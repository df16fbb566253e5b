use Rattle.std.proofs.Common.{◌-◌, ◌<◌, length, arith, sym, ◌∙◌, ap}
use Rattle.std.specs.Prelude.{slice_get, unwrap_or}
use Rattle.dc_linkframe.specs.Control.{variable_data}
use Rattle.dc_linkframe.specs.Frame.{long, spelling}
use Rattle.dc_readout.specs.Meter.{Meter, response, rsp_ud}
use Rattle.dc_readout.specs.Reply.{bytes_of}
use Rattle.dc_readout.proofs.Asked.{body_there}
use Rattle.dc_readout.proofs.Lists.{there}
use Rattle.dc_readout.proofs.world.reply.respond.Goals as goal

pub returns : goal.returns
returns g c = λ fits.
    let bodies = c.script.inside.bodies in
    let place = c.args.place in
    let within : place - 1 < length bodies = omega (arith, c.if-place-len.false, c.len.ensures) in
    let at = there bodies (place - 1) c.at-body.result.now within c.at-body.ensures in
    let found = body_there place c.args.script.now.bodies c.at-body.result.now c.if-place-eq0.false (ap (λ (m : Meter). slice_get m.bodies (place - 1)) (sym c.script.view_is) ∙ at) in
    c.write_long.ensures
    ∙ ap (λ sender. spelling (long rsp_ud sender variable_data c.at-body.result.now)) (c.sender_of.ensures ∙ ap (λ (m : Meter). unwrap_or m.address 0) c.script.view_is)
    ∙ ap (λ o. bytes_of (response c.args.script.now o)) (sym found)
