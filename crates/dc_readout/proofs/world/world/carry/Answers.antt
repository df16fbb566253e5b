use Rattle.std.proofs.Common.{◌<◌, List, length, get_or, arith, sym, ◌∙◌, ap}
use Rattle.dc_linkframe.specs.Frame.{FrameSeen}
use Rattle.dc_readout.specs.Meter.{Position, answer_to}
use Rattle.dc_readout.specs.Reply.{bytes_of}
use Rattle.dc_readout.specs.Request.{frame_asked}
use Rattle.dc_readout.specs.World.{all_moved, heard_in}
use Rattle.dc_readout.proofs.Asked.{asks_near, asks_fit, asks_heard}
use Rattle.dc_readout.proofs.Lists.{there}
use Rattle.dc_readout.proofs.Moves.{length-moved}
use Rattle.dc_readout.proofs.world.world.carry.Goals as goal

pub see_all-requires-clause-near : goal.see_all-requires-clause-near
see_all-requires-clause-near g c = asks_near c.args.scripts.now c.args.positions.now c.args.meter c.args.request c.requires.asks

pub see_all-requires-in-ReplyUnreadable-clause-near : goal.see_all-requires-in-ReplyUnreadable-clause-near
see_all-requires-in-ReplyUnreadable-clause-near g c = asks_near c.args.scripts.now c.args.positions.now c.args.meter c.args.request c.requires.asks

pub see_all-requires-in-AsSent-clause-near : goal.see_all-requires-in-AsSent-clause-near
see_all-requires-in-AsSent-clause-near g c = asks_near c.args.scripts.now c.args.positions.now c.args.meter c.args.request c.requires.asks

pub reply_to-requires : goal.reply_to-requires
reply_to-requires g c =
    asks_fit c.args.scripts.now c.args.positions.now c.args.meter (frame_asked c.args.request) c.index-scripts-meter.result c.requires.asks
    (there c.args.scripts.now c.args.meter c.index-scripts-meter.result c.requires.within c.index-scripts-meter.is)

pub returns-in-AsSent-clause-heard : goal.returns-in-AsSent-clause-heard
returns-in-AsSent-clause-heard g c =
    let scripts = c.args.scripts.now in
    let positions = c.args.positions.now in
    let meter = c.args.meter in
    let m = c.index-scripts-meter.result in
    let q = c.index-positions-meter.result in
    let frame : FrameSeen = frame_asked c.args.request in
    let moved : List Position = all_moved frame scripts positions in
    let seen = ap (λ (ps : List Position). get_or ps meter q) c.see_all-in-AsSent.ensures in
    let within : meter < length moved = omega (arith, c.requires.within, c.requires.one_each, length-moved frame scripts positions c.requires.one_each) in
    c.reply_to.ensures ∙ ap (λ x. bytes_of (answer_to frame m x)) (sym c.index-positions-meter.is)
    ∙ asks_heard scripts positions meter frame m q c.requires.asks (there scripts meter m c.requires.within c.index-scripts-meter.is) (there moved meter q within (c.index-positions-meter.is ∙ seen))
    ∙ ap (λ o. heard_in o frame scripts positions) (sym c.in-AsSent.is)
