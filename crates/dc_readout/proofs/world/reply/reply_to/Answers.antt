use Rattle.std.proofs.Common.{◌≡◌, true, false, cond, Some, None, sym, ◌∙◌, ap}
use Rattle.dc_linkframe.specs.Frame.{ack}
use Rattle.dc_address.specs.Mask.{mask_of, matches}
use Rattle.dc_readout.specs.Meter.{Meter, Position, answer_to, body_at, hears_at, is_own, response}
use Rattle.dc_readout.specs.Reply.{bytes_of}
use Rattle.dc_readout.specs.Request.{frame_asked}
use Rattle.dc_readout.proofs.Moves.{answer_to-data}
use Rattle.dc_readout.proofs.Replies.{answer_to-reset, answer_to-selection}
use Rattle.dc_readout.proofs.world.reply.reply_to.Goals as goal

pub returns-in-Reset : goal.returns-in-Reset
returns-in-Reset g c =
    let m : Meter = c.args.script.now in
    let p : Position = c.args.position.now in
    c.acknowledged_if.ensures
    ∙ ap (λ b. bytes_of (cond b (Some ack) None)) (c.is_own.ensures ∙ ap (λ (x : Meter). is_own x.address c.in-Reset.address) c.script.view_is)
    ∙ ap bytes_of (sym (answer_to-reset c.in-Reset.address m p)) ∙ ap (λ r. bytes_of (answer_to (frame_asked r) m p)) (sym c.in-Reset.is)

pub returns-in-Select : goal.returns-in-Select
returns-in-Select g c =
    let m : Meter = c.args.script.now in
    let p : Position = c.args.position.now in
    c.acknowledged_if-in-Select.ensures
    ∙ ap (λ b. bytes_of (cond b (Some ack) None)) (c.matches.ensures ∙ ap (λ mask. matches mask c.script.inside.identity) c.of.ensures
    ∙ ap (λ (x : Meter). matches (mask_of c.in-Select.meter) x.identity) c.script.view_is)
    ∙ ap bytes_of (sym (answer_to-selection c.in-Select.meter m p)) ∙ ap (λ r. bytes_of (answer_to (frame_asked r) m p)) (sym c.in-Select.is)

pub returns-then-hears : goal.returns-then-hears
returns-then-hears g c =
    let m : Meter = c.args.script.now in
    let p : Position = c.args.position.now in
    let hears : hears_at m.address c.in-Data.address p ≡ true =
    ap (λ (x : Meter). hears_at x.address c.in-Data.address p) (sym c.script.view_is) ∙ sym c.hears.ensures ∙ c.if-hears.true in
    c.respond.ensures c.requires ∙ ap (λ k. bytes_of (response m (body_at k m.bodies))) c.place.ensures
    ∙ ap bytes_of (sym (answer_to-data c.in-Data.bit c.in-Data.address m p ∙ ap (λ b. cond b (response m (body_at p.place m.bodies)) None) hears))
    ∙ ap (λ r. bytes_of (answer_to (frame_asked r) m p)) (sym c.in-Data.is)

pub returns-else-hears : goal.returns-else-hears
returns-else-hears g c =
    let m : Meter = c.args.script.now in
    let p : Position = c.args.position.now in
    let hears : hears_at m.address c.in-Data.address p ≡ false =
    ap (λ (x : Meter). hears_at x.address c.in-Data.address p) (sym c.script.view_is) ∙ sym c.hears.ensures ∙ c.if-hears.false in
    ap bytes_of (sym (answer_to-data c.in-Data.bit c.in-Data.address m p ∙ ap (λ b. cond b (response m (body_at p.place m.bodies)) None) hears))
    ∙ ap (λ r. bytes_of (answer_to (frame_asked r) m p)) (sym c.in-Data.is)
