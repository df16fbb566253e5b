use Rattle.std.proofs.Common.{◌≡◌, true, false, cond, Some, sym, ◌∙◌, ap}
use Rattle.dc_address.specs.Mask.{mask_of, matches}
use Rattle.dc_readout.specs.Meter.{Meter, Position, at_reset, at_selection, gone_on, hears_at, moved_by}
use Rattle.dc_readout.specs.Request.{frame_asked}
use Rattle.dc_readout.proofs.Exchanges.{moved_by-selection}
use Rattle.dc_readout.proofs.Moves.{moved_by-data}
use Rattle.dc_readout.proofs.Turns.{moved_by-reset}
use Rattle.dc_readout.proofs.world.position.Position.see.Goals as goal

pub returns-in-Reset : goal.returns-in-Reset
returns-in-Reset g c =
    let m : Meter = c.args.script.now in
    let p : Position = c.args.self.now in
    c.reset.ensures ∙ ap (λ (x : Meter). at_reset x.address c.in-Reset.address p) c.script.view_is
    ∙ sym (moved_by-reset c.in-Reset.address m p) ∙ ap (λ r. moved_by (frame_asked r) m p) (sym c.in-Reset.is)

pub returns-in-Select : goal.returns-in-Select
returns-in-Select g c =
    let m : Meter = c.args.script.now in
    let p : Position = c.args.self.now in
    c.select.ensures
    ∙ ap (λ b. at_selection b p) (c.matches.ensures ∙ ap (λ mask. matches mask c.script.inside.identity) c.of.ensures
    ∙ ap (λ (x : Meter). matches (mask_of c.in-Select.meter) x.identity) c.script.view_is)
    ∙ sym (moved_by-selection c.in-Select.meter m p) ∙ ap (λ r. moved_by (frame_asked r) m p) (sym c.in-Select.is)

pub returns-then-hears : goal.returns-then-hears
returns-then-hears g c =
    let m : Meter = c.args.script.now in
    let p : Position = c.args.self.now in
    let hears : hears_at m.address c.in-Data.address p ≡ true =
    ap (λ (x : Meter). hears_at x.address c.in-Data.address p) (sym c.script.view_is) ∙ sym c.hears.ensures ∙ c.if-hears.true in
    c.go_on.ensures
    ∙ sym (moved_by-data c.in-Data.bit c.in-Data.address m p ∙ ap (λ b. cond b (gone_on (Some c.in-Data.bit) p) p) hears)
    ∙ ap (λ r. moved_by (frame_asked r) m p) (sym c.in-Data.is)

pub returns-else-hears : goal.returns-else-hears
returns-else-hears g c =
    let m : Meter = c.args.script.now in
    let p : Position = c.args.self.now in
    let hears : hears_at m.address c.in-Data.address p ≡ false =
    ap (λ (x : Meter). hears_at x.address c.in-Data.address p) (sym c.script.view_is) ∙ sym c.hears.ensures ∙ c.if-hears.false in
    sym (moved_by-data c.in-Data.bit c.in-Data.address m p ∙ ap (λ b. cond b (gone_on (Some c.in-Data.bit) p) p) hears)
    ∙ ap (λ r. moved_by (frame_asked r) m p) (sym c.in-Data.is)
