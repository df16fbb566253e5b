use Rattle.std.proofs.Common.{take, sym, ◌∙◌, ap, subst}
use Rattle.std.specs.List.{AllByRecursion}
use Rattle.std.proofs.lemmas.List.{take_all}
use Rattle.dc_readout.specs.World.{World, IsWhole, world_after}
use Rattle.dc_readout.specs.InStep.{IsRegularWorld}
use Rattle.dc_readout.proofs.Worlds.{every_world_is_regular, step_on, held_is_whole}
use Rattle.dc_readout.proofs.world.lives.play.Goals as goal

pub step-requires-clause-in_step : goal.step-requires-clause-in_step
step-requires-clause-in_step g c = subst (IsRegularWorld c.args.scripts.now) (sym c.loop-i.invariant) (every_world_is_regular c.args.scripts.now c.requires (take c.loop-i.i c.args.events.now))

pub loop-i-preserved : goal.loop-i-preserved
loop-i-preserved g c =
    step_on c.args.scripts.now c.args.events.now c.loop-i.i _ c.loop-i.world c.step.new.self c.loop-i-test.true c.loop-i.invariant c.in_ok-step.ensures

pub returns : goal.returns
returns g c =
    let scripts = c.args.scripts.now in
    let events = c.args.events.now in
    let exact = c.into_held.ensures ∙ ap (λ (w : World). w.held) (c.loop-i.invariant ∙ ap (world_after scripts) (take_all c.loop-i.i events c.loop-i-test.false)) in
    record { exact = exact; whole = subst (AllByRecursion (IsWhole scripts)) (sym exact) (held_is_whole scripts c.requires events) }
