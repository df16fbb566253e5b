use Rattle.std.proofs.Common.{◌<◌, length, refl, sym, ◌∙◌, ap, subst, arith}
use Rattle.std.proofs.lemmas.Grind.{common_steps}
use Rattle.dc_readout.specs.Answer.{max_parts}
use Rattle.dc_readout.specs.Summary.{asked_by}
use Rattle.dc_readout.specs.World.{World, Running}
use Rattle.dc_readout.proofs.Asked.{place_within}
use Rattle.dc_readout.proofs.world.world.World.exchange.Goals as goal

pub carry-reply-requires-clause-one_each : goal.carry-reply-requires-clause-one_each
carry-reply-requires-clause-one_each g c =
    ap length (c.deref_mut.ensures.value ∙ ap (λ (w : World). w.positions) c.self.view_is) ∙ c.requires.in_step.counted.0

pub carry-reply-requires-clause-within : goal.carry-reply-requires-clause-within
carry-reply-requires-clause-within g c =
    let runs = ap (λ (w : World). w.running) (sym c.self.view_is) ∙ sym c.take.ensures.value ∙ c.in-Some.is in
    let within = place_within c.args.scripts.now c.args.self.now c.in-Some.running c.requires.in_step runs in
    subst (λ (r : Running). r.meter < length c.args.scripts.now) (sym c.running.view_is) within

pub carry-reply-requires-clause-asks : goal.carry-reply-requires-clause-asks
carry-reply-requires-clause-asks g c =
    let runs = ap (λ (w : World). w.running) (sym c.self.view_is) ∙ sym c.take.ensures.value ∙ c.in-Some.is in
    record {
      world = c.args.self.now;
      running = c.in-Some.running;
      regular = c.requires.regular;
      agrees = c.requires.in_step.agrees c.in-Some.running runs;
      asks = ap (λ (r : Running). asked_by r.session) (sym c.running.view_is) ∙ sym c.in-Some-request_of.ensures.exact;
      left = subst (λ (r : Running). r.session.settled < max_parts) c.running.view_is (c.in-Some-request_of.ensures.left refl);
      positions_are = ap (λ (w : World). w.positions) (sym c.self.view_is) ∙ sym c.deref_mut.ensures.value;
      place_is = ap (λ (r : Running). r.meter) (sym c.running.view_is);
    }

pub returns-in_err-self-inside : goal.returns-in_err-self-inside
returns-in_err-self-inside g c = grind (arith, common_steps)

pub returns : goal.returns
returns g c = grind (arith, common_steps)
