use Rattle.std.proofs.Common.{◌∙◌, arith, map}
use Rattle.mbdc_json.proofs.Bodies.{no_bodies, one_more, all_left, all_before}
use Rattle.mbdc_json.proofs.journal.kept.all_bodies.Goals as goal

pub returns-in-None : goal.returns-in-None
returns-in-None g c =
    no_bodies (λ b. b.items) (map (λ b. b.items) c.items.bodies.items) c.args.items.now c.items.item-index c.item-item.result c.in_ok-body.field-0
    (omega (arith, c.items-test.true)) c.item-item.is c.in_ok-body.ensures c.in-None.is
    ∙ c.items.invariant

pub items-preserved : goal.items-preserved
items-preserved g c =
    one_more (λ b. b.items) c.items.bodies.items c.push.new.self.items c.in-Some.body c.args.items.now c.items.item-index c.item-item.result c.in_ok-body.field-0
    c.in_ok-push-in-Some.ensures.items (omega (arith, c.items-test.true)) c.item-item.is c.in_ok-body.ensures c.in-Some.is
    ∙ c.items.invariant

pub returns-in_err-body : goal.returns-in_err-body
returns-in_err-body g c = grind (arith, all_left, all_before)

pub returns-in_err-push-in-Some : goal.returns-in_err-push-in-Some
returns-in_err-push-in-Some g c = grind (arith, all_left, all_before)
