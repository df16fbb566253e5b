use Rattle.std.proofs.Common.{◌≡◌, ◌<◌, ◌+◌, ◌-◌, ℕ, true, false, refl, sym, subst, arith, rules}
use Rattle.dc_linkframe.specs.Control.{request_to, selected}
use Rattle.dc_linkframe.specs.Frame.{spelling}
use Rattle.dc_readout.specs.Misses.{and_missed, is_silent}
use Rattle.mbdc_bus.specs.Windows.{Reads}
use Rattle.mbdc_installer.proofs.Numbers.{collision, ends, one, silence}
use Rattle.mbdc_installer.specs.Number.{Tries, selection_to}
use Rattle.mbdc_installer.specs.declared.number.Numbered.TheVariants.{One, Shared, Nobody}
use Rattle.mbdc_installer.proofs.number.find_number.Goals as goal

pub tries-preserved-then-is_empty : goal.tries-preserved-then-is_empty
tries-preserved-then-is_empty g c = λ found new more.
    let some : 0 < 3 - c.tries.counter = omega (arith, c.tries-test.true) in
    let fewer : 3 - (c.tries.counter + 1) ≡ 3 - c.tries.counter - 1 = omega arith in
    let asked : g.B.Bus.asks_all c.tries.bus (spelling (selection_to c.args.digits.now)) c.ask_all-answer.result c.ask_all-answer.new.self = search rules in
    let heard : true ≡ is_silent c.ask_all-answer.result = search rules in
    let counted : c.count.new.self ≡ and_missed c.ask_all-answer.result c.tries.misses = search rules in
    c.tries.invariant found new (silence g.B.Bus.asks_all c.args.digits.now (3 - c.tries.counter) c.tries.collided c.tries.misses c.count.new.self c.tries.bus c.ask_all-answer.new.self new found
    c.ask_all-answer.result true some heard refl asked counted
    (subst (λ (n : ℕ). Tries g.B.Bus.asks_all c.args.digits.now n false c.count.new.self c.ask_all-answer.new.self found new) fewer more))

pub tries-preserved : goal.tries-preserved
tries-preserved g c = λ found new more.
    let some : 0 < 3 - c.tries.counter = omega (arith, c.tries-test.true) in
    let fewer : 3 - (c.tries.counter + 1) ≡ 3 - c.tries.counter - 1 = omega arith in
    let asked : g.B.Bus.asks_all c.tries.bus (spelling (selection_to c.args.digits.now)) c.ask_all-answer.result c.ask_all-answer.new.self = search rules in
    let read : Reads g.B.Bus.asks_all (spelling (request_to true selected)) c.ask_all-answer.new.self c.read_twice-telegram.result c.read_twice-telegram.new.bus = search rules in
    let heard : false ≡ is_silent c.ask_all-answer.result = search rules in
    let counted : c.count-in-tries.new.self ≡ and_missed c.read_twice-telegram.result c.tries.misses = search rules in
    c.tries.invariant found new (collision g.B.Bus.asks_all c.args.digits.now (3 - c.tries.counter) c.tries.collided _ c.tries.misses c.count-in-tries.new.self
    c.tries.bus c.ask_all-answer.new.self c.read_twice-telegram.new.bus new found c.ask_all-answer.result c.read_twice-telegram.result false some heard refl
    asked read (search rules) (search rules) counted _ fewer more)

pub returns-in-Some : goal.returns-in-Some
returns-in-Some g c =
    let some : 0 < 3 - c.tries.counter = omega (arith, c.tries-test.true) in
    let asked : g.B.Bus.asks_all c.tries.bus (spelling (selection_to c.args.digits.now)) c.ask_all-answer.result c.ask_all-answer.new.self = search rules in
    let read : Reads g.B.Bus.asks_all (spelling (request_to true selected)) c.ask_all-answer.new.self c.read_twice-telegram.result c.read_twice-telegram.new.bus = search rules in
    let heard : false ≡ is_silent c.ask_all-answer.result = search rules in
    c.tries.invariant (One c.in-Some.meter) c.read_twice-telegram.new.bus (one g.B.Bus.asks_all c.args.digits.now (3 - c.tries.counter) c.tries.collided c.tries.misses c.tries.bus
    c.ask_all-answer.new.self c.read_twice-telegram.new.bus c.in-Some.meter c.ask_all-answer.result c.read_twice-telegram.result false some heard refl
    asked read (sym c.in-Some.ensures))

pub returns-then-collided-2 : goal.returns-then-collided-2
returns-then-collided-2 g c =
    let none : 3 - c.tries.counter ≡ 0 = omega (arith, c.tries-test.false) in
    c.tries.invariant (Shared c.tries.misses) c.tries.bus
    (ends g.B.Bus.asks_all c.args.digits.now (3 - c.tries.counter) c.tries.collided c.tries.misses c.tries.bus (Shared c.tries.misses) none (search rules))

pub returns-else-collided-2 : goal.returns-else-collided-2
returns-else-collided-2 g c =
    let none : 3 - c.tries.counter ≡ 0 = omega (arith, c.tries-test.false) in
    c.tries.invariant (Nobody c.tries.misses) c.tries.bus
    (ends g.B.Bus.asks_all c.args.digits.now (3 - c.tries.counter) c.tries.collided c.tries.misses c.tries.bus (Nobody c.tries.misses) none (search rules))
