use Rattle.std.proofs.Common.{◌≡◌, ◌≢◌, ℕ, Bool, true, false, List, [], sym, subst, rules}
use Rattle.mbdc_installer.specs.Address.{IsChanged, IsFree, IsReached, is_nobody, is_one, is_taken, is_unclear, place_of}
use Rattle.mbdc_installer.specs.Scan.{IsCalled}
use Rattle.mbdc_installer.proofs.address.set_address.Given.{Over}
use Rattle.mbdc_installer.proofs.address.set_address.Goals.{After-call-asked}
use Rattle.mbdc_installer.proofs.address.set_address.Goals as goal

-- the new address is free
free : (g : Over) (c : After-call-asked g) → c.is_free.result ≡ true → IsFree g.B.Bus.asks_all c.args.to c.args.bus.now true c.is_free.new.bus
free g c is = subst (λ (b : Bool). IsFree g.B.Bus.asks_all c.args.to c.args.bus.now b c.is_free.new.bus) is c.is_free.ensures

-- the meter is called as the target says
reached : (g : Over) (c : After-call-asked g) → IsReached g.B.Bus.asks_all c.args.target.now c.is_free.new.bus c.call-asked.result.answer c.call-asked.result.telegram c.call-asked.new.bus
reached g c =
    let Calls : List ℕ → ℕ → Type 0 = λ frame place. IsCalled g.B.Bus.asks_all frame place c.is_free.new.bus c.call-asked.result.answer c.call-asked.result.telegram c.call-asked.new.bus in
    subst (λ (frame : List ℕ). Calls frame (place_of c.args.target.now)) c.call_to-request.ensures.frame
    (subst (λ (place : ℕ). Calls c.call_to-request.result.0 place) c.call_to-request.ensures.place c.call-asked.ensures)

pub returns-then-not-is_free : goal.returns-then-not-is_free
returns-then-not-is_free g c =
    let no : c.is_free.result ≡ false = search rules in
    is_taken (subst (λ (b : Bool). IsFree g.B.Bus.asks_all c.args.to c.args.bus.now b c.is_free.new.bus) no c.is_free.ensures)

pub returns-then-is_empty : goal.returns-then-is_empty
returns-then-is_empty g c =
    let from = (goal.at.returns-then-is_empty g c).After-call-asked in
    let none : c.call-asked.result.answer ≡ [] = search rules in
    is_nobody c.call-asked.result.telegram (free g from (search rules))
    (subst (λ (bytes : List ℕ). IsReached g.B.Bus.asks_all c.args.target.now c.is_free.new.bus bytes c.call-asked.result.telegram c.call-asked.new.bus) none (reached g from))

pub returns-in-Some : goal.returns-in-Some
returns-in-Some g c =
    let from = (goal.at.returns-in-Some g c).After-call-asked in
    is_one c.call-asked.result.answer c.call-asked.result.telegram (free g from (search rules)) (reached g from) (sym c.in-Some.ensures)
    (subst (λ (place : ℕ). IsChanged g.B.Bus.asks g.B.Bus.asks_all place c.args.to c.in-Some.meter c.call-asked.new.bus c.change.result c.change.new.bus) c.call_to-request.ensures.place c.change.ensures)

pub returns-in-None : goal.returns-in-None
returns-in-None g c =
    let from = (goal.at.returns-in-None g c).After-call-asked in
    let some : c.call-asked.result.answer ≢ [] = search rules in
    is_unclear c.call-asked.result.answer c.call-asked.result.telegram (free g from (search rules)) (reached g from) some (sym c.in-None.ensures)
