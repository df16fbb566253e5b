use Rattle.std.proofs.Common.{◌≡◌, ◌≢◌, ℕ, List, [], subst, rules}
use Rattle.mbdc_bus.specs.Windows.{Insists, most_tries}
use Rattle.dc_linkframe.specs.Control.{reset_to}
use Rattle.dc_linkframe.specs.Frame.{spelling}
use Rattle.mbdc_installer.specs.Address.{answers_reset, is_requested}
use Rattle.mbdc_installer.specs.Scan.{is_none}
use Rattle.mbdc_installer.proofs.address.is_free.Goals as goal

pub returns-then-not-is_empty : goal.returns-then-not-is_empty
returns-then-not-is_empty g c =
    let some : c.insist-answer.result ≢ [] = search rules in
    answers_reset c.insist-answer.result some
    (subst (λ (frame : List ℕ). Insists g.B.Bus.asks_all frame most_tries c.args.bus.now c.insist-answer.result c.insist-answer.new.bus) c.write_reset.ensures c.insist-answer.ensures.asked)

pub returns : goal.returns
returns g c =
    let none : c.insist-answer.result ≡ [] = search rules in
    let silent : c.is_empty-2.result ≡ is_none c.ask_data-telegram.result = search rules in
    let asked = subst (λ (frame : List ℕ). Insists g.B.Bus.asks_all frame most_tries c.args.bus.now c.insist-answer.result c.insist-answer.new.bus) c.write_reset.ensures c.insist-answer.ensures.asked in
    is_requested c.ask_data-telegram.result
    (subst (λ (bytes : List ℕ). Insists g.B.Bus.asks_all (spelling (reset_to c.args.address)) most_tries c.args.bus.now bytes c.insist-answer.new.bus) none asked)
    c.ask_data-telegram.ensures silent
