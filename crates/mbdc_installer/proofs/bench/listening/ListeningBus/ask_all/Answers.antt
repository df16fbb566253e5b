use Rattle.std.proofs.Common.{◌≡◌, rules, sym, subst}
use Rattle.mbdc_installer.specs.Hearing as hearing
use Rattle.mbdc_installer.specs.Listening.{left_with}
use Rattle.mbdc_installer.specs.declared.hearing.Wildcard.{Wildcard}
use Rattle.mbdc_installer.proofs.bench.listening.ListeningBus.ask_all.Goals as goal

pub returns-clause-asked : goal.returns-clause-asked
returns-clause-asked g c =
    let P : g.row.B.Denot → Wildcard → Type 0 = λ bus wildcard.
    hearing.Hears g.B.Bus.lost g.B.Bus.asks_all c.args.request.now c.args.self.now.bus c.args.self.now.wildcard c.ask-answer.result bus wildcard in
    let heard = subst (λ bus. P bus c.heard.new.self.wildcard) (sym c.heard.ensures.bus)
    (subst (λ wildcard. P c.ask-answer.new.bus wildcard) (sym c.heard.ensures.wildcard) c.ask-answer.ensures.heard) in
    let left = subst (λ (wildcard : Wildcard). c.heard.new.self.left ≡ left_with wildcard.others.items c.ask-answer.result c.args.self.now.left) (sym c.heard.ensures.wildcard)
    c.heard.ensures.left in
    record {
      untouched = (search rules);
      silence = (search rules);
      asked = λ goes_on. (c.ask-answer.result, heard, left, c.heard.ensures.answer);
    }
