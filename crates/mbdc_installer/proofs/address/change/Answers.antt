use Rattle.std.proofs.Common.{List, ℕ, subst, rules}
use Rattle.mbdc_installer.proofs.address.change.Goals as goal

pub returns-in_default : goal.returns-in_default
returns-in_default g c =
    let sent = subst (λ (frame : List ℕ). g.B.Bus.asks c.args.bus.now frame c.ask.result c.ask.new.self) c.write_long.ensures c.ask.ensures.asked in
    record {
      acknowledgement = c.ask.result;
      between = c.ask.new.self;
      sent = sent;
      answer = c.ask_address-asked.result.answer;
      telegram = c.ask_address-asked.result.telegram;
      asked = c.ask_address-asked.ensures;
      outcome_is = (search rules);
    }

pub returns-then-eq : goal.returns-then-eq
returns-then-eq g c =
    let sent = subst (λ (frame : List ℕ). g.B.Bus.asks c.args.bus.now frame c.ask.result c.ask.new.self) c.write_long.ensures c.ask.ensures.asked in
    record {
      acknowledgement = c.ask.result;
      between = c.ask.new.self;
      sent = sent;
      answer = c.ask_address-asked.result.answer;
      telegram = c.ask_address-asked.result.telegram;
      asked = c.ask_address-asked.ensures;
      outcome_is = (search rules);
    }

pub returns-else-eq : goal.returns-else-eq
returns-else-eq g c =
    let sent = subst (λ (frame : List ℕ). g.B.Bus.asks c.args.bus.now frame c.ask.result c.ask.new.self) c.write_long.ensures c.ask.ensures.asked in
    record {
      acknowledgement = c.ask.result;
      between = c.ask.new.self;
      sent = sent;
      answer = c.ask_address-asked.result.answer;
      telegram = c.ask_address-asked.result.telegram;
      asked = c.ask_address-asked.ensures;
      outcome_is = (search rules);
    }
