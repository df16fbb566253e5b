use Rattle.std.proofs.Common.{◌≡◌, ◌∙◌, ℕ, List, [], ◌∷◌, Option, None, Err, ap, sym, rules}
use Rattle.dc_address.specs.declared.identity.Identity.{Identity}
use Rattle.dc_readout.proofs.Counting.{are_counted}
use Rattle.dc_readout.specs.Misses.{and_missed, misses_of}
use Rattle.mbdc_installer.specs.Scan.{identified, sender_at}
use Rattle.mbdc_installer.proofs.primary.identify.Goals as goal

pub returns-in_default : goal.returns-in_default
returns-in_default g c =
    let telegram = c.ask_address-asked.result.telegram in
    let missed : c.count.new.self ≡ misses_of (telegram ∷ []) =
    c.count.ensures ∙ ap (and_missed c.as_slice.result.now) c.none-misses.ensures ∙ are_counted [] c.as_slice.result.now
    ∙ ap (λ (bytes : List ℕ). misses_of (bytes ∷ [])) c.as_slice.ensures.bytes in
    let none : sender_at c.args.address telegram ≡ None = search rules in
    record {
      answer = c.ask_address-asked.result.answer;
      telegram = telegram;
      asked = c.ask_address-asked.ensures;
      result_is = ap Err missed ∙ ap (λ (meter : Option Identity). identified meter telegram) (sym none);
    }

pub returns : goal.returns
returns g c = record {
  answer = c.ask_address-asked.result.answer;
  telegram = c.ask_address-asked.result.telegram;
  asked = c.ask_address-asked.ensures;
  result_is = (search rules);
}
