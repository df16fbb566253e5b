use Rattle.std.proofs.Common.{◌≡◌, ◌&&◌, ◌∙◌, ap, rules, tests}
use Rattle.std.specs.Prelude.{Option, is_some, not}
use Rattle.std.specs.List.{list_any}
use Rattle.std.proofs.lemmas.Iterator.{YieldsList-from_slice}
use Rattle.std.proofs.lemmas.Iterator.Search.{any_from_yields_List}
use Rattle.dc_records.specs.Telegram.{Parsed}
use Rattle.mbdc_poll.specs.Confirming.{agree}
use Rattle.mbdc_poll.proofs.confirming.is_unconfirmed.Goals as goal

pub returns-in-Some : goal.returns-in-Some
returns-in-Some c =
    let any : c.any.result ≡ list_any (λ earlier. agree earlier c.args.answer.now) c.args.telegrams.now =
    any_from_yields_List (λ earlier. agree earlier c.args.answer.now) _ _ c.any.result c.any.ensures.ran
    (YieldsList-from_slice c.args.telegrams.now cc) (λ x b q k. search (rules, tests)) in
    ap not any
    ∙ ap (λ (sent : Option Parsed). is_some sent && not (list_any (λ earlier. agree earlier c.args.answer.now) c.args.telegrams.now))
    c.in-Some.ensures.sent
