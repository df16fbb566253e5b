use Rattle.std.proofs.Common.{◌≡◌, ◌∙◌, rules, tests}
use Rattle.std.specs.Prelude.{bytes_eq}
use Rattle.std.proofs.lemmas.Iterator.{YieldsList-from_slice}
use Rattle.std.proofs.lemmas.Iterator.Search.{any_from_yields_List}
use Rattle.mbdc_poll.specs.Remembering.{has}
use Rattle.mbdc_poll.proofs.remembering.is_copy.Goals as goal

pub returns-in_default : goal.returns-in_default
returns-in_default c =
    let any : c.any.result ≡ has c.args.telegrams.now c.args.telegram.now =
    any_from_yields_List (λ earlier. bytes_eq earlier c.args.telegram.now) _ _ c.any.result c.any.ensures.ran
    (YieldsList-from_slice c.args.telegrams.now cc) (λ x b q k. search (rules, tests)) in
    any ∙ search (rules, tests)
