-- The changes of an order.
use Rattle.std.proofs.Common.{◌≡◌, ◌∙◌, [], ◌∷◌, append-nil, refl, sym}
use Rattle.std.proofs.lemmas.List.Elements.{All-cons, All-nil}
use Rattle.mbdc_change.specs.Accepts.{Accepts}
use Rattle.mbdc_change.specs.Encoding.{change_bytes}
use Rattle.mbdc_change.specs.State.{Held}
use Rattle.mbdc_change.specs.Valid.{IsChange}
use Rattle.mbdc_change.specs.declared.change.Change.{Change}
use Rattle.mbdc_fit.specs.Order.{command_for, encoded_by}
use Rattle.mbdc_fit.specs.Plan.{IsOneGroup, Outcome, numbered}
use Rattle.mbdc_fit.specs.declared.list.order.Order.{Order}
use Rattle.mbdc_fit.specs.declared.list.verdict.Verdict.{Verdict}
use Rattle.mbdc_fit.specs.declared.list.verdict.Verdict.TheVariants.{Stands, Refused, Spent, New}

-- no bytes spell no changes
none : (house : Held) (outcome : Outcome) → outcome.payload ≡ [] → IsOneGroup house outcome
none house outcome bytes = record { changes = []; spells = record { spelled = bytes; are_changes = All-nil IsChange }; accepted = tt }

pub group_for : (order : Order) (house : Held) (verdict : Verdict) (outcome : Outcome)
    → (verdict ≡ New → IsChange (numbered (command_for order) house.state) × Accepts house.budget (numbered (command_for order) house.state) house.state)
    → outcome.payload ≡ encoded_by verdict order house.state → IsOneGroup house outcome
group_for order house New outcome fine bytes =
    let change : Change = numbered (command_for order) house.state in
    record {
      changes = change ∷ [];
      spells = record { spelled = bytes ∙ sym (append-nil (change_bytes change)); are_changes = All-cons IsChange change [] (fine refl).0 (All-nil IsChange) };
      accepted = ((fine refl).1, tt);
    }
group_for order house Stands outcome fine bytes = none house outcome bytes
group_for order house Spent outcome fine bytes = none house outcome bytes
group_for order house (Refused fault) outcome fine bytes = none house outcome bytes
