use Rattle.std.proofs.Common.{◌∙◌, Bool, ap, eq-eqb, rules, sym, tests, true}
use Rattle.std.specs.Prelude.{if◌then◌else◌}
use Rattle.std.specs.List.{list_all}
use Rattle.std.proofs.lemmas.Iterator.{YieldsList-from_slice}
use Rattle.std.proofs.lemmas.Iterator.Search.{all_from_yields_List}
use Rattle.mbdc_audit.specs.declared.house.Part as part_type
use Rattle.mbdc_audit.specs.Published.{is_part_user}
use Rattle.mbdc_audit.proofs.house.Window.is_own.Goals as goal

pub returns-then-self-span : goal.returns-then-self-span
returns-then-self-span g c =
    let xs = c.args.self.now.parts.items in
    let own = all_from_yields_List (λ (x : part_type.Part). is_part_user c.args.user x.user) _ _ c.all.result
    c.all.ensures.ran (YieldsList-from_slice xs cc) (λ x b q k. search (rules, tests)) in
    own ∙ sym (ap (λ (b : Bool). if b then list_all (λ (x : part_type.Part). is_part_user c.args.user x.user) xs else true) (eq-eqb _ _ c.if-self-span.true))
