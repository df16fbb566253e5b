use Rattle.std.proofs.Common.{◌++◌, sym, ap, ◌∙◌, Option, Some, map}
use Rattle.std.specs.Prelude.{nat_le}
use Rattle.mbdc_audit.specs.Evidence.{list_of}
use Rattle.mbdc_audit.specs.Kept.{know}
use Rattle.mbdc_audit.specs.declared.house.Value as value_type
use Rattle.mbdc_audit.proofs.Lasting.{decided_known}
use Rattle.mbdc_audit.proofs.Nears.{near_both, near_last, near_next}
use Rattle.mbdc_audit.proofs.curve.Curve.is_near.Goals as goal

pub returns : goal.returns
returns g c =
    let v = c.args.self.now in
    let e = decided_known c.args.moment v.values.items _ _ v.found v.counted c.deciding.ensures.last c.deciding.ensures.next in
    let both = e ∙ (ap (λ (o : Option value_type.Value). map know (list_of o) ++ map know (list_of c.deciding.result.1)) c.in-Some.is
    ∙ ap (λ (o : Option value_type.Value). map know (list_of (Some c.in-Some.last)) ++ map know (list_of o)) c.in-Some-next.is) in
    ap (λ n. nat_le n 172800) c.saturating_sub.ensures
    ∙ sym (near_both c.args.moment v.values.items c.in-Some.last c.in-Some-next.next both)

pub returns-in_default : goal.returns-in_default
returns-in_default g c =
    let v = c.args.self.now in
    let e = decided_known c.args.moment v.values.items _ _ v.found v.counted c.deciding.ensures.last c.deciding.ensures.next in
    sym (near_last c.args.moment v.values.items c.deciding.result.1
    (e ∙ ap (λ (o : Option value_type.Value). map know (list_of o) ++ map know (list_of c.deciding.result.1)) c.in_default.is))

pub returns-in_default-next : goal.returns-in_default-next
returns-in_default-next g c =
    let v = c.args.self.now in
    let e = decided_known c.args.moment v.values.items _ _ v.found v.counted c.deciding.ensures.last c.deciding.ensures.next in
    sym (near_next c.args.moment v.values.items c.in-Some.last
    (e ∙ (ap (λ (o : Option value_type.Value). map know (list_of o) ++ map know (list_of c.deciding.result.1)) c.in-Some.is
    ∙ ap (λ (o : Option value_type.Value). map know (list_of (Some c.in-Some.last)) ++ map know (list_of o)) c.in_default-next.is)))
