use Rattle.std.proofs.Common.{◌<◌, ◌↔◌, List, map, true, subst}
use Rattle.std.specs.Prelude.{All, IsTrue, nat_lt}
use Rattle.std.proofs.lemmas.Bool.{lt-ltb, ltb-true}
use Rattle.mbdc_audit.specs.Amount.{last_of}
use Rattle.mbdc_audit.specs.House.{User}
use Rattle.mbdc_audit.specs.declared.house.User as user_type
use Rattle.mbdc_audit.specs.View.{user_of}
use Rattle.mbdc_audit.proofs.Lasts.{last_passes, none_passes}
use Rattle.mbdc_audit.proofs.house.House.is_next_user.Goals as goal

pub returns-in-Some : goal.returns-in-Some
returns-in-Some g c =
    let x = c.in-Some.last.now in
    let n = c.args.number in
    subst (λ (us : List user_type.User). IsTrue (nat_lt x.number n) ↔ All (λ (u : User). u.number < n) (last_of (map user_of us))) c.deref.ensures.value
    (last_passes user_of (λ (u : User). u.number < n) c.deref.result.now x (nat_lt x.number n) c.in-Some.ensures.item.3.0
    c.in-Some.ensures.item.1 (ltb-true x.number n) (lt-ltb x.number n))

pub returns-in-None : goal.returns-in-None
returns-in-None g c =
    let n = c.args.number in
    subst (λ (us : List user_type.User). IsTrue true ↔ All (λ (u : User). u.number < n) (last_of (map user_of us))) c.deref.ensures.value
    (none_passes user_of (λ (u : User). u.number < n) c.deref.result.now c.in-None.ensures.item.3)
