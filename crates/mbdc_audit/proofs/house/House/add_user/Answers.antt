use Rattle.std.proofs.Common.{◌≡◌, ◌++◌, ◌∷◌, [], List, length, map, sym, ap, subst, ◌∙◌}
use Rattle.std.proofs.lemmas.List.{length-map, map_push}
use Rattle.mbdc_audit.specs.House.{User}
use Rattle.mbdc_audit.specs.File.{Adds}
use Rattle.mbdc_audit.specs.View.{house_of, user_of}
use Rattle.mbdc_audit.proofs.Added.{adds_user}
use Rattle.mbdc_audit.proofs.Tests.{below_by}
use Rattle.mbdc_audit.proofs.house.House.add_user.Goals as goal

pub returns-clause-ok : goal.returns-clause-ok
returns-clause-ok g c =
    let h = house_of c.args.self.now in
    let l = c.args.line.now in
    let v = c.args.self.now.users in
    let long : c.len.result ≡ length h.users = c.len.ensures ∙ (v.ok.0 ∙ sym (length-map v.items user_of)) in
    let u : User = user_of (record { line = c.args.self.now.lines; number = c.number-number.result; flat = c.field.result; area = c.maybe.result }) in
    let pushed : map user_of c.push.new.self.items ≡ h.users ++ u ∷ [] =
    ap (map user_of) c.in_ok-push.ensures.items ∙ map_push user_of v.items _ in
    subst (λ (us : List User). Adds h l (record h { users = us })) (sym pushed)
    (adds_user h l u c.requires (sym c.number-number.ensures) (sym c.field.ensures) (sym c.maybe.ensures)
    (c.is_next_user.ensures.0 c.in_ok-only_if.ensures.ok) (below_by c.len.result (length h.users) 4096 c.in_ok-only_if-2.ensures.ok long))
