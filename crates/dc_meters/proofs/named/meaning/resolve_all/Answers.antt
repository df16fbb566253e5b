use Rattle.std.proofs.Common.{rules, ◌≡◌, ◌++◌, ◌∙◌, inr, ℕ, List, [], ◌∷◌, length, arith, ap, subst, sym}
use Rattle.std.proofs.lemmas.List.{append-nil, append_assoc}
use Rattle.dc_address.specs.declared.identity.Identity.{Identity as Meter}
use Rattle.mbdc_change.specs.State.{State}
use Rattle.dc_meters.specs.Means.{AreMeant, IsFirstFault}
use Rattle.dc_meters.specs.declared.named.name.Named.{Named}
use Rattle.dc_meters.proofs.named.meaning.resolve_all.Goals as goal

none_left : (state : State) (names : List Named) → length names ≡ 0 → AreMeant state names []
none_left state [] none = tt
none_left state (name ∷ names) none = absurd (omega arith)

pub returns-clause-found : goal.returns-clause-found
returns-clause-found g c =
    let whole = c.names.invariant.meant [] (none_left c.args.house.now.state c.names.rest.now c.in_default.ensures.cases) in
    subst (λ (meters : List Meter). AreMeant c.args.house.now.state c.args.names.now meters) (append-nil c.names.meters.items) whole

pub names-preserved : goal.names-preserved
names-preserved g c =
    let state = c.args.house.now.state in
    let meter = c.in_ok-meter.meter in
    let found = c.in_ok-meter.ensures.found in
    let rest : c.names.rest.now ≡ c.in-Some.name.now ∷ c.in-Some.more.now = search rules in
    let items : c.push.new.self.items ≡ c.names.meters.items ++ meter ∷ [] = search rules in
    record {
      meant = λ more is.
          subst (λ (l : List Meter). AreMeant state c.args.names.now l) (sym (ap (λ (l : List Meter). l ++ more) items ∙ append_assoc c.names.meters.items (meter ∷ []) more))
          (c.names.invariant.meant (meter ∷ more) (subst (λ (l : List Named). AreMeant state l (meter ∷ more)) (sym rest) (found, is)));
      first = λ fault is. c.names.invariant.first fault (subst (λ (l : List Named). IsFirstFault state l fault) (sym rest) (inr (meter, found, is)));
    }
