use Rattle.std.proofs.Common.{◌↔◌, inl, inr, refl, rules, tests, sym, ap, subst, ◌∙◌}
use Rattle.std.proofs.lemmas.Iterator.{YieldsList-from_slice}
use Rattle.std.proofs.lemmas.Iterator.Search.{any_from_yields_List}
use Rattle.std.specs.Str.{bytes_eq}
use Rattle.mbdc_audit.specs.declared.house.User as user_type
use Rattle.std.specs.Prelude.{IsTrue, is_some}
use Rattle.std.proofs.lemmas.Bool.{false≢true}
use Rattle.mbdc_audit.specs.declared.line.Word.{Word}
use Rattle.mbdc_audit.specs.Published.{IsWho}
use Rattle.mbdc_audit.specs.View.{house_of, key_of, place_of, user_of}
use Rattle.mbdc_audit.proofs.Asked.{who_user}
use Rattle.mbdc_audit.proofs.Facts.{any_flat, flat_any, user_found}
use Rattle.mbdc_audit.proofs.house.House.has_holder.Goals as goal

pub returns-then-any : goal.returns-then-any
returns-then-any g c =
    let h = house_of c.args.self.now in
    let k = key_of c.args.number.now in
    let us = c.args.self.now.users.items in
    let lived = any_from_yields_List (λ (u : user_type.User). bytes_eq u.flat.now k.flat) _ _ c.any.result c.any.ensures.ran
    (YieldsList-from_slice us cc) (λ x b q k. search (rules, tests)) in
    subst (λ (w : Word). IsTrue c.any.result ↔ IsWho w h k) (sym c.in-OfFlat.is) (
      λ e. inl (flat_any user_of (λ u. u.flat.now) (λ u. u.flat) (λ u. refl) us k.flat (sym lived ∙ e)),
      λ who. c.if-any.true,
    )

pub returns-else-any : goal.returns-else-any
returns-else-any g c =
    let h = house_of c.args.self.now in
    let k = key_of c.args.number.now in
    let us = c.args.self.now.users.items in
    let ps = c.args.self.now.places.items in
    let lived = any_from_yields_List (λ (u : user_type.User). bytes_eq u.flat.now k.flat) _ _ c.any.result c.any.ensures.ran
    (YieldsList-from_slice us cc) (λ x b q k. search (rules, tests)) in
    let placed = any_from_yields_List (λ p. bytes_eq p.flat.now k.flat) _ _ c.any-else-any.result c.any-else-any.ensures.ran
    (YieldsList-from_slice ps cc) (λ x b q k. search (rules, tests)) in
    subst (λ (w : Word). IsTrue c.any-else-any.result ↔ IsWho w h k) (sym c.in-OfFlat.is) (
      λ e. inr (flat_any place_of (λ p. p.flat.now) (λ p. p.flat) (λ p. refl) ps k.flat (sym placed ∙ e)),
      λ who. elim who [
        | inl it ↦ absurd (false≢true (sym c.if-any.false ∙ (lived
            ∙ any_flat user_of (λ u. u.flat.now) (λ u. u.flat) (λ u. refl) us k.flat it)))
        | inr it ↦ placed ∙ any_flat place_of (λ p. p.flat.now) (λ p. p.flat) (λ p. refl) ps k.flat it
      ],
    )

pub returns-in_default : goal.returns-in_default
returns-in_default g c =
    let h = house_of c.args.self.now in
    let k = key_of c.args.number.now in
    let who = who_user k.word h k c.requires.word c.in_default.not-OfFlat c.in_default.not-OfHouse in
    let found = c.is_some.ensures ∙ (ap is_some c.user.ensures ∙ sym (user_found c.args.self.now.users.items k.user)) in
    (λ e. who.0 (sym found ∙ e), λ it. found ∙ who.1 it)
