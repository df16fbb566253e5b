use Rattle.std.proofs.Common.{◌≡◌, ◌==◌, ◌&&◌, ◌∙◌, Bool, refl, rules, sym, tests, true, false, arith}
use Rattle.std.specs.Str.{bytes_eq}
use Rattle.std.proofs.lemmas.Iterator.{YieldsList-from_slice}
use Rattle.std.proofs.lemmas.Iterator.Search.{any_from_yields_List}
use Rattle.std.proofs.lemmas.Grind.{common_steps}
use Rattle.mbdc_audit.specs.declared.house.Window as window_type
use Rattle.mbdc_audit.proofs.house.Place.is_own.Goals as goal

both : (a b l : Bool) → true ≡ (a && b) → l ≡ (a && (b && l))
both true true l e = refl
both true false l e = absurd cc
both false b l e = absurd cc

pub returns-then-eq : goal.returns-then-eq
returns-then-eq g c =
    let p = c.args.self.now in
    let has = any_from_yields_List (λ (w : window_type.Window _). w.span == c.args.span) _ _ c.any-has_window.result
    c.any-has_window.ensures.ran (YieldsList-from_slice p.windows.items cc) (λ x b q k. search (rules, tests)) in
    let own : c.if-self-used.value ≡ ((p.used == c.args.used) && bytes_eq c.args.flat.now p.flat.now) = search (rules, tests) in
    has ∙ both _ _ _ (sym c.if-eq.true ∙ own)

pub returns-else-eq : goal.returns-else-eq
returns-else-eq g c = grind (arith, common_steps)
