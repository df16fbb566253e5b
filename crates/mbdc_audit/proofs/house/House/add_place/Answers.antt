use Rattle.std.proofs.Common.{◌≡◌, ◌+◌, ◌++◌, ◌∷◌, [], ℕ, List, length, map, sym, ap, subst, ◌∙◌, arith}
use Rattle.std.proofs.lemmas.List.{length-map, map_push}
use Rattle.std.proofs.lemmas.Grind.{common_steps}
use Rattle.mbdc_audit.specs.House.{Place, Run, Window}
use Rattle.mbdc_audit.specs.Reader.{AddsNothing}
use Rattle.mbdc_audit.specs.File.{Adds, first_named}
use Rattle.mbdc_audit.specs.View.{house_of, place_of, run_of, window_of}
use Rattle.mbdc_audit.proofs.Added.{adds_place}
use Rattle.mbdc_audit.proofs.Classes.{no_memory}
use Rattle.mbdc_audit.proofs.Tests.{below_by, same_by}
use Rattle.mbdc_audit.proofs.house.House.add_place.Goals as goal

pub returns-clause-ok : goal.returns-clause-ok
returns-clause-ok g c =
    let h = house_of c.args.self.now in
    let l = c.args.line.now in
    let v = c.args.self.now.places in
    let p : Place = record { flat = c.field-2.result.now; used = c.in_ok-used.used; weight = c.number-2.result; runs = []; windows = [] } in
    let long : c.len-count.result ≡ length h.places = c.len-count.ensures ∙ (v.ok.0 ∙ sym (length-map v.items place_of)) in
    let next : c.number.result ≡ c.len-count.result + 1 = same_by c.number.result (c.len-count.result + 1) c.in_ok-only_if.ensures.ok in
    let bare : place_of (record { line = c.args.self.now.lines; flat = c.field-2.result; used = c.in_ok-used.used; weight = c.number-2.result; runs = c.new.result; windows = c.new-2.result }) ≡ p =
    ap (λ (rs : List Run). record p { runs = rs; windows = map window_of c.new-2.result.items }) (ap (map run_of) c.new.ensures.items)
    ∙ ap (λ (ws : List Window). record p { windows = ws }) (ap (map window_of) c.new-2.ensures.items) in
    let pushed : map place_of c.push.new.self.items ≡ h.places ++ p ∷ [] =
    ap (map place_of) c.in_ok-push.ensures.items ∙ (map_push place_of v.items _ ∙ ap (λ (q : Place). h.places ++ q ∷ []) bare) in
    subst (λ (ps : List Place). Adds h l (record h { places = ps })) (sym pushed)
    (adds_place h l c.field-2.result.now c.in_ok-used.used c.number-2.result c.requires
    (sym c.number.ensures ∙ (next ∙ ap (λ (n : ℕ). n + 1) long)) (sym c.field-2.ensures)
    (ap (first_named h) (sym c.field.ensures) ∙ c.in_ok-used.ensures.ok) (sym c.number-2.ensures)
    (below_by c.len-count.result (length h.places) 16384 c.in_ok-only_if-2.ensures.ok long))

pub returns-in_err-only_if-clause-ok : goal.returns-in_err-only_if-clause-ok
returns-in_err-only_if-clause-ok g c = grind (arith, common_steps)

pub returns-in_err-only_if-clause-err : goal.returns-in_err-only_if-clause-err
returns-in_err-only_if-clause-err g c = grind (arith, common_steps)

pub returns-in_err-only_if-2-clause-ok : goal.returns-in_err-only_if-2-clause-ok
returns-in_err-only_if-2-clause-ok g c = grind (arith, common_steps)

pub returns-in_err-only_if-2-clause-err : goal.returns-in_err-only_if-2-clause-err
returns-in_err-only_if-2-clause-err g c = grind (arith, common_steps)

pub returns-in_err-used-clause-ok : goal.returns-in_err-used-clause-ok
returns-in_err-used-clause-ok g c = grind (arith, common_steps)

pub returns-in_err-used-clause-err : goal.returns-in_err-used-clause-err
returns-in_err-used-clause-err g c = grind (arith, common_steps)

pub returns-in_err-push-clause-ok : goal.returns-in_err-push-clause-ok
returns-in_err-push-clause-ok g c = grind (arith, common_steps)

pub returns-in_err-push-clause-err : goal.returns-in_err-push-clause-err
returns-in_err-push-clause-err g c =
    no_memory c.from_residual-in_err-push.result (AddsNothing (house_of c.args.self.now) c.args.line.now) c.from_residual-in_err-push.ensures.1
