use Rattle.std.proofs.Common.{◌≡◌, ◌<◌, ◌+◌, ◌++◌, ◌∷◌, [], ℕ, List, length, map, refl, sym, ap, subst, ◌∙◌, arith, rules}
use Rattle.std.proofs.lemmas.List.{length-map, map_push}
use Rattle.std.proofs.lemmas.Grind.{common_steps}
use Rattle.mbdc_audit.specs.Amount.{last_of}
use Rattle.mbdc_audit.specs.File.{IsVib, Adds}
use Rattle.mbdc_audit.specs.House.{Place, Run}
use Rattle.mbdc_audit.specs.Reader.{AddsNothing}
use Rattle.mbdc_audit.specs.View.{house_of, place_of, run_of}
use Rattle.mbdc_audit.proofs.Added.{adds_run}
use Rattle.mbdc_audit.proofs.Classes.{at_fault, no_run}
use Rattle.mbdc_audit.proofs.Lasts.{any_one, found_last, in_last_set, last_is, one_any}
use Rattle.mbdc_audit.proofs.Tests.{below_by, not_same, same_by}
use Rattle.mbdc_audit.proofs.house.House.add_meter.Goals as goal

pub returns-in_err-only_if-clause-err : goal.returns-in_err-only_if-clause-err
returns-in_err-only_if-clause-err g c =
    let h = house_of c.args.self.now in
    let l = c.args.line.now in
    let v = c.args.self.now.places in
    let x = c.in_ok-place.place.now in
    let found = found_last v.items v.len c.last_mut.result c.in_ok-place.place c.in_ok-place.ensures.ok_part c.last_mut.ensures.value c.last_mut.ensures.variant in
    let it : last_of h.places ≡ place_of x ∷ [] = last_is place_of v.items v.len x v.ok.0 found.0 found.1 in
    let long : c.len.result ≡ length (map run_of x.runs.items) = c.len.ensures ∙ (x.runs.ok.0 ∙ sym (length-map x.runs.items run_of)) in
    at_fault c.from_residual-in_err-only_if.result (AddsNothing h l) (no_run h l c.requires.word
    (λ n r may is.
    let p = one_any (λ (q : Place). (n ≡ length q.runs) × (n < 16)) (last_of h.places) (place_of x) it may in
    not_same c.number.result (c.len.result + 1) c.in_err-only_if.ensures.err.0
    (c.number.ensures ∙ (is.1 ∙ ap (λ (m : ℕ). m + 1) (p.0 ∙ sym long)))))

pub returns-clause-ok : goal.returns-clause-ok
returns-clause-ok g c =
    let h = house_of c.args.self.now in
    let l = c.args.line.now in
    let v = c.args.self.now.places in
    let x = c.in_ok-place.place.now in
    let found = found_last v.items v.len c.last_mut.result c.in_ok-place.place c.in_ok-place.ensures.ok_part c.last_mut.ensures.value c.last_mut.ensures.variant in
    let it : last_of h.places ≡ place_of x ∷ [] = last_is place_of v.items v.len x v.ok.0 found.0 found.1 in
    let long : c.len.result ≡ length (map run_of x.runs.items) = c.len.ensures ∙ (x.runs.ok.0 ∙ sym (length-map x.runs.items run_of)) in
    let long' : c.len-2.result ≡ length (map run_of x.runs.items) = c.len-2.ensures ∙ (x.runs.ok.0 ∙ sym (length-map x.runs.items run_of)) in
    let n = length (map run_of x.runs.items) in
    let r : Run = record { identity = c.in-Ok.identity; begin = c.number-2.result; over = c.maybe.result; most = c.number-3.result; size = c.number-4.result; vib = c.vib.result.now } in
    let pushed : map run_of c.push.new.self.items ≡ map run_of x.runs.items ++ r ∷ [] =
    ap (map run_of) c.in_ok-push.ensures.items ∙ map_push run_of x.runs.items _ in
    let next : c.number.result ≡ c.len.result + 1 = same_by c.number.result (c.len.result + 1) c.in_ok-only_if.ensures.ok in
    let few : n < 16 = below_by c.len-2.result n 16 c.in_ok-only_if-2.ensures.ok long' in
    let changed = in_last_set place_of (λ (p : Place). record p { runs = p.runs ++ r ∷ [] }) v.items v.len x
    (record x { runs = c.push.new.self }) v.ok.0 found.0 found.1 (ap (λ (rs : List Run). record (place_of x) { runs = rs }) pushed) in
    subst (λ (ps : List Place). Adds h l (record h { places = ps })) (sym changed)
    (adds_run h l n r c.requires.word (sym c.number.ensures ∙ (next ∙ ap (λ (m : ℕ). m + 1) long))
    (sym c.field.ensures ∙ c.in-Ok.ensures.found) (sym c.number-2.ensures) (sym c.maybe.ensures) (sym c.number-3.ensures)
    (sym c.number-4.ensures) (subst (λ (t : List ℕ). IsVib t r.vib) c.field-2.ensures c.vib.ensures) (search rules) (search rules)
    (any_one (λ (q : Place). (n ≡ length q.runs) × (n < 16)) (last_of h.places) (place_of x) it (refl, few)))

pub returns-in_default-clause-err : goal.returns-in_default-clause-err
returns-in_default-clause-err g c = grind (arith, common_steps)

pub returns-in_err-place-clause-ok : goal.returns-in_err-place-clause-ok
returns-in_err-place-clause-ok g c = grind (arith, common_steps)

pub returns-in_err-place-clause-err : goal.returns-in_err-place-clause-err
returns-in_err-place-clause-err g c = grind (arith, common_steps)

pub overflow_add-len : goal.overflow_add-len
overflow_add-len g c = grind (arith, common_steps)

pub returns-in_err-only_if-clause-ok : goal.returns-in_err-only_if-clause-ok
returns-in_err-only_if-clause-ok g c = grind (arith, common_steps)

pub returns-in_err-only_if-2-clause-ok : goal.returns-in_err-only_if-2-clause-ok
returns-in_err-only_if-2-clause-ok g c = grind (arith, common_steps)

pub returns-in_err-only_if-2-clause-err : goal.returns-in_err-only_if-2-clause-err
returns-in_err-only_if-2-clause-err g c = grind (arith, common_steps)

pub returns-in_err-push-clause-ok : goal.returns-in_err-push-clause-ok
returns-in_err-push-clause-ok g c = grind (arith, common_steps)

pub returns-in_err-push-clause-err : goal.returns-in_err-push-clause-err
returns-in_err-push-clause-err g c = grind (arith, common_steps)
