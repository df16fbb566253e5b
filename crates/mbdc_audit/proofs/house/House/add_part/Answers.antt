use Rattle.std.proofs.Common.{◌≡◌, ◌<◌, ◌+◌, ◌++◌, ◌∷◌, [], ℕ, List, length, map, Option, refl, sym, ap, subst, ◌∙◌, arith}
use Rattle.std.proofs.lemmas.Grind.{common_steps}
use Rattle.std.proofs.lemmas.Bool.{false≢true}
use Rattle.std.proofs.lemmas.List.{length-map, map_push}
use Rattle.mbdc_audit.specs.Amount.{last_of}
use Rattle.mbdc_audit.specs.House.{Place, Window, Part}
use Rattle.mbdc_audit.specs.Reader.{AddsNothing}
use Rattle.mbdc_audit.specs.File.{Adds}
use Rattle.mbdc_audit.specs.Sound.{IsDeclared}
use Rattle.mbdc_audit.specs.View.{house_of, place_of, window_of, part_of}
use Rattle.mbdc_audit.proofs.Added.{adds_part}
use Rattle.mbdc_audit.proofs.Classes.{at_fault, no_part}
use Rattle.mbdc_audit.proofs.Lasts.{found_last, last_is, last_none}
use Rattle.mbdc_audit.proofs.Opened.{from_window, into_window, lost_last, no_window, window_changed}
use Rattle.mbdc_audit.proofs.Tests.{below_by, not_below}
use Rattle.mbdc_audit.proofs.house.House.add_part.Goals as goal

pub returns-in_err-window-clause-err : goal.returns-in_err-window-clause-err
returns-in_err-window-clause-err g c =
    let h = house_of c.args.self.now in
    let l = c.args.line.now in
    let v = c.args.self.now.places in
    let x = c.in_ok-place.place.now in
    let found = found_last v.items v.len c.last_mut.result c.in_ok-place.place c.in_ok-place.ensures.ok_part c.last_mut.ensures.value c.last_mut.ensures.variant in
    let it : last_of h.places ≡ place_of x ∷ [] = last_is place_of v.items v.len x v.ok.0 found.0 found.1 in
    let none = last_none window_of x.windows.items x.windows.len x.windows.ok.0 (lost_last x.windows.len c.last_mut-2.result c.in_err-window.ensures.ok_part c.last_mut-2.ensures.variant) in
    at_fault c.from_residual-in_err-window.result (AddsNothing h l) (no_part h l c.requires
    (λ n y may is. no_window (λ p w. (n ≡ w.span) × (length w.parts < 64)) h (place_of x) it none may.0))

pub returns-in_err-only_if-clause-err : goal.returns-in_err-only_if-clause-err
returns-in_err-only_if-clause-err g c =
    let h = house_of c.args.self.now in
    let l = c.args.line.now in
    let v = c.args.self.now.places in
    let x = c.in_ok-place.place.now in
    let y = c.in_ok-window.window.now in
    let found = found_last v.items v.len c.last_mut.result c.in_ok-place.place c.in_ok-place.ensures.ok_part c.last_mut.ensures.value c.last_mut.ensures.variant in
    let it : last_of h.places ≡ place_of x ∷ [] = last_is place_of v.items v.len x v.ok.0 found.0 found.1 in
    let found' = found_last x.windows.items x.windows.len c.last_mut-2.result c.in_ok-window.window c.in_ok-window.ensures.ok_part c.last_mut-2.ensures.value c.last_mut-2.ensures.variant in
    let it' : last_of (place_of x).windows ≡ window_of y ∷ [] = last_is window_of x.windows.items x.windows.len y x.windows.ok.0 found'.0 found'.1 in
    at_fault c.from_residual-in_err-only_if.result (AddsNothing h l) (no_part h l c.requires
    (λ n z may is.
    let p = from_window (λ q w. (n ≡ w.span) × (length w.parts < 64)) h (place_of x) (window_of y) it it' may.0 in
    let e : c.number-number.result ≡ y.span + 1 = c.number-number.ensures ∙ (is.1 ∙ ap (λ (m : ℕ). m + 1) p.0) in
    grind (arith, e, c.in_err-only_if.ensures.err.0)))

pub returns-in_err-only_if-2-clause-err : goal.returns-in_err-only_if-2-clause-err
returns-in_err-only_if-2-clause-err g c =
    let h = house_of c.args.self.now in
    let l = c.args.line.now in
    let v = c.args.self.now.places in
    let x = c.in_ok-place.place.now in
    let y = c.in_ok-window.window.now in
    let found = found_last v.items v.len c.last_mut.result c.in_ok-place.place c.in_ok-place.ensures.ok_part c.last_mut.ensures.value c.last_mut.ensures.variant in
    let it : last_of h.places ≡ place_of x ∷ [] = last_is place_of v.items v.len x v.ok.0 found.0 found.1 in
    let found' = found_last x.windows.items x.windows.len c.last_mut-2.result c.in_ok-window.window c.in_ok-window.ensures.ok_part c.last_mut-2.ensures.value c.last_mut-2.ensures.variant in
    let it' : last_of (place_of x).windows ≡ window_of y ∷ [] = last_is window_of x.windows.items x.windows.len y x.windows.ok.0 found'.0 found'.1 in
    let long : length (window_of y).parts ≡ c.len.result = length-map y.parts.items part_of ∙ (sym y.parts.ok.0 ∙ sym c.len.ensures) in
    at_fault c.from_residual-in_err-only_if-2.result (AddsNothing h l) (no_part h l c.requires
    (λ n z may is.
    let p = from_window (λ q w. (n ≡ w.span) × (length w.parts < 64)) h (place_of x) (window_of y) it it' may.0 in
    not_below c.len.result 64 c.in_err-only_if-2.ensures.err.0 (subst (λ (m : ℕ). m < 64) long p.1)))

pub returns-in_err-only_if-3-clause-err : goal.returns-in_err-only_if-3-clause-err
returns-in_err-only_if-3-clause-err g c =
    let h = house_of c.args.self.now in
    let l = c.args.line.now in
    at_fault c.from_residual-in_err-only_if-3.result (AddsNothing h l) (no_part h l c.requires
    (λ n z may is. false≢true (sym c.in_err-only_if-3.ensures.err.0
    ∙ c.is_declared-is_declared.ensures.1 (subst (λ (u : Option ℕ). IsDeclared h u) (sym is.4 ∙ sym c.maybe-user.ensures) may.1))))

pub returns-clause-ok : goal.returns-clause-ok
returns-clause-ok g c =
    let h = house_of c.args.self.now in
    let l = c.args.line.now in
    let v = c.args.self.now.places in
    let x = c.in_ok-place.place.now in
    let y = c.in_ok-window.window.now in
    let found = found_last v.items v.len c.last_mut.result c.in_ok-place.place c.in_ok-place.ensures.ok_part c.last_mut.ensures.value c.last_mut.ensures.variant in
    let it : last_of h.places ≡ place_of x ∷ [] = last_is place_of v.items v.len x v.ok.0 found.0 found.1 in
    let found' = found_last x.windows.items x.windows.len c.last_mut-2.result c.in_ok-window.window c.in_ok-window.ensures.ok_part c.last_mut-2.ensures.value c.last_mut-2.ensures.variant in
    let it' : last_of (place_of x).windows ≡ window_of y ∷ [] = last_is window_of x.windows.items x.windows.len y x.windows.ok.0 found'.0 found'.1 in
    let e : c.number-number.result ≡ y.span + 1 = grind (arith, c.in_ok-only_if.ensures.ok) in
    let long : c.len.result ≡ length (window_of y).parts = c.len.ensures ∙ (y.parts.ok.0 ∙ sym (length-map y.parts.items part_of)) in
    let z : Part = record { from = c.number.result; to = c.number-2.result; user = c.maybe-user.result } in
    let pushed : map part_of c.push.new.self.items ≡ map part_of y.parts.items ++ z ∷ [] =
    ap (map part_of) c.in_ok-push.ensures.items ∙ map_push part_of y.parts.items _ in
    let changed = window_changed (λ (w : Window). record w { parts = w.parts ++ z ∷ [] }) v x y (record y { parts = c.push.new.self })
    found.0 found.1 found'.0 found'.1 (ap (λ (zs : List Part). record (window_of y) { parts = zs }) pushed) in
    subst (λ (ps : List Place). Adds h l (record h { places = ps })) (sym changed)
    (adds_part h l (window_of y).span z c.requires (sym c.number-number.ensures ∙ e) (sym c.number.ensures) (sym c.number-2.ensures) (sym c.maybe-user.ensures)
    (into_window (λ q w. (y.span ≡ w.span) × (length w.parts < 64)) h (place_of x) (window_of y) it it'
    (refl, below_by c.len.result (length (window_of y).parts) 64 c.in_ok-only_if-2.ensures.ok long))
    (c.is_declared-is_declared.ensures.0 c.in_ok-only_if-3.ensures.ok))

pub returns-in_err-place-clause-ok : goal.returns-in_err-place-clause-ok
returns-in_err-place-clause-ok g c = grind (arith, common_steps)

pub returns-in_err-place-clause-err : goal.returns-in_err-place-clause-err
returns-in_err-place-clause-err g c = grind (arith, common_steps)

pub returns-in_err-window-clause-ok : goal.returns-in_err-window-clause-ok
returns-in_err-window-clause-ok g c = grind (arith, common_steps)

pub returns-in_err-only_if-clause-ok : goal.returns-in_err-only_if-clause-ok
returns-in_err-only_if-clause-ok g c = grind (arith, common_steps)

pub returns-in_err-only_if-2-clause-ok : goal.returns-in_err-only_if-2-clause-ok
returns-in_err-only_if-2-clause-ok g c = grind (arith, common_steps)

pub returns-in_err-only_if-3-clause-ok : goal.returns-in_err-only_if-3-clause-ok
returns-in_err-only_if-3-clause-ok g c = grind (arith, common_steps)

pub returns-in_err-push-clause-ok : goal.returns-in_err-push-clause-ok
returns-in_err-push-clause-ok g c = grind (arith, common_steps)

pub returns-in_err-push-clause-err : goal.returns-in_err-push-clause-err
returns-in_err-push-clause-err g c = grind (arith, common_steps)
