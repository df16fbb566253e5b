use Rattle.std.proofs.Common.{◌≡◌, ◌<◌, ◌+◌, ◌++◌, ◌∷◌, [], ℕ, List, length, map, sym, ap, subst, ◌∙◌, arith}
use Rattle.std.proofs.lemmas.Grind.{common_steps}
use Rattle.std.specs.Prelude.{All}
use Rattle.std.proofs.lemmas.Bool.{false≢true}
use Rattle.std.proofs.lemmas.List.{length-map, map_push}
use Rattle.mbdc_audit.specs.Amount.{last_of}
use Rattle.mbdc_audit.specs.House.{Place, Window, Value, Struck, Part, Number}
use Rattle.mbdc_audit.specs.Reader.{AddsNothing}
use Rattle.mbdc_audit.specs.File.{Adds, opened}
use Rattle.mbdc_audit.specs.View.{house_of, place_of, span_of, window_of, seen_value, struck_of, part_of, number_of}
use Rattle.mbdc_audit.proofs.Added.{adds_window}
use Rattle.mbdc_audit.proofs.Classes.{at_fault, no_memory, no_window}
use Rattle.mbdc_audit.proofs.Lasts.{any_one, found_last, in_last_set, last_is, one_any}
use Rattle.mbdc_audit.proofs.house.House.open.Goals as goal

same : (n m k : ℕ) → n ≡ m + 1 → n ≡ k + 1 → m ≡ k
same n m k is is' = omega arith

pub returns-in_err-only_if-clause-err : goal.returns-in_err-only_if-clause-err
returns-in_err-only_if-clause-err g c =
    let h = house_of c.args.self.now in
    let l = c.args.line.now in
    let v = c.args.self.now.places in
    let x = c.in_ok-place.place.now in
    let found = found_last v.items v.len c.last_mut.result c.in_ok-place.place c.in_ok-place.ensures.ok_part c.last_mut.ensures.value c.last_mut.ensures.variant in
    let it : last_of h.places ≡ place_of x ∷ [] = last_is place_of v.items v.len x v.ok.0 found.0 found.1 in
    at_fault c.from_residual-in_err-only_if.result (AddsNothing h l) (no_window h l c.requires
    (λ n may is.
    let p = one_any (λ (q : Place). All (λ (w : Window). w.span < n) (last_of q.windows)) (last_of h.places) (place_of x) it may.0 in
    let e : n ≡ c.in_ok-span.span = same c.number.result n c.in_ok-span.span (c.number.ensures ∙ is.1) c.in_ok-span.ensures.ok.0 in
    let rises = subst (λ (m : ℕ). All (λ (w : Window). w.span < m) (last_of (place_of x).windows)) e p in
    false≢true (sym c.in_err-only_if.ensures.err.0 ∙ c.is_next_window.ensures.1 rises)))

pub returns-in_err-push-clause-err : goal.returns-in_err-push-clause-err
returns-in_err-push-clause-err g c =
    no_memory c.from_residual-in_err-push.result (AddsNothing (house_of c.args.self.now) c.args.line.now) c.from_residual-in_err-push.ensures.1

pub returns-clause-ok : goal.returns-clause-ok
returns-clause-ok g c =
    let h = house_of c.args.self.now in
    let l = c.args.line.now in
    let v = c.args.self.now.places in
    let x = c.in_ok-place.place.now in
    let found = found_last v.items v.len c.last_mut.result c.in_ok-place.place c.in_ok-place.ensures.ok_part c.last_mut.ensures.value c.last_mut.ensures.variant in
    let it : last_of h.places ≡ place_of x ∷ [] = last_is place_of v.items v.len x v.ok.0 found.0 found.1 in
    let n = c.in_ok-span.span in
    let bare : window_of (record { line = c.args.self.now.lines; span = n; values = c.new.result; struck = c.new-2.result; parts = c.new-3.result; numbers = c.new-4.result }) ≡ opened n =
    ap (λ (ys : List Value). record (opened n) { values = ys; struck = map struck_of c.new-2.result.items; parts = map part_of c.new-3.result.items; numbers = map number_of c.new-4.result.items }) (ap (map seen_value) c.new.ensures.items)
    ∙ (ap (λ (ys : List Struck). record (opened n) { struck = ys; parts = map part_of c.new-3.result.items; numbers = map number_of c.new-4.result.items }) (ap (map struck_of) c.new-2.ensures.items)
    ∙ (ap (λ (ys : List Part). record (opened n) { parts = ys; numbers = map number_of c.new-4.result.items }) (ap (map part_of) c.new-3.ensures.items)
    ∙ ap (λ (ys : List Number). record (opened n) { numbers = ys }) (ap (map number_of) c.new-4.ensures.items))) in
    let pushed : map window_of c.push.new.self.items ≡ map window_of x.windows.items ++ opened n ∷ [] =
    ap (map window_of) c.in_ok-push.ensures.items ∙ (map_push window_of x.windows.items _ ∙ ap (λ (w : Window). map window_of x.windows.items ++ w ∷ []) bare) in
    let changed = in_last_set place_of (λ (p : Place). record p { windows = p.windows ++ opened n ∷ [] }) v.items v.len x
    (record x { windows = c.push.new.self }) v.ok.0 found.0 found.1 (ap (λ (ws : List Window). record (place_of x) { windows = ws }) pushed) in
    let there : n < length h.spans = subst (λ (m : ℕ). n < m) (sym (length-map c.args.self.now.spans.items span_of)) c.in_ok-span.ensures.ok.1 in
    subst (λ (ps : List Place). Adds h l (record h { places = ps })) (sym changed)
    (adds_window h l n c.requires (sym c.number.ensures ∙ c.in_ok-span.ensures.ok.0)
    (any_one (λ (q : Place). All (λ (w : Window). w.span < n) (last_of q.windows)) (last_of h.places) (place_of x) it
    (c.is_next_window.ensures.0 c.in_ok-only_if.ensures.ok)) there)

pub returns-in_err-span-clause-ok : goal.returns-in_err-span-clause-ok
returns-in_err-span-clause-ok g c = grind (arith, common_steps)

pub returns-in_err-span-clause-err : goal.returns-in_err-span-clause-err
returns-in_err-span-clause-err g c = grind (arith, common_steps)

pub returns-in_err-place-clause-ok : goal.returns-in_err-place-clause-ok
returns-in_err-place-clause-ok g c = grind (arith, common_steps)

pub returns-in_err-place-clause-err : goal.returns-in_err-place-clause-err
returns-in_err-place-clause-err g c = grind (arith, common_steps)

pub returns-in_err-only_if-clause-ok : goal.returns-in_err-only_if-clause-ok
returns-in_err-only_if-clause-ok g c = grind (arith, common_steps)

pub returns-in_err-push-clause-ok : goal.returns-in_err-push-clause-ok
returns-in_err-push-clause-ok g c = grind (arith, common_steps)
