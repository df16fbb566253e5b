use Rattle.std.proofs.Common.{◌≡◌, ◌++◌, ◌∷◌, [], Bool, true, false, List, map, rules, tests, sym, ap, subst, ◌∙◌, arith}
use Rattle.std.proofs.lemmas.Grind.{common_steps}
use Rattle.std.proofs.lemmas.List.{map_push}
use Rattle.mbdc_audit.specs.Amount.{last_of}
use Rattle.mbdc_audit.specs.House.{Number, Place, Window}
use Rattle.mbdc_audit.specs.Published.{MayAskOf}
use Rattle.mbdc_audit.specs.Reader.{AddsNothing}
use Rattle.mbdc_audit.specs.File.{Adds, is_of_place, with_number}
use Rattle.mbdc_audit.specs.View.{house_of, number_of, place_of, window_of}
use Rattle.mbdc_audit.proofs.Added.{adds_number}
use Rattle.mbdc_audit.proofs.Classes.{at_fault}
use Rattle.mbdc_audit.proofs.Lasts.{found_last, last_is, last_none}
use Rattle.mbdc_audit.proofs.Opened.{lost_last, no_window, window_changed}
use Rattle.mbdc_audit.proofs.Placed.{place_asked}
use Rattle.mbdc_audit.proofs.house.House.add_number.Goals as goal

pub returns-then-not-is_of_place-clause-ok : goal.returns-then-not-is_of_place-clause-ok
returns-then-not-is_of_place-clause-ok g c =
    let h = house_of c.args.self.now in
    let l = c.args.line.now in
    let n : Number = number_of c.in_ok-number.number in
    let made = c.in_ok-number.ensures.ok in
    let other : is_of_place l.word ≡ false = search (rules, tests) in
    let of_house : is_of_place n.key.word ≡ false = ap is_of_place (sym made.0.word_is)
    ∙ other in
    let pushed : map number_of c.push.new.self.items ≡ h.numbers ++ n ∷ [] =
    ap (map number_of) c.in_ok-push.ensures.items ∙ map_push number_of c.args.self.now.numbers.items _ in
    subst (λ (ns : List Number). Adds h l (record h { numbers = ns })) (sym pushed)
    (subst (λ (b : Bool). Adds h l (with_number b n h)) of_house (adds_number h l n made))

pub returns-in_err-window-clause-err : goal.returns-in_err-window-clause-err
returns-in_err-window-clause-err g c =
    let h = house_of c.args.self.now in
    let l = c.args.line.now in
    let v = c.args.self.now.places in
    let x = c.in_ok-place.place.now in
    let n : Number = number_of c.in_ok-number-2.number in
    let of_place : is_of_place l.word ≡ true = search (rules, tests) in
    let found = found_last v.items v.len c.last_mut.result c.in_ok-place.place c.in_ok-place.ensures.ok_part c.last_mut.ensures.value c.last_mut.ensures.variant in
    let it : last_of h.places ≡ place_of x ∷ [] = last_is place_of v.items v.len x v.ok.0 found.0 found.1 in
    let none = last_none window_of x.windows.items x.windows.len x.windows.ok.0 (lost_last x.windows.len c.last_mut-2.result c.in_err-window.ensures.ok_part c.last_mut-2.ensures.variant) in
    at_fault c.from_residual-in_err-window.result (AddsNothing h l)
    (absurd (no_window (λ p w. MayAskOf h p w n.key) h (place_of x) it none (place_asked h l n of_place c.in_ok-number-2.ensures.ok)))

pub returns-clause-ok : goal.returns-clause-ok
returns-clause-ok g c =
    let h = house_of c.args.self.now in
    let l = c.args.line.now in
    let v = c.args.self.now.places in
    let x = c.in_ok-place.place.now in
    let y = c.in_ok-window.window.now in
    let n : Number = number_of c.in_ok-number-2.number in
    let made = c.in_ok-number-2.ensures.ok in
    let one : is_of_place l.word ≡ true = search (rules, tests) in
    let of_place : is_of_place n.key.word ≡ true = ap is_of_place (sym made.0.word_is)
    ∙ one in
    let found = found_last v.items v.len c.last_mut.result c.in_ok-place.place c.in_ok-place.ensures.ok_part c.last_mut.ensures.value c.last_mut.ensures.variant in
    let found' = found_last x.windows.items x.windows.len c.last_mut-2.result c.in_ok-window.window c.in_ok-window.ensures.ok_part c.last_mut-2.ensures.value c.last_mut-2.ensures.variant in
    let pushed : map number_of c.push-2.new.self.items ≡ map number_of y.numbers.items ++ n ∷ [] =
    ap (map number_of) c.in_ok-push-2.ensures.items ∙ map_push number_of y.numbers.items _ in
    let changed = window_changed (λ (w : Window). record w { numbers = w.numbers ++ n ∷ [] }) v x y (record y { numbers = c.push-2.new.self })
    found.0 found.1 found'.0 found'.1 (ap (λ (ns : List Number). record (window_of y) { numbers = ns }) pushed) in
    subst (λ (ps : List Place). Adds h l (record h { places = ps })) (sym changed)
    (subst (λ (b : Bool). Adds h l (with_number b n h)) of_place (adds_number h l n made))

pub returns-in_err-number-clause-ok : goal.returns-in_err-number-clause-ok
returns-in_err-number-clause-ok g c = grind (arith, common_steps)

pub returns-in_err-number-clause-err : goal.returns-in_err-number-clause-err
returns-in_err-number-clause-err g c = grind (arith, common_steps)

pub returns-in_err-push-clause-ok : goal.returns-in_err-push-clause-ok
returns-in_err-push-clause-ok g c = grind (arith, common_steps)

pub returns-in_err-number-2-clause-ok : goal.returns-in_err-number-2-clause-ok
returns-in_err-number-2-clause-ok g c = grind (arith, common_steps)

pub returns-in_err-number-2-clause-err : goal.returns-in_err-number-2-clause-err
returns-in_err-number-2-clause-err g c = grind (arith, common_steps)

pub returns-in_err-place-clause-ok : goal.returns-in_err-place-clause-ok
returns-in_err-place-clause-ok g c = grind (arith, common_steps)

pub returns-in_err-place-clause-err : goal.returns-in_err-place-clause-err
returns-in_err-place-clause-err g c = grind (arith, common_steps)

pub returns-in_err-window-clause-ok : goal.returns-in_err-window-clause-ok
returns-in_err-window-clause-ok g c = grind (arith, common_steps)

pub returns-in_err-push-2-clause-ok : goal.returns-in_err-push-2-clause-ok
returns-in_err-push-2-clause-ok g c = grind (arith, common_steps)

pub returns-in_err-push-2-clause-err : goal.returns-in_err-push-2-clause-err
returns-in_err-push-2-clause-err g c = grind (arith, common_steps)
