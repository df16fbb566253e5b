use Rattle.std.proofs.Common.{◌≡◌, ◌<◌, ◌+◌, ◌-◌, ◌⊎◌, inl, inr, ◌++◌, ◌∷◌, [], ℕ, List, length, map, Some, true, sym, ap, subst, ◌∙◌, arith}
use Rattle.std.proofs.lemmas.Grind.{common_steps}
use Rattle.std.specs.Prelude.{slice_get}
use Rattle.std.proofs.lemmas.List.{length-map, map_push}
use Rattle.std.proofs.lemmas.Option.{same_Some, slice_get_within}
use Rattle.std.proofs.lemmas.Result.{IfOk-from_err}
use Rattle.mbdc_audit.specs.Amount.{last_of}
use Rattle.mbdc_audit.specs.House.{Place, Run, Struck, Value, Window}
use Rattle.mbdc_audit.specs.declared.curve.Run as run_type
use Rattle.mbdc_audit.specs.declared.line.Word.{Word}
use Rattle.mbdc_audit.specs.declared.line.Word.TheVariants as word
use Rattle.mbdc_audit.specs.Reader.{AddsNothing, is_value}
use Rattle.mbdc_audit.specs.File.{Adds}
use Rattle.mbdc_audit.specs.Sound.{IsAt}
use Rattle.mbdc_audit.specs.View.{house_of, place_of, run_of, seen_value, struck_of, window_of}
use Rattle.mbdc_audit.proofs.Added.{adds_struck, adds_value}
use Rattle.mbdc_audit.proofs.Classes.{at_fault, no_struck_or_value, no_value, of_value}
use Rattle.mbdc_audit.proofs.Lasts.{found_last, last_is, last_none}
use Rattle.mbdc_audit.proofs.Opened.{from_place, from_window, into_window, lost_last, no_window, window_changed}
use Rattle.mbdc_audit.proofs.Tests.{below_by, not_below}
use Rattle.mbdc_audit.proofs.house.House.add_value.Goals as goal

-- a run that was found among those of a place, or not
of_runs : {xs ys : List run_type.Run} {r : Run} (n : ℕ) → xs ≡ ys → slice_get (map run_of xs) n ≡ Some r → slice_get (map run_of ys) n ≡ Some r
of_runs {xs} {ys} {r} n is found = subst (λ (rs : List run_type.Run). slice_get (map run_of rs) n ≡ Some r) is found

no_runs : {xs ys : List run_type.Run} {n : ℕ} → xs ≡ ys → (n ≡ 0) ⊎ (length (map run_of xs) < n) → (n ≡ 0) ⊎ (length (map run_of ys) < n)
no_runs {xs} {ys} {n} is none = subst (λ (rs : List run_type.Run). (n ≡ 0) ⊎ (length (map run_of rs) < n)) is none

-- no run has this number
none_at : (number run length : ℕ) → (number ≡ 0) ⊎ (length < number) → number ≡ run + 1 → run < length → ⊥
none_at number run length (inl none) is lt = omega arith
none_at number run length (inr past) is lt = omega arith

pub returns-in_err-meter-clause-err : goal.returns-in_err-meter-clause-err
returns-in_err-meter-clause-err g c =
    let h = house_of c.args.self.now in
    let l = c.args.line.now in
    let v = c.args.self.now.places in
    let x = c.in_ok-place.place.now in
    let n = c.number-number.result in
    let found = found_last v.items v.len c.last_mut.result c.in_ok-place.place c.in_ok-place.ensures.ok_part c.last_mut.ensures.value c.last_mut.ensures.variant in
    let it : last_of h.places ≡ place_of x ∷ [] = last_is place_of v.items v.len x v.ok.0 found.0 found.1 in
    at_fault c.from_residual-in_err-meter.result (AddsNothing h l) (no_struck_or_value h l c.requires.word
    (λ s may is.
    let p = from_place (λ p w. s.run < length p.runs) h (place_of x) it may in
    none_at n s.run (length (place_of x).runs) (no_runs c.as_slice-runs.ensures.value c.in_err-meter.ensures.err) (c.number-number.ensures ∙ is.1) p.1)
    (λ s may is.
    let p = from_place (λ p w. (length w.values < 2048) × ((r : Run) × (slice_get p.runs s.run ≡ Some r) × IsAt r s s.source)) h (place_of x) it may.0 in
    none_at n s.run (length (place_of x).runs) (no_runs c.as_slice-runs.ensures.value c.in_err-meter.ensures.err) (c.number-number.ensures ∙ is.0)
    (slice_get_within (place_of x).runs s.run p.1.1.0 p.1.1.1)))

pub returns-in_err-window-clause-err : goal.returns-in_err-window-clause-err
returns-in_err-window-clause-err g c =
    let h = house_of c.args.self.now in
    let l = c.args.line.now in
    let v = c.args.self.now.places in
    let x = c.in_ok-place.place.now in
    let found = found_last v.items v.len c.last_mut.result c.in_ok-place.place c.in_ok-place.ensures.ok_part c.last_mut.ensures.value c.last_mut.ensures.variant in
    let it : last_of h.places ≡ place_of x ∷ [] = last_is place_of v.items v.len x v.ok.0 found.0 found.1 in
    let none = last_none window_of x.windows.items x.windows.len x.windows.ok.0 (lost_last x.windows.len c.last_mut-2.result c.in_err-window.ensures.ok_part c.last_mut-2.ensures.variant) in
    at_fault c.from_residual-in_err-window.result (AddsNothing h l) (no_struck_or_value h l c.requires.word
    (λ s may is. no_window (λ p w. s.run < length p.runs) h (place_of x) it none may)
    (λ s may is. no_window (λ p w. (length w.values < 2048) × ((r : Run) × (slice_get p.runs s.run ≡ Some r) × IsAt r s s.source)) h (place_of x) it none may.0))

value_word : (w : Word) → (w ≡ word.Struck) ⊎ (is_value w ≡ true) → (w ≡ word.Struck → ⊥) → is_value w ≡ true
value_word w (inl is) other = absurd (other is)
value_word w (inr is) other = is

before : (n m : ℕ) → n ≡ m + 1 → n - 1 ≡ m
before n m is = omega arith

after : (n : ℕ) → 0 < n → n ≡ n - 1 + 1
after n some = omega arith

pub returns-in_err-only_if-in_default : goal.returns-in_err-only_if-in_default
returns-in_err-only_if-in_default g c =
    let h = house_of c.args.self.now in
    let l = c.args.line.now in
    let v = c.args.self.now.places in
    let x = c.in_ok-place.place.now in
    let y = c.in_ok-window.window.now in
    let found = found_last v.items v.len c.last_mut.result c.in_ok-place.place c.in_ok-place.ensures.ok_part c.last_mut.ensures.value c.last_mut.ensures.variant in
    let it : last_of h.places ≡ place_of x ∷ [] = last_is place_of v.items v.len x v.ok.0 found.0 found.1 in
    let found' = found_last x.windows.items x.windows.len c.last_mut-2.result c.in_ok-window.window c.in_ok-window.ensures.ok_part c.last_mut-2.ensures.value c.last_mut-2.ensures.variant in
    let it' : last_of (place_of x).windows ≡ window_of y ∷ [] = last_is window_of x.windows.items x.windows.len y x.windows.ok.0 found'.0 found'.1 in
    let long : length (window_of y).values ≡ c.len.result = length-map y.values.items seen_value ∙ (sym y.values.ok.0 ∙ sym c.len.ensures) in
    record {
      ok = IfOk-from_err c.from_residual-in_err-only_if-in_default.result _ c.from_residual-in_err-only_if-in_default.ensures.0;
      err = at_fault c.from_residual-in_err-only_if-in_default.result (AddsNothing h l)
          (no_value h l (of_value l.word (value_word l.word c.requires.word c.in_default.not-Struck))
          (λ s may is.
          let p = from_window (λ p w. (length w.values < 2048) × ((r : Run) × (slice_get p.runs s.run ≡ Some r) × IsAt r s s.source)) h (place_of x) (window_of y) it it' may.0 in
          not_below c.len.result 2048 c.in_err-only_if-in_default.ensures.err.0 (subst (λ (m : ℕ). m < 2048) long p.0)));
    }

pub returns-in_err-value-in_default : goal.returns-in_err-value-in_default
returns-in_err-value-in_default g c =
    let h = house_of c.args.self.now in
    let l = c.args.line.now in
    let v = c.args.self.now.places in
    let x = c.in_ok-place.place.now in
    let y = c.in_ok-window.window.now in
    let n = c.number-number.result in
    let r : Run = run_of c.in_ok-meter.meter.now in
    let found = found_last v.items v.len c.last_mut.result c.in_ok-place.place c.in_ok-place.ensures.ok_part c.last_mut.ensures.value c.last_mut.ensures.variant in
    let it : last_of h.places ≡ place_of x ∷ [] = last_is place_of v.items v.len x v.ok.0 found.0 found.1 in
    let found' = found_last x.windows.items x.windows.len c.last_mut-2.result c.in_ok-window.window c.in_ok-window.ensures.ok_part c.last_mut-2.ensures.value c.last_mut-2.ensures.variant in
    let it' : last_of (place_of x).windows ≡ window_of y ∷ [] = last_is window_of x.windows.items x.windows.len y x.windows.ok.0 found'.0 found'.1 in
    record {
      ok = IfOk-from_err c.from_residual-in_err-value-in_default.result _ c.from_residual-in_err-value-in_default.ensures.0;
      err = at_fault c.from_residual-in_err-value-in_default.result (AddsNothing h l)
          (no_value h l (of_value l.word (value_word l.word c.requires.word c.in_default.not-Struck))
          (λ s may is.
          let p = from_window (λ p w. (length w.values < 2048) × ((r : Run) × (slice_get p.runs s.run ≡ Some r) × IsAt r s s.source)) h (place_of x) (window_of y) it it' may.0 in
          let at : n - 1 ≡ s.run = before n s.run (c.number-number.ensures ∙ is.0) in
          let one : p.1.0 ≡ r = same_Some p.1.0 r (sym p.1.1 ∙ (ap (slice_get (place_of x).runs) (sym at) ∙ (of_runs (n - 1) c.as_slice-runs.ensures.value c.in_ok-meter.ensures.ok.1))) in
          c.in_err-value-in_default.ensures.err s (is.0, is.1, subst (λ (q : Run). IsAt q s s.source) one p.1.2, may.1)));
    }

pub returns-in_ok-push-in-Struck-clause-ok : goal.returns-in_ok-push-in-Struck-clause-ok
returns-in_ok-push-in-Struck-clause-ok g c =
    let h = house_of c.args.self.now in
    let l = c.args.line.now in
    let v = c.args.self.now.places in
    let x = c.in_ok-place.place.now in
    let y = c.in_ok-window.window.now in
    let n = c.number-number.result in
    let found = found_last v.items v.len c.last_mut.result c.in_ok-place.place c.in_ok-place.ensures.ok_part c.last_mut.ensures.value c.last_mut.ensures.variant in
    let it : last_of h.places ≡ place_of x ∷ [] = last_is place_of v.items v.len x v.ok.0 found.0 found.1 in
    let found' = found_last x.windows.items x.windows.len c.last_mut-2.result c.in_ok-window.window c.in_ok-window.ensures.ok_part c.last_mut-2.ensures.value c.last_mut-2.ensures.variant in
    let it' : last_of (place_of x).windows ≡ window_of y ∷ [] = last_is window_of x.windows.items x.windows.len y x.windows.ok.0 found'.0 found'.1 in
    let s : Struck = record { run = n - 1; moment = c.number.result; why = c.field.result.now } in
    let pushed : map struck_of c.push.new.self.items ≡ map struck_of y.struck.items ++ s ∷ [] =
    ap (map struck_of) c.in_ok-push-in-Struck.ensures.items ∙ map_push struck_of y.struck.items _ in
    let changed = window_changed (λ (w : Window). record w { struck = w.struck ++ s ∷ [] }) v x y (record y { struck = c.push.new.self })
    found.0 found.1 found'.0 found'.1 (ap (λ (ss : List Struck). record (window_of y) { struck = ss }) pushed) in
    subst (λ (ps : List Place). Adds h l (record h { places = ps })) (sym changed)
    (adds_struck h l s c.in-Struck.is (sym c.number-number.ensures ∙ after n c.in_ok-meter.ensures.ok.0) (sym c.number.ensures) (sym c.field.ensures)
    (into_window (λ p w. s.run < length p.runs) h (place_of x) (window_of y) it it'
    (slice_get_within (place_of x).runs (n - 1) (run_of c.in_ok-meter.meter.now) (of_runs (n - 1) c.as_slice-runs.ensures.value c.in_ok-meter.ensures.ok.1))))

pub returns-in_ok-push-in_default : goal.returns-in_ok-push-in_default
returns-in_ok-push-in_default g c =
    let h = house_of c.args.self.now in
    let l = c.args.line.now in
    let v = c.args.self.now.places in
    let x = c.in_ok-place.place.now in
    let y = c.in_ok-window.window.now in
    let n = c.number-number.result in
    let r : Run = run_of c.in_ok-meter.meter.now in
    let found = found_last v.items v.len c.last_mut.result c.in_ok-place.place c.in_ok-place.ensures.ok_part c.last_mut.ensures.value c.last_mut.ensures.variant in
    let it : last_of h.places ≡ place_of x ∷ [] = last_is place_of v.items v.len x v.ok.0 found.0 found.1 in
    let found' = found_last x.windows.items x.windows.len c.last_mut-2.result c.in_ok-window.window c.in_ok-window.ensures.ok_part c.last_mut-2.ensures.value c.last_mut-2.ensures.variant in
    let it' : last_of (place_of x).windows ≡ window_of y ∷ [] = last_is window_of x.windows.items x.windows.len y x.windows.ok.0 found'.0 found'.1 in
    let long : c.len.result ≡ length (window_of y).values = c.len.ensures ∙ (y.values.ok.0 ∙ sym (length-map y.values.items seen_value)) in
    let s : Value = seen_value c.in_ok-value-in_default.value in
    let says = c.in_ok-value-in_default.ensures.ok in
    let at : n - 1 ≡ s.run = before n s.run (c.number-number.ensures ∙ says.0) in
    let pushed : map seen_value c.push-in_default.new.self.items ≡ map seen_value y.values.items ++ s ∷ [] =
    ap (map seen_value) c.in_ok-push-in_default.ensures.items ∙ map_push seen_value y.values.items _ in
    let changed = window_changed (λ (w : Window). record w { values = w.values ++ s ∷ [] }) v x y (record y { values = c.push-in_default.new.self })
    found.0 found.1 found'.0 found'.1 (ap (λ (ss : List Value). record (window_of y) { values = ss }) pushed) in
    record {
      ok = subst (λ (ps : List Place). Adds h l (record h { places = ps })) (sym changed)
          (adds_value h l s says.0 says.1 says.3
          (into_window (λ p w. (length w.values < 2048) × ((q : Run) × (slice_get p.runs s.run ≡ Some q) × IsAt q s s.source)) h (place_of x) (window_of y) it it' (
            below_by c.len.result (length (window_of y).values) 2048 c.in_ok-only_if-in_default.ensures.ok long,
            (r, ap (slice_get (place_of x).runs) (sym at) ∙ (of_runs (n - 1) c.as_slice-runs.ensures.value c.in_ok-meter.ensures.ok.1), says.2),
          )));
      err = tt;
    }

pub returns-in_err-place-clause-ok : goal.returns-in_err-place-clause-ok
returns-in_err-place-clause-ok g c = grind (arith, common_steps)

pub returns-in_err-place-clause-err : goal.returns-in_err-place-clause-err
returns-in_err-place-clause-err g c = grind (arith, common_steps)

pub returns-in_err-meter-clause-ok : goal.returns-in_err-meter-clause-ok
returns-in_err-meter-clause-ok g c = grind (arith, common_steps)

pub returns-in_err-window-clause-ok : goal.returns-in_err-window-clause-ok
returns-in_err-window-clause-ok g c = grind (arith, common_steps)

pub returns-in_err-push-in-Struck-clause-ok : goal.returns-in_err-push-in-Struck-clause-ok
returns-in_err-push-in-Struck-clause-ok g c = grind (arith, common_steps)

pub returns-in_err-push-in-Struck-clause-err : goal.returns-in_err-push-in-Struck-clause-err
returns-in_err-push-in-Struck-clause-err g c = grind (arith, common_steps)
