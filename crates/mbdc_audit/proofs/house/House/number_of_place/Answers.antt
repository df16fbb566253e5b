use Rattle.std.proofs.Common.{◌≡◌, ◌+◌, ◌∷◌, [], ℕ, length, map, refl, sym, ap, subst, ◌∙◌, arith}
use Rattle.std.proofs.lemmas.Option.{same_Some}
use Rattle.std.proofs.lemmas.Result.{IfOk-from_err}
use Rattle.std.proofs.lemmas.Grind.{common_steps}
use Rattle.mbdc_audit.specs.Amount.{last_of}
use Rattle.mbdc_audit.specs.House.{Key, Number}
use Rattle.mbdc_audit.specs.Line.{number_at}
use Rattle.mbdc_audit.specs.Published.{Has, IsUnit, MayAskOf, quantity}
use Rattle.mbdc_audit.specs.Reader.{IsMade}
use Rattle.mbdc_audit.specs.Uses.{size_named, unit_named}
use Rattle.mbdc_audit.specs.View.{house_of, key_of, number_of, place_of, window_of}
use Rattle.mbdc_audit.proofs.Asked.{has_same}
use Rattle.mbdc_audit.proofs.Classes.{at_any}
use Rattle.mbdc_audit.proofs.Lasts.{last_is, last_none, seen_last, unseen_last}
use Rattle.mbdc_audit.proofs.Opened.{no_window}
use Rattle.mbdc_audit.proofs.Placed.{Texts, of_place, place_asked, shown_has, shown_made, shown_of, shown_word, value_made, value_of}
use Rattle.mbdc_audit.proofs.Tests.{not_same, same_by}
use Rattle.mbdc_audit.proofs.Texts.{by_key, by_texts}
use Rattle.mbdc_audit.proofs.house.House.number_of_place.Goals as goal

one_place : (n m k : ℕ) → n ≡ m + 1 → n ≡ k + 1 → m ≡ k
one_place n m k is is' = omega arith

pub returns-in_err-window-clause-err : goal.returns-in_err-window-clause-err
returns-in_err-window-clause-err g c =
    let h = house_of c.args.self.now in
    let l = c.args.line.now in
    let v = c.args.self.now.places in
    let x = c.in_ok-place.place.now in
    let found = seen_last c.deref.result.now v.items c.last.result c.in_ok-place.place c.deref.ensures.value c.in_ok-place.ensures.ok_part c.last.ensures.item in
    let it : last_of h.places ≡ place_of x ∷ [] = last_is place_of v.items (length v.items) x refl found.0 found.1 in
    let none = last_none window_of x.windows.items (length x.windows.items) refl
    (unseen_last c.deref-2.result.now x.windows.items c.last-2.result c.deref-2.ensures.value c.in_err-window.ensures.ok_part c.last-2.ensures.item) in
    at_any c.from_residual-in_err-window.result ((n : Number) → IsMade h l n → ⊥)
    (λ n made. no_window (λ p w. MayAskOf h p w n.key) h (place_of x) it none (place_asked h l n c.requires.word made))

pub returns-in_err-size-in-Value-clause-err : goal.returns-in_err-size-in-Value-clause-err
returns-in_err-size-in-Value-clause-err g c =
    let h = house_of c.args.self.now in
    let l = c.args.line.now in
    let v = c.args.self.now.places in
    let x = c.in_ok-place.place.now in
    let found = seen_last c.deref.result.now v.items c.last.result c.in_ok-place.place c.deref.ensures.value c.in_ok-place.ensures.ok_part c.last.ensures.item in
    let it : last_of h.places ≡ place_of x ∷ [] = last_is place_of v.items (length v.items) x refl found.0 found.1 in
    let y = c.in_ok-window.window.now in
    let found' = seen_last c.deref-2.result.now x.windows.items c.last-2.result c.in_ok-window.window c.deref-2.ensures.value c.in_ok-window.ensures.ok_part c.last-2.ensures.item in
    let it' : last_of (place_of x).windows ≡ window_of y ∷ [] = last_is window_of x.windows.items (length x.windows.items) y refl found'.0 found'.1 in
    at_any c.from_residual-in_err-size-in-Value.result ((n : Number) → IsMade h l n → ⊥)
    (λ n made.
    let sized = value_of h l n c.in-Value.is made in
    let may = of_place h l n (place_of x) (window_of y) c.requires.word it it' made in
    c.in_err-size-in-Value.ensures.err sized.0 n.key.size (ap (quantity h) (sym may.used) ∙ sized.1) (ap size_named c.field.ensures ∙ sized.2))

pub returns-in_err-unit-in_default : goal.returns-in_err-unit-in_default
returns-in_err-unit-in_default g c =
    let h = house_of c.args.self.now in
    let l = c.args.line.now in
    let v = c.args.self.now.places in
    let x = c.in_ok-place.place.now in
    let found = seen_last c.deref.result.now v.items c.last.result c.in_ok-place.place c.deref.ensures.value c.in_ok-place.ensures.ok_part c.last.ensures.item in
    let it : last_of h.places ≡ place_of x ∷ [] = last_is place_of v.items (length v.items) x refl found.0 found.1 in
    let y = c.in_ok-window.window.now in
    let found' = seen_last c.deref-2.result.now x.windows.items c.last-2.result c.in_ok-window.window c.deref-2.ensures.value c.in_ok-window.ensures.ok_part c.last-2.ensures.item in
    let it' : last_of (place_of x).windows ≡ window_of y ∷ [] = last_is window_of x.windows.items (length x.windows.items) y refl found'.0 found'.1 in
    let shown = shown_word l.word c.requires.word c.in_default.not-Value in
    record {
      ok = IfOk-from_err c.from_residual-in_err-unit-in_default.result _ c.from_residual-in_err-unit-in_default.ensures.0;
      err = at_any c.from_residual-in_err-unit-in_default.result ((n : Number) → IsMade h l n → ⊥)
          (λ n made.
          let of = shown_of h l n shown made in
          let may = of_place h l n (place_of x) (window_of y) c.requires.word it it' made in
          c.in_err-unit-in_default.ensures.err n.key.unit (ap unit_named c.field-in_default.ensures ∙ of.1) (subst (λ (m : ℕ). IsUnit h m n.key.unit) may.used of.2));
    }

pub returns-in_err-check_facts-in_default : goal.returns-in_err-check_facts-in_default
returns-in_err-check_facts-in_default g c =
    let h = house_of c.args.self.now in
    let l = c.args.line.now in
    let v = c.args.self.now.places in
    let x = c.in_ok-place.place.now in
    let found = seen_last c.deref.result.now v.items c.last.result c.in_ok-place.place c.deref.ensures.value c.in_ok-place.ensures.ok_part c.last.ensures.item in
    let it : last_of h.places ≡ place_of x ∷ [] = last_is place_of v.items (length v.items) x refl found.0 found.1 in
    let y = c.in_ok-window.window.now in
    let found' = seen_last c.deref-2.result.now x.windows.items c.last-2.result c.in_ok-window.window c.deref-2.ensures.value c.in_ok-window.ensures.ok_part c.last-2.ensures.item in
    let it' : last_of (place_of x).windows ≡ window_of y ∷ [] = last_is window_of x.windows.items (length x.windows.items) y refl found'.0 found'.1 in
    let shown = shown_word l.word c.requires.word c.in_default.not-Value in
    let m = c.said-in_default.result in
    let word : m.word ≡ l.word = ap (λ (k : Key). k.word) (sym (by_key m (map (λ t. t.now) m.said))) ∙ c.said-in_default.ensures.word_is in
    record {
      ok = IfOk-from_err c.from_residual-in_err-check_facts-in_default.result _ c.from_residual-in_err-check_facts-in_default.ensures.0;
      err = at_any c.from_residual-in_err-check_facts-in_default.result ((n : Number) → IsMade h l n → ⊥)
          (λ n made.
          let of = shown_of h l n shown made in
          let may = of_place h l n (place_of x) (window_of y) c.requires.word it it' made in
          let unit = same_Some n.key.unit c.in_ok-unit-in_default.unit (sym of.1 ∙ (ap unit_named (sym c.field-in_default.ensures) ∙ c.in_ok-unit-in_default.ensures.ok.0)) in
          let span = one_place (number_at 0 l) n.key.span c.in_ok-span-in_default.span of.0 (sym c.number-in_default.ensures ∙ c.in_ok-span-in_default.ensures.ok.0) in
          c.in_err-check_facts-in_default.ensures.err (has_same h n.key _ c.in_ok-span-in_default.span (sym made.0.word_is ∙ sym word) may.used unit
          (subst (λ (m : ℕ). Has h n.key m) span (shown_has h l n (place_of x) (window_of y) shown made may))));
    }

pub returns-in_err-only_if-in_default : goal.returns-in_err-only_if-in_default
returns-in_err-only_if-in_default g c =
    let h = house_of c.args.self.now in
    let l = c.args.line.now in
    let v = c.args.self.now.places in
    let x = c.in_ok-place.place.now in
    let found = seen_last c.deref.result.now v.items c.last.result c.in_ok-place.place c.deref.ensures.value c.in_ok-place.ensures.ok_part c.last.ensures.item in
    let it : last_of h.places ≡ place_of x ∷ [] = last_is place_of v.items (length v.items) x refl found.0 found.1 in
    let y = c.in_ok-window.window.now in
    let found' = seen_last c.deref-2.result.now x.windows.items c.last-2.result c.in_ok-window.window c.deref-2.ensures.value c.in_ok-window.ensures.ok_part c.last-2.ensures.item in
    let it' : last_of (place_of x).windows ≡ window_of y ∷ [] = last_is window_of x.windows.items (length x.windows.items) y refl found'.0 found'.1 in
    let shown = shown_word l.word c.requires.word c.in_default.not-Value in
    record {
      ok = IfOk-from_err c.from_residual-in_err-only_if-in_default.result _ c.from_residual-in_err-only_if-in_default.ensures.0;
      err = at_any c.from_residual-in_err-only_if-in_default.result ((n : Number) → IsMade h l n → ⊥)
          (λ n made.
          let of = shown_of h l n shown made in
          let may = of_place h l n (place_of x) (window_of y) c.requires.word it it' made in
          let span = one_place (number_at 0 l) n.key.span c.in_ok-span-in_default.span of.0 (sym c.number-in_default.ensures ∙ c.in_ok-span-in_default.ensures.ok.0) in
          not_same c.in_ok-span-in_default.span y.span c.in_err-only_if-in_default.ensures.err.0 (sym span ∙ may.span));
    }

pub returns-in_ok-size-in-Value-clause-ok : goal.returns-in_ok-size-in-Value-clause-ok
returns-in_ok-size-in-Value-clause-ok g c =
    let h = house_of c.args.self.now in
    let l = c.args.line.now in
    let v = c.args.self.now.places in
    let x = c.in_ok-place.place.now in
    let found = seen_last c.deref.result.now v.items c.last.result c.in_ok-place.place c.deref.ensures.value c.in_ok-place.ensures.ok_part c.last.ensures.item in
    let it : last_of h.places ≡ place_of x ∷ [] = last_is place_of v.items (length v.items) x refl found.0 found.1 in
    let y = c.in_ok-window.window.now in
    let found' = seen_last c.deref-2.result.now x.windows.items c.last-2.result c.in_ok-window.window c.deref-2.ensures.value c.in_ok-window.ensures.ok_part c.last-2.ensures.item in
    let it' : last_of (place_of x).windows ≡ window_of y ∷ [] = last_is window_of x.windows.items (length x.windows.items) y refl found'.0 found'.1 in
    let m = c.said.result in
    let word : m.word ≡ l.word = ap (λ (k : Key). k.word) (sym (by_key m (map (λ t. t.now) m.said))) ∙ c.said.ensures.word_is in
    let n = record m { span = y.span; used = x.used; size = c.in_ok-size-in-Value.size; from = c.number.result; to = c.number-in-Value.result } in
    let made : Number = record { key = key_of n; text = (number_of m).text; beside = (number_of m).beside } in
    let same : key_of m ≡ (number_of m).key = sym (by_key m (map (λ t. t.now) m.said)) in
    let texts : Texts l made = record {
      word_is = word;
      text_is = sym c.said.ensures.text_is;
      beside_is = c.said.ensures.beside_is;
      beside_all = c.said.ensures.beside_all;
      other = ap (λ (x : Key). x.other) same ∙ c.said.ensures.blank.0;
      whose = (ap (λ (x : Key). x.user) same ∙ c.said.ensures.blank.1, ap (λ (x : Key). x.flat) same ∙ c.said.ensures.blank.2);
    } in
    let of = c.in_ok-size-in-Value.ensures.ok in
    subst (λ (k : Number). IsMade h l k) (sym (by_texts n m (map (λ t. t.now) m.said) refl))
    (value_made h l made (place_of x) (window_of y) c.in-Value.is texts it it' (sym c.number.ensures) (sym c.number-in-Value.ensures) refl refl
    (of.0, of.1, ap size_named (sym c.field.ensures) ∙ of.2) (ap (λ (x : Key). x.unit) same ∙ c.said.ensures.blank.3))

pub returns-in_ok-only_if-in_default : goal.returns-in_ok-only_if-in_default
returns-in_ok-only_if-in_default g c =
    let h = house_of c.args.self.now in
    let l = c.args.line.now in
    let v = c.args.self.now.places in
    let x = c.in_ok-place.place.now in
    let found = seen_last c.deref.result.now v.items c.last.result c.in_ok-place.place c.deref.ensures.value c.in_ok-place.ensures.ok_part c.last.ensures.item in
    let it : last_of h.places ≡ place_of x ∷ [] = last_is place_of v.items (length v.items) x refl found.0 found.1 in
    let y = c.in_ok-window.window.now in
    let found' = seen_last c.deref-2.result.now x.windows.items c.last-2.result c.in_ok-window.window c.deref-2.ensures.value c.in_ok-window.ensures.ok_part c.last-2.ensures.item in
    let it' : last_of (place_of x).windows ≡ window_of y ∷ [] = last_is window_of x.windows.items (length x.windows.items) y refl found'.0 found'.1 in
    let shown = shown_word l.word c.requires.word c.in_default.not-Value in
    let m = c.said-in_default.result in
    let word : m.word ≡ l.word = ap (λ (k : Key). k.word) (sym (by_key m (map (λ t. t.now) m.said))) ∙ c.said-in_default.ensures.word_is in
    let n = record m { span = y.span; used = x.used; unit = c.in_ok-unit-in_default.unit; from = c.number-in_default-2.result; to = c.number-in_default-3.result } in
    let made : Number = record { key = key_of n; text = (number_of m).text; beside = (number_of m).beside } in
    let same : key_of m ≡ (number_of m).key = sym (by_key m (map (λ t. t.now) m.said)) in
    let texts : Texts l made = record {
      word_is = word;
      text_is = sym c.said-in_default.ensures.text_is;
      beside_is = c.said-in_default.ensures.beside_is;
      beside_all = c.said-in_default.ensures.beside_all;
      other = ap (λ (x : Key). x.other) same ∙ c.said-in_default.ensures.blank.0;
      whose = (ap (λ (x : Key). x.user) same ∙ c.said-in_default.ensures.blank.1, ap (λ (x : Key). x.flat) same ∙ c.said-in_default.ensures.blank.2);
    } in
    let of = c.in_ok-unit-in_default.ensures.ok in
    let span : c.in_ok-span-in_default.span ≡ y.span = same_by c.in_ok-span-in_default.span y.span c.in_ok-only_if-in_default.ensures.ok in
    record {
      ok = subst (λ (k : Number). IsMade h l k) (sym (by_texts n m (map (λ t. t.now) m.said) refl))
          (shown_made h l made (place_of x) (window_of y) shown texts it it' (sym c.number-in_default-2.ensures) (sym c.number-in_default-3.ensures) refl refl
          (sym c.number-in_default.ensures ∙ (c.in_ok-span-in_default.ensures.ok.0 ∙ ap (λ (k : ℕ). k + 1) span))
          (ap unit_named (sym c.field-in_default.ensures) ∙ of.0) of.1
          (subst (λ (k : ℕ). Has h (key_of n) k) span c.in_ok-check_facts-in_default.ensures.ok)
          (ap (λ (x : Key). x.size) same ∙ c.said-in_default.ensures.blank.4));
      err = tt;
    }

pub returns-in_err-place-clause-ok : goal.returns-in_err-place-clause-ok
returns-in_err-place-clause-ok g c = grind (arith, common_steps)

pub returns-in_err-place-clause-err : goal.returns-in_err-place-clause-err
returns-in_err-place-clause-err g c = grind (arith, common_steps)

pub returns-in_err-window-clause-ok : goal.returns-in_err-window-clause-ok
returns-in_err-window-clause-ok g c = grind (arith, common_steps)

pub returns-in_err-size-in-Value-clause-ok : goal.returns-in_err-size-in-Value-clause-ok
returns-in_err-size-in-Value-clause-ok g c = grind (arith, common_steps)
