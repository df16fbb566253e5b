-- What a meter's own values say.
use Rattle.std.proofs.Common.{◌≡◌, ◌≢◌, ℕ, suc, ◌+◌, ◌-◌, ◌≤◌, List, [], ◌∷◌, ◌++◌, Some, refl, sym, ap, ◌∙◌, subst, append_assoc, arith}
use Rattle.mbdc_audit.specs.declared.consumption.entry.Entry.{Entry}
use Rattle.mbdc_audit.specs.Consumption.Step.{total}
use Rattle.mbdc_audit.specs.Consumption.Order.{IsInOrder}
use Rattle.mbdc_audit.specs.Consumption.Period.{consumption}
use Rattle.mbdc_audit.specs.Consumption.Run.{IsRun, IsSettled}
use Rattle.mbdc_audit.proofs.Consumed.Grown.{end_of, grown, total-one, total-cons}
use Rattle.mbdc_audit.proofs.Consumed.Turns.{step-exchange, step-rising}
use Rattle.mbdc_audit.proofs.Consumed.Local.{total-append, end_of-append, ascends_to, ascends_front, ascends_in, grown-here, grown-end, consumption-in}

-- one meter that doesn't run backwards, from entry to entry
abbrev pub RunsOn : Entry → List Entry → Type 0
RunsOn a [] = Unit {0}
RunsOn a (b ∷ rest) = (a.meter ≡ b.meter) × (a.value ≤ b.value) × RunsOn b rest

run_tail : (meter : ℕ) (a b : Entry) (rest : List Entry) → IsRun meter (a ∷ (b ∷ rest)) → IsRun meter (b ∷ rest)
run_tail meter a b rest run = record {
  one_meter = λ k d lt. run.one_meter (suc k) d (omega arith);
  forward = λ i j d le lt. run.forward (suc i) (suc j) d (omega arith) (omega arith);
}

runs_on : (meter : ℕ) (a : Entry) (rest : List Entry) → IsRun meter (a ∷ rest) → RunsOn a rest
runs_on meter a [] run = tt
runs_on meter a (b ∷ rest) run =
    let first : a.meter ≡ meter = run.one_meter 0 a (omega arith) in
    let next : b.meter ≡ meter = run.one_meter 1 a (omega arith) in
    let up : a.value ≤ b.value = run.forward 0 1 a (omega arith) (omega arith) in
    (omega arith, up, runs_on meter b rest (run_tail meter a b rest run))

pub run_rises : (a : Entry) (rest : List Entry) → RunsOn a rest → a.value ≤ (end_of a rest).value
run_rises a [] on = omega arith
run_rises a (b ∷ rest) on = let le = run_rises b rest on.2 in omega arith

pub total-run : (a : Entry) (rest : List Entry) → RunsOn a rest → total (a ∷ rest) ≡ (end_of a rest).value - a.value
total-run a [] on = let one = total-one a in omega arith
total-run a (b ∷ rest) on =
    let more = run_rises b rest on.2 in
    let part = total-run b rest on.2 in
    let whole = total-cons a b rest in
    let first = step-rising a b on.0 on.1 in
    omega (arith, more, part, whole, first)

pub total-of_run : (meter : ℕ) (a : Entry) (middle : List Entry) (b : Entry) → IsRun meter (a ∷ (middle ++ (b ∷ [])))
    → total (a ∷ (middle ++ (b ∷ []))) ≡ b.value - a.value
total-of_run meter a middle b run =
    total-run a (middle ++ (b ∷ [])) (runs_on meter a (middle ++ (b ∷ [])) run)
    ∙ ap (λ (e : Entry). e.value - a.value) (end_of-append a middle b [])

-- between two entries all the steps count, and nothing else
pub consumption_at_entries : (front : List Entry) (a : Entry) (middle : List Entry) (b : Entry) (back : List Entry)
    → IsInOrder (front ++ (a ∷ (middle ++ (b ∷ back)))) → IsSettled a (middle ++ (b ∷ [])) → IsSettled b back
    → consumption (front ++ (a ∷ (middle ++ (b ∷ back)))) a.moment b.moment ≡ Some (total (a ∷ (middle ++ (b ∷ []))))
consumption_at_entries front a middle b back order settled settled' =
    let window = middle ++ (b ∷ []) in
    let lists : window ++ back ≡ middle ++ (b ∷ back) = append_assoc middle (b ∷ []) back in
    let order' : IsInOrder (front ++ (a ∷ (window ++ back))) = subst (λ (l : List Entry). IsInOrder (front ++ (a ∷ l))) (sym lists) order in
    let end : end_of a window ≡ b = end_of-append a middle b [] in
    let up = ascends_front a window back (ascends_in front a (window ++ back) order') in
    let le : a.moment ≤ b.moment = ascends_to a middle b [] up in
    let high : b.moment ≤ (end_of a window).moment = subst (λ (e : Entry). b.moment ≤ e.moment) (sym end) (omega arith) in
    let ends : b.moment ≡ (end_of a window).moment → IsSettled (end_of a window) back = λ e. subst (λ (x : Entry). IsSettled x back) (sym end) settled' in
    let first : grown a window a.moment ≡ 0 = grown-here a window a.moment up refl ∙ settled in
    let last : grown a window b.moment ≡ total (a ∷ window) = ap (λ (x : Entry). grown a window x.moment) (sym end) ∙ grown-end a window up in
    let amount : grown a window b.moment - grown a window a.moment ≡ total (a ∷ window) = omega (arith, first, last) in
    ap (λ (l : List Entry). consumption (front ++ (a ∷ l)) a.moment b.moment) (sym lists)
    ∙ consumption-in front a window back a.moment b.moment order' (omega arith) le high ends
    ∙ ap (λ (n : ℕ). Some n) amount

pub consumption_of_run : (front : List Entry) (a : Entry) (middle : List Entry) (b : Entry) (back : List Entry) (meter : ℕ)
    → IsInOrder (front ++ (a ∷ (middle ++ (b ∷ back)))) → IsRun meter (a ∷ (middle ++ (b ∷ [])))
    → IsSettled a (middle ++ (b ∷ [])) → IsSettled b back
    → consumption (front ++ (a ∷ (middle ++ (b ∷ back)))) a.moment b.moment ≡ Some (b.value - a.value)
consumption_of_run front a middle b back meter order run settled settled' =
    consumption_at_entries front a middle b back order settled settled' ∙ ap (λ (n : ℕ). Some n) (total-of_run meter a middle b run)

pub total-of_exchange : (start : Entry) (old : List Entry) (final first : Entry) (new : List Entry) (end : Entry) (meter meter' : ℕ)
    → IsRun meter (start ∷ (old ++ (final ∷ []))) → IsRun meter' (first ∷ (new ++ (end ∷ []))) → meter ≢ meter'
    → total (start ∷ (old ++ (final ∷ (first ∷ (new ++ (end ∷ [])))))) ≡ (final.value - start.value) + (end.value - first.value)
total-of_exchange start old final first new end meter meter' run run' other =
    let last : final.meter ≡ meter = final_meter start old run in
    let next : first.meter ≡ meter' = run'.one_meter 0 first (omega arith) in
    let apart : final.meter ≢ first.meter = λ e. other (sym last ∙ e ∙ next) in
    let whole = total-append start old final (first ∷ (new ++ (end ∷ []))) in
    let behind = total-cons final first (new ++ (end ∷ [])) in
    let none = step-exchange final first apart in
    let front = total-of_run meter start old final run in
    let back = total-of_run meter' first new end run' in
    omega (arith, whole, behind, none, front, back)
  where
    final_meter : (a : Entry) (l : List Entry) → IsRun meter (a ∷ (l ++ (final ∷ []))) → final.meter ≡ meter
    final_meter a [] r = r.one_meter 1 a (omega arith)
    final_meter a (b ∷ l) r = final_meter b l (run_tail meter a b (l ++ (final ∷ [])) r)

pub consumption_of_exchange : (front : List Entry) (start : Entry) (old : List Entry) (final first : Entry) (new : List Entry) (end : Entry) (back : List Entry) (meter meter' : ℕ)
    → IsInOrder (front ++ (start ∷ (old ++ (final ∷ (first ∷ (new ++ (end ∷ back)))))))
    → IsRun meter (start ∷ (old ++ (final ∷ []))) → IsRun meter' (first ∷ (new ++ (end ∷ []))) → meter ≢ meter'
    → IsSettled start (old ++ (final ∷ (first ∷ (new ++ (end ∷ []))))) → IsSettled end back
    → consumption (front ++ (start ∷ (old ++ (final ∷ (first ∷ (new ++ (end ∷ back))))))) start.moment end.moment
    ≡ Some ((final.value - start.value) + (end.value - first.value))
consumption_of_exchange front start old final first new end back meter meter' order run run' other settled settled' =
    let middle = old ++ (final ∷ (first ∷ new)) in
    let lists : (tail : List Entry) → middle ++ tail ≡ old ++ (final ∷ (first ∷ (new ++ tail))) = λ tail. append_assoc old (final ∷ (first ∷ new)) tail in
    let order' = subst (λ (l : List Entry). IsInOrder (front ++ (start ∷ l))) (sym (lists (end ∷ back))) order in
    let settled'' = subst (λ (l : List Entry). IsSettled start l) (sym (lists (end ∷ []))) settled in
    ap (λ (l : List Entry). consumption (front ++ (start ∷ l)) start.moment end.moment) (sym (lists (end ∷ back)))
    ∙ consumption_at_entries front start middle end back order' settled'' settled'
    ∙ ap (λ (l : List Entry). Some (total (start ∷ l))) (lists (end ∷ []))
    ∙ ap (λ (n : ℕ). Some n) (total-of_exchange start old final first new end meter meter' run run' other)

pub run_ascends : (meter : ℕ) (a : Entry) (middle : List Entry) (b : Entry) → IsRun meter (a ∷ (middle ++ (b ∷ []))) → a.value ≤ b.value
run_ascends meter a middle b run =
    subst (λ (e : Entry). a.value ≤ e.value) (end_of-append a middle b []) (run_rises a (middle ++ (b ∷ [])) (runs_on meter a (middle ++ (b ∷ [])) run))
