-- Where no step of a period is marked, its values count.
use Rattle.std.proofs.Common.{◌≡◌, ℕ, suc, ◌-◌, ◌<◌, ◌≤◌, ⊎_elim, Bool, true, false, cond, List, [], ◌∷◌, ◌++◌, length, Some, refl, sym, ap, ◌∙◌, subst, append_assoc, arith}
use Rattle.std.specs.Prelude.{All}
use Rattle.std.proofs.lemmas.Bool.{cases_lt, false≢true}
use Rattle.mbdc_audit.specs.declared.consumption.entry.Entry.{Entry}
use Rattle.mbdc_audit.specs.Consumption.Step.{is_backwards, is_turn, total}
use Rattle.mbdc_audit.specs.Consumption.Order.{IsInOrder}
use Rattle.mbdc_audit.specs.Consumption.Period.{consumption}
use Rattle.mbdc_audit.specs.Consumption.Run.{HasNoTurn, IsSettled}
use Rattle.mbdc_audit.specs.Consumption.Mark.{Step, marked_in}
use Rattle.mbdc_audit.proofs.Consumed.Turns.{falls}
use Rattle.mbdc_audit.proofs.Consumed.Grown.{Ascends, end_of, end_later, none_passed, total-one}
use Rattle.mbdc_audit.proofs.Consumed.Local.{end_of-append, ascends_front, ascends_in}
use Rattle.mbdc_audit.proofs.Consumed.Marked.{passes, passes-cons, touched, ends_in, touched-marked}
use Rattle.mbdc_audit.proofs.Consumed.Runs.{RunsOn, run_rises, total-run, consumption_at_entries}

passes-one_more : (test : Entry → Entry → Bool) (x : Entry) (entries : List Entry) → passes test entries ≤ passes test (x ∷ entries)
passes-one_more test x [] = omega arith
passes-one_more test x (y ∷ entries) = let more = passes-cons test x y entries in omega arith

passes-behind : (test : Entry → Entry → Bool) (front back : List Entry) → passes test back ≤ passes test (front ++ back)
passes-behind test [] back = omega arith
passes-behind test (x ∷ front) back =
    let rest = passes-behind test front back in
    let more = passes-one_more test x (front ++ back) in
    omega arith

passes-before : (test : Entry → Entry → Bool) (a : Entry) (front back : List Entry) → passes test (a ∷ front) ≤ passes test (a ∷ (front ++ back))
passes-before test a [] back = omega arith
passes-before test a (b ∷ front) back =
    let part = passes-cons test a b front in
    let whole = passes-cons test a b (front ++ back) in
    let rest = passes-before test b front back in
    omega (arith, part, whole, rest)

not_backwards : (a b : Entry) → a.meter ≡ b.meter → is_turn a b ≡ false → is_backwards a b ≡ false → a.value ≤ b.value
not_backwards a b same none not = ⊎_elim
    (λ (less : b.value < a.value). absurd (false≢true (sym not ∙ falls a b same less none)))
    (λ (le : a.value ≤ b.value). le)
    (cases_lt b.value a.value)

no_bit : (v : Bool) → cond v 1 0 ≤ 0 → v ≡ false
no_bit true le = absurd (omega arith)
no_bit false le = refl

-- a meter that had no turn, and didn't run backwards at any step that touches the period
clean : (from to meter : ℕ) (a : Entry) (rest : List Entry) → Ascends a rest → (end_of a rest).moment ≤ to
    → All (λ e. e.meter ≡ meter) (a ∷ rest) → All (λ e. from < e.moment) rest → HasNoTurn (a ∷ rest) → passes (touched from to) (a ∷ rest) ≤ 0 → RunsOn a rest
clean from to meter a [] up end one later turns none = tt
clean from to meter a (b ∷ rest) up end one later turns none =
    let whole = passes-cons (touched from to) a b rest in
    let first : a.meter ≡ meter = one 0 a (omega arith) in
    let next : b.meter ≡ meter = one 1 a (omega arith) in
    let same : a.meter ≡ b.meter = omega arith in
    let high = end_later b rest up.1 in
    let is = ends_in from to a b (later 0 b (omega arith)) (omega arith) in
    let bit : cond (touched from to a b) 1 0 ≤ 0 = omega (arith, whole, none) in
    let not : is_backwards a b ≡ false = sym is ∙ no_bit (touched from to a b) bit in (
      same,
      not_backwards a b same (turns 0 (a, b) (omega arith)) not,
      clean from to meter b rest up.1 end (λ k d lt. one (suc k) d (omega arith)) (λ k d lt. later (suc k) d (omega arith)) (λ k d lt. turns (suc k) d (omega arith)) (omega (arith, whole, none)),
    )

settled_before_later : (a : Entry) (rest : List Entry) → Ascends a rest → All (λ e. a.moment < e.moment) rest → IsSettled a rest
settled_before_later a [] up later = total-one a
settled_before_later a (b ∷ rest) up later =
    ap (λ (l : List Entry). total (a ∷ l)) (none_passed a.moment b rest up.1 (later 0 b (omega arith))) ∙ total-one a

pub consumption_where_none_is_marked : (front : List Entry) (a : Entry) (middle : List Entry) (b : Entry) (back : List Entry) (meter : ℕ)
    → IsInOrder (front ++ (a ∷ (middle ++ (b ∷ back)))) → All (λ e. e.meter ≡ meter) (a ∷ (middle ++ (b ∷ [])))
    → All (λ e. a.moment < e.moment) (middle ++ (b ∷ [])) → HasNoTurn (a ∷ (middle ++ (b ∷ []))) → IsSettled b back
    → marked_in (front ++ (a ∷ (middle ++ (b ∷ back)))) a.moment b.moment ≡ []
    → (a.value ≤ b.value) × (consumption (front ++ (a ∷ (middle ++ (b ∷ back)))) a.moment b.moment ≡ Some (b.value - a.value))
consumption_where_none_is_marked front a middle b back meter order one later turns settled none =
    let window = middle ++ (b ∷ []) in
    let test = touched a.moment b.moment in
    let lists : window ++ back ≡ middle ++ (b ∷ back) = append_assoc middle (b ∷ []) back in
    let order' : IsInOrder (front ++ (a ∷ (window ++ back))) = subst (λ (l : List Entry). IsInOrder (front ++ (a ∷ l))) (sym lists) order in
    let up = ascends_front a window back (ascends_in front a (window ++ back) order') in
    let end : end_of a window ≡ b = end_of-append a middle b [] in
    let high : (end_of a window).moment ≤ b.moment = subst (λ (e : Entry). e.moment ≤ b.moment) (sym end) (omega arith) in
    let marked = ap (λ (l : List Step). length l) none in
    let few = touched-marked a.moment b.moment false (front ++ (a ∷ (middle ++ (b ∷ back)))) in
    let same : passes test (front ++ (a ∷ (window ++ back))) ≡ passes test (front ++ (a ∷ (middle ++ (b ∷ back)))) = ap (λ (l : List Entry). passes test (front ++ (a ∷ l))) lists in
    let zero : passes test (front ++ (a ∷ (window ++ back))) ≡ 0 = omega (arith, marked, few, same) in
    let behind = passes-behind test front (a ∷ (window ++ back)) in
    let before = passes-before test a window back in
    let on = clean a.moment b.moment meter a window up high one later turns (omega (arith, zero, behind, before)) in
    let rises : a.value ≤ b.value = subst (λ (e : Entry). a.value ≤ e.value) end (run_rises a window on) in
    let amount : total (a ∷ window) ≡ b.value - a.value = total-run a window on ∙ ap (λ (e : Entry). e.value - a.value) end in (
      rises,
      consumption_at_entries front a middle b back order (settled_before_later a window up later) settled ∙ ap (λ (n : ℕ). Some n) amount,
    )
