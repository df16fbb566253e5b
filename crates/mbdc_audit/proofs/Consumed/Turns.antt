-- What a step is, by the values of one meter.
use Rattle.std.proofs.Common.{◌≡◌, ◌≢◌, ℕ, ◌+◌, ◌-◌, ◌%◌, ◌<◌, ◌≤◌, ◌⊎◌, inl, inr, ⊎_elim, true, false, cond, not, ◌&&◌, eqb, ltb, leb, sym, ap, ◌∙◌, subst, arith}
use Rattle.std.proofs.Math.Nat.{add-mod-mod, add-mod_left, mod-eq_of_lt, mod-lt, add_comm}
use Rattle.std.proofs.lemmas.Bool.{cases_lt, cond-true, cond-false, lt-ltb, le-ltb, le-leb, eq-eqb, ne_eqb, and_left, and_right, and_from, or_from}
use Rattle.mbdc_audit.specs.declared.consumption.entry.Entry.{Entry}
use Rattle.mbdc_audit.specs.Consumption.Step.{around, is_backwards, is_doubtful, is_too_much, is_turn, room, step}

-- what turns over falls
pub rising_no_turn : (a b : Entry) → a.value ≤ b.value → is_turn a b ≡ false
rising_no_turn a b le =
    and_right (eqb a.meter b.meter) (ltb b.value a.value && (ltb a.value a.size && leb (around a b) (room a b)))
    (and_left (ltb b.value a.value) (ltb a.value a.size && leb (around a b) (room a b)) (le-ltb b.value a.value le))

pub step-no_turn : (a b : Entry) → a.meter ≡ b.meter → is_turn a b ≡ false → step a b ≡ b.value - a.value
step-no_turn a b same none =
    cond-true (eqb a.meter b.meter) (cond (is_turn a b) (around a b) (b.value - a.value)) 0 (eq-eqb a.meter b.meter same)
    ∙ cond-false (is_turn a b) (around a b) (b.value - a.value) none

pub step-rising : (a b : Entry) → a.meter ≡ b.meter → a.value ≤ b.value → step a b ≡ b.value - a.value
step-rising a b same le = step-no_turn a b same (rising_no_turn a b le)

pub step-turn : (a b : Entry) → a.meter ≡ b.meter → is_turn a b ≡ true → step a b ≡ around a b
step-turn a b same is =
    cond-true (eqb a.meter b.meter) (cond (is_turn a b) (around a b) (b.value - a.value)) 0 (eq-eqb a.meter b.meter same)
    ∙ cond-true (is_turn a b) (around a b) (b.value - a.value) is

pub step-exchange : (a b : Entry) → a.meter ≢ b.meter → step a b ≡ 0
step-exchange a b other = cond-false (eqb a.meter b.meter) (cond (is_turn a b) (around a b) (b.value - a.value)) 0 (ne_eqb a.meter b.meter other)

-- a fall that is no turn runs backwards
pub falls : (a b : Entry) → a.meter ≡ b.meter → b.value < a.value → is_turn a b ≡ false → is_backwards a b ≡ true
falls a b same less none =
    and_from (eqb a.meter b.meter) (ltb b.value a.value && not (is_turn a b)) (eq-eqb a.meter b.meter same)
    (and_from (ltb b.value a.value) (not (is_turn a b)) (lt-ltb b.value a.value less) (ap not none))

-- ---- two displays of one counter

-- a rise within the room isn't doubtful
rises_within : (a b : Entry) → b.value - a.value ≤ room a b → is_too_much a b ≡ false
rises_within a b le =
    and_right (eqb a.meter b.meter) (ltb 0 a.most && ltb (room a b) (b.value - a.value))
    (and_right (ltb 0 a.most) (ltb (room a b) (b.value - a.value)) (le-ltb (room a b) (b.value - a.value) le))

no_fall : (a b : Entry) → a.value ≤ b.value → is_backwards a b ≡ false
no_fall a b le =
    and_right (eqb a.meter b.meter) (ltb b.value a.value && not (is_turn a b)) (and_left (ltb b.value a.value) (not (is_turn a b)) (le-ltb b.value a.value le))

turned : (a b : Entry) → a.meter ≡ b.meter → b.value < a.value → a.value < a.size → around a b ≤ room a b → is_turn a b ≡ true
turned a b same less below le =
    and_from (eqb a.meter b.meter) (ltb b.value a.value && (ltb a.value a.size && leb (around a b) (room a b))) (eq-eqb a.meter b.meter same)
    (and_from (ltb b.value a.value) (ltb a.value a.size && leb (around a b) (room a b)) (lt-ltb b.value a.value less)
    (and_from (ltb a.value a.size) (leb (around a b) (room a b)) (lt-ltb a.value a.size below) (le-leb (around a b) (room a b) le)))

no_backwards_turn : (a b : Entry) → is_turn a b ≡ true → is_backwards a b ≡ false
no_backwards_turn a b is =
    and_right (eqb a.meter b.meter) (ltb b.value a.value && not (is_turn a b)) (and_right (ltb b.value a.value) (not (is_turn a b)) (ap not is))

-- the display goes on at 0 at most once
shows : (size before more x y : ℕ) → more < size → x ≡ before % size → y ≡ (before + more) % size → (y ≡ x + more) ⊎ (y + size ≡ x + more)
shows size before more x y less is is' =
    let low : x < size = subst (λ (n : ℕ). n < size) (sym is) (mod-lt before (omega arith)) in
    let same : y ≡ (x + more) % size =
    is' ∙ ap (λ (n : ℕ). n % size) (add_comm before more) ∙ sym (add-mod-mod more before size)
    ∙ ap (λ (n : ℕ). (more + n) % size) (sym is) ∙ ap (λ (n : ℕ). n % size) (add_comm more x) in
    ⊎_elim
    (λ (below : x + more < size). inl (same ∙ mod-eq_of_lt below))
    (λ (past : size ≤ x + more).
    let left = x + more - size in
    let sums : x + more ≡ size + left = omega arith in
    let rest : y ≡ left = same ∙ ap (λ (n : ℕ). n % size) sums ∙ add-mod_left size left ∙ mod-eq_of_lt (omega arith) in
    inr (omega (arith, rest)))
    (cases_lt (x + more) size)

pub turn-counted : (a b : Entry) (before after : ℕ) → a.meter ≡ b.meter → a.value ≡ before % a.size → b.value ≡ after % a.size
    → before ≤ after → after - before < a.size → after - before ≤ room a b → (step a b ≡ after - before) × (is_doubtful a b ≡ false)
turn-counted a b before after same is is' le less fits =
    let more = after - before in
    let low : a.value < a.size = subst (λ (n : ℕ). n < a.size) (sym is) (mod-lt before (omega arith)) in
    let sums : before + more ≡ after = omega arith in
    ⊎_elim
    (λ (on : b.value ≡ a.value + more).
    let rise : a.value ≤ b.value = omega arith in
    let by : b.value - a.value ≡ more = omega arith in (
      step-rising a b same rise ∙ by,
      or_from (is_backwards a b) (is_too_much a b) (no_fall a b rise) (rises_within a b (subst (λ (n : ℕ). n ≤ room a b) (sym by) fits)),
    ))
    (λ (over : b.value + a.size ≡ a.value + more).
    let fall : b.value < a.value = omega arith in
    let by : around a b ≡ more = omega arith in
    let is_one = turned a b same fall low (subst (λ (n : ℕ). n ≤ room a b) (sym by) fits) in
    let none : b.value - a.value ≡ 0 = omega arith in (
      step-turn a b same is_one ∙ by,
      or_from (is_backwards a b) (is_too_much a b) (no_backwards_turn a b is_one) (rises_within a b (omega (arith, none))),
    ))
    (shows a.size before more a.value b.value less is (is' ∙ ap (λ (n : ℕ). n % a.size) (sym sums)))
