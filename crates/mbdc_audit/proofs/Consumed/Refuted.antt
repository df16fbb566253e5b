-- A doubtful step is marked, and so are the steps beside it.
use Rattle.std.proofs.Common.{◌≡◌, ◌≢◌, ℕ, ◌+◌, ◌<◌, ◌≤◌, ◌⊎◌, inl, inr, ⊎_elim, Bool, true, false, ◌||◌, cond, List, [], ◌∷◌, ◌++◌, length, refl, ap, arith}
use Rattle.std.specs.Prelude.{filter}
use Rattle.std.proofs.lemmas.Bool.{and_from, false≢true, or_left, or_right}
use Rattle.mbdc_audit.specs.declared.consumption.entry.Entry.{Entry}
use Rattle.mbdc_audit.specs.Consumption.Step.{is_backwards, is_doubtful, is_too_much, is_turn}
use Rattle.mbdc_audit.specs.Consumption.Mark.{Step, is_doubtful_next, is_marked, is_marked_in, marked_in, steps_after, touches, touch_one}
use Rattle.mbdc_audit.proofs.Consumed.Marked.{kept}
use Rattle.mbdc_audit.proofs.Consumed.Turns.{falls}

-- how many steps are marked, the first of them after a doubtful one or not
abbrev count : ℕ → ℕ → Bool → List Entry → ℕ
count from to was entries = length (filter (is_marked_in from to) (steps_after was entries))

abbrev step_of : Bool → Entry → Entry → List Entry → Step
step_of was a b rest = record { before = a; after = b; is_after_doubtful = was; is_before_doubtful = is_doubtful_next b rest }

count-cons : (from to : ℕ) (was : Bool) (a b : Entry) (rest : List Entry)
    → count from to was (a ∷ (b ∷ rest)) ≡ cond (is_marked_in from to (step_of was a b rest)) 1 0 + count from to (is_doubtful a b) (b ∷ rest)
count-cons from to was a b rest =
    let s = step_of was a b rest in
    kept (is_marked_in from to s) s (filter (is_marked_in from to) (steps_after (is_doubtful a b) (b ∷ rest)))

-- the steps behind some entries are among all
count-behind : (from to : ℕ) (was : Bool) (front : List Entry) (e : Entry) (rest : List Entry)
    → (was' : Bool) × (count from to was' (e ∷ rest) ≤ count from to was (front ++ (e ∷ rest)))
count-behind from to was [] e rest = (was, omega arith)
count-behind from to was (a ∷ []) e rest =
    let more = count-cons from to was a e rest in (is_doubtful a e, omega arith)
count-behind from to was (a ∷ (b ∷ front)) e rest =
    let more = count-cons from to was a b (front ++ (e ∷ rest)) in
    let behind = count-behind from to (is_doubtful a b) (b ∷ front) e rest in
    let le = behind.1 in
    (behind.0, omega (arith, more, le))

one : (b : Bool) → b ≡ true → 1 ≤ cond b 1 0
one true is = omega arith
one false is = absurd (false≢true is)

counts : (from to : ℕ) (was : Bool) (a b : Entry) (rest : List Entry) → is_marked (step_of was a b rest) ≡ true → touches from to a b ≡ true
    → 0 < count from to was (a ∷ (b ∷ rest))
counts from to was a b rest marked touched =
    let s = step_of was a b rest in
    let bit = one (is_marked_in from to s) (and_from (is_marked s) (touches from to a b) marked touched) in
    let whole = count-cons from to was a b rest in
    omega (arith, bit, whole)

some : (from to : ℕ) (front : List Entry) (a : Entry) (rest : List Entry) → ((was : Bool) → 0 < count from to was (a ∷ rest)) → marked_in (front ++ (a ∷ rest)) from to ≢ []
some from to front a rest pos = λ none.
    let behind = count-behind from to false front a rest in
    let le = behind.1 in
    let more = pos behind.0 in
    let zero = ap (λ (l : List Step). length l) none in
    omega (arith, le, more, zero)

pub marks_itself : (front : List Entry) (a b : Entry) (back : List Entry) (from to : ℕ) → is_doubtful a b ≡ true → touches from to a b ≡ true
    → marked_in (front ++ (a ∷ (b ∷ back))) from to ≢ []
marks_itself front a b back from to is touched = some from to front a (b ∷ back) (λ was.
    counts from to was a b back (or_right was (is_doubtful a b || is_doubtful_next b back) (or_left (is_doubtful a b) (is_doubtful_next b back) is)) touched)

marks_before : (front : List Entry) (v a b : Entry) (back : List Entry) (from to : ℕ) → is_doubtful a b ≡ true → touches from to v a ≡ true
    → marked_in (front ++ (v ∷ (a ∷ (b ∷ back)))) from to ≢ []
marks_before front v a b back from to is touched = some from to front v (a ∷ (b ∷ back)) (λ was.
    counts from to was v a (b ∷ back) (or_right was (is_doubtful v a || is_doubtful a b) (or_right (is_doubtful v a) (is_doubtful a b) is)) touched)

marks_itself_first : (front : List Entry) (v a b : Entry) (back : List Entry) (from to : ℕ) → is_doubtful a b ≡ true → touches from to a b ≡ true
    → marked_in (front ++ (v ∷ (a ∷ (b ∷ back)))) from to ≢ []
marks_itself_first front v a b back from to is touched = some from to front v (a ∷ (b ∷ back)) (λ was.
    let own = counts from to (is_doubtful v a) a b back (or_right (is_doubtful v a) (is_doubtful a b || is_doubtful_next b back) (or_left (is_doubtful a b) (is_doubtful_next b back) is)) touched in
    let whole = count-cons from to was v a (b ∷ back) in
    omega (arith, own, whole))

marks_after : (front : List Entry) (v a b : Entry) (back : List Entry) (from to : ℕ) → is_doubtful v a ≡ true → touches from to a b ≡ true
    → marked_in (front ++ (v ∷ (a ∷ (b ∷ back)))) from to ≢ []
marks_after front v a b back from to is touched = some from to front v (a ∷ (b ∷ back)) (λ was.
    let own = counts from to (is_doubtful v a) a b back (or_left (is_doubtful v a) (is_doubtful a b || is_doubtful_next b back) is) touched in
    let whole = count-cons from to was v a (b ∷ back) in
    omega (arith, own, whole))

or_of : (x y : Bool) → (x || y) ≡ true → (x ≡ true) ⊎ (y ≡ true)
or_of true y is = inl refl
or_of false y is = inr is

doubtful : (a b : Entry) → a.meter ≡ b.meter → b.value < a.value → is_turn a b ≡ false → is_doubtful a b ≡ true
doubtful a b same less none = or_left (is_backwards a b) (is_too_much a b) (falls a b same less none)

pub above_the_next : (front : List Entry) (v x y : Entry) (back : List Entry) (from to : ℕ) → x.meter ≡ y.meter → y.value < x.value → is_turn x y ≡ false
    → touch_one from to v x y ≡ true → marked_in (front ++ (v ∷ (x ∷ (y ∷ back)))) from to ≢ []
above_the_next front v x y back from to same less none touched = ⊎_elim
    (λ (first : touches from to v x ≡ true). marks_before front v x y back from to (doubtful x y same less none) first)
    (λ (second : touches from to x y ≡ true). marks_itself_first front v x y back from to (doubtful x y same less none) second)
    (or_of (touches from to v x) (touches from to x y) touched)

pub below_the_one_before : (front : List Entry) (v x y : Entry) (back : List Entry) (from to : ℕ) → v.meter ≡ x.meter → x.value < v.value → is_turn v x ≡ false
    → touch_one from to v x y ≡ true → marked_in (front ++ (v ∷ (x ∷ (y ∷ back)))) from to ≢ []
below_the_one_before front v x y back from to same less none touched = ⊎_elim
    (λ (first : touches from to v x ≡ true). marks_itself front v x (y ∷ back) from to (doubtful v x same less none) first)
    (λ (second : touches from to x y ≡ true). marks_after front v x y back from to (doubtful v x same less none) second)
    (or_of (touches from to v x) (touches from to x y) touched)

pub alone : (front : List Entry) (x y : Entry) (back : List Entry) (from to : ℕ) → x.meter ≡ y.meter → y.value < x.value → is_turn x y ≡ false
    → touches from to x y ≡ true → marked_in (front ++ (x ∷ (y ∷ back))) from to ≢ []
alone front x y back from to same less none touched = marks_itself front x y back from to (doubtful x y same less none) touched
