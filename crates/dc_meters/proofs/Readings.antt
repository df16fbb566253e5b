-- The serials of readings ascend, also where some go and where one comes.
use Rattle.std.proofs.Common.{◌≡◌, ℕ, ◌<◌, ◌≤◌, ◌∙◌, refl, nat_lt, arith, List, [], ◌∷◌, ◌++◌, map, Bool, true, false, cond, ap}
use Rattle.std.specs.Prelude.{All, filter, max}
use Rattle.std.specs.List.{AllByRecursion}
use Rattle.std.specs.List.Sorted.{IsStrictlySortedBy}
use Rattle.std.specs.Ordering.{nat_cmp}
use Rattle.std.specs.declared.cmp.Ordering.TheVariants.{Less, Equal, Greater}
use Rattle.std.specs.Prelude.{◌==◌}
use Rattle.std.proofs.lemmas.Bool.{lt-ltb}
use Rattle.std.proofs.lemmas.List.Elements.{All-head, All-tail}
use Rattle.mbdc_change.specs.State.{State, ReadingRow}
use Rattle.mbdc_change.specs.Apply.{confirmed_up_to}
use Rattle.mbdc_change.specs.Valid.{IsOpenSerial, IsState}

abbrev pub serials : List ReadingRow → List ℕ
serials readings = map (λ (r : ReadingRow). r.serial) readings

nat_cmp-less : (x y : ℕ) → x < y → nat_cmp x y ≡ Less
nat_cmp-less x y below = ap (λ (b : Bool). cond b Less (cond (x == y) Equal Greater)) (lt-ltb x y below)

all_of_kept : (P : ℕ → Type 0) (p : ReadingRow → Bool) (rs : List ReadingRow) → AllByRecursion P (serials rs) → AllByRecursion P (serials (filter p rs))
all_of_kept P p [] all = tt
all_of_kept P p (r ∷ rs) all =
    elim (p r) as (λ b. AllByRecursion P (serials (cond b (r ∷ filter p rs) (filter p rs)))) [ true ↦ (all.0, all_of_kept P p rs all.1) | false ↦ all_of_kept P p rs all.1 ]

pub sorted_of_kept : (p : ReadingRow → Bool) (rs : List ReadingRow) → IsStrictlySortedBy nat_cmp (serials rs) → IsStrictlySortedBy nat_cmp (serials (filter p rs))
unfolding IsStrictlySortedBy
sorted_of_kept p [] sorted = tt
sorted_of_kept p (r ∷ rs) sorted =
    elim (p r) as (λ b. IsStrictlySortedBy nat_cmp (serials (cond b (r ∷ filter p rs) (filter p rs))))
    [ true ↦ (all_of_kept (λ y. nat_cmp r.serial y ≡ Less) p rs sorted.0, sorted_of_kept p rs sorted.1) | false ↦ sorted_of_kept p rs sorted.1 ]

all_of_pushed : (P : ℕ → Type 0) (rs : List ReadingRow) (new : ReadingRow) → AllByRecursion P (serials rs) → P new.serial → AllByRecursion P (serials (rs ++ new ∷ []))
all_of_pushed P [] new all is = (is, tt)
all_of_pushed P (r ∷ rs) new all is = (all.0, all_of_pushed P rs new all.1 is)

pub sorted_of_pushed : (rs : List ReadingRow) (new : ReadingRow) → IsStrictlySortedBy nat_cmp (serials rs) → All (λ r. r.serial < new.serial) rs → IsStrictlySortedBy nat_cmp (serials (rs ++ new ∷ []))
unfolding IsStrictlySortedBy
sorted_of_pushed [] new sorted below = (tt, tt)
sorted_of_pushed (r ∷ rs) new sorted below = (
  all_of_pushed (λ y. nat_cmp r.serial y ≡ Less) rs new sorted.0 (nat_cmp-less r.serial new.serial (All-head (λ (q : ReadingRow). q.serial < new.serial) r rs below)),
  sorted_of_pushed rs new sorted.1 (All-tail (λ (q : ReadingRow). q.serial < new.serial) r rs below),
)

-- up to the mark or below it no reading goes
pub none_go : (serial confirmed next : ℕ) (rs : List ReadingRow) → serial ≤ confirmed → All (λ (r : ReadingRow). IsOpenSerial confirmed next r.serial) rs → filter (λ (r : ReadingRow). nat_lt serial r.serial) rs ≡ rs
none_go serial confirmed next [] le are = refl
none_go serial confirmed next (r ∷ rs) le are =
    let first = All-head (λ (r : ReadingRow). IsOpenSerial confirmed next r.serial) r rs are in
    let behind = All-tail (λ (r : ReadingRow). IsOpenSerial confirmed next r.serial) r rs are in
    let low = first.low in
    let stays = filter (λ (r : ReadingRow). nat_lt serial r.serial) rs in
    ap (λ (b : Bool). cond b (r ∷ stays) stays) (lt-ltb serial r.serial (omega (arith, le, low)))
    ∙ ap (λ (l : List ReadingRow). r ∷ l) (none_go serial confirmed next rs le behind)

-- so the state is as it was
pub confirmed_before : (serial budget : ℕ) (s : State) → IsState budget s → serial ≤ s.confirmed → confirmed_up_to serial s ≡ s
confirmed_before serial budget s is le =
    let mark : max s.confirmed serial ≡ s.confirmed = omega arith in
    let stay = none_go serial s.confirmed s.next_serial s.readings le is.serials_are in
    λ i. record s { confirmed = mark i; readings = stay i }
