-- The mark of a place's number by the values of one window.
use Rattle.std.proofs.Common.{arith, ◌≡◌, ◌≤◌, ◌<◌, ◌&&◌, ◌||◌, ◌^◌, ℕ, List, length, Bool, true, false, not, map, refl, sym, ap, ◌∙◌, Option, Some, None, Ok, Err, if◌then◌else◌}
use Rattle.std.specs.Prelude.{All, ◌==◌, is_some, nat_eq, nat_lt}
use Rattle.std.specs.List.{list_any}
use Rattle.std.proofs.lemmas.Bool.Decides.{nat_tests}
use Rattle.mbdc_audit.specs.Consumption.Mark.{exchanges_in, marked_in}
use Rattle.mbdc_audit.specs.Consumption.Period.{checked, consumption}
use Rattle.mbdc_audit.specs.declared.consumption.entry.Entry.{Entry}
use Rattle.mbdc_audit.specs.declared.consumption.fault.AmountFault.{AmountFault}
use Rattle.mbdc_audit.specs.declared.consumption.fault.AmountFault.TheVariants.{TooLarge}
use Rattle.mbdc_audit.specs.Amount.{amount, are_whole, basis, counting, due, entries, entry_of, grade, is_below, is_final, is_near}
use Rattle.mbdc_audit.specs.Grade.{has_number}
use Rattle.mbdc_audit.specs.House.{Run, Value}
use Rattle.mbdc_audit.specs.Kept.{is_so, know, lasting, capped}
use Rattle.mbdc_audit.specs.View.{known_in}
use Rattle.mbdc_audit.specs.declared.grade.Grade.{Grade}
use Rattle.mbdc_audit.specs.declared.grade.Grade.TheVariants.{Measured, Hand, Provisional, Estimated, Unclear, Disturbed, Missing}
use Rattle.mbdc_audit.specs.declared.house.Value as value_type
use Rattle.mbdc_audit.proofs.Lasting.{Found, known_list, map_known}
use Rattle.mbdc_audit.proofs.Nears.{counted_known}

-- ---- amounts in 64 bits

pub capped_ok : (x a : Option ℕ) → Ok a ≡ checked x → a ≡ capped x
capped_ok None a e = cc
capped_ok (Some n) a e = elim (nat_lt n (2 ^ 64)) as (λ (b : Bool). Ok a ≡ (if b then Ok (Some n) else Err TooLarge)
    → a ≡ (if b then Some n else Some (10 ^ 18))) [ true ↦ λ h. cc | false ↦ λ h. absurd cc ] e

pub capped_err : (x : Option ℕ) (f : AmountFault) → Err f ≡ checked x → Some (10 ^ 18) ≡ capped x
capped_err None f e = absurd cc
capped_err (Some n) f e = elim (nat_lt n (2 ^ 64)) as (λ (b : Bool). Err f ≡ (if b then Ok (Some n) else Err TooLarge)
    → Some (10 ^ 18) ≡ (if b then Some n else Some (10 ^ 18))) [ true ↦ λ h. absurd cc | false ↦ λ h. refl ] e

not_small : (n a b : ℕ) → a ≤ b → nat_lt n b ≡ false → false ≡ nat_lt n a
not_small n a b le e = grind (arith, nat_tests)

still_small : (n a b : ℕ) → a ≤ b → nat_lt n a ≡ true → nat_lt n b ≡ true
still_small n a b le e = grind (arith, nat_tests)

pub capped_below : (x : Option ℕ) → is_below (capped x) ≡ is_below x
capped_below None = refl
capped_below (Some n) = elim (nat_lt n (2 ^ 64)) as (λ (b : Bool). nat_lt n (2 ^ 64) ≡ b
    → is_below (if b then Some n else Some (10 ^ 18)) ≡ nat_lt n (10 ^ 18)) [
      | true ↦ λ e. refl
      | false ↦ λ e. not_small n (10 ^ 18) (2 ^ 64) (omega arith) e
    ] refl

pub capped_some : (x : Option ℕ) → is_some (capped x) ≡ is_some x
capped_some None = refl
capped_some (Some n) = elim (nat_lt n (2 ^ 64)) as (λ (b : Bool). is_some (if b then Some n else Some (10 ^ 18)) ≡ true) [ true ↦ refl | false ↦ refl ]

pub capped_same : (x : Option ℕ) → is_below x ≡ true → capped x ≡ x
capped_same None e = refl
capped_same (Some n) e = ap (λ (b : Bool). if b then Some n else Some (10 ^ 18)) (still_small n (10 ^ 18) (2 ^ 64) (omega arith) e)

-- ---- the first that applies

abbrev pub by : Bool → Bool → Bool → Bool → Bool → Bool → Grade
by disturbed clear there far final put = if disturbed then Disturbed
    else if not clear then Unclear
    else if not there then Missing
    else if far then Estimated
    else if not final then Provisional
    else if put then Hand
    else Measured

first : (d c t f l p : Bool) → d ≡ true → Disturbed ≡ by d c t f l p
first d c t f l p e = ap (λ (x : Bool). by x c t f l p) (sym e)

second : (d c t f l p : Bool) → d ≡ false → c ≡ false → Unclear ≡ by d c t f l p
second d c t f l p e e' = ap (λ (x : Bool). by x false t f l p) (sym e) ∙ ap (λ (x : Bool). by d x t f l p) (sym e')

third : (d c t f l p : Bool) → d ≡ false → c ≡ true → by false true t f l p ≡ by d c t f l p
third d c t f l p e e' = ap (λ (x : Bool). by x true t f l p) (sym e) ∙ ap (λ (x : Bool). by d x t f l p) (sym e')

pub same_number : (d c t f l p : Bool) (a x : Option ℕ) → (c ≡ true → a ≡ x)
    → (if has_number (by d c t f l p) then a else None) ≡ (if has_number (by d c t f l p) then x else None)
same_number true c t f l p a x h = refl
same_number false false t f l p a x h = refl
same_number false true t f l p a x h = ap (λ (y : Option ℕ). if has_number (by false true t f l p) then y else None) (h refl)

pub back_true : (a b : Bool) → (a && b) ≡ true → b ≡ true
back_true true b e = e
back_true false b e = absurd cc

-- ---- of a curve

pub record Known (runs : List Run) (xs : List value_type.Value) (es : List Entry) : Type 0 where
  pub found : All Found xs
  pub counted : lasting xs ≡ xs
  pub same : es ≡ map (λ v. entry_of runs (know v)) xs

pub counted_in : (xs : List value_type.Value) → All Found xs → lasting xs ≡ xs → counting (known_in xs) ≡ known_in xs
counted_in xs found same = counted_known xs found same ∙ sym (known_list xs found)

pub entries_are : (runs : List Run) (xs : List value_type.Value) (es : List Entry) → Known runs xs es → entries runs (known_in xs) ≡ es
entries_are runs xs es k = ap (map (entry_of runs)) (counted_in xs k.found k.counted)
    ∙ (sym (map_known (entry_of runs) xs k.found) ∙ sym k.same)

module _ (runs : List Run) (xs : List value_type.Value) (es : List Entry) (from to : ℕ) (a : Option ℕ) where
  abbrev pub Disturbs : Bool
  Disturbs = nat_lt 0 (length (marked_in es from to))

  abbrev pub Clear : Bool
  Clear = are_whole from to (known_in xs) 0 runs && ((length (exchanges_in es from to) == due from to runs) && is_below a)

  abbrev pub Far : Bool
  Far = list_any (λ v. is_so true v.source) (basis from to (known_in xs)) || (not (is_near from (known_in xs)) || not (is_near to (known_in xs)))

  abbrev pub Final : Bool
  Final = is_final runs (known_in xs) to

  abbrev pub Put : Bool
  Put = list_any (λ v. is_so false v.source) (basis from to (known_in xs))

  pub graded_by : Known runs xs es → a ≡ capped (consumption es from to)
      → by Disturbs Clear (is_some a) Far Final Put ≡ grade runs (known_in xs) from to
  graded_by k e =
      let x : Option ℕ = consumption es from to in
      let below : is_below a ≡ is_below x = ap is_below e ∙ capped_below x in
      let some : is_some a ≡ is_some x = ap is_some e ∙ capped_some x in
      ap (λ (b : Bool). by Disturbs (are_whole from to (known_in xs) 0 runs && ((length (exchanges_in es from to) == due from to runs) && b))
      (is_some a) Far Final Put) below
      ∙ (ap (λ (b : Bool). by Disturbs (are_whole from to (known_in xs) 0 runs && ((length (exchanges_in es from to) == due from to runs) && is_below x))
      b Far Final Put) some
      ∙ (ap (λ (l : List Entry). by (nat_lt 0 (length (marked_in l from to)))
      (are_whole from to (known_in xs) 0 runs && ((length (exchanges_in l from to) == due from to runs) && is_below (consumption l from to)))
      (is_some (consumption l from to)) Far Final Put) (sym (entries_are runs xs es k))
      ∙ ap (λ (l : List Value). by (nat_lt 0 (length (marked_in (entries runs (known_in xs)) from to)))
      (are_whole from to l 0 runs && ((length (exchanges_in (entries runs (known_in xs)) from to) == due from to runs)
      && is_below (consumption (entries runs (known_in xs)) from to)))
      (is_some (consumption (entries runs (known_in xs)) from to)) Far Final Put) (sym (counted_in xs k.found k.counted))))

  pub is_disturbed : Known runs xs es → a ≡ capped (consumption es from to)
      → Disturbs ≡ true → Disturbed ≡ grade runs (known_in xs) from to
  is_disturbed k e d = first Disturbs Clear (is_some a) Far Final Put d ∙ graded_by k e

  pub is_unclear : Known runs xs es → a ≡ capped (consumption es from to)
      → Disturbs ≡ false → Clear ≡ false → Unclear ≡ grade runs (known_in xs) from to
  is_unclear k e d c = second Disturbs Clear (is_some a) Far Final Put d c ∙ graded_by k e

  pub is_later : Known runs xs es → a ≡ capped (consumption es from to)
      → Disturbs ≡ false → Clear ≡ true → by false true (is_some a) Far Final Put ≡ grade runs (known_in xs) from to
  is_later k e d c = third Disturbs Clear (is_some a) Far Final Put d c ∙ graded_by k e

  module _ (k : Known runs xs es) (e : a ≡ capped (consumption es from to)) (d : Disturbs ≡ false) (c : Clear ≡ true) where
    pub is_missing : is_some a ≡ false → Missing ≡ grade runs (known_in xs) from to
    is_missing t = ap (λ (x : Bool). by false true x Far Final Put) (sym t) ∙ is_later k e d c

    pub is_guessed : is_some a ≡ true → Far ≡ true → Estimated ≡ grade runs (known_in xs) from to
    is_guessed t f = ap (λ (x : Bool). by false true true x Final Put) (sym f)
        ∙ (ap (λ (x : Bool). by false true x Far Final Put) (sym t) ∙ is_later k e d c)

    near : is_some a ≡ true → Far ≡ false → by false true true false Final Put ≡ grade runs (known_in xs) from to
    near t f = ap (λ (x : Bool). by false true true x Final Put) (sym f)
        ∙ (ap (λ (x : Bool). by false true x Far Final Put) (sym t) ∙ is_later k e d c)

    pub is_provisional : is_some a ≡ true → Far ≡ false → Final ≡ false → Provisional ≡ grade runs (known_in xs) from to
    is_provisional t f l = ap (λ (x : Bool). by false true true false x Put) (sym l) ∙ near t f

    pub is_by : is_some a ≡ true → Far ≡ false → Final ≡ true → (b : Bool) → Put ≡ b
        → (if b then Hand else Measured) ≡ grade runs (known_in xs) from to
    is_by t f l b p = ap (λ (x : Bool). by false true true false true x) (sym p)
        ∙ (ap (λ (x : Bool). by false true true false x Put) (sym l) ∙ near t f)

  pub has_amount : Known runs xs es → a ≡ capped (consumption es from to) → (g : Grade) → g ≡ grade runs (known_in xs) from to
      → (if has_number g then a else None)
      ≡ (if has_number (grade runs (known_in xs) from to) then amount runs (known_in xs) from to else None)
  has_amount k e g is =
      let x : Option ℕ = consumption es from to in
      let clear : Clear ≡ true → a ≡ x = λ c.
      let b : is_below a ≡ true = back_true (length (exchanges_in es from to) == due from to runs) (is_below a)
      (back_true (are_whole from to (known_in xs) 0 runs) ((length (exchanges_in es from to) == due from to runs) && is_below a) c) in
      e ∙ capped_same x (sym (capped_below x) ∙ (ap is_below (sym e) ∙ b)) in
      ap (λ (y : Grade). if has_number y then a else None) (is ∙ sym (graded_by k e))
      ∙ (same_number Disturbs Clear (is_some a) Far Final Put a x clear
      ∙ (ap (λ (y : Grade). if has_number y then x else None) (graded_by k e)
      ∙ ap (λ (l : List Entry). if has_number (grade runs (known_in xs) from to) then consumption l from to else None)
      (sym (entries_are runs xs es k))))

-- ---- what the code finds

pub more : (n m : ℕ) → n ≡ m → 0 < n → nat_lt 0 m ≡ true
more n m e lt = grind (arith, nat_tests)

pub none : (n m : ℕ) → n ≡ m → n ≤ 0 → nat_lt 0 m ≡ false
none n m e le = grind (arith, nat_tests)

same_is : (x d : ℕ) → x ≡ d → (x == d) ≡ true
same_is x d e = grind (arith, nat_tests)

other_is : (x d : ℕ) → (x ≡ d → ⊥) → (x == d) ≡ false
other_is x d e = grind (arith, nat_tests)

some_is : (n d : ℕ) → Some n ≡ Some d → n ≡ d
some_is n d e = cc

pub clear_some : (w : Bool) (x d n m : ℕ) (s b : Bool) → Some n ≡ (if w then Some d else None) → m ≡ x → m ≡ n → s ≡ b
    → s ≡ (w && ((x == d) && b))
clear_some true x d n m s b e is same small = small ∙ ap (λ (q : Bool). q && b) (sym (same_is x d (sym is ∙ (same ∙ some_is n d e))))
clear_some false x d n m s b e is same small = absurd cc

pub clear_other : (w : Bool) (x d n m : ℕ) (b : Bool) → Some n ≡ (if w then Some d else None) → m ≡ x → (m ≡ n → ⊥)
    → nat_eq m n ≡ (w && ((x == d) && b))
clear_other true x d n m b e is other = other_is m n other
    ∙ ap (λ (q : Bool). q && b) (sym (other_is x d (λ same. other (is ∙ (same ∙ sym (some_is n d e))))))
clear_other false x d n m b e is other = absurd cc

pub clear_none : (w : Bool) (d : ℕ) (r : Bool) → None ≡ (if w then Some d else None) → false ≡ (w && r)
clear_none true d r e = absurd cc
clear_none false d r e = refl
