-- What the code sums place by place is the sum of the holder's shares.
use Rattle.std.proofs.Common.{arith, ◌≡◌, ◌&&◌, ◌+◌, ◌*◌, ◌<◌, ◌≤◌, ℕ, suc, List, [], ◌∷◌, ◌++◌, Bool, true, false, filter, length}
use Rattle.std.proofs.Common.{refl, sym, ap, ◌∙◌, if◌then◌else◌, is_some, fold, append-nil}
use Rattle.std.specs.Prelude.{nat_lt, flat_map}
use Rattle.std.proofs.lemmas.List.Sums.{sum_by-append}
use Rattle.std.proofs.lemmas.List.Folds.{list_all-append}
use Rattle.std.proofs.lemmas.Bool.Decides.{nat_tests}
use Rattle.mbdc_audit.specs.declared.grade.Grade.{Grade}
use Rattle.mbdc_audit.specs.declared.grade.Grade.TheVariants.{Measured, Hand, Provisional, Estimated, Unclear, Disturbed, Missing}
use Rattle.mbdc_audit.specs.declared.numbers.Total.{Total}
use Rattle.mbdc_audit.specs.Grade.{rank, worst as worse}
use Rattle.mbdc_audit.specs.Published.{Share, amount_or_0, is_whole, plain, weighted, worst}

-- ---- the worse one of two

thrice : (x y z : ℕ) (a b c : Grade) → (if nat_lt x (if nat_lt y z then z else y) then (if nat_lt y z then c else b) else a)
    ≡ (if nat_lt (if nat_lt x y then y else x) z then c else (if nat_lt x y then b else a))
thrice x y z a b c = grind (arith, nat_tests)

rank_if : (t : Bool) (a b : Grade) → rank (if t then a else b) ≡ (if t then rank a else rank b)
rank_if true a b = refl
rank_if false a b = refl

pub worse_of_three : (a b c : Grade) → worse a (worse b c) ≡ worse (worse a b) c
worse_of_three a b c =
    ap (λ (n : ℕ). if nat_lt (rank a) n then (if nat_lt (rank b) (rank c) then c else b) else a) (rank_if (nat_lt (rank b) (rank c)) c b)
    ∙ (thrice (rank a) (rank b) (rank c) a b c
    ∙ ap (λ (n : ℕ). if nat_lt n (rank c) then c else (if nat_lt (rank a) (rank b) then b else a)) (sym (rank_if (nat_lt (rank a) (rank b)) b a)))

both_below : (x y z : ℕ) → nat_lt (if nat_lt x y then y else x) z ≡ (nat_lt x z && nat_lt y z)
both_below x y z = grind (arith, nat_tests)

pub worse_below : (a b : Grade) (z : ℕ) → nat_lt (rank (worse a b)) z ≡ (nat_lt (rank a) z && nat_lt (rank b) z)
worse_below a b z = ap (λ (n : ℕ). nat_lt n z) (rank_if (nat_lt (rank a) (rank b)) b a) ∙ both_below (rank a) (rank b) z

pub worse_measured : (g : Grade) → worse Measured g ≡ g
worse_measured Measured = refl
worse_measured Hand = refl
worse_measured Provisional = refl
worse_measured Estimated = refl
worse_measured Unclear = refl
worse_measured Disturbed = refl
worse_measured Missing = refl

pub worst_of_two : (s : Share) (xs : List Share) (r : Share) (ys : List Share)
    → worst ((s ∷ xs) ++ (r ∷ ys)) ≡ worse (worst (s ∷ xs)) (worst (r ∷ ys))
worst_of_two s [] r ys = refl
worst_of_two s (x ∷ xs) r ys = ap (λ (g : Grade). worse s.mark g) (worst_of_two x xs r ys)
    ∙ worse_of_three s.mark (worst (x ∷ xs)) (worst (r ∷ ys))

-- ---- a window's shares

-- a sum with a window's shares more
abbrev pub with_row : Bool → Total → List Share → Total
with_row true t row = record { plain = t.plain + plain row; weighted = t.weighted + weighted row; grade = worse t.grade (worst row); count = t.count + 1; without = t.without }
with_row false t row = record { plain = t.plain; weighted = t.weighted; grade = worse t.grade (worst row); count = t.count + 1; without = t.without + 1 }

abbrev pub add_row : Total → List Share → Total
add_row t [] = t
add_row t (s ∷ ss) = with_row (is_whole (s ∷ ss)) t (s ∷ ss)

abbrev pub has_some : List Share → Bool
has_some [] = false
has_some (s ∷ ss) = true

-- the rows that count, and of these those that have a number
abbrev pub whole_rows : List (List Share) → List (List Share)
whole_rows rows = filter is_whole (filter has_some rows)

abbrev pub joined : List (List Share) → List Share
joined rows = flat_map (λ row. row) rows

abbrev pub worse_row : Grade → List Share → Grade
worse_row g [] = g
worse_row g (s ∷ ss) = worse g (worst (s ∷ ss))

pub record Adds (t u : Total) (rows : List (List Share)) : Type 0 where
  pub plain_is : u.plain ≡ t.plain + plain (joined (whole_rows rows))
  pub weighted_is : u.weighted ≡ t.weighted + weighted (joined (whole_rows rows))
  pub grade_is : u.grade ≡ worse_row t.grade (joined rows)
  pub count_is : u.count ≡ t.count + length (filter has_some rows)
  pub without_is : u.without + length (whole_rows rows) ≡ t.without + length (filter has_some rows)

-- a row more at the front
worse_rows : (g : Grade) (s : Share) (ss ys : List Share) → worse_row (worse g (worst (s ∷ ss))) ys ≡ worse_row g ((s ∷ ss) ++ ys)
worse_rows g s ss [] = ap (λ (xs : List Share). worse_row g xs) (sym (append-nil (s ∷ ss)))
worse_rows g s ss (y ∷ ys) = sym (worse_of_three g (worst (s ∷ ss)) (worst (y ∷ ys)))
    ∙ ap (λ (h : Grade). worse g h) (sym (worst_of_two s ss y ys))

pub whole_more : (s : Share) (ss : List Share) (rows : List (List Share)) (b : Bool) → is_whole (s ∷ ss) ≡ b
    → whole_rows ((s ∷ ss) ∷ rows) ≡ (if b then (s ∷ ss) ∷ whole_rows rows else whole_rows rows)
whole_more s ss rows b e = ap (λ (c : Bool). if c then (s ∷ ss) ∷ whole_rows rows else whole_rows rows) e

row_more : (t u : Total) (s : Share) (ss : List Share) (rows : List (List Share)) (b : Bool) → is_whole (s ∷ ss) ≡ b
    → Adds (with_row b t (s ∷ ss)) u rows → Adds t u ((s ∷ ss) ∷ rows)
row_more t u s ss rows true e a =
    let is : whole_rows ((s ∷ ss) ∷ rows) ≡ (s ∷ ss) ∷ whole_rows rows = whole_more s ss rows true e in
    let p = sum_by-append (λ (x : Share). amount_or_0 x.amount) (s ∷ ss) (joined (whole_rows rows)) in
    let w = sum_by-append (λ (x : Share). amount_or_0 x.amount * x.weight) (s ∷ ss) (joined (whole_rows rows)) in
    record {
      plain_is = omega (arith, a.plain_is, p, ap (λ (rs : List (List Share)). plain (joined rs)) is);
      weighted_is = omega (arith, a.weighted_is, w, ap (λ (rs : List (List Share)). weighted (joined rs)) is);
      grade_is = a.grade_is ∙ worse_rows t.grade s ss (joined rows);
      count_is = omega (arith, a.count_is);
      without_is = omega (arith, a.without_is, ap (λ (rs : List (List Share)). length rs) is);
    }
row_more t u s ss rows false e a =
    let is : whole_rows ((s ∷ ss) ∷ rows) ≡ whole_rows rows = whole_more s ss rows false e in
    record {
      plain_is = a.plain_is ∙ ap (λ (rs : List (List Share)). t.plain + plain (joined rs)) (sym is);
      weighted_is = a.weighted_is ∙ ap (λ (rs : List (List Share)). t.weighted + weighted (joined rs)) (sym is);
      grade_is = a.grade_is ∙ worse_rows t.grade s ss (joined rows);
      count_is = omega (arith, a.count_is);
      without_is = omega (arith, a.without_is, ap (λ (rs : List (List Share)). length rs) is);
    }

pub adds : (t : Total) (rows : List (List Share)) → Adds t (fold add_row t rows) rows
adds t [] = record { plain_is = omega arith; weighted_is = omega arith; grade_is = refl; count_is = omega arith; without_is = refl }
adds t ([] ∷ rows) = let a = adds t rows in
    record { plain_is = a.plain_is; weighted_is = a.weighted_is; grade_is = a.grade_is; count_is = a.count_is; without_is = a.without_is }
adds t ((s ∷ ss) ∷ rows) = row_more t (fold add_row (add_row t (s ∷ ss)) rows) s ss rows (is_whole (s ∷ ss)) refl
    (adds (add_row t (s ∷ ss)) rows)

-- ---- the rows that have a number

whole_append : (xs ys : List Share) → is_whole (xs ++ ys) ≡ (is_whole xs && is_whole ys)
whole_append xs ys = list_all-append (λ (s : Share). is_some s.amount) xs ys

are_whole_more : (s : Share) (ss : List Share) (rows : List (List Share)) (b : Bool) → is_whole (s ∷ ss) ≡ b → is_whole (joined (whole_rows rows)) ≡ true
    → is_whole (joined (if b then (s ∷ ss) ∷ whole_rows rows else whole_rows rows)) ≡ true
are_whole_more s ss rows true e more = whole_append (s ∷ ss) (joined (whole_rows rows))
    ∙ (ap (λ (b : Bool). b && is_whole (joined (whole_rows rows))) e ∙ more)
are_whole_more s ss rows false e more = more

pub are_whole : (rows : List (List Share)) → is_whole (joined (whole_rows rows)) ≡ true
are_whole [] = refl
are_whole ([] ∷ rows) = are_whole rows
are_whole ((s ∷ ss) ∷ rows) = are_whole_more s ss rows (is_whole (s ∷ ss)) refl (are_whole rows)

some_more : (s : Share) (ss : List Share) (rows : List (List Share)) (b : Bool)
    → (0 < length (whole_rows rows) → 0 < length (joined (whole_rows rows)))
    → 0 < length (if b then (s ∷ ss) ∷ whole_rows rows else whole_rows rows)
    → 0 < length (joined (if b then (s ∷ ss) ∷ whole_rows rows else whole_rows rows))
some_more s ss rows true more some = omega arith
some_more s ss rows false more some = more some

pub some_joined : (rows : List (List Share)) → 0 < length (whole_rows rows) → 0 < length (joined (whole_rows rows))
some_joined [] some = some
some_joined ([] ∷ rows) some = some_joined rows some
some_joined ((s ∷ ss) ∷ rows) some = some_more s ss rows (is_whole (s ∷ ss)) (some_joined rows) some

pub none_joined : (rows : List (List Share)) → length rows ≡ 0 → joined rows ≡ []
none_joined [] none = refl
none_joined (row ∷ rows) none = absurd (omega (arith, none))

few_more : (s : Share) (ss : List Share) (rows : List (List Share)) (b : Bool) (n : ℕ) → length (whole_rows rows) ≤ n
    → length (if b then (s ∷ ss) ∷ whole_rows rows else whole_rows rows) ≤ n + 1
few_more s ss rows true n le = omega (arith, le)
few_more s ss rows false n le = omega (arith, le)

pub wholes_few : (rows : List (List Share)) → length (whole_rows rows) ≤ length (filter has_some rows)
wholes_few [] = omega arith
wholes_few ([] ∷ rows) = wholes_few rows
wholes_few ((s ∷ ss) ∷ rows) = omega (arith, few_more s ss rows (is_whole (s ∷ ss)) (length (filter has_some rows)) (wholes_few rows))

all_more : (s : Share) (ss : List Share) (rows : List (List Share)) (b : Bool)
    → (length (whole_rows rows) ≡ length (filter has_some rows) → joined (whole_rows rows) ≡ joined rows)
    → length (if b then (s ∷ ss) ∷ whole_rows rows else whole_rows rows) ≡ suc (length (filter has_some rows))
    → joined (if b then (s ∷ ss) ∷ whole_rows rows else whole_rows rows) ≡ (s ∷ ss) ++ joined rows
all_more s ss rows true more e = ap (λ (ys : List Share). (s ∷ ss) ++ ys) (more (omega (arith, e)))
all_more s ss rows false more e = absurd (omega (arith, e, wholes_few rows))

pub all_joined : (rows : List (List Share)) → length (whole_rows rows) ≡ length (filter has_some rows) → joined (whole_rows rows) ≡ joined rows
all_joined [] e = refl
all_joined ([] ∷ rows) e = all_joined rows e
all_joined ((s ∷ ss) ∷ rows) e = all_more s ss rows (is_whole (s ∷ ss)) (all_joined rows) e

and_false : (b : Bool) → (b && false) ≡ false
and_false true = refl
and_false false = refl

lack_more : (s : Share) (ss : List Share) (rows : List (List Share)) (b : Bool) → is_whole (s ∷ ss) ≡ b
    → (length (whole_rows rows) < length (filter has_some rows) → is_whole (joined rows) ≡ false)
    → length (if b then (s ∷ ss) ∷ whole_rows rows else whole_rows rows) < suc (length (filter has_some rows))
    → is_whole ((s ∷ ss) ++ joined rows) ≡ false
lack_more s ss rows true e more lt = whole_append (s ∷ ss) (joined rows)
    ∙ (ap (λ (b : Bool). is_whole (s ∷ ss) && b) (more (omega (arith, lt))) ∙ and_false (is_whole (s ∷ ss)))
lack_more s ss rows false e more lt = whole_append (s ∷ ss) (joined rows) ∙ ap (λ (b : Bool). b && is_whole (joined rows)) e

pub some_lack : (rows : List (List Share)) → length (whole_rows rows) < length (filter has_some rows) → is_whole (joined rows) ≡ false
some_lack [] lt = absurd (omega (arith, lt))
some_lack ([] ∷ rows) lt = some_lack rows lt
some_lack ((s ∷ ss) ∷ rows) lt = lack_more s ss rows (is_whole (s ∷ ss)) refl (some_lack rows) lt
