-- The rows of the table of lines: one for a word, and what follows from its row.
use Rattle.std.proofs.Common.{◌≡◌, ℕ, zero, suc, ◌+◌, ◌-◌, ◌<◌, ◌≤◌, ◌&&◌, List, [], ◌∷◌, length, get_or, drop, map, Bool, true, false, cond, refl, ap, sym, ◌∙◌, subst, arith, Option, None, Some}
use Rattle.std.specs.Prelude.{◌==◌, IsTrue, codes, find, nat_le, nat_lt, not, slice_get}
use Rattle.std.specs.List.{AllByRecursion, list_all}
use Rattle.std.specs.Str.{bytes_eq}
use Rattle.std.proofs.lemmas.Bool.{and_from, and_parts, eq-eqb, false≢true, leb-true, ltb-true, not-true}
use Rattle.std.proofs.lemmas.Bool.Decides.{nat_tests}
use Rattle.std.proofs.lemmas.Option.{none-some, same_Some, slice_get-get_or}
use Rattle.dc_address.specs.Text.{text_of}
use Rattle.dc_address.specs.declared.identity.Identity.{Identity}
use Rattle.dc_units.specs.Date.{Day, exists}
use Rattle.mbdc_audit.specs.declared.field.Kind.{Kind}
use Rattle.mbdc_audit.specs.declared.field.Kind.TheVariants as kind
use Rattle.mbdc_audit.specs.declared.line.Line.{Line}
use Rattle.mbdc_audit.specs.declared.line.Word.{Word}
use Rattle.mbdc_audit.specs.declared.line.Word.TheVariants as word
use Rattle.mbdc_audit.specs.declared.smallest.Spelled.{Spelled}
use Rattle.mbdc_audit.specs.Field.{fields_of}
use Rattle.mbdc_audit.specs.File.{or_empty, text_at}
use Rattle.mbdc_audit.specs.View.{beside_count}
use Rattle.mbdc_audit.specs.Line.{AreRead, Fields, HasDay, IsBounded, IsLine, Reads, Rule, Says, digits_of, number_at, is_header, may_follow, or_0, rules, text_place}
use Rattle.mbdc_audit.specs.Moment.{ahead, behind, days_of, from_1970}
use Rattle.mbdc_audit.specs.Smallest.{whole_in}
use Rattle.mbdc_audit.proofs.Forms.{equal, word_iff}
use Rattle.mbdc_audit.proofs.Lines.{one_less, reads_at}
use Rattle.mbdc_audit.proofs.Months.{small}

-- ---- one row for a word

list_all_at : (p : Rule → Bool) (xs : List Rule) → list_all p xs ≡ true → (k : ℕ) (d : Rule) → k < length xs → p (get_or xs k d) ≡ true
list_all_at p [] all k d lt = absurd (omega arith)
list_all_at p (x ∷ xs) all zero d lt = (and_parts (p x) (list_all p xs) all).0
list_all_at p (x ∷ xs) all (suc k) d lt = list_all_at p xs (and_parts (p x) (list_all p xs) all).1 k d (omega arith)

abbrev differs : Rule → Rule → Bool
differs r s = not (bytes_eq r.word s.word)

abbrev distinct : List Rule → Bool
distinct [] = true
distinct (r ∷ rs) = list_all (differs r) rs && distinct rs

abbrev is_of : List ℕ → Rule → Bool
is_of text r = bytes_eq text r.word

two_apart : (text : List ℕ) (r s : Rule) → bytes_eq text r.word ≡ true → s.word ≡ text → differs r s ≡ true → ⊥
two_apart text r s here is apart =
    let same : r.word ≡ s.word = sym ((word_iff text r.word).0 here) ∙ sym is in
    false≢true (sym (not-true (bytes_eq r.word s.word) apart) ∙ equal r.word s.word same)

only_one : (text : List ℕ) (xs : List Rule) → distinct xs ≡ true → (r : Rule) → find (is_of text) xs ≡ Some r
    → (k : ℕ) (x : Rule) → k < length xs → get_or xs k x ≡ x → x.word ≡ text → x ≡ r
only_one text [] apart r found k x lt at is = absurd (omega arith)
only_one text (y ∷ ys) apart r found zero x lt at is =
    let here : is_of text y ≡ true = equal text y.word (sym is ∙ ap (λ (z : Rule). z.word) (sym at)) in
    sym at ∙ same_Some y r (sym (ap (λ (t : Bool). cond t (Some y) (find (is_of text) ys)) here) ∙ found)
only_one text (y ∷ ys) apart r found (suc k) x lt at is =
    let parts = and_parts (list_all (differs y) ys) (distinct ys) apart in
    elim (is_of text y) as (λ (t : Bool). is_of text y ≡ t → cond t (Some y) (find (is_of text) ys) ≡ Some r → x ≡ r) [
      | true ↦ λ here first. absurd (two_apart text y x here is
          (subst (λ (z : Rule). differs y z ≡ true) at (list_all_at (differs y) ys parts.0 k x (omega arith))))
      | false ↦ λ here later. only_one text ys parts.1 r later k x (omega arith) at is
    ] refl found

found_at : (text : List ℕ) (xs : List Rule) (r : Rule) → find (is_of text) xs ≡ Some r
    → (k : ℕ) × (k < length xs) × (get_or xs k r ≡ r) × (r.word ≡ text)
found_at text [] r found = absurd (none-some r found)
found_at text (y ∷ ys) r found =
    elim (is_of text y) as (λ (t : Bool). is_of text y ≡ t → cond t (Some y) (find (is_of text) ys) ≡ Some r
    → (k : ℕ) × (k < length (y ∷ ys)) × (get_or (y ∷ ys) k r ≡ r) × (r.word ≡ text)) [
      | true ↦ λ here first. (0, omega arith, same_Some y r first, sym (ap (λ (z : Rule). z.word) (same_Some y r first)) ∙ sym ((word_iff text y.word).0 here))
      | false ↦ λ here later. let more = found_at text ys r later in (suc more.0, (let lt = more.1 in omega arith), more.2, more.3)
    ] refl found

none_in : (text : List ℕ) (y : Rule) (ys : List Rule) (k : ℕ) (x : Rule) → k < length (y ∷ ys) → get_or (y ∷ ys) k x ≡ x → x.word ≡ text
    → is_of text y ≡ false → ((j : ℕ) (z : Rule) → j < length ys → get_or ys j z ≡ z → z.word ≡ text → ⊥) → ⊥
none_in text y ys zero x lt at is other rest =
    false≢true (sym other ∙ equal text y.word (sym is ∙ ap (λ (z : Rule). z.word) (sym at)))
none_in text y ys (suc k) x lt at is other rest = rest k x (omega arith) at is

none_at : (text : List ℕ) (xs : List Rule) → find (is_of text) xs ≡ None → (k : ℕ) (x : Rule) → k < length xs → get_or xs k x ≡ x → x.word ≡ text → ⊥
none_at text [] none k x lt at is = omega arith
none_at text (y ∷ ys) none k x lt at is =
    elim (is_of text y) as (λ (t : Bool). is_of text y ≡ t → cond t (Some y) (find (is_of text) ys) ≡ None → ⊥) [
      | true ↦ λ here first. none-some y (sym first)
      | false ↦ λ here later. none_in text y ys k x lt at is here (none_at text ys later)
    ] refl none

pub all_apart : distinct rules ≡ true
unfolding rules
all_apart = refl

pub the_row : (text : List ℕ) (r : Rule) → find (is_of text) rules ≡ Some r → (k : ℕ) (x : Rule) → k < length rules → get_or rules k x ≡ x → x.word ≡ text → x ≡ r
the_row text r found = only_one text rules all_apart r found

pub row_at : (text : List ℕ) (r : Rule) → find (is_of text) rules ≡ Some r → (k : ℕ) × (k < length rules) × (get_or rules k r ≡ r) × (r.word ≡ text)
row_at text r found = found_at text rules r found

pub no_row : (text : List ℕ) → find (is_of text) rules ≡ None → (k : ℕ) (x : Rule) → k < length rules → get_or rules k x ≡ x → x.word ≡ text → ⊥
no_row text none = none_at text rules none

-- ---- what holds of each row

each_row : (P : Rule → Type 0) (xs : List Rule) → AllByRecursion P xs → (k : ℕ) (x : Rule) → k < length xs → get_or xs k x ≡ x → P x
each_row P [] all k x lt at = absurd (omega arith)
each_row P (y ∷ ys) all zero x lt at = subst P at all.0
each_row P (y ∷ ys) all (suc k) x lt at = each_row P ys all.1 k x (omega arith) at

short : list_all (λ r. nat_le (length r.kinds) 7) rules ≡ true
unfolding rules
short = refl

pub few_fields : (k : ℕ) (x : Rule) → k < length rules → get_or rules k x ≡ x → length x.kinds ≤ 7
few_fields k x lt at = leb-true (length x.kinds) 7
    (subst (λ (r : Rule). nat_le (length r.kinds) 7 ≡ true) at (list_all_at (λ r. nat_le (length r.kinds) 7) rules short k x lt))

-- ---- numbers that are kept in fewer bits

type_small : (field : List ℕ) (n : Option Spelled) → Reads kind.Type field n → or_0 (digits_of (Some n)) < 256
type_small field n is = subst (λ (x : Option Spelled). or_0 (digits_of (Some x)) < 256) (sym is.2) is.1.0

days_small : (d : Day) → IsTrue (exists d.year d.month d.day) → days_of d < 4294967296
days_small d there = let few = small d there in grind (arith, nat_tests, few)

since_small : (days n : ℕ) → days < 4294967296 → from_1970 days ≡ Some n → n < 4294967296
since_small days n few is = grind (arith, nat_tests)

day_small : (field : List ℕ) (n : Option Spelled) → Reads kind.Day field n → or_0 (digits_of (Some n)) < 4294967296
day_small field n is = subst (λ (x : Option Spelled). or_0 (digits_of (Some x)) < 4294967296) (sym is.2)
    (since_small (days_of is.1.0) is.0 (days_small is.1.0 is.1.1) is.1.3)

in_minutes : (few : Bool) (m : ℕ) (said : Option Spelled) → (few ≡ true → m < 65536) → Says (cond few (Some m) None) said → or_0 (digits_of (Some said)) < 65536
in_minutes true m said low is = subst (λ (x : Option Spelled). or_0 (digits_of (Some x)) < 65536) (sym is) (low refl)
in_minutes false m said low is = absurd is

ahead_small : (o : Option ℕ) (said : Option Spelled) → Says (ahead o) said → or_0 (digits_of (Some said)) < 65536
ahead_small None said is = absurd is
ahead_small (Some n) said is = in_minutes (nat_lt n 10000) (10080 + n) said (λ few. grind (arith, nat_tests)) is

behind_small : (o : Option ℕ) (said : Option Spelled) → Says (behind o) said → or_0 (digits_of (Some said)) < 65536
behind_small None said is = absurd is
behind_small (Some n) said is = in_minutes (nat_lt n 10000) (10080 - n) said (λ few. omega arith) is

minutes_small : (field : List ℕ) (said : Option Spelled) → Reads kind.Offset field said → or_0 (digits_of (Some said)) < 65536
minutes_small [] said is = absurd is
minutes_small (byte ∷ rest) said is =
    elim (byte == 45) as (λ (t : Bool). Says (cond t (behind (whole_in rest)) (ahead (whole_in (byte ∷ rest)))) said → or_0 (digits_of (Some said)) < 65536)
    [ true ↦ λ s. behind_small (whole_in rest) said s | false ↦ λ s. ahead_small (whole_in (byte ∷ rest)) said s ] is

-- a number at a place, by its form
at_place : (P : ℕ → Type 0) (k : Kind) (l : Line) (kinds : List Kind) (lefts fields : Fields) (place : ℕ)
    → ((field : List ℕ) (n : Option Spelled) → Reads k field n → P (or_0 (digits_of (Some n)))) → AreRead kinds lefts fields l.numbers
    → place < length kinds → get_or kinds place k ≡ k → P (number_at place l)
at_place P k l kinds lefts fields place holds read lt is =
    let one = reads_at kinds lefts fields l.numbers read place k None lt in
    let here : slice_get l.numbers place ≡ Some (get_or l.numbers place None) = slice_get-get_or l.numbers place None one.2 in
    subst (λ (o : Option (Option Spelled)). P (or_0 (digits_of o))) (sym here)
    (holds one.0 (get_or l.numbers place None) (subst (λ (x : Kind). Reads x one.0 (get_or l.numbers place None)) is one.1))

has_day : (l : Line) (kinds : List Kind) (lefts fields : Fields) (place : ℕ) → AreRead kinds lefts fields l.numbers → place + 1 < length kinds
    → get_or kinds place kind.Day ≡ kind.Day → get_or kinds (place + 1) kind.Offset ≡ kind.Offset → HasDay place l
has_day l kinds lefts fields place read lt day offset = (
  at_place (λ n. n < 4294967296) kind.Day l kinds lefts fields place day_small read (omega arith) day,
  at_place (λ n. n < 65536) kind.Offset l kinds lefts fields (place + 1) minutes_small read lt offset,
)

abbrev Bounds : Rule → Type 0
Bounds r = (l : Line) (lefts fields : Fields) → AreRead r.kinds lefts fields l.numbers → IsBounded r.is l

abbrev span_kinds : List Kind
span_kinds = kind.Whole ∷ kind.Day ∷ kind.Offset ∷ kind.Day ∷ kind.Offset ∷ []

abbrev stored_kinds : List Kind
stored_kinds = kind.Whole ∷ kind.Day ∷ kind.Offset ∷ kind.Bodies ∷ []

each_bound : AllByRecursion Bounds rules
unfolding rules
each_bound = (
  λ l lefts fields read. tt,
  (
    λ l lefts fields read. tt,
    (
      λ l lefts fields read. at_place (λ n. n < 256) kind.Type l (kind.Any ∷ kind.Type ∷ kind.Why ∷ []) lefts fields 1 type_small read (omega arith) refl,
      (
        λ l lefts fields read. (has_day l span_kinds lefts fields 1 read (omega arith) refl refl, has_day l span_kinds lefts fields 3 read (omega arith) refl refl),
        (
          λ l lefts fields read. tt,
          (
            λ l lefts fields read. tt,
            (
              λ l lefts fields read. tt,
              (
                λ l lefts fields read. tt,
                (
                  λ l lefts fields read. tt,
                  (
                    λ l lefts fields read. tt,
                    (
                      λ l lefts fields read. tt,
                      (
                        λ l lefts fields read. tt,
                        (
                          λ l lefts fields read. tt,
                          (
                            λ l lefts fields read. tt,
                            (
                              λ l lefts fields read. has_day l stored_kinds lefts fields 1 read (omega arith) refl refl,
                              (
                                λ l lefts fields read. has_day l stored_kinds lefts fields 1 read (omega arith) refl refl,
                                (λ l lefts fields read. tt, (λ l lefts fields read. tt, (λ l lefts fields read. tt, (λ l lefts fields read. tt, (λ l lefts fields read. tt, (λ l lefts fields read. tt, (λ l lefts fields read. tt, (λ l lefts fields read. tt, (λ l lefts fields read. tt, (λ l lefts fields read. tt, (λ l lefts fields read. tt, (λ l lefts fields read. tt, (λ l lefts fields read. tt, (λ l lefts fields read. tt, (λ l lefts fields read. tt, (λ l lefts fields read. tt, (λ l lefts fields read. tt, (λ l lefts fields read. tt, (λ l lefts fields read. tt, tt))))))))))))))))))),
                              ),
                            ),
                          ),
                        ),
                      ),
                    ),
                  ),
                ),
              ),
            ),
          ),
        ),
      ),
    ),
  ),
)

pub bounded : (k : ℕ) (x : Rule) → k < length rules → get_or rules k x ≡ x → (l : Line) (lefts fields : Fields)
    → AreRead x.kinds lefts fields l.numbers → x.is ≡ l.word → IsBounded l.word l
bounded k x lt at l lefts fields read is =
    subst (λ (w : Word). IsBounded w l) is (each_row Bounds rules each_bound k x lt at l lefts fields read)

-- ---- the field of a meter's identity

abbrev is_meter : Word → Bool
is_meter word.Meter = true
is_meter _ = false

abbrev HasIdentity : Rule → Type 0
HasIdentity r = is_meter r.is ≡ true → (1 < length r.kinds) × (get_or r.kinds 1 kind.Any ≡ kind.Identity)

other : {P : Type 0} → false ≡ true → P
other is = absurd (false≢true is)

each_identity : AllByRecursion HasIdentity rules
unfolding rules
each_identity = (
  other,
  (
    other,
    (
      other,
      (
        other,
        (
          other,
          (
            other,
            (
              other,
              (
                other,
                (
                  other,
                  (
                    other,
                    (
                      other,
                      (
                        λ e. (omega arith, refl),
                        (other, (other, (other, (other, (other, (other, (other, (other, (other, (other, (other, (other, (other, (other, (other, (other, (other, (other, (other, (other, (other, (other, (other, tt))))))))))))))))))))))),
                      ),
                    ),
                  ),
                ),
              ),
            ),
          ),
        ),
      ),
    ),
  ),
)

pub meter_identity : (text : List ℕ) (l : Line) → IsLine text l → l.word ≡ word.Meter
    → (i : Identity) × (i.version < 256) × (i.kind < 256) × (text_at 1 l ≡ text_of i)
meter_identity text l is meter =
    let r : Rule = is.row.1 in
    let has = each_row HasIdentity rules each_identity is.row.0 r is.row.2 is.row.3 (ap is_meter (is.row.4.1 ∙ meter)) in
    let one = reads_at r.kinds is.lefts (map (λ f. f.now) l.fields) l.numbers is.row.4.3 1 kind.Any None has.0 in
    let reads = subst (λ (k : Kind). Reads k one.0 (get_or l.numbers 1 None)) has.1 one.1 in
    (reads.1.0, reads.1.1, reads.1.2, ap or_empty one.3 ∙ reads.1.3)

-- ---- a number's text, with what is beside it

texts_fit : list_all (λ r. nat_lt (text_place r.kinds + beside_count r.is) 7) rules ≡ true
unfolding rules
texts_fit = refl

pub text_fits : (text : List ℕ) (l : Line) → IsLine text l → l.text + beside_count l.word < 7
text_fits text l is =
    let r : Rule = is.row.1 in
    let fits : nat_lt (text_place r.kinds + beside_count r.is) 7 ≡ true =
    subst (λ (x : Rule). nat_lt (text_place x.kinds + beside_count x.is) 7 ≡ true) is.row.3
    (list_all_at (λ x. nat_lt (text_place x.kinds + beside_count x.is) 7) rules texts_fit is.row.0 r is.row.2) in
    let few = ltb-true (text_place r.kinds + beside_count r.is) 7 fits in
    subst (λ (w : Word). l.text + beside_count w < 7) is.row.4.1
    (subst (λ (n : ℕ). n + beside_count r.is < 7) (sym is.row.4.4) few)

-- ---- the header, and the stage of a line

abbrev IsHeaderRow : Rule → Type 0
IsHeaderRow r = (r.stage == 1) ≡ true → (r.word ≡ codes "audit") × (r.kinds ≡ kind.Two ∷ kind.Month ∷ [])

each_header : AllByRecursion IsHeaderRow rules
unfolding rules
each_header = (λ e. (refl, refl), (other, (other, (other, (other, (other, (other, (other, (other, (other, (other, (other, (other, (other, (other, (other, (other, (other, (other, (other, (other, (other, (other, (other, (other, (other, (other, (other, (other, (other, (other, (other, (other, (other, (other, tt)))))))))))))))))))))))))))))))))))

header_rest : (word a : List ℕ) (lefts fields : Fields) (numbers : List (Option Spelled)) → word ≡ codes "audit" → a ≡ codes "2"
    → AreRead (kind.Month ∷ []) lefts fields numbers → is_header (word ∷ a ∷ lefts) ≡ true
header_rest word a [] fields numbers is is' read = absurd read
header_rest word a (b ∷ []) fields numbers is is' read = and_from _ _ (equal word (codes "audit") is) (equal a (codes "2") is')
header_rest word a (b ∷ c ∷ more) fields numbers is is' read =
    absurd ((one_less kind.Month [] (b ∷ c ∷ more) fields numbers read).2)

equal_numbers : (m n : ℕ) → m ≡ n → (m == n) ≡ true
equal_numbers m n is = eq-eqb m n is

header_fields : (text word : List ℕ) (lefts fields : Fields) (numbers : List (Option Spelled)) → word ≡ codes "audit"
    → AreRead (kind.Two ∷ kind.Month ∷ []) lefts fields numbers → is_header (word ∷ lefts) ≡ true
header_fields text word [] fields numbers is read = absurd read
header_fields text word (a ∷ lefts) fields numbers is read =
    let one = one_less kind.Two (kind.Month ∷ []) (a ∷ lefts) fields numbers read in
    header_rest word a lefts (drop 1 fields) (drop 1 numbers) is one.1.1 one.2

pub header_line : (text : List ℕ) (l : Line) → IsLine text l → l.stage ≡ 1 → is_header (fields_of text) ≡ true
header_line text l is first =
    let r : Rule = is.row.1 in
    let here : (r.stage == 1) ≡ true = equal_numbers r.stage 1 (is.row.4.2 ∙ first) in
    let row = each_row IsHeaderRow rules each_header is.row.0 r is.row.2 is.row.3 here in
    ap is_header is.fields_are ∙ header_fields text is.word is.lefts (map (λ f. f.now) l.fields) l.numbers (sym is.row.4.0 ∙ row.0)
    (subst (λ (ks : List Kind). AreRead ks is.lefts (map (λ f. f.now) l.fields) l.numbers) row.1 is.row.4.3)

one_of : (text : List ℕ) (o : Option Rule) → find (is_of text) rules ≡ o → (j k : ℕ) (x y : Rule) → j < length rules → k < length rules
    → get_or rules j x ≡ x → get_or rules k y ≡ y → x.word ≡ text → y.word ≡ text → x ≡ y
one_of text None none j k x y lt lt' at at' is is' = absurd (no_row text none j x lt at is)
one_of text (Some r) found j k x y lt lt' at at' is is' = the_row text r found j x lt at is ∙ sym (the_row text r found k y lt' at' is')

pub one_row : (text : List ℕ) (l m : Line) (is : IsLine text l) (is' : IsLine text m) → is.row.1 ≡ is'.row.1
one_row text l m is is' =
    let same : is'.word ≡ is.word = ap (λ (fs : Fields). get_or fs 0 []) (sym is'.fields_are ∙ is.fields_are) in
    one_of is.word (find (is_of is.word) rules) refl is.row.0 is'.row.0 is.row.1 is'.row.1 is.row.2 is'.row.2 is.row.3 is'.row.3
    is.row.4.0 (is'.row.4.0 ∙ same)

pub one_stage : (text : List ℕ) (l m : Line) → IsLine text l → IsLine text m → l.stage ≡ m.stage
one_stage text l m is is' = sym is.row.4.2 ∙ (ap (λ (r : Rule). r.stage) (one_row text l m is is') ∙ is'.row.4.2)

pub first_stage : (next before : ℕ) → before ≡ 0 → may_follow next before ≡ true → next ≡ 1
first_stage next before is may = grind (arith, nat_tests)
