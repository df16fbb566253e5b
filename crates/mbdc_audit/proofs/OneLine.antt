-- Two lines of one text say the same.
use Rattle.std.proofs.Common.{◌≡◌, ℕ, ◌+◌, ◌-◌, ◌∙◌, Bool, true, false, List, [], ◌∷◌, length, map, get_or, take, drop, Option, None, Some, ◌⊎◌, inl, inr, refl, ap, sym, subst, arith}
use Rattle.std.specs.Prelude.{All, codes, slice_get}
use Rattle.std.proofs.lemmas.Option.{same_Some}
use Rattle.dc_units.proofs.DayTexts.{one_day}
use Rattle.mbdc_audit.specs.declared.field.Kind.{Kind}
use Rattle.mbdc_audit.specs.declared.field.Kind.TheVariants as kind
use Rattle.mbdc_audit.specs.declared.line.Line.{Line}
use Rattle.mbdc_audit.specs.declared.line.Word.{Word}
use Rattle.mbdc_audit.specs.declared.line.Word.TheVariants as word
use Rattle.mbdc_audit.specs.declared.smallest.Spelled.{Spelled}
use Rattle.mbdc_audit.specs.declared.house.Fact.{Fact}
use Rattle.mbdc_audit.specs.declared.house.Fact.TheVariants.{Factor, Emissions, Degrees, Price, Average}
use Rattle.mbdc_audit.specs.File.{Asks, IsFact, IsSaid, IsSource, Names, Said, begins, uses, allows, spans, declares, lives, stands, counts, opens, reads, strikes, parts, asks, totals, closes, IsVib, or_empty, period_place, span_place, text_at}
use Rattle.std.proofs.lemmas.List.{length-map}
use Rattle.mbdc_audit.specs.Uses.{counted_named, size_named, unit_named}
use Rattle.mbdc_audit.specs.declared.uses.Unit.{Unit}
use Rattle.mbdc_audit.specs.Smallest.{decimal_in, ratio_in, whole_in}
use Rattle.mbdc_audit.specs.House.{House, Key, Number, Source, Value, current, stored, ended, anew, put, first, last}
use Rattle.mbdc_audit.specs.Line.{AreRead, Fields, IsDayOf, IsLine, IsTypeOf, Reads, Rule, Says, SaysAbove0, SaysDecimal, digits_of, maybe_at, number_at, or_0, spelled, text_place}
use Rattle.mbdc_audit.specs.Moment.{number_of_day}
use Rattle.mbdc_audit.specs.File.{Adds, IsWhose, NoOther, NoSize, is_of_place, use_place}
use Rattle.mbdc_audit.specs.View.{beside_count}
use Rattle.mbdc_audit.proofs.Bodies.{all_front, all_rest, type_spelled}
use Rattle.mbdc_audit.proofs.Forms.{dash_no_ratio, dash_no_whole, mark_no_decimal, not_both}
use Rattle.mbdc_audit.proofs.Table.{one_row}

-- ---- a field of a form spells one number

says_one : (o : Option ℕ) (n m : Option Spelled) → Says o n → Says o m → n ≡ m
says_one None n m is is' = absurd is
says_one (Some x) n m is is' = is ∙ sym is'

above_one : (o : Option ℕ) (n m : Option Spelled) → SaysAbove0 o n → SaysAbove0 o m → n ≡ m
above_one None n m is is' = absurd is
above_one (Some x) n m is is' = is.1 ∙ sym is'.1

decimal_one : (o : Option Spelled) (n m : Option Spelled) → SaysDecimal o n → SaysDecimal o m → n ≡ m
decimal_one None n m is is' = absurd is
decimal_one (Some x) n m is is' = is ∙ sym is'

or_one : (P : Type 0) (Q : Option Spelled → Type 0) (n m : Option Spelled) → (P → (said : Option Spelled) → Q said → ⊥)
    → (Q n → Q m → n ≡ m) → (P × (n ≡ None)) ⊎ Q n → (P × (m ≡ None)) ⊎ Q m → n ≡ m
or_one P Q n m apart one (inl is) (inl is') = is.1 ∙ sym is'.1
or_one P Q n m apart one (inl is) (inr is') = absurd (apart is.0 m is')
or_one P Q n m apart one (inr is) (inl is') = absurd (apart is'.0 n is)
or_one P Q n m apart one (inr is) (inr is') = one is is'

how_one : (P Q : Type 0) (n m : Option Spelled) → (P → Q → ⊥) → (P × (n ≡ spelled 0)) ⊎ (Q × (n ≡ spelled 1))
    → (P × (m ≡ spelled 0)) ⊎ (Q × (m ≡ spelled 1)) → n ≡ m
how_one P Q n m apart (inl is) (inl is') = is.1 ∙ sym is'.1
how_one P Q n m apart (inl is) (inr is') = absurd (apart is.0 is'.0)
how_one P Q n m apart (inr is) (inl is') = absurd (apart is'.0 is.0)
how_one P Q n m apart (inr is) (inr is') = is.1 ∙ sym is'.1

day_one : (field : List ℕ) (n m : ℕ) → IsDayOf field n → IsDayOf field m → n ≡ m
day_one field n m is is' =
    let same = one_day is.0 is'.0 is.1 is'.1 (sym is.2 ∙ is'.2) in
    same_Some n m (sym is.3 ∙ (ap number_of_day same ∙ is'.3))

type_one : (field : List ℕ) (n m : ℕ) → IsTypeOf field n → IsTypeOf field m → n ≡ m
type_one field n m is is' =
    ap (λ (xs : List ℕ). get_or xs 0 0) (same_Some (n ∷ []) (m ∷ []) (sym (type_spelled field n is) ∙ type_spelled field m is'))

reads_one : (k : Kind) (field : List ℕ) (n m : Option Spelled) → Reads k field n → Reads k field m → n ≡ m
reads_one kind.Any field n m is is' = is ∙ sym is'
reads_one kind.Beside field n m is is' = is ∙ sym is'
reads_one kind.Two field n m is is' = is.0 ∙ sym is'.0
reads_one kind.Dash field n m is is' = is.0 ∙ sym is'.0
reads_one kind.Month field n m is is' = is.0 ∙ sym is'.0
reads_one kind.Use field n m is is' = is.0 ∙ sym is'.0
reads_one kind.Flat field n m is is' = is.0 ∙ sym is'.0
reads_one kind.Why field n m is is' = is.0 ∙ sym is'.0
reads_one kind.Identity field n m is is' = is.0 ∙ sym is'.0
reads_one kind.Vib field n m is is' = is.0 ∙ sym is'.0
reads_one kind.Quantity field n m is is' = is.0 ∙ sym is'.0
reads_one kind.Bodies field n m is is' = is.0 ∙ sym is'.0
reads_one kind.Text field n m is is' = is.0 ∙ sym is'.0
reads_one kind.Whole field n m is is' = says_one _ n m is is'
reads_one kind.Ratio field n m is is' = says_one _ n m is is'
reads_one kind.Offset field n m is is' = says_one _ n m is is'
reads_one kind.Positive field n m is is' = above_one _ n m is is'
reads_one kind.Decimal field n m is is' = decimal_one _ n m is is'
reads_one kind.WholeOrNone field n m is is' = or_one (field ≡ codes "-") (Says (whole_in field)) n m (dash_no_whole field) (says_one (whole_in field) n m) is is'
reads_one kind.PositiveOrNone field n m is is' =
    or_one (field ≡ codes "-") (SaysAbove0 (ratio_in field)) n m (dash_no_ratio field) (above_one (ratio_in field) n m) is is'
reads_one kind.Exact field n m is is' =
    or_one (field ≡ codes "?") (SaysDecimal (decimal_in 9 field)) n m (mark_no_decimal field) (decimal_one (decimal_in 9 field) n m) is is'
reads_one kind.Day field n m is is' = is.2 ∙ (ap (λ (x : ℕ). spelled x) (day_one field is.0 is'.0 is.1 is'.1) ∙ sym is'.2)
reads_one kind.Type field n m is is' = is.2 ∙ (ap (λ (x : ℕ). spelled x) (type_one field is.0 is'.0 is.1 is'.1) ∙ sym is'.2)
reads_one kind.How field n m is is' = how_one (field ≡ codes "hand") (field ≡ codes "estimated") n m (not_both field) is is'

-- ---- a text has one line

blank_one : {X : Type 0} (e : X) (xs ys : List X) → All (λ x. x ≡ e) xs → All (λ x. x ≡ e) ys → length xs ≡ length ys → xs ≡ ys
blank_one e [] [] all all' long = refl
blank_one e [] (y ∷ ys) all all' long = absurd (omega arith)
blank_one e (x ∷ xs) [] all all' long = absurd (omega arith)
blank_one e (x ∷ xs) (y ∷ ys) all all' long =
    ap (λ z. z ∷ xs) (all_front (λ x. x ≡ e) x xs all ∙ sym (all_front (λ x. x ≡ e) y ys all'))
    ∙ ap (λ zs. y ∷ zs) (blank_one e xs ys (all_rest (λ x. x ≡ e) x xs all) (all_rest (λ x. x ≡ e) y ys all') (omega arith))

one_reading : (kinds : List Kind) (lefts fs gs : Fields) (ns ms : List (Option Spelled)) → AreRead kinds lefts fs ns → AreRead kinds lefts gs ms
    → length fs ≡ length gs → length ns ≡ length ms → (fs ≡ gs) × (ns ≡ ms)
one_reading [] [] fs gs ns ms is is' long long' = (blank_one [] fs gs is.0 is'.0 long, blank_one None ns ms is.1 is'.1 long')
one_reading [] (left ∷ lefts) fs gs ns ms is is' long long' = absurd is
one_reading (k ∷ ks) [] fs gs ns ms is is' long long' = absurd is
one_reading (k ∷ ks) (left ∷ lefts) [] gs ns ms is is' long long' = absurd is
one_reading (k ∷ ks) (left ∷ lefts) (f ∷ fs) gs [] ms is is' long long' = absurd is
one_reading (k ∷ ks) (left ∷ lefts) (f ∷ fs) [] (n ∷ ns) ms is is' long long' = absurd is'
one_reading (k ∷ ks) (left ∷ lefts) (f ∷ fs) (g ∷ gs) (n ∷ ns) [] is is' long long' = absurd is'
one_reading (k ∷ ks) (left ∷ lefts) (f ∷ fs) (g ∷ gs) (n ∷ ns) (m ∷ ms) is is' long long' =
    let field : g ≡ f = is'.0 ∙ sym is.0 in
    let number : n ≡ m = reads_one k f n m is.1 (subst (λ (x : List ℕ). Reads k x m) field is'.1) in
    let more = one_reading ks _ fs gs ns ms is.2 is'.2 (omega arith) (omega arith) in (
      ap (λ (x : List ℕ). x ∷ fs) (sym field) ∙ ap (λ (xs : Fields). g ∷ xs) more.0,
      ap (λ (x : Option Spelled). x ∷ ns) number ∙ ap (λ (xs : List (Option Spelled)). m ∷ xs) more.1,
    )

-- lines that say the same, where each has it
pub record Alike (l m : Line) : Type 0 where
  pub word : l.word ≡ m.word
  pub fields : map (λ f. f.now) l.fields ≡ map (λ f. f.now) m.fields
  pub numbers : l.numbers ≡ m.numbers
  pub text : l.text ≡ m.text

pub one_line : (text : List ℕ) (l m : Line) → IsLine text l → IsLine text m → Alike l m
one_line text l m is is' =
    let row : is.row.1 ≡ is'.row.1 = one_row text l m is is' in
    let lefts : is.lefts ≡ is'.lefts = ap (λ (fs : Fields). drop 1 fs) (sym is.fields_are ∙ is'.fields_are) in
    let read = subst (λ (r : Rule). AreRead r.kinds is.lefts (map (λ f. f.now) l.fields) l.numbers) row is.row.4.3 in
    let both = one_reading is'.row.1.kinds is'.lefts (map (λ f. f.now) l.fields) (map (λ f. f.now) m.fields) l.numbers m.numbers
    (subst (λ (ls : Fields). AreRead is'.row.1.kinds ls (map (λ f. f.now) l.fields) l.numbers) lefts read) is'.row.4.3
    (length-map l.fields (λ f. f.now) ∙ (is.places.0 ∙ (sym is'.places.0 ∙ sym (length-map m.fields (λ f. f.now)))))
    (is.places.1 ∙ sym is'.places.1) in
    record {
      word = sym is.row.4.1 ∙ (ap (λ (r : Rule). r.is) row ∙ is'.row.4.1);
      fields = both.0;
      numbers = both.1;
      text = is.row.4.4 ∙ (ap (λ (r : Rule). text_place r.kinds) row ∙ sym is'.row.4.4);
    }

-- ---- what one says, the other says

module _ (h : House) (l m : Line) (like : Alike l m) where
  -- equations of the other line
  n : (i : ℕ) → number_at i m ≡ number_at i l
  n i = ap (λ (ns : List (Option Spelled)). or_0 (digits_of (slice_get ns i))) (sym like.numbers)

  y : (i : ℕ) → maybe_at i m ≡ maybe_at i l
  y i = ap (λ (ns : List (Option Spelled)). digits_of (slice_get ns i)) (sym like.numbers)

  s : (i : ℕ) → slice_get m.numbers i ≡ slice_get l.numbers i
  s i = ap (λ (ns : List (Option Spelled)). slice_get ns i) (sym like.numbers)

  t : (i : ℕ) → text_at i m ≡ text_at i l
  t i = ap (λ (fs : Fields). or_empty (slice_get fs i)) (sym like.fields)

  w : m.word ≡ l.word
  w = sym like.word

  source : (v : Value) (x : Source) → IsSource v x l → IsSource v x m
  source v (current bodies) is = (w ∙ is.0, n 1 ∙ is.1, t 2 ∙ is.2)
  source v (stored e bodies) is = (w ∙ is.0, (n 1 ∙ is.1.0, n 2 ∙ is.1.1), t 3 ∙ is.2)
  source v (ended e bodies) is = (w ∙ is.0, (n 1 ∙ is.1.0, n 2 ∙ is.1.1), t 3 ∙ is.2)
  source v anew is = w ∙ is
  source v (put guess x) is = (w ∙ is.0, n 1 ∙ is.1, (s 2 ∙ is.2.0, t 3 ∙ is.2.1))
  source v (first guess x) is = (w ∙ is.0, (s 1 ∙ is.1.0, t 2 ∙ is.1.1), n 3 ∙ is.2)
  source v (last guess x) is = (w ∙ is.0, (s 1 ∙ is.1.0, t 2 ∙ is.1.1), n 3 ∙ is.2)

  unit : (place : ℕ) (u : Option Unit) → unit_named (text_at place l) ≡ u → unit_named (text_at place m) ≡ u
  unit place u is = ap unit_named (t place) ∙ is

  fact : (f : Fact) → IsFact h f l → IsFact h f m
  fact (Factor used) is = (w ∙ is.0, t 0 ∙ is.1)
  fact (Emissions used) is = (w ∙ is.0, t 0 ∙ is.1)
  fact Degrees is = w ∙ is
  fact (Price used u) is = (w ∙ is.0, (t 0 ∙ is.1.0, unit 1 (Some u) is.1.1, is.1.2))
  fact (Average used u) is = (w ∙ is.0, (t 0 ∙ is.1.0, unit 1 (Some u) is.1.1, is.1.2))

  names : (k : Key) (x : Word) → Names x h k l → Names x h k m
  names k word.Shown is = (n 0 ∙ is.0, unit 3 (Some k.unit) is.1, is.2)
  names k word.Value is = (is.0, is.1, ap size_named (t 3) ∙ is.2)
  names k word.OfFlat is = (n 0 ∙ is.0, t 1 ∙ is.1, (t 2 ∙ is.2.0, unit 3 (Some k.unit) is.2.1, is.2.2))
  names k word.OfHouse is = (n 0 ∙ is.0, (t 1 ∙ is.1.0, unit 2 (Some k.unit) is.1.1, is.1.2))
  names k word.Change is = (n 0 ∙ is.0, n 1 ∙ is.1, (n 2 ∙ is.2.0, (t 3 ∙ is.2.1.0, unit 4 (Some k.unit) is.2.1.1, is.2.1.2)))
  names k word.Weather is = (n 0 ∙ is.0, n 1 ∙ is.1, n 2 ∙ is.2, t 3 ∙ is.3, is.4)
  names k word.Carbon is = (n 0 ∙ is.0, n 1 ∙ is.1, t 2 ∙ is.2, is.3)
  names k word.OfUser is = (n 0 ∙ is.0, (n 1 ∙ is.1.0, (t 2 ∙ is.1.1.0, unit 3 (Some k.unit) is.1.1.1, is.1.1.2)))
  names k word.Mean is = (n 0 ∙ is.0, (n 1 ∙ is.1.0, (t 2 ∙ is.1.1.0, unit 3 (Some k.unit) is.1.1.1, is.1.1.2)))
  names k word.Cost is = (n 0 ∙ is.0, (n 1 ∙ is.1.0, (t 2 ∙ is.1.1.0, unit 3 (Some k.unit) is.1.1.1, is.1.1.2)))
  names k _ is = absurd is

  whose : (b : Bool) (k : Key) → IsWhose b k l → IsWhose b k m
  whose true k is = is
  whose false k is = (
    is.0 ∙ (ap (λ (v : Word). number_at (use_place v - 1) l) (sym w) ∙ sym (n (use_place m.word - 1))),
    is.1 ∙ (ap (λ (v : Word). text_at (use_place v - 1) l) (sym w) ∙ sym (t (use_place m.word - 1))),
  )

  place_at : (i : ℕ) (x : ℕ) → number_at (period_place l.word + i) l ≡ x → number_at (period_place m.word + i) m ≡ x
  place_at i x is = n (period_place m.word + i) ∙ (ap (λ (v : Word). number_at (period_place v + i) l) w ∙ is)

  asked : (x : Number) → Asks h x l → Asks h x m
  asked x is = record {
    word_is = w ∙ is.word_is;
    from_is = n (period_place m.word) ∙ (ap (λ (v : Word). number_at (period_place v) l) w ∙ is.from_is);
    to_is = place_at 1 x.key.to is.to_is;
    named = subst (λ (v : Word). Names v h x.key m) like.word (names x.key l.word is.named);
    text_is = t m.text ∙ (ap (λ (i : ℕ). text_at i l) (sym like.text) ∙ is.text_is);
    beside_is = ap (λ (fs : Fields). take (length x.beside) (drop (m.text + 1) fs)) (sym like.fields)
        ∙ (ap (λ (i : ℕ). take (length x.beside) (drop (i + 1) (map (λ f. f.now) l.fields))) (sym like.text) ∙ is.beside_is);
    beside_all = is.beside_all ∙ ap beside_count like.word;
    other = subst (λ (v : Word). NoOther v x.key) like.word is.other;
    size = subst (λ (v : Word). NoSize v x.key) like.word is.size;
    whose = whose (is_of_place m.word) x.key (subst (λ (v : Word). IsWhose (is_of_place v) x.key l) like.word is.whose);
  }

  pub same_said : (x : Said) → IsSaid h x l → IsSaid h x m
  same_said (begins label) is = (w ∙ is.0, t 1 ∙ is.1)
  same_said (uses u) is = (w ∙ is.0, t 0 ∙ is.1, ap counted_named (t 1) ∙ is.2)
  same_said (allows a) is = (w ∙ is.0, t 0 ∙ is.1, n 1 ∙ is.2, t 2 ∙ is.3)
  same_said (spans i x) is = (w ∙ is.0, n 0 ∙ is.1, (n 1 ∙ is.2.0, n 2 ∙ is.2.1), (n 3 ∙ is.3.0, n 4 ∙ is.3.1))
  same_said (declares d) is = (fact d.fact is.0, n (span_place d.fact) ∙ is.1, n (span_place d.fact + 1) ∙ is.2)
  same_said (lives u) is = (w ∙ is.0, n 0 ∙ is.1, t 1 ∙ is.2, y 2 ∙ is.3)
  same_said (stands i p) is = (w ∙ is.0, n 0 ∙ is.1, t 1 ∙ is.2, t 2 ∙ is.3, n 3 ∙ is.4)
  same_said (counts i r) is = (
    w ∙ is.0,
    n 0 ∙ is.1,
    t 1 ∙ is.2,
    n 2 ∙ is.3,
    y 3 ∙ is.4,
    n 4 ∙ is.5,
    n 5 ∙ is.6,
    subst (λ (field : List ℕ). IsVib field r.vib) (sym (t 6)) is.7,
    is.8,
    is.9,
  )
  same_said (opens span) is = (w ∙ is.0, n 0 ∙ is.1)
  same_said (reads v) is = (n 0 ∙ is.0, source v v.source is.1)
  same_said (strikes x) is = (w ∙ is.0, n 0 ∙ is.1, n 1 ∙ is.2, t 2 ∙ is.3)
  same_said (parts span x) is = (w ∙ is.0, n 0 ∙ is.1, n 1 ∙ is.2, n 2 ∙ is.3, y 3 ∙ is.4)
  same_said (asks x) is = asked x is
  same_said totals is = w ∙ is
  same_said closes is = w ∙ is

pub same_adds : (old new : House) (l m : Line) → Alike l m → Adds old l new → Adds old m new
same_adds old new l m like adds = record { said = adds.said; may = adds.may; says = same_said new l m like adds.said adds.says; with_it = adds.with_it }
