-- How a list is read, record by record.
use Rattle.std.proofs.Common.{◌≡◌, ◌⊎◌, inl, inr, ⊎_elim, ℕ, ◌+◌, ◌<◌, ◌≤◌, Bool, true, false, List, [], ◌∷◌, ◌++◌, length, map, drop, codes, Option, None, Some, Result, Ok, Err, refl, ap, sym, ◌∙◌, subst, arith, append-nil, length-append}
use Rattle.std.proofs.lemmas.Bool.{cases_lt}
use Rattle.std.specs.Prelude.{IsUtf8}
use Rattle.std.proofs.lemmas.List.{drop_all, length-map, map-append, nil_from_length}
use Rattle.csv.proofs.ReadFacts.{rows-end, rows-more}
use Rattle.csv.proofs.RecordFacts.{field-none}
use Rattle.csv.specs.Machine.{Read, next_record}
use Rattle.csv.specs.Reading.{ReadRecord, Reached, ReadsOn, Ready, reader_trim, source_of, trim_by}
use Rattle.csv.specs.Records.{trimmed}
use Rattle.csv.specs.declared.parser.State.{State}
use Rattle.csv.specs.declared.parser.State.TheVariants.{StartRecord}
use Rattle.csv.specs.declared.reader.Reader.{Reader}
use Rattle.csv.specs.declared.reader.Trim.{Trim}
use Rattle.csv.specs.declared.reader.Trim.TheVariants.{All}
use Rattle.dc_address.specs.Text.{text_of}
use Rattle.dc_address.specs.declared.identity.Identity.{Identity}
use Rattle.dc_meters.specs.Means.{IsNameFault, Means}
use Rattle.dc_meters.specs.Name.{IsName, Spells}
use Rattle.dc_meters.specs.declared.named.meaning.NameFault.{NameFault}
use Rattle.dc_meters.specs.declared.named.name.Named.{Named}
use Rattle.mbdc_change.specs.State.{row_of}
use Rattle.mbdc_change.specs.State.{State as House}
use Rattle.mbdc_fit.specs.Listed.{AreEmpty, AreNamed, FirstLacks, HasRecords, IsReadFrom, IsResolved, IsRowOf, IsShown, IsUnnamed, Names, adds, as_text, begins, config_of, field_in, flat_by, given_or_empty, meant, names, no_text, shown_byte, skips, text_in, unmeant, unnamed, whole_lines}
use Rattle.mbdc_fit.specs.declared.list.listed.Listed.{Listed}
use Rattle.mbdc_fit.specs.declared.list.listed.Places.{Places}
use Rattle.mbdc_fit.specs.Rows.{Fields}
use Rattle.mbdc_fit.specs.declared.list.listed.Column.{Column}
use Rattle.mbdc_fit.specs.declared.list.listed.Column.TheVariants.{Meter, Line, Address, Flat}

-- what holds of each field so far and of the next one
pub one_more : (P : ℕ → Type 0) (place : ℕ) → ((k : ℕ) → k < place → P k) → P place → (k : ℕ) → k < place + 1 → P k
one_more P place before at k within = ⊎_elim (λ low. before k low) (λ past. subst P (omega (arith, past, within)) at) (cases_lt k place)

-- past the last one there is none
pub past_all : (fields : List (List ℕ)) (k : ℕ) → length fields ≤ k → field_in fields k ≡ []
past_all fields k past = ap given_or_empty (field-none fields k past)

-- what holds of each field, and of none, holds of each place
pub of_all : (fields : List (List ℕ)) (P : List ℕ → Type 0) (place : ℕ) → length fields ≤ place → ((k : ℕ) → k < place → P (field_in fields k)) → P [] → (k : ℕ) → P (field_in fields k)
of_all fields P place all within none k = ⊎_elim (λ low. within k low) (λ past. subst P (sym (past_all fields k (omega (arith, all, past)))) none) (cases_lt k place)

-- nothing names no column
pub empty_names_none : (column : Column) → ¬ (Names column [])
empty_names_none Meter same = absurd cc
empty_names_none Line same = absurd cc
empty_names_none Address same = absurd cc
empty_names_none Flat same = absurd cc

-- ---- the records of a list

-- a reader of a list, after these records
pub record Stands {R : Type 0} (rem : R → Option (List ℕ)) (list : List ℕ) (reader : Reader R) (raw : List (List (List ℕ))) : Type 0 where
  pub trims : reader.trim ≡ All
  pub ready : Ready reader
  pub config : reader.config ≡ config_of list
  pub left : List ℕ
  pub source : source_of rem reader ≡ Some left
  pub reached : Reached (config_of list) StartRecord (text_in list) raw reader.state left

-- how the next record is read
abbrev pub ReadsOne : {R : Type 0} → (R → Option (List ℕ)) → Reader R → Reader R → Bool → List (List ℕ) → Type 0
ReadsOne rem old new found fields = Ready old → (raw : List (List ℕ)) × ReadRecord rem old new found raw × (fields ≡ trim_by (reader_trim old) raw)

-- what was read so far
pub record IsReading {R : Type 0} (rem : R → Option (List ℕ)) (list : List ℕ) (house : Option House) (reader : Reader R) (columns : Result Places Column) (rows : List Listed) (count : ℕ) : Type 0 where
  pub raw : List (List (List ℕ))
  pub stands : Stands rem list reader raw
  pub read : IsReadFrom house (map (map trimmed) raw) columns rows
  pub count_is : length raw ≡ count

module _ {R : Type 0} (rem : R → Option (List ℕ)) (list : List ℕ) where
  -- one more
  pub record One (new : Reader R) (raw : List (List (List ℕ))) (fields : List (List ℕ)) : Type 0 where
    pub last : List (List ℕ)
    pub fields_are : fields ≡ map trimmed last
    pub stands : Stands rem list new (raw ++ last ∷ [])

  pub one_read : (old new : Reader R) (raw : List (List (List ℕ))) (fields : List (List ℕ)) → Stands rem list old raw → ReadsOne rem old new true fields → ReadsOn old new → One new raw fields
  one_read old new raw fields s reads on =
      let one = reads s.ready in
      let more = rows-more rem old new one.0 (config_of list) StartRecord (text_in list) s.left raw s.config s.source s.reached one.1 in
      record {
        last = one.0;
        fields_are = one.2 ∙ ap (λ (t : Trim). trim_by t one.0) s.trims;
        stands = record {
          trims = on.1 ∙ s.trims;
          ready = (on.4 s.ready).0;
          config = on.0 ∙ s.config;
          left = more.0;
          source = more.1;
          reached = more.2;
        };
      }

  pub none_read : (old new : Reader R) (raw : List (List (List ℕ))) (fields : List (List ℕ)) (s : Stands rem list old raw) → ReadsOne rem old new false fields → next_record (config_of list) old.state [] [] s.left ≡ None
  none_read old new raw fields s reads = let one = reads s.ready in rows-end rem old new one.0 (config_of list) s.left s.config s.source one.1

-- trimmed records, and one more
trimmed_more : (raw : List (List (List ℕ))) (last fields : List (List ℕ)) → fields ≡ map trimmed last → map (map trimmed) (raw ++ last ∷ []) ≡ map (map trimmed) raw ++ fields ∷ []
trimmed_more raw last fields same = map-append (map trimmed) raw (last ∷ []) ∙ ap (λ (f : List (List ℕ)). map (map trimmed) raw ++ f ∷ []) (sym same)

count_more : {X : Type 0} (xs : List X) (x : X) (count : ℕ) → length xs ≡ count → length (xs ++ x ∷ []) ≡ count + 1
count_more xs x count is = let sum = length-append xs (x ∷ []) in omega (arith, sum, is)

first_is : (list : List ℕ) (raw : List (List (List ℕ))) (last : List (List ℕ)) (state : State) (left : List ℕ) → raw ≡ [] → Reached (config_of list) StartRecord (text_in list) (raw ++ last ∷ []) state left
    → (p : Read) × (next_record (config_of list) StartRecord [] [] (text_in list) ≡ Some p) × (last ≡ p.0)
unfolding Reached
first_is list [] last state left is reached = (reached.0, reached.1, reached.2)
first_is list (x ∷ raw) last state left is reached = absurd cc

none_at : (list : List ℕ) (raw : List (List (List ℕ))) (state : State) (left : List ℕ) → raw ≡ [] → Reached (config_of list) StartRecord (text_in list) raw state left
    → next_record (config_of list) state [] [] left ≡ None → next_record (config_of list) StartRecord [] [] (text_in list) ≡ None
unfolding Reached
none_at list [] state left is reached none =
    ap (λ (s : State). next_record (config_of list) s [] [] (text_in list)) reached.0 ∙ ap (next_record (config_of list) state [] []) reached.1 ∙ none
none_at list (x ∷ raw) state left is reached none = absurd cc

-- where no record named the columns, there is none
pub unnamed_none : (house : Option House) (records : List (List (List ℕ))) (column : Column) (rows : List Listed) → IsReadFrom house records (Err column) rows → (records ≡ []) × (column ≡ Meter)
unnamed_none house records column rows (begins) = (refl, refl)

module _ {R : Type 0} (rem : R → Option (List ℕ)) (list : List ℕ) (house : Option House) (old new : Reader R) (columns : Result Places Column) (rows : List Listed) (count : ℕ)
    (r : IsReading rem list house old columns rows count) (fields : List (List ℕ)) where
  none_named : (known : Column) → columns ≡ Err known → (map (map trimmed) r.raw ≡ []) × (known ≡ Meter)
  none_named known is = unnamed_none house (map (map trimmed) r.raw) known rows (subst (λ (c : Result Places Column). IsReadFrom house (map (map trimmed) r.raw) c rows) is r.read)

  no_raw : (known : Column) → columns ≡ Err known → r.raw ≡ []
  no_raw known is =
      let none = ap length (none_named known is).0 in
      let same = length-map r.raw (map trimmed) in
      nil_from_length r.raw (omega (arith, none, same))

  abbrev Next : Result Places Column → List Listed → Type 0
  Next known all = IsReading rem list house new known all (count + 1)

  next : (known : Result Places Column) (all : List Listed) → ReadsOne rem old new true fields → ReadsOn old new → IsReadFrom house (map (map trimmed) r.raw ++ fields ∷ []) known all → Next known all
  next known all reads on is =
      let one = one_read rem list old new r.raw fields r.stands reads on in
      record {
        raw = r.raw ++ one.last ∷ [];
        stands = one.stands;
        read = subst (λ (records : List (List (List ℕ))). IsReadFrom house records known all) (sym (trimmed_more r.raw one.last fields one.fields_are)) is;
        count_is = count_more r.raw one.last count r.count_is;
      }

  pub joined : (known is_known : Result Places Column) (all are : List Listed) → is_known ≡ known → are ≡ all → Next known all → Next is_known are
  joined known is_known all are columns_are rows_are reading =
      subst (λ (k : Result Places Column). Next k are) (sym columns_are) (subst (Next known) (sym rows_are) reading)

  pub names_columns : (places : Places) → ReadsOne rem old new true fields → ReadsOn old new → AreNamed fields places → Next (Ok places) rows
  names_columns places reads on named = next (Ok places) rows reads on (names (map (map trimmed) r.raw) columns rows fields places r.read named)

  pub skips_it : (places : Places) (column : Column) → ReadsOne rem old new true fields → ReadsOn old new → columns ≡ Ok places → IsUnnamed fields column → AreEmpty fields → Next columns rows
  skips_it places column reads on is lacks empty =
      subst (λ (known : Result Places Column). Next known rows) (sym is)
      (next (Ok places) rows reads on (skips (map (map trimmed) r.raw) places rows fields (subst (λ (known : Result Places Column). IsReadFrom house (map (map trimmed) r.raw) known rows) is r.read) (column, lacks) empty))

  pub adds_it : (places : Places) (column : Column) (row : Listed) → ReadsOne rem old new true fields → ReadsOn old new → columns ≡ Ok places → IsUnnamed fields column → ¬ (AreEmpty fields) → IsRowOf house places fields row → Next columns (rows ++ row ∷ [])
  adds_it places column row reads on is lacks empty of =
      subst (λ (known : Result Places Column). Next known (rows ++ row ∷ [])) (sym is)
      (next (Ok places) (rows ++ row ∷ []) reads on (adds (map (map trimmed) r.raw) places rows fields row (subst (λ (known : Result Places Column). IsReadFrom house (map (map trimmed) r.raw) known rows) is r.read) (column, lacks) empty of))

  -- the first one lacks a column
  pub lacks_first : (column known : Column) → ReadsOne rem old new true fields → ReadsOn old new → columns ≡ Err known → IsUnnamed fields column
      → FirstLacks (next_record (config_of list) StartRecord [] [] (text_in list)) column
  lacks_first column known reads on is lacks =
      let one = one_read rem list old new r.raw fields r.stands reads on in
      let first = first_is list r.raw one.last new.state one.stands.left (no_raw known is) one.stands.reached in
      subst (λ (o : Option Read). FirstLacks o column) (sym first.1) (subst (λ (f : List (List ℕ)). IsUnnamed f column) (one.fields_are ∙ ap (map trimmed) first.2) lacks)

  -- the end
  pub has_all : ReadsOne rem old new false fields → HasRecords list (map (map trimmed) r.raw)
  has_all reads = record {
    raw = r.raw;
    state = old.state;
    left = r.stands.left;
    reached = r.stands.reached;
    all = inl (none_read rem list old new r.raw fields r.stands reads);
    trimmed_are = refl;
  }

  pub has_most : length (whole_lines list) < count → HasRecords list (map (map trimmed) r.raw)
  has_most most = record {
    raw = r.raw;
    state = old.state;
    left = r.stands.left;
    reached = r.stands.reached;
    all = inr (let is = r.count_is in omega (arith, most, is));
    trimmed_are = refl;
  }

  pub lacks_all : (known : Column) → ReadsOne rem old new false fields → columns ≡ Err known → FirstLacks (next_record (config_of list) StartRecord [] [] (text_in list)) known
  lacks_all known reads is =
      let none = none_at list r.raw old.state r.stands.left (no_raw known is) r.stands.reached (none_read rem list old new r.raw fields r.stands reads) in
      subst (λ (o : Option Read). FirstLacks o known) (sym none) (none_named known is).1

  -- a list has a record, where as many were read
  pub not_none : (known : Column) → columns ≡ Err known → 0 < count → ⊥
  not_none known is some = let none = ap length (no_raw known is) in let same = r.count_is in omega (arith, none, same, some)

-- ---- a field as it is shown

all_shown : (field text items : List ℕ) (i : ℕ) → items ++ map shown_byte (drop i text) ≡ map shown_byte text → length text ≤ i → (bytes : List ℕ) → text ≡ bytes → items ≡ map shown_byte bytes
all_shown field text items i whole past bytes same =
    sym (append-nil items) ∙ ap (λ (rest : List ℕ). items ++ map shown_byte rest) (sym (drop_all i text past)) ∙ whole ∙ ap (map shown_byte) same

-- all bytes of a text are shown
pub shown_as : (field text items : List ℕ) (i : ℕ) → items ++ map shown_byte (drop i text) ≡ map shown_byte text → length text ≤ i
    → (IsUtf8 field × (text ≡ field)) ⊎ (¬ (IsUtf8 field) × (text ≡ codes "?")) → IsShown field items
shown_as field text items i whole past (inl (is, same)) = subst (IsShown field) (sym (all_shown field text items i whole past field same)) (as_text field is)
shown_as field text items i whole past (inr (bad, same)) = subst (IsShown field) (sym (all_shown field text items i whole past (codes "?") same)) (no_text field bad)

-- ---- a row and the register

pub resolved_unnamed : (house : House) (fields : Fields) (word : List ℕ) → word ≡ fields.meter → ((name : Named) → IsName name → ¬ (Spells word name)) → IsResolved (Some house) fields fields
resolved_unnamed house fields word same none = unnamed house fields (subst (λ (w : List ℕ). (name : Named) → IsName name → ¬ (Spells w name)) same none)

pub resolved_unmeant : (house : House) (fields : Fields) (word : List ℕ) (name : Named) (fault : NameFault) → word ≡ fields.meter → Spells word name → IsNameFault house name fault → IsResolved (Some house) fields fields
resolved_unmeant house fields word name fault same spells is = unmeant house fields name fault (subst (λ (w : List ℕ). Spells w name) same spells) is

pub resolved_meant : (house : House) (fields : Fields) (word : List ℕ) (name : Named) (meter : Identity) (text flat : List ℕ) → word ≡ fields.meter → Spells word name → Means house name meter
    → text ≡ text_of meter → flat ≡ flat_by fields.flat (row_of meter house) → IsResolved (Some house) fields (record fields { meter = text; flat = flat })
resolved_meant house fields word name meter text flat same spells means text_is flat_is =
    subst (λ (t : List ℕ). IsResolved (Some house) fields (record fields { meter = t; flat = flat })) (sym text_is)
    (subst (λ (f : List ℕ). IsResolved (Some house) fields (record fields { meter = text_of meter; flat = f })) (sym flat_is)
    (meant house fields name meter (subst (λ (w : List ℕ). Spells w name) same spells) means))
