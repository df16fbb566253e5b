-- The fault stands at the first byte that no continuation allows.
use Rattle.std.proofs.Common.{◌≡◌, ◌≢◌, ℕ, ◌%◌, ◌≤◌, List, [], ◌∷◌, ◌++◌, length, Ok, Err, refl, sym, ap, subst, ◌∙◌, append_assoc, arith, ◌⊎◌, inl, inr}
use Rattle.std.proofs.lemmas.List.{length-append, append-nil}
use Rattle.dc_records.specs.declared.fault.BodyFault.{BodyFault}
use Rattle.dc_records.specs.declared.fault.BodyFault.TheVariants.{ReservedDif, TooManyDife, TooManyVife, BadLength, PlainTextExtension, Cut}
use Rattle.dc_records.specs.Record.{Entry, Extends, IsVib, Spells}
use Rattle.dc_records.specs.Reading.{entry_of}
use Rattle.std.specs.List.{flat_map, AllByRecursion}
use Rattle.std.proofs.lemmas.List.Concat.{flat_map-cons}
use Rattle.dc_records.specs.Body.{Ending, IsEnd, Item, filler, spelled, IsItem, text_of, Front, ends, skips, gives, front_at}
use Rattle.dc_records.specs.Stops.{GoesOn, IsHead, Stops, reserved, many_difes, many_vifes, extension, text_length, data_length, cut, Fails, IsItemOrEnd, Continues, HasBadByte, IsFirstFault}
use Rattle.dc_records.proofs.Spellings.Faults.{any_vib, any_data, spelled_by, goes_high, stops_on, stops_front, spells_front}
use Rattle.dc_records.proofs.Spellings.Fields.{ok_is, done}
use Rattle.dc_records.proofs.Spellings.Bodies.{end_front, filler_front}

record Snoc (xs : List ℕ) : Type 0 where
  pub front : List ℕ
  pub back : ℕ
  pub parts : xs ≡ front ++ back ∷ []

snoc : (x : ℕ) (xs : List ℕ) → Snoc (x ∷ xs)
snoc x [] = record { front = []; back = x; parts = refl }
snoc x (y ∷ ys) = let r = snoc y ys in record { front = x ∷ r.front; back = r.back; parts = ap (λ (l : List ℕ). x ∷ l) r.parts }

ten_snoc : (ten : List ℕ) → length ten ≡ 10 → Snoc ten
ten_snoc [] h = absurd (omega arith)
ten_snoc (x ∷ xs) h = snoc x xs

extends_on : (first : ℕ) (front : List ℕ) (x : ℕ) → GoesOn first (front ++ x ∷ []) → Extends first (front ++ 0 ∷ [])
extends_on first [] x h = (h.0, omega arith)
extends_on first (y ∷ ys) x h = (h.0, extends_on y ys x h.1)

-- an item or an end is read
read_whole : (text : List ℕ) (f : BodyFault) → IsItemOrEnd text → front_at text ≡ Err f → ⊥
read_whole text f (inl (filler, _, is)) e = let good = filler_front [] in let same = ap front_at is in cc
read_whole text f (inl (spelled t x, spells, is)) e = let good = spells_front t [] x spells in let same = ap front_at (is ∙ sym (append-nil t)) in cc
read_whole text f (inr (end, ends_so)) e = let good = end_front text end ends_so in cc

shut_by : (front : List ℕ) (byte : ℕ) (f : BodyFault) → Stops (front ++ byte ∷ []) f → f ≢ Cut → Continues (front ++ byte ∷ []) → ⊥
shut_by front byte f s not_cut (more, whole) =
    elim (stops_on (front ++ byte ∷ []) f s more) [
      | inl p ↦ not_cut p.0
      | inr p ↦ read_whole _ f whole p
    ]

-- a record goes on after the front
goes_past : (front : List ℕ) (next : ℕ) (more : List ℕ) (e : Entry) → Spells (front ++ (next ∷ more)) e → Continues front
goes_past front next more e spells = (next ∷ more, inl (spelled (front ++ (next ∷ more)) e, spells, refl))

-- a record that begins with the head and this VIB
headed : (head : List ℕ) (dif : ℕ) (vib : List ℕ) → IsHead head dif → IsVib vib → (sent : List ℕ) × (e : Entry) × Spells (head ++ (vib ++ sent)) e
headed head dif vib h v =
    let d = any_data (dif % 16) in
    (d.0, entry_of dif h.difes vib d.1.0, spelled_by dif h.difes vib d.0 d.1.0 _ (ap (λ (l : List ℕ). l ++ (vib ++ d.0)) h.parts) h.not_special h.extends h.at_most_ten v d.1.1)

first_bad_byte : (text : List ℕ) (f : BodyFault) → Stops text f → f ≢ Cut → HasBadByte text
first_bad_byte text f (reserved fe dif more is special n0 n1 n2) nc =
    let d = any_data (0 % 16) in
    let good : Spells ([] ++ (0 ∷ (0 ∷ d.0))) (entry_of 0 [] (0 ∷ []) d.1.0) = spelled_by 0 [] (0 ∷ []) d.0 d.1.0 _ refl (omega arith) (omega arith) (omega arith) any_vib d.1.1 in
    record { front = []; byte = dif; more = more; parts = is; goes_on = goes_past [] 0 (0 ∷ d.0) _ good; shut = shut_by [] dif f (reserved fe dif [] refl special n0 n1 n2) nc }
first_bad_byte text f (many_difes fe dif ten more is special goes len) nc =
    let t = ten_snoc ten len in
    let goes2 : GoesOn dif (t.front ++ t.back ∷ []) = subst (GoesOn dif) t.parts goes in
    let d = any_data (dif % 16) in
    let few : length (t.front ++ 0 ∷ []) ≤ 10 = omega (arith, ap length t.parts, length-append t.front (t.back ∷ []), length-append t.front (0 ∷ []), len) in
    let good = spelled_by dif (t.front ++ 0 ∷ []) (0 ∷ []) d.0 d.1.0 ((dif ∷ t.front) ++ (0 ∷ (0 ∷ d.0))) (ap (λ (l : List ℕ). dif ∷ l) (sym (append_assoc t.front (0 ∷ []) (0 ∷ d.0)))) special (extends_on dif t.front t.back goes2) few any_vib d.1.1 in
    let parts : text ≡ (dif ∷ t.front) ++ (t.back ∷ more) = is ∙ ap (λ (l : List ℕ). dif ∷ (l ++ more)) t.parts ∙ ap (λ (l : List ℕ). dif ∷ l) (append_assoc t.front (t.back ∷ []) more) in
    record {
      front = dif ∷ t.front;
      byte = t.back;
      more = more;
      parts = parts;
      goes_on = goes_past (dif ∷ t.front) 0 (0 ∷ d.0) _ good;
      shut = shut_by (dif ∷ t.front) t.back f (many_difes fe dif ten [] (ap (λ (l : List ℕ). dif ∷ l) (sym t.parts ∙ sym (append-nil ten))) special goes len) nc;
    }
first_bad_byte text f (many_vifes fe head dif vif ten more is h not_fc goes len) nc =
    let t = ten_snoc ten len in
    let goes2 : GoesOn vif (t.front ++ t.back ∷ []) = subst (GoesOn vif) t.parts goes in
    let high = goes_high vif ten goes in
    let few : length (t.front ++ 0 ∷ []) ≤ 10 = omega (arith, ap length t.parts, length-append t.front (t.back ∷ []), length-append t.front (0 ∷ []), len) in
    let v : IsVib (vif ∷ (t.front ++ 0 ∷ [])) = inr (omega arith, not_fc, extends_on vif t.front t.back goes2, few) in
    let good = headed head dif (vif ∷ (t.front ++ 0 ∷ [])) h v in
    let regroup : head ++ ((vif ∷ (t.front ++ 0 ∷ [])) ++ good.0) ≡ (head ++ (vif ∷ t.front)) ++ (0 ∷ good.0) = simp append_assoc in
    let parts : text ≡ (head ++ (vif ∷ t.front)) ++ (t.back ∷ more) = is ∙ ap (λ (l : List ℕ). head ++ (vif ∷ (l ++ more))) t.parts ∙ simp append_assoc in
    let again : (head ++ (vif ∷ t.front)) ++ t.back ∷ [] ≡ head ++ (vif ∷ (ten ++ [])) = append_assoc head (vif ∷ t.front) (t.back ∷ []) ∙ ap (λ (l : List ℕ). head ++ (vif ∷ l)) (sym t.parts ∙ sym (append-nil ten)) in
    record {
      front = head ++ (vif ∷ t.front);
      byte = t.back;
      more = more;
      parts = parts;
      goes_on = goes_past (head ++ (vif ∷ t.front)) 0 good.0 good.1 (subst (λ (l : List ℕ). Spells l good.1) regroup good.2);
      shut = shut_by (head ++ (vif ∷ t.front)) t.back f (many_vifes fe head dif vif ten [] again h not_fc goes len) nc;
    }
first_bad_byte text f (extension fe head dif more is h) nc =
    let good = headed head dif (0 ∷ []) h any_vib in
    record {
      front = head;
      byte = 0xFC;
      more = more;
      parts = is;
      goes_on = goes_past head 0 good.0 good.1 good.2;
      shut = shut_by head 0xFC f (extension fe head dif [] refl h) nc;
    }
first_bad_byte text f (text_length fe head dif byte more is h bad) nc =
    let v : IsVib (0x7C ∷ (0 ∷ [])) = inl (refl, [], record { byte = 0; parts = refl; length_of = inl (omega arith, refl) }) in
    let good = headed head dif (0x7C ∷ (0 ∷ [])) h v in
    let regroup : head ++ ((0x7C ∷ (0 ∷ [])) ++ good.0) ≡ (head ++ 0x7C ∷ []) ++ (0 ∷ good.0) = sym (append_assoc head (0x7C ∷ []) (0 ∷ good.0)) in
    record {
      front = head ++ 0x7C ∷ [];
      byte = byte;
      more = more;
      parts = is ∙ sym (append_assoc head (0x7C ∷ []) (byte ∷ more));
      goes_on = goes_past (head ++ 0x7C ∷ []) 0 good.0 good.1 (subst (λ (l : List ℕ). Spells l good.1) regroup good.2);
      shut = shut_by (head ++ 0x7C ∷ []) byte f (text_length fe head dif byte [] (append_assoc head (0x7C ∷ []) (byte ∷ [])) h bad) nc;
    }
first_bad_byte text f (data_length fe head dif vib byte more is h v fd bad) nc =
    let good = spelled_by dif h.difes vib (0 ∷ []) [] ((head ++ vib) ++ (0 ∷ [])) (append_assoc head vib (0 ∷ []) ∙ ap (λ (l : List ℕ). l ++ (vib ++ 0 ∷ [])) h.parts) h.not_special h.extends h.at_most_ten v (inl (fd, record { byte = 0; parts = refl; length_of = inl (omega arith, refl) })) in
    record {
      front = head ++ vib;
      byte = byte;
      more = more;
      parts = is ∙ sym (append_assoc head vib (byte ∷ more));
      goes_on = goes_past (head ++ vib) 0 [] _ good;
      shut = shut_by (head ++ vib) byte f (data_length fe head dif vib byte [] (append_assoc head vib (byte ∷ [])) h v fd bad) nc;
    }
first_bad_byte text f (cut fe b bs more e next is h) nc = absurd (nc fe)

-- ---- the longest list of items

-- what is left after the front
abbrev left_of : Front → List ℕ
left_of (ends end) = []
left_of (skips rest) = rest
left_of (gives e rest) = rest

item_front : (item : Item) (rest : List ℕ) → IsItem item → (f : Front) × (front_at (text_of item ++ rest) ≡ Ok f) × (left_of f ≡ rest)
item_front filler rest is = (skips rest, filler_front rest, refl)
item_front (spelled t e) rest is = (gives e rest, spells_front t rest e is, refl)

-- one more item before the others
before : (item : Item) (items : List Item) (rest : List ℕ) → flat_map text_of (item ∷ items) ++ rest ≡ text_of item ++ (flat_map text_of items ++ rest)
before item items rest = ap (λ (l : List ℕ). l ++ rest) (flat_map-cons text_of item items) ∙ append_assoc (text_of item) (flat_map text_of items) rest

-- items of one text leave the same after them
same_left : (i j : Item) (x y : List ℕ) → IsItem i → IsItem j → text_of i ++ x ≡ text_of j ++ y → x ≡ y
same_left i j x y is_i is_j same =
    let a = item_front i x is_i in
    let b = item_front j y is_j in
    sym a.2 ∙ ap left_of (front_is a.0 b.0 (sym a.1 ∙ ap front_at same ∙ b.1)) ∙ b.2
  where
    front_is : (f g : Front) → done f ≡ done g → f ≡ g
    front_is f g e = ok_is f g e

longest : (items others : List Item) (rest after : List ℕ) (f : BodyFault) → AllByRecursion IsItem items → AllByRecursion IsItem others → front_at rest ≡ Err f → flat_map text_of items ++ rest ≡ flat_map text_of others ++ after → length others ≤ length items
longest items [] rest after f are_items are_others stops same = omega arith
longest [] (other ∷ others) rest after f are_items are_others stops same =
    let read = item_front other (flat_map text_of others ++ after) are_others.0 in
    let whole : front_at rest ≡ Ok read.0 = ap front_at (same ∙ before other others after) ∙ read.1 in
    absurd cc
longest (item ∷ items) (other ∷ others) rest after f are_items are_others stops same =
    let left = same_left item other _ _ are_items.0 are_others.0 (sym (before item items rest) ∙ same ∙ before other others after) in
    omega (arith, longest items others rest after f are_items.1 are_others.1 stops left)

-- ---- the place

abbrev Place : List ℕ → BodyFault → Type 0
Place text f = ((f ≡ Cut) × Continues text) ⊎ ((f ≢ Cut) × HasBadByte text)

other : (f g : BodyFault) → f ≡ g → g ≢ Cut → f ≢ Cut
other f g same not_cut cut_too = not_cut (sym same ∙ cut_too)

place : (text : List ℕ) (f : BodyFault) → Stops text f → Place text f
place text f (cut fe b bs more e next is h) = inl (fe, goes_past text next more e h)
place text f (reserved fe dif more is special n0 n1 n2) = let nc = other f ReservedDif fe (λ h. absurd cc) in inr (nc, first_bad_byte text f (reserved fe dif more is special n0 n1 n2) nc)
place text f (many_difes fe dif ten more is special run len) = let nc = other f TooManyDife fe (λ h. absurd cc) in inr (nc, first_bad_byte text f (many_difes fe dif ten more is special run len) nc)
place text f (many_vifes fe head dif vif ten more is h not_fc run len) = let nc = other f TooManyVife fe (λ h. absurd cc) in inr (nc, first_bad_byte text f (many_vifes fe head dif vif ten more is h not_fc run len) nc)
place text f (extension fe head dif more is h) = let nc = other f PlainTextExtension fe (λ h. absurd cc) in inr (nc, first_bad_byte text f (extension fe head dif more is h) nc)
place text f (text_length fe head dif byte more is h bad) = let nc = other f BadLength fe (λ h. absurd cc) in inr (nc, first_bad_byte text f (text_length fe head dif byte more is h bad) nc)
place text f (data_length fe head dif vib byte more is h v fd bad) = let nc = other f BadLength fe (λ h. absurd cc) in inr (nc, first_bad_byte text f (data_length fe head dif vib byte more is h v fd bad) nc)

no_end : (rest : List ℕ) (f : BodyFault) → front_at rest ≡ Err f → (end : Ending) → IsEnd rest end → ⊥
no_end rest f stops end ends_so = let good = end_front rest end ends_so in cc

pub first_fault : (text : List ℕ) (f : BodyFault) → Fails text f → IsFirstFault text f
first_fault text f fails =
    let stops = stops_front fails.rest f fails.stops in
    record {
      items = fails.items;
      rest = fails.rest;
      parts = fails.parts;
      each = fails.each;
      longest = λ others after is are. longest fails.items others fails.rest after f fails.each are stops (sym fails.parts ∙ is);
      no_end = no_end fails.rest f stops;
      place = place fails.rest f fails.stops;
    }
