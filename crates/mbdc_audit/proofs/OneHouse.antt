-- Lines spell one house.
use Rattle.std.proofs.Common.{arith, Bor, ◌≡◌, ◌+◌, ◌<◌, inl, inr, ℕ, Bool, true, false, if◌then◌else◌, List, [], ◌∷◌, ◌++◌, length, map, take, drop, Option, Some, refl, sym, ap, subst, ◌∙◌}
use Rattle.std.specs.Prelude.{All, Any, slice_get}
use Rattle.std.proofs.lemmas.Option.{same_Some}
use Rattle.std.proofs.lemmas.Bool.{false≢true}
use Rattle.std.specs.List.{list_any}
use Rattle.std.specs.Prelude.{◌==◌, ◌||◌, ◌&&◌}
use Rattle.dc_address.proofs.Texts.{same_from_text}
use Rattle.dc_address.specs.declared.identity.Identity.{Identity}
use Rattle.mbdc_audit.specs.Amount.{last_of}
use Rattle.mbdc_audit.specs.declared.house.Declared.{Declared}
use Rattle.mbdc_audit.specs.declared.house.Fact.{Fact}
use Rattle.mbdc_audit.specs.declared.line.Line.{Line}
use Rattle.mbdc_audit.specs.declared.line.Word.{Word}
use Rattle.mbdc_audit.specs.declared.line.Word.TheVariants as word
use Rattle.mbdc_audit.specs.declared.smallest.Spelled as spelled_type
use Rattle.mbdc_audit.specs.declared.uses.Counted.{Counted}
use Rattle.mbdc_audit.specs.declared.uses.Unit.{Unit}
use Rattle.mbdc_audit.specs.House.{Allowed, End, House, Key, Number, Part, Place, Run, Source, Span, Spelled, Struck, Use, User, Value, Window, current, stored, ended, anew, put, first, last}
use Rattle.mbdc_audit.specs.Line.{IsAsked, IsLine, has_mark, is_asked, number_at}
use Rattle.mbdc_audit.specs.File.{Adds, AskedOf, Follows, IsEnd, IsSaid, IsSource, IsSpelled, IsVib, IsWhose, MayBeNext, Names, NoOther, NoSize, Said, Steps, bare_house, bare_place, bare_value, bare_window, empty, is_of_place, span_place, text_at, use_place, with_number, with_said}
use Rattle.mbdc_audit.specs.File.{allows, asks, begins, closes, counts, declares, lives, opens, parts, reads, spans, stands, strikes, totals, uses}
use Rattle.mbdc_audit.specs.Published.{MayAskOf}
use Rattle.mbdc_audit.specs.Reader.{CantFollow, IsMade, is_of_house}
use Rattle.mbdc_audit.specs.Sound.{IsAt}
use Rattle.mbdc_audit.proofs.Added.{fact_was}
use Rattle.mbdc_audit.proofs.Alike.{may_like, said_like}
use Rattle.mbdc_audit.proofs.Asked.{CountsOther, parts_of, unit_same}
use Rattle.mbdc_audit.proofs.Bodies.{all_front, all_rest}
use Rattle.mbdc_audit.proofs.BareHouse.{alike_back, alike_bare, bare_said, with_bare}
use Rattle.mbdc_audit.proofs.Classes.{class, class_of, same_class}
use Rattle.mbdc_audit.proofs.Grown.{last_cons}
use Rattle.mbdc_audit.proofs.Lasts.{one_any}
use Rattle.mbdc_audit.proofs.Named.{one_name}
use Rattle.mbdc_audit.proofs.OneFact.{one_fact}
use Rattle.mbdc_audit.proofs.OneLine.{one_line, same_adds}
use Rattle.mbdc_audit.proofs.Table.{one_stage}
use Rattle.mbdc_audit.proofs.Written.{twice}

-- ---- what a line says is of the house before it

uses_kept : (b : Bool) (n : Number) (h : House) → (with_number b n h).uses ≡ h.uses
uses_kept true n h = refl
uses_kept false n h = refl

said_before : (x : Said) (h : House) (l : Line) → IsSaid (with_said x h) x l → IsSaid h x l
said_before (declares d) h l is = (fact_was h d.fact l (h.facts ++ d ∷ []) is.0, is.1, is.2)
said_before (asks n) h l is = said_like (asks n) (with_said (asks n) h) h l (uses_kept (is_of_place n.key.word) n h) is
said_before (begins label) h l is = is
said_before (uses u) h l is = is
said_before (allows a) h l is = is
said_before (spans n s) h l is = is
said_before (lives u) h l is = is
said_before (stands n p) h l is = is
said_before (counts n r) h l is = is
said_before (opens n) h l is = is
said_before (reads v) h l is = is
said_before (strikes y) h l is = is
said_before (parts n y) h l is = is
said_before totals h l is = is
said_before closes h l is = is

said_after : (x : Said) (h : House) (l : Line) → IsSaid h x l → IsSaid (with_said x h) x l
said_after (declares d) h l is = said_like (declares d) h (with_said (declares d) h) l refl is
said_after (asks n) h l is = said_like (asks n) h (with_said (asks n) h) l (sym (uses_kept (is_of_place n.key.word) n h)) is
said_after (begins label) h l is = is
said_after (uses u) h l is = is
said_after (allows a) h l is = is
said_after (spans n s) h l is = is
said_after (lives u) h l is = is
said_after (stands n p) h l is = is
said_after (counts n r) h l is = is
said_after (opens n) h l is = is
said_after (reads v) h l is = is
said_after (strikes y) h l is = is
said_after (parts n y) h l is = is
said_after totals h l is = is
said_after closes h l is = is

-- ---- the last one

both_last : {X : Type 0} (P Q : X → Type 0) (xs : List X) → Any P (last_of xs) → Any Q (last_of xs) → (x : X) × P x × Q x
both_last P Q [] a b = absurd (let lt = a.2 in omega arith)
both_last P Q (x ∷ []) a b = (x, one_any P (x ∷ []) x refl a, one_any Q (x ∷ []) x refl b)
both_last {X} P Q (x ∷ y ∷ rest) a b = both_last P Q (y ∷ rest)
    (subst (λ (zs : List X). Any P zs) (last_cons x y rest) a) (subst (λ (zs : List X). Any Q zs) (last_cons x y rest) b)

-- ---- parts of lines

count_one : (n m x : ℕ) → x ≡ n + 1 → x ≡ m + 1 → n ≡ m
count_one n m x is is' = omega arith

end_one : (place : ℕ) (l : Line) (e f : End) → IsEnd e place l → IsEnd f place l → e ≡ f
end_one place l e f is is' =
    ap (λ (n : ℕ). record e { day = n }) (sym is.0 ∙ is'.0) ∙ ap (λ (n : ℕ). record f { offset = n }) (sym is.1 ∙ is'.1)

spelled_one : (place : ℕ) (l : Line) (t s : Spelled) → IsSpelled t place l → IsSpelled s place l → t ≡ s
spelled_one place l t s is is' =
    let one = same_Some _ _ (same_Some _ _ (sym is.0 ∙ is'.0)) in
    ap (λ (n : ℕ). record t { digits = n }) (ap (λ (x : spelled_type.Spelled). x.digits) one)
    ∙ (ap (λ (n : ℕ). record t { digits = s.digits; decimals = n }) (ap (λ (x : spelled_type.Spelled). x.decimals) one)
    ∙ ap (λ (x : List ℕ). record s { unit = x }) (sym is.1 ∙ is'.1))

vib_one : (field vib vob : List ℕ) → IsVib field vib → IsVib field vob → vib ≡ vob
vib_one field vib vob (inl is) (inl is') = is.1 ∙ sym is'.1
vib_one field vib vob (inl is) (inr is') = absurd (is'.0 is.0)
vib_one field vib vob (inr is) (inl is') = absurd (is.0 is'.0)
vib_one field vib vob (inr is) (inr is') = is.1 ∙ sym is'.1

-- ---- a value

abbrev tag : Source → ℕ
tag (current bodies) = 0
tag (stored e bodies) = 1
tag (ended e bodies) = 2
tag anew = 3
tag (put guess t) = 4
tag (first guess t) = 5
tag (last guess t) = 6

abbrev tag_of : Word → ℕ
tag_of word.Read = 0
tag_of word.Stored = 1
tag_of word.Ended = 2
tag_of word.Zero = 3
tag_of word.Hand = 4
tag_of word.Estimated = 4
tag_of word.First = 5
tag_of word.Last = 6
tag_of _ = 7

tagged : (v : Value) (s : Source) (l : Line) → IsSource v s l → tag s ≡ tag_of l.word
tagged v (current bodies) l is = ap tag_of (sym is.0)
tagged v (stored e bodies) l is = ap tag_of (sym is.0)
tagged v (ended e bodies) l is = ap tag_of (sym is.0)
tagged v anew l is = ap tag_of (sym is)
tagged v (put true t) l is = ap tag_of (sym is.0)
tagged v (put false t) l is = ap tag_of (sym is.0)
tagged v (first guess t) l is = ap tag_of (sym is.0)
tagged v (last guess t) l is = ap tag_of (sym is.0)

guess_one : (a b : Bool) → (if a then word.Estimated else word.Hand) ≡ (if b then word.Estimated else word.Hand) → a ≡ b
guess_one true true is = refl
guess_one true false is = (cc)
guess_one false true is = (cc)
guess_one false false is = refl

number_one : (a b : Bool) → ◌≡◌ {A = ℕ} (if a then 1 else 0) (if b then 1 else 0) → a ≡ b
number_one true true is = refl
number_one true false is = absurd (omega (arith, is))
number_one false true is = absurd (omega (arith, is))
number_one false false is = refl

source_one : (l : Line) (v w : Value) (s t : Source) → IsSource v s l → IsSource w t l → tag s ≡ tag t → s ≡ t
source_one l v w (current a) (current b) is is' e = ap (λ (x : List ℕ). current x) (sym is.2 ∙ is'.2)
source_one l v w (stored d a) (stored f b) is is' e =
    ap (λ (x : End). stored x a) (end_one 1 l d f is.1 is'.1) ∙ ap (λ (x : List ℕ). stored f x) (sym is.2 ∙ is'.2)
source_one l v w (ended d a) (ended f b) is is' e =
    ap (λ (x : End). ended x a) (end_one 1 l d f is.1 is'.1) ∙ ap (λ (x : List ℕ). ended f x) (sym is.2 ∙ is'.2)
source_one l v w anew anew is is' e = refl
source_one l v w (put g a) (put f b) is is' e =
    ap (λ (x : Bool). put x a) (guess_one g f (sym is.0 ∙ is'.0)) ∙ ap (λ (x : Spelled). put f x) (spelled_one 2 l a b is.2 is'.2)
source_one l v w (first g a) (first f b) is is' e =
    ap (λ (x : Bool). first x a) (number_one g f (sym is.2 ∙ is'.2)) ∙ ap (λ (x : Spelled). first f x) (spelled_one 1 l a b is.1 is'.1)
source_one l v w (last g a) (last f b) is is' e =
    ap (λ (x : Bool). last x a) (number_one g f (sym is.2 ∙ is'.2)) ∙ ap (λ (x : Spelled). last f x) (spelled_one 1 l a b is.1 is'.1)
source_one l v w s t is is' e = absurd (omega (arith, e))

moment_one : (l : Line) (r : Run) (v w : Value) (s : Source) → IsSource v s l → IsSource w s l → IsAt r v s → IsAt r w s → v.moment ≡ w.moment
moment_one l r v w (current a) is is' at at' = sym is.1 ∙ is'.1
moment_one l r v w (stored e a) is is' at at' = at ∙ sym at'
moment_one l r v w (ended e a) is is' at at' = at ∙ sym at'
moment_one l r v w anew is is' at at' = at ∙ sym at'
moment_one l r v w (put g a) is is' at at' = sym is.1 ∙ is'.1
moment_one l r v w (first g a) is is' at at' = at ∙ sym at'
moment_one l r v w (last g a) is is' at at' = at ∙ sym at'

value_one : (h : House) (l : Line) (v w : Value) → MayBeNext h (reads v) → MayBeNext h (reads w) → IsSaid h (reads v) l → IsSaid h (reads w) l
    → bare_value v ≡ bare_value w
value_one h l v w may may' is is' =
    let run : v.run ≡ w.run = count_one v.run w.run (number_at 0 l) is.0 is'.0 in
    let source : v.source ≡ w.source = source_one l v w v.source w.source is.1 is'.1
    (tagged v v.source l is.1 ∙ sym (tagged w w.source l is'.1)) in
    let p = both_last (λ p. Any (λ x. (length x.values < 2048) × ((r : Run) × (slice_get p.runs v.run ≡ Some r) × IsAt r v v.source)) (last_of p.windows))
    (λ p. Any (λ x. (length x.values < 2048) × ((r : Run) × (slice_get p.runs w.run ≡ Some r) × IsAt r w w.source)) (last_of p.windows)) h.places may.0 may'.0 in
    let x = both_last (λ x. (length x.values < 2048) × ((r : Run) × (slice_get p.0.runs v.run ≡ Some r) × IsAt r v v.source))
    (λ x. (length x.values < 2048) × ((r : Run) × (slice_get p.0.runs w.run ≡ Some r) × IsAt r w w.source)) p.0.windows p.1 p.2 in
    let r : Run = x.1.1.0 in
    let one : x.2.1.0 ≡ r = same_Some x.2.1.0 r (sym x.2.1.1 ∙ (ap (slice_get p.0.runs) (sym run) ∙ x.1.1.1)) in
    let moment : v.moment ≡ w.moment = moment_one l r v w v.source is.1 (subst (λ (s : Source). IsSource w s l) (sym source) is'.1) x.1.1.2
    (subst (λ (s : Source). IsAt r w s) (sym source) (subst (λ (q : Run). IsAt q w w.source) one x.2.1.2)) in
    ap (λ (n : ℕ). record v { run = n; amount = 0 }) run
    ∙ (ap (λ (n : ℕ). record v { run = w.run; moment = n; amount = 0 }) moment
    ∙ ap (λ (s : Source). record w { amount = 0; source = s }) source)

-- ---- a number

key_one : (k j : Key) → k.word ≡ j.word → k.span ≡ j.span → k.other ≡ j.other → k.user ≡ j.user → k.flat ≡ j.flat → k.used ≡ j.used
    → k.unit ≡ j.unit → k.size ≡ j.size → k.from ≡ j.from → k.to ≡ j.to → k ≡ j
key_one k j a b d e f g i m n o =
    ap (λ (x : Word). record k { word = x }) a
    ∙ (ap (λ (x : ℕ). record k { word = j.word; span = x }) b
    ∙ (ap (λ (x : ℕ). record k { word = j.word; span = j.span; other = x }) d
    ∙ (ap (λ (x : ℕ). record k { word = j.word; span = j.span; other = j.other; user = x }) e
    ∙ (ap (λ (x : List ℕ). record j { flat = x; used = k.used; unit = k.unit; size = k.size; from = k.from; to = k.to }) f
    ∙ (ap (λ (x : ℕ). record j { used = x; unit = k.unit; size = k.size; from = k.from; to = k.to }) g
    ∙ (ap (λ (x : Unit). record j { unit = x; size = k.size; from = k.from; to = k.to }) i
    ∙ (ap (λ (x : ℕ). record j { size = x; from = k.from; to = k.to }) m
    ∙ (ap (λ (x : ℕ). record j { from = x; to = k.to }) n
    ∙ ap (λ (x : ℕ). record j { to = x }) o))))))))

texts_one : (n m : Number) → n.key ≡ m.key → n.text ≡ m.text → n.beside ≡ m.beside → n ≡ m
texts_one n m key text beside =
    ap (λ (k : Key). record n { key = k }) key
    ∙ (ap (λ (t : List ℕ). record n { key = m.key; text = t }) text ∙ ap (λ (b : List (List ℕ)). record m { beside = b }) beside)

sized_one : (h : House) (k j : Key) (l : Line) → Names word.Value h k l → Names word.Value h j l → k.size ≡ j.size
sized_one h k j l is is' = ap (λ (x : Counted × ℕ). x.1) (same_Some (is.0, k.size) (is'.0, j.size) (sym is.2 ∙ is'.2))

unit_of_place : (w : Word) (h : House) (k j : Key) (l : Line) → is_of_place w ≡ true → Names w h k l → Names w h j l → NoSize w k → NoSize w j
    → (k.unit ≡ j.unit) × (k.size ≡ j.size)
unit_of_place word.Shown h k j l is n m s t = (same_Some k.unit j.unit (sym n.1 ∙ m.1), s ∙ sym t)
unit_of_place word.Value h k j l is n m s t = (s ∙ sym t, sized_one h k j l n m)
unit_of_place _ h k j l is n m s t = (cc)

other_of_place : (w : Word) (k j : Key) → is_of_place w ≡ true → NoOther w k → NoOther w j → k.other ≡ j.other
other_of_place word.Shown k j is o p = o ∙ sym p
other_of_place word.Value k j is o p = o ∙ sym p
other_of_place _ k j is o p = (cc)

other_of_house : (w : Word) (k j : Key) (l : Line) → CountsOther w k l → CountsOther w j l → NoOther w k → NoOther w j → k.other ≡ j.other
other_of_house word.Change k j l is is' o p = count_one k.other j.other (number_at 1 l) is is'
other_of_house word.Weather k j l is is' o p = count_one k.other j.other (number_at 1 l) is is'
other_of_house _ k j l is is' o p = o ∙ sym p

size_of_house : (w : Word) (k j : Key) → is_of_house w ≡ true → NoSize w k → NoSize w j → k.size ≡ j.size
size_of_house word.Value k j is s t = (cc)
size_of_house _ k j is s t = s ∙ sym t

house_word : (w : Word) → 12 ≡ class w → is_of_place w ≡ false → is_of_house w ≡ true
house_word word.OfUser is other = refl
house_word word.OfFlat is other = refl
house_word word.OfHouse is other = refl
house_word word.Mean is other = refl
house_word word.Change is other = refl
house_word word.Weather is other = refl
house_word word.Carbon is other = refl
house_word word.Cost is other = refl
house_word word.Shown is other = (cc)
house_word word.Value is other = (cc)
house_word _ is other = absurd (omega (arith, is))

module _ (h : House) (l : Line) (n m : Number) (made : IsMade h l n) (made' : IsMade h l m) where
  beside_one : n.beside ≡ m.beside
  beside_one = sym made.0.beside_is
      ∙ (ap (λ (k : ℕ). take k (drop (l.text + 1) (map (λ f. f.now) l.fields))) (made.0.beside_all ∙ sym made'.0.beside_all) ∙ made'.0.beside_is)

  of_place : is_of_place l.word ≡ true → n ≡ m
  of_place is =
      let on = subst (λ (b : Bool). AskedOf b h n) (ap is_of_place (sym made.0.word_is) ∙ is) made.1 in
      let on' = subst (λ (b : Bool). AskedOf b h m) (ap is_of_place (sym made'.0.word_is) ∙ is) made'.1 in
      let p = both_last (λ p. Any (λ w. MayAskOf h p w n.key) (last_of p.windows)) (λ p. Any (λ w. MayAskOf h p w m.key) (last_of p.windows)) h.places on on' in
      let w = both_last (λ w. MayAskOf h p.0 w n.key) (λ w. MayAskOf h p.0 w m.key) p.0.windows p.1 p.2 in
      let sizes = unit_of_place l.word h n.key m.key l is made.0.named made'.0.named made.0.size made'.0.size in
      let whose = subst (λ (b : Bool). IsWhose b n.key l) is made.0.whose in
      let whose' = subst (λ (b : Bool). IsWhose b m.key l) is made'.0.whose in
      texts_one n m (key_one n.key m.key (sym made.0.word_is ∙ made'.0.word_is) (w.1.span ∙ sym w.2.span)
      (other_of_place l.word n.key m.key is made.0.other made'.0.other) (whose.0 ∙ sym whose'.0) (whose.1 ∙ sym whose'.1)
      (w.1.used ∙ sym w.2.used) sizes.0 sizes.1 (sym made.0.from_is ∙ made'.0.from_is) (sym made.0.to_is ∙ made'.0.to_is))
      (sym made.0.text_is ∙ made'.0.text_is) beside_one

  of_house : is_of_house l.word ≡ true → is_of_place l.word ≡ false → n ≡ m
  of_house is other =
      let on = subst (λ (b : Bool). AskedOf b h n) (ap is_of_place (sym made.0.word_is) ∙ other) made.1 in
      let on' = subst (λ (b : Bool). AskedOf b h m) (ap is_of_place (sym made'.0.word_is) ∙ other) made'.1 in
      let p = parts_of l.word h n.key l is made.0.named in
      let q = parts_of l.word h m.key l is made'.0.named in
      let whose = subst (λ (b : Bool). IsWhose b n.key l) other made.0.whose in
      let whose' = subst (λ (b : Bool). IsWhose b m.key l) other made'.0.whose in
      texts_one n m (key_one n.key m.key (sym made.0.word_is ∙ made'.0.word_is) (count_one n.key.span m.key.span (number_at 0 l) p.span q.span)
      (other_of_house l.word n.key m.key l p.other q.other made.0.other made'.0.other) (whose.0 ∙ sym whose'.0) (whose.1 ∙ sym whose'.1)
      (one_name h (text_at (use_place l.word) l) n.key.used m.key.used p.used q.used on.1 on'.1)
      (unit_same l.word h n.key.used m.key.used n.key.unit m.key.unit l p.unit q.unit)
      (size_of_house l.word n.key m.key is made.0.size made'.0.size) (sym made.0.from_is ∙ made'.0.from_is) (sym made.0.to_is ∙ made'.0.to_is))
      (sym made.0.text_is ∙ made'.0.text_is) beside_one

  number_by : (b : Bool) → is_of_place l.word ≡ b → n ≡ m
  number_by true is = of_place is
  number_by false is = of_house (house_word l.word (same_class h (asks n) l made.0) is) is

-- ---- a line says one thing

fact_one : (h : House) (l : Line) (d e : Declared) → MayBeNext h (declares d) → MayBeNext h (declares e) → IsSaid h (declares d) l
    → IsSaid h (declares e) l → d ≡ e
fact_one h l d e may may' is is' =
    let fact : d.fact ≡ e.fact = one_fact h l d.fact e.fact is.0 is'.0 may.2 may'.2 in
    let at : span_place d.fact ≡ span_place e.fact = ap span_place fact in
    ap (λ (f : Fact). record d { fact = f }) fact
    ∙ (ap (λ (n : ℕ). record d { fact = e.fact; span = n }) (count_one d.span e.span (number_at (span_place d.fact) l) is.1
    (ap (λ (p : ℕ). number_at p l) at ∙ is'.1))
    ∙ ap (λ (n : ℕ). record e { ratio = n }) (sym is.2 ∙ (ap (λ (p : ℕ). number_at (p + 1) l) at ∙ is'.2)))

run_one : (h : House) (l : Line) (i j : ℕ) (r q : Run) → IsSaid h (counts i r) l → IsSaid h (counts j q) l → r ≡ q
run_one h l i j r q is is' =
    ap (λ (x : Identity). record r { identity = x })
    (same_from_text (text_at 1 l) r.identity q.identity is.8 is.9 is'.8 is'.9 is.2 is'.2)
    ∙ (ap (λ (n : ℕ). record r { identity = q.identity; begin = n }) (sym is.3 ∙ is'.3)
    ∙ (ap (λ (o : Option ℕ). record q { over = o; most = r.most; size = r.size; vib = r.vib }) (sym is.4 ∙ is'.4)
    ∙ (ap (λ (n : ℕ). record q { most = n; size = r.size; vib = r.vib }) (sym is.5 ∙ is'.5)
    ∙ (ap (λ (n : ℕ). record q { size = n; vib = r.vib }) (sym is.6 ∙ is'.6)
    ∙ ap (λ (v : List ℕ). record q { vib = v }) (vib_one (text_at 6 l) r.vib q.vib is.7 is'.7)))))

place_one : (h : House) (l : Line) (i j : ℕ) (p q : Place) → MayBeNext h (stands i p) → MayBeNext h (stands j q) → IsSaid h (stands i p) l
    → IsSaid h (stands j q) l → p ≡ q
place_one h l i j p q may may' is is' =
    ap (λ (x : List ℕ). record p { flat = x }) (sym is.2 ∙ is'.2)
    ∙ (ap (λ (n : ℕ). record p { flat = q.flat; used = n }) (one_name h (text_at 2 l) p.used q.used is.3 is'.3 may.4 may'.4)
    ∙ (ap (λ (n : ℕ). record q { weight = n; runs = p.runs; windows = p.windows }) (sym is.4 ∙ is'.4)
    ∙ (ap (λ (rs : List Run). record q { runs = rs; windows = p.windows }) (may.2 ∙ sym may'.2)
    ∙ ap (λ (ws : List Window). record q { windows = ws }) (may.3 ∙ sym may'.3))))

part_one : (x y : Part) → x.from ≡ y.from → x.to ≡ y.to → x.user ≡ y.user → x ≡ y
part_one x y a b e = ap (λ (n : ℕ). record x { from = n }) a
    ∙ (ap (λ (n : ℕ). record x { from = y.from; to = n }) b ∙ ap (λ (u : Option ℕ). record y { user = u }) e)

one_said : (h : House) (l : Line) (x y : Said) → MayBeNext h x → MayBeNext h y → IsSaid h x l → IsSaid h y l → class_of x ≡ class_of y
    → bare_said x ≡ bare_said y
one_said h l (begins a) (begins b) may may' is is' e = ap (λ (t : List ℕ). begins t) (sym is.1 ∙ is'.1)
one_said h l (uses u) (uses v) may may' is is' e = ap (λ (x : Use). uses x)
    (ap (λ (t : List ℕ). record u { name = t }) (sym is.1 ∙ is'.1)
    ∙ ap (λ (q : Counted). record v { counts = q }) (same_Some u.counts v.counts (sym is.2 ∙ is'.2)))
one_said h l (allows a) (allows b) may may' is is' e = ap (λ (x : Allowed). allows x)
    (ap (λ (n : ℕ). record a { used = n }) (one_name h (text_at 0 l) a.used b.used is.1 is'.1 may.0 may'.0)
    ∙ (ap (λ (n : ℕ). record a { used = b.used; kind = n }) (sym is.2 ∙ is'.2) ∙ ap (λ (t : List ℕ). record b { why = t }) (sym is.3 ∙ is'.3)))
one_said h l (spans i s) (spans j t) may may' is is' e =
    ap (λ (n : ℕ). spans n s) (may.0 ∙ sym may'.0) ∙ ap (λ (x : Span). spans j x)
    (ap (λ (f : End). record s { from = f }) (end_one 1 l s.from t.from is.2 is'.2) ∙ ap (λ (f : End). record t { to = f }) (end_one 3 l s.to t.to is.3 is'.3))
one_said h l (declares d) (declares f) may may' is is' e = ap (λ (x : Declared). declares x) (fact_one h l d f may may' is is')
one_said h l (lives u) (lives v) may may' is is' e = ap (λ (x : User). lives x)
    (ap (λ (n : ℕ). record u { number = n }) (sym is.1 ∙ is'.1)
    ∙ (ap (λ (t : List ℕ). record u { number = v.number; flat = t }) (sym is.2 ∙ is'.2) ∙ ap (λ (o : Option ℕ). record v { area = o }) (sym is.3 ∙ is'.3)))
one_said h l (stands i p) (stands j q) may may' is is' e =
    ap (λ (n : ℕ). stands n (bare_place p)) (may.0 ∙ sym may'.0)
    ∙ ap (λ (x : Place). stands j (bare_place x)) (place_one h l i j p q may may' is is')
one_said h l (counts i r) (counts j q) may may' is is' e =
    ap (λ (n : ℕ). counts n r) (count_one i j (number_at 0 l) is.1 is'.1) ∙ ap (λ (x : Run). counts j x) (run_one h l i j r q is is')
one_said h l (opens i) (opens j) may may' is is' e = ap (λ (n : ℕ). opens n) (count_one i j (number_at 0 l) is.1 is'.1)
one_said h l (reads v) (reads w) may may' is is' e = ap (λ (x : Value). reads x) (value_one h l v w may may' is is')
one_said h l (strikes x) (strikes y) may may' is is' e = ap (λ (z : Struck). strikes z)
    (ap (λ (n : ℕ). record x { run = n }) (count_one x.run y.run (number_at 0 l) is.1 is'.1)
    ∙ (ap (λ (n : ℕ). record x { run = y.run; moment = n }) (sym is.2 ∙ is'.2) ∙ ap (λ (t : List ℕ). record y { why = t }) (sym is.3 ∙ is'.3)))
one_said h l (parts i x) (parts j y) may may' is is' e =
    ap (λ (n : ℕ). parts n x) (count_one i j (number_at 0 l) is.1 is'.1)
    ∙ ap (λ (z : Part). parts j z) (part_one x y (sym is.2 ∙ is'.2) (sym is.3 ∙ is'.3) (sym is.4 ∙ is'.4))
one_said h l (asks n) (asks m) may may' is is' e =
    ap (λ (z : Number). asks z) (number_by h l n m (is, may) (is', may') (is_of_place l.word) refl)
one_said h l totals totals may may' is is' e = refl
one_said h l closes closes may may' is is' e = refl
one_said h l x y may may' is is' e = absurd (omega (arith, e))

-- ---- lines, one by one

module _ (h g : House) (same : bare_house h ≡ bare_house g) where
  -- what follows of one follows of the other
  may_same : (x : Said) → MayBeNext h x → MayBeNext g x
  may_same x may = may_like (bare_house g) g x (alike_back g)
      (subst (λ (i : House). MayBeNext i x) same (may_like h (bare_house h) x (alike_bare h) may))

  uses_same : h.uses ≡ g.uses
  uses_same = ap (λ (i : House). i.uses) same

  one_adds : (l : Line) (i j : House) → Adds h l i → Adds g l j → bare_house i ≡ bare_house j
  one_adds l i j a b =
      let x = a.said in
      let y = b.said in
      let says : IsSaid g x l = said_like x h g l uses_same (said_before x h l (subst (λ (k : House). IsSaid k x l) a.with_it a.says)) in
      let says' : IsSaid g y l = said_before y g l (subst (λ (k : House). IsSaid k y l) b.with_it b.says) in
      let one = one_said g l x y (may_same x a.may) b.may says says' (same_class g x l says ∙ sym (same_class g y l says')) in
      ap bare_house a.with_it ∙ (sym (with_bare x h) ∙ (ap (with_said (bare_said x)) same
      ∙ (ap (λ (z : Said). with_said z (bare_house g)) one ∙ (with_bare y g ∙ sym (ap bare_house b.with_it)))))

  one_follows : (s : ℕ) (text : List ℕ) (t u : ℕ) (i j : House) → Follows s text h t i → Follows s text g u j → (t ≡ u) × (bare_house i ≡ bare_house j)
  one_follows s text t u i j a b = (
    a.stage_is ∙ (one_stage text a.line b.line a.is b.is ∙ sym b.stage_is),
    one_adds b.line i j (same_adds h i a.line b.line (one_line text a.line b.line a.is b.is) a.adds) b.adds,
  )

  follows_too : (s : ℕ) (text : List ℕ) (t : ℕ) (i : House) → Follows s text h t i → (j : House) × Follows s text g t j
  follows_too s text t i f = (
    with_said f.adds.said g,
    record {
      short = f.short;
      line = f.line;
      is = f.is;
      follows = f.follows;
      stage_is = f.stage_is;
      adds = record {
        said = f.adds.said;
        may = may_same f.adds.said f.adds.may;
        says = said_after f.adds.said g f.line (said_like f.adds.said h g f.line uses_same
            (said_before f.adds.said h f.line (subst (λ (k : House). IsSaid k f.adds.said f.line) f.adds.with_it f.adds.says)));
        with_it = refl;
      };
    },
  )

pub one_house : (s : ℕ) (h g : House) (lines : List (List ℕ)) (t u : ℕ) (i j : House) → bare_house h ≡ bare_house g
    → Steps s h lines t i → Steps s g lines u j → (t ≡ u) × (bare_house i ≡ bare_house j)
one_house s h g [] t u i j same a b = (a.0 ∙ sym b.0, ap bare_house a.1 ∙ (same ∙ sym (ap bare_house b.1)))
one_house s h g (line ∷ lines) t u i j same a b =
    let f = one_follows h g same s line a.0 b.0 a.1 b.1 a.2 b.2 in
    one_house a.0 a.1 b.1 lines t u i j f.1 a.3 (subst (λ (n : ℕ). Steps n b.1 lines u j) (sym f.0) b.3)

split : (s : ℕ) (h : House) (before rest : List (List ℕ)) (t : ℕ) (g : House) → Steps s h (before ++ rest) t g
    → (u : ℕ) × (i : House) × Steps s h before u i × Steps u i rest t g
split s h [] rest t g steps = (s, h, (refl, refl), steps)
split s h (line ∷ before) rest t g steps =
    let more = split steps.0 steps.1 before rest t g steps.3 in
    (more.0, more.1, (steps.0, steps.1, steps.2, more.2), more.3)

-- NO HOUSE is spelled by lines of which one can't follow
pub none_follows : (s : ℕ) (h : House) (before : List (List ℕ)) (line : List ℕ) (rest : List (List ℕ)) (u : ℕ) (i : House) → Steps s h before u i
    → CantFollow u line i → (t : ℕ) (g : House) → Steps s h (before ++ line ∷ rest) t g → ⊥
none_follows s h before line rest u i steps cant t g all =
    let two = split s h before (line ∷ rest) t g all in
    let one = one_house s h h before two.0 u two.1 i refl two.2 steps in
    let next = follows_too two.1 i one.1 two.0 line two.3.0 two.3.1 two.3.2 in
    cant two.3.0 next.0 (subst (λ (n : ℕ). Follows n line i two.3.0 next.0) one.0 next.1)

-- ---- a house without amounts

windows_twice : (ws : List Window) → map bare_window (map bare_window ws) ≡ map bare_window ws
windows_twice [] = refl
windows_twice (w ∷ ws) =
    ap (λ (vs : List Value). record w { values = vs } ∷ map bare_window (map bare_window ws)) (twice bare_value bare_value w.values)
    ∙ ap (λ (xs : List Window). bare_window w ∷ xs) (windows_twice ws)

places_twice : (ps : List Place) → map bare_place (map bare_place ps) ≡ map bare_place ps
places_twice [] = refl
places_twice (p ∷ ps) =
    ap (λ (ws : List Window). record p { windows = ws } ∷ map bare_place (map bare_place ps)) (windows_twice p.windows)
    ∙ ap (λ (xs : List Place). bare_place p ∷ xs) (places_twice ps)

bare_twice : (h : House) → bare_house (bare_house h) ≡ bare_house h
bare_twice h = ap (λ (ps : List Place). record h { places = ps }) (places_twice h.places)

-- lines spell houses that are the same without amounts
pub bare_one : (lines : List (List ℕ)) (h g : House) → Steps 0 empty lines 12 (bare_house h) → Steps 0 empty lines 12 (bare_house g)
    → bare_house h ≡ bare_house g
bare_one lines h g a b = sym (bare_twice h) ∙ ((one_house 0 empty empty lines 12 12 (bare_house h) (bare_house g) refl a b).1 ∙ bare_twice g)

-- what holds of each of lines holds of one
pub all_mid : {X : Type 0} (P : X → Type 0) (xs : List X) (x : X) (ys : List X) → All P (xs ++ x ∷ ys) → P x
all_mid P [] x ys all = all_front P x ys all
all_mid P (z ∷ xs) x ys all = all_mid P xs x ys (all_rest P z (xs ++ x ∷ ys) all)

-- ---- no question marks

any_mark : (xs ys : List (Bor (List ℕ))) → map (λ f. f.now) xs ≡ map (λ f. f.now) ys → list_any (λ f. has_mark f.now) xs ≡ list_any (λ f. has_mark f.now) ys
any_mark xs ys same = marks xs ∙ (ap (λ (fs : List (List ℕ)). list_any (λ f. has_mark f) fs) same ∙ sym (marks ys))
  where
    marks : (xs : List (Bor (List ℕ))) → list_any (λ f. has_mark f.now) xs ≡ list_any (λ f. has_mark f) (map (λ f. f.now) xs)
    marks [] = refl
    marks (x ∷ xs) = ap (λ (b : Bool). has_mark x.now || b) (marks xs)

-- lines of one text ask, or none does
pub not_asked : (text : List ℕ) (l : Line) → IsLine text l → is_asked l ≡ false → IsAsked text → ⊥
not_asked text l is none asked =
    let m : Line = asked.0 in
    let any = any_mark m.fields l.fields (one_line text m l asked.1 is).fields in
    let stage = one_stage text m l asked.1 is in
    false≢true (sym none ∙ (sym (ap (λ (n : ℕ). ((n == 9) || (n == 11)) && list_any (λ f. has_mark f.now) m.fields) stage
    ∙ ap (λ (b : Bool). ((l.stage == 9) || (l.stage == 11)) && b) any) ∙ asked.2))
