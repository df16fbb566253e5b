-- What a number of the house is of, by its word.
use Rattle.std.proofs.Common.{arith, ◌≡◌, ◌+◌, ◌-◌, ◌<◌, ◌⊎◌, ℕ, Bool, true, false, List, [], ◌∷◌, ◌++◌, length, map, take, drop, get_or, Option, Some, refl, sym, ap, subst, ◌∙◌}
use Rattle.std.specs.Prelude.{⊤, All, Any, IsSome}
use Rattle.std.specs.Option.{option_map}
use Rattle.std.proofs.lemmas.Option.{same_Some, slice_get-get_or}
use Rattle.mbdc_audit.specs.House.{House, Key, Number, Use}
use Rattle.mbdc_audit.specs.declared.house.Fact.{Fact}
use Rattle.mbdc_audit.specs.declared.house.Fact.TheVariants.{Emissions, Price}
use Rattle.mbdc_audit.specs.declared.uses.Counted.{Counted}
use Rattle.mbdc_audit.specs.declared.uses.Counted.TheVariants.{Energy, Volume, Allocation}
use Rattle.mbdc_audit.specs.Number.{scale_of}
use Rattle.mbdc_audit.specs.declared.line.Line.{Line}
use Rattle.mbdc_audit.specs.declared.line.Word.{Word}
use Rattle.mbdc_audit.specs.declared.line.Word.TheVariants as word
use Rattle.mbdc_audit.specs.declared.uses.Unit.{Unit}
use Rattle.mbdc_audit.specs.declared.uses.Unit.TheVariants.{Kwh}
use Rattle.mbdc_audit.specs.File.{Counts, IsUsed, Names, period_place, text_at}
use Rattle.mbdc_audit.specs.Line.{number_at}
use Rattle.mbdc_audit.specs.Published.{Has, HasOther, IsUnit, IsWho, MayAsk, declared, needs, of_factor, of_word, user_at}
use Rattle.mbdc_audit.specs.Reader.{IsMade, IsOther, IsUnitOf, is_of_house}
use Rattle.mbdc_audit.specs.File.{AskedOf, IsMeant, IsWhose, NoOther, NoSize, is_of_place, use_place}
use Rattle.mbdc_audit.specs.Uses.{unit_named}
use Rattle.mbdc_audit.specs.View.{beside_count}

-- who it is of
abbrev pub WhoseIs : Word → Key → Line → Type 0
WhoseIs word.OfHouse k l = ⊤
WhoseIs word.OfFlat k l = text_at 1 l ≡ k.flat
WhoseIs w k l = number_at (use_place w - 1) l ≡ k.user

-- the other span, as its line counts it
abbrev pub CountsOther : Word → Key → Line → Type 0
CountsOther word.Change k l = Counts k.other 1 l
CountsOther word.Weather k l = Counts k.other 1 l
CountsOther _ k l = ⊤

-- WHAT A LINE NAMES, part by part
pub record Parts (w : Word) (h : House) (k : Key) (l : Line) : Type 0 where
  pub span : Counts k.span 0 l
  pub other : CountsOther w k l
  pub whose : WhoseIs w k l
  pub used : IsUsed h k.used (use_place w) l
  pub unit : IsUnitOf w h k.used k.unit l

pub parts_of : (w : Word) (h : House) (k : Key) (l : Line) → is_of_house w ≡ true → Names w h k l → Parts w h k l
parts_of word.OfUser h k l is n = record { span = n.0; other = tt; whose = n.1.0; used = n.1.1.0; unit = (n.1.1.1, n.1.1.2) }
parts_of word.Mean h k l is n = record { span = n.0; other = tt; whose = n.1.0; used = n.1.1.0; unit = (n.1.1.1, n.1.1.2) }
parts_of word.Cost h k l is n = record { span = n.0; other = tt; whose = n.1.0; used = n.1.1.0; unit = (n.1.1.1, n.1.1.2) }
parts_of word.OfFlat h k l is n = record { span = n.0; other = tt; whose = n.1; used = n.2.0; unit = (n.2.1, n.2.2) }
parts_of word.OfHouse h k l is n = record { span = n.0; other = tt; whose = tt; used = n.1.0; unit = (n.1.1, n.1.2) }
parts_of word.Change h k l is n = record { span = n.0; other = n.1; whose = n.2.0; used = n.2.1.0; unit = (n.2.1.1, n.2.1.2) }
parts_of word.Weather h k l is n = record { span = n.0; other = n.1; whose = n.2; used = n.3; unit = n.4 }
parts_of word.Carbon h k l is n = record { span = n.0; other = tt; whose = n.1; used = n.2; unit = n.3 }
parts_of _ h k l is n = (cc)

pub of_parts : (w : Word) (h : House) (k : Key) (l : Line) → is_of_house w ≡ true → Parts w h k l → Names w h k l
of_parts word.OfUser h k l is p = (p.span, (p.whose, (p.used, p.unit.0, p.unit.1)))
of_parts word.Mean h k l is p = (p.span, (p.whose, (p.used, p.unit.0, p.unit.1)))
of_parts word.Cost h k l is p = (p.span, (p.whose, (p.used, p.unit.0, p.unit.1)))
of_parts word.OfFlat h k l is p = (p.span, p.whose, (p.used, p.unit.0, p.unit.1))
of_parts word.OfHouse h k l is p = (p.span, (p.used, p.unit.0, p.unit.1))
of_parts word.Change h k l is p = (p.span, p.other, (p.whose, (p.used, p.unit.0, p.unit.1)))
of_parts word.Weather h k l is p = (p.span, p.other, p.whose, p.used, p.unit)
of_parts word.Carbon h k l is p = (p.span, p.whose, p.used, p.unit)
of_parts _ h k l is p = (cc)

pub from_start : (w : Word) → is_of_house w ≡ true → period_place w ≡ 0
from_start word.Shown is = (cc)
from_start _ is = refl

pub not_of_place : (w : Word) → is_of_house w ≡ true → is_of_place w ≡ false
not_of_place word.Shown is = (cc)
not_of_place word.Value is = (cc)
not_of_place _ is = refl

one_size : (w : Word) (k : Key) → is_of_house w ≡ true → k.size ≡ 1 → NoSize w k
one_size word.Value k is one = (cc)
one_size _ k is one = one

-- a number of the house, with its texts
pub house_made : (h : House) (l : Line) (n : Number) → is_of_house l.word ≡ true → n.key.word ≡ l.word → number_at 0 l ≡ n.key.from
    → number_at 1 l ≡ n.key.to → Parts l.word h n.key l → text_at l.text l ≡ n.text
    → take (length n.beside) (drop (l.text + 1) (map (λ f. f.now) l.fields)) ≡ n.beside
    → length n.beside ≡ beside_count l.word → NoOther l.word n.key → n.key.size ≡ 1
    → (n.key.user ≡ number_at (use_place l.word - 1) l) × (n.key.flat ≡ text_at (use_place l.word - 1) l)
    → MayAsk h n.key → IsMeant h n.key.used → IsMade h l n
house_made h l n is word from to parts text beside all other size whose may meant =
    let start : period_place l.word ≡ 0 = from_start l.word is in
    let house : is_of_place n.key.word ≡ false = ap is_of_place word ∙ not_of_place l.word is in (
      record {
        word_is = sym word;
        from_is = ap (λ (p : ℕ). number_at p l) start ∙ from;
        to_is = ap (λ (p : ℕ). number_at (p + 1) l) start ∙ to;
        named = of_parts l.word h n.key l is parts;
        text_is = text;
        beside_is = beside;
        beside_all = all;
        other = other;
        size = one_size l.word n.key is size;
        whose = subst (λ (b : Bool). IsWhose b n.key l) (sym (not_of_place l.word is)) whose;
      },
      subst (λ (b : Bool). AskedOf b h n) (sym house) (may, meant),
    )

pub house_asked : (h : House) (l : Line) (n : Number) → is_of_house l.word ≡ true → IsMade h l n → MayAsk h n.key × IsMeant h n.key.used
house_asked h l n is made =
    subst (λ (b : Bool). AskedOf b h n) (ap is_of_place (sym made.0.word_is) ∙ not_of_place l.word is) made.1

pub house_parts : (h : House) (l : Line) (n : Number) → is_of_house l.word ≡ true → IsMade h l n → Parts l.word h n.key l
house_parts h l n is made = parts_of l.word h n.key l is made.0.named

-- ---- what may be asked of two keys that a line names

who_same : (w : Word) (h : House) (k k' : Key) (l : Line) → is_of_house w ≡ true → WhoseIs w k l → WhoseIs w k' l → IsWho w h k → IsWho w h k'
who_same word.OfHouse h k k' l is whose whose' who = tt
who_same word.OfFlat h k k' l is whose whose' who =
    subst (λ (t : List ℕ). Any (λ u. u.flat ≡ t) h.users ⊎ Any (λ p. p.flat ≡ t) h.places) (sym whose ∙ whose') who
who_same word.OfUser h k k' l is whose whose' who = subst (λ (n : ℕ). IsSome (user_at h n)) (sym whose ∙ whose') who
who_same word.Mean h k k' l is whose whose' who = subst (λ (n : ℕ). IsSome (user_at h n)) (sym whose ∙ whose') who
who_same word.Change h k k' l is whose whose' who = subst (λ (n : ℕ). IsSome (user_at h n)) (sym whose ∙ whose') who
who_same word.Weather h k k' l is whose whose' who = subst (λ (n : ℕ). IsSome (user_at h n)) (sym whose ∙ whose') who
who_same word.Carbon h k k' l is whose whose' who = subst (λ (n : ℕ). IsSome (user_at h n)) (sym whose ∙ whose') who
who_same word.Cost h k k' l is whose whose' who = subst (λ (n : ℕ). IsSome (user_at h n)) (sym whose ∙ whose') who
who_same _ h k k' l is whose whose' who = (cc)

fact_same : (w : Word) (k k' : Key) → k.used ≡ k'.used → k.unit ≡ k'.unit → of_word w k ≡ of_word w k'
fact_same word.Weather k k' used unit = refl
fact_same word.Carbon k k' used unit = ap (λ (n : ℕ). Emissions n ∷ []) used
fact_same word.Cost k k' used unit = ap (λ (n : ℕ). Price n k.unit ∷ []) used ∙ ap (λ (u : Unit). Price k'.used u ∷ []) unit
fact_same _ k k' used unit = refl

needs_same : (h : House) (k k' : Key) → k.word ≡ k'.word → k.used ≡ k'.used → k.unit ≡ k'.unit → needs h k ≡ needs h k'
needs_same h k k' word used unit = ap (λ (n : ℕ). of_factor h n k.unit ++ of_word k.word k) used
    ∙ (ap (λ (u : Unit). of_factor h k'.used u ++ of_word k.word k) unit
    ∙ ap (λ (fs : List Fact). of_factor h k'.used k'.unit ++ fs) (ap (λ (w : Word). of_word w k) word ∙ fact_same k'.word k k' used unit))

pub has_same : (h : House) (k k' : Key) (span : ℕ) → k.word ≡ k'.word → k.used ≡ k'.used → k.unit ≡ k'.unit → Has h k span → Has h k' span
has_same h k k' span word used unit has = record {
  there = has.there;
  facts = subst (λ (fs : List Fact). All (λ f. IsSome (declared h f span)) fs) (needs_same h k k' word used unit) has.facts;
}

one_place : (n m k : ℕ) → n ≡ m + 1 → n ≡ k + 1 → m ≡ k
one_place n m k is is' = omega arith

-- the key of what the reader made
pub record AreAlike (w : Word) (k k' : Key) : Type 0 where
  pub word : k.word ≡ w
  pub word' : k'.word ≡ w
  pub used : k.used ≡ k'.used
  pub unit : k.unit ≡ k'.unit

has_at : (w : Word) (h : House) (k k' : Key) (n m : ℕ) → AreAlike w k k' → n ≡ m → Has h k n → Has h k' m
has_at w h k k' n m alike is has = subst (λ (x : ℕ). Has h k' x) is (has_same h k k' n (alike.word ∙ sym alike.word') alike.used alike.unit has)

other_same : (w : Word) (h : House) (k k' : Key) (l : Line) → AreAlike w k k' → CountsOther w k l → CountsOther w k' l → HasOther w h k → HasOther w h k'
other_same word.Change h k k' l alike is is' has = has_at word.Change h k k' k.other k'.other alike (one_place (number_at 1 l) k.other k'.other is is') has
other_same word.Weather h k k' l alike is is' has = has_at word.Weather h k k' k.other k'.other alike (one_place (number_at 1 l) k.other k'.other is is') has
other_same _ h k k' l alike is is' has = tt

pub may_same : (w : Word) (h : House) (k k' : Key) (l : Line) → is_of_house w ≡ true → AreAlike w k k' → Counts k.span 0 l → Counts k'.span 0 l
    → CountsOther w k l → CountsOther w k' l → WhoseIs w k l → WhoseIs w k' l → MayAsk h k → MayAsk h k'
may_same w h k k' l is alike span span' other other' whose whose' may = record {
  who = subst (λ (x : Word). IsWho x h k') (sym alike.word') (who_same w h k k' l is whose whose' (subst (λ (x : Word). IsWho x h k) alike.word may.who));
  unit = subst (λ (u : Unit). IsUnit h k'.used u) alike.unit (subst (λ (n : ℕ). IsUnit h n k.unit) alike.used may.unit);
  span = has_at w h k k' k.span k'.span alike (one_place (number_at 0 l) k.span k'.span span span') may.span;
  other = subst (λ (x : Word). HasOther x h k') (sym alike.word')
      (other_same w h k k' l alike other other' (subst (λ (x : Word). HasOther x h k) alike.word may.other));
}

-- ---- the parts that the reader makes

-- kilowatt hours are of each use
kwh_scale : (q : Counted) → IsSome (scale_of q Kwh)
kwh_scale Energy = refl
kwh_scale Volume = refl
kwh_scale Allocation = refl

pub kwh_unit : (h : House) (n : ℕ) → n < length h.uses → IsUnit h n Kwh
kwh_unit h n lt =
    let u : Use = get_or h.uses n (record { name = []; counts = Energy }) in
    (u.counts, ap (option_map (λ (x : Use). x.counts)) (slice_get-get_or h.uses n (record { name = []; counts = Energy }) lt), kwh_scale u.counts)

pub unit_is : (w : Word) (h : House) (n : ℕ) (u : Unit) (l : Line) → n < length h.uses → IsUnitOf w h n u l → IsUnit h n u
unit_is word.Weather h n u l lt is = subst (λ (x : Unit). IsUnit h n x) (sym is) (kwh_unit h n lt)
unit_is word.Carbon h n u l lt is = subst (λ (x : Unit). IsUnit h n x) (sym is) (kwh_unit h n lt)
unit_is _ h n u l lt is = is.1

pub other_is : (w : Word) (h : House) (k : Key) (l : Line) → IsOther w h k.other l → CountsOther w k l
other_is word.Change h k l is = is.0
other_is word.Weather h k l is = is.0
other_is _ h k l is = tt

pub is_other : (w : Word) (h : House) (k : Key) (l : Line) → CountsOther w k l → NoOther w k → HasOther w h k → IsOther w h k.other l
is_other word.Change h k l is none has = (is, has.there)
is_other word.Weather h k l is none has = (is, has.there)
is_other _ h k l is none has = none

pub no_other : (w : Word) (h : House) (k : Key) (l : Line) → IsOther w h k.other l → NoOther w k
no_other word.Change h k l is = tt
no_other word.Weather h k l is = tt
no_other _ h k l is = is

one_unit : (s : Option Unit) (a b : Unit) → s ≡ Some a → s ≡ Some b → a ≡ b
one_unit s a b is is' = same_Some a b (sym is ∙ is')

-- one line says one unit
pub unit_same : (w : Word) (h : House) (n m : ℕ) (u v : Unit) (l : Line) → IsUnitOf w h n u l → IsUnitOf w h m v l → u ≡ v
unit_same word.Weather h n m u v l is is' = is ∙ sym is'
unit_same word.Carbon h n m u v l is is' = is ∙ sym is'
unit_same w h n m u v l is is' = one_unit (unit_named (text_at (use_place w + 1) l)) u v is.0 is'.0

-- ---- what the reader finds by a word that is none of these

pub unit_by : (w : Word) (h : House) (n : ℕ) (u : Unit) (l : Line) → (w ≡ word.Weather → ⊥) → (w ≡ word.Carbon → ⊥)
    → (unit_named (text_at (use_place w + 1) l) ≡ Some u) × IsUnit h n u → IsUnitOf w h n u l
unit_by word.Weather h n u l a b is = absurd (a refl)
unit_by word.Carbon h n u l a b is = absurd (b refl)
unit_by _ h n u l a b is = is

pub by_unit : (w : Word) (h : House) (n : ℕ) (u : Unit) (l : Line) → (w ≡ word.Weather → ⊥) → (w ≡ word.Carbon → ⊥)
    → IsUnitOf w h n u l → (unit_named (text_at (use_place w + 1) l) ≡ Some u) × IsUnit h n u
by_unit word.Weather h n u l a b is = absurd (a refl)
by_unit word.Carbon h n u l a b is = absurd (b refl)
by_unit _ h n u l a b is = is

pub who_user : (w : Word) (h : House) (k : Key) → is_of_house w ≡ true → (w ≡ word.OfFlat → ⊥) → (w ≡ word.OfHouse → ⊥)
    → (IsSome (user_at h k.user) → IsWho w h k) × (IsWho w h k → IsSome (user_at h k.user))
who_user word.OfFlat h k is a b = absurd (a refl)
who_user word.OfHouse h k is a b = absurd (b refl)
who_user _ h k is a b = (λ who. who, λ who. who)

pub whose_is : (w : Word) (k : Key) (l : Line) → number_at (use_place w - 1) l ≡ k.user → text_at (use_place w - 1) l ≡ k.flat → WhoseIs w k l
whose_is word.OfHouse k l user flat = tt
whose_is word.OfFlat k l user flat = flat
whose_is _ k l user flat = user
