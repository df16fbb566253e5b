-- What a line adds, where it says it.
use Rattle.std.proofs.Common.{◌≡◌, ◌≢◌, ◌+◌, ◌<◌, ℕ, List, [], ◌∷◌, ◌++◌, length, None, Some, refl, sym, ap, ◌∙◌, Bool, true, false}
use Rattle.std.specs.Prelude.{All, slice_get}
use Rattle.dc_address.specs.Text as identity
use Rattle.mbdc_audit.specs.Amount.{last_of}
use Rattle.mbdc_audit.specs.House.{House, Key, Use, Span, User, Place, Run, Value, Struck, Part, Number}
use Rattle.mbdc_audit.specs.declared.house.Declared.{Declared}
use Rattle.mbdc_audit.specs.declared.house.Fact.{Fact}
use Rattle.mbdc_audit.specs.declared.house.Fact.TheVariants.{Factor, Emissions, Degrees, Price, Average}
use Rattle.mbdc_audit.specs.declared.line.Line.{Line}
use Rattle.mbdc_audit.specs.declared.line.Word.{Word}
use Rattle.mbdc_audit.specs.declared.line.Word.TheVariants as word
use Rattle.mbdc_audit.specs.Line.{maybe_at, number_at}
use Rattle.mbdc_audit.specs.Uses.{counted_named}
use Rattle.mbdc_audit.specs.Sound.{AreOne, IsAt, IsDeclared}
use Rattle.mbdc_audit.specs.File.{Counts, IsEnd, IsFact, IsSource, IsVib, Names, span_place, text_at, use_of}
use Rattle.mbdc_audit.specs.File.{uses, allows, spans, declares, lives, stands, counts, opens, reads, strikes, parts, asks}
use Rattle.mbdc_audit.specs.Reader.{IsMade}
use Rattle.mbdc_audit.specs.File.{Adds, HasUnit, InPlace, InWindow, IsMeant, first_named, is_of_place, with_number, with_said}
use Rattle.mbdc_audit.proofs.Named.{named_is, named_meant, none_named}

pub adds_use : (h : House) (l : Line) (u : Use) → l.word ≡ word.Use → text_at 0 l ≡ u.name → counted_named (text_at 1 l) ≡ Some u.counts
    → first_named h (text_at 0 l) ≡ None → length h.uses < 64 → Adds h l (with_said (uses u) h)
adds_use h l u word name_is counts_is none few = record {
  said = uses u;
  may = (none_named h u.name (ap (first_named h) (sym name_is) ∙ none), few);
  says = (word, name_is, counts_is);
  with_it = refl;
}

pub adds_allowed : (h : House) (l : Line) (used kind : ℕ) (why : List ℕ) → l.word ≡ word.As → first_named h (text_at 0 l) ≡ Some used
    → number_at 1 l ≡ kind → text_at 2 l ≡ why → All (λ b. b.used ≡ used → b.kind ≢ kind) h.allowed
    → Adds h l (with_said (allows (record { used = used; kind = kind; why = why })) h)
adds_allowed h l used kind why word named kind_is why_is new = record {
  said = allows (record { used = used; kind = kind; why = why });
  may = (named_meant h (text_at 0 l) used named, new);
  says = (word, named_is h (text_at 0 l) used named, kind_is, why_is);
  with_it = refl;
}

pub adds_span : (h : House) (l : Line) (s : Span) → l.word ≡ word.Span → Counts (length h.spans) 0 l → IsEnd s.from 1 l → IsEnd s.to 3 l
    → length h.spans < 4 → Adds h l (with_said (spans (length h.spans) s) h)
adds_span h l s word next from to few = record {
  said = spans (length h.spans) s;
  may = (refl, few);
  says = (word, next, from, to);
  with_it = refl;
}

fact_kept : (h : House) (f : Fact) (l : Line) (ds : List Declared) → IsFact h f l → IsFact (record h { facts = ds }) f l
fact_kept h (Factor used) l ds is = is
fact_kept h (Emissions used) l ds is = is
fact_kept h (Price used unit) l ds is = is
fact_kept h (Average used unit) l ds is = is
fact_kept h Degrees l ds is = is

pub adds_fact : (h : House) (l : Line) (d : Declared) → IsFact h d.fact l → Counts d.span (span_place d.fact) l
    → number_at (span_place d.fact + 1) l ≡ d.ratio → All (λ e. AreOne e d → ⊥) h.facts → d.span < length h.spans
    → ((used : ℕ) → use_of d.fact ≡ Some used → IsMeant h used) → Adds h l (with_said (declares d) h)
adds_fact h l d fact span ratio new there meant = record {
  said = declares d;
  may = (new, there, meant);
  says = (fact_kept h d.fact l (h.facts ++ d ∷ []) fact, span, ratio);
  with_it = refl;
}

pub adds_user : (h : House) (l : Line) (u : User) → l.word ≡ word.User → number_at 0 l ≡ u.number → text_at 1 l ≡ u.flat
    → maybe_at 2 l ≡ u.area → All (λ v. v.number < u.number) (last_of h.users) → length h.users < 4096
    → Adds h l (with_said (lives u) h)
adds_user h l u word number flat area rises few = record {
  said = lives u;
  may = (rises, few);
  says = (word, number, flat, area);
  with_it = refl;
}

pub adds_place : (h : House) (l : Line) (flat : List ℕ) (used weight : ℕ) → l.word ≡ word.Place → Counts (length h.places) 0 l
    → text_at 1 l ≡ flat → first_named h (text_at 2 l) ≡ Some used → number_at 3 l ≡ weight → length h.places < 16384
    → Adds h l (with_said (stands (length h.places) (record { flat = flat; used = used; weight = weight; runs = []; windows = [] })) h)
adds_place h l flat used weight word next flat_is named weight_is few = record {
  said = stands (length h.places) (record { flat = flat; used = used; weight = weight; runs = []; windows = [] });
  may = (refl, few, refl, refl, named_meant h (text_at 2 l) used named);
  says = (word, next, flat_is, named_is h (text_at 2 l) used named, weight_is);
  with_it = refl;
}

pub adds_run : (h : House) (l : Line) (n : ℕ) (r : Run) → l.word ≡ word.Meter → Counts n 0 l → text_at 1 l ≡ identity.text_of r.identity
    → number_at 2 l ≡ r.begin → maybe_at 3 l ≡ r.over → number_at 4 l ≡ r.most → number_at 5 l ≡ r.size → IsVib (text_at 6 l) r.vib
    → r.identity.version < 256 → r.identity.kind < 256 → InPlace (λ p. (n ≡ length p.runs) × (n < 16)) h → Adds h l (with_said (counts n r) h)
adds_run h l n r word next identity begin over most size vib version kind may = record {
  said = counts n r;
  may = may;
  says = (word, next, identity, begin, over, most, size, vib, version, kind);
  with_it = refl;
}

pub adds_window : (h : House) (l : Line) (n : ℕ) → l.word ≡ word.Window → Counts n 0 l
    → InPlace (λ p. All (λ w. w.span < n) (last_of p.windows)) h → n < length h.spans → Adds h l (with_said (opens n) h)
adds_window h l n word next rises there = record { said = opens n; may = (rises, there); says = (word, next); with_it = refl }

pub adds_value : (h : House) (l : Line) (v : Value) → Counts v.run 0 l → IsSource v v.source l → HasUnit v.source
    → InWindow (λ p w. (length w.values < 2048) × ((r : Run) × (slice_get p.runs v.run ≡ Some r) × IsAt r v v.source)) h
    → Adds h l (with_said (reads v) h)
adds_value h l v run source unit may = record { said = reads v; may = (may, unit); says = (run, source); with_it = refl }

pub adds_struck : (h : House) (l : Line) (x : Struck) → l.word ≡ word.Struck → Counts x.run 0 l → number_at 1 l ≡ x.moment
    → text_at 2 l ≡ x.why → InWindow (λ p w. x.run < length p.runs) h → Adds h l (with_said (strikes x) h)
adds_struck h l x word run moment why may = record { said = strikes x; may = may; says = (word, run, moment, why); with_it = refl }

pub adds_part : (h : House) (l : Line) (n : ℕ) (x : Part) → l.word ≡ word.Part → Counts n 0 l → number_at 1 l ≡ x.from
    → number_at 2 l ≡ x.to → maybe_at 3 l ≡ x.user → InWindow (λ p w. (n ≡ w.span) × (length w.parts < 64)) h → IsDeclared h x.user
    → Adds h l (with_said (parts n x) h)
adds_part h l n x word span from to user may declared = record {
  said = parts n x;
  may = (may, declared);
  says = (word, span, from, to, user);
  with_it = refl;
}

-- ---- a number: what its line names is of the uses alone

place_kept : (w : Word) (h : House) (k : Key) (l : Line) (ps : List Place) → Names w h k l → Names w (record h { places = ps }) k l
place_kept word.Shown h k l ps is = is
place_kept _ h k l ps is = is

house_kept : (w : Word) (h : House) (k : Key) (l : Line) (ns : List Number) → Names w h k l → Names w (record h { numbers = ns }) k l
house_kept word.Shown h k l ns is = is
house_kept _ h k l ns is = is

names_kept : (b : Bool) (w : Word) (h : House) (n : Number) (l : Line) → Names w h n.key l → Names w (with_number b n h) n.key l
names_kept true w h n l is = place_kept w h n.key l _ is
names_kept false w h n l is = house_kept w h n.key l (h.numbers ++ n ∷ []) is

pub adds_number : (h : House) (l : Line) (n : Number) → IsMade h l n → Adds h l (with_said (asks n) h)
adds_number h l n made = record {
  said = asks n;
  may = made.1;
  says = record {
    word_is = made.0.word_is;
    from_is = made.0.from_is;
    to_is = made.0.to_is;
    named = names_kept (is_of_place n.key.word) l.word h n l made.0.named;
    text_is = made.0.text_is;
    beside_is = made.0.beside_is;
    beside_all = made.0.beside_all;
    other = made.0.other;
    size = made.0.size;
    whose = made.0.whose;
  };
  with_it = refl;
}

-- the other way

pub fact_was : (h : House) (f : Fact) (l : Line) (ds : List Declared) → IsFact (record h { facts = ds }) f l → IsFact h f l
fact_was h (Factor used) l ds is = is
fact_was h (Emissions used) l ds is = is
fact_was h (Price used unit) l ds is = is
fact_was h (Average used unit) l ds is = is
fact_was h Degrees l ds is = is
