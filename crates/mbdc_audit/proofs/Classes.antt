-- What a line says is of its word's class.
use Rattle.std.proofs.Common.{arith, ◌≡◌, ◌⊎◌, inl, inr, ℕ, true, false, refl, sym, ap, subst, ◌∙◌, Result, Ok, Err}
use Rattle.std.specs.Prelude.{IfErr, IfOk, is_err}
use Rattle.std.specs.Result.{IsErrAnd}
use Rattle.mbdc_audit.specs.declared.fault.Stop.TheVariants as stop
use Rattle.mbdc_audit.specs.House.{House, Key, Use, Allowed, Run, Value, Struck, Part}
use Rattle.mbdc_audit.specs.House.{Source, current, stored, ended, anew, put, first, last}
use Rattle.mbdc_audit.specs.declared.house.Declared.{Declared}
use Rattle.mbdc_audit.specs.declared.house.Fact.{Fact}
use Rattle.mbdc_audit.specs.declared.house.Fact.TheVariants.{Factor, Emissions, Degrees, Price, Average}
use Rattle.mbdc_audit.specs.declared.fault.Stop.{Stop}
use Rattle.mbdc_audit.specs.declared.line.Line.{Line}
use Rattle.mbdc_audit.specs.declared.line.Word.{Word}
use Rattle.mbdc_audit.specs.declared.line.Word.TheVariants as word
use Rattle.mbdc_audit.specs.File.{Said, IsSaid, IsFact, IsSource, Names, begins, uses, allows, spans, declares, lives, stands}
use Rattle.mbdc_audit.specs.File.{counts, opens, reads, strikes, parts, asks, totals, closes}
use Rattle.mbdc_audit.specs.Reader.{AddsNothing, IsFault, is_value}
use Rattle.mbdc_audit.specs.File.{MayBeNext, with_said}

abbrev pub class_of : Said → ℕ
class_of (begins label) = 0
class_of (uses u) = 1
class_of (allows a) = 2
class_of (spans n s) = 3
class_of (declares d) = 4
class_of (lives u) = 5
class_of (stands n p) = 6
class_of (counts n r) = 7
class_of (opens n) = 8
class_of (reads v) = 9
class_of (strikes x) = 10
class_of (parts n x) = 11
class_of (asks n) = 12
class_of totals = 13
class_of closes = 14

abbrev pub class : Word → ℕ
class word.Audit = 0
class word.Use = 1
class word.As = 2
class word.Span = 3
class word.Factor = 4
class word.Emissions = 4
class word.Degrees = 4
class word.Price = 4
class word.Average = 4
class word.User = 5
class word.Place = 6
class word.Meter = 7
class word.Window = 8
class word.Read = 9
class word.Stored = 9
class word.Ended = 9
class word.Zero = 9
class word.Hand = 9
class word.Estimated = 9
class word.First = 9
class word.Last = 9
class word.Struck = 10
class word.Part = 11
class word.Totals = 13
class word.End = 14
class _ = 12

of_fact : (h : House) (f : Fact) (l : Line) → IsFact h f l → 4 ≡ class l.word
of_fact h (Factor used) l is = ap class (sym is.0)
of_fact h (Emissions used) l is = ap class (sym is.0)
of_fact h (Price used unit) l is = ap class (sym is.0)
of_fact h (Average used unit) l is = ap class (sym is.0)
of_fact h Degrees l is = ap class (sym is)

of_source : (v : Value) (s : Source) (l : Line) → IsSource v s l → 9 ≡ class l.word
of_source v (current bodies) l is = ap class (sym is.0)
of_source v (stored e bodies) l is = ap class (sym is.0)
of_source v (ended e bodies) l is = ap class (sym is.0)
of_source v anew l is = ap class (sym is)
of_source v (put true t) l is = ap class (sym is.0)
of_source v (put false t) l is = ap class (sym is.0)
of_source v (first guess t) l is = ap class (sym is.0)
of_source v (last guess t) l is = ap class (sym is.0)

of_name : (w : Word) (h : House) (k : Key) (l : Line) → Names w h k l → 12 ≡ class w
of_name word.Shown h k l is = refl
of_name word.Value h k l is = refl
of_name word.OfUser h k l is = refl
of_name word.OfFlat h k l is = refl
of_name word.OfHouse h k l is = refl
of_name word.Mean h k l is = refl
of_name word.Change h k l is = refl
of_name word.Weather h k l is = refl
of_name word.Carbon h k l is = refl
of_name word.Cost h k l is = refl
of_name _ h k l is = absurd is

pub same_class : (h : House) (s : Said) (l : Line) → IsSaid h s l → class_of s ≡ class l.word
same_class h (begins label) l is = ap class (sym is.0)
same_class h (uses u) l is = ap class (sym is.0)
same_class h (allows a) l is = ap class (sym is.0)
same_class h (spans n s) l is = ap class (sym is.0)
same_class h (declares d) l is = of_fact h d.fact l is.0
same_class h (lives u) l is = ap class (sym is.0)
same_class h (stands n p) l is = ap class (sym is.0)
same_class h (counts n r) l is = ap class (sym is.0)
same_class h (opens n) l is = ap class (sym is.0)
same_class h (reads v) l is = of_source v v.source l is.1
same_class h (strikes x) l is = ap class (sym is.0)
same_class h (parts n x) l is = ap class (sym is.0)
same_class h (asks n) l is = of_name l.word h n.key l is.named
same_class h totals l is = ap class (sym is)
same_class h closes l is = ap class (sym is)

-- ---- one class

use_only : (P : Said → Type 0) → ((u : Use) → P (uses u)) → (s : Said) → class_of s ≡ 1 → P s
use_only P f (uses u) is = f u
use_only P f s is = absurd (omega arith)

allowed_only : (P : Said → Type 0) → ((a : Allowed) → P (allows a)) → (s : Said) → class_of s ≡ 2 → P s
allowed_only P f (allows a) is = f a
allowed_only P f s is = absurd (omega arith)

fact_only : (P : Said → Type 0) → ((d : Declared) → P (declares d)) → (s : Said) → class_of s ≡ 4 → P s
fact_only P f (declares d) is = f d
fact_only P f s is = absurd (omega arith)

run_only : (P : Said → Type 0) → ((n : ℕ) (r : Run) → P (counts n r)) → (s : Said) → class_of s ≡ 7 → P s
run_only P f (counts n r) is = f n r
run_only P f s is = absurd (omega arith)

window_only : (P : Said → Type 0) → ((n : ℕ) → P (opens n)) → (s : Said) → class_of s ≡ 8 → P s
window_only P f (opens n) is = f n
window_only P f s is = absurd (omega arith)

value_only : (P : Said → Type 0) → ((v : Value) → P (reads v)) → (s : Said) → class_of s ≡ 9 → P s
value_only P f (reads v) is = f v
value_only P f s is = absurd (omega arith)

struck_only : (P : Said → Type 0) → ((x : Struck) → P (strikes x)) → (s : Said) → class_of s ≡ 10 → P s
struck_only P f (strikes x) is = f x
struck_only P f s is = absurd (omega arith)

part_only : (P : Said → Type 0) → ((n : ℕ) (x : Part) → P (parts n x)) → (s : Said) → class_of s ≡ 11 → P s
part_only P f (parts n x) is = f n x
part_only P f s is = absurd (omega arith)

-- ---- nothing may be said

-- what may be said by a line, of a house with it
abbrev pub CantSay : House → Line → Said → Type 0
CantSay h l s = MayBeNext h s → IsSaid (with_said s h) s l → ⊥

nothing_by : (h : House) (l : Line) → ((s : Said) → class_of s ≡ class l.word → CantSay h l s) → AddsNothing h l
nothing_by h l none new a =
    let said : IsSaid (with_said a.said h) a.said l = subst (λ (x : House). IsSaid x a.said l) a.with_it a.says in
    none a.said (same_class (with_said a.said h) a.said l said) a.may said

pub no_use : (h : House) (l : Line) → l.word ≡ word.Use → ((u : Use) → CantSay h l (uses u)) → AddsNothing h l
no_use h l is none = nothing_by h l (λ s e. use_only (CantSay h l) none s (e ∙ ap class is))

pub no_allowed : (h : House) (l : Line) → l.word ≡ word.As → ((a : Allowed) → CantSay h l (allows a)) → AddsNothing h l
no_allowed h l is none = nothing_by h l (λ s e. allowed_only (CantSay h l) none s (e ∙ ap class is))

pub no_fact : (h : House) (l : Line) → class l.word ≡ 4 → ((d : Declared) → CantSay h l (declares d)) → AddsNothing h l
no_fact h l is none = nothing_by h l (λ s e. fact_only (CantSay h l) none s (e ∙ is))

pub no_run : (h : House) (l : Line) → l.word ≡ word.Meter → ((n : ℕ) (r : Run) → CantSay h l (counts n r)) → AddsNothing h l
no_run h l is none = nothing_by h l (λ s e. run_only (CantSay h l) none s (e ∙ ap class is))

pub no_window : (h : House) (l : Line) → l.word ≡ word.Window → ((n : ℕ) → CantSay h l (opens n)) → AddsNothing h l
no_window h l is none = nothing_by h l (λ s e. window_only (CantSay h l) none s (e ∙ ap class is))

pub no_value : (h : House) (l : Line) → class l.word ≡ 9 → ((v : Value) → CantSay h l (reads v)) → AddsNothing h l
no_value h l is none = nothing_by h l (λ s e. value_only (CantSay h l) none s (e ∙ is))

pub no_struck : (h : House) (l : Line) → l.word ≡ word.Struck → ((x : Struck) → CantSay h l (strikes x)) → AddsNothing h l
no_struck h l is none = nothing_by h l (λ s e. struck_only (CantSay h l) none s (e ∙ ap class is))

pub no_part : (h : House) (l : Line) → l.word ≡ word.Part → ((n : ℕ) (x : Part) → CantSay h l (parts n x)) → AddsNothing h l
no_part h l is none = nothing_by h l (λ s e. part_only (CantSay h l) none s (e ∙ ap class is))

-- at a fault of any kind
pub at_fault : {T : Type 0} (r : Result T Stop) (P : Type 0) → P → IfErr r (λ s. IsFault s → P)
at_fault (Ok x) P p = tt
at_fault (Err s) P p = λ is. p

-- what is said of a result that is known to be one of both
pub if_is_ok : {T E : Type 0} (r : Result T E) (P : T → Type 0) → is_err r ≡ false → IfOk r P → (x : T) × P x
if_is_ok (Ok x) P not p = (x, p)
if_is_ok (Err f) P not p = (cc)

pub if_is_err : {T E : Type 0} (r : Result T E) (P : Type 0) → is_err r ≡ true → IfErr r (λ f. P) → P
if_is_err (Ok x) P not p = (cc)
if_is_err (Err f) P not p = p

-- out of memory is no fault
pub no_memory : {T : Type 0} (r : Result T Stop) (P : Type 0) → IsErrAnd r (λ s. s ≡ stop.NoMemory) → IfErr r (λ s. IsFault s → P)
no_memory (Ok x) P is = tt
no_memory (Err s) P is = λ fault. absurd (subst IsFault is fault)

pub of_value : (w : Word) → is_value w ≡ true → class w ≡ 9
of_value word.Read is = refl
of_value word.Stored is = refl
of_value word.Ended is = refl
of_value word.Zero is = refl
of_value word.Hand is = refl
of_value word.Estimated is = refl
of_value word.First is = refl
of_value word.Last is = refl
of_value w is = (cc)

pub no_struck_or_value : (h : House) (l : Line) → (l.word ≡ word.Struck) ⊎ (is_value l.word ≡ true)
    → ((x : Struck) → CantSay h l (strikes x)) → ((v : Value) → CantSay h l (reads v)) → AddsNothing h l
no_struck_or_value h l (inl is) none nothing = no_struck h l is none
no_struck_or_value h l (inr is) none nothing = no_value h l (of_value l.word is) nothing

-- an error of any kind
pub at_any : {T E : Type 0} (r : Result T E) (P : Type 0) → P → IfErr r (λ f. P)
at_any (Ok x) P p = tt
at_any (Err f) P p = p

pub if_err_weaker : {T E : Type 0} (r : Result T E) (P Q : Type 0) → (P → Q) → IfErr r (λ f. P) → IfErr r (λ f. Q)
if_err_weaker (Ok x) P Q to p = tt
if_err_weaker (Err f) P Q to p = to p
