-- Houses that the same lines may follow: what may be next doesn't depend on amounts, texts or the dates of spans.
use Rattle.std.proofs.Common.{arith, ◌≡◌, inl, inr, ℕ, zero, suc, ◌<◌, List, [], ◌∷◌, ◌++◌, length, get_or, Bool, true, false, Option, None, Some, refl, ap, sym, subst, ◌∙◌}
use Rattle.std.specs.Prelude.{⊤, All, Any, slice_get}
use Rattle.std.proofs.lemmas.Option.{none-some, same_Some}
use Rattle.mbdc_audit.specs.Amount.{last_of}
use Rattle.mbdc_audit.specs.declared.house.Fact.{Fact}
use Rattle.mbdc_audit.specs.declared.house.Fact.TheVariants.{Factor, Emissions, Degrees, Price, Average}
use Rattle.mbdc_audit.specs.declared.house.Declared.{Declared}
use Rattle.mbdc_audit.specs.declared.line.Line.{Line}
use Rattle.mbdc_audit.specs.declared.line.Word.{Word}
use Rattle.mbdc_audit.specs.declared.line.Word.TheVariants as word
use Rattle.mbdc_audit.specs.File.{AskedOf, InPlace, InWindow, IsFact, IsMeant, IsSaid, MayBeNext, Names, Said, first_named, is_of_place}
use Rattle.mbdc_audit.specs.File.{allows, asks, begins, closes, counts, declares, lives, opens, parts, reads, spans, stands, strikes, totals, uses}
use Rattle.mbdc_audit.specs.House.{Allowed, House, Key, Number, Place, Run, Source, Use, User, Value, Window, current, stored, ended, anew, put, first, last}
use Rattle.mbdc_audit.specs.Published.{Has, HasFacts, HasOther, IsWho, MayAskOf}
use Rattle.mbdc_audit.specs.Sound.{IsAt, IsDeclared, over_or}
use Rattle.mbdc_audit.proofs.Bodies.{all_cons, all_front, all_rest}
use Rattle.mbdc_audit.proofs.Grown.{all_none, last_cons}

-- ---- lists whose items go together, one by one

abbrev pub Pairs : {X : Type 0} → (X → X → Type 0) → List X → List X → Type 0
Pairs R [] [] = ⊤
Pairs R (x ∷ xs) (y ∷ ys) = R x y × Pairs R xs ys
Pairs R xs ys = ⊥

pub last_pairs : {X : Type 0} (R : X → X → Type 0) (xs ys : List X) → Pairs R xs ys → Pairs R (last_of xs) (last_of ys)
last_pairs R [] [] both = tt
last_pairs R [] (y ∷ ys) both = absurd both
last_pairs R (x ∷ xs) [] both = absurd both
last_pairs R (x ∷ []) (y ∷ []) both = both
last_pairs R (x ∷ []) (y ∷ b ∷ ys) both = absurd both.1
last_pairs R (x ∷ a ∷ xs) (y ∷ []) both = absurd both.1
last_pairs {X} R (x ∷ a ∷ xs) (y ∷ b ∷ ys) both =
    subst (λ (zs : List X). Pairs R zs (last_of (y ∷ b ∷ ys))) (sym (last_cons x a xs))
    (subst (λ (zs : List X). Pairs R (last_of (a ∷ xs)) zs) (sym (last_cons y b ys)) (last_pairs R (a ∷ xs) (b ∷ ys) both.1))

pub long_pairs : {X : Type 0} (R : X → X → Type 0) (xs ys : List X) → Pairs R xs ys → length xs ≡ length ys
long_pairs R [] [] both = refl
long_pairs R [] (y ∷ ys) both = absurd both
long_pairs R (x ∷ xs) [] both = absurd both
long_pairs R (x ∷ xs) (y ∷ ys) both = ap suc (long_pairs R xs ys both.1)

pairs_at : {X : Type 0} (R : X → X → Type 0) (P Q : X → Type 0) → ((x y : X) → R x y → P x → Q y) → (xs ys : List X) → Pairs R xs ys
    → (k : ℕ) (d : X) → k < length xs → get_or xs k d ≡ d → P d → Any Q ys
pairs_at R P Q f [] ys both k d lt at p = absurd (omega arith)
pairs_at R P Q f (x ∷ xs) [] both k d lt at p = absurd both
pairs_at R P Q f (x ∷ xs) (y ∷ ys) both zero d lt at p = (0, y, omega arith, refl, f x y both.0 (subst P (sym at) p))
pairs_at R P Q f (x ∷ xs) (y ∷ ys) both (suc k) d lt at p =
    let a = pairs_at R P Q f xs ys both.1 k d (omega arith) at p in
    (suc a.0, a.1, (let lt = a.2 in omega arith), a.3, a.4)

pub any_pairs : {X : Type 0} (R : X → X → Type 0) (P Q : X → Type 0) → ((x y : X) → R x y → P x → Q y) → (xs ys : List X)
    → Pairs R xs ys → Any P xs → Any Q ys
any_pairs R P Q f xs ys both any = pairs_at R P Q f xs ys both any.0 any.1 any.2 any.3 any.4

pub all_pairs : {X : Type 0} (R : X → X → Type 0) (P Q : X → Type 0) → ((x y : X) → R x y → P x → Q y) → (xs ys : List X)
    → Pairs R xs ys → All P xs → All Q ys
all_pairs R P Q f [] [] both all = all_none Q
all_pairs R P Q f [] (y ∷ ys) both all = absurd both
all_pairs R P Q f (x ∷ xs) [] both all = absurd both
all_pairs R P Q f (x ∷ xs) (y ∷ ys) both all =
    all_cons Q y ys (f x y both.0 (all_front P x xs all)) (all_pairs R P Q f xs ys both.1 (all_rest P x xs all))

pub slice_pairs : {X : Type 0} (R : X → X → Type 0) (xs ys : List X) → Pairs R xs ys → (i : ℕ) (x : X) → slice_get xs i ≡ Some x
    → (y : X) × (slice_get ys i ≡ Some y) × R x y
slice_pairs R [] ys both i x is = absurd (none-some x is)
slice_pairs R (a ∷ xs) [] both i x is = absurd both
slice_pairs {X} R (a ∷ xs) (b ∷ ys) both zero x is = (b, refl, subst (λ (z : X). R z b) (same_Some a x is) both.0)
slice_pairs R (a ∷ xs) (b ∷ ys) both (suc i) x is = slice_pairs R xs ys both.1 i x is

pub same_pairs : {X : Type 0} (R : X → X → Type 0) → ((x : X) → R x x) → (xs : List X) → Pairs R xs xs
same_pairs R all [] = tt
same_pairs R all (x ∷ xs) = (all x, same_pairs R all xs)

pub push_pairs : {X : Type 0} (R : X → X → Type 0) (xs ys : List X) (x y : X) → Pairs R xs ys → R x y → Pairs R (xs ++ x ∷ []) (ys ++ y ∷ [])
push_pairs R [] [] x y both here = (here, tt)
push_pairs R [] (b ∷ ys) x y both here = absurd both
push_pairs R (a ∷ xs) [] x y both here = absurd both
push_pairs R (a ∷ xs) (b ∷ ys) x y both here = (both.0, push_pairs R xs ys x y both.1 here)

-- ---- houses

abbrev pub WindowLike : Window → Window → Type 0
WindowLike w x = (w.span ≡ x.span) × (length w.values ≡ length x.values) × (length w.parts ≡ length x.parts)

abbrev pub RunLike : Run → Run → Type 0
RunLike r q = (r.begin ≡ q.begin) × (r.over ≡ q.over)

abbrev pub PlaceLike : Place → Place → Type 0
PlaceLike p q = (p.flat ≡ q.flat) × (p.used ≡ q.used) × Pairs RunLike p.runs q.runs × Pairs WindowLike p.windows q.windows

pub record Alike (h g : House) : Type 0 where
  pub uses : h.uses ≡ g.uses
  pub allowed : h.allowed ≡ g.allowed
  pub spans : length h.spans ≡ length g.spans
  pub facts : h.facts ≡ g.facts
  pub users : h.users ≡ g.users
  pub places : Pairs PlaceLike h.places g.places

abbrev pub other : House → House → House
other h g = record h { label = g.label; spans = g.spans; places = g.places; numbers = g.numbers }

is_other : (h g : House) → Alike h g → other h g ≡ g
is_other h g like =
    ap (λ (us : List Use). record (other h g) { uses = us }) like.uses
    ∙ (ap (λ (xs : List Allowed). record (other h g) { uses = g.uses; allowed = xs }) like.allowed
    ∙ (ap (λ (xs : List Declared). record (other h g) { uses = g.uses; allowed = g.allowed; facts = xs }) like.facts
    ∙ ap (λ (xs : List User). record (other h g) { uses = g.uses; allowed = g.allowed; facts = g.facts; users = xs }) like.users))

meant : (h g : House) (used : ℕ) → IsMeant h used → IsMeant (other h g) used
unfolding first_named
meant h g used is = is

at_like : (r q : Run) (v : Value) (s : Source) → RunLike r q → IsAt r v s → IsAt q v s
at_like r q v (current bodies) like is = tt
at_like r q v (stored e bodies) like is = is
at_like r q v (ended e bodies) like is = is
at_like r q v anew like is = is ∙ like.0
at_like r q v (put guess t) like is = tt
at_like r q v (first guess t) like is = is ∙ like.0
at_like r q v (last guess t) like is = is ∙ (ap (λ (n : ℕ). over_or n r.over) like.0 ∙ ap (over_or q.begin) like.1)

has : (h g : House) (k : Key) (span : ℕ) → length h.spans ≡ length g.spans → Has h k span → Has (other h g) k span
has h g k span long is = record { there = (let lt = is.there in omega arith); facts = is.facts }

facts_like : (w : Word) (h g : House) (k : Key) → length h.spans ≡ length g.spans → HasFacts w h k → HasFacts w (other h g) k
facts_like word.Value h g k long is = tt
facts_like _ h g k long is = (is.0, has h g k k.span long is.1)

who_like : (w : Word) (h g : House) (k : Key) → Pairs PlaceLike h.places g.places → IsWho w h k → IsWho w (other h g) k
who_like word.OfFlat h g k both (inl is) = inl is
who_like word.OfFlat h g k both (inr is) =
    inr (any_pairs PlaceLike (λ p. p.flat ≡ k.flat) (λ p. p.flat ≡ k.flat) (λ p q like e. sym like.0 ∙ e) h.places g.places both is)
who_like _ h g k both is = is

other_like : (w : Word) (h g : House) (k : Key) → length h.spans ≡ length g.spans → HasOther w h k → HasOther w (other h g) k
other_like word.Change h g k long is = has h g k k.other long is
other_like word.Weather h g k long is = has h g k k.other long is
other_like _ h g k long is = tt

in_place_like : (P Q : Place → Type 0) (h g : House) → Pairs PlaceLike h.places g.places
    → ((p q : Place) → PlaceLike p q → P p → Q q) → InPlace P h → InPlace Q g
in_place_like P Q h g both f any = any_pairs PlaceLike P Q f (last_of h.places) (last_of g.places) (last_pairs PlaceLike h.places g.places both) any

in_window_like : (P Q : Place → Window → Type 0) (h g : House) → Pairs PlaceLike h.places g.places
    → ((p q : Place) (w x : Window) → PlaceLike p q → WindowLike w x → P p w → Q q x) → InWindow P h → InWindow Q g
in_window_like P Q h g both f any = in_place_like (λ p. Any (P p) (last_of p.windows)) (λ p. Any (Q p) (last_of p.windows)) h g both
    (λ p q like more. any_pairs WindowLike (P p) (Q q) (λ w x alike is. f p q w x like alike is) (last_of p.windows) (last_of q.windows)
    (last_pairs WindowLike p.windows q.windows like.3) more) any

asked_like : (b : Bool) (h g : House) (n : Number) → Alike h g → AskedOf b h n → AskedOf b (other h g) n
asked_like true h g n like is = in_window_like (λ p w. MayAskOf h p w n.key) (λ p w. MayAskOf (other h g) p w n.key) h (other h g) like.places
    (λ p q w x pl wl may. record {
      span = may.span ∙ wl.0;
      used = may.used ∙ pl.1;
      facts = facts_like n.key.word h g n.key like.spans may.facts;
    }) is
asked_like false h g n like is = (
  record {
    who = who_like n.key.word h g n.key like.places is.0.who;
    unit = is.0.unit;
    span = has h g n.key n.key.span like.spans is.0.span;
    other = other_like n.key.word h g n.key like.spans is.0.other;
  },
  meant h g n.key.used is.1,
)

declared_like : (h g : House) (user : Option ℕ) → IsDeclared h user → IsDeclared (other h g) user
declared_like h g None is = tt
declared_like h g (Some n) is = is

may_other : (h g : House) (x : Said) → Alike h g → MayBeNext h x → MayBeNext (other h g) x
may_other h g (begins label) like may = tt
may_other h g (uses u) like may = may
may_other h g (allows a) like may = (meant h g a.used may.0, may.1)
may_other h g (spans n s) like may = (may.0 ∙ like.spans, may.1)
may_other h g (declares d) like may =
    (may.0, (let lt = may.1 in let long = like.spans in omega arith), λ used is. meant h g used (may.2 used is))
may_other h g (lives u) like may = may
may_other h g (stands n p) like may =
    (may.0 ∙ long_pairs PlaceLike h.places g.places like.places, may.1, may.2, may.3, meant h g p.used may.4)
may_other h g (counts n r) like may =
    in_place_like (λ p. (n ≡ length p.runs) × (n < 16)) (λ p. (n ≡ length p.runs) × (n < 16)) h (other h g) like.places
    (λ p q pl is. (is.0 ∙ long_pairs RunLike p.runs q.runs pl.2, is.1)) may
may_other h g (opens n) like may = (
  in_place_like (λ p. All (λ w. w.span < n) (last_of p.windows)) (λ p. All (λ w. w.span < n) (last_of p.windows)) h (other h g) like.places
      (λ p q pl all. all_pairs WindowLike (λ w. w.span < n) (λ w. w.span < n) (λ w x wl lt. subst (λ (k : ℕ). k < n) wl.0 lt)
      (last_of p.windows) (last_of q.windows) (last_pairs WindowLike p.windows q.windows pl.3) all) may.0,
  (let lt = may.1 in let long = like.spans in omega arith),
)
may_other h g (reads v) like may = (
  in_window_like (λ p w. (length w.values < 2048) × ((r : Run) × (slice_get p.runs v.run ≡ Some r) × IsAt r v v.source))
      (λ p w. (length w.values < 2048) × ((r : Run) × (slice_get p.runs v.run ≡ Some r) × IsAt r v v.source)) h (other h g) like.places
      (λ p q w x pl wl is. (
        subst (λ (k : ℕ). k < 2048) wl.1 is.0,
        (let there = slice_pairs RunLike p.runs q.runs pl.2 v.run is.1.0 is.1.1 in
            (there.0, there.1, at_like is.1.0 there.0 v v.source there.2 is.1.2)),
      )) may.0,
  may.1,
)
may_other h g (strikes y) like may =
    in_window_like (λ p w. y.run < length p.runs) (λ p w. y.run < length p.runs) h (other h g) like.places
    (λ p q w x pl wl lt. subst (λ (k : ℕ). y.run < k) (long_pairs RunLike p.runs q.runs pl.2) lt) may
may_other h g (parts n y) like may = (
  in_window_like (λ p w. (n ≡ w.span) × (length w.parts < 64)) (λ p w. (n ≡ w.span) × (length w.parts < 64)) h (other h g) like.places
      (λ p q w x pl wl is. (is.0 ∙ wl.0, subst (λ (k : ℕ). k < 64) wl.2 is.1)) may.0,
  declared_like h g y.user may.1,
)
may_other h g (asks n) like may = asked_like (is_of_place n.key.word) h g n like may
may_other h g totals like may = tt
may_other h g closes like may = tt

-- WHAT MAY BE NEXT of one may be next of the other
pub may_like : (h g : House) (x : Said) → Alike h g → MayBeNext h x → MayBeNext g x
may_like h g x like may = subst (λ (i : House). MayBeNext i x) (is_other h g like) (may_other h g x like may)

-- ---- what a line says is of the uses alone

names_in : (w : Word) (h g : House) (k : Key) (l : Line) → Names w h k l → Names w (record g { uses = h.uses }) k l
names_in word.Shown h g k l is = is
names_in _ h g k l is = is

pub fact_in : (f : Fact) (h g : House) (l : Line) → IsFact h f l → IsFact (record g { uses = h.uses }) f l
fact_in (Factor used) h g l is = is
fact_in (Emissions used) h g l is = is
fact_in (Price used unit) h g l is = is
fact_in (Average used unit) h g l is = is
fact_in Degrees h g l is = is

said_in : (x : Said) (h g : House) (l : Line) → IsSaid h x l → IsSaid (record g { uses = h.uses }) x l
said_in (begins label) h g l is = is
said_in (uses u) h g l is = is
said_in (allows a) h g l is = is
said_in (spans n s) h g l is = is
said_in (declares d) h g l is = (fact_in d.fact h g l is.0, is.1, is.2)
said_in (lives u) h g l is = is
said_in (stands n p) h g l is = is
said_in (counts n r) h g l is = is
said_in (opens n) h g l is = is
said_in (reads v) h g l is = is
said_in (strikes y) h g l is = is
said_in (parts n y) h g l is = is
said_in (asks n) h g l is = record {
  word_is = is.word_is;
  from_is = is.from_is;
  to_is = is.to_is;
  named = names_in l.word h g n.key l is.named;
  text_is = is.text_is;
  beside_is = is.beside_is;
  beside_all = is.beside_all;
  other = is.other;
  size = is.size;
  whose = is.whose;
}
said_in totals h g l is = is
said_in closes h g l is = is

pub said_like : (x : Said) (h g : House) (l : Line) → h.uses ≡ g.uses → IsSaid h x l → IsSaid g x l
said_like x h g l same is =
    subst (λ (i : House). IsSaid i x l) (ap (λ (us : List Use). record g { uses = us }) same) (said_in x h g l is)
