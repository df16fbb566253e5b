-- What is named is there, and nothing is there twice, with a line more.
use Rattle.std.proofs.Common.{◌≡◌, ℕ, zero, suc, ◌<◌, ◌≤◌, ◌∙◌, List, [], ◌∷◌, ◌++◌, length, get_or, Bool, true, false, Option, None, Some, refl, sym, subst, arith}
use Rattle.std.specs.Prelude.{⊤, All, AllPairs, Any, slice_get, ◌≢◌}
use Rattle.std.specs.Str.{bytes_eq}
use Rattle.std.proofs.lemmas.List.{get_or_append_left, length_push}
use Rattle.std.proofs.lemmas.List.Kept.{AllPairs-cons}
use Rattle.std.proofs.lemmas.List.Quantifiers.{position-Some}
use Rattle.std.proofs.lemmas.Option.{none-some}
use Rattle.mbdc_audit.specs.Amount.{last_of}
use Rattle.mbdc_audit.specs.declared.uses.Counted.TheVariants.{Energy}
use Rattle.mbdc_audit.specs.File.{Said, allows, asks, begins, closes, counts, declares, lives, name, opens, parts, reads, spans, stands, strikes, totals, uses}
use Rattle.mbdc_audit.specs.House.{House, Number, Place, Run, Use, User, Value, Window}
use Rattle.mbdc_audit.specs.Published.{MayAskOf}
use Rattle.mbdc_audit.specs.File.{AskedOf, InWindow, IsMeant, MayBeNext, first_named, in_last, is_of_place, opened, with_number, with_said}
use Rattle.mbdc_audit.specs.Sound.{AreOne, IsAt, IsDeclared}
use Rattle.mbdc_audit.proofs.Bodies.{all_cons, all_front, all_rest}
use Rattle.mbdc_audit.proofs.Grown.{all_empty, all_in_last, all_none, all_push, last_cons}
use Rattle.mbdc_audit.specs.File.{Steps}

-- ---- lists

pub all_map : {X : Type 0} (P Q : X → Type 0) (xs : List X) → ((x : X) → P x → Q x) → All P xs → All Q xs
all_map P Q xs more all = λ k d lt. more (get_or xs k d) (all k d lt)

pairs_front : {X : Type 0} (R : X → X → Type 0) (x : X) (xs : List X) → AllPairs R (x ∷ xs) → All (R x) xs
pairs_front R x xs pairs = λ k d lt. pairs 0 (suc k) d (omega arith) (omega arith)

pairs_rest : {X : Type 0} (R : X → X → Type 0) (x : X) (xs : List X) → AllPairs R (x ∷ xs) → AllPairs R xs
pairs_rest R x xs pairs = λ i j d lt lt'. pairs (suc i) (suc j) d (omega arith) (omega arith)

pub pairs_none : {X : Type 0} (R : X → X → Type 0) → AllPairs R []
pairs_none R i j d lt lt' = absurd (omega arith)

pairs_push : {X : Type 0} (R : X → X → Type 0) (xs : List X) (x : X) → AllPairs R xs → All (λ a. R a x) xs → AllPairs R (xs ++ x ∷ [])
pairs_push R [] x pairs all = AllPairs-cons R x [] (all_none (R x)) (pairs_none R)
pairs_push R (y ∷ ys) x pairs all = AllPairs-cons R y (ys ++ x ∷ [])
    (all_push (R y) ys x (pairs_front R y ys pairs) (all_front (λ a. R a x) y ys all))
    (pairs_push R ys x (pairs_rest R y ys pairs) (all_rest (λ a. R a x) y ys all))

pairs_in_last : {X : Type 0} (R : X → X → Type 0) (f : X → X) → ((x y : X) → R x y → R x (f y)) → (Q : X → Type 0) (xs : List X)
    → Any Q (last_of xs) → AllPairs R xs → AllPairs R (in_last f xs)
pairs_in_last R f more Q [] any pairs = pairs
pairs_in_last R f more Q (x ∷ []) any pairs = AllPairs-cons R (f x) [] (all_none (R (f x))) (pairs_none R)
pairs_in_last R f more Q (x ∷ y ∷ rest) any pairs =
    let later = subst (λ xs. Any Q xs) (last_cons x y rest) any in
    AllPairs-cons R x (in_last f (y ∷ rest))
    (all_in_last (R x) Q f (λ z q r. more x z r) (y ∷ rest) later (pairs_front R x (y ∷ rest) pairs))
    (pairs_in_last R f more Q (y ∷ rest) later (pairs_rest R x (y ∷ rest) pairs))

-- what the last one is below, all are
all_below : {X : Type 0} (f : X → ℕ) (n : ℕ) (xs : List X) → AllPairs (λ a b. f a < f b) xs → All (λ a. f a < n) (last_of xs)
    → All (λ a. f a < n) xs
all_below f n [] pairs last = all_none (λ a. f a < n)
all_below f n (x ∷ []) pairs last = last
all_below f n (x ∷ y ∷ rest) pairs last =
    let later = all_below f n (y ∷ rest) (pairs_rest (λ a b. f a < f b) x (y ∷ rest) pairs)
    (subst (λ xs. All (λ a. f a < n) xs) (last_cons x y rest) last) in
    let low : f x < f y = all_front (λ b. f x < f b) y rest (pairs_front (λ a b. f a < f b) x (y ∷ rest) pairs) in
    let top : f y < n = all_front (λ a. f a < n) y rest later in
    all_cons (λ a. f a < n) x (y ∷ rest) (omega arith) later

slice_push : {X : Type 0} (xs : List X) (i : ℕ) (r y : X) → slice_get xs i ≡ Some r → slice_get (xs ++ y ∷ []) i ≡ Some r
slice_push [] i r y is = absurd (none-some r is)
slice_push (x ∷ xs) zero r y is = is
slice_push (x ∷ xs) (suc i) r y is = slice_push xs i r y is

pub any_push : {X : Type 0} (Q : X → Type 0) (xs : List X) (y : X) → Any Q xs → Any Q (xs ++ y ∷ [])
any_push Q xs y any = (
  any.0,
  any.1,
  (let long = length_push xs y in let lt = any.2 in omega arith),
  get_or_append_left xs (y ∷ []) any.1 any.0 any.2 ∙ any.3,
  any.4,
)

-- ---- what is linked

abbrev HasRun : List Run → Value → Type 0
HasRun runs v = (r : Run) × (slice_get runs v.run ≡ Some r) × IsAt r v v.source

-- a user of these is declared
abbrev pub IsOne : List User → Option ℕ → Type 0
IsOne users None = ⊤
IsOne users (Some user) = Any (λ u. u.number ≡ user) users

one_of : (h : House) (user : Option ℕ) → IsDeclared h user → IsOne h.users user
one_of h None is = is
one_of h (Some user) is = is

pub declared_of : (h : House) (user : Option ℕ) → IsOne h.users user → IsDeclared h user
declared_of h None is = is
declared_of h (Some user) is = is

pub record LinkedWindow (spans : ℕ) (users : List User) (runs : List Run) (w : Window) : Type 0 where
  pub span : w.span < spans
  pub values : All (HasRun runs) w.values
  pub struck : All (λ x. x.run < length runs) w.struck
  pub parts : All (λ x. IsOne users x.user) w.parts

pub record LinkedPlace (uses spans : ℕ) (users : List User) (p : Place) : Type 0 where
  pub used : p.used < uses
  pub rising : AllPairs (λ w x. w.span < x.span) p.windows
  pub windows : All (LinkedWindow spans users p.runs) p.windows

abbrev pub LinkedIn : House → Place → Type 0
LinkedIn h p = LinkedPlace (length h.uses) (length h.spans) h.users p

abbrev pub LinkedAt : House → List Run → Window → Type 0
LinkedAt h runs w = LinkedWindow (length h.spans) h.users runs w

pub record Linked (h : House) : Type 0 where
  pub uses : AllPairs (λ a b. a.name ≢ b.name) h.uses
  pub allowed : AllPairs (λ a b. a.used ≡ b.used → a.kind ≡ b.kind → ⊥) h.allowed
  pub facts : AllPairs (λ a b. AreOne a b → ⊥) h.facts
  pub users : AllPairs (λ a b. a.number < b.number) h.users
  pub places : All (LinkedIn h) h.places

-- a house with more uses, spans or users
more_places : (h g : House) → length h.uses ≤ length g.uses → length h.spans ≤ length g.spans
    → ((u : Option ℕ) → IsOne h.users u → IsOne g.users u) → (places : List Place) → All (LinkedIn h) places → All (LinkedIn g) places
more_places h g long long' more places all = all_map (LinkedIn h) (LinkedIn g) places (λ p l. record {
  used = (let lt = l.used in omega arith);
  rising = l.rising;
  windows = all_map (LinkedAt h p.runs) (LinkedAt g p.runs) p.windows (λ w m. record {
    span = (let lt = m.span in omega arith);
    values = m.values;
    struck = m.struck;
    parts = all_map (λ x. IsOne h.users x.user) (λ x. IsOne g.users x.user) w.parts (λ x is. more x.user is) m.parts;
  }) l.windows;
}) all

declared_more : (h : House) (u : User) (user : Option ℕ) → IsOne h.users user → IsOne (h.users ++ u ∷ []) user
declared_more h u None is = is
declared_more h u (Some n) is = any_push (λ v. v.number ≡ n) h.users u is

no_use : Use
no_use = record { name = []; counts = Energy }

meant_there : (h : House) (used : ℕ) → IsMeant h used → used < length h.uses
unfolding first_named
meant_there h used is = (position-Some (λ u. bytes_eq u.name (name h used)) h.uses used no_use is).0

-- the open window changed
window_linked : (Q : Place → Window → Type 0) (g : Window → Window) (h : House) → ((w : Window) → (g w).span ≡ w.span)
    → ((p : Place) (w : Window) → Q p w → LinkedAt h p.runs w → LinkedAt h p.runs (g w)) → InWindow Q h → All (LinkedIn h) h.places
    → All (LinkedIn h) (in_last (λ p. record p { windows = in_last g p.windows }) h.places)
window_linked Q g h same keeps any all =
    all_in_last (LinkedIn h) (λ p. Any (Q p) (last_of p.windows)) (λ p. record p { windows = in_last g p.windows })
    (λ p q l. record {
      used = l.used;
      rising = pairs_in_last (λ w x. w.span < x.span) g (λ w x lt. subst (λ (n : ℕ). w.span < n) (sym (same x)) lt) (Q p) p.windows q l.rising;
      windows = all_in_last (LinkedAt h p.runs) (Q p) g (keeps p) p.windows q l.windows;
    }) h.places any all

asked_linked : (b : Bool) (h : House) (n : Number) → AskedOf b h n → Linked h → Linked (with_number b n h)
asked_linked true h n may l = record {
  uses = l.uses;
  allowed = l.allowed;
  facts = l.facts;
  users = l.users;
  places = window_linked (λ p w. MayAskOf h p w n.key) (λ w. record w { numbers = w.numbers ++ n ∷ [] }) h (λ w. refl)
      (λ p w q m. record { span = m.span; values = m.values; struck = m.struck; parts = m.parts }) may l.places;
}
asked_linked false h n may l = record { uses = l.uses; allowed = l.allowed; facts = l.facts; users = l.users; places = l.places }

pub kept_linked : (h : House) (x : Said) → MayBeNext h x → Linked h → Linked (with_said x h)
kept_linked h (begins label) may l = record { uses = l.uses; allowed = l.allowed; facts = l.facts; users = l.users; places = l.places }
kept_linked h (uses u) may l = record {
  uses = pairs_push (λ a b. a.name ≢ b.name) h.uses u l.uses may.0;
  allowed = l.allowed;
  facts = l.facts;
  users = l.users;
  places = more_places h (record h { uses = h.uses ++ u ∷ [] }) (let long = length_push h.uses u in omega arith) (omega arith)
      (λ user is. is) h.places l.places;
}
kept_linked h (allows a) may l = record {
  uses = l.uses;
  allowed = pairs_push (λ x y. x.used ≡ y.used → x.kind ≡ y.kind → ⊥) h.allowed a l.allowed may.1;
  facts = l.facts;
  users = l.users;
  places = l.places;
}
kept_linked h (spans n s) may l = record {
  uses = l.uses;
  allowed = l.allowed;
  facts = l.facts;
  users = l.users;
  places = more_places h (record h { spans = h.spans ++ s ∷ [] }) (omega arith) (let long = length_push h.spans s in omega arith)
      (λ user is. is) h.places l.places;
}
kept_linked h (declares d) may l = record {
  uses = l.uses;
  allowed = l.allowed;
  facts = pairs_push (λ a b. AreOne a b → ⊥) h.facts d l.facts may.0;
  users = l.users;
  places = l.places;
}
kept_linked h (lives u) may l = record {
  uses = l.uses;
  allowed = l.allowed;
  facts = l.facts;
  users = pairs_push (λ a b. a.number < b.number) h.users u l.users (all_below (λ v. v.number) u.number h.users l.users may.0);
  places = more_places h (record h { users = h.users ++ u ∷ [] }) (omega arith) (omega arith) (declared_more h u) h.places l.places;
}
kept_linked h (stands n p) may l = record {
  uses = l.uses;
  allowed = l.allowed;
  facts = l.facts;
  users = l.users;
  places = all_push (LinkedIn h) h.places p l.places (record {
    used = meant_there h p.used may.4;
    rising = subst (λ ws. AllPairs (λ w x. w.span < x.span) ws) (sym may.3) (pairs_none (λ w x. w.span < x.span));
    windows = all_empty (LinkedAt h p.runs) p.windows may.3;
  });
}
kept_linked h (counts n r) may l = record {
  uses = l.uses;
  allowed = l.allowed;
  facts = l.facts;
  users = l.users;
  places = all_in_last (LinkedIn h) (λ p. (n ≡ length p.runs) × (n < 16)) (λ p. record p { runs = p.runs ++ r ∷ [] }) (λ p q m. record {
    used = m.used;
    rising = m.rising;
    windows = all_map (LinkedAt h p.runs) (LinkedAt h (p.runs ++ r ∷ [])) p.windows (λ w k. record {
      span = k.span;
      values = all_map (HasRun p.runs) (HasRun (p.runs ++ r ∷ [])) w.values
          (λ v has. (has.0, slice_push p.runs v.run has.0 r has.1, has.2)) k.values;
      struck = all_map (λ x. x.run < length p.runs) (λ x. x.run < length (p.runs ++ r ∷ [])) w.struck
          (λ x lt. let long = length_push p.runs r in omega arith) k.struck;
      parts = k.parts;
    }) m.windows;
  }) h.places may l.places;
}
kept_linked h (opens n) may l = record {
  uses = l.uses;
  allowed = l.allowed;
  facts = l.facts;
  users = l.users;
  places = all_in_last (LinkedIn h) (λ p. All (λ w. w.span < n) (last_of p.windows)) (λ p. record p { windows = p.windows ++ opened n ∷ [] })
      (λ p q m. record {
        used = m.used;
        rising = pairs_push (λ w x. w.span < x.span) p.windows (opened n) m.rising (all_below (λ w. w.span) n p.windows m.rising q);
        windows = all_push (LinkedAt h p.runs) p.windows (opened n) m.windows (record {
          span = may.1;
          values = all_none (HasRun p.runs);
          struck = all_none (λ x. x.run < length p.runs);
          parts = all_none (λ x. IsOne h.users x.user);
        });
      }) h.places may.0 l.places;
}
kept_linked h (reads v) may l = record {
  uses = l.uses;
  allowed = l.allowed;
  facts = l.facts;
  users = l.users;
  places = window_linked (λ p w. (length w.values < 2048) × HasRun p.runs v) (λ w. record w { values = w.values ++ v ∷ [] }) h (λ w. refl)
      (λ p w q m. record { span = m.span; values = all_push (HasRun p.runs) w.values v m.values q.1; struck = m.struck; parts = m.parts }) may.0 l.places;
}
kept_linked h (strikes x) may l = record {
  uses = l.uses;
  allowed = l.allowed;
  facts = l.facts;
  users = l.users;
  places = window_linked (λ p w. x.run < length p.runs) (λ w. record w { struck = w.struck ++ x ∷ [] }) h (λ w. refl)
      (λ p w q m. record {
        span = m.span;
        values = m.values;
        struck = all_push (λ y. y.run < length p.runs) w.struck x m.struck q;
        parts = m.parts;
      }) may l.places;
}
kept_linked h (parts n x) may l = record {
  uses = l.uses;
  allowed = l.allowed;
  facts = l.facts;
  users = l.users;
  places = window_linked (λ p w. (n ≡ w.span) × (length w.parts < 64)) (λ w. record w { parts = w.parts ++ x ∷ [] }) h (λ w. refl)
      (λ p w q m. record {
        span = m.span;
        values = m.values;
        struck = m.struck;
        parts = all_push (λ y. IsOne h.users y.user) w.parts x m.parts (one_of h x.user may.1);
      }) may.0 l.places;
}
kept_linked h (asks n) may l = asked_linked (is_of_place n.key.word) h n may l
kept_linked h totals may l = l
kept_linked h closes may l = l

pub steps_linked : (s : ℕ) (h : House) (lines : List (List ℕ)) (t : ℕ) (g : House) → Steps s h lines t g → Linked h → Linked g
steps_linked s h [] t g steps l = subst (λ (x : House). Linked x) (sym steps.1) l
steps_linked s h (line ∷ lines) t g steps l =
    let adds = steps.2.adds in
    steps_linked steps.0 steps.1 lines t g steps.3
    (subst (λ (x : House). Linked x) (sym adds.with_it) (kept_linked h adds.said adds.may l))
