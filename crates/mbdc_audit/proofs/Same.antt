-- Houses that are the same but for the amounts of their values.
use Rattle.std.proofs.Common.{arith, ◌≡◌, ◌↔◌, ◌⊎◌, inl, inr, ◌<◌, ◌≤◌, ℕ, List, All, AllPairs}
use Rattle.std.proofs.Common.{length, map, subst}
use Rattle.std.specs.Prelude.{Some, slice_get}
use Rattle.std.proofs.lemmas.List.{length-map}
use Rattle.mbdc_audit.specs.declared.line.Word.{Word}
use Rattle.mbdc_audit.specs.declared.line.Word.TheVariants as word
use Rattle.mbdc_audit.specs.House.{House, Key, Place, Run, Window}
use Rattle.mbdc_audit.specs.File.{IsWithin, Steps, all_opened, bare_house, bare_place, bare_value, bare_window, empty}
use Rattle.mbdc_audit.specs.Published.{Has, HasFacts, HasOther, IsWho, MayAsk, MayAskOf}
use Rattle.mbdc_audit.specs.Sound.{IsAt, IsBuilt, IsDeclared}
use Rattle.mbdc_audit.specs.File.{AsksNothing}
use Rattle.mbdc_audit.specs.Walk.{IsQuiet, open_of}
use Rattle.mbdc_audit.proofs.Checks.{all_flat, all_map, all_weaker, any_map, back, pairs_map}
use Rattle.mbdc_audit.proofs.Checks.{through}

-- ---- what is built

all_places : (P : Place → Type 0) (h : House) → All (λ p. P (bare_place p)) h.places ↔ All P (bare_house h).places
all_places P h = back (all_map P bare_place h.places)

-- the same of a place's windows
all_windows : (P Q : Place → Window → Type 0) (h : House)
    → ((p : Place) (w : Window) → P p w ↔ Q (bare_place p) (bare_window w))
    → All (λ p. All (P p) p.windows) h.places ↔ All (λ p. All (Q p) p.windows) (bare_house h).places
all_windows P Q h each = through
    (all_weaker (λ p. All (P p) p.windows) (λ p. All (Q (bare_place p)) (bare_place p).windows) h.places
    (λ p. through (all_weaker (P p) (λ w. Q (bare_place p) (bare_window w)) p.windows (each p))
    (back (all_map (Q (bare_place p)) bare_window p.windows))))
    (all_places (λ p. All (Q p) p.windows) h)

same_windows : (P : Place → Window → Type 0) (h : House) → ((p : Place) (w : Window) → P p w ↔ P (bare_place p)
    (bare_window w))
    → All (λ p. All (P p) p.windows) h.places ↔ All (λ p. All (P p) p.windows) (bare_house h).places
same_windows P h each = all_windows P P h each

there : (p : Place) (w : Window) → All (λ v. (r : Run) × (slice_get p.runs v.run ≡ Some r) × IsAt r v v.source) w.values
    ↔ All (λ v. (r : Run) × (slice_get p.runs v.run ≡ Some r) × IsAt r v v.source) (bare_window w).values
there p w = back (all_map (λ v. (r : Run) × (slice_get p.runs v.run ≡ Some r) × IsAt r v v.source) bare_value w.values)

long : (n : ℕ) (p : Place) (w : Window) → (length w.values ≤ n) ↔ (length (bare_window w).values ≤ n)
long n p w = let e = length-map w.values bare_value in (λ le. omega (arith, e, le), λ le. omega (arith, e, le))

rising : (p : Place) → AllPairs (λ w x. w.span < x.span) p.windows ↔ AllPairs (λ w x. w.span < x.span)
    (bare_place p).windows
rising p = back (pairs_map (λ w x. w.span < x.span) bare_window p.windows)

built : (h : House) → IsBuilt h ↔ IsBuilt (bare_house h)
built h =
    let rises = through (all_weaker (λ p. AllPairs (λ w x. w.span < x.span) p.windows)
    (λ p. AllPairs (λ w x. w.span < x.span) (bare_place p).windows) h.places rising)
    (all_places (λ p. AllPairs (λ w x. w.span < x.span) p.windows) h) in
    let spanned = same_windows (λ p w. w.span < length h.spans) h (λ p w. (λ b. b, λ b. b)) in
    let values = same_windows (λ p w. All (λ v. (r : Run) × (slice_get p.runs v.run
    ≡ Some r) × IsAt r v v.source) w.values) h there in
    let struck = same_windows (λ p w. All (λ x. x.run < length p.runs) w.struck) h (λ p w. (λ b. b, λ b. b)) in
    let lived = same_windows (λ p w. All (λ x. IsDeclared h x.user) w.parts) h (λ p w. (λ b. b, λ b. b)) in
    let runs = all_places (λ p. 0 < length p.runs) h in
    let used = all_places (λ p. p.used < length h.uses) h in (
      λ b. record {
        uses = b.uses;
        allowed = b.allowed;
        facts = b.facts;
        users = b.users;
        runs = runs.0 b.runs;
        used = used.0 b.used;
        rising = rises.0 b.rising;
        spans = spanned.0 b.spans;
        values = values.0 b.values;
        struck = struck.0 b.struck;
        parts = lived.0 b.parts;
      },
      λ b. record {
        uses = b.uses;
        allowed = b.allowed;
        facts = b.facts;
        users = b.users;
        runs = runs.1 b.runs;
        used = used.1 b.used;
        rising = rises.1 b.rising;
        spans = spanned.1 b.spans;
        values = values.1 b.values;
        struck = struck.1 b.struck;
        parts = lived.1 b.parts;
      },
    )

within : (h : House) → IsWithin h ↔ IsWithin (bare_house h)
within h =
    let more = length-map h.places bare_place in
    let meters = all_places (λ p. length p.runs ≤ 16) h in
    let values = same_windows (λ p w. length w.values ≤ 2048) h (long 2048) in
    let tiles = same_windows (λ p w. length w.parts ≤ 64) h (λ p w. (λ b. b, λ b. b)) in (
      λ b. let few = b.places in record {
        spans = b.spans;
        uses = b.uses;
        users = b.users;
        places = omega (arith, more, few);
        meters = meters.0 b.meters;
        values = values.0 b.values;
        parts = tiles.0 b.parts;
      },
      λ b. let few = b.places in record {
        spans = b.spans;
        uses = b.uses;
        users = b.users;
        places = omega (arith, more, few);
        meters = meters.1 b.meters;
        values = values.1 b.values;
        parts = tiles.1 b.parts;
      },
    )

-- ---- what may be asked

has : (h : House) (k : Key) (span : ℕ) → Has h k span ↔ Has (bare_house h) k span
has h k span = (
  λ b. record { there = b.there; facts = b.facts },
  λ b. record { there = b.there; facts = b.facts },
)

facts : (w : Word) (h : House) (k : Key) → HasFacts w h k ↔ HasFacts w (bare_house h) k
facts word.Value h k = (λ b. b, λ b. b)
facts _ h k = (λ b. (b.0, (has h k k.span).0 b.1), λ b. (b.0, (has h k k.span).1 b.1))

other : (w : Word) (h : House) (k : Key) → HasOther w h k ↔ HasOther w (bare_house h) k
other word.Change h k = has h k k.other
other word.Weather h k = has h k k.other
other _ h k = (λ b. b, λ b. b)

one : {A B C : Type 0} → B ↔ C → A ⊎ B → A ⊎ C
one e (inl a) = inl a
one e (inr b) = inr (e.0 b)

either : {A B C : Type 0} → B ↔ C → (A ⊎ B) ↔ (A ⊎ C)
either {A} {B} {C} e = (λ b. one e b, λ b. one (back e) b)

who : (w : Word) (h : House) (k : Key) → IsWho w h k ↔ IsWho w (bare_house h) k
who word.OfFlat h k = either (back (any_map (λ p. p.flat ≡ k.flat) bare_place h.places))
who _ h k = (λ b. b, λ b. b)

may : (h : House) (k : Key) → MayAsk h k ↔ MayAsk (bare_house h) k
may h k = (
  λ b. record {
    who = (who k.word h k).0 b.who;
    unit = b.unit;
    span = (has h k k.span).0 b.span;
    other =
        (other k.word h k).0 b.other;
  },
  λ b. record {
    who = (who k.word h k).1 b.who;
    unit = b.unit;
    span = (has h k k.span).1 b.span;
    other =
        (other k.word h k).1 b.other;
  },
)

may_of : (h : House) (p : Place) (w : Window) (k : Key) → MayAskOf h p w k ↔ MayAskOf (bare_house h) (bare_place p)
    (bare_window w) k
may_of h p w k = (
  λ b. record { span = b.span; used = b.used; facts = (facts k.word h k).0 b.facts },
  λ b. record { span = b.span; used = b.used; facts = (facts k.word h k).1 b.facts },
)

-- of each number of each window
opened : (P : Place → Window → Type 0) (h : House) → All (λ o. P o.place o.window) (all_opened h) ↔ All (λ p. All
    (P p) p.windows) h.places
opened P h = through (all_flat (λ o. P o.place o.window) (λ p. map (λ w. open_of p w) p.windows) h.places)
    (all_weaker (λ p. All (λ o. P o.place o.window) (map (λ w. open_of p w) p.windows)) (λ p. All
    (P p) p.windows) h.places
    (λ p. all_map (λ o. P o.place o.window) (λ w. open_of p w) p.windows))

asked_of : (h : House) → All (λ o. All (λ n. MayAskOf h o.place o.window n.key) o.window.numbers) (all_opened h)
    ↔ All (λ o. All (λ n. MayAskOf (bare_house h) o.place o.window n.key) o.window.numbers) (all_opened (bare_house h))
asked_of h =
    let P = λ (p : Place) (w : Window). All (λ n. MayAskOf h p w n.key) w.numbers in
    let Q = λ (p : Place) (w : Window). All (λ n. MayAskOf (bare_house h) p w n.key) w.numbers in
    through (opened P h) (through (all_windows P Q h
    (λ p w. all_weaker (λ n. MayAskOf h p w n.key) (λ n. MayAskOf (bare_house h) (bare_place p)
    (bare_window w) n.key) w.numbers
    (λ n. may_of h p w n.key)))
    (back (opened Q (bare_house h))))

quiet : (h : House) → IsQuiet h ↔ IsQuiet (bare_house h)
quiet h =
    let both = same_windows (λ p w. All AsksNothing w.numbers) h (λ p w. (λ b. b, λ b. b)) in
    (λ q. record { of_places = both.0 q.of_places; of_house = q.of_house }, λ q. record { of_places = both.1 q.of_places; of_house = q.of_house })

-- ---- two houses

between : (P : House → Type 0) → ((h : House) → P h ↔ P (bare_house h)) → (h g : House) → bare_house h ≡ bare_house g
    → P h → P g
between P each h g e p = (each g).1 (subst P e ((each h).0 p))

pub same_built : (h g : House) → bare_house h ≡ bare_house g → IsBuilt h → IsBuilt g
same_built = between IsBuilt built

pub same_within : (h g : House) → bare_house h ≡ bare_house g → IsWithin h → IsWithin g
same_within = between IsWithin within

pub same_asked_of : (h g : House) → bare_house h ≡ bare_house g
    → All (λ o. All (λ n. MayAskOf h o.place o.window n.key) o.window.numbers) (all_opened h)
    → All (λ o. All (λ n. MayAskOf g o.place o.window n.key) o.window.numbers) (all_opened g)
same_asked_of = between (λ h. All (λ o. All (λ n. MayAskOf h o.place o.window n.key) o.window.numbers)
    (all_opened h)) asked_of

pub same_asked : (h g : House) → bare_house h ≡ bare_house g → All (λ n. MayAsk h n.key) h.numbers → All
    (λ n. MayAsk g n.key) g.numbers
same_asked = between (λ h. All (λ n. MayAsk h n.key) h.numbers)
    (λ h. all_weaker (λ n. MayAsk h n.key) (λ n. MayAsk (bare_house h) n.key) h.numbers (λ n. may h n.key))

pub same_quiet : (h g : House) → bare_house h ≡ bare_house g → IsQuiet h → IsQuiet g
same_quiet = between IsQuiet quiet

pub same_steps : (lines : List (List ℕ)) (h g : House) → bare_house h ≡ bare_house g
    → Steps 0 empty lines 12 (bare_house h) → Steps 0 empty lines 12 (bare_house g)
same_steps lines h g e s = subst (λ (k : House). Steps 0 empty lines 12 k) e s
