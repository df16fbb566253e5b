-- A bus over which a filter decides what goes out and what is heard (this product).
use Rattle.std.specs.Prelude.{◌≡◌, ℕ, true, false, List, [], None, Some}
use Rattle.mbdc_poll.specs.Bus.{Bus}
use Rattle.mbdc_poll.specs.Happening.{Happening}
use Rattle.mbdc_poll.specs.Talking.{Talk, Talks, rests, begins, has_none, sends_it}
use Rattle.mbdc_poll.specs.Talking.{waits_it, takes_it, hears_it, stands_by, tells_it, loses_it}
use Rattle.mbdc_poll.specs.declared.filtered.Filter.{Ghosts}
use Rattle.mbdc_poll.specs.declared.filtered.Filtered.{Filtered}

-- the ghost members of a filter
abbrev pub Filter : Type 0 → Type 1
Filter F = Ghosts F

-- ---- the bus

-- A REQUEST goes out, or what the filter has in its place, or it is withheld. A lost bus is untouched, and its filter.
pub data Sends {B F : Type 0} (g : Bus B) (f : Filter F) (old : Filtered B F) (request : List ℕ) (new : Filtered B F)
    : Type 0 where
  on_lost : g.lost old.bus ≡ true → g.sends old.bus request new.bus → new ≡ record old { bus = new.bus }
      → Sends g f old request new
  goes_out : (out : List ℕ) → g.lost old.bus ≡ false → f.asks old.filter request (Some out) new.filter
      → g.sends old.bus out new.bus → new.withholds ≡ false → Sends g f old request new
  stays : g.lost old.bus ≡ false → f.asks old.filter request None new.filter → new.bus ≡ old.bus
      → new.withholds ≡ true → Sends g f old request new

-- AN ANSWER is what the filter makes of that of the bus. A request that was withheld meets silence.
pub data Gives {B F : Type 0} (g : Bus B) (f : Filter F) (old : Filtered B F) (answer : List ℕ) (new : Filtered B F)
    : Type 0 where
  of_lost : old.withholds ≡ false → g.lost old.bus ≡ true → g.gives old.bus answer new.bus
      → new ≡ record old { bus = new.bus } → Gives g f old answer new
  of_bus : (given : List ℕ) → old.withholds ≡ false → g.lost old.bus ≡ false → g.gives old.bus given new.bus
      → f.hears old.filter given answer new.filter → new.withholds ≡ false → Gives g f old answer new
  of_none : old.withholds ≡ true → answer ≡ [] → new ≡ old → Gives g f old answer new

abbrev pub Waits : {B F : Type 0} → Bus B → Filtered B F → Filtered B F → Type 0
Waits g old new = g.waits old.bus new.bus × (new ≡ record old { bus = new.bus })

abbrev pub Opens : {B F : Type 0} → Bus B → Filtered B F → List ℕ → Filtered B F → Type 0
Opens g old request new = g.opens old.bus request new.bus

abbrev pub filtered_over : {B F : Type 0} → Bus B → Filter F → Bus (Filtered B F)
filtered_over g f = record {
  lost = λ s. g.lost s.bus;
  waits_left = λ s. g.waits_left s.bus;
  sends = Sends g f;
  opens = Opens g;
  waits = Waits g;
  gives = Gives g f;
  late = λ s. g.late s.bus;
}

-- ---- where a filter lets all through

-- of an answer that the bus gave
abbrev pub IfGiven : {B F : Type 0} {g : Bus B} {f : Filter F} {old new : Filtered B F} {answer : List ℕ}
    → (F → List ℕ → Type 0) → Gives g f old answer new → Type 0
IfGiven said (of_lost sent lost gives same) = Unit {0}
IfGiven {old = old} said (of_bus given sent lost gives heard sends) = said old.filter given
IfGiven said (of_none held silent same) = Unit {0}

-- THIS HOLDS OF EACH ANSWER of the bus in this talk, and of what the filter kept before it.
abbrev pub EachAnswer : {B F : Type 0} {g : Bus B} {f : Filter F} {line : ℕ} {first last : Talk (Filtered B F)}
    {happened : List Happening} → (F → List ℕ → Type 0) → Talks (filtered_over g f) line first happened last → Type 0
EachAnswer said rests = Unit {0}
EachAnswer said (begins more) = EachAnswer said more
EachAnswer said (has_none more) = EachAnswer said more
EachAnswer said (sends_it sends more) = EachAnswer said more
EachAnswer said (waits_it waits more) = EachAnswer said more
EachAnswer said (takes_it gives more) = IfGiven said gives × EachAnswer said more
EachAnswer said (hears_it more) = EachAnswer said more
EachAnswer said (stands_by more) = EachAnswer said more
EachAnswer said (tells_it other more) = EachAnswer said more
EachAnswer said (loses_it is_lost more) = EachAnswer said more

abbrev pub on_bus : {B F : Type 0} → Talk (Filtered B F) → Talk B
on_bus talk = record { bus = talk.bus.bus; request = talk.request; said = talk.said }

-- THEN ALL GOES THROUGH, each request as itself: where the filter keeps such things at first, and this holds of each
-- answer, the talk is one on the bus itself.
abbrev pub LetsThrough : {B F : Type 0} → Bus B → Filter F → (F → Type 0) → (F → List ℕ → Type 0) → Type 0
LetsThrough {B} {F} g f Keeps said = (line : ℕ) (first last : Talk (Filtered B F)) (happened : List Happening)
    (talk : Talks (filtered_over g f) line first happened last)
    → Keeps first.bus.filter → first.bus.withholds ≡ false → EachAnswer said talk
    → Talks g line (on_bus first) happened (on_bus last)
