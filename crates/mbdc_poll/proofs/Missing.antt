-- What the tries of a line's readout brought, by what happens.
use Rattle.std.proofs.Common.{◌≡◌, ℕ, Bool, true, false, List, [], ◌∷◌, ◌++◌, Ok, take, refl, ap, sym, subst, ◌∙◌, append-nil, append_assoc, if◌then◌else◌, arith}
use Rattle.dc_address.specs.declared.identity.Identity.{Identity}
use Rattle.dc_core.specs.Event.{Event, Answer, starts, asks, hears, commits, offices, started, asked, heard, committed, replied}
use Rattle.dc_core.specs.Transcript.{Turn}
use Rattle.dc_readout.specs.Misses.{and_missed, misses_of}
use Rattle.dc_readout.specs.declared.misses.misses.Misses.{Misses}
use Rattle.dc_readout.proofs.Counting.{are_counted}
use Rattle.dc_readout.specs.declared.why.Why.{Why}
use Rattle.mbdc_poll.specs.Bus.{Bus}
use Rattle.mbdc_poll.specs.Happening.{Happening, does, tells}
use Rattle.mbdc_poll.specs.Missed.{Brings, HasBrought, TellBrought, TellsReadout, brought_after, brought_by, is_miss, last_by, last_heard, missed_by, missed_in, nothing_brought}
use Rattle.mbdc_poll.specs.Queue.{Part, part, Goes, IsToldAs, started_by, starts_of, starts_in, stays, passes_on, starts_it, is_refused, asks_it, has_no_request, is_given_up, goes_on, is_accepted, is_put_off, fails_at_last, is_faulty, is_stored, is_unstored, stands_by, is_told, loses_it}
use Rattle.mbdc_poll.specs.Failures.{BroughtIsTold}
use Rattle.mbdc_poll.specs.Station.{part_of}
use Rattle.mbdc_poll.specs.declared.brought.Brought.{Brought}
use Rattle.mbdc_poll.specs.declared.event.Event.{Event as Told}
use Rattle.mbdc_poll.specs.declared.event.Event.TheVariants.{Failed as has_failed}
use Rattle.mbdc_poll.specs.declared.end.End.{End}
use Rattle.mbdc_poll.specs.declared.end.End.TheVariants.{Read, Failed, Refused}
use Rattle.mbdc_poll.specs.declared.phase.Phase.{Phase}
use Rattle.mbdc_poll.specs.declared.phase.Phase.TheVariants.{Free, Busy, Pending, Over}
use Rattle.mbdc_poll.proofs.Few.{Fits, tries_few}

-- ---- nothing, a turn, and one thing after the other

pub brings_same : (line : ℕ) (old new : Brought) → new ≡ old → Brings line old [] new
brings_same line old new is = record { told = tt; after = is }

pub brings_turn : (line : ℕ) (old new : Brought) (turn : Turn) → new ≡ brought_by turn.0 turn.1 old → Brings line old (does turn ∷ []) new
brings_turn line old new turn is = record { told = tt; after = is }

pub brings_told : (line : ℕ) (brought : Brought) (told : Told) → HasBrought line brought told → Brings line brought (tells line told ∷ []) brought
brings_told line brought told has = record { told = (has, tt); after = refl }

after_both : (brought : Brought) (front back : List Happening) → brought_after brought (front ++ back) ≡ brought_after (brought_after brought front) back
after_both brought [] back = refl
after_both brought (does turn ∷ front) back = after_both (brought_by turn.0 turn.1 brought) front back
after_both brought (tells line told ∷ front) back = after_both brought front back

tell_both : (line : ℕ) (brought : Brought) (front back : List Happening) → TellBrought line brought front → TellBrought line (brought_after brought front) back → TellBrought line brought (front ++ back)
tell_both line brought [] back a b = b
tell_both line brought (does turn ∷ front) back a b = tell_both line (brought_by turn.0 turn.1 brought) front back a b
tell_both line brought (tells other told ∷ front) back a b = (a.0, tell_both line brought front back a.1 b)

pub brings_both : {line : ℕ} {old mid new : Brought} {front back : List Happening} → Brings line old front mid → Brings line mid back new → Brings line old (front ++ back) new
brings_both {line} {old} {mid} {new} {front} {back} a b = record {
  told = tell_both line old front back a.told (subst (λ (m : Brought). TellBrought line m back) a.after b.told);
  after = b.after ∙ ap (λ (m : Brought). brought_after m back) a.after ∙ sym (after_both old front back);
}

-- ---- where the readout of a failed meter began

abbrev IsFirst : Identity → List Identity → Type 0
IsFirst m [] = ⊥
IsFirst m (x ∷ xs) = x ≡ m

-- this is the present meter, whose readout goes on or failed
abbrev IsOf : Identity → List Identity → Phase → Type 0
IsOf m left Free = ⊥
IsOf m left (Busy n) = IsFirst m left
IsOf m left (Pending n) = IsFirst m left
IsOf m left (Over (Read x)) = ⊥
IsOf m left (Over (Failed x why)) = x ≡ m
IsOf m left (Over (Refused x refusal)) = ⊥

abbrev IsNow : Identity → Part → Type 0
IsNow m (part left failed pass phase) = IsOf m left phase

-- its readout goes on all the while, or its start is the last one
data Found (line : ℕ) (m : Identity) (front : List Happening) (old : Part) : Type 0 where
  is_on : starts_in front ≡ [] → IsNow m old → Found line m front old
  began : (before readout : List Happening) → front ≡ before ++ does (starts line m, started (Ok tt)) ∷ readout → starts_in readout ≡ [] → Found line m front old

step : {line : ℕ} {m : Identity} {front more tail : List Happening} {old next : Part} {g h : Happening} → g ∷ more ≡ h ∷ tail → starts_of g ≡ [] → (IsNow m next → IsNow m old) → Found line m front next → Found line m (h ∷ front) old
step {front = xs} {g = g} {h = h} e none goes (is_on empty now) =
    let same : g ≡ h = cc in
    is_on (ap (λ (ys : List Identity). ys ++ starts_in xs) (ap starts_of (sym same) ∙ none) ∙ empty) (goes now)
step {h = h} e none goes (began before readout is one) = began (h ∷ before) readout (ap (λ (ys : List Happening). h ∷ ys) is) one

skip : {line : ℕ} {m : Identity} {front : List Happening} {old next : Part} {h : Happening} → (IsNow m next → ⊥) → Found line m front next → Found line m (h ∷ front) old
skip never (is_on empty now) = absurd (never now)
skip {h = h} never (began before readout is one) = began (h ∷ before) readout (ap (λ (ys : List Happening). h ∷ ys) is) one

here : {line : ℕ} {m : Identity} {front : List Happening} {old next : Part} → (IsNow m next → IsNow m old) → Found line m front next → Found line m front old
here goes (is_on empty now) = is_on empty (goes now)
here goes (began before readout is one) = began before readout is one

first_one : {line : ℕ} {m x : Identity} {front more tail : List Happening} {old next : Part} {h : Happening} → does (starts line x, started (Ok tt)) ∷ more ≡ h ∷ tail → (IsNow m next → x ≡ m) → Found line m front next → Found line m (h ∷ front) old
first_one {line = l} {m = m} {x = x} {front = xs} {h = h} e goes (is_on empty now) =
    let same : does (starts l x, started (Ok tt)) ≡ h = cc in
    began [] xs (ap (λ (g : Happening). g ∷ xs) (sym same ∙ ap (λ (y : Identity). does (starts l y, started (Ok tt))) (goes now))) empty
first_one {h = h} e goes (began before readout is one) = began (h ∷ before) readout (ap (λ (ys : List Happening). h ∷ ys) is) one

rest_of : {g h : Happening} {xs ys : List Happening} → g ∷ xs ≡ h ∷ ys → xs ≡ ys
rest_of e = cc

failed_as : (left : List Identity) (end : End) (told : Told) (at : ℕ) (m : Identity) (why : Why) (brought : Brought) → IsToldAs end told → told ≡ has_failed at m why brought → IsOf m left (Over end)
failed_as left (Read x) told at m why brought is e = absurd (let one = is.3 in let both = sym one ∙ e in cc)
failed_as left (Failed x w) told at m why brought is e = let one = is.2 in let both = sym one ∙ e in cc
failed_as left (Refused x r) told at m why brought is e = absurd (let both = sym is ∙ e in cc)

found : {tries line : ℕ} {old last : Part} {happened : List Happening} (at : ℕ) (m : Identity) (why : Why) (brought : Brought) (front back : List Happening) → Goes tries line old happened last
    → happened ≡ front ++ tells line (has_failed at m why brought) ∷ back → Found line m front old
found at m why brought [] back stays e = absurd cc
found at m why brought (h ∷ front) back stays e = absurd cc
found at m why brought front back (passes_on less goes) e = here (λ now. absurd now) (found at m why brought front back goes e)
found at m why brought [] back (starts_it few goes) e = absurd cc
found at m why brought (h ∷ front) back (starts_it few goes) e = first_one e (λ now. now) (found at m why brought front back goes (rest_of e))
found at m why brought [] back (is_refused few goes) e = absurd cc
found at m why brought (h ∷ front) back (is_refused few goes) e = skip (λ now. now) (found at m why brought front back goes (rest_of e))
found at m why brought [] back (asks_it goes) e = absurd cc
found at m why brought (h ∷ front) back (asks_it goes) e = step e refl (λ now. now) (found at m why brought front back goes (rest_of e))
found at m why brought [] back (has_no_request goes) e = absurd cc
found at m why brought (h ∷ front) back (has_no_request goes) e = skip (λ now. now) (found at m why brought front back goes (rest_of e))
found at m why brought front back (is_given_up goes) e = here (λ now. now) (found at m why brought front back goes e)
found at m why brought [] back (goes_on on goes) e = absurd cc
found at m why brought (h ∷ front) back (goes_on on goes) e = step e refl (λ now. now) (found at m why brought front back goes (rest_of e))
found at m why brought [] back (is_accepted goes) e = absurd cc
found at m why brought (h ∷ front) back (is_accepted goes) e = step e refl (λ now. now) (found at m why brought front back goes (rest_of e))
found at m why brought [] back (is_put_off less goes) e = absurd cc
found at m why brought (h ∷ front) back (is_put_off less goes) e = skip (λ now. now) (found at m why brought front back goes (rest_of e))
found at m why brought [] back (fails_at_last most goes) e = absurd cc
found at m why brought (h ∷ front) back (fails_at_last most goes) e = step e refl (λ now. now) (found at m why brought front back goes (rest_of e))
found at m why brought [] back (is_faulty goes) e = absurd cc
found at m why brought (h ∷ front) back (is_faulty goes) e = skip (λ now. now) (found at m why brought front back goes (rest_of e))
found at m why brought [] back (is_stored goes) e = absurd cc
found at m why brought (h ∷ front) back (is_stored goes) e = step e refl (λ now. now) (found at m why brought front back goes (rest_of e))
found at m why brought [] back (is_unstored goes) e = absurd cc
found at m why brought (h ∷ front) back (is_unstored goes) e = skip (λ now. now) (found at m why brought front back goes (rest_of e))
found at m why brought [] back (stands_by not goes) e = absurd cc
found at m why brought (h ∷ front) back (stands_by not goes) e = step e refl (λ now. now) (found at m why brought front back goes (rest_of e))
found at m why brought [] back (is_told {left = xs} {end = end} {told = said} as_end goes) e = is_on refl (failed_as xs end said at m why brought as_end (cc))
found at m why brought (h ∷ front) back (is_told as_end goes) e = skip (λ now. now) (found at m why brought front back goes (rest_of e))
found at m why brought [] back (loses_it goes) e = absurd cc
found at m why brought (h ∷ front) back (loses_it goes) e = step e refl (λ now. now) (found at m why brought front back goes (rest_of e))

-- ---- what was counted since then

none_left : (xs ys : List Identity) → xs ++ ys ≡ [] → xs ≡ []
none_left [] ys e = refl
none_left (x ∷ xs) ys e = absurd cc

none_right : (xs ys : List Identity) → xs ++ ys ≡ [] → ys ≡ []
none_right [] ys e = e
none_right (x ∷ xs) ys e = absurd cc

not_missed : (missed : List (List ℕ)) (misses : Misses) → misses ≡ misses_of missed → misses ≡ misses_of (missed ++ [])
not_missed missed misses is = is ∙ ap misses_of (sym (append-nil missed))

if_missed : (b : Bool) (bytes : List ℕ) (missed : List (List ℕ)) (misses : Misses) → misses ≡ misses_of missed → (if b then and_missed bytes misses else misses) ≡ misses_of (missed ++ (if b then bytes ∷ [] else []))
if_missed true bytes missed misses is = ap (and_missed bytes) is ∙ are_counted missed bytes
if_missed false bytes missed misses is = not_missed missed misses is

by_turn : (missed : List (List ℕ)) (brought : Brought) (event : Event) (answer : Answer) → started_by event ≡ [] → brought.misses ≡ misses_of missed → (brought_by event answer brought).misses ≡ misses_of (missed ++ missed_by event answer)
by_turn missed brought (starts line meter) answer none is = absurd cc
by_turn missed brought (asks line) answer none is = not_missed missed brought.misses is
by_turn missed brought (hears line moment bytes) (started answer) none is = not_missed missed brought.misses is
by_turn missed brought (hears line moment bytes) (asked request) none is = not_missed missed brought.misses is
by_turn missed brought (hears line moment bytes) (heard answer) none is = if_missed (is_miss answer) bytes missed brought.misses is
by_turn missed brought (hears line moment bytes) (committed stored) none is = not_missed missed brought.misses is
by_turn missed brought (hears line moment bytes) (replied reply) none is = not_missed missed brought.misses is
by_turn missed brought commits answer none is = not_missed missed brought.misses is
by_turn missed brought (offices text) answer none is = not_missed missed brought.misses is

since_start : (missed : List (List ℕ)) (brought : Brought) (happened : List Happening) → starts_in happened ≡ [] → brought.misses ≡ misses_of missed → (brought_after brought happened).misses ≡ misses_of (missed ++ missed_in happened)
since_start missed brought [] none is = not_missed missed brought.misses is
since_start missed brought (tells line told ∷ more) none is = since_start missed brought more none is
since_start missed brought (does turn ∷ more) none is =
    let of_turn = by_turn missed brought turn.0 turn.1 (none_left (started_by turn.0) (starts_in more) none) is in
    since_start (missed ++ missed_by turn.0 turn.1) (brought_by turn.0 turn.1 brought) more (none_right (started_by turn.0) (starts_in more) none) of_turn
    ∙ ap misses_of (append_assoc missed (missed_by turn.0 turn.1) (missed_in more))

last_of_turn : (brought : Brought) (event : Event) (answer : Answer) → started_by event ≡ [] → (brought_by event answer brought).last ≡ last_by event answer brought.last
last_of_turn brought (starts line meter) answer none = absurd cc
last_of_turn brought (asks line) answer none = refl
last_of_turn brought (hears line moment bytes) (started answer) none = refl
last_of_turn brought (hears line moment bytes) (asked request) none = refl
last_of_turn brought (hears line moment bytes) (heard answer) none = refl
last_of_turn brought (hears line moment bytes) (committed stored) none = refl
last_of_turn brought (hears line moment bytes) (replied reply) none = refl
last_of_turn brought commits answer none = refl
last_of_turn brought (offices text) answer none = refl

last_since : (brought : Brought) (happened : List Happening) → starts_in happened ≡ [] → (brought_after brought happened).last ≡ last_heard brought.last happened
last_since brought [] none = refl
last_since brought (tells line told ∷ more) none = last_since brought more none
last_since brought (does turn ∷ more) none =
    last_since (brought_by turn.0 turn.1 brought) more (none_right (started_by turn.0) (starts_in more) none)
    ∙ ap (λ (bytes : List ℕ). last_heard bytes more) (last_of_turn brought turn.0 turn.1 (none_left (started_by turn.0) (starts_in more) none))

told_at : (line at : ℕ) (m : Identity) (why : Why) (brought first : Brought) (front back : List Happening) → TellBrought line first (front ++ tells line (has_failed at m why brought) ∷ back) → (at ≡ line) × (brought ≡ brought_after first front)
told_at line at m why brought first [] back told = told.0
told_at line at m why brought first (does turn ∷ front) back told = told_at line at m why brought (brought_by turn.0 turn.1 first) front back told
told_at line at m why brought first (tells other said ∷ front) back told = told_at line at m why brought first front back told.1

pub readout_told : {B : Type 0} (g : Bus B) → BroughtIsTold g
readout_told {B} g tries line at old new front back m why brought fresh goes = by_found (found at m why brought front back goes.queue refl)
  where
    says : (at ≡ line) × (brought ≡ brought_after old.brought front)
    says = told_at line at m why brought old.brought front back goes.brought.told

    by_found : Found line m front (part_of old) → TellsReadout line m front at brought
    by_found (is_on empty now) = absurd (subst (λ (p : Phase). IsOf m (take old.due old.left.now) p) fresh.free now)
    by_found (began before readout is one) =
        let since : brought ≡ brought_after nothing_brought readout = says.1 ∙ ap (brought_after old.brought) is ∙ after_both old.brought before (does (starts line m, started (Ok tt)) ∷ readout) in
        record {
          before = before;
          readout = readout;
          parts = is;
          last_one = one;
          on_line = says.0;
          misses_are = ap (λ (b : Brought). b.misses) since ∙ since_start [] nothing_brought readout one refl;
          last_is = ap (λ (b : Brought). b.last) since ∙ last_since nothing_brought readout one;
          few = tries_few front (tells line (has_failed at m why brought) ∷ back) before readout m goes.queue goes.talk refl
              (subst (λ (p : Phase). Fits 0 p) (sym fresh.free) (omega arith)) fresh.quiet is one;
        }
