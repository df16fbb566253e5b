-- How many tries of a readout fail at most.
use Rattle.std.proofs.Common.{◌≡◌, ℕ, ◌+◌, ◌≤◌, List, [], ◌∷◌, ◌++◌, Some, Ok, Bool, true, false, if◌then◌else◌, length, length-append, refl, ap, subst, ◌∙◌, arith}
use Rattle.dc_address.specs.declared.identity.Identity.{Identity}
use Rattle.dc_core.specs.Event.{Event, Answer, starts, asks, hears, commits, offices, started, asked, heard, committed, replied}
use Rattle.mbdc_poll.specs.Bus.{Bus}
use Rattle.mbdc_poll.specs.Happening.{Happening, does, tells}
use Rattle.mbdc_poll.specs.Missed.{is_miss, missed_by, missed_in}
use Rattle.mbdc_poll.specs.Queue.{Part, part, Goes, most_asks, started_by, starts_in, stays, passes_on, starts_it, is_refused, asks_it, has_no_request, is_given_up, goes_on, is_accepted, is_put_off, fails_at_last, is_faulty, is_stored, is_unstored, stands_by, is_told, loses_it}
use Rattle.mbdc_poll.specs.Talking.{Talk, Talks, rests, begins, has_none, sends_it, waits_it, takes_it, hears_it, stands_by as talk_stands_by, tells_it, loses_it as talk_loses_it}
use Rattle.mbdc_poll.specs.declared.phase.Phase.{Phase}
use Rattle.mbdc_poll.specs.declared.phase.Phase.TheVariants.{Free, Busy, Pending, Over}
use Rattle.mbdc_poll.specs.declared.phase.Request.{Request}
use Rattle.mbdc_poll.specs.declared.phase.Request.TheVariants.{Quiet, Sent, Answered}

-- ---- since the last start

abbrev heard_by : Event → ℕ → ℕ
heard_by (starts line meter) n = 0
heard_by (asks line) n = n
heard_by (hears line moment bytes) n = n + 1
heard_by commits n = n
heard_by (offices text) n = n

abbrev asked_by : Event → Answer → ℕ → ℕ
asked_by (starts line meter) answer n = 0
asked_by (asks line) (asked (Some request)) n = n + 1
asked_by event answer n = n

-- number of answers that were received since the last start, and of requests that were sent
abbrev heard_of : Happening → ℕ → ℕ
heard_of (does turn) n = heard_by turn.0 n
heard_of (tells line told) n = n

abbrev asked_of : Happening → ℕ → ℕ
asked_of (does turn) n = asked_by turn.0 turn.1 n
asked_of (tells line told) n = n

abbrev heard_since : ℕ → List Happening → ℕ
heard_since n [] = n
heard_since n (happening ∷ more) = heard_since (heard_of happening n) more

abbrev asked_since : ℕ → List Happening → ℕ
asked_since n [] = n
asked_since n (happening ∷ more) = asked_since (asked_of happening n) more

rest_of : {g h : Happening} {xs ys : List Happening} → g ∷ xs ≡ h ∷ ys → xs ≡ ys
rest_of e = cc

-- ---- no more requests than a readout sends

abbrev pub Fits : ℕ → Phase → Type 0
Fits n Free = n ≤ most_asks
Fits n (Busy k) = n + k ≤ most_asks
Fits n (Pending k) = n + k ≤ most_asks
Fits n (Over end) = n ≤ most_asks

abbrev pub FitsIn : ℕ → Part → Type 0
FitsIn n (part left failed pass phase) = Fits n phase

fits_few : (n : ℕ) (phase : Phase) → Fits n phase → n ≤ most_asks
fits_few n Free fits = fits
fits_few n (Busy k) fits = omega (arith, fits)
fits_few n (Pending k) fits = omega (arith, fits)
fits_few n (Over end) fits = fits

few_in : (n : ℕ) (p : Part) → FitsIn n p → n ≤ most_asks
few_in n (part left failed pass phase) fits = fits_few n phase fits

few_next : {g : Happening} {more : List Happening} (n : ℕ) (front back : List Happening) → g ∷ more ≡ front ++ back → n ≤ most_asks → ((some rest : List Happening) → more ≡ some ++ rest → asked_since (asked_of g n) some ≤ most_asks) → asked_since n front ≤ most_asks
few_next n [] back e few next = few
few_next {g} n (h ∷ front) back e few next =
    let same : g ≡ h = cc in
    subst (λ (x : Happening). asked_since (asked_of x n) front ≤ most_asks) same (next front back (rest_of e))

none_next : (n : ℕ) (front back : List Happening) → [] ≡ front ++ back → n ≤ most_asks → asked_since n front ≤ most_asks
none_next n [] back e few = few
none_next n (h ∷ front) back e few = absurd cc

asked_few : {tries line : ℕ} {old last : Part} {happened : List Happening} → Goes tries line old happened last → (n : ℕ) → FitsIn n old → (front back : List Happening) → happened ≡ front ++ back → asked_since n front ≤ most_asks
asked_few {old = o} stays n fits front back e = none_next n front back e (few_in n o fits)
asked_few (passes_on less goes) n fits front back e = asked_few goes n fits front back e
asked_few (starts_it few goes) n fits front back e = few_next n front back e fits (asked_few goes 0 (omega arith))
asked_few (is_refused few goes) n fits front back e = few_next n front back e fits (asked_few goes 0 (omega arith))
asked_few (asks_it goes) n fits front back e = few_next n front back e (omega (arith, fits)) (asked_few goes (n + 1) (omega (arith, fits)))
asked_few (has_no_request goes) n fits front back e = few_next n front back e (omega (arith, fits)) (asked_few goes n (omega (arith, fits)))
asked_few (is_given_up goes) n fits front back e = asked_few goes n (omega (arith, fits)) front back e
asked_few (goes_on on goes) n fits front back e = few_next n front back e (omega (arith, fits)) (asked_few goes n fits)
asked_few (is_accepted goes) n fits front back e = few_next n front back e (omega (arith, fits)) (asked_few goes n fits)
asked_few (is_put_off less goes) n fits front back e = few_next n front back e (omega (arith, fits)) (asked_few goes n (omega (arith, fits)))
asked_few (fails_at_last most goes) n fits front back e = few_next n front back e (omega (arith, fits)) (asked_few goes n (omega (arith, fits)))
asked_few (is_faulty goes) n fits front back e = few_next n front back e (omega (arith, fits)) (asked_few goes n (omega (arith, fits)))
asked_few (is_stored goes) n fits front back e = few_next n front back e (omega (arith, fits)) (asked_few goes n fits)
asked_few (is_unstored goes) n fits front back e = few_next n front back e (omega (arith, fits)) (asked_few goes n (omega (arith, fits)))
asked_few {old = o} (stands_by not goes) n fits front back e = few_next n front back e (few_in n o fits) (asked_few goes n fits)
asked_few (is_told as_end goes) n fits front back e = few_next n front back e fits (asked_few goes n fits)
asked_few {old = o} (loses_it goes) n fits front back e = few_next n front back e (few_in n o fits) (asked_few goes n fits)

-- ---- no more answers than requests

abbrev out_of : Request → ℕ
out_of Quiet = 0
out_of Sent = 1
out_of (Answered bytes) = 1

heard_next : {g : Happening} {more : List Happening} (n k : ℕ) (front back : List Happening) → g ∷ more ≡ front ++ back → n ≤ k
    → ((some rest : List Happening) → more ≡ some ++ rest → heard_since (heard_of g n) some ≤ asked_since (asked_of g k) some) → heard_since n front ≤ asked_since k front
heard_next n k [] back e few next = few
heard_next {g} n k (h ∷ front) back e few next =
    let same : g ≡ h = cc in
    subst (λ (x : Happening). heard_since (heard_of x n) front ≤ asked_since (asked_of x k) front) same (next front back (rest_of e))

none_heard : (n k : ℕ) (front back : List Happening) → [] ≡ front ++ back → n ≤ k → heard_since n front ≤ asked_since k front
none_heard n k [] back e few = few
none_heard n k (h ∷ front) back e few = absurd cc

heard_few : {B : Type 0} {g : Bus B} {line : ℕ} {first last : Talk B} {happened : List Happening} → Talks g line first happened last → (n k : ℕ) → n + out_of first.request ≤ k → (front back : List Happening) → happened ≡ front ++ back
    → heard_since n front ≤ asked_since k front
heard_few rests n k few front back e = none_heard n k front back e (omega (arith, few))
heard_few (begins talks) n k few front back e = heard_next n k front back e (omega (arith, few)) (heard_few talks 0 0 (omega arith))
heard_few (has_none talks) n k few front back e = heard_next n k front back e (omega (arith, few)) (heard_few talks n k few)
heard_few (sends_it sent talks) n k few front back e = heard_next n k front back e (omega (arith, few)) (heard_few talks n (k + 1) (omega (arith, few)))
heard_few (waits_it waited talks) n k few front back e = heard_few talks n k few front back e
heard_few (takes_it gave talks) n k few front back e = heard_few talks n k few front back e
heard_few (hears_it talks) n k few front back e = heard_next n k front back e (omega (arith, few)) (heard_few talks (n + 1) k (omega (arith, few)))
heard_few (talk_stands_by talks) n k few front back e = heard_next n k front back e (omega (arith, few)) (heard_few talks n k few)
heard_few (tells_it not talks) n k few front back e = heard_next n k front back e (omega (arith, few)) (heard_few talks n k few)
heard_few (talk_loses_it is talks) n k few front back e = heard_next n k front back e (omega (arith, few)) (heard_few talks n k few)

-- ---- no more failed tries than answers

heard_both : (n : ℕ) (front back : List Happening) → heard_since n (front ++ back) ≡ heard_since (heard_since n front) back
heard_both n [] back = refl
heard_both n (h ∷ front) back = heard_both (heard_of h n) front back

one_missed : (event : Event) (answer : Answer) (n : ℕ) → started_by event ≡ [] → n + length (missed_by event answer) ≤ heard_by event n
one_missed (starts line meter) answer n none = absurd cc
one_missed (asks line) answer n none = omega arith
one_missed (hears line moment bytes) (started answer) n none = omega arith
one_missed (hears line moment bytes) (asked request) n none = omega arith
one_missed (hears line moment bytes) (heard answer) n none = by_miss (is_miss answer)
  where
    by_miss : (b : Bool) → n + length (if b then bytes ∷ [] else []) ≤ n + 1
    by_miss true = omega arith
    by_miss false = omega arith
one_missed (hears line moment bytes) (committed stored) n none = omega arith
one_missed (hears line moment bytes) (replied reply) n none = omega arith
one_missed commits answer n none = omega arith
one_missed (offices text) answer n none = omega arith

none_left : (xs ys : List Identity) → xs ++ ys ≡ [] → xs ≡ []
none_left [] ys e = refl
none_left (x ∷ xs) ys e = absurd cc

none_right : (xs ys : List Identity) → xs ++ ys ≡ [] → ys ≡ []
none_right [] ys e = e
none_right (x ∷ xs) ys e = absurd cc

missed_few : (n k : ℕ) (readout : List Happening) → starts_in readout ≡ [] → n ≤ k → n + length (missed_in readout) ≤ heard_since k readout
missed_few n k [] none few = omega (arith, few)
missed_few n k (tells line told ∷ more) none few = missed_few n k more none few
missed_few n k (does turn ∷ more) none few =
    let one = one_missed turn.0 turn.1 k (none_left (started_by turn.0) (starts_in more) none) in
    let rest = missed_few (n + length (missed_by turn.0 turn.1)) (heard_by turn.0 k) more (none_right (started_by turn.0) (starts_in more) none) (omega (arith, one, few)) in
    let both = length-append (missed_by turn.0 turn.1) (missed_in more) in
    omega (arith, rest, both)

pub tries_few : {B : Type 0} {g : Bus B} {tries line : ℕ} {old last : Part} {first end : Talk B} {happened : List Happening} (front back before readout : List Happening) (meter : Identity) → Goes tries line old happened last
    → Talks g line first happened end → happened ≡ front ++ back → FitsIn 0 old → first.request ≡ Quiet → front ≡ before ++ does (starts line meter, started (Ok tt)) ∷ readout → starts_in readout ≡ [] → length (missed_in readout) ≤ most_asks
tries_few {line = l} {first = f} front back before readout meter goes talks e fits quiet is none =
    let asked = asked_few goes 0 fits front back e in
    let heard = heard_few talks 0 0 (let out : out_of f.request ≡ 0 = ap out_of quiet in omega (arith, out)) front back e in
    let missed = missed_few 0 0 readout none (omega arith) in
    let since : heard_since 0 front ≡ heard_since 0 readout = ap (heard_since 0) is ∙ heard_both 0 before (does (starts l meter, started (Ok tt)) ∷ readout) in
    omega (arith, asked, heard, missed, since)
