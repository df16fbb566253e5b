-- How often the meters of a queue are started and asked at most.
use Rattle.std.proofs.Common.{◌≡◌, ℕ, zero, suc, ◌+◌, ◌-◌, ◌*◌, ◌<◌, ◌≤◌, List, [], ◌∷◌, ◌++◌, length, length-append, ap, subst, ◌∙◌, arith}
use Rattle.dc_address.specs.declared.identity.Identity.{Identity}
use Rattle.mbdc_poll.specs.Happening.{Happening, tells}
use Rattle.mbdc_poll.specs.declared.event.Event.TheVariants.{Lost as is_lost}
use Rattle.mbdc_poll.specs.Station.{begun}
use Rattle.mbdc_poll.specs.declared.phase.Phase.{Phase}
use Rattle.mbdc_poll.specs.declared.phase.Phase.TheVariants.{Free, Busy, Pending, Over}
use Rattle.mbdc_poll.specs.Queue.{Part, part, Goes, most_asks, starts_in, requests_in, stays, passes_on, starts_it, is_refused, asks_it, has_no_request, is_given_up, goes_on, is_accepted, is_put_off, fails_at_last, is_faulty, is_stored, is_unstored, stands_by, is_told, loses_it}

-- how many starts may follow: those of this pass, and one of each meter in each later one
abbrev starts_of : ℕ → ℕ → ℕ → Phase → ℕ
starts_of passes left failed phase = (left - begun phase) + (left + failed) * passes

abbrev asks_left : Phase → ℕ
asks_left Free = 0
asks_left (Busy n) = n
asks_left (Pending n) = n
asks_left (Over end) = 0

record AreFew (starts requests most asks : ℕ) : Type 0 where
  of_starts : starts ≤ most
  of_requests : requests ≤ most_asks * most + asks

abbrev FewFrom : ℕ → Part → List Happening → Type 0
FewFrom tries (part left failed pass phase) happened =
    AreFew (length (starts_in happened)) (requests_in happened) (starts_of (tries - pass) (length left) (length failed) phase) (asks_left phase)

-- no more than where more may follow
few_of : {s r most asks : ℕ} (most' asks' : ℕ) → most ≤ most' → asks ≤ asks' → AreFew s r most asks → AreFew s r most' asks'
few_of {s} {r} {most} {asks} most' asks' a b few = record {
  of_starts = let one = few.of_starts in omega (arith, one, a);
  of_requests = let one = few.of_requests in omega (arith, one, a, b);
}

none_yet : (tries : ℕ) (last : Part) → FewFrom tries last []
none_yet tries (part left failed pass phase) = record { of_starts = omega arith; of_requests = omega arith }

passed : (n q p : ℕ) → p ≡ suc q → (n - 0) + (n + 0) * q ≤ (0 - 0) + (0 + n) * p
passed n q p is = let there : n * p ≡ n * suc q = ap (λ (x : ℕ). n * x) is in omega (arith, there)

-- a meter is gone
less : (l f q : ℕ) → (l - 0) + (l + f) * q ≤ (suc l - 1) + (suc l + f) * q
less l f q = omega arith

-- a start more, and so many requests
started : {s r asks : ℕ} (l f q : ℕ) → AreFew s r ((suc l - 1) + (suc l + f) * q) asks → asks ≤ most_asks → AreFew (suc s) r ((suc l - 0) + (suc l + f) * q) 0
started {s} {r} {asks} l f q few small = record {
  of_starts = let one = few.of_starts in omega (arith, one);
  of_requests = let one = few.of_requests in by_rest ((suc l + f) * q) one;
}
  where
    by_rest : (m : ℕ) → r ≤ most_asks * ((suc l - 1) + m) + asks → r ≤ most_asks * ((suc l - 0) + m) + 0
    by_rest m one = omega (arith, one, small)

asked_once : {s r m n : ℕ} → AreFew s r m n → AreFew s (1 + r) m (suc n)
asked_once few = let one = few.of_requests in record { of_starts = few.of_starts; of_requests = omega (arith, one) }

-- nothing is asked
quiet : {s r m a : ℕ} → AreFew s r m a → AreFew s (0 + r) m a
quiet few = let one = few.of_requests in record { of_starts = few.of_starts; of_requests = omega (arith, one) }

quiet_on : (tries : ℕ) (old : Part) (more : List Happening) → (line : ℕ) → FewFrom tries old more → FewFrom tries old (tells line (is_lost line) ∷ more)
quiet_on tries (part left failed pass phase) more line few = quiet few

few_in : {tries line : ℕ} {old last : Part} {happened : List Happening} → Goes tries line old happened last → FewFrom tries old happened
few_in {tries = t} {last = l} stays = none_yet t l
few_in {tries = t} (passes_on {meter = m} {failed = ms} {pass = p} before goes) =
    few_of _ _ (passed (suc (length ms)) (t - (p + 1)) (t - p) (omega (arith, before))) (omega arith) (few_in goes)
few_in {tries = t} (starts_it {left = ms} {failed = fs} {pass = p} few goes) = quiet (started (length ms) (length fs) (t - p) (few_in goes) (omega arith))
few_in {tries = t} (is_refused {left = ms} {failed = fs} {pass = p} few goes) = quiet (started (length ms) (length fs) (t - p) (few_of _ 0 (less (length ms) (length fs) (t - p)) (omega arith) (few_in goes)) (omega arith))
few_in (asks_it goes) = asked_once (few_in goes)
few_in {tries = t} (has_no_request {left = ms} {failed = fs} {pass = p} goes) = quiet (few_of _ _ (less (length ms) (length fs) (t - p)) (omega arith) (few_in goes))
few_in {tries = t} (is_given_up {left = ms} {failed = fs} {pass = p} goes) = few_of _ _ (less (length ms) (length fs) (t - p)) (omega arith) (few_in goes)
few_in (goes_on on goes) = quiet (few_in goes)
few_in (is_accepted goes) = quiet (few_in goes)
few_in {tries = t} (is_put_off {meter = m} {left = ms} {failed = fs} {pass = p} before goes) = quiet (few_of _ _ (as_many (t - p) (length-append fs (m ∷ []))) (omega arith) (few_in goes))
  where
    as_many : (q : ℕ) → length (fs ++ m ∷ []) ≡ length fs + 1 → (length ms - 0) + (length ms + length (fs ++ m ∷ [])) * q ≤ (suc (length ms) - 1) + (suc (length ms) + length fs) * q
    as_many q count = let there : (length ms + length (fs ++ m ∷ [])) * q ≡ (length ms + (length fs + 1)) * q = ap (λ (n : ℕ). (length ms + n) * q) count in omega (arith, there)
few_in {tries = t} (fails_at_last {left = ms} {failed = fs} {pass = p} most goes) = quiet (few_of _ _ (less (length ms) (length fs) (t - p)) (omega arith) (few_in goes))
few_in {tries = t} (is_faulty {left = ms} {failed = fs} {pass = p} goes) = quiet (few_of _ _ (less (length ms) (length fs) (t - p)) (omega arith) (few_in goes))
few_in (is_stored goes) = quiet (few_in goes)
few_in {tries = t} (is_unstored {left = ms} {failed = fs} {pass = p} goes) = quiet (few_of _ _ (less (length ms) (length fs) (t - p)) (omega arith) (few_in goes))
few_in (stands_by not goes) = quiet (few_in goes)
few_in (is_told as_end goes) = quiet (few_in goes)
few_in {tries = t} {line = l} {old = o} (loses_it {more = hs} goes) = quiet_on t o hs l (few_in goes)

pub few_starts : (tries line : ℕ) (meters : List Identity) (happened : List Happening) (last : Part) → 0 < tries → Goes tries line (part meters [] 1 Free) happened last
    → (length (starts_in happened) ≤ tries * length meters) × (requests_in happened ≤ most_asks * (tries * length meters))
few_starts zero line meters happened last some goes = absurd (omega (arith, some))
few_starts (suc tries) line meters happened last some goes =
    let few = few_in goes in
    let later : (suc tries - 1) ≡ tries = omega arith in
    let most : starts_of (suc tries - 1) (length meters) 0 Free ≡ suc tries * length meters = ap (λ (q : ℕ). (length meters - 0) + (length meters + 0) * q) later ∙ omega arith in
    (subst (λ (n : ℕ). length (starts_in happened) ≤ n) most few.of_starts, let asked = subst (λ (n : ℕ). requests_in happened ≤ most_asks * n + 0) most few.of_requests in omega (arith, asked))
