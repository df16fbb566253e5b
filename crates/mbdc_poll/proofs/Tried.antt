-- A queue that is at its end went through all its meters, in passes.
use Rattle.std.proofs.Common.{◌≡◌, ℕ, zero, suc, ◌-◌, ◌<◌, List, [], ◌∷◌, ◌++◌, drop, refl, ap, sym, subst, ◌∙◌, arith, append-nil, append_assoc}
use Rattle.dc_address.specs.declared.identity.Identity.{Identity}
use Rattle.mbdc_poll.specs.Happening.{Happening}
use Rattle.mbdc_poll.specs.declared.phase.Phase.{Phase}
use Rattle.mbdc_poll.specs.declared.phase.Phase.TheVariants.{Free, Busy, Pending, Over}
use Rattle.mbdc_poll.specs.Queue.{Part, part, Goes, AreSomeOf, none_of, without, with_it, IsTried, starts_in, stays, passes_on, starts_it, is_refused, asks_it, has_no_request, is_given_up, goes_on, is_accepted, is_put_off, fails_at_last, is_faulty, is_stored, is_unstored, stands_by, is_told, loses_it}

abbrev left_of : Part → List Identity
left_of (part left failed pass phase) = left

abbrev failed_of : Part → List Identity
failed_of (part left failed pass phase) = failed

abbrev pass_of : Part → ℕ
pass_of (part left failed pass phase) = pass

-- no meter is left, and none failed
record IsAtEnd (last : Part) : Type 0 where
  no_left : left_of last ≡ []
  no_failed : failed_of last ≡ []

-- the meters that are to be started yet in this pass
abbrev to_start : List Identity → Phase → List Identity
to_start left Free = left
to_start left (Busy n) = drop 1 left
to_start left (Pending n) = drop 1 left
to_start left (Over end) = left

-- These are to be started in this pass, and then, in such passes, those that failed and some of those that are left.
record RestIn (passes : ℕ) (left failed : List Identity) (phase : Phase) (begun : List Identity) : Type 0 where
  again : List Identity
  more : List Identity
  some : AreSomeOf again left
  begun_are : begun ≡ to_start left phase ++ more
  tried : IsTried passes (failed ++ again) more

abbrev Rest : ℕ → Part → List Identity → Type 0
Rest tries (part left failed pass phase) begun = RestIn (tries - pass) left failed phase begun

tried_none : (passes : ℕ) → IsTried passes [] []
tried_none zero = refl
tried_none (suc passes) = ([], [], none_of, refl, tried_none passes)

start_none : (phase : Phase) → to_start [] phase ≡ []
start_none Free = refl
start_none (Busy n) = refl
start_none (Pending n) = refl
start_none (Over end) = refl

rest_none : (passes : ℕ) (left failed : List Identity) (phase : Phase) → left ≡ [] → failed ≡ [] → RestIn passes left failed phase []
rest_none passes [] [] phase l f = record { again = []; more = []; some = none_of; begun_are = sym (append-nil (to_start [] phase) ∙ start_none phase); tried = tried_none passes }
rest_none passes (x ∷ xs) failed phase l f = absurd cc
rest_none passes [] (x ∷ xs) phase l f = absurd cc

at_end : (tries : ℕ) (last : Part) → IsAtEnd last → Rest tries last []
at_end tries (part left failed pass phase) end = rest_none (tries - pass) left failed phase end.no_left end.no_failed

-- the present meter left the pass
gone : {passes : ℕ} {meter : Identity} {left failed : List Identity} {phase : Phase} {begun : List Identity} (was : Phase) → to_start (meter ∷ left) was ≡ left → to_start left phase ≡ left
    → RestIn passes left failed phase begun → RestIn passes (meter ∷ left) failed was begun
gone was at kept rest = record {
  again = rest.again;
  more = rest.more;
  some = without rest.some;
  begun_are = rest.begun_are ∙ ap (λ (xs : List Identity). xs ++ rest.more) (kept ∙ sym at);
  tried = rest.tried;
}

put_off_in : {passes : ℕ} {meter : Identity} {left failed : List Identity} {n : ℕ} {begun : List Identity} → RestIn passes left (failed ++ meter ∷ []) Free begun → RestIn passes (meter ∷ left) failed (Busy n) begun
put_off_in {passes} {meter} {left} {failed} rest = record {
  again = meter ∷ rest.again;
  more = rest.more;
  some = with_it rest.some;
  begun_are = rest.begun_are;
  tried = subst (λ (xs : List Identity). IsTried passes xs rest.more) (append_assoc failed (meter ∷ []) rest.again) rest.tried;
}

passed_in : {passes later : ℕ} {meter : Identity} {failed begun : List Identity} → passes ≡ suc later → RestIn later (meter ∷ failed) [] Free begun → RestIn passes [] (meter ∷ failed) Free begun
passed_in {passes} {later} {meter} {failed} {begun} one rest = record {
  again = [];
  more = begun;
  some = none_of;
  begun_are = refl;
  tried = subst (λ (n : ℕ). IsTried n ((meter ∷ failed) ++ []) begun) (sym one)
      (subst (λ (xs : List Identity). IsTried (suc later) xs begun) (sym (append-nil (meter ∷ failed))) (rest.again, rest.more, rest.some, rest.begun_are, rest.tried));
}

started_in : {passes : ℕ} {meter : Identity} {left failed : List Identity} {n : ℕ} {begun : List Identity} → RestIn passes (meter ∷ left) failed (Busy n) begun → RestIn passes (meter ∷ left) failed Free (meter ∷ begun)
started_in {meter = m} rest = record { again = rest.again; more = rest.more; some = rest.some; begun_are = ap (λ (xs : List Identity). m ∷ xs) rest.begun_are; tried = rest.tried }

refused_in : {passes : ℕ} {meter : Identity} {left failed : List Identity} {phase : Phase} {begun : List Identity} → to_start left phase ≡ left → RestIn passes left failed phase begun → RestIn passes (meter ∷ left) failed Free (meter ∷ begun)
refused_in {meter = m} kept rest = record { again = rest.again; more = rest.more; some = without rest.some; begun_are = ap (λ (xs : List Identity). m ∷ xs) (rest.begun_are ∙ ap (λ (xs : List Identity). xs ++ rest.more) kept); tried = rest.tried }

-- the phase in which a pass goes on is of no account
as_phase : {passes : ℕ} {left failed : List Identity} {phase : Phase} {begun : List Identity} (was : Phase) → to_start left phase ≡ to_start left was → RestIn passes left failed phase begun → RestIn passes left failed was begun
as_phase was same rest = record { again = rest.again; more = rest.more; some = rest.some; begun_are = rest.begun_are ∙ ap (λ (xs : List Identity). xs ++ rest.more) same; tried = rest.tried }

rest_of : {tries line : ℕ} {old last : Part} {happened : List Happening} → Goes tries line old happened last → IsAtEnd last → Rest tries old (starts_in happened)
rest_of {tries = t} {last = l} stays end = at_end t l end
rest_of (passes_on less goes) end = passed_in (omega (arith, less)) (rest_of goes end)
rest_of (starts_it few goes) end = started_in (rest_of goes end)
rest_of (is_refused few goes) end = refused_in refl (rest_of goes end)
rest_of (asks_it goes) end = as_phase (Busy _) refl (rest_of goes end)
rest_of (has_no_request goes) end = gone (Busy _) refl refl (rest_of goes end)
rest_of (is_given_up goes) end = gone (Busy _) refl refl (rest_of goes end)
rest_of (goes_on on goes) end = rest_of goes end
rest_of (is_accepted goes) end = as_phase (Busy _) refl (rest_of goes end)
rest_of (is_put_off less goes) end = put_off_in (rest_of goes end)
rest_of (fails_at_last most goes) end = gone (Busy _) refl refl (rest_of goes end)
rest_of (is_faulty goes) end = gone (Busy _) refl refl (rest_of goes end)
rest_of (is_stored goes) end = as_phase (Pending _) refl (rest_of goes end)
rest_of (is_unstored goes) end = gone (Pending _) refl refl (rest_of goes end)
rest_of (stands_by not goes) end = rest_of goes end
rest_of (is_told as_end goes) end = as_phase (Over _) refl (rest_of goes end)
rest_of (loses_it goes) end = rest_of goes end

-- past its passes nothing is started
none_started : {tries line : ℕ} {old last : Part} {happened : List Happening} → Goes tries line old happened last → tries < pass_of old → starts_in happened ≡ []
none_started stays past = refl
none_started (passes_on less goes) past = absurd (omega (arith, less, past))
none_started (starts_it few goes) past = absurd (omega (arith, few, past))
none_started (is_refused few goes) past = absurd (omega (arith, few, past))
none_started (asks_it goes) past = none_started goes past
none_started (has_no_request goes) past = none_started goes past
none_started (is_given_up goes) past = none_started goes past
none_started (goes_on on goes) past = none_started goes past
none_started (is_accepted goes) past = none_started goes past
none_started (is_put_off less goes) past = none_started goes past
none_started (fails_at_last most goes) past = none_started goes past
none_started (is_faulty goes) past = none_started goes past
none_started (is_stored goes) past = none_started goes past
none_started (is_unstored goes) past = none_started goes past
none_started (stands_by not goes) past = none_started goes past
none_started (is_told as_end goes) past = none_started goes past
none_started (loses_it goes) past = none_started goes past

pub all_tried : (tries line : ℕ) (meters : List Identity) (happened : List Happening) (pass : ℕ) (stop : Phase) → Goes tries line (part meters [] 1 Free) happened (part [] [] pass stop) → IsTried tries meters (starts_in happened)
all_tried zero line meters happened pass stop goes = none_started goes (omega arith)
all_tried (suc tries) line meters happened pass stop goes =
    let rest = rest_of goes (record { no_left = refl; no_failed = refl }) in
    (rest.again, rest.more, rest.some, rest.begun_are, subst (λ (n : ℕ). IsTried n rest.again rest.more) (omega arith) rest.tried)
