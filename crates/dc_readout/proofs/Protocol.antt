-- The protocol's rules, from the summaries of a past and of the past with one thing more.
use Rattle.std.proofs.Common.{◌≡◌, ◌≢◌, ℕ, ◌+◌, ◌≤◌, ◌<◌, ◌⊎◌, inl, inr, Bool, true, false, List, [], ◌∷◌, ◌++◌, length, Option, Some, None, cond, arith, refl, sym, ◌∙◌, ap, subst}
use Rattle.std.specs.Prelude.{IsSome, nat_lt}
use Rattle.std.specs.List.{prefix_len}
use Rattle.std.proofs.lemmas.Bool.{ltb-true, ltb-false, cases_eq}
use Rattle.dc_linkframe.specs.Frame.{FrameSeen}
use Rattle.dc_linkframe.specs.Reading.{frame_of}
use Rattle.dc_address.specs.declared.identity.Identity.{Identity}
use Rattle.dc_records.specs.Body.{continues}
use Rattle.dc_records.specs.Telegram.{Parsed}
use Rattle.dc_readout.specs.declared.stage.Stage.{Stage}
use Rattle.dc_readout.specs.declared.stage.Stage.TheVariants.{Resets, Selects, Requests, Pending, Ended}
use Rattle.dc_readout.specs.declared.why.Why.{Why}
use Rattle.dc_readout.specs.Why.{number_of}
use Rattle.dc_readout.specs.Answer.{Meaning, acknowledged, answered, missed, broken}
use Rattle.dc_readout.specs.Summary.{Summary, Verdict, again, ready, new, failed, asked_at, asked_by, request_bit, request_of, meaning_at, verdict_of_meaning, heard_by, settled_by, stage_settled, after_command, IsPending}
use Rattle.dc_readout.specs.Session.{Call, hears, settles, Past, is_again, sum_of, settled_in, verdicts_of, summary, asked, judged, and_heard, and_settled, AreLawful, IsLawful}
use Rattle.dc_readout.specs.Protocol.{and_then, IsRequest, IsFollowed}
use Rattle.dc_readout.proofs.Table.{answered_when, BreaksLate, breaks_late}
use Rattle.dc_readout.proofs.Requests.{request_at, pending_asks_nothing, some_is_not_none, other_bit, same_bits}
use Rattle.dc_readout.proofs.History.{regular_past, after_meaning, after_settling}

-- ---- a past with one thing more

pub heard_summary : (past : Past) (answer : List ℕ) → IsLawful past → summary (and_heard answer past) ≡ heard_by (summary past) (judged past answer)
heard_summary past answer lawful =
    after_meaning past.meter past.address (verdicts_of past.meter past.address past.calls) (settled_in past.calls) answer _ (regular_past past.meter past.address past.calls lawful) refl

pub settled_summary : (past : Past) → IsLawful past → IsPending (summary past).stage → summary (and_settled past) ≡ settled_by (summary past)
settled_summary past lawful pending =
    let regular = regular_past past.meter past.address past.calls lawful in
    after_settling past.meter past.address (verdicts_of past.meter past.address past.calls) (settled_in past.calls) (settled_in (settles ∷ past.calls)) (omega arith) regular.one_waits pending

-- ---- a telegram waits since it was heard

not_after_settling : (stage : Stage) → IsPending (stage_settled stage) → ⊥
not_after_settling Resets p = p
not_after_settling Selects p = p
not_after_settling Requests p = p
not_after_settling (Pending true) p = p
not_after_settling (Pending false) p = p
not_after_settling Ended p = p

not_after_command : (stage : Stage) (address : Option ℕ) → IsPending (after_command stage address) → ⊥
not_after_command Resets None p = p
not_after_command Resets (Some a) p = p
not_after_command Selects address p = p
not_after_command Requests address p = p
not_after_command (Pending more) address p = p
not_after_command Ended address p = p

settles_not_twice : (past : Past) → IsLawful past → IsPending (summary past).stage → IsPending (summary (and_settled past)).stage → ⊥
settles_not_twice past lawful pending twice =
    not_after_settling (summary past).stage (subst (λ s. IsPending s.stage) (settled_summary past lawful pending) twice)

pending_by : (s : Summary) (answer : List ℕ) (o : Meaning) → IsSome (asked_by s) → meaning_at s.stage s.meter s.address s.settled (frame_of answer) ≡ o → IsPending (heard_by s (verdict_of_meaning s.tries s.settled o)).stage → s.stage ≡ Requests
pending_by s answer acknowledged asks e p = absurd (not_after_command s.stage s.address p)
pending_by s answer (answered t) asks e p = answered_when s.stage s.meter s.address s.settled (frame_of answer) t e
pending_by s answer (missed why) asks e p = by_miss (nat_lt s.tries 2) p
  where
    by_miss : (left : Bool) → IsPending (heard_by s (cond left again (failed why))).stage → s.stage ≡ Requests
    by_miss true p = absurd (some_is_not_none (asked_by s) asks (pending_asks_nothing s.stage s.meter s.address s.settled p))
    by_miss false p = absurd p
pending_by s answer (broken why) asks e p = absurd p

heard_telegram : (past : Past) (answer : List ℕ) → IsLawful (and_heard answer past) → IsPending (summary (and_heard answer past)).stage → (summary past).stage ≡ Requests
heard_telegram past answer lawful pending =
    pending_by (summary past) answer _ lawful.0 refl (subst (λ s. IsPending s.stage) (heard_summary past answer lawful.1) pending)

-- ---- between two requests

settled_in-append : (later earlier : List Call) → settled_in (later ++ earlier) ≡ settled_in later + settled_in earlier
settled_in-append [] earlier = omega arith
settled_in-append (hears answer ∷ later) earlier = settled_in-append later earlier
settled_in-append (settles ∷ later) earlier = omega (arith, settled_in-append later earlier)

-- only this is asked before the last of these calls
OnlyAsked : Past → List Call → FrameSeen → Type 0
OnlyAsked past calls request = (later earlier : List Call) → calls ≡ later ++ earlier → 0 < length later → (asked (and_then earlier past) ≡ None) ⊎ (asked (and_then earlier past) ≡ Some request)

fewer : (past : Past) (call : Call) (calls : List Call) (request : FrameSeen) → OnlyAsked past (call ∷ calls) request → OnlyAsked past calls request
unfolding OnlyAsked
fewer past call calls request only = λ later earlier e some. only (call ∷ later) earlier (ap (λ es. call ∷ es) e) (omega arith)

-- no telegram was settled before the one that waits
none_settled : (past : Past) (answer : List ℕ) (calls : List Call) (request : FrameSeen) → IsLawful (and_then (hears answer ∷ calls) past) → IsPending (summary (and_then (hears answer ∷ calls) past)).stage → asked past ≡ Some request → IsRequest request → OnlyAsked past (settles ∷ hears answer ∷ calls) request → settled_in calls ≤ 1 → settled_in calls ≡ 0
unfolding OnlyAsked
none_settled past answer calls request lawful pending first is only one =
    let n = settled_in past.calls in
    let begins = request_at (summary past).stage past.meter past.address n request first is in
    let stage : (summary (and_then calls past)).stage ≡ Requests = heard_telegram (and_then calls past) answer lawful pending in
    let asks : asked (and_then calls past) ≡ Some (request_of past.address (settled_in (calls ++ past.calls))) = ap (λ s. asked_at s past.meter past.address (settled_in (calls ++ past.calls))) stage in
    elim (only (settles ∷ hears answer ∷ []) calls refl (omega arith)) [
      | inl none ↦ absurd cc
      | inr repeated ↦
          let same : request_of past.address (settled_in (calls ++ past.calls)) ≡ request = cc in
          let bits = same_bits past.address (settled_in (calls ++ past.calls)) n request same begins.1 in
          let count = settled_in-append calls past.calls in
          by_count (settled_in calls) n (settled_in (calls ++ past.calls)) one count bits
    ]
  where
    by_count : (k n m : ℕ) → k ≤ 1 → m ≡ k + n → request_bit m ≡ request_bit n → k ≡ 0
    by_count k n m small sum same = elim (cases_eq k 1) [
      | inl one ↦ absurd (other_bit n (ap request_bit (omega arith) ∙ same))
      | inr other ↦ omega arith
    ]

at_most_one : (past : Past) (calls : List Call) (request : FrameSeen) → IsLawful (and_then calls past) → asked past ≡ Some request → IsRequest request → OnlyAsked past calls request → settled_in calls ≤ 1
at_most_one past [] request lawful first is only = omega arith
at_most_one past (hears answer ∷ calls) request lawful first is only =
    at_most_one past calls request lawful.1 first is (fewer past (hears answer) calls request only)
at_most_one past (settles ∷ []) request lawful first is only = omega arith
at_most_one past (settles ∷ settles ∷ calls) request lawful first is only =
    absurd (settles_not_twice (and_then calls past) lawful.1.1 lawful.1.0 lawful.0)
at_most_one past (settles ∷ hears answer ∷ calls) request lawful first is only =
    let few = at_most_one past calls request lawful.1.1 first is (fewer past (hears answer) calls request (fewer past settles (hears answer ∷ calls) request only)) in
    omega (arith, none_settled past answer calls request lawful.1 lawful.0 first is only few)

pub one_settled : (past : Past) (calls : List Call) (request next : FrameSeen) → IsFollowed past calls request next → IsRequest request → IsRequest next → request ≢ next → settled_in calls ≡ 1
unfolding OnlyAsked
one_settled past calls request next followed is is_next differ =
    let n = settled_in past.calls in
    let m = settled_in (calls ++ past.calls) in
    let begins = request_at (summary past).stage past.meter past.address n request followed.first is in
    let ends = request_at (summary (and_then calls past)).stage past.meter past.address m next followed.last is_next in
    let few = at_most_one past calls request followed.lawful followed.first is followed.between in
    let count = settled_in-append calls past.calls in
    elim (cases_eq (settled_in calls) 0) [
      | inl none ↦
          let same : m ≡ n = omega arith in
          absurd (differ (sym begins.1 ∙ ap (request_of past.address) (sym same) ∙ ends.1))
      | inr some ↦ omega arith
    ]

-- ---- tries

tries_by : (s : Summary) (o : Meaning) → s.tries < 3 → (heard_by s (verdict_of_meaning s.tries s.settled o)).tries < 3
tries_by s acknowledged less = omega arith
tries_by s (answered t) less = omega arith
tries_by s (missed why) less = by_miss (nat_lt s.tries 2) refl
  where
    by_miss : (left : Bool) → nat_lt s.tries 2 ≡ left → (heard_by s (cond left again (failed why))).tries < 3
    by_miss true is = omega (arith, ltb-true s.tries 2 is)
    by_miss false is = omega arith
tries_by s (broken why) less = omega arith

pub three_tries : (meter : Identity) (address : Option ℕ) (calls : List Call) → AreLawful meter address calls → (sum_of meter address (verdicts_of meter address calls) (settled_in calls)).tries < 3
three_tries meter address [] lawful = omega arith
three_tries meter address (settles ∷ earlier) lawful = three_tries meter address earlier lawful.1
three_tries meter address (hears answer ∷ earlier) lawful =
    let past : Past = record { meter = meter; address = address; calls = earlier } in
    let follows = heard_summary past answer lawful.1 in
    subst (λ s. s.tries < 3) (sym follows) (tries_by (summary past) _ (three_tries meter address earlier lawful.1))

-- ---- the third failed try

third_by : (s : Summary) (o : Meaning) (why : Why) → s.tries < 3 → BreaksLate o → verdict_of_meaning s.tries s.settled o ≡ failed why → number_of why ≤ 3 → s.tries ≡ 2
third_by s acknowledged why less late e small = absurd cc
third_by s (answered t) why less late e small = absurd cc
third_by s (missed found) why less late e small = by_miss (nat_lt s.tries 2) refl e
  where
    by_miss : (left : Bool) → nat_lt s.tries 2 ≡ left → cond left again (failed found) ≡ failed why → s.tries ≡ 2
    by_miss true is e = absurd cc
    by_miss false is e = omega (arith, ltb-false s.tries 2 is)
third_by s (broken found) why less late e small =
    let same : found ≡ why = cc in
    let high : 4 ≤ number_of why = subst (λ w. 4 ≤ number_of w) same late in
    absurd (omega arith)

pub third_try : (past : Past) (answer : List ℕ) (why : Why) → IsLawful past → judged past answer ≡ failed why → number_of why ≤ 3 → (summary past).tries ≡ 2
third_try past answer why lawful e small =
    let s = summary past in
    third_by s _ why (three_tries past.meter past.address past.calls lawful) (breaks_late s.stage s.meter s.address s.settled (frame_of answer)) e small

-- ---- nothing is asked

lawful_before : (meter : Identity) (address : Option ℕ) (later earlier : List Call) → AreLawful meter address (later ++ earlier) → AreLawful meter address earlier
lawful_before meter address [] earlier lawful = lawful
lawful_before meter address (hears answer ∷ later) earlier lawful = lawful_before meter address later earlier lawful.1
lawful_before meter address (settles ∷ later) earlier lawful = lawful_before meter address later earlier lawful.1

-- at the end nothing more happens
over : (past : Past) (calls : List Call) → (summary past).stage ≡ Ended → IsLawful (and_then calls past) → calls ≡ []
over past [] ended lawful = refl
over past (hears answer ∷ calls) ended lawful =
    let none = over past calls ended lawful.1 in
    let asks : asked (and_then calls past) ≡ None = ap (λ es. asked (and_then es past)) none ∙ ap (λ stage. asked_at stage past.meter past.address (settled_in past.calls)) ended in
    absurd (some_is_not_none (asked (and_then calls past)) lawful.0 asks)
over past (settles ∷ calls) ended lawful =
    let none = over past calls ended lawful.1 in
    let stage : (summary (and_then calls past)).stage ≡ Ended = ap (λ es. (summary (and_then es past)).stage) none ∙ ended in
    absurd (subst IsPending stage lawful.0)

asks_nothing : (past : Past) → (summary past).stage ≡ Ended → asked past ≡ None
asks_nothing past ended = ap (λ stage. asked_at stage past.meter past.address (settled_in past.calls)) ended

pub while_it_waits : (past : Past) (answer : List ℕ) (part : ℕ) (t : Parsed) → IsLawful (and_heard answer past) → judged past answer ≡ new part t → asked (and_heard answer past) ≡ None
while_it_waits past answer part t lawful e =
    ap asked_by (heard_summary past answer lawful.1) ∙ ap (λ v. asked_by (heard_by (summary past) v)) e

pub after_failure : (past : Past) (answer : List ℕ) (why : Why) (calls : List Call) → judged past answer ≡ failed why → IsLawful (and_then calls (and_heard answer past)) → (calls ≡ []) × (asked (and_heard answer past) ≡ None)
after_failure past answer why calls e lawful =
    let before = lawful_before past.meter past.address calls (hears answer ∷ past.calls) lawful in
    let ended : (summary (and_heard answer past)).stage ≡ Ended = ap (λ s. s.stage) (heard_summary past answer before.1) ∙ ap (λ v. (heard_by (summary past) v).stage) e in
    (over (and_heard answer past) calls ended lawful, asks_nothing (and_heard answer past) ended)

-- what follows a telegram that was settled
settled_stage_of : (past : Past) (answer : List ℕ) (part : ℕ) (t : Parsed) → IsLawful (and_settled (and_heard answer past)) → judged past answer ≡ new part t → summary (and_settled (and_heard answer past)) ≡ settled_by (heard_by (summary past) (new part t))
settled_stage_of past answer part t lawful e =
    settled_summary (and_heard answer past) lawful.1 lawful.0
    ∙ ap settled_by (heard_summary past answer lawful.1.1)
    ∙ ap (λ v. settled_by (heard_by (summary past) v)) e

pub after_the_last : (past : Past) (answer : List ℕ) (part : ℕ) (t : Parsed) (calls : List Call) → judged past answer ≡ new part t → continues t.ending ≡ false → IsLawful (and_then calls (and_settled (and_heard answer past))) → (calls ≡ []) × (asked (and_settled (and_heard answer past)) ≡ None)
after_the_last past answer part t calls e last lawful =
    let before = lawful_before past.meter past.address calls (settles ∷ hears answer ∷ past.calls) lawful in
    let ended : (summary (and_settled (and_heard answer past))).stage ≡ Ended = ap (λ s. s.stage) (settled_stage_of past answer part t before e) ∙ ap (λ more. stage_settled (Pending more)) last in
    (over (and_settled (and_heard answer past)) calls ended lawful, asks_nothing (and_settled (and_heard answer past)) ended)

-- ---- each other request, from the first try on

begins_anew : (v : Verdict) (earlier : List Verdict) → v ≢ again → prefix_len is_again (v ∷ earlier) ≡ 0
begins_anew again earlier other = absurd (other refl)
begins_anew ready earlier other = refl
begins_anew (new part t) earlier other = refl
begins_anew (failed why) earlier other = refl

pub anew : (past : Past) (answer : List ℕ) → judged past answer ≢ again → (summary (and_heard answer past)).tries ≡ 0
anew past answer other =
    begins_anew (judged past answer) (verdicts_of past.meter past.address past.calls) other

pub parity : (past : Past) (request : FrameSeen) → asked past ≡ Some request → IsRequest request → request ≡ request_of past.address (settled_in past.calls)
parity past request first is =
    sym (request_at (summary past).stage past.meter past.address (settled_in past.calls) request first is).1
