-- A past with one thing more: its summary follows from the summary before.
use Rattle.std.proofs.Common.{◌≡◌, ℕ, ◌+◌, ◌≤◌, ◌<◌, inl, inr, Bool, true, false, List, [], ◌∷◌, length, Option, Some, None, cond, arith, refl, sym, ◌∙◌, ap, subst}
use Rattle.std.specs.Prelude.{IsSome, filter, nat_lt}
use Rattle.std.specs.List.{list_any, filter_map, prefix_len}
use Rattle.std.proofs.lemmas.Bool.{lt-ltb, le-ltb, ltb-true, ltb-false}
use Rattle.dc_linkframe.specs.Reading.{frame_of}
use Rattle.dc_address.specs.declared.identity.Identity.{Identity}
use Rattle.dc_records.specs.Body.{continues}
use Rattle.dc_records.specs.Telegram.{Parsed}
use Rattle.dc_readout.specs.declared.stage.Stage.{Stage}
use Rattle.dc_readout.specs.declared.stage.Stage.TheVariants.{Resets, Selects, Requests, Pending, Ended}
use Rattle.dc_readout.specs.declared.why.Why.{Why}
use Rattle.dc_readout.specs.Answer.{Meaning, acknowledged, answered, missed, broken}
use Rattle.dc_readout.specs.Summary.{Summary, Verdict, again, ready, new, failed, asked_by, meaning_at, verdict_of_meaning, verdict_by, heard_by, settled_by, stage_settled, IsPending}
use Rattle.dc_readout.specs.Session.{Call, hears, settles, Past, is_again, is_ready, is_failed, telegram_in, stage_by_telegrams, commands, stage_of, sum_of, settled_in, verdicts_of, summary, judged, and_heard, and_settled, AreLawful, SumsUp}
use Rattle.dc_readout.proofs.Table.{answered_when, acknowledged_when}

-- the telegrams of these verdicts, the latest first
abbrev pub telegrams : List Verdict → List Parsed
telegrams verdicts = filter_map telegram_in verdicts

-- What holds in a lawful past: at most one telegram waits, and none came before the commands were answered.
pub record IsRegular (address : Option ℕ) (verdicts : List Verdict) (n : ℕ) : Type 0 where
  pub settled_came : n ≤ length (telegrams verdicts)
  pub one_waits : length (telegrams verdicts) ≤ n + 1
  pub commands_first : length (filter is_ready verdicts) < commands address → telegrams verdicts ≡ []

-- the stages that come before and after the telegrams
past_stages : (failed resets selects : Bool) (by : Stage) → cond failed Ended (cond resets Resets (cond selects Selects by)) ≡ Requests → (failed ≡ false) × (resets ≡ false) × (selects ≡ false) × (by ≡ Requests)
past_stages true resets selects by e = absurd cc
past_stages false true selects by e = absurd cc
past_stages false false true by e = absurd cc
past_stages false false false by e = (refl, refl, refl, e)

at_reset : (failed resets selects : Bool) (by : Stage) → (by ≡ Resets → ⊥) → cond failed Ended (cond resets Resets (cond selects Selects by)) ≡ Resets → (failed ≡ false) × (resets ≡ true)
at_reset true resets selects by other e = absurd cc
at_reset false true selects by other e = (refl, refl)
at_reset false false true by other e = absurd cc
at_reset false false false by other e = absurd (other e)

at_selection : (failed resets selects : Bool) (by : Stage) → (by ≡ Selects → ⊥) → cond failed Ended (cond resets Resets (cond selects Selects by)) ≡ Selects → (failed ≡ false) × (resets ≡ false) × (selects ≡ true)
at_selection true resets selects by other e = absurd cc
at_selection false true selects by other e = absurd cc
at_selection false false true by other e = (refl, refl, refl)
at_selection false false false by other e = absurd (other e)

at_pending : (failed resets selects : Bool) (by : Stage) → IsPending (cond failed Ended (cond resets Resets (cond selects Selects by))) → (failed ≡ false) × (resets ≡ false) × (selects ≡ false) × IsPending by
at_pending true resets selects by p = absurd p
at_pending false true selects by p = absurd p
at_pending false false true by p = absurd p
at_pending false false false by p = (refl, refl, refl, p)

cond_no_reset : (waits more : Bool) → cond waits (Pending more) (cond more Requests Ended) ≡ Resets → ⊥
cond_no_reset true more e = cc
cond_no_reset false true e = cc
cond_no_reset false false e = cc

cond_no_selection : (waits more : Bool) → cond waits (Pending more) (cond more Requests Ended) ≡ Selects → ⊥
cond_no_selection true more e = cc
cond_no_selection false true e = cc
cond_no_selection false false e = cc

cond_pending : (waits more : Bool) → IsPending (cond waits (Pending more) (cond more Requests Ended)) → waits ≡ true
cond_pending true more p = refl
cond_pending false true p = absurd p
cond_pending false false p = absurd p

no_reset : (n : ℕ) (ts : List Parsed) → stage_by_telegrams n ts ≡ Resets → ⊥
no_reset n [] e = cc
no_reset n (t ∷ ts) e = cond_no_reset _ _ e

no_selection : (n : ℕ) (ts : List Parsed) → stage_by_telegrams n ts ≡ Selects → ⊥
no_selection n [] e = cc
no_selection n (t ∷ ts) e = cond_no_selection _ _ e

-- the telegram that waits, once it is settled
settled_more : (more : Bool) → cond more Requests Ended ≡ stage_settled (Pending more)
settled_more true = refl
settled_more false = refl

settled_stage : (n : ℕ) (ts : List Parsed) → length ts ≤ n + 1 → IsPending (stage_by_telegrams n ts) → stage_by_telegrams (n + 1) ts ≡ stage_settled (stage_by_telegrams n ts)
settled_stage n [] one p = absurd p
settled_stage n (t ∷ ts) one p =
    rw (cond_pending _ _ p, le-ltb (n + 1) (length (t ∷ ts)) one) (settled_more (continues t.ending))

module _ (meter : Identity) (address : Option ℕ) (verdicts : List Verdict) (n : ℕ) where
  after_again : sum_of meter address (again ∷ verdicts) n ≡ heard_by (sum_of meter address verdicts n) again
  after_again =
      let one_more : prefix_len is_again (again ∷ verdicts) ≡ prefix_len is_again verdicts + 1 = omega arith in
      ap (λ k. record { meter = meter; address = address; stage = stage_of address verdicts n; tries = k; settled = n }) one_more

  pub after_failed : (why : Why) → sum_of meter address (failed why ∷ verdicts) n ≡ heard_by (sum_of meter address verdicts n) (failed why)
  after_failed why = refl

  after_new : (part : ℕ) (t : Parsed) → n ≤ length (telegrams verdicts) → stage_of address verdicts n ≡ Requests → sum_of meter address (new part t ∷ verdicts) n ≡ heard_by (sum_of meter address verdicts n) (new part t)
  after_new part t came stage =
      let passed = past_stages (list_any is_failed verdicts) (nat_lt (length (filter is_ready verdicts)) 1) (nat_lt (length (filter is_ready verdicts)) (commands address)) (stage_by_telegrams n (telegrams verdicts)) stage in
      rw (passed.0, passed.1, passed.2, lt-ltb n (length (t ∷ telegrams verdicts)) (omega arith))

-- the reset was answered, or the selection
after_reset : (meter : Identity) (address : Option ℕ) (verdicts : List Verdict) (n : ℕ) → IsRegular address verdicts n → stage_of address verdicts n ≡ Resets → sum_of meter address (ready ∷ verdicts) n ≡ heard_by (sum_of meter address verdicts n) ready
after_reset meter None verdicts n regular stage =
    let at = at_reset (list_any is_failed verdicts) (nat_lt (length (filter is_ready verdicts)) 1) (nat_lt (length (filter is_ready verdicts)) 2) (stage_by_telegrams n (telegrams verdicts)) (no_reset n (telegrams verdicts)) stage in
    let none : length (filter is_ready verdicts) < 1 = ltb-true _ _ at.1 in
    rw (stage, at.0, le-ltb (length (ready ∷ filter is_ready verdicts)) 1 (omega arith), lt-ltb (length (ready ∷ filter is_ready verdicts)) 2 (omega arith))
after_reset meter (Some a) verdicts n regular stage =
    let at = at_reset (list_any is_failed verdicts) (nat_lt (length (filter is_ready verdicts)) 1) (nat_lt (length (filter is_ready verdicts)) 1) (stage_by_telegrams n (telegrams verdicts)) (no_reset n (telegrams verdicts)) stage in
    let none : length (filter is_ready verdicts) < 1 = ltb-true _ _ at.1 in
    let first = regular.commands_first none in
    rw (stage, at.0, le-ltb (length (ready ∷ filter is_ready verdicts)) 1 (omega arith), first)

after_selection : (meter : Identity) (address : Option ℕ) (verdicts : List Verdict) (n : ℕ) → IsRegular address verdicts n → stage_of address verdicts n ≡ Selects → sum_of meter address (ready ∷ verdicts) n ≡ heard_by (sum_of meter address verdicts n) ready
after_selection meter None verdicts n regular stage =
    let at = at_selection (list_any is_failed verdicts) (nat_lt (length (filter is_ready verdicts)) 1) (nat_lt (length (filter is_ready verdicts)) 2) (stage_by_telegrams n (telegrams verdicts)) (no_selection n (telegrams verdicts)) stage in
    let some : 1 ≤ length (filter is_ready verdicts) = ltb-false _ _ at.1 in
    let one : length (filter is_ready verdicts) < 2 = ltb-true _ _ at.2 in
    let first = regular.commands_first one in
    rw (stage, at.0, le-ltb (length (ready ∷ filter is_ready verdicts)) 1 (omega arith), le-ltb (length (ready ∷ filter is_ready verdicts)) 2 (omega arith), first)
after_selection meter (Some a) verdicts n regular stage =
    let at = at_selection (list_any is_failed verdicts) (nat_lt (length (filter is_ready verdicts)) 1) (nat_lt (length (filter is_ready verdicts)) 1) (stage_by_telegrams n (telegrams verdicts)) (no_selection n (telegrams verdicts)) stage in
    absurd (let one = at.1 ∙ sym refl in let two = at.2 in cc)

pub after_settling : (meter : Identity) (address : Option ℕ) (verdicts : List Verdict) (n m : ℕ) → m ≡ n + 1 → length (telegrams verdicts) ≤ n + 1 → IsPending (stage_of address verdicts n) → sum_of meter address verdicts m ≡ settled_by (sum_of meter address verdicts n)
after_settling meter address verdicts n m next one pending =
    let passed = at_pending (list_any is_failed verdicts) (nat_lt (length (filter is_ready verdicts)) 1) (nat_lt (length (filter is_ready verdicts)) (commands address)) (stage_by_telegrams n (telegrams verdicts)) pending in
    rw (next, passed.0, passed.1, passed.2, settled_stage n (telegrams verdicts) one passed.3)

-- ---- an answer

after_miss : (meter : Identity) (address : Option ℕ) (verdicts : List Verdict) (n : ℕ) (left : Bool) (why : Why) → sum_of meter address (cond left again (failed why) ∷ verdicts) n ≡ heard_by (sum_of meter address verdicts n) (cond left again (failed why))
after_miss meter address verdicts n true why = after_again meter address verdicts n
after_miss meter address verdicts n false why = after_failed meter address verdicts n why

pub after_meaning : (meter : Identity) (address : Option ℕ) (verdicts : List Verdict) (n : ℕ) (answer : List ℕ) (o : Meaning) → IsRegular address verdicts n → meaning_at (stage_of address verdicts n) meter address n (frame_of answer) ≡ o → sum_of meter address (verdict_of_meaning (prefix_len is_again verdicts) n o ∷ verdicts) n ≡ heard_by (sum_of meter address verdicts n) (verdict_of_meaning (prefix_len is_again verdicts) n o)
after_meaning meter address verdicts n answer acknowledged regular e =
    elim (acknowledged_when (stage_of address verdicts n) meter address n (frame_of answer) e) [
      | inl resets ↦ after_reset meter address verdicts n regular resets
      | inr selects ↦ after_selection meter address verdicts n regular selects
    ]
after_meaning meter address verdicts n answer (answered t) regular e =
    after_new meter address verdicts n (n + 1) t regular.settled_came (answered_when (stage_of address verdicts n) meter address n (frame_of answer) t e)
after_meaning meter address verdicts n answer (missed why) regular e =
    after_miss meter address verdicts n (nat_lt (prefix_len is_again verdicts) 2) why
after_meaning meter address verdicts n answer (broken why) regular e = after_failed meter address verdicts n why

-- ---- every lawful past is regular

none_waits : (n : ℕ) (ts : List Parsed) → stage_by_telegrams n ts ≡ Requests → length ts ≤ n
none_waits n [] e = omega arith
none_waits n (t ∷ ts) e = ltb-false _ _ (waits_not (nat_lt n (length (t ∷ ts))) (continues t.ending) e)
  where
    waits_not : (waits more : Bool) → cond waits (Pending more) (cond more Requests Ended) ≡ Requests → waits ≡ false
    waits_not true more e = absurd cc
    waits_not false more e = refl

one_more_waits : (n : ℕ) (ts : List Parsed) → IsPending (stage_by_telegrams n ts) → n < length ts
one_more_waits n [] p = absurd p
one_more_waits n (t ∷ ts) p = ltb-true _ _ (cond_pending _ _ p)

regular_miss : (address : Option ℕ) (verdicts : List Verdict) (n : ℕ) (left : Bool) (why : Why) → IsRegular address verdicts n → IsRegular address (cond left again (failed why) ∷ verdicts) n
regular_miss address verdicts n true why regular = record { settled_came = regular.settled_came; one_waits = regular.one_waits; commands_first = regular.commands_first }
regular_miss address verdicts n false why regular = record { settled_came = regular.settled_came; one_waits = regular.one_waits; commands_first = regular.commands_first }

regular_meaning : (meter : Identity) (address : Option ℕ) (verdicts : List Verdict) (n tries : ℕ) (answer : List ℕ) (o : Meaning) → IsRegular address verdicts n → meaning_at (stage_of address verdicts n) meter address n (frame_of answer) ≡ o → IsRegular address (verdict_of_meaning tries n o ∷ verdicts) n
regular_meaning meter address verdicts n tries answer acknowledged regular e =
    record { settled_came = regular.settled_came; one_waits = regular.one_waits; commands_first = λ less. regular.commands_first (omega arith) }
regular_meaning meter address verdicts n tries answer (answered t) regular e =
    let stage = answered_when (stage_of address verdicts n) meter address n (frame_of answer) t e in
    let passed = past_stages (list_any is_failed verdicts) (nat_lt (length (filter is_ready verdicts)) 1) (nat_lt (length (filter is_ready verdicts)) (commands address)) (stage_by_telegrams n (telegrams verdicts)) stage in
    let few : length (telegrams verdicts) ≤ n = none_waits n (telegrams verdicts) passed.3 in
    let came : n ≤ length (telegrams verdicts) = regular.settled_came in
    let commanded : commands address ≤ length (filter is_ready verdicts) = ltb-false _ _ passed.2 in
    record { settled_came = omega arith; one_waits = omega arith; commands_first = λ less. absurd (omega arith) }
regular_meaning meter address verdicts n tries answer (missed why) regular e =
    regular_miss address verdicts n (nat_lt tries 2) why regular
regular_meaning meter address verdicts n tries answer (broken why) regular e =
    record { settled_came = regular.settled_came; one_waits = regular.one_waits; commands_first = regular.commands_first }

pub regular_past : (meter : Identity) (address : Option ℕ) (calls : List Call) → AreLawful meter address calls → IsRegular address (verdicts_of meter address calls) (settled_in calls)
regular_past meter address [] lawful = record { settled_came = omega arith; one_waits = omega arith; commands_first = λ less. refl }
regular_past meter address (hears answer ∷ earlier) lawful =
    regular_meaning meter address (verdicts_of meter address earlier) (settled_in earlier) (prefix_len is_again (verdicts_of meter address earlier)) answer _ (regular_past meter address earlier lawful.1) refl
regular_past meter address (settles ∷ earlier) lawful =
    let verdicts = verdicts_of meter address earlier in
    let n = settled_in earlier in
    let before = regular_past meter address earlier lawful.1 in
    let passed = at_pending (list_any is_failed verdicts) (nat_lt (length (filter is_ready verdicts)) 1) (nat_lt (length (filter is_ready verdicts)) (commands address)) (stage_by_telegrams n (telegrams verdicts)) lawful.0 in
    let waits : n < length (telegrams verdicts) = one_more_waits n (telegrams verdicts) passed.3 in
    let one : length (telegrams verdicts) ≤ n + 1 = before.one_waits in
    record { settled_came = omega arith; one_waits = omega arith; commands_first = before.commands_first }

-- ---- what the calls of a session leave

pub sums_heard : (past : Past) (s after : Summary) (answer : List ℕ) (v : Verdict) → SumsUp past s → IsSome (asked_by s) → v ≡ verdict_by s answer → after ≡ heard_by s v → (v ≡ judged past answer) × SumsUp (and_heard answer past) after
sums_heard past s after answer v sums asks is left =
    let verdicts = verdicts_of past.meter past.address past.calls in
    let judged_so : v ≡ judged past answer = is ∙ ap (λ x. verdict_by x answer) (sym sums.is) in
    let follows = after_meaning past.meter past.address verdicts (settled_in past.calls) answer _ (regular_past past.meter past.address past.calls sums.lawful) refl in (
      judged_so,
      record {
        lawful = (subst (λ x. IsSome (asked_by x)) (sym sums.is) asks, sums.lawful);
        is = follows ∙ ap (λ x. heard_by x (judged past answer)) sums.is ∙ ap (λ x. heard_by s x) (sym judged_so) ∙ sym left;
      },
    )

pub sums_settled : (past : Past) (s after : Summary) → SumsUp past s → IsPending s.stage → after ≡ settled_by s → SumsUp (and_settled past) after
sums_settled past s after sums pending left =
    let verdicts = verdicts_of past.meter past.address past.calls in
    let waits : IsPending (summary past).stage = subst (λ x. IsPending x.stage) (sym sums.is) pending in
    let regular = regular_past past.meter past.address past.calls sums.lawful in
    record {
      lawful = (waits, sums.lawful);
      is = after_settling past.meter past.address verdicts (settled_in past.calls) (settled_in (settles ∷ past.calls)) (omega arith) regular.one_waits waits ∙ ap settled_by sums.is ∙ sym left;
    }
