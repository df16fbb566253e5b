-- How many requests a readout makes at most: each takes one away of those that are left.
use Rattle.std.proofs.Common.{◌≡◌, ℕ, ◌+◌, ◌≤◌, ◌<◌, ◌⊎◌, inl, inr, Bool, true, false, List, [], ◌∷◌, Option, Some, None, cond, arith, refl, sym, ap, subst}
use Rattle.std.specs.Prelude.{IsSome, nat_lt}
use Rattle.std.proofs.lemmas.Bool.{ltb-true, cases_eq}
use Rattle.dc_linkframe.specs.Frame.{FrameSeen}
use Rattle.dc_linkframe.specs.Reading.{frame_of}
use Rattle.dc_address.specs.declared.identity.Identity.{Identity}
use Rattle.dc_records.specs.Body.{continues}
use Rattle.dc_readout.specs.declared.stage.Stage.{Stage}
use Rattle.dc_readout.specs.declared.stage.Stage.TheVariants.{Resets, Selects, Requests, Pending, Ended}
use Rattle.dc_readout.specs.Answer.{Meaning, acknowledged, answered, missed, broken, max_parts}
use Rattle.dc_readout.specs.Summary.{Summary, Verdict, again, failed, asked_at, asked_by, meaning_at, verdict_of_meaning, verdict_by, heard_by, settled_by, stage_settled, after_command, IsPending, IsSound, parts_left}
use Rattle.dc_readout.specs.Session.{Call, hears, settles, Past, summary, AreLawful}
use Rattle.dc_readout.specs.Bound.{most_requests, requests_left_at, requests_left, requests_in}
use Rattle.dc_readout.proofs.Table.{answered_when, acknowledged_when}
use Rattle.dc_readout.proofs.Taken.{taken}
use Rattle.dc_readout.proofs.Protocol.{heard_summary, settled_summary}

-- ---- what a command's acknowledgement leaves

left_by_command : (stage : Stage) (address : Option ℕ) (tries settled : ℕ) → (stage ≡ Resets) ⊎ (stage ≡ Selects) → requests_left_at (after_command stage address) 0 settled < requests_left_at stage tries settled
left_by_command Resets None tries settled at = omega arith
left_by_command Resets (Some a) tries settled at = omega arith
left_by_command Selects address tries settled at = omega arith
left_by_command Requests address tries settled (inl at) = absurd cc
left_by_command Requests address tries settled (inr at) = absurd cc
left_by_command (Pending more) address tries settled (inl at) = absurd cc
left_by_command (Pending more) address tries settled (inr at) = absurd cc
left_by_command Ended address tries settled (inl at) = absurd cc
left_by_command Ended address tries settled (inr at) = absurd cc

parts_by_command : (stage : Stage) (address : Option ℕ) (settled : ℕ) → parts_left stage settled → (stage ≡ Resets) ⊎ (stage ≡ Selects) → parts_left (after_command stage address) settled
parts_by_command Resets None settled part at = part
parts_by_command Resets (Some a) settled part at = part
parts_by_command Selects address settled part at = part
parts_by_command Requests address settled part at = part
parts_by_command (Pending more) address settled part (inl at) = absurd cc
parts_by_command (Pending more) address settled part (inr at) = absurd cc
parts_by_command Ended address settled part (inl at) = absurd cc
parts_by_command Ended address settled part (inr at) = absurd cc

-- ---- what a failed try leaves

left_by_try : (stage : Stage) (meter : Identity) (address : Option ℕ) (tries settled : ℕ) → tries < 2 → IsSome (asked_at stage meter address settled) → requests_left_at stage (tries + 1) settled < requests_left_at stage tries settled
left_by_try Resets meter address tries settled few asks = omega arith
left_by_try Selects meter address tries settled few asks = omega arith
left_by_try Requests meter address tries settled few asks = omega arith
left_by_try (Pending more) meter address tries settled few asks = absurd cc
left_by_try Ended meter address tries settled few asks = absurd cc

some_left : (stage : Stage) (meter : Identity) (address : Option ℕ) (tries settled : ℕ) → IsSome (asked_at stage meter address settled) → 0 < requests_left_at stage tries settled
some_left Resets meter address tries settled asks = omega arith
some_left Selects meter address tries settled asks = omega arith
some_left Requests meter address tries settled asks = omega arith
some_left (Pending more) meter address tries settled asks = absurd cc
some_left Ended meter address tries settled asks = absurd cc

-- ---- what an answer leaves

falls_by : (s : Summary) (frame : Option FrameSeen) (o : Meaning) → IsSome (asked_by s) → meaning_at s.stage s.meter s.address s.settled frame ≡ o
    → requests_left (heard_by s (verdict_of_meaning s.tries s.settled o)) < requests_left s
falls_by s frame acknowledged asks is =
    left_by_command s.stage s.address s.tries s.settled (acknowledged_when s.stage s.meter s.address s.settled frame is)
falls_by s frame (answered t) asks is =
    let stage : s.stage ≡ Requests = answered_when s.stage s.meter s.address s.settled frame t is in
    let less : requests_left_at (Pending (continues t.ending)) 0 s.settled < requests_left_at Requests s.tries s.settled = omega arith in
    subst (λ (x : Stage). requests_left_at (Pending (continues t.ending)) 0 s.settled < requests_left_at x s.tries s.settled) (sym stage) less
falls_by s frame (missed why) asks is = by_miss (nat_lt s.tries 2) refl
  where
    by_miss : (left : Bool) → nat_lt s.tries 2 ≡ left → requests_left (heard_by s (cond left again (failed why))) < requests_left s
    by_miss true few = left_by_try s.stage s.meter s.address s.tries s.settled (ltb-true _ _ few) asks
    by_miss false few = some_left s.stage s.meter s.address s.tries s.settled asks
falls_by s frame (broken why) asks is = some_left s.stage s.meter s.address s.tries s.settled asks

pub falls : (s : Summary) (answer : List ℕ) → IsSome (asked_by s) → requests_left (heard_by s (verdict_by s answer)) < requests_left s
falls s answer asks = falls_by s (frame_of answer) _ asks refl

rests_at : (stage : Stage) (tries settled : ℕ) → parts_left stage settled → IsPending stage → requests_left_at (stage_settled stage) tries (settled + 1) ≤ requests_left_at stage tries settled
rests_at Resets tries settled part waits = absurd waits
rests_at Selects tries settled part waits = absurd waits
rests_at Requests tries settled part waits = absurd waits
rests_at (Pending true) tries settled part waits = omega (arith, part)
rests_at (Pending false) tries settled part waits = omega arith
rests_at Ended tries settled part waits = absurd waits

pub rests : (s : Summary) → IsSound s.stage s.tries s.settled → IsPending s.stage → requests_left (settled_by s) ≤ requests_left s
rests s sound waits = rests_at s.stage s.tries s.settled sound.a_part_left waits

-- ---- a try and a part are left after an answer, and after a telegram is settled

still_below : (more : Bool) (settled : ℕ) → settled < max_parts → (more ≡ true → settled + 1 ≡ max_parts → ⊥) → parts_left (Pending more) settled
still_below true settled part below = elim (cases_eq (settled + 1) max_parts) [
  | inl last ↦ absurd (below refl last)
  | inr other ↦ omega (arith, part, other)
]
still_below false settled part below = part

abbrev IsSoundAfter : Summary → Verdict → Type 0
IsSoundAfter s v = IsSound (heard_by s v).stage (heard_by s v).tries (heard_by s v).settled

sound_by : (s : Summary) (answer : List ℕ) (o : Meaning) → IsSound s.stage s.tries s.settled → IsSome (asked_by s) → meaning_at s.stage s.meter s.address s.settled (frame_of answer) ≡ o → IsSoundAfter s (verdict_of_meaning s.tries s.settled o)
sound_by s answer acknowledged sound asks is = record {
  a_try_left = omega arith;
  a_part_left = parts_by_command s.stage s.address s.settled sound.a_part_left (acknowledged_when s.stage s.meter s.address s.settled (frame_of answer) is);
}
sound_by s answer (answered t) sound asks is =
    let stage : s.stage ≡ Requests = answered_when s.stage s.meter s.address s.settled (frame_of answer) t is in
    let so = taken s answer (s.settled + 1) t (ap (verdict_of_meaning s.tries s.settled) is) in
    record {
      a_try_left = omega arith;
      a_part_left = still_below (continues t.ending) s.settled (subst (λ (x : Stage). parts_left x s.settled) stage sound.a_part_left) so.below_last;
    }
sound_by s answer (missed why) sound asks is = by_miss (nat_lt s.tries 2) refl
  where
    by_miss : (left : Bool) → nat_lt s.tries 2 ≡ left → IsSoundAfter s (cond left again (failed why))
    by_miss true few = record { a_try_left = let less = ltb-true _ _ few in omega (arith, less); a_part_left = sound.a_part_left }
    by_miss false few = record { a_try_left = omega arith; a_part_left = tt }
sound_by s answer (broken why) sound asks is = record { a_try_left = omega arith; a_part_left = tt }

parts_settled : (stage : Stage) (settled : ℕ) → parts_left stage settled → IsPending stage → parts_left (stage_settled stage) (settled + 1)
parts_settled Resets settled part waits = absurd waits
parts_settled Selects settled part waits = absurd waits
parts_settled Requests settled part waits = absurd waits
parts_settled (Pending true) settled part waits = part
parts_settled (Pending false) settled part waits = tt
parts_settled Ended settled part waits = absurd waits

-- ---- over a whole past

pub record IsWithin (calls : List Call) (s : Summary) : Type 0 where
  pub sound : IsSound s.stage s.tries s.settled
  pub few : requests_in calls + requests_left s ≤ most_requests

pub whole : (meter : Identity) (address : Option ℕ) (calls : List Call) → AreLawful meter address calls → IsWithin calls (summary (record { meter = meter; address = address; calls = calls }))
whole meter address [] lawful = record { sound = record { a_try_left = omega arith; a_part_left = omega arith }; few = omega arith }
whole meter address (hears answer ∷ earlier) lawful =
    let past : Past = record { meter = meter; address = address; calls = earlier } in
    let before = whole meter address earlier lawful.1 in
    let s = summary past in
    let less = falls s answer lawful.0 in
    let few = before.few in
    subst (IsWithin (hears answer ∷ earlier)) (sym (heard_summary past answer lawful.1))
    (record { sound = sound_by s answer _ before.sound lawful.0 refl; few = omega (arith, less, few) })
whole meter address (settles ∷ earlier) lawful =
    let past : Past = record { meter = meter; address = address; calls = earlier } in
    let before = whole meter address earlier lawful.1 in
    let s = summary past in
    let less = rests s before.sound lawful.0 in
    let few = before.few in
    subst (IsWithin (settles ∷ earlier)) (sym (settled_summary past lawful.1 lawful.0))
    (record {
      sound = record { a_try_left = before.sound.a_try_left; a_part_left = parts_settled s.stage s.settled before.sound.a_part_left lawful.0 };
      few = omega (arith, less, few);
    })
