-- What becomes of a line's part, by what is answered.
use Rattle.std.proofs.Common.{◌≡◌, ◌⊎◌, inl, inr, ℕ, zero, suc, ◌+◌, ◌-◌, ◌<◌, ◌≤◌, Bool, true, false, List, [], ◌∷◌, Option, Some, None, Result, Ok, Err, ◌*◌, ◌++◌, length, length-append, take, drop, refl, ap, sym, subst, ◌∙◌, arith, if◌then◌else◌}
use Rattle.std.proofs.lemmas.Bool.{ltb-true, ltb-false}
use Rattle.std.specs.Prelude.{IfSome, IfNone, IfErr, OnOk, nat_lt, slice_get}
use Rattle.dc_address.specs.declared.identity.Identity.{Identity}
use Rattle.dc_core.specs.Event.{starts, asks, hears, started, asked, heard}
use Rattle.dc_core.specs.declared.fault.HearFault.{HearFault}
use Rattle.dc_core.specs.declared.fault.StartFault.{StartFault}
use Rattle.dc_core.specs.declared.line_heard.LineHeard.{LineHeard}
use Rattle.dc_core.specs.declared.line_heard.LineHeard.TheVariants.{Again, Ready, Accepted, Failed as HasFailed}
use Rattle.mbdc_bus.specs.Halves.{most_waits}
use Rattle.mbdc_poll.specs.Bus.{Bus}
use Rattle.dc_readout.specs.declared.why.Why.{Why}
use Rattle.dc_readout.specs.declared.why.Why.TheVariants.{NoAnswer}
use Rattle.mbdc_poll.specs.Happening.{Happening, does}
use Rattle.mbdc_poll.specs.Queue.{Part, part, most_asks, Goes, stays, passes_on, starts_it, is_refused, asks_it, has_no_request, is_given_up, goes_on, is_accepted, is_put_off, fails_at_last, is_faulty}
use Rattle.mbdc_poll.specs.Talking.{Talk, Talks, rests, begins, has_none, sends_it, waits_it, takes_it, hears_it}
use Rattle.mbdc_poll.specs.Missed.{and_heard, nothing_brought}
use Rattle.mbdc_poll.specs.Round.{LineGoes}
use Rattle.mbdc_poll.specs.Station.{IsPass, IsSoundIn, IsSound, is_answered, taken_of, IsAfter, Listens, Next, part_of, talk_of, rounds_in, rounds_of, rounds_a_start, rounds_by_phase, ended, next_pass, put_off, after_answer, after_failure}
use Rattle.mbdc_poll.specs.declared.end.End.{End}
use Rattle.mbdc_poll.specs.declared.end.End.TheVariants.{Read, Failed, Refused}
use Rattle.mbdc_poll.specs.declared.end.Refusal.TheVariants.{Start, Hear}
use Rattle.mbdc_poll.specs.declared.phase.Phase.{Phase}
use Rattle.mbdc_poll.specs.declared.phase.Phase.TheVariants.{Free, Busy, Pending, Over}
use Rattle.mbdc_poll.specs.declared.phase.Request.{Request}
use Rattle.mbdc_poll.specs.declared.phase.Request.TheVariants.{Quiet, Sent, Answered}
use Rattle.mbdc_poll.specs.declared.station.Station.{Station}
use Rattle.mbdc_poll.proofs.Idling.{fewer_silent}
use Rattle.mbdc_poll.proofs.Missing.{brings_same, brings_turn}
use Rattle.mbdc_poll.proofs.Counting.{pass_less, pass_put_off, start_count, refuse_count, ask_count, end_count, free_count, pass_count}
use Rattle.mbdc_poll.proofs.Queues.{line_by, line_stays, part_is, part_first, talk_is, of_after, from_phase}

some_of : (xs : List Identity) (m : Identity) → xs ≡ m ∷ drop 1 xs → 0 < length xs
some_of xs m e = let counted : length xs ≡ suc (length (drop 1 xs)) = ap length e in omega (arith, counted)

less_one : (n : ℕ) → suc n - 1 ≡ n
less_one n = omega arith

lt_of : (a b : ℕ) → nat_lt a b ≡ true → a < b
lt_of a b e = ltb-true a b e

le_of : (a b : ℕ) → nat_lt a b ≡ false → b ≤ a
le_of a b e = ltb-false a b e

pub first_of : (xs : List Identity) (x : Identity) → slice_get xs 0 ≡ Some x → xs ≡ x ∷ drop 1 xs
first_of [] x e = absurd cc
first_of (y ∷ ys) x e = let same : y ≡ x = cc in ap (λ (m : Identity). m ∷ ys) same

pub none_first : (xs : List Identity) → ((m : Identity) → slice_get xs 0 ≡ Some m → ⊥) → xs ≡ []
none_first [] none = refl
none_first (x ∷ xs) none = absurd (none x refl)

-- what is received of one with an answer
pub taken_is : (request : Request) → is_answered request ≡ true → request ≡ Answered (taken_of request)
taken_is Quiet is = absurd cc
taken_is Sent is = absurd cc
taken_is (Answered bytes) is = refl

take_front : (n : ℕ) (xs ys : List Identity) → n ≤ length xs → take n (xs ++ ys) ≡ take n xs
take_front zero xs ys few = refl
take_front (suc n) [] ys few = absurd (omega (arith, few))
take_front (suc n) (x ∷ xs) ys few = ap (λ (zs : List Identity). x ∷ zs) (take_front n xs ys (omega (arith, few)))

drop_front : (n : ℕ) (xs ys : List Identity) → n ≤ length xs → drop n (xs ++ ys) ≡ drop n xs ++ ys
drop_front zero xs ys few = refl
drop_front (suc n) [] ys few = absurd (omega (arith, few))
drop_front (suc n) (x ∷ xs) ys few = drop_front n xs ys (omega (arith, few))

take_whole : (xs : List Identity) → take (length xs) xs ≡ xs
take_whole [] = refl
take_whole (x ∷ xs) = ap (λ (zs : List Identity). x ∷ zs) (take_whole xs)

drop_whole : (xs : List Identity) → drop (length xs) xs ≡ []
drop_whole [] = refl
drop_whole (x ∷ xs) = drop_whole xs

-- it is as many as before
put_off_count : (xs : List Identity) → 0 < length xs → length (drop 1 xs ++ take 1 xs) ≡ length xs
put_off_count [] some = absurd (omega (arith, some))
put_off_count (x ∷ xs) some = let count = length-append xs (x ∷ []) in omega (arith, count)

-- the next pass has the same meters, and goes on likewise
pub passed_left : (left : List Identity) (due pass : ℕ) (phase : Phase) → (next_pass left due pass phase).left ≡ left
passed_left left zero pass phase = refl
passed_left left (suc n) pass phase = refl

pub passed_phase : (left : List Identity) (due pass : ℕ) (phase : Phase) → (next_pass left due pass phase).phase ≡ phase
passed_phase left zero pass phase = refl
passed_phase left (suc n) pass phase = refl

module _ {B : Type 0} (g : Bus B) where
  -- what is sound of one that is free, and of one that is busy
  free_sound : (tries : ℕ) (s : Station B) → s.phase ≡ Free → IsSound g tries s → IsPass tries (length s.left.now) s.due s.pass × (s.request ≡ Quiet)
  free_sound tries s is sound = subst (λ (p : Phase). IsSoundIn tries (length s.left.now) s.due s.pass p s.request (g.waits_left s.bus)) is sound

  busy_sound : (tries room : ℕ) (s : Station B) → s.phase ≡ Busy room → IsSound g tries s → IsSoundIn tries (length s.left.now) s.due s.pass (Busy room) s.request (g.waits_left s.bus)
  busy_sound tries room s is sound = subst (λ (p : Phase). IsSoundIn tries (length s.left.now) s.due s.pass p s.request (g.waits_left s.bus)) is sound

  pub free_quiet : (tries : ℕ) (s : Station B) → s.phase ≡ Free → IsSound g tries s → s.request ≡ Quiet
  free_quiet tries s is sound = (free_sound tries s is sound).1

  pub free_pass : (tries : ℕ) (s : Station B) → s.phase ≡ Free → IsSound g tries s → IsPass tries (length s.left.now) s.due s.pass
  free_pass tries s is sound = (free_sound tries s is sound).0

  pub busy_due : (tries room : ℕ) (s : Station B) → s.phase ≡ Busy room → IsSound g tries s → (0 < s.due) × (s.due ≤ length s.left.now)
  busy_due tries room s is sound = let was = busy_sound tries room s is sound in (was.1, was.0.2)

  -- how many rounds one of known parts takes
  rounds_at : (out pending over tries : ℕ) (s : Station B) (phase : Phase) (request : Request) (n : ℕ) → s.phase ≡ phase → s.request ≡ request
      → n ≤ rounds_in out pending over tries (length s.left.now) s.due s.pass phase request (g.waits_left s.bus) - 1
      → n ≤ rounds_of g out pending over tries s - 1
  rounds_at out pending over tries s phase request n p r few =
      from_phase (λ ph rq. n ≤ rounds_in out pending over tries (length s.left.now) s.due s.pass ph rq (g.waits_left s.bus) - 1) s phase request p r few

  rounds_at' : (out pending over tries : ℕ) (s : Station B) (phase : Phase) (n : ℕ) → s.phase ≡ phase
      → n ≤ rounds_in out pending over tries (length s.left.now) s.due s.pass phase s.request (g.waits_left s.bus)
      → n ≤ rounds_of g out pending over tries s
  rounds_at' out pending over tries s phase n p few =
      from_phase (λ ph rq. n ≤ rounds_in out pending over tries (length s.left.now) s.due s.pass ph rq (g.waits_left s.bus)) s phase s.request p refl few

  -- ---- the next pass

  pub line_passed : (tries line : ℕ) (old new : Station B) → old.phase ≡ Free → 0 < length old.left.now → IsSound g tries old
      → IsAfter (next_pass old.left.now old.due old.pass old.phase) old.bus old.request old.said new → new.brought ≡ old.brought → LineGoes g tries line old new []
  line_passed tries line old new free some sound after kept = by_due old.due refl
    where
      by_left : (xs : List Identity) → 0 < length xs → old.pass < tries → Goes tries line (part [] xs old.pass Free) [] (part xs [] (old.pass + 1) Free)
      by_left [] none less = absurd (omega (arith, none))
      by_left (x ∷ xs) is less = passes_on less stays

      by_due : (d : ℕ) → old.due ≡ d → LineGoes g tries line old new []
      by_due zero none =
          let pass = free_pass tries old free sound in
          let is = subst (λ (d : ℕ). IsAfter (next_pass old.left.now d old.pass old.phase) old.bus old.request old.said new) none after in
          line_by tries line old new (part [] old.left.now old.pass Free) (part old.left.now [] (old.pass + 1) Free) (talk_of old) (talk_of old) []
          (part_is old old.left.now 0 old.pass Free refl none refl free) (part_is new old.left.now (length old.left.now) (old.pass + 1) Free is.left is.due is.pass (is.phase ∙ free)
          ∙ ap (λ (xs : List Identity). part xs (drop (length old.left.now) old.left.now) (old.pass + 1) Free) (take_whole old.left.now) ∙ ap (λ (xs : List Identity). part old.left.now xs (old.pass + 1) Free) (drop_whole old.left.now))
          refl (talk_is new old.bus old.request old.said is.bus is.request is.said) (by_left old.left.now some (pass.3 (omega (arith, none, some)))) rests (brings_same line old.brought new.brought kept)
      by_due (suc n) more =
          let is = subst (λ (d : ℕ). IsAfter (next_pass old.left.now d old.pass old.phase) old.bus old.request old.said new) more after in
          line_by tries line old new (part_of old) (part_of old) (talk_of old) (talk_of old) []
          refl (part_is new old.left.now old.due old.pass old.phase is.left (is.due ∙ sym more) is.pass is.phase)
          refl (talk_is new old.bus old.request old.said is.bus is.request is.said) stays rests (brings_same line old.brought new.brought kept)

  pub sound_passed : (tries : ℕ) (old new : Station B) → old.phase ≡ Free → 0 < length old.left.now → IsSound g tries old
      → IsAfter (next_pass old.left.now old.due old.pass old.phase) old.bus old.request old.said new → IsSound g tries new × (0 < new.due)
  sound_passed tries old new free some sound after = by_due old.due refl
    where
      was : IsPass tries (length old.left.now) old.due old.pass
      was = free_pass tries old free sound

      quiet : old.request ≡ Quiet
      quiet = free_quiet tries old free sound

      by_due : (d : ℕ) → old.due ≡ d → IsSound g tries new × (0 < new.due)
      by_due zero none =
          let is = subst (λ (d : ℕ). IsAfter (next_pass old.left.now d old.pass old.phase) old.bus old.request old.said new) none after in
          let less : old.pass < tries = was.3 (omega (arith, none, some)) in (
            of_after (λ left due pass phase request bus. IsSoundIn tries (length left) due pass phase request (g.waits_left bus)) _ _ _ _ new is
                (subst (λ (p : Phase). IsSoundIn tries (length old.left.now) (length old.left.now) (old.pass + 1) p old.request (g.waits_left old.bus)) (sym free)
                ((omega arith, omega (arith, less), omega arith, λ fewer. absurd (omega (arith, fewer))), quiet)),
            let due = is.due in omega (arith, due, some),
          )
      by_due (suc n) more =
          let is = subst (λ (d : ℕ). IsAfter (next_pass old.left.now d old.pass old.phase) old.bus old.request old.said new) more after in
          let was' : IsPass tries (length old.left.now) (suc n) old.pass = subst (λ (d : ℕ). IsPass tries (length old.left.now) d old.pass) more was in (
            of_after (λ left due pass phase request bus. IsSoundIn tries (length left) due pass phase request (g.waits_left bus)) _ _ _ _ new is
                (subst (λ (p : Phase). IsSoundIn tries (length old.left.now) (suc n) old.pass p old.request (g.waits_left old.bus)) (sym free) (was', quiet)),
            let due = is.due in omega (arith, due),
          )

  pub rounds_passed : (out pending over tries : ℕ) (old new : Station B) → old.phase ≡ Free → 0 < length old.left.now → IsSound g tries old
      → IsAfter (next_pass old.left.now old.due old.pass old.phase) old.bus old.request old.said new → rounds_of g out pending over tries new ≡ rounds_of g out pending over tries old
  rounds_passed out pending over tries old new free some sound after = by_due old.due refl
    where
      rounds : ℕ → ℕ → Phase → ℕ
      rounds due pass phase = rounds_in out pending over tries (length old.left.now) due pass phase old.request (g.waits_left old.bus)

      here : (n : Next) → IsAfter n old.bus old.request old.said new → n.left ≡ old.left.now → n.phase ≡ old.phase → rounds_of g out pending over tries new ≡ rounds n.due n.pass Free
      here n is left phase =
          of_after (λ left due pass phase request bus. rounds_in out pending over tries (length left) due pass phase request (g.waits_left bus) ≡ rounds n.due n.pass Free) n _ _ _ new is
          (ap (λ (xs : List Identity). rounds_in out pending over tries (length xs) n.due n.pass n.phase old.request (g.waits_left old.bus)) left ∙ ap (λ (p : Phase). rounds n.due n.pass p) (phase ∙ free))

      there : rounds_of g out pending over tries old ≡ rounds old.due old.pass Free
      there = ap (λ (p : Phase). rounds old.due old.pass p) free

      by_due : (d : ℕ) → old.due ≡ d → rounds_of g out pending over tries new ≡ rounds_of g out pending over tries old
      by_due zero none =
          let is = subst (λ (d : ℕ). IsAfter (next_pass old.left.now d old.pass old.phase) old.bus old.request old.said new) none after in
          let less : old.pass < tries = (free_pass tries old free sound).3 (omega (arith, none, some)) in
          let anew : rounds (length old.left.now) (old.pass + 1) Free ≡ rounds 0 old.pass Free =
          ap (λ (n : ℕ). n * rounds_a_start + rounds_by_phase out pending over Free old.request (g.waits_left old.bus)) (pass_count tries (length old.left.now) old.pass less) in
          here (next_pass old.left.now 0 old.pass old.phase) is refl refl ∙ anew ∙ ap (λ (n : ℕ). rounds n old.pass Free) (sym none) ∙ sym there
      by_due (suc n) more =
          let is = subst (λ (d : ℕ). IsAfter (next_pass old.left.now d old.pass old.phase) old.bus old.request old.said new) more after in
          here (next_pass old.left.now (suc n) old.pass old.phase) is refl refl ∙ ap (λ (d : ℕ). rounds d old.pass Free) (sym more) ∙ sym there

  -- ---- a start

  -- after the present meter left its pass
  part_left : (s new : Station B) (phase : Phase) (bus : B) (request : Request) (said : Bool) → IsAfter (record { left = drop 1 s.left.now; due = s.due - 1; pass = s.pass; phase = phase }) bus request said new
      → part_of new ≡ part (take (s.due - 1) (drop 1 s.left.now)) (drop (s.due - 1) (drop 1 s.left.now)) s.pass phase
  part_left s new phase bus request said is = part_is new (drop 1 s.left.now) (s.due - 1) s.pass phase is.left is.due is.pass is.phase

  -- and where it goes on
  part_kept : (s new : Station B) (meter : Identity) (phase : Phase) (bus : B) (request : Request) (said : Bool) → s.left.now ≡ meter ∷ drop 1 s.left.now → 0 < s.due
      → IsAfter (record { left = s.left.now; due = s.due; pass = s.pass; phase = phase }) bus request said new
      → part_of new ≡ part (meter ∷ take (s.due - 1) (drop 1 s.left.now)) (drop (s.due - 1) (drop 1 s.left.now)) s.pass phase
  part_kept s new meter phase bus request said first some is =
      part_is new (meter ∷ drop 1 s.left.now) (suc (s.due - 1)) s.pass phase (is.left ∙ first) (let due = is.due in omega (arith, due, some)) is.pass is.phase

  pub line_started : (tries line : ℕ) (meter : Identity) (answer : Result (Unit {0}) StartFault) (old new : Station B) → old.phase ≡ Free → old.request ≡ Quiet → old.left.now ≡ meter ∷ drop 1 old.left.now → 0 < old.due → old.pass ≤ tries
      → OnOk answer (IsAfter (record { left = old.left.now; due = old.due; pass = old.pass; phase = Busy most_asks }) old.bus old.request old.said new)
      → IfErr answer (λ fault. IsAfter (ended old.left.now old.due old.pass (Refused meter (Start fault))) old.bus old.request old.said new)
      → new.brought ≡ nothing_brought → LineGoes g tries line old new (does (starts line meter, started answer) ∷ [])
  line_started tries line meter (Ok tt) old new free silent first some few ok err anew =
      line_by tries line old new _ _ (record { bus = old.bus; request = Quiet; said = old.said }) (record { bus = old.bus; request = Quiet; said = old.said }) _
      (part_first old meter Free first some free) (part_kept old new meter (Busy most_asks) _ _ _ first some ok) (talk_is old _ _ _ refl silent refl) (talk_is new _ _ _ ok.bus (ok.request ∙ silent) ok.said)
      (starts_it few stays) (begins rests) (brings_turn line old.brought new.brought (starts line meter, started (Ok tt)) anew)
  line_started tries line meter (Err fault) old new free silent first some few ok err anew =
      line_by tries line old new _ _ (record { bus = old.bus; request = Quiet; said = old.said }) (record { bus = old.bus; request = Quiet; said = old.said }) _
      (part_first old meter Free first some free) (part_left old new _ _ _ _ err) (talk_is old _ _ _ refl silent refl) (talk_is new _ _ _ err.bus (err.request ∙ silent) err.said)
      (is_refused few stays) (begins rests) (brings_turn line old.brought new.brought (starts line meter, started (Err fault)) anew)

  pub sound_started : (tries : ℕ) (meter : Identity) (answer : Result (Unit {0}) StartFault) (old new : Station B) → old.phase ≡ Free → 0 < old.due → IsSound g tries old
      → OnOk answer (IsAfter (record { left = old.left.now; due = old.due; pass = old.pass; phase = Busy most_asks }) old.bus old.request old.said new)
      → IfErr answer (λ fault. IsAfter (ended old.left.now old.due old.pass (Refused meter (Start fault))) old.bus old.request old.said new)
      → IsSound g tries new
  sound_started tries meter (Ok tt) old new free some sound ok err =
      let silent = free_quiet tries old free sound in
      of_after (λ left due pass phase request bus. IsSoundIn tries (length left) due pass phase request (g.waits_left bus)) _ _ _ _ new ok
      (free_pass tries old free sound, some, omega arith, λ out. absurd (let both = sym silent ∙ out in cc))
  sound_started tries meter (Err fault) old new free some sound ok err =
      of_after (λ left due pass phase request bus. IsSoundIn tries (length left) due pass phase request (g.waits_left bus)) _ _ _ _ new err
      (pass_less tries old.left.now old.due old.pass some (free_pass tries old free sound), free_quiet tries old free sound)

  pub fewer_started : (tries : ℕ) (meter : Identity) (answer : Result (Unit {0}) StartFault) (old new : Station B) → old.phase ≡ Free → old.request ≡ Quiet → old.left.now ≡ meter ∷ drop 1 old.left.now → 0 < old.due
      → OnOk answer (IsAfter (record { left = old.left.now; due = old.due; pass = old.pass; phase = Busy most_asks }) old.bus old.request old.said new)
      → IfErr answer (λ fault. IsAfter (ended old.left.now old.due old.pass (Refused meter (Start fault))) old.bus old.request old.said new)
      → rounds_of g 1 1 1 tries new ≤ rounds_of g 1 1 1 tries old - 1
  fewer_started tries meter (Ok tt) old new free silent first some ok err =
      rounds_at 1 1 1 tries old Free Quiet (rounds_of g 1 1 1 tries new) free silent
      (of_after (λ left due pass phase request bus. rounds_in 1 1 1 tries (length left) due pass phase request (g.waits_left bus)
      ≤ rounds_in 1 1 1 tries (length old.left.now) old.due old.pass Free Quiet (g.waits_left old.bus) - 1) _ _ _ _ new ok
      (subst (λ (rq : Request). rounds_in 1 1 1 tries (length old.left.now) old.due old.pass (Busy most_asks) rq (g.waits_left old.bus)
      ≤ rounds_in 1 1 1 tries (length old.left.now) old.due old.pass Free Quiet (g.waits_left old.bus) - 1) (sym silent)
      (start_count old.left.now tries (some_of old.left.now meter first) old.due old.pass (g.waits_left old.bus) (g.waits_left old.bus) some)))
  fewer_started tries meter (Err fault) old new free silent first some ok err =
      rounds_at 1 1 1 tries old Free Quiet (rounds_of g 1 1 1 tries new) free silent
      (of_after (λ left due pass phase request bus. rounds_in 1 1 1 tries (length left) due pass phase request (g.waits_left bus)
      ≤ rounds_in 1 1 1 tries (length old.left.now) old.due old.pass Free Quiet (g.waits_left old.bus) - 1) _ _ _ _ new err
      (refuse_count old.left.now tries (some_of old.left.now meter first) old.due old.pass (g.waits_left old.bus) (g.waits_left old.bus) (Refused meter (Start fault)) some))

  -- ---- it room

  pub line_asked : (tries line room : ℕ) (meter : Identity) (request : Option (List ℕ)) (old new : Station B) → old.phase ≡ Busy room → 0 < room → old.request ≡ Quiet → old.left.now ≡ meter ∷ drop 1 old.left.now → IsSound g tries old
      → IfSome request (λ bytes. g.sends old.bus bytes new.bus × (g.waits_left new.bus ≤ most_waits) × IsAfter (record { left = old.left.now; due = old.due; pass = old.pass; phase = Busy (room - 1) }) new.bus Sent old.said new)
      → IfNone request (IsAfter (ended old.left.now old.due old.pass (Read meter)) old.bus old.request old.said new)
      → new.brought ≡ old.brought → LineGoes g tries line old new (does (asks line, asked request) ∷ [])
  line_asked tries line zero meter request old new busy more silent first sound sent over kept = absurd (omega (arith, more))
  line_asked tries line (suc n) meter (Some bytes) old new busy more silent first sound sent over kept =
      let due = (busy_due tries (suc n) old busy sound).0 in
      line_by tries line old new _ (part (meter ∷ take (old.due - 1) (drop 1 old.left.now)) (drop (old.due - 1) (drop 1 old.left.now)) old.pass (Busy n)) (record { bus = old.bus; request = Quiet; said = old.said }) (record { bus = new.bus; request = Sent; said = old.said }) _
      (part_first old meter (Busy (suc n)) first due busy) (part_kept old new meter (Busy (suc n - 1)) _ _ _ first due sent.2 ∙ ap (λ (k : ℕ). part (meter ∷ take (old.due - 1) (drop 1 old.left.now)) (drop (old.due - 1) (drop 1 old.left.now)) old.pass (Busy k)) (less_one n)) (talk_is old _ _ _ refl silent refl) (talk_is new _ _ _ sent.2.bus sent.2.request sent.2.said)
      (asks_it stays) (sends_it sent.0 rests) (brings_turn line old.brought new.brought (asks line, asked (Some bytes)) kept)
  line_asked tries line (suc n) meter None old new busy more silent first sound sent over kept =
      line_by tries line old new _ _ (record { bus = old.bus; request = Quiet; said = old.said }) (record { bus = old.bus; request = Quiet; said = old.said }) _
      (part_first old meter (Busy (suc n)) first (busy_due tries (suc n) old busy sound).0 busy) (part_left old new _ _ _ _ over) (talk_is old _ _ _ refl silent refl) (talk_is new _ _ _ over.bus (over.request ∙ silent) over.said)
      (has_no_request stays) (has_none rests) (brings_turn line old.brought new.brought (asks line, asked None) kept)

  -- or was asked as often as no readout room
  pub line_given_up : (tries line : ℕ) (meter : Identity) (old new : Station B) → old.phase ≡ Busy 0 → old.request ≡ Quiet → old.left.now ≡ meter ∷ drop 1 old.left.now → IsSound g tries old
      → IsAfter (ended old.left.now old.due old.pass (Failed meter NoAnswer)) old.bus old.request old.said new → new.brought ≡ old.brought → LineGoes g tries line old new []
  line_given_up tries line meter old new busy silent first sound over kept =
      line_by tries line old new _ _ (record { bus = old.bus; request = Quiet; said = old.said }) (record { bus = old.bus; request = Quiet; said = old.said }) _
      (part_first old meter (Busy zero) first (busy_due tries 0 old busy sound).0 busy) (part_left old new _ _ _ _ over) (talk_is old _ _ _ refl silent refl) (talk_is new _ _ _ over.bus (over.request ∙ silent) over.said)
      (is_given_up stays) rests (brings_same line old.brought new.brought kept)

  -- the present meter is done with
  pub sound_ended : (tries room : ℕ) (end : End) (request : Request) (old new : Station B) → old.phase ≡ Busy room → request ≡ Quiet → IsSound g tries old → IsAfter (ended old.left.now old.due old.pass end) old.bus request old.said new → IsSound g tries new
  sound_ended tries room end request old new busy silent sound over =
      let was = busy_sound tries room old busy sound in
      of_after (λ left due pass phase request bus. IsSoundIn tries (length left) due pass phase request (g.waits_left bus)) _ _ _ _ new over (pass_less tries old.left.now old.due old.pass was.1 was.0, silent)

  pub fewer_ended : (out pending over tries room : ℕ) (end : End) (request : Request) (old new : Station B) → over ≤ 1 → old.phase ≡ Busy room → IsSound g tries old → request ≡ Quiet → IsAfter (ended old.left.now old.due old.pass end) old.bus request old.said new
      → rounds_of g out pending over tries new ≤ rounds_of g 0 0 0 tries old - 1
  fewer_ended out pending over tries room end request old new one busy sound silent gone =
      let was = busy_sound tries room old busy sound in
      let some : 0 < length old.left.now = let more = was.1 in let few = was.0.2 in omega (arith, more, few) in
      rounds_at 0 0 0 tries old (Busy room) old.request (rounds_of g out pending over tries new) busy refl
      (of_after (λ left due pass phase rq bus. rounds_in out pending over tries (length left) due pass phase rq (g.waits_left bus)
      ≤ rounds_in 0 0 0 tries (length old.left.now) old.due old.pass (Busy room) old.request (g.waits_left old.bus) - 1) _ _ _ _ new gone
      (subst (λ (rq : Request). rounds_in out pending over tries (length (drop 1 old.left.now)) (old.due - 1) old.pass (Over end) rq (g.waits_left old.bus)
      ≤ rounds_in 0 0 0 tries (length old.left.now) old.due old.pass (Busy room) old.request (g.waits_left old.bus) - 1) (sym silent)
      (end_count old.left.now tries some out pending over old.due old.pass room (g.waits_left old.bus) (g.waits_left old.bus) old.request end one)))

  -- with nothing out
  pub fewer_given : (tries room : ℕ) (end : End) (old new : Station B) → old.phase ≡ Busy room → old.request ≡ Quiet → IsSound g tries old → IsAfter (ended old.left.now old.due old.pass end) old.bus old.request old.said new
      → rounds_of g 0 0 0 tries new ≤ rounds_of g 1 1 1 tries old - 1
  fewer_given tries room end old new busy silent sound gone =
      let was = busy_sound tries room old busy sound in
      rounds_at 1 1 1 tries old (Busy room) Quiet (rounds_of g 0 0 0 tries new) busy silent
      (of_after (λ left due pass phase rq bus. rounds_in 0 0 0 tries (length left) due pass phase rq (g.waits_left bus)
      ≤ rounds_in 1 1 1 tries (length old.left.now) old.due old.pass (Busy room) Quiet (g.waits_left old.bus) - 1) _ _ _ _ new gone
      (let less = end_count old.left.now tries (busy_some was) 0 1 0 old.due old.pass room (g.waits_left old.bus) (g.waits_left old.bus) Quiet end (omega arith) in
      of_rq old.request silent less))
    where
      of_rq : (rq : Request) → rq ≡ Quiet
          → rounds_in 0 1 0 tries (length (drop 1 old.left.now)) (old.due - 1) old.pass (Over end) Quiet (g.waits_left old.bus) ≤ rounds_in 0 0 0 tries (length old.left.now) old.due old.pass (Busy room) Quiet (g.waits_left old.bus) - 1
          → rounds_in 0 0 0 tries (length (drop 1 old.left.now)) (old.due - 1) old.pass (Over end) rq (g.waits_left old.bus) ≤ rounds_in 1 1 1 tries (length old.left.now) old.due old.pass (Busy room) Quiet (g.waits_left old.bus) - 1
      of_rq rq e less = omega (arith, less)

      busy_some : IsSoundIn tries (length old.left.now) old.due old.pass (Busy room) old.request (g.waits_left old.bus) → 0 < length old.left.now
      busy_some was = let more = was.1 in let few = was.0.2 in omega (arith, more, few)

  pub sound_asked : (tries room : ℕ) (meter : Identity) (request : Option (List ℕ)) (old new : Station B) → old.phase ≡ Busy room → old.request ≡ Quiet → IsSound g tries old
      → IfSome request (λ bytes. g.sends old.bus bytes new.bus × (g.waits_left new.bus ≤ most_waits) × IsAfter (record { left = old.left.now; due = old.due; pass = old.pass; phase = Busy (room - 1) }) new.bus Sent old.said new)
      → IfNone request (IsAfter (ended old.left.now old.due old.pass (Read meter)) old.bus old.request old.said new)
      → IsSound g tries new
  sound_asked tries room meter (Some bytes) old new busy silent sound sent over =
      let was = busy_sound tries room old busy sound in
      let few = was.2 in
      of_after (λ left due pass phase request bus. IsSoundIn tries (length left) due pass phase request (g.waits_left bus)) _ _ _ _ new sent.2 (was.0, was.1, omega (arith, few), λ out. sent.1)
  sound_asked tries room meter None old new busy silent sound sent over = sound_ended tries room (Read meter) old.request old new busy silent sound over

  pub fewer_asked : (tries room : ℕ) (meter : Identity) (request : Option (List ℕ)) (old new : Station B) → old.phase ≡ Busy room → 0 < room → old.request ≡ Quiet → IsSound g tries old
      → IfSome request (λ bytes. g.sends old.bus bytes new.bus × (g.waits_left new.bus ≤ most_waits) × IsAfter (record { left = old.left.now; due = old.due; pass = old.pass; phase = Busy (room - 1) }) new.bus Sent old.said new)
      → IfNone request (IsAfter (ended old.left.now old.due old.pass (Read meter)) old.bus old.request old.said new)
      → rounds_of g 0 0 0 tries new ≤ rounds_of g 1 1 1 tries old - 1
  fewer_asked tries room meter (Some bytes) old new busy more silent sound sent over =
      let was = busy_sound tries room old busy sound in
      rounds_at 1 1 1 tries old (Busy room) Quiet (rounds_of g 0 0 0 tries new) busy silent
      (of_after (λ left due pass phase rq bus. rounds_in 0 0 0 tries (length left) due pass phase rq (g.waits_left bus)
      ≤ rounds_in 1 1 1 tries (length old.left.now) old.due old.pass (Busy room) Quiet (g.waits_left old.bus) - 1) _ _ _ _ new sent.2
      (ask_count old.left.now tries (let more = was.1 in let few = was.0.2 in omega (arith, more, few)) old.due old.pass room (g.waits_left new.bus) (g.waits_left old.bus) more sent.1))
  fewer_asked tries room meter None old new busy more silent sound sent over = fewer_given tries room (Read meter) old new busy silent sound over

  -- ---- it listens

  pub line_listens : (tries line : ℕ) (old new : Station B) → old.request ≡ Sent → Listens g old new → LineGoes g tries line old new []
  line_listens tries line old new out (inl took) =
      let at : B = new.bus in
      let bytes : List ℕ = took.0 in
      subst (λ (s : Station B). LineGoes g tries line old s []) (sym took.2)
      (record { queue = stays; talk = subst (λ (rq : Request). Talks g line (record { bus = old.bus; request = rq; said = old.said }) [] (record { bus = at; request = Answered bytes; said = old.said })) (sym out) (takes_it took.1 rests); brought = brings_same line old.brought old.brought refl })
  line_listens tries line old new out (inr waited) =
      let at : B = new.bus in
      subst (λ (s : Station B). LineGoes g tries line old s []) (sym waited.2)
      (record { queue = stays; talk = subst (λ (rq : Request). Talks g line (record { bus = old.bus; request = rq; said = old.said }) [] (record { bus = at; request = rq; said = old.said })) (sym out) (waits_it waited.0 rests); brought = brings_same line old.brought old.brought refl })

  heard_sound : (tries count due pass waits waits' : ℕ) (phase : Phase) (request : Request) → (request ≡ Sent → waits' ≤ most_waits) → IsSoundIn tries count due pass phase Sent waits → IsSoundIn tries count due pass phase request waits'
  heard_sound tries count due pass waits waits' Free request few sound = absurd (let not = sound.1 in cc)
  heard_sound tries count due pass waits waits' (Busy n) request few sound = (sound.0, sound.1, sound.2, few)
  heard_sound tries count due pass waits waits' (Pending n) request few sound = absurd (let not = sound.3 in cc)
  heard_sound tries count due pass waits waits' (Over end) request few sound = absurd (let not = sound.1 in cc)

  sent_few : (tries count due pass waits : ℕ) (phase : Phase) → IsSoundIn tries count due pass phase Sent waits → waits ≤ most_waits
  sent_few tries count due pass waits Free sound = absurd (let not = sound.1 in cc)
  sent_few tries count due pass waits (Busy n) sound = sound.3 refl
  sent_few tries count due pass waits (Pending n) sound = absurd (let not = sound.3 in cc)
  sent_few tries count due pass waits (Over end) sound = absurd (let not = sound.1 in cc)

  pub sound_listens : (tries : ℕ) (old new : Station B) → old.request ≡ Sent → Listens g old new → IsSound g tries old → IsSound g tries new
  sound_listens tries old new out (inl took) sound =
      let at : B = new.bus in
      let was = subst (λ (rq : Request). IsSoundIn tries (length old.left.now) old.due old.pass old.phase rq (g.waits_left old.bus)) out sound in
      subst (λ (s : Station B). IsSound g tries s) (sym took.2)
      (heard_sound tries (length old.left.now) old.due old.pass (g.waits_left old.bus) (g.waits_left at) old.phase (Answered took.0) (λ e. absurd cc) was)
  sound_listens tries old new out (inr waited) sound =
      let at : B = new.bus in
      let was = subst (λ (rq : Request). IsSoundIn tries (length old.left.now) old.due old.pass old.phase rq (g.waits_left old.bus)) out sound in
      let few = sent_few tries (length old.left.now) old.due old.pass (g.waits_left old.bus) old.phase was in
      let less = waited.1 in
      subst (λ (s : Station B). IsSound g tries s) (sym waited.2)
      (heard_sound tries (length old.left.now) old.due old.pass (g.waits_left old.bus) (g.waits_left at) old.phase old.request (λ e. omega (arith, few, less)) was)

  -- what is out counts, whatever the phase
  took_count : (tries count due pass waits waits' : ℕ) (phase : Phase) (bytes : List ℕ) → IsSoundIn tries count due pass phase Sent waits
      → rounds_in 0 0 0 tries count due pass phase (Answered bytes) waits' ≤ rounds_in 0 0 0 tries count due pass phase Sent waits
  took_count tries count due pass waits waits' Free bytes sound = absurd (let not = sound.1 in cc)
  took_count tries count due pass waits waits' (Busy n) bytes sound = omega arith
  took_count tries count due pass waits waits' (Pending n) bytes sound = absurd (let not = sound.3 in cc)
  took_count tries count due pass waits waits' (Over end) bytes sound = absurd (let not = sound.1 in cc)

  waited_count : (tries count due pass waits waits' : ℕ) (phase : Phase) → waits' < waits → IsSoundIn tries count due pass phase Sent waits
      → rounds_in 1 0 0 tries count due pass phase Sent waits' ≤ rounds_in 0 0 0 tries count due pass phase Sent waits
  waited_count tries count due pass waits waits' Free less sound = absurd (let not = sound.1 in cc)
  waited_count tries count due pass waits waits' (Busy n) less sound = omega (arith, less)
  waited_count tries count due pass waits waits' (Pending n) less sound = absurd (let not = sound.3 in cc)
  waited_count tries count due pass waits waits' (Over end) less sound = absurd (let not = sound.1 in cc)

  -- it listens, and if nothing was received, nothing more happens
  pub fewer_listens : (tries : ℕ) (old new : Station B) → old.request ≡ Sent → Listens g old new → IsSound g tries old → rounds_of g (if is_answered new.request then 0 else 1) 0 0 tries new ≤ rounds_of g 0 0 0 tries old
  fewer_listens tries old new is listens sound = by_listens listens
    where
      was : IsSoundIn tries (length old.left.now) old.due old.pass old.phase Sent (g.waits_left old.bus)
      was = subst (λ (rq : Request). IsSoundIn tries (length old.left.now) old.due old.pass old.phase rq (g.waits_left old.bus)) is sound

      sent_rounds : (m : ℕ) → m ≤ rounds_in 0 0 0 tries (length old.left.now) old.due old.pass old.phase Sent (g.waits_left old.bus) → m ≤ rounds_of g 0 0 0 tries old
      sent_rounds m few = subst (λ (rq : Request). m ≤ rounds_in 0 0 0 tries (length old.left.now) old.due old.pass old.phase rq (g.waits_left old.bus)) (sym is) few

      by_listens : Listens g old new → rounds_of g (if is_answered new.request then 0 else 1) 0 0 tries new ≤ rounds_of g 0 0 0 tries old
      by_listens (inl took) =
          let at : B = new.bus in
          subst (λ (s : Station B). rounds_of g (if is_answered s.request then 0 else 1) 0 0 tries s ≤ rounds_of g 0 0 0 tries old) (sym took.2)
          (sent_rounds _ (took_count tries (length old.left.now) old.due old.pass (g.waits_left old.bus) (g.waits_left at) old.phase took.0 was))
      by_listens (inr waited) =
          let at : B = new.bus in
          subst (λ (s : Station B). rounds_of g (if is_answered s.request then 0 else 1) 0 0 tries s ≤ rounds_of g 0 0 0 tries old) (sym waited.2)
          (sent_rounds _ (subst (λ (rq : Request). rounds_in (if is_answered rq then 0 else 1) 0 0 tries (length old.left.now) old.due old.pass old.phase rq (g.waits_left at) ≤ rounds_in 0 0 0 tries (length old.left.now) old.due old.pass old.phase Sent (g.waits_left old.bus)) (sym is)
          (waited_count tries (length old.left.now) old.due old.pass (g.waits_left old.bus) (g.waits_left at) old.phase waited.1 was)))

  -- with an answer or without, it takes no more rounds than before
  pub fewer_with : (tries : ℕ) (old new : Station B) (b : Bool) (request : Request) → old.request ≡ request → is_answered new.request ≡ b → (old.request ≡ Sent → Listens g old new) → ((old.request ≡ Sent) ⊎ (new ≡ old)) → IsSound g tries old
      → rounds_of g (if b then 0 else 1) 0 0 tries new ≤ rounds_of g 0 0 0 tries old
  fewer_with tries old new b Sent e is listens kept sound = subst (λ (x : Bool). rounds_of g (if x then 0 else 1) 0 0 tries new ≤ rounds_of g 0 0 0 tries old) is (fewer_listens tries old new e (listens e) sound)
  fewer_with tries old new b (Answered bytes) e is listens (inl out) sound = absurd (let both = sym e ∙ out in cc)
  fewer_with tries old new b (Answered bytes) e is listens (inr same) sound =
      let yes : b ≡ true = sym is ∙ ap (λ (s : Station B). is_answered s.request) same ∙ ap is_answered e in
      subst (λ (x : Bool). rounds_of g (if x then 0 else 1) 0 0 tries new ≤ rounds_of g 0 0 0 tries old) (sym yes)
      (subst (λ (s : Station B). rounds_of g 0 0 0 tries s ≤ rounds_of g 0 0 0 tries old) (sym same) (omega arith))
  fewer_with tries old new b Quiet e is listens (inl out) sound = absurd (let both = sym e ∙ out in cc)
  fewer_with tries old new b Quiet e is listens (inr same) sound =
      let no : b ≡ false = sym is ∙ ap (λ (s : Station B). is_answered s.request) same ∙ ap is_answered e in
      subst (λ (x : Bool). rounds_of g (if x then 0 else 1) 0 0 tries new ≤ rounds_of g 0 0 0 tries old) (sym no)
      (subst (λ (s : Station B). rounds_of g 1 0 0 tries s ≤ rounds_of g 0 0 0 tries old) (sym same) (fewer_silent g tries old e))

  pub line_heard : (tries line : ℕ) (old new : Station B) → (old.request ≡ Sent → Listens g old new) → ((old.request ≡ Sent) ⊎ (new ≡ old)) → LineGoes g tries line old new []
  line_heard tries line old new listens (inl out) = line_listens tries line old new out (listens out)
  line_heard tries line old new listens (inr same) = subst (λ (s : Station B). LineGoes g tries line old s []) (sym same) (line_stays tries line old)

  pub sound_heard : (tries : ℕ) (old new : Station B) → (old.request ≡ Sent → Listens g old new) → ((old.request ≡ Sent) ⊎ (new ≡ old)) → IsSound g tries old → IsSound g tries new
  sound_heard tries old new listens (inl out) sound = sound_listens tries old new out (listens out) sound
  sound_heard tries old new listens (inr same) sound = subst (λ (s : Station B). IsSound g tries s) (sym same) sound

  -- ---- it is judged

  -- after the present meter was put off
  part_put_off : (s new : Station B) (meter : Identity) (bus : B) (request : Request) (said : Bool) → s.left.now ≡ meter ∷ drop 1 s.left.now → 0 < s.due → s.due ≤ length s.left.now
      → IsAfter (put_off s.left.now s.due s.pass) bus request said new
      → part_of new ≡ part (take (s.due - 1) (drop 1 s.left.now)) (drop (s.due - 1) (drop 1 s.left.now) ++ meter ∷ []) s.pass Free
  part_put_off s new meter bus request said first some few is =
      let rest : List Identity = drop 1 s.left.now in
      let count : length s.left.now ≡ suc (length rest) = ap length first in
      let within : s.due - 1 ≤ length rest = omega (arith, few, count) in
      let left : new.left.now ≡ rest ++ meter ∷ [] = is.left ∙ ap (λ (xs : List Identity). rest ++ take 1 xs) first in
      part_is new (rest ++ meter ∷ []) (s.due - 1) s.pass Free left is.due is.pass is.phase
      ∙ ap (λ (xs : List Identity). part xs (drop (s.due - 1) (rest ++ meter ∷ [])) s.pass Free) (take_front (s.due - 1) rest (meter ∷ []) within)
      ∙ ap (λ (xs : List Identity). part (take (s.due - 1) rest) xs s.pass Free) (drop_front (s.due - 1) rest (meter ∷ []) within)

  pub line_judged : (tries line moment room : ℕ) (meter : Identity) (bytes : List ℕ) (answer : Result LineHeard HearFault) (old new : Station B) → old.phase ≡ Busy room → old.request ≡ Answered bytes → old.left.now ≡ meter ∷ drop 1 old.left.now → IsSound g tries old
      → IsAfter (after_answer (nat_lt old.pass tries) old.left.now old.due old.pass room meter answer) old.bus Quiet old.said new
      → new.brought ≡ and_heard bytes answer old.brought → LineGoes g tries line old new (does (hears line moment bytes, heard answer) ∷ [])
  line_judged tries line moment room meter bytes answer old new busy took first sound after counted =
      record { queue = by_answer answer after; talk = talks; brought = brings_turn line old.brought new.brought (hears line moment bytes, heard answer) counted }
    where
      was : IsSoundIn tries (length old.left.now) old.due old.pass (Busy room) old.request (g.waits_left old.bus)
      was = busy_sound tries room old busy sound

      talks : Talks g line (talk_of old) (does (hears line moment bytes, heard answer) ∷ []) (talk_of new)
      talks =
          subst (λ (x : Talk B). Talks g line x (does (hears line moment bytes, heard answer) ∷ []) (talk_of new)) (sym (talk_is old old.bus (Answered bytes) old.said refl took refl))
          (subst (λ (x : Talk B). Talks g line (record { bus = old.bus; request = Answered bytes; said = old.said }) (does (hears line moment bytes, heard answer) ∷ []) x) (sym (talk_is new old.bus Quiet old.said after.bus after.request after.said)) (hears_it rests))

      some : 0 < old.due
      some = was.1

      rest : List Identity
      rest = drop 1 old.left.now

      from_old : {last : Part} {happened : List Happening} → Goes tries line (part (meter ∷ take (old.due - 1) rest) (drop (old.due - 1) rest) old.pass (Busy room)) happened last → Goes tries line (part_of old) happened last
      from_old {last} {happened} goes = subst (λ (x : Part). Goes tries line x happened last) (sym (part_first old meter (Busy room) first some busy)) goes

      by_end : (end : End) (told : Result LineHeard HearFault) → Goes tries line (part (meter ∷ take (old.due - 1) rest) (drop (old.due - 1) rest) old.pass (Busy room)) (does (hears line moment bytes, heard told) ∷ []) (part (take (old.due - 1) rest) (drop (old.due - 1) rest) old.pass (Over end))
          → IsAfter (ended old.left.now old.due old.pass end) old.bus Quiet old.said new → Goes tries line (part_of old) (does (hears line moment bytes, heard told) ∷ []) (part_of new)
      by_end end told goes is = from_old (subst (λ (x : Part). Goes tries line (part (meter ∷ take (old.due - 1) rest) (drop (old.due - 1) rest) old.pass (Busy room)) (does (hears line moment bytes, heard told) ∷ []) x) (sym (part_left old new _ _ _ _ is)) goes)

      by_try : (b : Bool) (why : Why) → nat_lt old.pass tries ≡ b → IsAfter (after_failure b old.left.now old.due old.pass (Failed meter why)) old.bus Quiet old.said new
          → Goes tries line (part_of old) (does (hears line moment bytes, heard (Ok (HasFailed why))) ∷ []) (part_of new)
      by_try true why few is = from_old (subst (λ (x : Part). Goes tries line (part (meter ∷ take (old.due - 1) rest) (drop (old.due - 1) rest) old.pass (Busy room)) (does (hears line moment bytes, heard (Ok (HasFailed why))) ∷ []) x)
          (sym (part_put_off old new meter old.bus Quiet old.said first some was.0.2 is)) (is_put_off (lt_of old.pass tries few) stays))
      by_try false why few is = by_end (Failed meter why) (Ok (HasFailed why)) (fails_at_last (le_of old.pass tries few) stays) is

      by_kept : (phase : Phase) (told : Result LineHeard HearFault) → Goes tries line (part (meter ∷ take (old.due - 1) rest) (drop (old.due - 1) rest) old.pass (Busy room)) (does (hears line moment bytes, heard told) ∷ []) (part (meter ∷ take (old.due - 1) rest) (drop (old.due - 1) rest) old.pass phase)
          → IsAfter (record { left = old.left.now; due = old.due; pass = old.pass; phase = phase }) old.bus Quiet old.said new → Goes tries line (part_of old) (does (hears line moment bytes, heard told) ∷ []) (part_of new)
      by_kept phase told goes is = from_old (subst (λ (x : Part). Goes tries line (part (meter ∷ take (old.due - 1) rest) (drop (old.due - 1) rest) old.pass (Busy room)) (does (hears line moment bytes, heard told) ∷ []) x) (sym (part_kept old new meter phase _ _ _ first some is)) goes)

      by_answer : (told : Result LineHeard HearFault) → IsAfter (after_answer (nat_lt old.pass tries) old.left.now old.due old.pass room meter told) old.bus Quiet old.said new
          → Goes tries line (part_of old) (does (hears line moment bytes, heard told) ∷ []) (part_of new)
      by_answer (Ok Again) is = by_kept (Busy room) (Ok Again) (goes_on tt stays) is
      by_answer (Ok Ready) is = by_kept (Busy room) (Ok Ready) (goes_on tt stays) is
      by_answer (Ok (Accepted number more)) is = by_kept (Pending room) (Ok (Accepted number more)) (is_accepted stays) is
      by_answer (Ok (HasFailed why)) is = by_try (nat_lt old.pass tries) why refl is
      by_answer (Err fault) is = by_end (Refused meter (Hear fault)) (Err fault) (is_faulty stays) is

  pub sound_judged : (tries room : ℕ) (meter : Identity) (answer : Result LineHeard HearFault) (old new : Station B) → old.phase ≡ Busy room → IsSound g tries old
      → IsAfter (after_answer (nat_lt old.pass tries) old.left.now old.due old.pass room meter answer) old.bus Quiet old.said new → IsSound g tries new
  sound_judged tries room meter answer old new busy sound after = by_answer answer after
    where
      was : IsSoundIn tries (length old.left.now) old.due old.pass (Busy room) old.request (g.waits_left old.bus)
      was = busy_sound tries room old busy sound

      by_try : (b : Bool) (why : Why) → nat_lt old.pass tries ≡ b → IsAfter (after_failure b old.left.now old.due old.pass (Failed meter why)) old.bus Quiet old.said new → IsSound g tries new
      by_try true why few is = of_after (λ left due pass phase request bus. IsSoundIn tries (length left) due pass phase request (g.waits_left bus)) _ _ _ _ new is
          (pass_put_off tries old.left.now old.due old.pass was.1 (lt_of old.pass tries few) was.0, refl)
      by_try false why few is = sound_ended tries room (Failed meter why) Quiet old new busy refl sound is

      by_answer : (told : Result LineHeard HearFault) → IsAfter (after_answer (nat_lt old.pass tries) old.left.now old.due old.pass room meter told) old.bus Quiet old.said new → IsSound g tries new
      by_answer (Ok Again) is = of_after (λ left due pass phase request bus. IsSoundIn tries (length left) due pass phase request (g.waits_left bus)) _ _ _ _ new is (was.0, was.1, was.2, λ e. absurd cc)
      by_answer (Ok Ready) is = of_after (λ left due pass phase request bus. IsSoundIn tries (length left) due pass phase request (g.waits_left bus)) _ _ _ _ new is (was.0, was.1, was.2, λ e. absurd cc)
      by_answer (Ok (Accepted number more)) is = of_after (λ left due pass phase request bus. IsSoundIn tries (length left) due pass phase request (g.waits_left bus)) _ _ _ _ new is (was.0, was.1, was.2, refl)
      by_answer (Ok (HasFailed why)) is = by_try (nat_lt old.pass tries) why refl is
      by_answer (Err fault) is = sound_ended tries room (Refused meter (Hear fault)) Quiet old new busy refl sound is

  pub fewer_judged : (tries room : ℕ) (meter : Identity) (answer : Result LineHeard HearFault) (old new : Station B) → old.phase ≡ Busy room → IsSound g tries old
      → IsAfter (after_answer (nat_lt old.pass tries) old.left.now old.due old.pass room meter answer) old.bus Quiet old.said new → rounds_of g 1 0 0 tries new ≤ rounds_of g 0 0 0 tries old
  fewer_judged tries room meter answer old new busy sound after = by_answer answer after
    where
      was : IsSoundIn tries (length old.left.now) old.due old.pass (Busy room) old.request (g.waits_left old.bus)
      was = busy_sound tries room old busy sound

      most : ℕ
      most = rounds_in 0 0 0 tries (length old.left.now) old.due old.pass (Busy room) old.request (g.waits_left old.bus)

      by_parts : (n : Next) → IsAfter n old.bus Quiet old.said new → rounds_in 1 0 0 tries (length n.left) n.due n.pass n.phase Quiet (g.waits_left old.bus) ≤ most → rounds_of g 1 0 0 tries new ≤ rounds_of g 0 0 0 tries old
      by_parts n is few =
          rounds_at' 0 0 0 tries old (Busy room) (rounds_of g 1 0 0 tries new) busy
          (of_after (λ left due pass phase rq bus. rounds_in 1 0 0 tries (length left) due pass phase rq (g.waits_left bus) ≤ most) n _ _ _ new is few)

      by_end : (end : End) → IsAfter (ended old.left.now old.due old.pass end) old.bus Quiet old.said new → rounds_of g 1 0 0 tries new ≤ rounds_of g 0 0 0 tries old
      by_end end is = let less = fewer_ended 1 0 0 tries room end Quiet old new (omega arith) busy sound refl is in omega (arith, less)

      by_try : (b : Bool) (why : Why) → IsAfter (after_failure b old.left.now old.due old.pass (Failed meter why)) old.bus Quiet old.said new → rounds_of g 1 0 0 tries new ≤ rounds_of g 0 0 0 tries old
      by_try true why is = by_parts _ is (subst (λ (k : ℕ). rounds_in 1 0 0 tries k (old.due - 1) old.pass Free Quiet (g.waits_left old.bus) ≤ most) (sym (put_off_count old.left.now (let more = was.1 in let few = was.0.2 in omega (arith, more, few))))
          (free_count old.left.now tries (let more = was.1 in let few = was.0.2 in omega (arith, more, few)) 1 old.due old.pass room (g.waits_left old.bus) (g.waits_left old.bus) old.request))
      by_try false why is = by_end (Failed meter why) is

      by_answer : (told : Result LineHeard HearFault) → IsAfter (after_answer (nat_lt old.pass tries) old.left.now old.due old.pass room meter told) old.bus Quiet old.said new → rounds_of g 1 0 0 tries new ≤ rounds_of g 0 0 0 tries old
      by_answer (Ok Again) is = by_parts _ is (omega arith)
      by_answer (Ok Ready) is = by_parts _ is (omega arith)
      by_answer (Ok (Accepted number more)) is = by_parts _ is (omega arith)
      by_answer (Ok (HasFailed why)) is = by_try (nat_lt old.pass tries) why is
      by_answer (Err fault) is = by_end (Refused meter (Hear fault)) is
