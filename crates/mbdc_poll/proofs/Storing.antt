-- What becomes of a line's part by a commit.
use Rattle.std.proofs.Common.{◌≡◌, ℕ, zero, suc, ◌+◌, ◌-◌, ◌<◌, ◌≤◌, List, [], ◌∷◌, ◌*◌, Result, Ok, Err, length, take, drop, get_or, refl, sym, subst, ◌∙◌, arith}
use Rattle.std.specs.List.{All}
use Rattle.std.proofs.lemmas.List.Elements.{All-nil, All-cons}
use Rattle.dc_core.specs.Transcript.{Turn}
use Rattle.dc_address.specs.declared.identity.Identity.{Identity}
use Rattle.dc_core.specs.Event.{commits, committed}
use Rattle.dc_core.specs.declared.fault.CommitFault.{CommitFault}
use Rattle.mbdc_poll.specs.Bus.{Bus}
use Rattle.mbdc_poll.specs.Happening.{Happening, does}
use Rattle.mbdc_poll.specs.Queue.{Part, part, Goes, stays, is_stored, is_unstored, stands_by}
use Rattle.mbdc_poll.specs.Talking.{Talk, Talks, rests, stands_by as talk_stands_by}
use Rattle.mbdc_poll.specs.Round.{LineGoes, AllSteps, IsStored, AreStored, EachFewer, IsCommitTurn, IsStoredAs, uncounted}
use Rattle.std.specs.Prelude.{OnOk}
use Rattle.mbdc_poll.specs.Station.{IsSoundIn, IsSound, Next, part_of, talk_of, rounds_a_start, rounds_a_request, rounds_to_end, rounds_in, rounds_of, stored_by}
use Rattle.mbdc_poll.specs.declared.end.End.TheVariants.{Refused}
use Rattle.mbdc_poll.specs.declared.end.Refusal.TheVariants.{Commit}
use Rattle.mbdc_poll.specs.declared.phase.Phase.{Phase}
use Rattle.mbdc_poll.specs.declared.phase.Phase.TheVariants.{Free, Busy, Pending, Over}
use Rattle.mbdc_poll.specs.declared.phase.Request.{Request}
use Rattle.mbdc_poll.specs.declared.phase.Request.TheVariants.{Quiet}
use Rattle.mbdc_poll.specs.declared.station.Station.{Station}
use Rattle.mbdc_poll.proofs.Counting.{left_count, pass_less}
use Rattle.mbdc_poll.proofs.Missing.{brings_turn}
use Rattle.mbdc_poll.proofs.Queues.{part_after, talk_is, of_after}

-- the part that such a next is
abbrev part_by : Next → Part
part_by n = part (take n.due n.left) (drop n.due n.left) n.pass n.phase

goes_stored : (tries line : ℕ) (left : List Identity) (due pass : ℕ) (phase : Phase) (request : Request) (waits : ℕ) (stored : Result ℕ CommitFault) → IsSoundIn tries (length left) due pass phase request waits
    → Goes tries line (part (take due left) (drop due left) pass phase) (does (commits, committed stored) ∷ []) (part_by (stored_by left due pass phase stored))
goes_stored tries line left due pass Free request waits stored sound = stands_by tt stays
goes_stored tries line left due pass (Busy n) request waits stored sound = stands_by tt stays
goes_stored tries line left due pass (Over end) request waits stored sound = stands_by tt stays
goes_stored tries line [] due pass (Pending n) request waits stored sound = absurd (let some = sound.1 in let few = sound.0.2 in omega (arith, some, few))
goes_stored tries line (m ∷ ms) zero pass (Pending n) request waits stored sound = absurd (let some = sound.1 in omega (arith, some))
goes_stored tries line (m ∷ ms) (suc d) pass (Pending n) request waits (Ok count) sound = is_stored stays
goes_stored tries line (m ∷ ms) (suc d) pass (Pending n) request waits (Err fault) sound =
    subst (λ (k : ℕ). Goes tries line (part (m ∷ take d ms) (drop d ms) pass (Pending n)) (does (commits, committed (Err fault)) ∷ []) (part (take k ms) (drop k ms) pass (Over (Refused m (Commit fault)))))
    (omega arith) (is_unstored stays)

sound_by : (tries : ℕ) (left : List Identity) (due pass : ℕ) (phase : Phase) (request : Request) (waits : ℕ) (stored : Result ℕ CommitFault) → IsSoundIn tries (length left) due pass phase request waits
    → IsSoundIn tries (length (stored_by left due pass phase stored).left) (stored_by left due pass phase stored).due (stored_by left due pass phase stored).pass (stored_by left due pass phase stored).phase request waits
sound_by tries left due pass Free request waits stored sound = sound
sound_by tries left due pass (Busy n) request waits stored sound = sound
sound_by tries left due pass (Over end) request waits stored sound = sound
sound_by tries [] due pass (Pending n) request waits stored sound = absurd (let some = sound.1 in let few = sound.0.2 in omega (arith, some, few))
sound_by tries (m ∷ ms) due pass (Pending n) request waits (Ok count) sound = (sound.0, sound.1, sound.2, λ e. absurd (let quiet = sound.3 in let both = sym quiet ∙ e in cc))
sound_by tries (m ∷ ms) due pass (Pending n) request waits (Err fault) sound = (pass_less tries (m ∷ ms) due pass sound.1 sound.0, sound.3)

fewer_by : (tries out pending : ℕ) (left : List Identity) (due pass : ℕ) (phase : Phase) (request : Request) (waits : ℕ) (stored : Result ℕ CommitFault) → IsSoundIn tries (length left) due pass phase request waits
    → rounds_in out pending 0 tries (length (stored_by left due pass phase stored).left) (stored_by left due pass phase stored).due (stored_by left due pass phase stored).pass (stored_by left due pass phase stored).phase request waits
    ≤ rounds_in out 0 0 tries (length left) due pass phase request waits - 0
fewer_by tries out pending left due pass Free request waits stored sound = omega arith
fewer_by tries out pending left due pass (Busy n) request waits stored sound = omega arith
fewer_by tries out pending left due pass (Over end) request waits stored sound = omega arith
fewer_by tries out pending [] due pass (Pending n) request waits stored sound = absurd (let some = sound.1 in let few = sound.0.2 in omega (arith, some, few))
fewer_by tries out pending (m ∷ ms) due pass (Pending n) request waits (Ok count) sound = by_request request sound.3
  where
    by_request : (rq : Request) → rq ≡ Quiet → rounds_in out pending 0 tries (suc (length ms)) due pass (Busy n) rq waits ≤ rounds_in out 0 0 tries (suc (length ms)) due pass (Pending n) rq waits - 0
    by_request rq e = subst (λ (x : Request). rounds_in out pending 0 tries (suc (length ms)) due pass (Busy n) x waits ≤ rounds_in out 0 0 tries (suc (length ms)) due pass (Pending n) x waits - 0) (sym e) (omega arith)
fewer_by tries out pending (m ∷ ms) due pass (Pending n) request waits (Err fault) sound =
    by_rest (suc (length ms) * (tries - pass)) (length ms * (tries - pass)) (left_count (m ∷ ms) due (tries - pass))
  where
    by_rest : (all rest : ℕ) → (due - 1) + rest ≤ (due - 1) + all → (due - 1 - 0 + rest) * rounds_a_start + (1 + 0) ≤ (due - 1 + all) * rounds_a_start + (rounds_to_end + n * rounds_a_request + 0) - 0
    by_rest all rest less = omega (arith, less)

module _ {B : Type 0} (g : Bus B) where
  pub line_stored : (tries line : ℕ) (stored : Result ℕ CommitFault) (old new : Station B) → IsSound g tries old → IsStored stored old new → LineGoes g tries line old new (does (commits, committed stored) ∷ [])
  line_stored tries line stored old new sound is = record {
    queue = subst (λ (x : Part). Goes tries line (part_of old) (does (commits, committed stored) ∷ []) x) (sym (part_after _ old.bus old.request old.said new is.0)) (goes_stored tries line old.left.now old.due old.pass old.phase old.request (g.waits_left old.bus) stored sound);
    talk = subst (λ (x : Talk B). Talks g line (talk_of old) (does (commits, committed stored) ∷ []) x) (sym (talk_is new old.bus old.request old.said is.0.bus is.0.request is.0.said)) (talk_stands_by rests);
    brought = brings_turn line old.brought new.brought (commits, committed stored) is.1;
  }

  pub sound_stored : (tries : ℕ) (stored : Result ℕ CommitFault) (old new : Station B) → IsSound g tries old → IsStored stored old new → IsSound g tries new
  sound_stored tries stored old new sound is =
      of_after (λ left due pass phase request bus. IsSoundIn tries (length left) due pass phase request (g.waits_left bus)) _ _ _ _ new is.0 (sound_by tries old.left.now old.due old.pass old.phase old.request (g.waits_left old.bus) stored sound)

  pub fewer_stored : (tries out pending : ℕ) (stored : Result ℕ CommitFault) (old new : Station B) → IsSound g tries old → IsStored stored old new → rounds_of g out pending 0 tries new ≤ rounds_of g out 0 0 tries old - 0
  fewer_stored tries out pending stored old new sound is =
      of_after (λ left due pass phase request bus. rounds_in out pending 0 tries (length left) due pass phase request (g.waits_left bus) ≤ rounds_of g out 0 0 tries old - 0) _ _ _ _ new is.0
      (fewer_by tries out pending old.left.now old.due old.pass old.phase old.request (g.waits_left old.bus) stored sound)

  -- ---- all lines

  pub all_stored : (tries : ℕ) (stored : Result ℕ CommitFault) (such : List Turn → Type 0) (olds news : List (Station B)) (happened : List Happening) → happened ≡ does (commits, committed stored) ∷ [] → such ((commits, committed stored) ∷ []) → All (IsSound g tries) olds → AreStored stored olds news → AllSteps g tries such olds news happened
  all_stored tries stored such olds news happened same is sound are =
      subst (λ (hs : List Happening). AllSteps g tries such olds news hs) (sym same) (record {
        rounds = record {
          goes = λ k d below. line_stored tries (k + 1) stored (get_or olds k d) (get_or news k d) (sound k d below) (are.each k d below);
          alone = λ other past. All-cons IsCommitTurn (does (commits, committed stored)) [] refl (All-nil IsCommitTurn);
        };
        are_such = is;
        are_turns = tt;
      })

  pub all_sound : (tries : ℕ) (stored : Result ℕ CommitFault) (olds news : List (Station B)) → All (IsSound g tries) olds → AreStored stored olds news → All (IsSound g tries) news
  all_sound tries stored olds news sound are k d below =
      let within : k < length olds = omega (arith, below, are.count) in
      sound_stored tries stored (get_or olds k d) (get_or news k d) (sound k d within) (are.each k d within)

  pub all_fewer : (tries out pending : ℕ) (stored : Result ℕ CommitFault) (olds news : List (Station B)) → All (IsSound g tries) olds → AreStored stored olds news → EachFewer (rounds_of g out 0 0 tries) (rounds_of g out pending 0 tries) 0 olds news
  all_fewer tries out pending stored olds news sound are k d below = fewer_stored tries out pending stored (get_or olds k d) (get_or news k d) (sound k d below) (are.each k d below)

pub stored_as : (stored : Result ℕ CommitFault) (told : Result (Unit {0}) CommitFault) → told ≡ uncounted stored → IsStoredAs told ((commits, committed stored) ∷ [])
stored_as (Ok count) told e = subst (λ (x : Result (Unit {0}) CommitFault). IsStoredAs x ((commits, committed (Ok count)) ∷ [])) (sym e) (count, refl)
stored_as (Err fault) told e = subst (λ (x : Result (Unit {0}) CommitFault). IsStoredAs x ((commits, committed (Err fault)) ∷ [])) (sym e) refl

pub on_any : {X E : Type 0} (result : Result X E) (P : Type 0) → P → OnOk result P
on_any (Ok x) P p = p
on_any (Err e) P p = tt
