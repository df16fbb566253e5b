-- Where each meter sends as many telegrams as in its last reading, nothing is dropped.
use Rattle.std.proofs.Common.{◌≡◌, ℕ, Bool, true, false, ◌&&◌, ◌||◌, List, [], ◌∷◌, refl, sym, subst, ◌∙◌, ap, if◌then◌else◌}
use Rattle.std.specs.Prelude.{bytes_eq, Option, None, Some}
use Rattle.dc_address.specs.Identity.{wire_of}
use Rattle.dc_address.specs.declared.identity.Identity.{Identity}
use Rattle.std.proofs.lemmas.Slice.Eq.{bytes_eq-Decides}
use Rattle.dc_core.specs.declared.line_heard.LineHeard.{LineHeard}
use Rattle.dc_core.specs.declared.line_heard.LineHeard.TheVariants.{Again}
use Rattle.dc_linkframe.specs.Reading.{frame_of}
use Rattle.mbdc_poll.proofs.Through.{Passes, lets_through}
use Rattle.mbdc_poll.specs.Bus.{Bus}
use Rattle.mbdc_poll.specs.Filtered.{filtered_over, goes_out, of_bus, of_none, stays}
use Rattle.mbdc_poll.specs.Remembering.{request_by}
use Rattle.mbdc_poll.specs.Retrying.{scripted_bus, tried}
use Rattle.mbdc_poll.specs.Talking.{Talks, rests, sends_it, takes_it, hears_it}
use Rattle.mbdc_poll.specs.declared.filtered.Filtered.{Filtered}
use Rattle.mbdc_poll.specs.declared.recounting.Known.{Known}
use Rattle.mbdc_poll.specs.Recounting.{Asks, DropsNothing, Hears, IsBegunAnew, acknowledged, at_rest, begins_readout, counted, doubted, ends_otherwise, gives_up, giving, none_counted, recounting, reset, sent_in, sent_two}
use Rattle.mbdc_poll.specs.declared.recounting.Count.{Count}
use Rattle.mbdc_poll.specs.declared.recounting.Recounting.{Recounting}

-- a request gives no readout up
goes_on : (begins same : Bool) (request : List ℕ) (count : Count) → count.is_given_up ≡ false
    → (if begins then none_counted request else if same then count else record count { request = request; is_answered = false }).is_given_up ≡ false
goes_on true same request count e = refl
goes_on false true request count e = e
goes_on false false request count e = e

neither : (a b : Bool) → a ≡ false → b ≡ false → (a || b) ≡ false
neither true b e f = absurd cc
neither false b e f = f

abbrev IsKept : Recounting → Type 0
IsKept old = old.count.is_given_up ≡ false

abbrev Agrees : Recounting → List ℕ → Type 0
Agrees old given = gives_up old given ≡ false

passes : Passes recounting IsKept Agrees
passes = record {
  asks = λ old request out new kept asks.
      let still : new.count.is_given_up ≡ false = ap (λ (count : Count). count.is_given_up) asks.count
      ∙ goes_on (begins_readout (frame_of request)) (bytes_eq old.count.request request) request old.count kept in
      (asks.goes_out ∙ ap (λ (b : Bool). if b then None else Some request) still, still);
  hears = λ old given answer new kept agrees heard. (
    heard.is_answer ∙ subst (λ (b : Bool). (if b then [] else given) ≡ given) (sym agrees) refl,
    ap (λ (count : Count). count.is_given_up) heard.count ∙ neither (gives_up old given) old.count.is_given_up agrees kept,
  );
}

pub drops_nothing : {B : Type 0} (g : Bus B) → DropsNothing g
drops_nothing g = lets_through g recounting IsKept Agrees passes

-- ---- a readout begins anew

module _ (meter : Identity) (telegram : List ℕ) (answer : LineHeard) (sent : sent_in (frame_of telegram) ≡ Some (meter, false)) where
  abbrev asked_one : Bool → Bool → ℕ → Count
  asked_one answered given_up count = record { request = request_by true; is_answered = answered; telegrams = count; is_given_up = given_up }

  abbrev undoubted : List Known
  undoubted = sent_two false meter ∷ []

  abbrev doubts : List Known
  doubts = sent_two true meter ∷ []

  same : bytes_eq (wire_of meter) (wire_of meter) ≡ true
  same = (bytes_eq-Decides (wire_of meter) (wire_of meter)).1 refl

  abbrev at_first : Filtered (List (List ℕ)) Recounting
  at_first = giving (telegram ∷ acknowledged ∷ telegram ∷ []) undoubted (none_counted []) false

  abbrev asked_it : Filtered (List (List ℕ)) Recounting
  asked_it = giving (telegram ∷ acknowledged ∷ telegram ∷ []) undoubted (asked_one false false 0) false

  abbrev gave_up : Filtered (List (List ℕ)) Recounting
  gave_up = giving (acknowledged ∷ telegram ∷ []) doubts (asked_one true true 1) false

  abbrev held : Filtered (List (List ℕ)) Recounting
  held = giving (acknowledged ∷ telegram ∷ []) doubts (asked_one true true 1) true

  abbrev begun : Filtered (List (List ℕ)) Recounting
  begun = giving (acknowledged ∷ telegram ∷ []) doubts (none_counted reset) false

  abbrev reset_it : Filtered (List (List ℕ)) Recounting
  reset_it = giving (telegram ∷ []) doubts (none_counted reset) false

  abbrev asked_again : Filtered (List (List ℕ)) Recounting
  asked_again = giving (telegram ∷ []) doubts (asked_one false false 0) false

  abbrev last : Filtered (List (List ℕ)) Recounting
  last = giving [] doubts (asked_one true false 1) false

  asks_first : Asks at_first.filter (request_by true) (Some (request_by true)) asked_it.filter
  unfolding frame_of
  asks_first = record { known = refl; count = refl; goes_out = refl }

  asks_held : Asks gave_up.filter (request_by true) None held.filter
  unfolding frame_of
  asks_held = record { known = refl; count = refl; goes_out = refl }

  asks_reset : Asks held.filter reset (Some reset) begun.filter
  unfolding frame_of
  asks_reset = record { known = refl; count = refl; goes_out = refl }

  asks_again : Asks reset_it.filter (request_by true) (Some (request_by true)) asked_again.filter
  unfolding frame_of
  asks_again = record { known = refl; count = refl; goes_out = refl }

  hears_reset : Hears begun.filter acknowledged acknowledged reset_it.filter
  unfolding frame_of
  hears_reset = record { is_answer = refl; count = refl; known = refl }

  -- what is heard of a telegram, by what is sent in it
  abbrev HearsBy : Option (Identity × Bool) → Recounting → List ℕ → Recounting → Type 0
  HearsBy sent old bytes new =
      let count : Count = counted sent old.count in
      let ends : Bool = ends_otherwise old.known.now count.telegrams sent in
      (bytes ≡ (if ends then [] else telegram)) × (new.count ≡ record count { is_given_up = ends || old.count.is_given_up })
      × (new.known.now ≡ doubted count.telegrams sent old.known.now)

  hears_by : (old : Recounting) (bytes : List ℕ) (new : Recounting) → HearsBy (Some (meter, false)) old bytes new → Hears old telegram bytes new
  hears_by old bytes new by =
      let so = subst (λ (s : Option (Identity × Bool)). HearsBy s old bytes new) (sym sent) by in
      record { is_answer = so.0; count = so.1; known = so.2 }

  hears_one : (b : Bool) → b ≡ true → ([] ≡ (if (b && true) || false then [] else telegram))
      × (gave_up.filter.count ≡ record (asked_one true false 1) { is_given_up = ((b && true) || false) || false })
      × (doubts ≡ (if b && true then record (sent_two false meter) { is_doubted = true } else sent_two false meter) ∷ [])
  hears_one true e = (refl, refl, refl)
  hears_one false e = absurd cc

  gives_up_first : Hears asked_it.filter telegram [] gave_up.filter
  gives_up_first = hears_by asked_it.filter [] gave_up.filter (hears_one (bytes_eq (wire_of meter) (wire_of meter)) same)

  hears_same : (b : Bool) → b ≡ true → (telegram ≡ (if (b && false) || false then [] else telegram))
      × (last.filter.count ≡ record (asked_one true false 1) { is_given_up = ((b && false) || false) || false })
      × (doubts ≡ (if b && false then record (sent_two true meter) { is_doubted = true } else sent_two true meter) ∷ [])
  hears_same true e = (refl, refl, refl)
  hears_same false e = absurd cc

  hears_last : Hears asked_again.filter telegram telegram last.filter
  hears_last = hears_by asked_again.filter telegram last.filter (hears_same (bytes_eq (wire_of meter) (wire_of meter)) same)

  talk : Talks (filtered_over scripted_bus recounting) 1 (at_rest at_first) (tried (request_by true) [] Again (tried (request_by true) [] Again (tried reset acknowledged Again (tried (request_by true) telegram answer [])))) (at_rest last)
  talk = sends_it {next = asked_it} (goes_out (request_by true) refl asks_first refl refl) (takes_it {next = gave_up} (of_bus telegram refl refl refl gives_up_first refl)
      (hears_it (sends_it {next = held} (stays refl asks_held refl refl) (takes_it {next = held} (of_none refl refl refl)
      (hears_it (sends_it {next = begun} (goes_out reset refl asks_reset refl refl) (takes_it {next = reset_it} (of_bus acknowledged refl refl refl hears_reset refl)
      (hears_it (sends_it {next = asked_again} (goes_out (request_by true) refl asks_again refl refl) (takes_it {next = last} (of_bus telegram refl refl refl hears_last refl) (hears_it rests)))))))))))

  pub is_begun_anew : IsBegunAnew meter telegram answer
  is_begun_anew = record { last = last; talk = talk; all_given = refl }
