-- A filter by which a readout begins anew that has another number of telegrams than its meter's last reading (this
-- product; requests and telegrams are those of EN 13757-2 and EN 13757-3).
use Rattle.std.specs.Prelude.{◌≡◌, ℕ, ◌+◌, Bool, true, false, not, ◌&&◌, ◌||◌, ◌==◌, min, List, [], ◌∷◌, map}
use Rattle.std.specs.Prelude.{Option, None, Some, option_map, bytes_eq, if◌then◌else◌}
use Rattle.std.specs.List.{list_any}
use Rattle.dc_address.specs.Identity.{wire_of}
use Rattle.dc_address.specs.declared.identity.Identity.{Identity}
use Rattle.dc_core.specs.declared.line_heard.LineHeard.{LineHeard}
use Rattle.dc_core.specs.declared.line_heard.LineHeard.TheVariants.{Again}
use Rattle.dc_linkframe.specs.Control.{selection, snd_nke}
use Rattle.dc_linkframe.specs.Frame.{FrameSeen, ack, short, long}
use Rattle.dc_linkframe.specs.Reading.{frame_of}
use Rattle.dc_records.specs.Body.{continues}
use Rattle.dc_records.specs.Telegram.{Parsed}
use Rattle.mbdc_poll.specs.Bus.{Bus}
use Rattle.mbdc_poll.specs.Confirming.{telegram_in}
use Rattle.mbdc_poll.specs.Filtered.{Filter, LetsThrough, filtered_over}
use Rattle.mbdc_poll.specs.Remembering.{request_by}
use Rattle.mbdc_poll.specs.Retrying.{scripted_bus, tried}
use Rattle.mbdc_poll.specs.Talking.{Talk, Talks}
use Rattle.mbdc_poll.specs.declared.filtered.Filtered.{Filtered}
use Rattle.mbdc_poll.specs.declared.phase.Request.TheVariants.{Quiet}
use Rattle.mbdc_poll.specs.declared.recounting.Count.{Count}
use Rattle.mbdc_poll.specs.declared.recounting.Known.{Known}
use Rattle.mbdc_poll.specs.declared.recounting.Recounting.{Recounting}

-- ---- the telegrams of a readout

-- A READOUT BEGINS with a reset or a selection
abbrev pub begins_readout : Option FrameSeen → Bool
begins_readout None = false
begins_readout (Some ack) = false
begins_readout (Some (short control address)) = control == snd_nke
begins_readout (Some (long control address ci body)) = ci == selection

-- of a telegram its meter, and whether it says that more follow
abbrev pub sent_by : Parsed → Identity × Bool
sent_by telegram = (telegram.header.identity, continues telegram.ending)

abbrev pub sent_in : Option FrameSeen → Option (Identity × Bool)
sent_in frame = option_map sent_by (telegram_in frame)

-- after this request no telegram came
abbrev pub none_counted : List ℕ → Count
none_counted request = record { request = request; is_answered = false; telegrams = 0; is_given_up = false }

-- a request that is made again waits for the same telegram
abbrev pub asked_by : List ℕ → Count → Count
asked_by request count =
    if begins_readout (frame_of request) then none_counted request
    else if bytes_eq count.request request then count
    else record count { request = request; is_answered = false }

-- each telegram counts once
abbrev pub counted : Option (Identity × Bool) → Count → Count
counted None count = count
counted (Some sent) count =
    if count.is_answered then count
    else record count { is_answered = true; telegrams = min (count.telegrams + 1) 255 }

-- ---- what a meter sends each time

-- the last reading of the meter with these bytes has another number of telegrams, and that wasn't doubted yet
abbrev pub differs : List ℕ → ℕ → Known → Bool
differs meter telegrams known =
    bytes_eq known.meter meter && (not (known.telegrams == telegrams) && not known.is_doubted)

-- THE LAST TELEGRAM OF A READOUT THAT DIFFERS: no more follow, and there is another number of them
abbrev pub ends_otherwise : List Known → ℕ → Option (Identity × Bool) → Bool
ends_otherwise known telegrams None = false
ends_otherwise known telegrams (Some (meter, true)) = false
ends_otherwise known telegrams (Some (meter, false)) = list_any (differs (wire_of meter) telegrams) known

-- it is doubted once
abbrev pub doubted_by : List ℕ → ℕ → Known → Known
doubted_by meter telegrams known =
    if differs meter telegrams known then record known { is_doubted = true } else known

abbrev pub doubted : ℕ → Option (Identity × Bool) → List Known → List Known
doubted telegrams None known = known
doubted telegrams (Some (meter, true)) known = known
doubted telegrams (Some (meter, false)) known = map (doubted_by (wire_of meter) telegrams) known

-- ---- the filter

-- A REQUEST GOES OUT, unless its readout was given up.
pub record Asks (old : Recounting) (request : List ℕ) (out : Option (List ℕ)) (new : Recounting) : Type 0 where
  pub known : new.known.now ≡ old.known.now
  pub count : new.count ≡ asked_by request old.count
  pub goes_out : out ≡ (if new.count.is_given_up then None else Some request)

-- the telegrams with this one
abbrev pub count_with : Recounting → List ℕ → Count
count_with old given = counted (sent_in (frame_of given)) old.count

-- a readout is given up at its last telegram
abbrev pub gives_up : Recounting → List ℕ → Bool
gives_up old given = ends_otherwise old.known.now (count_with old given).telegrams (sent_in (frame_of given))

-- AN ANSWER PASSES. Of the last telegram of a readout that differs silence is heard, and it is given up.
pub record Hears (old : Recounting) (given answer : List ℕ) (new : Recounting) : Type 0 where
  pub is_answer : answer ≡ (if gives_up old given then [] else given)
  pub count : new.count ≡ record (count_with old given) { is_given_up = gives_up old given || old.count.is_given_up }
  pub known : new.known.now ≡ doubted (count_with old given).telegrams (sent_in (frame_of given)) old.known.now

abbrev pub recounting : Filter Recounting
recounting = record { asks = Asks; hears = Hears }

-- WHERE EACH METER SENDS AS MANY TELEGRAMS AS IN ITS LAST READING, nothing is dropped: the talk is one on the bus itself.
abbrev pub DropsNothing : {B : Type 0} → Bus B → Type 0
DropsNothing g = LetsThrough g recounting (λ r. r.count.is_given_up ≡ false) (λ r given. gives_up r given ≡ false)

-- ---- a readout begins anew

-- this meter's last reading had two telegrams
abbrev pub sent_two : Bool → Identity → Known
sent_two doubted meter = record { meter = wire_of meter; telegrams = 2; is_doubted = doubted }

abbrev pub giving : List (List ℕ) → List Known → Count → Bool → Filtered (List (List ℕ)) Recounting
giving answers known count withholds = record {
  bus = answers;
  filter = record { known = record { ref_ptr = (0, 0); ghost_name = 0; now = known }; count = count };
  withholds = withholds;
}

abbrev pub at_rest : Filtered (List (List ℕ)) Recounting → Talk (Filtered (List (List ℕ)) Recounting)
at_rest bus = record { bus = bus; request = Quiet; said = false }

-- the reset of the meter at primary address 1, and its acknowledgement
abbrev pub reset : List ℕ
reset = 0x10 ∷ 0x40 ∷ 0x01 ∷ 0x41 ∷ 0x16 ∷ []

abbrev pub acknowledged : List ℕ
acknowledged = 0xE5 ∷ []

-- ONE TELEGRAM COMES WHERE TWO DID: of it silence is heard, and of its request that is made again and isn't sent. After a
-- reset it comes again, and is heard.
pub record IsBegunAnew (meter : Identity) (telegram : List ℕ) (answer : LineHeard) : Type 0 where
  pub last : Filtered (List (List ℕ)) Recounting
  pub talk : Talks (filtered_over scripted_bus recounting) 1
      (at_rest (giving (telegram ∷ acknowledged ∷ telegram ∷ []) (sent_two false meter ∷ []) (none_counted []) false))
      (tried (request_by true) [] Again (tried (request_by true) [] Again
      (tried reset acknowledged Again (tried (request_by true) telegram answer [])))) (at_rest last)
  pub all_given : last.bus ≡ []
