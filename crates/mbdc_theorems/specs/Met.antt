-- A whole poll that meets all premises of `every_meter_is_read` at once (this product): a register
-- with one meter, that meter on its line, a disk that keeps the disk model, and a bus, a clock and a
-- teller that may do anything.
use Rattle.std.specs.Prelude.{◌≡◌, ℕ, ◌+◌, ◌<◌, false, List, [], ◌∷◌, length}
use Rattle.std.specs.Prelude.{slice_index_or}
use Rattle.std.specs.List.Sorted.{IsStrictlySortedBy}
use Rattle.std.specs.Map.{keys_of}
use Rattle.dc_address.specs.Identity.{identity_cmp}
use Rattle.dc_address.specs.declared.identity.Identity.{Identity}
use Rattle.dc_core.specs.Core.{Core, opened}
use Rattle.dc_core.specs.Transcript.{leads}
use Rattle.dc_sectors.specs.Disk.{Image, IsImage, settled}
use Rattle.dc_sectors.specs.declared.device.Disk.{Ghosts as DiskGhosts}
use Rattle.mbdc_log.specs.Halves.{fewest_sectors, half_of}
use Rattle.dc_core.specs.PendingImages.{Stands}
use Rattle.mbdc_poll.specs.Bus.{Bus}
use Rattle.mbdc_poll.specs.Happening.{Happening, happened_turns}
use Rattle.mbdc_poll.specs.ImagePoll.{ImageTurned, PlanPolled}
use Rattle.mbdc_poll.specs.Planned.{queue_on}
use Rattle.mbdc_poll.specs.declared.event.Event.{Event as Told}
use Rattle.mbdc_poll.specs.declared.outcome.Outcome.{Outcome}
use Rattle.mbdc_poll.specs.declared.station.Station.{Station}
use Rattle.mbdc_theorems.specs.Carried.{Wire, NothingIsWanting}
use Rattle.mbdc_theorems.specs.Every.{HasRoom, IsInOrder, IsRead}

-- a disk that keeps the disk model: what is written is durable at once, and no call fails
abbrev pub durable_disk : DiskGhosts Image
durable_disk = record {
  keeps = λ disk. Unit {0};
  sectors = λ disk. fewest_sectors;
  reads = λ disk. disk;
  choices = settled;
  moment = λ disk. 0;
  images_since = λ disk t. IsImage (settled disk);
  failures = λ disk. 0;
}

-- a bus that may do anything, except that it isn't lost
abbrev pub any_bus : Bus (Unit {0})
any_bus = record {
  lost = λ bus. false;
  waits_left = λ bus. 0;
  sends = λ old request new. Unit {0};
  opens = λ old request new. Unit {0};
  waits = λ old new. Unit {0};
  gives = λ old answer new. Unit {0};
  late = λ bus. 0;
}

-- a poll of all meters over one such bus, in one pass
abbrev pub AnyPoll : Outcome → Core → List Happening → Type 0
AnyPoll outcome = PlanPolled any_bus (λ (old : Unit {0}) (moment : ℕ) (new : Unit {0}). Unit {0})
    (λ old slept new. Unit {0}) (λ old new. Unit {0})
    (λ (old : Unit {0}) (told : Told) (new : Unit {0}). Unit {0}) (tt ∷ []) [] 1 tt tt tt tt outcome

-- ALL PREMISES ARE MET, and so the meter has one reading more, of its one telegram, and the disk
-- holds it.
pub record IsMet : Type 0 where
  pub identity : Identity
  pub wire : Wire
  pub outcome : Outcome
  pub disk : Image
  pub new : Image
  pub poll : ImageTurned durable_disk (AnyPoll outcome) disk new
  pub queue : queue_on poll.state [] 1 false ≡ identity ∷ []
  pub single : length (wire.parts identity) ≡ 1
  pub ascends : IsStrictlySortedBy identity_cmp (keys_of poll.state.meters)
  pub backed : NothingIsWanting poll.happens.happened
  pub room : HasRoom poll.first.house.budget poll.state (λ line. wire) poll.happens.are_such.olds
  pub in_order : (k : ℕ) (d : Station (Unit {0})) (low : k < length poll.happens.are_such.olds)
      → IsInOrder any_bus 1 (k + 1) poll.state wire
      (slice_index_or poll.happens.are_such.olds k d) (slice_index_or poll.happens.are_such.news k d)
      poll.happens.happened (poll.happens.are_such.polls.polled.polls.rounds.goes k d low)
  pub read : IsRead poll.state
      (leads (opened poll.state) (happened_turns poll.happens.happened)).committed wire identity
  pub stored : Stands (half_of durable_disk new)
      (leads (opened poll.state) (happened_turns poll.happens.happened)).committed new
