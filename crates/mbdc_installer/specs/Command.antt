-- The commands `scan`, `read` and `address`: what goes over the bus, what is printed, and how they end (this product).
use Rattle.std.specs.Prelude.{◌≡◌, ◌==◌, ◌||◌, ◌&&◌, ◌++◌, ◌+◌, ◌-◌, ◌^◌, min, ℕ, Bool, true, false, not, List, [], codes, None}
use Rattle.std.specs.Prelude.{Result, Ok, Err, Option, SomeIff}
use Rattle.std.specs.Bool.{then_some}
use Rattle.std.specs.List.{range_with_len}
use Rattle.dc_address.specs.Primary.{IsPrimary}
use Rattle.dc_address.specs.declared.identity.Identity.{Identity}
use Rattle.dc_linkframe.specs.Control.{reset_to}
use Rattle.dc_linkframe.specs.Frame.{spelling}
use Rattle.mbdc_bus.specs.Windows.{Insists, most_tries}
use Rattle.mbdc_installer.specs.Ending.{EndsOver, IsStopped, late_text}
use Rattle.mbdc_installer.specs.declared.bench.listening.Listening.{Listening}
use Rattle.mbdc_installer.specs.declared.bench.command.Done.{Done}
use Rattle.mbdc_installer.specs.declared.bench.command.Done.TheVariants.{Searched, Asked, ReadOut, Addressed}
use Rattle.mbdc_installer.specs.declared.bench.command.Listing.{Listing}
use Rattle.mbdc_installer.specs.declared.bench.command.Listing.TheVariants.{Text, Csv, Json}
use Rattle.mbdc_installer.specs.declared.bench.command.Work.{Work}
use Rattle.mbdc_installer.specs.declared.bench.command.Work.TheVariants.{Search, Read, Address}
use Rattle.mbdc_bus.specs.declared.bus.Bus.{Ghosts as BusGhosts}
use Rattle.mbdc_ending.specs.declared.ending.Ending.{Ending}
use Rattle.mbdc_installer.specs.Address.{IsAddressed, addressing_text}
use Rattle.mbdc_installer.specs.Hearing.{new_wildcard}
use Rattle.mbdc_installer.specs.Listening.{Confirmed, Hears, Passed, is_given_up, late_of}
use Rattle.mbdc_installer.specs.Number.{IsFound, unfound_text}
use Rattle.mbdc_installer.specs.Other.{others_text}
use Rattle.mbdc_installer.specs.Read.{IsReadOn, Tells}
use Rattle.mbdc_installer.specs.Addresses.{AsksEach, greatest}
use Rattle.mbdc_installer.specs.Scan.{Counts, Identifies, Scanned}
use Rattle.mbdc_installer.specs.declared.address.Addressing.{Addressing}
use Rattle.mbdc_installer.specs.declared.address.Target.{Target}
use Rattle.mbdc_installer.specs.declared.address.Addressing.TheVariants.{Set, Taken, Nobody as NobodyThere}
use Rattle.mbdc_installer.specs.declared.address.Addressing.TheVariants.{Unclear, Unconfirmed}
use Rattle.mbdc_installer.specs.declared.number.Numbered.TheVariants.{One, Shared, Nobody}
use Rattle.mbdc_installer.specs.declared.other.Other.{Other}
use Rattle.mbdc_installer.specs.declared.reading.Readout.{Readout}
use Rattle.mbdc_installer.specs.declared.reading.Readout.TheVariants.{Whole, Failed}
use Rattle.mbdc_installer.specs.declared.wildcards.Count.{Count}
use Rattle.mbdc_installer.specs.declared.wildcards.ScanFault.{ScanFault}
use Rattle.mbdc_io.specs.Written.{PutsInto}
use Rattle.mbdc_io.specs.declared.stream.Sink.{Ghosts}
use Rattle.dc_readout.specs.declared.misses.misses.Misses.{Misses}
use Rattle.dc_readout.specs.Summary.{begun}
use Rattle.mbdc_installer.specs.declared.bench.command.MeterName.{MeterName}
use Rattle.mbdc_installer.specs.declared.bench.command.MeterName.TheVariants.{Identity as ByIdentity, Address as ByAddress}
use Rattle.mbdc_installer.specs.declared.bench.command.MeterName.TheVariants.{Number as ByNumber}
use Rattle.mbdc_installer.specs.declared.bench.command.Scan.TheVariants.{Wildcards, Primary}

-- ---- what goes over the bus

-- THE READOUT OF A METER by its name. An address is asked for its meter, and a number is looked for; where either names
-- no one meter, nothing more goes out. At another address than a primary one, as 0, the meter is selected.
pub data IsRead {B : Type 0} (bus : BusGhosts B) (wrote : List ℕ → Type 0)
    : MeterName → B → B → Readout → Type 0 where
  by_identity : {old new : B} {readout : Readout} (meter : Identity)
      → IsReadOn bus.asks old new (begun meter None) wrote (Tells readout)
      → IsRead bus wrote (ByIdentity meter) old new readout
  by_address : {old between new : B} {readout : Readout} (address : ℕ) (primary : Option ℕ)
      (meter : Identity) → SomeIff primary (IsPrimary address) address
      → Identifies bus.asks_all address old (Ok meter) between
      → IsReadOn bus.asks between new (begun meter primary) wrote (Tells readout)
      → IsRead bus wrote (ByAddress address) old new readout
  unidentified : {old new : B} (address : ℕ) (misses : Misses)
      → Identifies bus.asks_all address old (Err misses) new
      → wrote (codes "FAILED 1 NoAnswer\n")
      → IsRead bus wrote (ByAddress address) old new (Failed misses)
  by_number : {old between new : B} {readout : Readout} (digits : List ℕ) (meter : Identity)
      → IsFound bus.asks_all digits old (One meter) between
      → IsReadOn bus.asks between new (begun meter None) wrote (Tells readout)
      → IsRead bus wrote (ByNumber digits) old new readout
  shared : {old new : B} (digits : List ℕ) (misses : Misses)
      → IsFound bus.asks_all digits old (Shared misses) new → wrote (unfound_text digits true)
      → IsRead bus wrote (ByNumber digits) old new (Failed misses)
  unfound : {old new : B} (digits : List ℕ) (misses : Misses)
      → IsFound bus.asks_all digits old (Nobody misses) new → wrote (unfound_text digits false)
      → IsRead bus wrote (ByNumber digits) old new (Failed misses)

-- WHAT A COMMAND DOES to the bus, and prints of that. Of a search at primary addresses the late bytes are counted, and not
-- what it finds.
pub data IsDone {B : Type 0} (bus : BusGhosts B) (wrote : List ℕ → Type 0)
    : Work → B → B → Done → Type 0 where
  scans : {old new : B} (budget : ℕ) (count : Count)
      → Scanned bus.asks_all bus.meters budget old new wrote (Counts count)
      → IsDone bus wrote (Search (Wildcards budget)) old new (Searched count)
  asks_each : {old new : B} (text : List ℕ) (late : ℕ)
      → AsksEach bus.asks_all (range_with_len 1 greatest) old text late new → wrote text
      → IsDone bus wrote (Search Primary) old new (Asked late)
  reads : {old new : B} {readout : Readout} (meter : MeterName)
      → IsRead bus wrote meter old new readout
      → IsDone bus wrote (Read meter) old new (ReadOut readout)
  addresses : {old new : B} {outcome : Addressing} (target : Target) (to : ℕ)
      → IsAddressed bus.asks bus.asks_all target to old outcome new
      → wrote (addressing_text target to outcome)
      → IsDone bus wrote (Address target to) old new (Addressed outcome)

-- ---- what was at fault

abbrev pub has_failed : Readout → Bool
has_failed Whole = false
has_failed (Failed misses) = true

-- the meter doesn't answer at its new address
abbrev pub is_unset : Addressing → Bool
is_unset (Set meter) = false
is_unset Taken = true
is_unset NobodyThere = true
is_unset Unclear = true
is_unset (Unconfirmed meter) = true

-- a search that heard bytes which nothing on the bus could have sent may have missed a meter
abbrev pub is_faulty : (late : ℕ) → Done → Bool
is_faulty late (Searched count) = not (late == 0)
is_faulty late (Asked own) = not (late == 0)
is_faulty late (ReadOut readout) = has_failed readout
is_faulty late (Addressed outcome) = is_unset outcome

-- how often late bytes came: those of a search at primary addresses count, unless the bus was lost, and is silent
abbrev pub late_in : (is_lost : Bool) → (late : ℕ) → Done → ℕ
late_in true late done = late
late_in false late (Searched count) = late
late_in false late (Asked own) = min (late + own) (2 ^ 64 - 1)
late_in false late (ReadOut readout) = late
late_in false late (Addressed outcome) = late

-- ---- the whole command

-- what was done, or what stopped it
abbrev pub DoesOrStops : {B S : Type 0} → BusGhosts B → (B → List Other) → Ghosts S → Work → B → B → S → S
    → Result Done ScanFault → Type 0
DoesOrStops bus others g work old new before behind (Ok done) = IsDone bus (λ text. PutsInto g before behind
    (text ++ (others_text (others new) ++ late_text (late_in (bus.lost new) (bus.late new) done)))) work old new done
DoesOrStops bus others g work old new before behind (Err fault) = IsStopped g before behind fault

-- whether it was at fault
abbrev pub fault_of : (late : ℕ) → Result Done ScanFault → Result Bool ScanFault
fault_of late (Ok done) = Ok (is_faulty (late_in false late done) done)
fault_of late (Err fault) = Err fault

-- THE COMMAND, from the bus to its ending. Where it wasn't stopped, the text that was printed is that of what it did, and
-- then the wildcards that were closed, and the number of late answers.
pub record Works {B S : Type 0} (bus : BusGhosts B) (others : B → List Other) (g : Ghosts S) (work : Work)
    (old new : B) (before behind : S) (ending : Ending) : Type 0 where
  pub outcome : Result Done ScanFault
  pub does : DoesOrStops bus others g work old new before behind outcome
  pub ends : EndsOver (bus.lost new) (fault_of (bus.late new) outcome) ending

-- ---- the same, whatever was printed

-- what a search finds may be printed in another form
abbrev pub is_text : Work → Listing → Bool
is_text (Search scan) Text = true
is_text (Search scan) (Csv line) = false
is_text (Search scan) Json = false
is_text (Read meter) listing = true
is_text (Address target to) listing = true

-- what was done to the bus, if nothing stopped it
abbrev pub DoesUnseen : {B : Type 0} → BusGhosts B → Work → B → B → Result Done ScanFault → Type 0
DoesUnseen bus work old new (Ok done) = IsDone bus (λ text. Unit {0}) work old new done
DoesUnseen bus work old new (Err fault) = Unit {0}

-- THE COMMAND, from the bus to its ending, whatever was printed.
pub record WorksUnseen {B : Type 0} (bus : BusGhosts B) (work : Work) (old new : B) (ending : Ending) : Type 0 where
  pub outcome : Result Done ScanFault
  pub does : DoesUnseen bus work old new outcome
  pub ends : EndsOver (bus.lost new) (fault_of (bus.late new) outcome) ending

-- ---- over a bus that listens

-- a bus on which a search believes who is confirmed, and is given up where it hears noise alone
abbrev pub listening : {B : Type 0} → BusGhosts B → BusGhosts (Listening B)
listening bus = record {
  meters = λ _. None;
  selected = λ _. [];
  lost = λ it. is_given_up it.left || bus.lost it.bus;
  asks = Hears bus.lost (Passed bus.asks);
  asks_all = Hears (λ _. false) (Confirmed bus.lost bus.asks_all);
  late = late_of bus.lost bus.late;
  silent = λ old new request answer asked. asked.silence;
}

abbrev pub is_search : Work → Bool
is_search (Search scan) = true
is_search (Read meter) = false
is_search (Address target to) = false

-- a search is given up after 16 answers, none of which is a frame
abbrev pub noise_of : Work → Option ℕ
noise_of work = then_some (is_search work) 16

-- the address that all meters answer to (EN 13757-2)
abbrev pub all_meters : ℕ
all_meters = 254

-- before a search at primary addresses that one is reset
abbrev pub Greets : {B : Type 0} → BusGhosts B → Work → B → B → Type 0
Greets bus (Search Primary) old new =
    (answer : List ℕ) × Insists bus.asks_all (spelling (reset_to all_meters)) most_tries old answer new
Greets bus (Search (Wildcards budget)) old new = new ≡ old
Greets bus (Read meter) old new = new ≡ old
Greets bus (Address target to) old new = new ≡ old

-- nothing else was asked yet
pub record Begins {B : Type 0} (bus : BusGhosts B) (work : Work) (old : B) (first : Listening B) : Type 0 where
  pub greets : Greets bus work old first.bus
  pub left : first.left ≡ noise_of work
  pub wildcard : first.wildcard ≡ new_wildcard (is_search work)

-- one that was given up is at fault
abbrev pub or_fault : Bool → Result Bool ScanFault → Result Bool ScanFault
or_fault given_up (Ok is_faulty) = Ok (given_up || is_faulty)
or_fault given_up (Err fault) = Err fault

-- THE COMMAND OVER A BUS, whatever was printed: it ends by a fault where the search was given up, and else as its work.
pub record RunsOver {B : Type 0} (bus : BusGhosts B) (work : Work) (old : B) (ending : Ending) : Type 0 where
  pub first : Listening B
  pub last : Listening B
  pub begins : Begins bus work old first
  pub outcome : Result Done ScanFault
  pub does : DoesUnseen (listening bus) work first last outcome
  pub ends : EndsOver (not (is_given_up last.left) && bus.lost last.bus)
      (or_fault (is_given_up last.left) (fault_of (late_of bus.lost bus.late last) outcome)) ending
