-- What a command does, and what is printed after its text.
use Rattle.std.proofs.Common.{ℕ, Bool, List, ◌++◌, Result, Ok, Err}
use Rattle.mbdc_installer.specs.Command.{DoesOrStops, DoesUnseen, IsDone, IsRead, addresses, asks_each, by_address, by_identity, by_number, reads, scans, shared, unfound, unidentified}
use Rattle.mbdc_installer.specs.declared.bench.command.Done.{Done}
use Rattle.mbdc_installer.specs.declared.bench.command.Work.{Work}
use Rattle.mbdc_bus.specs.declared.bus.Bus.{Ghosts as BusGhosts}
use Rattle.mbdc_installer.specs.Read.{IsReadOn}
use Rattle.mbdc_installer.specs.Scan.{Scanned}
use Rattle.mbdc_installer.specs.declared.other.Other.{Other}
use Rattle.mbdc_installer.specs.declared.wildcards.ScanFault.{ScanFault}
use Rattle.mbdc_installer.specs.declared.reading.Readout.{Readout}
use Rattle.mbdc_io.proofs.Pieces.{puts-both}
use Rattle.mbdc_io.specs.Written.{PutsInto}
use Rattle.mbdc_io.specs.declared.stream.Sink.{Ghosts}
use Rattle.dc_readout.specs.Summary.{Summary}
use Rattle.dc_search.specs.State.{SearchState}
use Rattle.mbdc_installer.specs.declared.bench.command.MeterName.{MeterName}

-- two texts, one after the other
pub then_puts : {S : Type 0} (g : Ghosts S) (old between new : S) (late text : List ℕ) → PutsInto g between new late → PutsInto g old between text
    → PutsInto g old new (text ++ late)
then_puts g old between new late text second first = puts-both (g.written old) (g.written between) (g.written new) text late first second

module _ {B : Type 0} (bus : BusGhosts B) (P Q : List ℕ → Type 0) (then : (text : List ℕ) → P text → Q text) where
  -- a search whose text was written in another way
  scanned_so : (budget : ℕ) (old new : B) (counts : SearchState → Type 0) → Scanned bus.asks_all bus.meters budget old new P counts
      → Scanned bus.asks_all bus.meters budget old new Q counts
  scanned_so budget old new counts s = record { search = s.search; look = s.look; text = then _ s.text; counted = s.counted }

  -- so a readout
  read_on_so : (old new : B) (session : Summary) (tells : List (List ℕ) → Bool → Type 0) → IsReadOn bus.asks old new session P tells
      → IsReadOn bus.asks old new session Q tells
  read_on_so old new session tells r = record {
    reads = record {
      exchanges = r.reads.exchanges;
      happened = r.reads.happened;
      text = r.reads.text;
      last = r.reads.last;
      are_read = r.reads.are_read;
      printed_it = then r.reads.text r.reads.printed_it;
    };
    ended = r.ended;
    few = r.few;
    told = r.told;
  }

  is_read_so : (meter : MeterName) (old new : B) (readout : Readout) → IsRead bus P meter old new readout → IsRead bus Q meter old new readout
  is_read_so _ old new readout (by_identity meter r) = by_identity meter (read_on_so _ _ _ _ r)
  is_read_so _ old new readout (by_address address primary meter is named r) = by_address address primary meter is named (read_on_so _ _ _ _ r)
  is_read_so _ old new _ (unidentified address misses named wrote) = unidentified address misses named (then _ wrote)
  is_read_so _ old new readout (by_number digits meter found r) = by_number digits meter found (read_on_so _ _ _ _ r)
  is_read_so _ old new _ (shared digits misses found wrote) = shared digits misses found (then _ wrote)
  is_read_so _ old new _ (unfound digits misses found wrote) = unfound digits misses found (then _ wrote)

  -- so the work of any command
  pub is_done_so : (work : Work) (old new : B) (done : Done) → IsDone bus P work old new done → IsDone bus Q work old new done
  is_done_so _ old new _ (scans budget count s) = scans budget count (scanned_so budget old new _ s)
  is_done_so _ old new _ (asks_each text late asked wrote) = asks_each text late asked (then text wrote)
  is_done_so _ old new _ (reads meter r) = reads meter (is_read_so meter old new _ r)
  is_done_so _ old new _ (addresses target to is wrote) = addresses target to is (then _ wrote)

-- what was done, whatever was printed
pub does_unseen : {B S : Type 0} (bus : BusGhosts B) (others : B → List Other) (g : Ghosts S) (work : Work) (old new : B) (before behind : S) (outcome : Result Done ScanFault)
    → DoesOrStops bus others g work old new before behind outcome → DoesUnseen bus work old new outcome
does_unseen bus others g work old new before behind (Ok done) does = is_done_so bus _ (λ text. Unit {0}) (λ text wrote. tt) work old new done does
does_unseen bus others g work old new before behind (Err fault) does = tt
