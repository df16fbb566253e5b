-- How a search ends that was given up.
use Rattle.std.proofs.Common.{◌≡◌, ◌≢◌, ℕ, Bool, true, false, not, ◌&&◌, ◌||◌, Result, Ok, Err, codes, refl, subst}
use Rattle.mbdc_bus.specs.declared.bus.Bus.{Ghosts as BusGhosts}
use Rattle.mbdc_ending.specs.Outcome.{IsOfFile}
use Rattle.mbdc_ending.specs.declared.ending.Ending.{Ending}
use Rattle.mbdc_ending.specs.declared.ending.Ending.TheVariants.{Faulty, Gateway}
use Rattle.mbdc_installer.specs.Command.{Begins, RunsOver, WorksUnseen, fault_of, is_search, listening, or_fault}
use Rattle.mbdc_installer.specs.Ending.{EndsOver}
use Rattle.mbdc_installer.specs.Listening.{is_given_up, late_of}
use Rattle.mbdc_installer.specs.declared.bench.command.Done.{Done}
use Rattle.mbdc_installer.specs.declared.bench.command.Scan.{Scan}
use Rattle.mbdc_installer.specs.declared.bench.command.Work.{Work}
use Rattle.mbdc_installer.specs.declared.bench.command.Work.TheVariants.{Search, Read, Address}
use Rattle.mbdc_installer.specs.declared.bench.listening.Listening.{Listening}
use Rattle.mbdc_installer.specs.declared.wildcards.ScanFault.{ScanFault}
use Rattle.mbdc_installer.specs.declared.wildcards.ScanFault.TheVariants.{Write, NoMemory}

-- what no search is
pub no_search : (work : Work) → ((scan : Scan) → work ≢ Search scan) → is_search work ≡ false
no_search (Search scan) other = absurd (other scan refl)
no_search (Read meter) other = refl
no_search (Address target to) other = refl

-- a search that was given up counts as lost
is_fault : (given_up lost : Bool) (late : ℕ) (outcome : Result Done ScanFault) (worked : Ending) → given_up ≡ true → worked ≡ Gateway
    → EndsOver (given_up || lost) (fault_of late outcome) worked → EndsOver (not given_up && lost) (or_fault given_up (fault_of late outcome)) Faulty
is_fault false lost late outcome worked up is ends = absurd cc
is_fault true lost late (Ok done) worked up is ends = refl
is_fault true lost late (Err Write) worked up is ends = absurd (subst (λ (e : Ending). IsOfFile e (codes "-")) is ends)
is_fault true lost late (Err NoMemory) worked up is ends = absurd cc

-- where it isn't the bus that ended the work, that was stopped
is_stopped : (given_up lost : Bool) (late : ℕ) (outcome : Result Done ScanFault) (worked : Ending) → worked ≢ Gateway
    → EndsOver (given_up || lost) (fault_of late outcome) worked → EndsOver (not given_up && lost) (or_fault given_up (fault_of late outcome)) worked
is_stopped false lost late (Ok done) worked other ends = ends
is_stopped true lost late (Ok done) worked other ends = absurd (other ends)
is_stopped given_up lost late (Err Write) worked other ends = ends
is_stopped given_up lost late (Err NoMemory) worked other ends = ends

-- none was given up
goes_on : (given_up lost : Bool) (late : ℕ) (outcome : Result Done ScanFault) (worked : Ending) → given_up ≡ false
    → EndsOver (given_up || lost) (fault_of late outcome) worked → EndsOver (not given_up && lost) (or_fault given_up (fault_of late outcome)) worked
goes_on true lost late outcome worked up ends = absurd cc
goes_on false lost late (Ok done) worked up ends = ends
goes_on false lost late (Err Write) worked up ends = ends
goes_on false lost late (Err NoMemory) worked up ends = ends

module _ {B : Type 0} (bus : BusGhosts B) (work : Work) (old : B) (first last : Listening B) (worked : Ending) (works : WorksUnseen (listening bus) work first last worked)
    (begins : Begins bus work old first) where
  pub given_up : is_given_up last.left ≡ true → worked ≡ Gateway → RunsOver bus work old Faulty
  given_up up is = record {
    first = first;
    last = last;
    begins = begins;
    outcome = works.outcome;
    does = works.does;
    ends = is_fault (is_given_up last.left) (bus.lost last.bus) (late_of bus.lost bus.late last) works.outcome worked up is works.ends;
  }

  pub stopped : worked ≢ Gateway → RunsOver bus work old worked
  stopped other = record {
    first = first;
    last = last;
    begins = begins;
    outcome = works.outcome;
    does = works.does;
    ends = is_stopped (is_given_up last.left) (bus.lost last.bus) (late_of bus.lost bus.late last) works.outcome worked other works.ends;
  }

  pub went_on : is_given_up last.left ≡ false → RunsOver bus work old worked
  went_on up = record {
    first = first;
    last = last;
    begins = begins;
    outcome = works.outcome;
    does = works.does;
    ends = goes_on (is_given_up last.left) (bus.lost last.bus) (late_of bus.lost bus.late last) works.outcome worked up works.ends;
  }
