-- What the commands that write an image have done, whatever was printed of it, and the endings of what stops them before.
use Rattle.std.proofs.Common.{◌≡◌, ◌<◌, ◌∙◌, inl, inr, ⊎_elim, arith, ℕ, Bool, true, false, List, [], Option, None, Some, Result, Ok, Err, IfOk, IfErr, IfSome, Bor, Global, codes, sym, subst}
use Rattle.std.specs.Prelude.{option_copied, option_map}
use Rattle.std.proofs.lemmas.Option.{IfSome_then}
use Rattle.dc_address.specs.declared.identity.Identity.{Identity}
use Rattle.dc_meters.specs.declared.house.House.{House}
use Rattle.dc_poller.specs.ImageRun.{ImageCut, ImageRan}
use Rattle.dc_poller.specs.Link.{Link}
use Rattle.dc_poller.specs.Starved.{ImageStarved}
use Rattle.dc_sectors.specs.declared.device.Disk.{Ghosts}
use Rattle.mbdc_bus.specs.Bus.{Exchange}
use Rattle.mbdc_commands.specs.Bytes.{IsPrinted}
use Rattle.mbdc_commands.specs.FitOver.{FitsOver}
use Rattle.mbdc_commands.specs.Guard.{Guards}
use Rattle.mbdc_commands.specs.PollOver.{PollsOver}
use Rattle.mbdc_commands.specs.RunOver.{Over, RunsOver}
use Rattle.mbdc_ending.specs.Outcome.{EndsAs, IsOfFile, StopsAs, opening_ended}
use Rattle.mbdc_ending.specs.declared.ending.Ending.{Ending}
use Rattle.mbdc_ending.specs.declared.ending.Ending.TheVariants.{Clean, Faulty, Words, Format, Open}
use Rattle.mbdc_ending.specs.declared.ending.Ending.TheVariants.{Behind, Disk, File, Gateway, Clock, Memory}
use Rattle.mbdc_ending.specs.declared.fault.ProgramFault.{ProgramFault}
use Rattle.mbdc_ending.specs.declared.fault.ProgramFault.TheVariants.{Read, TooLong, Write, NoMemory, Open as NotOpened}
use Rattle.mbdc_change.specs.State.{Held}
use Rattle.mbdc_fit.specs.Listed.{IsListOf}
use Rattle.mbdc_fit.specs.declared.list.listed.Listing.{Listing}
use Rattle.mbdc_fit.specs.declared.list.wish.Wish.{Wish}
use Rattle.mbdc_log.specs.declared.fault.OpenFault.{OpenFault}
use Rattle.mbdc_log.specs.declared.fault.OpenFault.TheVariants.{NotImage, Damaged, Version, Worn, Device}
use Rattle.mbdc_log.specs.declared.fault.OpenFault.TheVariants.{NoMemory as NoMemoryToOpen}
use Rattle.mbdc_poll.specs.Bus.{Bus}
use Rattle.mbdc_poll.specs.declared.events.printer.Form.{Form}
use Rattle.mbdc.proofs.Asked.{asks_each, asks_only}
use Rattle.mbdc.specs.Commands.{AnyGateway, IsDone, IsPolled, Refuses}

-- a text that was printed to a writer is one that was printed to a writer of which contracts know no byte
pub unseen : {D O : Type 0} (contents : O → Option (List ℕ)) (out : O) (other : D) (is_printed : Bool) (text : List ℕ)
    → IsPrinted contents out is_printed text → IsPrinted (λ (writer : D). None) other is_printed text
unseen contents out other true text printed = (other, tt)
unseen contents out other false text printed = tt

-- what was done is done, whatever was printed of it
pub done : {D O : Type 0} (g : Ghosts D) (wish : Wish) (contents : O → Option (List ℕ)) (out : O) (disk left : D) (ending : Ending)
    → Guards g disk left ending (λ ready. FitsOver g wish contents out ready left ending) → IsDone g wish disk ending
done g wish contents out disk left ending (inl (ready, is_ready, fits)) = (
  left,
  inl (
    ready,
    is_ready,
    record {
      outcome = fits.outcome;
      is_printed = fits.is_printed;
      ends = fits.ends;
      printed = unseen contents out ready fits.is_printed _ fits.printed;
      fitted = fits.fitted;
      broken = fits.broken;
      before = fits.before;
    },
  ),
)
done g wish contents out disk left ending (inr shut) = (left, inr shut)

-- ---- a list

-- what was read of a list is what its whole text reads as, with the register
pub listed : (text whole : List ℕ) (shown : Option (Bor (House Global))) (house : Option Held) (list : Listing) → text ≡ whole → option_copied shown ≡ house
    → IsListOf text (option_map (λ (h : Bor (House Global)). h.now.state) shown) list → IsListOf whole (option_map (λ (it : Held). it.state) house) list
listed text whole shown house list same is known =
    subst (λ (t : List ℕ). IsListOf t (option_map (λ (it : Held). it.state) house) list) same
    (subst (λ (h : Option Held). IsListOf text (option_map (λ (it : Held). it.state) h) list) is (by_shown shown known))
  where
    by_shown : (h : Option (Bor (House Global))) → IsListOf text (option_map (λ (b : Bor (House Global)). b.now.state) h) list → IsListOf text (option_map (λ (it : Held). it.state) (option_copied h)) list
    by_shown None is = is
    by_shown (Some b) is = is

-- a fault of a file is no answer
pub of_file : (ending : Ending) (name : List ℕ) → IsOfFile ending name → Refuses ending
of_file Clean name is = absurd is
of_file Faulty name is = absurd is
of_file (Words what) name is = absurd is
of_file (Format fault) name is = absurd is
of_file (Open fault) name is = absurd is
of_file (Behind sector) name is = absurd is
of_file (Disk fault) name is = absurd is
of_file (File given) name is = omega (arith)
of_file Gateway name is = absurd is
of_file Clock name is = absurd is
of_file Memory name is = absurd is

-- nor is an image that doesn't open
of_opening : (fault : OpenFault) → Refuses (opening_ended fault)
of_opening NotImage = omega (arith)
of_opening (Damaged sector) = omega (arith)
of_opening Version = omega (arith)
of_opening Worn = omega (arith)
of_opening Device = omega (arith)
of_opening NoMemoryToOpen = omega (arith)

-- nor is what stops an engine
pub of_stop : (fault : ProgramFault) (name : List ℕ) (ending : Ending) → StopsAs fault name ending → Refuses ending
of_stop Read name ending is = of_file ending name is
of_stop TooLong name ending is = of_file ending name is
of_stop Write name ending is = of_file ending (codes "-") is
of_stop NoMemory name ending is = subst Refuses (sym is) (omega (arith))
of_stop (NotOpened fault) name ending is = subst Refuses (sym is) (of_opening fault)

-- ---- a script

-- the lines that are run are those that were left of an input
pub same_lines : (left : Option (List ℕ)) (whole script : List ℕ) → IfSome left (λ text. whole ≡ text) → script ≡ whole → IfSome left (λ text. script ≡ text)
same_lines left whole script all same = IfSome_then left all (λ text is. same ∙ is)

if_ok : {X E : Type 0} (result : Result X E) (P Q : X → Type 0) → IfOk result P → ((x : X) → P x → Q x) → IfOk result Q
if_ok (Ok x) P Q known shows = shows x known
if_ok (Err e) P Q known shows = tt

if_err : {X E : Type 0} (result : Result X E) (P Q : E → Type 0) → IfErr result P → ((e : E) → P e → Q e) → IfErr result Q
if_err (Ok x) P Q known shows = tt
if_err (Err e) P Q known shows = shows e known

-- what was done is done, whatever was printed of it and went over the gateway
module _ {D O : Type 0} (g : Ghosts D) (link : Link) (script : Option (List ℕ)) (carries : List Exchange → Type 0)
    (contents : O → Option (List ℕ)) (out : O) (other disk left : D) (is_written : Bool) where
  ran : (faulty : Bool) → ImageRan g link script faulty (IsPrinted contents out is_written) carries disk left
      → ImageRan g link script faulty (IsPrinted (λ (writer : D). None) other is_written) (λ exchanges. Unit {0}) disk left
  ran faulty r =
      let s = r.went in
      let lines = s.done in
      record {
        input = r.input;
        input_is = r.input_is;
        state = r.state;
        first = r.first;
        last = r.last;
        opening = r.opening;
        went = record {
          asked = s.asked;
          rest = s.rest;
          are_read = s.are_read;
          ends = s.ends;
          done = record { deeds = lines.deeds; done = lines.done; went = lines.went; text = unseen contents out other is_written _ lines.text; carried = tt };
        };
        disk_is = r.disk_is;
      }

  cut : ImageCut g link script carries disk left → ImageCut g link script (λ exchanges. Unit {0}) disk left
  cut r =
      let s = r.went in
      record {
        input = r.input;
        input_is = r.input_is;
        state = r.state;
        first = r.first;
        last = r.last;
        opening = r.opening;
        went = record {
          asked = s.asked;
          rest = s.rest;
          are_read = s.are_read;
          deeds = s.deeds;
          done = s.done;
          part = s.part;
          part_exchanges = s.part_exchanges;
          fails = s.fails;
          went = s.went;
          carried = tt;
        };
        disk_is = r.disk_is;
      }

  starved : ImageStarved g link script (IsPrinted contents out is_written) carries disk left
      → ImageStarved g link script (IsPrinted (λ (writer : D). None) other is_written) (λ exchanges. Unit {0}) disk left
  starved r =
      let s = r.went in
      record {
        input = r.input;
        input_is = r.input_is;
        state = r.state;
        first = r.first;
        last = r.last;
        opening = r.opening;
        went = record {
          asked = s.asked;
          rest = s.rest;
          are_read = s.are_read;
          deeds = s.deeds;
          done = s.done;
          starving = s.starving;
          last = s.last;
          starves = s.starves;
          went = s.went;
          text = unseen contents out other is_written _ s.text;
          carried = tt;
        };
        disk_is = r.disk_is;
      }

-- `uses` says that what is said of a gateway is said of some exchanges
pub runs : {D O : Type 0} (g : Ghosts D) (link : Link) (script : Option (List ℕ)) (over : Over)
    (uses : (P : (List Exchange → Type 0) → Type 0) (Q : Type 0) → ((carries : List Exchange → Type 0) → P carries → Q) → over P → Q)
    (contents : O → Option (List ℕ)) (out : O) (disk left : D) (result : Result Bool ProgramFault)
    → RunsOver g link script over contents out disk left result → RunsOver g link script AnyGateway (λ (writer : D). None) disk disk left result
runs {D} g link script over uses contents out disk left result r = record {
  outcome = r.outcome;
  is_written = r.is_written;
  result_is = r.result_is;
  ran = if_ok r.outcome _ _ r.ran (λ faulty said. uses _ _ (λ carries i. ran g link script carries contents out disk disk left r.is_written faulty i) said);
  cut = λ is. uses _ _ (λ carries i. cut g link script carries contents out disk disk left r.is_written i) (r.cut is);
  starved = λ is. ⊎_elim (λ same. inl same) (λ said. inr (uses _ _ (λ carries i. starved g link script carries contents out disk disk left r.is_written i) said)) (r.starved is);
  unread = r.unread;
  unopened = r.unopened;
  silent = if_err r.outcome _ _ r.silent (λ fault quiet other. ⊎_elim (λ printed. inl (unseen contents out disk r.is_written [] printed)) (λ search. inr search) (quiet other));
  fits = r.fits;
  too_long = r.too_long;
}

pub ran_lines : {D O : Type 0} (g : Ghosts D) (link : Link) (script : Option (List ℕ)) (over : Over)
    (uses : (P : (List Exchange → Type 0) → Type 0) (Q : Type 0) → ((carries : List Exchange → Type 0) → P carries → Q) → over P → Q)
    (contents : O → Option (List ℕ)) (out : O) (disk left : D) (name : List ℕ) (ending : Ending)
    → Guards g disk left ending (λ ready. (ran : Result Bool ProgramFault) × EndsAs ran name ending × RunsOver g link script over contents out ready left ran)
    → Guards g disk left ending (λ ready. (ran : Result Bool ProgramFault) × EndsAs ran name ending × RunsOver g link script AnyGateway (λ (writer : D). None) ready ready left ran)
ran_lines g link script over uses contents out disk left name ending (inl (ready, is_ready, (result, ends, over_it))) =
    inl (ready, is_ready, (result, ends, runs g link script over uses contents out ready left result over_it))
ran_lines g link script over uses contents out disk left name ending (inr shut) = inr shut

-- ---- a poll

-- a poll is done, whatever its events were
pub polled : {D B W O : Type 0} (R : Type 0) (g : Ghosts D) (bus : Bus B) (contents : O → Option (List ℕ)) (buses : List B) (only : List Identity) (tries : ℕ) (waits : W) (out : O)
    (form : Form) (name : List ℕ) (disk left : D) (ending : Ending)
    → 0 < tries → Guards g disk left ending (λ ready. PollsOver R g bus contents buses only tries waits out form name ready left ending) → IsPolled g only name disk ending
polled R g bus contents buses only tries waits out form name disk left ending some (inl (ready, is_ready, p)) = (
  left,
  inl (
    ready,
    is_ready,
    (
      p.outcome,
      p.is_printed,
      p.ends,
      record {
        polled = if_ok p.outcome _ _ p.leaves.polled (λ done t. record {
          state = t.state;
          first = t.first;
          last = t.last;
          opening = t.opening;
          happens = record {
            happened = t.happens.happened;
            are_such = (
              asks_only bus _ _ _ _ buses only tries _ _ _ _ _ _ t.happens.happened t.happens.are_such.polled,
              asks_each bus _ _ _ _ buses only tries _ _ _ _ done _ t.happens.happened some t.happens.are_such.polled,
            );
            went = t.happens.went;
          };
          disk_is = t.disk_is;
        });
        starved = p.leaves.starved;
        unopened = p.leaves.unopened;
        faults = p.leaves.faults;
      },
    ),
  ),
)
polled R g bus contents buses only tries waits out form name disk left ending some (inr shut) = (left, inr shut)
