-- A script whose text was written in another way.
use Rattle.std.proofs.Common.{◌≡◌, ◌⊎◌, inl, inr, ⊎_elim, ◌≤◌, ◌<◌, ℕ, Bool, true, List, [], length, Option, Result, Ok, Err, IfOk, IfErr, IfSome, OnOk, refl, sym, subst, ◌∙◌}
use Rattle.std.specs.Prelude.{◌≢◌, IsErrOf}
use Rattle.std.proofs.KnownBytes.{Appends-nil}
use Rattle.mbdc_commands.specs.Bytes.{IsPrinted}
use Rattle.mbdc_commands.specs.Ending.{run_result}
use Rattle.mbdc_commands.specs.RunOver.{Over, RunsOver}
use Rattle.dc_sectors.specs.declared.device.Disk.{Ghosts}
use Rattle.mbdc_ending.specs.Fault.{IfOpen, IsOfReading}
use Rattle.mbdc_ending.specs.Unopened.{IsUnopened}
use Rattle.mbdc_ending.specs.declared.fault.ProgramFault.{ProgramFault}
use Rattle.mbdc_ending.specs.declared.fault.ProgramFault.TheVariants.{TooLong, Write, NoMemory}
use Rattle.mbdc_io.specs.Lines.{most_input}
use Rattle.dc_poller.specs.ImageRun.{ImageCut, ImageRan}
use Rattle.dc_poller.specs.Link.{Link}
use Rattle.dc_poller.specs.Starved.{ImageStarved, IsOfSearch}
use Rattle.mbdc_bus.specs.Bus.{Exchange}

module _ {D : Type 0} (g : Ghosts D) (link : Link) (script : Option (List ℕ)) (wrote written : List ℕ → Type 0) (carries : List Exchange → Type 0) (disk new : D)
    (shows : (text : List ℕ) → wrote text → written text) where
  pub ran_as : (faulty : Bool) → ImageRan g link script faulty wrote carries disk new → ImageRan g link script faulty written carries disk new
  ran_as faulty r =
      let done = r.went.done in
      record {
        input = r.input;
        input_is = r.input_is;
        state = r.state;
        first = r.first;
        last = r.last;
        opening = r.opening;
        went = record {
          asked = r.went.asked;
          rest = r.went.rest;
          are_read = r.went.are_read;
          ends = r.went.ends;
          done = record { deeds = done.deeds; done = done.done; went = done.went; text = shows _ done.text; carried = done.carried };
        };
        disk_is = r.disk_is;
      }

  pub starved_as : ImageStarved g link script wrote carries disk new → ImageStarved g link script written carries disk new
  starved_as r =
      let s = r.went in
      record {
        input = r.input;
        input_is = r.input_is;
        state = r.state;
        first = r.first;
        last = r.last;
        opening = r.opening;
        went = record {
          asked = s.asked;
          rest = s.rest;
          are_read = s.are_read;
          deeds = s.deeds;
          done = s.done;
          starving = s.starving;
          last = s.last;
          starves = s.starves;
          went = s.went;
          text = shows _ s.text;
          carried = s.carried;
        };
        disk_is = r.disk_is;
      }

-- ---- the command

if_ok_with : {X E : Type 0} (result : Result X E) (P Q : X → Type 0) → IfOk result P → ((x : X) → result ≡ Ok x → P x → Q x) → IfOk result Q
if_ok_with (Ok x) P Q known shows = shows x refl known
if_ok_with (Err e) P Q known shows = tt

if_err_with : {X E : Type 0} (result : Result X E) (P Q : E → Type 0) → IfErr result P → ((e : E) → result ≡ Err e → P e → Q e) → IfErr result Q
if_err_with (Ok x) P Q known shows = tt
if_err_with (Err e) P Q known shows = shows e refl known

module _ {D O : Type 0} (g : Ghosts D) (link : Link) (over : Over)
    (maps : (P Q : (List Exchange → Type 0) → Type 0) → ((carries : List Exchange → Type 0) → P carries → Q carries) → over P → over Q)
    (contents : O → Option (List ℕ)) (out : O) (disk left : D) where
  -- memory ran out before anything was done
  pub none_done : (script : Option (List ℕ)) → RunsOver g link script over contents out disk disk (Err NoMemory)
  none_done script = record {
    outcome = Err NoMemory;
    is_written = true;
    result_is = refl;
    ran = tt;
    cut = λ is. cc;
    starved = λ is. inl refl;
    unread = λ of_reading. inl refl;
    unopened = tt;
    silent = λ other. inl (out, Appends-nil (contents out));
    fits = tt;
    too_long = λ is. cc;
  }

  -- a script was run between a reader and a writer: `wrote` says of a text that it was put into the writer, and `same`
  -- that the writer is as before
  pub runs_so : (outcome result : Result Bool ProgramFault) (is_written : Bool) (given script : Option (List ℕ)) (wrote : List ℕ → Type 0) (same : Type 0)
      → given ≡ script → result ≡ run_result outcome is_written
      → (¬ (IsErrOf outcome Write) → (text : List ℕ) → wrote text → IsPrinted contents out is_written text)
      → (same → wrote [])
      → (IfOk outcome (λ faulty. over (λ carries. ImageRan g link given faulty wrote carries disk left)))
      → (IsErrOf outcome Write → over (λ carries. ImageCut g link given carries disk left))
      → (IsErrOf outcome NoMemory → ((left ≡ disk) × same) ⊎ over (λ carries. ImageStarved g link given wrote carries disk left))
      → IfErr outcome (λ fault. IsOfReading fault → (left ≡ disk) ⊎ IsOfSearch link fault)
      → IfErr outcome (λ fault. IfOpen fault (IsUnopened g disk left))
      → IfErr outcome (λ fault. fault ≢ Write → same ⊎ IsOfSearch link fault)
      → OnOk outcome (IfSome given (λ input. length input ≤ most_input))
      → (IsErrOf outcome TooLong → IfSome given (λ input. most_input < length input))
      → RunsOver g link script over contents out disk left result
  runs_so outcome result is_written given script wrote same is result_is shows none ran cut starved unread unopened untouched fits too_long =
      let other_ok : (faulty : Bool) → outcome ≡ Ok faulty → ¬ (IsErrOf outcome Write) = λ faulty ok write. cc in
      let no_memory : outcome ≡ Err NoMemory → ¬ (IsErrOf outcome Write) = λ full write. cc in
      record {
        outcome = outcome;
        is_written = is_written;
        result_is = result_is;
        ran = if_ok_with outcome _ _ ran (λ faulty ok. maps _ _ (λ carries r. subst (λ (s : Option (List ℕ)). ImageRan g link s faulty (IsPrinted contents out is_written) carries disk left) is
            (ran_as g link given wrote (IsPrinted contents out is_written) carries disk left (shows (other_ok faulty ok)) faulty r)));
        cut = λ write. maps _ _ (λ carries r. subst (λ (s : Option (List ℕ)). ImageCut g link s carries disk left) is r) (cut write);
        starved = λ full. ⊎_elim (λ unchanged. inl unchanged.0) (λ r. inr (maps _ _ (λ carries s. subst (λ (t : Option (List ℕ)). ImageStarved g link t (IsPrinted contents out is_written) carries disk left) is
            (starved_as g link given wrote (IsPrinted contents out is_written) carries disk left (shows (no_memory full)) s)) r)) (starved full);
        unread = unread;
        unopened = unopened;
        silent = if_err_with outcome _ _ untouched (λ fault err so other. ⊎_elim (λ unchanged. inl (shows (λ write. other (let both : Err fault ≡ Err Write = sym err ∙ write in cc)) [] (none unchanged))) (λ search. inr search) (so other));
        fits = subst (λ (s : Option (List ℕ)). OnOk outcome (IfSome s (λ input. length input ≤ most_input))) is fits;
        too_long = λ long. subst (λ (s : Option (List ℕ)). IfSome s (λ input. most_input < length input)) is (too_long long);
      }
