-- What the calls of a disk over a file do to what its history says.
use Rattle.std.proofs.Common.{◌≡◌, ◌≢◌, ◌⊎◌, ℕ, Bool, true, false, ◌++◌, ◌∷◌, [], List, length, refl, sym, ◌∙◌, ap, subst, arith, inl, inr}
use Rattle.std.specs.Prelude.{◌*◌, ◌/◌, Option, Some, None, Result, Ok, Err, OnOk, OnErr}
use Rattle.dc_sectors.specs.declared.sector.ReadFault.{ReadFault}
use Rattle.dc_sectors.specs.declared.sector.ReadFault.TheVariants.{Unreadable as CannotRead, Failed as ReadFailed}
use Rattle.dc_sectors.specs.declared.sector.Failed.{Failed}
use Rattle.dc_sectors.specs.declared.sector.Sector.TheVariants.{Bytes, Unreadable}
use Rattle.dc_sectors.specs.declared.event.Event.{Event}
use Rattle.dc_sectors.specs.declared.event.Event.TheVariants.{Write, Sync}
use Rattle.dc_sectors.specs.Disk.{Image, Choices, IsImage, Answers, Elapses, put, added, settled}
use Rattle.dc_sectors.specs.Images.{put_elsewhere, image_within, settled_within}
use Rattle.dc_sectors.specs.Record.{reads_next, choices_next, reads_after, choices_after, ImageSince, reads_from-push, choices_from-push, elapses_same, elapses_push, reads_a_choice}
use Rattle.dc_sectors.specs.FileCalls.{Call, Measured, Got, Put, Synced}
use Rattle.dc_sectors.specs.File.{FileState, is_all, IsReadOf, IsWriteOf, IsSyncOf, events_of, moment_in, KeepsRule}

abbrev pub reads_at : Image → FileState → Image
reads_at start disk = reads_after start (events_of disk.calls)

abbrev pub choices_at : Image → FileState → Choices
choices_at start disk = choices_after start (events_of disk.calls)

abbrev pub images_at : Image → FileState → ℕ → Image → Type 0
images_at start disk = ImageSince start (events_of disk.calls)

module _ (start : Image) (old new : FileState) where
  -- nothing was written or synced

  pub reads_rest : events_of new.calls ≡ events_of old.calls → reads_at start new ≡ reads_at start old
  reads_rest is = ap (reads_after start) is

  pub choices_rest : events_of new.calls ≡ events_of old.calls → choices_at start new ≡ choices_at start old
  choices_rest is = ap (choices_after start) is

  pub time_rest : (images : Image → Type 0) → events_of new.calls ≡ events_of old.calls → Elapses (moment_in old) (moment_in new) (images_at start old) (images_at start new) images
  time_rest images is =
      let was = events_of old.calls in
      subst (λ (l : List Event). Elapses (length was) (length l) (ImageSince start was) (ImageSince start l) images) (sym is) (elapses_same start was images)

  -- one event more

  pub reads_more : (event : Event) → events_of new.calls ≡ events_of old.calls ++ event ∷ [] → reads_at start new ≡ reads_next (reads_at start old) event
  reads_more event is = ap (reads_after start) is ∙ reads_from-push start (events_of old.calls) event

  pub choices_more : (event : Event) → events_of new.calls ≡ events_of old.calls ++ event ∷ [] → choices_at start new ≡ choices_next (reads_at start old) (choices_at start old) event
  choices_more event is = ap (choices_after start) is ∙ choices_from-push start (settled start) (events_of old.calls) event

  pub time_more : (event : Event) (images : Image → Type 0) → events_of new.calls ≡ events_of old.calls ++ event ∷ []
      → ((image : Image) → IsImage (choices_next (reads_at start old) (choices_at start old) event) image → images image)
      → Elapses (moment_in old) (moment_in new) (images_at start old) (images_at start new) images
  time_more event images is here =
      let was = events_of old.calls in
      subst (λ (l : List Event). Elapses (length was) (length l) (ImageSince start was) (ImageSince start l) images) (sym is) (elapses_push start was event images here)

-- a read

module _ (start : Image) (old new : FileState) (n : ℕ) where
  read_events : (result : Result (List ℕ) ReadFault) → IsReadOf old n result new.calls → events_of new.calls ≡ events_of old.calls
  read_events (Ok bytes) made = ap events_of made.2
  read_events (Err ReadFailed) (inl made) = ap events_of made.1
  read_events (Err ReadFailed) (inr made) = ap events_of made.3
  read_events (Err CannotRead) made = ap events_of made.1

  pub read_kept : (result : Result (List ℕ) ReadFault) → IsReadOf old n result new.calls → KeepsRule start new.calls → Answers (reads_at start old n) result
  read_kept (Ok bytes) made keeps = (subst (λ (l : List Call). KeepsRule start l) made.2 keeps).1 n refl made.1
  read_kept (Err ReadFailed) made keeps = tt
  read_kept (Err CannotRead) made keeps = (subst (λ (l : List Call). KeepsRule start l) made.1 keeps).1 n refl refl

  pub read_before : (result : Result (List ℕ) ReadFault) → IsReadOf old n result new.calls → KeepsRule start new.calls → KeepsRule start old.calls
  read_before (Ok bytes) made keeps = (subst (λ (l : List Call). KeepsRule start l) made.2 keeps).0
  read_before (Err ReadFailed) (inl made) keeps = subst (λ (l : List Call). KeepsRule start l) made.1 keeps
  read_before (Err ReadFailed) (inr made) keeps = (subst (λ (l : List Call). KeepsRule start l) made.3 keeps).0
  read_before (Err CannotRead) made keeps = (subst (λ (l : List Call). KeepsRule start l) made.1 keeps).0

  pub read_reads : (result : Result (List ℕ) ReadFault) → IsReadOf old n result new.calls → reads_at start new ≡ reads_at start old
  read_reads result made = reads_rest start old new (read_events result made)

  pub read_choices : (result : Result (List ℕ) ReadFault) → IsReadOf old n result new.calls → choices_at start new ≡ choices_at start old
  read_choices result made = choices_rest start old new (read_events result made)

  pub read_time : (result : Result (List ℕ) ReadFault) → IsReadOf old n result new.calls
      → Elapses (moment_in old) (moment_in new) (images_at start old) (images_at start new) (IsImage (choices_at start old))
  read_time result made = time_rest start old new (IsImage (choices_at start old)) (read_events result made)

-- a write

sector_at : (n : ℕ) → 512 * n / 512 ≡ n
sector_at n = omega arith

module _ (start : Image) (old new : FileState) (n : ℕ) (bytes : List ℕ) where
  write_event : (taken : Option ℕ) (done : Bool) → is_all taken ≡ done → new.calls ≡ Put (512 * n) bytes taken ∷ old.calls → events_of new.calls ≡ events_of old.calls ++ Write n bytes done ∷ []
  write_event taken done whole is =
      ap events_of is ∙ ap (λ m. events_of old.calls ++ Write m bytes (is_all taken) ∷ []) (sector_at n) ∙ ap (λ d. events_of old.calls ++ Write n bytes d ∷ []) whole

  pub write_before : (result : Result (Unit {0}) Failed) → IsWriteOf old n bytes result new.calls → KeepsRule start new.calls → KeepsRule start old.calls
  write_before (Ok u) made keeps = (subst (λ (l : List Call). KeepsRule start l) made.1 keeps).0
  write_before (Err e) (inl made) keeps = subst (λ (l : List Call). KeepsRule start l) made.1 keeps
  write_before (Err e) (inr made) keeps = (subst (λ (l : List Call). KeepsRule start l) made.3 keeps).0

  pub write_reads : (result : Result (Unit {0}) Failed) → IsWriteOf old n bytes result new.calls → OnOk result (reads_at start new ≡ put (reads_at start old) n bytes)
  write_reads (Ok u) made = reads_more start old new (Write n bytes true) (write_event (Some 512) true refl made.1)
  write_reads (Err e) made = tt

  pub write_elsewhere : (result : Result (Unit {0}) Failed) → IsWriteOf old n bytes result new.calls → (m : ℕ) → m ≢ n → reads_at start new m ≡ reads_at start old m
  write_elsewhere (Ok u) made m other =
      ap (λ (image : Image). image m) (reads_more start old new (Write n bytes true) (write_event (Some 512) true refl made.1)) ∙ put_elsewhere (reads_at start old) n bytes m other
  write_elsewhere (Err e) (inl made) m other = ap (λ (image : Image). image m) (reads_rest start old new (ap events_of made.1))
  write_elsewhere (Err e) (inr made) m other = ap (λ (image : Image). image m) (reads_more start old new (Write n bytes false) (write_event made.0 false made.2 made.3))

  pub write_choices : (result : Result (Unit {0}) Failed) → IsWriteOf old n bytes result new.calls → OnOk result (choices_at start new ≡ added (choices_at start old) n bytes)
  write_choices (Ok u) made = choices_more start old new (Write n bytes true) (write_event (Some 512) true refl made.1)
  write_choices (Err e) made = tt

  pub write_choices_err : (result : Result (Unit {0}) Failed) → IsWriteOf old n bytes result new.calls
      → OnErr result ((choices_at start new ≡ added (choices_at start old) n bytes) ⊎ (choices_at start new ≡ choices_at start old))
  write_choices_err (Ok u) made = tt
  write_choices_err (Err e) (inl made) = inr (choices_rest start old new (ap events_of made.1))
  write_choices_err (Err e) (inr made) = inl (choices_more start old new (Write n bytes false) (write_event made.0 false made.2 made.3))

  pub write_time : (result : Result (Unit {0}) Failed) → IsWriteOf old n bytes result new.calls
      → Elapses (moment_in old) (moment_in new) (images_at start old) (images_at start new) (IsImage (added (choices_at start old) n bytes))
  write_time (Ok u) made = time_more start old new (Write n bytes true) (IsImage (added (choices_at start old) n bytes)) (write_event (Some 512) true refl made.1) (λ image is. is)
  write_time (Err e) (inl made) = time_rest start old new (IsImage (added (choices_at start old) n bytes)) (ap events_of made.1)
  write_time (Err e) (inr made) = time_more start old new (Write n bytes false) (IsImage (added (choices_at start old) n bytes)) (write_event made.0 false made.2 made.3) (λ image is. is)

-- a sync

module _ (start : Image) (old new : FileState) where
  pub sync_before : (result : Result (Unit {0}) Failed) → IsSyncOf old result new.calls → KeepsRule start new.calls → KeepsRule start old.calls
  sync_before (Ok u) made keeps = (subst (λ (l : List Call). KeepsRule start l) made.1 keeps).0
  sync_before (Err e) (inl made) keeps = subst (λ (l : List Call). KeepsRule start l) made.1 keeps
  sync_before (Err e) (inr made) keeps = (subst (λ (l : List Call). KeepsRule start l) made.1 keeps).0

  pub sync_reads : (result : Result (Unit {0}) Failed) → IsSyncOf old result new.calls → reads_at start new ≡ reads_at start old
  sync_reads (Ok u) made = reads_more start old new Sync (ap events_of made.1)
  sync_reads (Err e) (inl made) = reads_rest start old new (ap events_of made.1)
  sync_reads (Err e) (inr made) = reads_rest start old new (ap events_of made.1)

  pub sync_choices : (result : Result (Unit {0}) Failed) → IsSyncOf old result new.calls → OnOk result (choices_at start new ≡ settled (reads_at start old))
  sync_choices (Ok u) made = choices_more start old new Sync (ap events_of made.1)
  sync_choices (Err e) made = tt

  pub sync_choices_err : (result : Result (Unit {0}) Failed) → IsSyncOf old result new.calls → OnErr result (choices_at start new ≡ choices_at start old)
  sync_choices_err (Ok u) made = tt
  sync_choices_err (Err e) (inl made) = choices_rest start old new (ap events_of made.1)
  sync_choices_err (Err e) (inr made) = choices_rest start old new (ap events_of made.1)

  pub sync_time : (result : Result (Unit {0}) Failed) → IsSyncOf old result new.calls
      → Elapses (moment_in old) (moment_in new) (images_at start old) (images_at start new) (IsImage (choices_at start old))
  sync_time (Ok u) made =
      time_more start old new Sync (IsImage (choices_at start old)) (ap events_of made.1)
      (image_within (settled (reads_at start old)) (choices_at start old) (settled_within (choices_at start old) (reads_at start old) (reads_a_choice start (events_of old.calls))))
  sync_time (Err e) (inl made) = time_rest start old new (IsImage (choices_at start old)) (ap events_of made.1)
  sync_time (Err e) (inr made) = time_rest start old new (IsImage (choices_at start old)) (ap events_of made.1)

-- The hypothesis can be met: a file that answers as the model states keeps to it, whatever it held.

pub keeps_at_start : (start : Image) → KeepsRule start []
keeps_at_start start = tt

pub keeps_measured : (start : Image) (calls : List Call) (n : Option ℕ) → KeepsRule start calls → KeepsRule start (Measured n ∷ calls)
keeps_measured start calls n keeps = (keeps, tt)

pub keeps_put : (start : Image) (calls : List Call) (at : ℕ) (bytes : List ℕ) (taken : Option ℕ) → KeepsRule start calls → KeepsRule start (Put at bytes taken ∷ calls)
keeps_put start calls at bytes taken keeps = (keeps, tt)

pub keeps_synced : (start : Image) (calls : List Call) (done : Bool) → KeepsRule start calls → KeepsRule start (Synced done ∷ calls)
keeps_synced start calls done keeps = (keeps, tt)

pub keeps_got : (start : Image) (calls : List Call) (n : ℕ) (bytes : List ℕ) → reads_after start (events_of calls) n ≡ Bytes bytes → KeepsRule start calls → KeepsRule start (Got (512 * n) 512 (Ok bytes) ∷ calls)
keeps_got start calls n bytes reads keeps =
    (keeps, λ m same long. let here : m ≡ n = omega arith in subst (λ k. reads_after start (events_of calls) k ≡ Bytes bytes) (sym here) reads)

pub keeps_unreadable : (start : Image) (calls : List Call) (n : ℕ) → reads_after start (events_of calls) n ≡ Unreadable → KeepsRule start calls → KeepsRule start (Got (512 * n) 512 (Err CannotRead) ∷ calls)
keeps_unreadable start calls n reads keeps =
    (keeps, λ m same long. let here : m ≡ n = omega arith in subst (λ k. reads_after start (events_of calls) k ≡ Unreadable) (sym here) reads)

pub keeps_not_got : (start : Image) (calls : List Call) (at n : ℕ) → KeepsRule start calls → KeepsRule start (Got at n (Err ReadFailed) ∷ calls)
keeps_not_got start calls at n keeps = (keeps, tt)
