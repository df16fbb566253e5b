-- A record of writes and syncs: what is read after it, the possible contents, and the images of its
-- moments.
use Rattle.std.specs.Prelude.{◌≡◌, ◌⊎◌, ◌==◌, ◌<◌, ℕ, ◌+◌, ◌≤◌, slice_index_or, true, false, List}
use Rattle.std.specs.Prelude.{[], ◌∷◌, ◌++◌, length, take, if◌then◌else◌, refl}
use Rattle.std.proofs.Common.{sym, subst, arith, inl, inr, length-append}
use Rattle.std.proofs.lemmas.List.{take_all, take-append-le}
use Rattle.dc_sectors.specs.declared.sector.Sector.{Sector}
use Rattle.dc_sectors.specs.declared.sector.Sector.TheVariants.{Unreadable}
use Rattle.dc_sectors.specs.declared.event.Event.{Event}
use Rattle.dc_sectors.specs.declared.event.Event.TheVariants.{Write, Sync}
use Rattle.dc_sectors.specs.Disk.{Image, Choices, IsImage, put, added, settled, Elapses}
use Rattle.dc_sectors.specs.Images.{within_added, image_within, put_added, settled_is_image}

-- what these sectors read; no sector exists after the last
abbrev pub image_of : List Sector → Image
image_of sectors = λ n. slice_index_or sectors n Unreadable

-- what each sector reads after one more event; a write that failed leaves it
abbrev pub reads_next : Image → Event → Image
reads_next image (Write at bytes is_done) = if is_done then put image at bytes else image
reads_next image Sync = image

-- the possible contents of each sector after one more event; a write that failed counts as written
abbrev pub choices_next : Image → Choices → Event → Choices
choices_next image choices (Write at bytes is_done) = added choices at bytes
choices_next image choices Sync = settled image

-- number of writes of each sector since the sync, after one more event
abbrev pub writes_next : (ℕ → ℕ) → Event → ℕ → ℕ
writes_next writes (Write at bytes is_done) = λ n. if n == at then writes n + 1 else writes n
writes_next writes Sync = λ n. 0

-- what each sector reads after these events, from an image
abbrev pub reads_from : Image → List Event → Image
reads_from image [] = image
reads_from image (event ∷ events) = reads_from (reads_next image event) events

-- the possible contents of each sector after these events, from an image and its possible contents
abbrev pub choices_from : Image → Choices → List Event → Choices
choices_from image choices [] = choices
choices_from image choices (event ∷ events) =
    choices_from (reads_next image event) (choices_next image choices event) events

abbrev pub writes_from : (ℕ → ℕ) → List Event → ℕ → ℕ
writes_from writes [] = writes
writes_from writes (event ∷ events) = writes_from (writes_next writes event) events

-- the same from an image that was settled

-- what each sector reads after these events, from the start
abbrev pub reads_after : Image → List Event → Image
reads_after start events = reads_from start events

-- the possible contents of each sector after these events, where the start was synced
abbrev pub choices_after : Image → List Event → Choices
choices_after start events = choices_from start (settled start) events

abbrev pub writes_after : List Event → ℕ → ℕ
writes_after events = writes_from (λ n. 0) events

-- an image of some moment from t on: after t events or more
abbrev pub ImageSince : Image → List Event → ℕ → Image → Type 0
ImageSince start events t image =
    (k : ℕ) × (t ≤ k) × (k ≤ length events) × IsImage (choices_after start (take k events)) image

-- the last event counts last

pub reads_from-push : (image : Image) (events : List Event) (event : Event)
    → reads_from image (events ++ event ∷ []) ≡ reads_next (reads_from image events) event
reads_from-push image [] event = refl
reads_from-push image (e ∷ events) event = reads_from-push (reads_next image e) events event

pub choices_from-push : (image : Image) (choices : Choices) (events : List Event) (event : Event)
    → choices_from image choices (events ++ event ∷ [])
    ≡ choices_next (reads_from image events) (choices_from image choices events) event
choices_from-push image choices [] event = refl
choices_from-push image choices (e ∷ events) event =
    choices_from-push (reads_next image e) (choices_next image choices e) events event

pub writes_from-push : (writes : ℕ → ℕ) (events : List Event) (event : Event)
    → writes_from writes (events ++ event ∷ []) ≡ writes_next (writes_from writes events) event
writes_from-push writes [] event = refl
writes_from-push writes (e ∷ events) event = writes_from-push (writes_next writes e) events event

-- what is read is one of the possible contents

next_choice : (image : Image) (choices : Choices) (event : Event) → IsImage choices image
    → IsImage (choices_next image choices event) (reads_next image event)
next_choice image choices (Write at bytes is_done) is =
    elim is_done as (λ done. IsImage (added choices at bytes)
    (if done then put image at bytes else image)) [
      | true ↦ put_added choices image at bytes is
      | false ↦ image_within choices (added choices at bytes)
          (within_added choices at bytes) image is
    ]
next_choice image choices Sync is = settled_is_image image

choice_from : (image : Image) (choices : Choices) (events : List Event) → IsImage choices image
    → IsImage (choices_from image choices events) (reads_from image events)
choice_from image choices [] is = is
choice_from image choices (e ∷ events) is =
    choice_from (reads_next image e) (choices_next image choices e) events
    (next_choice image choices e is)

pub reads_a_choice : (start : Image) (events : List Event)
    → IsImage (choices_after start events) (reads_after start events)
reads_a_choice start events = choice_from start (settled start) events (settled_is_image start)

-- this moment is the last

pub counts_now : (start : Image) (events : List Event) (t : ℕ) (image : Image) → t ≤ length events
    → IsImage (choices_after start events) image → ImageSince start events t image
counts_now start events t image le is = (
  length events,
  le,
  omega arith,
  subst (λ (l : List Event). IsImage (choices_after start l) image)
      (sym (take_all (length events) events (omega arith))) is,
)

pub only_now : (start : Image) (events : List Event) (image : Image)
    → ImageSince start events (length events) image → IsImage (choices_after start events) image
only_now start events image since =
    subst (λ (l : List Event). IsImage (choices_after start l) image)
    (take_all since.0 events since.1) since.3

-- time goes on

-- by no event
pub elapses_same : (start : Image) (events : List Event) (images : Image → Type 0)
    → Elapses (length events) (length events) (ImageSince start events)
    (ImageSince start events) images
elapses_same start events images =
    record {
      later = omega arith;
      nothing_else = λ t image le since. inl since;
      keeps = λ t image le since. since;
    }

-- by one event
pub elapses_push : (start : Image) (events : List Event) (event : Event) (images : Image → Type 0)
    → ((image : Image) → IsImage (choices_next (reads_after start events)
    (choices_after start events) event) image → images image)
    → Elapses (length events) (length (events ++ event ∷ [])) (ImageSince start events)
    (ImageSince start (events ++ event ∷ [])) images
elapses_push start events event images here = record {
  later = omega (arith, longer);
  nothing_else = λ t image le since.
      earlier_or_last t image since (le_or_lt since.0 (length events));
  keeps = λ t image le since. (
    since.0,
    since.1,
    omega (arith, longer, since.2),
    subst (λ (l : List Event). IsImage (choices_after start l) image)
        (sym (take-append-le since.0 events (event ∷ []) since.2)) since.3,
  );
}
  where
    longer : length (events ++ event ∷ []) ≡ length events + 1
    longer = omega (arith, length-append events (event ∷ []))

    le_or_lt : (k n : ℕ) → (k ≤ n) ⊎ (n < k)
    le_or_lt k n = grind arith

    earlier_or_last : (t : ℕ) (image : Image)
        → (since : ImageSince start (events ++ event ∷ []) t image) → (since.0 ≤ length events)
        ⊎ (length events < since.0) → ImageSince start events t image ⊎ images image
    earlier_or_last t image since (inl le) =
        inl (
          since.0,
          since.1,
          le,
          subst (λ (l : List Event). IsImage (choices_after start l) image)
              (take-append-le since.0 events (event ∷ []) le) since.3,
        )
    earlier_or_last t image since (inr lt) =
        inr (here image (subst (λ (c : Choices). IsImage c image)
        (choices_from-push start (settled start) events event)
        (subst (λ (l : List Event). IsImage (choices_after start l) image)
        (take_all since.0 (events ++ event ∷ []) (omega (arith, longer, lt))) since.3)))
