-- What a power cut leaves of a file, and the next disk over it (the laws of src/laws.rt).
use Rattle.std.proofs.Common.{◌≡◌, ◌≢◌, ◌≤◌, ◌+◌, ℕ, zero, suc, Bool, true, false, List, [], ◌∷◌, length, take, refl, sym, ◌∙◌, ap, subst, arith}
use Rattle.std.specs.Prelude.{Some, replicate, Contains}
use Rattle.dc_sectors.specs.declared.sector.Sector.{Sector}
use Rattle.dc_sectors.specs.declared.sector.Sector.TheVariants.{Bytes, Unreadable}
use Rattle.dc_sectors.specs.declared.event.Event.{Event}
use Rattle.dc_sectors.specs.declared.event.Event.TheVariants.{Write, Sync}
use Rattle.dc_sectors.specs.Disk.{Image, Choices, settled, added}
use Rattle.dc_sectors.specs.Images.{put_elsewhere, added_elsewhere, only_one}
use Rattle.dc_sectors.specs.Record.{image_of, reads_next, choices_from, ImageSince, reads_a_choice, counts_now}
use Rattle.dc_sectors.specs.FileCalls.{Put}
use Rattle.dc_sectors.specs.File.{FileState, opened_on, start_of, events_of, choices_in, images_in}

abbrev pub sector_of : ℕ → Sector
sector_of byte = Bytes (replicate 512 byte)

abbrev pub of_zeros : FileState
of_zeros = opened_on 1 (sector_of 0 ∷ [])

-- after one write
abbrev pub written : FileState
written = record of_zeros { calls = Put 0 (replicate 512 1) (Some 512) ∷ of_zeros.calls }

abbrev pub of_ones : FileState
of_ones = opened_on 1 (sector_of 1 ∷ [])

left_each : (n : ℕ) → Contains (choices_in written n) (image_of (sector_of 1 ∷ []) n)
left_each zero = reads_a_choice (start_of written) (events_of written.calls) zero
left_each (suc n) =
    let other : suc n ≢ 0 = λ is. absurd (omega (arith, is)) in
    subst (Contains (choices_in written (suc n))) (put_elsewhere (start_of written) 0 (replicate 512 1) (suc n) other)
    (reads_a_choice (start_of written) (events_of written.calls) (suc n))

pub is_left : images_in written 0 (image_of (sector_of 1 ∷ []))
is_left = counts_now (start_of written) (events_of written.calls) 0 (image_of (sector_of 1 ∷ [])) (omega arith) left_each

first_byte : List Sector → ℕ
first_byte [] = 0
first_byte (Bytes [] ∷ more) = 0
first_byte (Bytes (byte ∷ bytes) ∷ more) = byte
first_byte (Unreadable ∷ more) = 0

pub differ : of_ones.start ≢ of_zeros.start
unfolding first_byte
differ same =
    let one : first_byte of_ones.start ≡ 1 = refl in
    let none : first_byte of_zeros.start ≡ 0 = refl in
    let equal = ap first_byte same in
    absurd (omega (arith, one, none, equal))

-- ---- each image that is left is that of a list

past_the_last : (sectors : List Sector) (n : ℕ) → length sectors ≤ n → image_of sectors n ≡ Unreadable
past_the_last [] n past = refl
past_the_last (sector ∷ sectors) zero past = absurd (omega (arith, past))
past_the_last (sector ∷ sectors) (suc n) past = past_the_last sectors n (omega (arith, past))

-- a number above each sector that was written
abbrev above : List Event → ℕ
above [] = 0
above (Write at bytes done ∷ events) = at + 1 + above events
above (Sync ∷ events) = above events

unwritten : (image : Image) (at : ℕ) (bytes : List ℕ) (done : Bool) (n : ℕ) → n ≢ at → reads_next image (Write at bytes done) n ≡ image n
unwritten image at bytes true n other = put_elsewhere image at bytes n other
unwritten image at bytes false n other = refl

none_above : (image : Image) (choices : Choices) (events : List Event) (n : ℕ) → above events ≤ n → image n ≡ Unreadable → choices n ≡ Unreadable ∷ [] → choices_from image choices events n ≡ Unreadable ∷ []
none_above image choices [] n le reads are = are
none_above image choices (Write at bytes done ∷ events) n le reads are =
    let other : n ≢ at = λ is. absurd (omega (arith, le, is)) in
    none_above (reads_next image (Write at bytes done)) (added choices at bytes) events n (omega (arith, le)) (unwritten image at bytes done n other ∙ reads) (added_elsewhere choices at bytes n other ∙ are)
none_above image choices (Sync ∷ events) n le reads are = none_above image (settled image) events n le reads (ap (λ (s : Sector). s ∷ []) reads)

-- the first sectors of an image
cut : ℕ → Image → List Sector
cut zero image = []
cut (suc n) image = image 0 ∷ cut n (λ k. image (suc k))

cut_is : (n : ℕ) (image : Image) → ((k : ℕ) → n ≤ k → image k ≡ Unreadable) → (k : ℕ) → image_of (cut n image) k ≡ image k
unfolding cut
cut_is zero image none k = sym (none k (omega arith))
cut_is (suc n) image none zero = refl
cut_is (suc n) image none (suc k) = cut_is n (λ j. image (suc j)) (λ j le. none (suc j) (omega (arith, le))) k

pub left_sectors : (start : List Sector) (events : List Event) (t : ℕ) (image : Image) → ImageSince (image_of start) events t image → (left : List Sector) × (image_of left ≡ image)
left_sectors start events t image since =
    let seen = take since.0 events in
    let bound = length start + above seen in
    let none : (k : ℕ) → bound ≤ k → image k ≡ Unreadable = λ k le.
    let reads = past_the_last start k (omega (arith, le)) in
    only_one Unreadable (image k) (subst (λ (c : List Sector). Contains c (image k)) (none_above (image_of start) (settled (image_of start)) seen k (omega (arith, le)) reads (ap (λ (s : Sector). s ∷ []) reads)) (since.3 k)) in
    (cut bound image, λ i n. cut_is bound image none n i)
