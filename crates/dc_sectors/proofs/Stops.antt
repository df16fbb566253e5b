-- What a crash leaves.
use Rattle.std.proofs.Common.{◌≡◌, ◌<◌, ◌≤◌, ◌⊎◌, ◌==◌, ℕ, suc, true, false, inl, inr, ◌+◌, ◌*◌, ◌^◌, ◌++◌, ◌∷◌, [], List, length, get_or, set, take, drop, replicate, if◌then◌else◌, refl, sym, ◌∙◌, ap, subst, arith, length-append}
use Rattle.std.specs.Prelude.{Contains}
use Rattle.std.specs.List.{AllZip}
use Rattle.std.proofs.lemmas.Bool.{cases_eq, cases_lt}
use Rattle.std.proofs.lemmas.Bool.Decides.{nat_tests}
use Rattle.std.proofs.lemmas.List.{take_at, get_or_past, get_or-set_same, get_or-set_other, length-replicate}
use Rattle.std.proofs.lemmas.List.Elements.{Contains-append_right, Contains-get_or, Contains-push}
use Rattle.dc_sectors.specs.declared.sector.Sector.{Sector}
use Rattle.dc_sectors.specs.declared.sector.Sector.TheVariants.{Bytes, Unreadable}
use Rattle.dc_sectors.specs.declared.event.Event.{Event}
use Rattle.dc_sectors.specs.declared.event.Event.TheVariants.{Write, Sync}
use Rattle.dc_sectors.specs.declared.pick.Pick.{Pick}
use Rattle.dc_sectors.specs.declared.pick.Pick.TheVariants.{Old, Written, Unreadable as Lost}
use Rattle.dc_sectors.specs.Disk.{Image, Choices, IsImage, settled}
use Rattle.dc_sectors.specs.Record.{image_of, reads_next, choices_next, writes_next, choices_from, writes_from, reads_after, choices_after, writes_after, reads_a_choice}
use Rattle.dc_sectors.specs.Memory.{IsKept, picked, picked_from, pending_below}
use Rattle.dc_sectors.proofs.Kept.{counts_none}

-- there are as many picks as pending sectors
pub AllZip-length : {X Y : Type 0} (R : X → Y → Type 0) (xs : List X) (ys : List Y) → AllZip R xs ys → length ys ≡ length xs
AllZip-length R [] [] all = refl
AllZip-length R [] (y ∷ ys) all = absurd all
AllZip-length R (x ∷ xs) [] all = absurd all
AllZip-length R (x ∷ xs) (y ∷ ys) all = ap (λ n. suc n) (AllZip-length R xs ys all.1)

-- a sector has a choice, and where it was written it may be unreadable
record Held (choices : List Sector) (writes : ℕ) : Type 0 where
  some : 0 < length choices
  torn : 0 < writes → Contains choices Unreadable

settled_held : (sector : Sector) → Held (sector ∷ []) 0
settled_held sector = record { some = omega arith; torn = λ some. absurd (omega (arith, some)) }

held_next : (image : Image) (choices : Choices) (writes : ℕ → ℕ) (event : Event) (n : ℕ) → Held (choices n) (writes n) → Held (choices_next image choices event n) (writes_next writes event n)
held_next image choices writes (Write at bytes is_done) n held =
    let two = Bytes bytes ∷ Unreadable ∷ [] in
    elim (n == at) as (λ here. Held (if here then choices n ++ two else choices n) (if here then writes n + 1 else writes n)) [
      | true ↦ record { some = omega (arith, length-append (choices n) two, held.some); torn = λ _. Contains-append_right (choices n) two Unreadable (Contains-push (Bytes bytes ∷ []) Unreadable) }
      | false ↦ held
    ]
held_next image choices writes Sync n held = settled_held (image n)

held_from : (image : Image) (choices : Choices) (writes : ℕ → ℕ) (events : List Event) (n : ℕ) → Held (choices n) (writes n) → Held (choices_from image choices events n) (writes_from writes events n)
held_from image choices writes [] n held = held
held_from image choices writes (e ∷ events) n held = held_from (reads_next image e) (choices_next image choices e) (writes_next writes e) events n (held_next image choices writes e n held)

-- what is picked of a pending sector is one of its possible contents
picked_choice : (choices : List Sector) (writes : ℕ) (pick : Pick) → Held choices writes → 0 < writes → Contains choices (picked choices pick)
picked_choice choices writes Old held some = Contains-get_or choices 0 Unreadable held.some
picked_choice choices writes (Written k) held some = within (cases_lt (2 * k + 1) (length choices))
  where
    within : (2 * k + 1 < length choices) ⊎ (length choices ≤ 2 * k + 1) → Contains choices (get_or choices (2 * k + 1) Unreadable)
    within (inl lt) = Contains-get_or choices (2 * k + 1) Unreadable lt
    within (inr past) = subst (λ s. Contains choices s) (sym (get_or_past choices (2 * k + 1) Unreadable past)) (held.torn some)
picked_choice choices writes Lost held some = held.torn some

module _ (start : Image) (events : List Event) (picks : List Pick) where
  abbrev writes : ℕ → ℕ
  writes = writes_after events

  abbrev pick_of : ℕ → Pick
  pick_of n = get_or picks (length (pending_below writes n)) Old

  pub picked_idle : (n : ℕ) → writes n ≡ 0 → picked_from start events picks n ≡ reads_after start events n
  picked_idle n none =
      let yes : (writes n == 0) ≡ true = grind (arith, nat_tests) in
      ap (λ b. if b then reads_after start events n else picked (choices_after start events n) (pick_of n)) yes

  pub picked_pending : (n : ℕ) → 0 < writes n → picked_from start events picks n ≡ picked (choices_after start events n) (pick_of n)
  picked_pending n some =
      let no : (writes n == 0) ≡ false = grind (arith, nat_tests) in
      ap (λ b. if b then reads_after start events n else picked (choices_after start events n) (pick_of n)) no

  pub picked_is_image : IsImage (choices_after start events) (picked_from start events picks)
  picked_is_image n = elim (cases_eq (writes n) 0) [
    | inl none ↦ subst (λ s. Contains (choices_after start events n) s) (sym (picked_idle n none)) (reads_a_choice start events n)
    | inr some ↦
        let written : 0 < writes n = omega (arith, some) in
        subst (λ s. Contains (choices_after start events n) s) (sym (picked_pending n written))
        (picked_choice (choices_after start events n) (writes n) (pick_of n) (held_from start (settled start) (λ _. 0) events n (settled_held (start n))) written)
  ]

-- one sector more of a disk whose sectors read so

module _ (was : List Sector) (start : Image) (events : List Event) (picks : List Pick) (n : ℕ) (reads : List Sector)
    (below : (m : ℕ) → m < n → image_of reads m ≡ picked_from start events picks m) (above : (m : ℕ) → n ≤ m → image_of reads m ≡ image_of was m) where
  pub above_more : (m : ℕ) → n + 1 ≤ m → image_of reads m ≡ image_of was m
  above_more m past = above m (omega (arith, past))

  -- it isn't pending
  pub below_idle : image_of was ≡ reads_after start events → writes_after events n ≡ 0 → (m : ℕ) → m < n + 1 → image_of reads m ≡ picked_from start events picks m
  below_idle reading none m lt = elim (cases_eq m n) [
    | inl same ↦ ap (image_of reads) same ∙ above n (omega arith) ∙ ap (λ (image : Image). image n) reading ∙ sym (picked_idle start events picks n none) ∙ ap (picked_from start events picks) (sym same)
    | inr other ↦ below m (omega (arith, lt, other))
  ]

  -- it is, and this was picked
  pub below_pending : (sector : Sector) → n < length reads → sector ≡ picked_from start events picks n → (m : ℕ) → m < n + 1 → image_of (set reads n sector) m ≡ picked_from start events picks m
  below_pending sector within is m lt = elim (cases_eq m n) [
    | inl same ↦ ap (image_of (set reads n sector)) same ∙ get_or-set_same reads n sector Unreadable within ∙ is ∙ ap (picked_from start events picks) (sym same)
    | inr other ↦ get_or-set_other reads n m sector Unreadable other ∙ below m (omega (arith, lt, other))
  ]

  pub above_pending : (sector : Sector) → (m : ℕ) → n + 1 ≤ m → image_of (set reads n sector) m ≡ image_of was m
  above_pending sector m past = get_or-set_other reads n m sector Unreadable (λ e. omega (arith, past, e)) ∙ above m (omega (arith, past))

-- past the last sector nothing is pending
pub picked_all : (was reads start : List Sector) (writes : List ℕ) (events : List Event) (picks : List Pick) → IsKept start was writes events
    → ((m : ℕ) → m < length writes → image_of reads m ≡ picked_from (image_of start) events picks m) → ((m : ℕ) → length writes ≤ m → image_of reads m ≡ image_of was m)
    → (m : ℕ) → image_of reads m ≡ picked_from (image_of start) events picks m
picked_all was reads start writes events picks kept below above m = elim (cases_lt m (length writes)) [
  | inl lt ↦ below m lt
  | inr past ↦
      let none : writes_after events m ≡ 0 = ap (λ (w : ℕ → ℕ). w m) (sym kept.written) ∙ get_or_past writes m 0 past in
      above m past ∙ ap (λ (image : Image). image m) kept.reading ∙ sym (picked_idle (image_of start) events picks m none)
]

-- after a crash the record begins anew
pub kept_stopped : (start reads : List Sector) (none : List ℕ) (events : List Event) → start ≡ reads → none ≡ replicate (length start) 0 → events ≡ [] → length start < 2 ^ 32 → IsKept start reads none events
kept_stopped start reads none events same zeros nothing small = record {
  reading = ap image_of (sym same) ∙ ap (reads_after (image_of start)) (sym nothing);
  written = counts_none none (length start) zeros ∙ ap writes_after (sym nothing);
  reads_length = ap length (sym same);
  writes_length = ap length zeros ∙ length-replicate {A = ℕ} (length start) 0;
  small = small;
}

-- a Vec whose slice was written whole
pub take_written : (new old : List Sector) (len : ℕ) → length new ≡ len → take len (new ++ drop (length new) old) ≡ new
take_written new old len same = take_at new (drop (length new) old) len same
