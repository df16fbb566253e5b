-- What one more event leaves of a disk in memory.
use Rattle.std.proofs.Common.{◌≡◌, ◌<◌, ◌≤◌, ◌==◌, ℕ, Bool, true, false, ◌+◌, ◌++◌, ◌∷◌, [], List, length, get_or, set, replicate, if◌then◌else◌, sym, ◌∙◌, ap, subst, arith, inl, inr}
use Rattle.std.proofs.lemmas.Bool.{cases_eq, cases_lt}
use Rattle.std.proofs.lemmas.Bool.Decides.{nat_tests}
use Rattle.std.proofs.lemmas.List.{get_or-set_same, get_or-set_other, get_or_past, get_or-replicate, length-replicate, get_or_default}
use Rattle.std.proofs.Math.ListN.{length-set}
use Rattle.dc_sectors.specs.declared.sector.Sector.{Sector}
use Rattle.dc_sectors.specs.declared.sector.Sector.TheVariants.{Bytes, Unreadable}
use Rattle.dc_sectors.specs.declared.event.Event.{Event}
use Rattle.dc_sectors.specs.declared.event.Event.TheVariants.{Write, Sync}
use Rattle.dc_sectors.specs.Disk.{Image, IsImage, put, settled, Elapses}
use Rattle.dc_sectors.specs.Record.{image_of, reads_next, choices_next, writes_next, reads_after, choices_after, writes_after, writes_from, ImageSince, reads_from-push, choices_from-push, writes_from-push, elapses_same, elapses_push}
use Rattle.dc_sectors.specs.Memory.{IsKept, counts_of}

-- the record of a disk whose start and events are these

module _ (start start' : List Sector) (old new : List Event) where
  pub reads_pushed : (event : Event) → start' ≡ start → new ≡ old ++ event ∷ [] → reads_after (image_of start') new ≡ reads_next (reads_after (image_of start) old) event
  reads_pushed event same is = ap (λ (s : List Sector). reads_after (image_of s) new) same ∙ ap (reads_after (image_of start)) is ∙ reads_from-push (image_of start) old event

  pub choices_pushed : (event : Event) → start' ≡ start → new ≡ old ++ event ∷ [] → choices_after (image_of start') new ≡ choices_next (reads_after (image_of start) old) (choices_after (image_of start) old) event
  choices_pushed event same is = ap (λ (s : List Sector). choices_after (image_of s) new) same ∙ ap (choices_after (image_of start)) is ∙ choices_from-push (image_of start) (settled (image_of start)) old event

  pub elapses_kept : (images : Image → Type 0) → start' ≡ start → new ≡ old → Elapses (length old) (length new) (ImageSince (image_of start) old) (ImageSince (image_of start') new) images
  elapses_kept images same is =
      subst (λ (s : List Sector). Elapses (length old) (length new) (ImageSince (image_of start) old) (ImageSince (image_of s) new) images) (sym same)
      (subst (λ (l : List Event). Elapses (length old) (length l) (ImageSince (image_of start) old) (ImageSince (image_of start) l) images) (sym is) (elapses_same (image_of start) old images))

  pub elapses_pushed : (event : Event) (images : Image → Type 0) → start' ≡ start → new ≡ old ++ event ∷ []
      → ((image : Image) → IsImage (choices_next (reads_after (image_of start) old) (choices_after (image_of start) old) event) image → images image)
      → Elapses (length old) (length new) (ImageSince (image_of start) old) (ImageSince (image_of start') new) images
  elapses_pushed event images same is here =
      subst (λ (s : List Sector). Elapses (length old) (length new) (ImageSince (image_of start) old) (ImageSince (image_of s) new) images) (sym same)
      (subst (λ (l : List Event). Elapses (length old) (length l) (ImageSince (image_of start) old) (ImageSince (image_of start) l) images) (sym is) (elapses_push (image_of start) old event images here))

-- the fields stay what the record says

image_set_at : (sectors : List Sector) (n : ℕ) (bytes : List ℕ) → n < length sectors → (m : ℕ) → image_of (set sectors n (Bytes bytes)) m ≡ put (image_of sectors) n bytes m
image_set_at sectors n bytes lt m = elim (cases_eq m n) [
  | inl same ↦
      let yes : (m == n) ≡ true = grind (arith, nat_tests) in
      ap (λ k. get_or (set sectors n (Bytes bytes)) k Unreadable) same ∙ get_or-set_same sectors n (Bytes bytes) Unreadable lt ∙ sym (ap (λ b. if b then Bytes bytes else image_of sectors m) yes)
  | inr other ↦
      let no : (m == n) ≡ false = grind (arith, nat_tests) in
      get_or-set_other sectors n m (Bytes bytes) Unreadable other ∙ sym (ap (λ b. if b then Bytes bytes else image_of sectors m) no)
]

pub image_set : (sectors : List Sector) (n : ℕ) (bytes : List ℕ) → n < length sectors → image_of (set sectors n (Bytes bytes)) ≡ put (image_of sectors) n bytes
image_set sectors n bytes lt = λ i m. image_set_at sectors n bytes lt m i

counts_set_at : (writes : List ℕ) (n count : ℕ) → n < length writes → count ≡ get_or writes n count → (m : ℕ) → counts_of (set writes n (count + 1)) m ≡ (if m == n then counts_of writes m + 1 else counts_of writes m)
counts_set_at writes n count lt is m = elim (cases_eq m n) [
  | inl same ↦
      let yes : (m == n) ≡ true = grind (arith, nat_tests) in
      ap (λ k. get_or (set writes n (count + 1)) k 0) same ∙ get_or-set_same writes n (count + 1) 0 lt ∙ ap (λ k. k + 1) (is ∙ get_or_default writes n count 0 lt) ∙ ap (λ k. get_or writes k 0 + 1) (sym same)
      ∙ sym (ap (λ b. if b then counts_of writes m + 1 else counts_of writes m) yes)
  | inr other ↦
      let no : (m == n) ≡ false = grind (arith, nat_tests) in
      get_or-set_other writes n m (count + 1) 0 other ∙ sym (ap (λ b. if b then counts_of writes m + 1 else counts_of writes m) no)
]

counts_set : (writes : List ℕ) (n count : ℕ) (bytes : List ℕ) (done : Bool) → n < length writes → count ≡ get_or writes n count → counts_of (set writes n (count + 1)) ≡ writes_next (counts_of writes) (Write n bytes done)
counts_set writes n count bytes done lt is = λ i m. counts_set_at writes n count lt is m i

pub writes_more : (events : List Event) (event : Event) → writes_after (events ++ event ∷ []) ≡ writes_next (writes_after events) event
writes_more events event = writes_from-push (λ n. 0) events event

counts_none_at : (count m : ℕ) → counts_of (replicate count 0) m ≡ 0
counts_none_at count m = elim (cases_lt m count) [
  | inl lt ↦ get_or-replicate count m 0 0 lt
  | inr past ↦ get_or_past (replicate count 0) m 0 (omega (arith, past, length-replicate {A = ℕ} count 0))
]

pub counts_none : (none : List ℕ) (count : ℕ) → none ≡ replicate count 0 → counts_of none ≡ (λ n. 0)
counts_none none count is = ap counts_of is ∙ (λ i m. counts_none_at count m i)

module _ (start reads : List Sector) (writes : List ℕ) (events new : List Event) where
  -- a write that failed
  pub kept_failed : (n count : ℕ) (bytes : List ℕ) → new ≡ events ++ Write n bytes false ∷ [] → n < length start → count ≡ get_or writes n count → IsKept start reads writes events
      → IsKept start reads (set writes n (count + 1)) new
  kept_failed n count bytes is lt counts kept =
      let within : n < length writes = omega (arith, kept.writes_length, lt) in
      record {
        reading = kept.reading ∙ sym (ap (reads_after (image_of start)) is ∙ reads_from-push (image_of start) events (Write n bytes false));
        written = counts_set writes n count bytes false within counts ∙ ap (λ w. writes_next w (Write n bytes false)) kept.written ∙ sym (ap writes_after is ∙ writes_more events (Write n bytes false));
        reads_length = kept.reads_length;
        writes_length = length-set writes n (count + 1) ∙ kept.writes_length;
        small = kept.small;
      }

  -- one that was done
  pub kept_done : (n count : ℕ) (bytes : List ℕ) → new ≡ events ++ Write n bytes true ∷ [] → n < length start → count ≡ get_or writes n count → IsKept start reads writes events
      → IsKept start (set reads n (Bytes bytes)) (set writes n (count + 1)) new
  kept_done n count bytes is lt counts kept =
      let within : n < length writes = omega (arith, kept.writes_length, lt) in
      let inside : n < length reads = omega (arith, kept.reads_length, lt) in
      record {
        reading = image_set reads n bytes inside ∙ ap (λ (image : Image). put image n bytes) kept.reading ∙ sym (ap (reads_after (image_of start)) is ∙ reads_from-push (image_of start) events (Write n bytes true));
        written = counts_set writes n count bytes true within counts ∙ ap (λ w. writes_next w (Write n bytes true)) kept.written ∙ sym (ap writes_after is ∙ writes_more events (Write n bytes true));
        reads_length = length-set reads n (Bytes bytes) ∙ kept.reads_length;
        writes_length = length-set writes n (count + 1) ∙ kept.writes_length;
        small = kept.small;
      }

  -- a sync
  pub kept_synced : (none : List ℕ) → new ≡ events ++ Sync ∷ [] → none ≡ replicate (length writes) 0 → IsKept start reads writes events → IsKept start reads none new
  kept_synced none is zeros kept = record {
    reading = kept.reading ∙ sym (ap (reads_after (image_of start)) is ∙ reads_from-push (image_of start) events Sync);
    written = counts_none none (length writes) zeros ∙ sym (ap writes_after is ∙ writes_more events Sync);
    reads_length = kept.reads_length;
    writes_length = ap length zeros ∙ length-replicate {A = ℕ} (length writes) 0 ∙ kept.writes_length;
    small = kept.small;
  }

-- how often a sector was written fits a usize, as the record's length does

writes_from_le : (writes : ℕ → ℕ) (events : List Event) (n : ℕ) → writes_from writes events n ≤ writes n + length events
writes_from_le writes [] n = omega arith
writes_from_le writes (Write at bytes done ∷ events) n =
    omega (arith, writes_from_le (writes_next writes (Write at bytes done)) events n, at_most (n == at))
  where
    at_most : (here : Bool) → (if here then writes n + 1 else writes n) ≤ writes n + 1
    at_most true = omega arith
    at_most false = omega arith
writes_from_le writes (Sync ∷ events) n = omega (arith, writes_from_le (λ m. 0) events n)

pub writes_small : (writes : List ℕ) (events : List Event) (n count : ℕ) → counts_of writes ≡ writes_after events → n < length writes → count ≡ get_or writes n count → count ≤ length events
writes_small writes events n count written lt is =
    omega (arith, is ∙ get_or_default writes n count 0 lt ∙ ap (λ (w : ℕ → ℕ). w n) written, writes_from_le (λ m. 0) events n)
