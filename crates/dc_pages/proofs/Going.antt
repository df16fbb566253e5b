-- A group on the way, from one call to the next.
use Rattle.std.proofs.Common.{◌≡◌, ℕ, ◌≤◌, ◌+◌, ◌*◌, List, [], ◌++◌, length, drop, Result, Ok, Err, OnErr, subst, sym, arith, ap, ◌∙◌, refl}
use Rattle.std.proofs.lemmas.List.{length-append, length-drop, drop-append-le, drop_all, take_all}
use Rattle.dc_sectors.specs.declared.device.Disk.{Ghosts}
use Rattle.dc_pages.specs.Draft.{Draft}
use Rattle.dc_pages.specs.Group.{piece}
use Rattle.dc_pages.specs.PagesWriting.{IsOnDisk, IsGoing}
use Rattle.dc_pages.proofs.Turning.{more_buffered}

pub on_err_always : {T E P : Type 0} (r : Result T E) → P → OnErr r P
on_err_always (Ok x) p = tt
on_err_always (Err e) p = p

module _ {D : Type 0} (g : Ghosts D) where
  abbrev going : D → D → Draft → List ℕ → Type 0
  going = IsGoing g

  -- what the buffer holds is the next piece
  pub next_piece : (start disk : D) (draft : Draft) (payload : List ℕ) → length draft.buffer ≤ 488 → going start disk draft payload → draft.buffer ≡ piece draft.pages payload
  next_piece start disk draft payload small is =
      let count = is.count in
      is.buffered ∙ sym (take_all 488 (drop (488 * draft.pages) payload) (omega (arith, length-drop (488 * draft.pages) payload)))

  -- the page in the buffer was full, and was written
  pub going_flushed : (start disk new : D) (draft : Draft) (payload : List ℕ) → 488 ≤ length draft.buffer → length draft.buffer ≤ 488 → going start disk draft payload
      → IsOnDisk g start new draft.site draft.session (draft.pages + 1) payload
      → going start new (record draft { pages = draft.pages + 1; buffer = [] }) payload
  going_flushed start disk new draft payload full small is on_disk =
      let count = is.count in
      record { count = omega arith; buffered = sym (drop_all (488 * (draft.pages + 1)) payload (omega arith)); on_disk = on_disk }

  -- more bytes in the buffer
  pub going_filled : (start disk : D) (draft : Draft) (payload bytes : List ℕ) → going start disk draft payload → going start disk (record draft { buffer = draft.buffer ++ bytes }) (payload ++ bytes)
  going_filled start disk draft payload bytes is =
      let count = is.count in
      record {
        count = omega (arith, length-append payload bytes, length-append draft.buffer bytes);
        buffered = ap (λ (l : List ℕ). l ++ bytes) is.buffered ∙ sym (drop-append-le (488 * draft.pages) payload bytes (omega arith));
        on_disk = more_buffered g draft.site draft.session start disk draft.pages payload bytes (omega arith) is.on_disk;
      }

-- what a step leaves of a draft: its site and its session
pub same_through : (a b draft : Draft) → b ≡ record a { pages = b.pages; buffer = b.buffer } → draft ≡ record b { pages = draft.pages; buffer = draft.buffer }
    → draft ≡ record a { pages = draft.pages; buffer = draft.buffer }
same_through a b draft first second = second ∙ ap (λ (d : Draft). record d { pages = draft.pages; buffer = draft.buffer }) first

pub same_filled : (b draft : Draft) (buffer : List ℕ) → draft ≡ record b { buffer = buffer } → draft ≡ record b { pages = draft.pages; buffer = draft.buffer }
same_filled b draft buffer e = let P : Draft → Type 0 = λ d. d ≡ record b { pages = d.pages; buffer = d.buffer } in subst P (sym e) refl
