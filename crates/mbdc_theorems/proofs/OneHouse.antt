-- A register with one meter, at primary address 1 of line 1, which has one telegram to read: a header without records.
use Rattle.std.proofs.Common.{◌≡◌, ℕ, zero, suc, List, [], ◌∷◌, length, Some, Ok, arith, refl, sym, ◌∙◌, ap, ◌≢◌, ⊎_elim, ◌+◌, ◌<◌, ◌≤◌}
use Rattle.std.specs.Prelude.{slice_get, All}
use Rattle.std.specs.List.Sorted.{IsStrictlySortedBy}
use Rattle.std.specs.Map.{keys_of}
use Rattle.std.specs.Ordering.{nat_cmp}
use Rattle.std.proofs.lemmas.List.Elements.{All-cons, All-nil}
use Rattle.dc_address.specs.Digits.{decimal_digits}
use Rattle.dc_address.specs.Identity.{identity_cmp, wire_of}
use Rattle.dc_address.specs.declared.identity.Identity.{Identity}
use Rattle.mbdc_change.specs.Body.{IsBody, body_of}
use Rattle.mbdc_change.specs.State.{State, MeterRow, row_of, PartRow, ReadingRow}
use Rattle.dc_records.specs.Body.{plain}
use Rattle.dc_records.specs.Telegram.{IsTelegram, Parsed, telegram_at}
use Rattle.dc_records.proofs.Spellings.Telegrams.{telegram_again}
use Rattle.dc_readout.specs.Meter.{Meter, first_position}
use Rattle.dc_readout.specs.World.{AreRegular, more_in, whole_readout}
use Rattle.mbdc_change.specs.Encoding.{changes_bytes, meter_bytes, part_bytes, parts_bytes, state_bytes}
use Rattle.mbdc_change.specs.History.{AcceptsAll}
use Rattle.mbdc_change.specs.Pieces.{byte, count_bytes, counted, long_bytes}
use Rattle.mbdc_change.specs.Valid.{IsChange, IsMeter, IsOpenSerial, IsPart, IsReading, IsState}
use Rattle.mbdc_change.specs.declared.change.Change.{Change}
use Rattle.mbdc_change.proofs.Lengths.{state_fits, state_some}
use Rattle.dc_sectors.specs.Disk.{Image, put}
use Rattle.dc_sectors.specs.Fields.{number_bytes}
use Rattle.dc_sectors.specs.Images.{put_elsewhere}
use Rattle.dc_sectors.specs.declared.sector.Sector.TheVariants.{Bytes}
use Rattle.mbdc_log.specs.Halves.{budget_of, fewest_sectors, half_len_of}
use Rattle.mbdc_log.specs.Roots.{first_root}
use Rattle.mbdc_log.specs.Sites.{base_site, change_site}
use Rattle.mbdc_log.specs.Stands.{IsReady, blank}
use Rattle.mbdc_log.specs.Writing.{IsWritten}
use Rattle.mbdc_log.proofs.Appended.{appended_ready}
use Rattle.mbdc_log.proofs.Formatted.{IsFormatted, formatted_ready}
use Rattle.dc_pages.specs.Group.{IsCommit, IsGroup, IsPage, commit_bytes, head_bytes, page_bytes, piece}
use Rattle.dc_pages.specs.declared.site.Site.{Site}
use Rattle.dc_core.specs.Taking.{change_of}
use Rattle.dc_meters.specs.Language.{register}
use Rattle.dc_roots.specs.Root.{root_bytes}
use Rattle.dc_roots.specs.declared.root.Root.{Root}
use Rattle.dc_roots.proofs.Spelled.{root_bytes-is_root}
use Rattle.mbdc_theorems.specs.Readout.{IsThere}
use Rattle.mbdc_theorems.specs.Carried.{Wire}
use Rattle.mbdc_theorems.specs.Every.{IsWired}

-- 12345678.PAD.01.07
abbrev pub one : Identity
one = record { number = 12_345_678; maker = 0x4024; version = 1; kind = 7; has_eight_digits = omega arith; has_letters = record { first = record { low = omega arith; high = omega arith }; second = record { low = omega arith; high = omega arith }; third = record { low = omega arith; high = omega arith } } }

abbrev pub body : List ℕ
body = 0x78 ∷ 0x56 ∷ 0x34 ∷ 0x12 ∷ 0x24 ∷ 0x40 ∷ 1 ∷ 7 ∷ 1 ∷ 0 ∷ 0 ∷ 0 ∷ []

abbrev pub meter : Meter
meter = record { identity = one; address = Some 1; bodies = body ∷ [] }

abbrev pub row : MeterRow
row = record { line = 1; address = Some 1; flat = 65 ∷ []; parts = [] }

abbrev pub house : State
house = record { meters = (one, row) ∷ []; readings = []; next_serial = 1; confirmed = 0; last_number = 0; last_line = [] }

abbrev pub wire : Wire
wire = record { meters = meter ∷ []; positions = first_position ∷ []; parts = λ x. body ∷ [] }

-- ---- its telegram

abbrev pub read_as : Parsed
read_as = record { body = body; header = record { identity = one; access = 1; status = 0; config = 0 }; records = []; ending = plain }

is_telegram : IsTelegram body read_as
unfolding wire_of decimal_digits
is_telegram = record {
  header = record { enough = omega arith; identity = refl; access = refl; status = refl; config = refl };
  unencrypted = refl;
  content = record { items = []; tail = []; parts = refl; each = tt; ends = refl; records_are = refl };
  body = refl;
}

pub reads : telegram_at body ≡ Ok read_as
reads = telegram_again body read_as is_telegram

pub is_body : IsBody (body_of read_as)
is_body = record { telegram = read_as; is_telegram = is_telegram; kept = refl; fits = omega arith }

-- ---- the meter on its line

only : (i : ℕ) (m : Meter) → slice_get (meter ∷ []) i ≡ Some m → (i ≡ 0) × (meter ≡ m)
only zero m at = (refl, cc)
only (suc i) m at = absurd cc

its_body : (b : List ℕ) (k : ℕ) → slice_get (body ∷ []) k ≡ Some b → body ≡ b
its_body b zero at = cc
its_body b (suc k) at = absurd cc

regular : AreRegular (meter ∷ [])
regular = record {
  fit = λ i j m b at there.
      let same = its_body b j (ap (λ (x : Meter). slice_get x.bodies j) (only i m at).1 ∙ there) in
      let e = ap length same in
      omega (arith, e);
  primary = λ i a m at is other.
      let e : Some 1 ≡ Some a = ap (λ (x : Meter). x.address) (only i m at).1 ∙ is in
      let same : 1 ≡ a = cc in
      omega (arith, same, other);
  addresses = λ i j a m other at there is also. (only i m at).0 ∙ sym (only j other there).0;
  apart = λ i j m other at there is. (only i m at).0 ∙ sym (only j other there).0;
}

whole : whole_readout (body ∷ []) ≡ Some (body ∷ [])
whole = rw (ap more_in reads) refl

there : IsThere (meter ∷ []) (first_position ∷ []) 0 meter (body ∷ [])
there = record {
  regular = regular;
  counted = refl;
  stands = refl;
  whole = whole;
  few = omega arith;
  own = (record { telegram = read_as; is_read = reads; own = refl }, tt);
}

-- ---- the meter in the register

pub ascends : IsStrictlySortedBy identity_cmp (keys_of house.meters)
unfolding IsStrictlySortedBy
ascends = (tt, tt)

registered : row_of one house ≡ Some row
registered = refl

pub wired : IsWired house wire one
wired = record { place = 0; meter = meter; row = row; who = refl; there = there; registered = registered; address = refl }

-- The image of that register, as it is formatted, and as it is after the change that its one telegram makes.

abbrev pub half : ℕ
half = half_len_of fewest_sectors

abbrev pub budget : ℕ
budget = budget_of half

abbrev pub root : Root
root = first_root half

-- ---- what is written

abbrev pub change : Change
change = change_of 0 1 read_as

abbrev pub part : PartRow
part = record { moment = 0; body = body }

-- the register after it
abbrev pub house_read : State
house_read = record house { readings = record { serial = 1; meter = one; flat = 65 ∷ []; parts = part ∷ [] } ∷ []; next_serial = 2 }

-- the register may be stored in one page
no_readings : IsStrictlySortedBy nat_cmp []
unfolding IsStrictlySortedBy
no_readings = tt

is_state : (room : ℕ) → 488 ≤ room → IsState room house
is_state room enough = record {
  meters_ascend = ascends;
  meters_are = All-cons IsMeter row [] (record {
    line_is = record { low = omega arith; high = omega arith };
    address_is = record { low = omega arith; high = omega arith };
    flat_is = record { some = omega arith; fits = omega arith; bytes_are = refl };
    parts_are = record { count = omega arith; each = All-nil IsPart };
  }) (All-nil IsMeter);
  readings_ascend = no_readings;
  readings_are = All-nil IsReading;
  serials_are = All-nil (λ (r : ReadingRow). IsOpenSerial 0 1 r.serial);
  next_fits = omega arith;
  confirmed_fits = omega arith;
  number_fits = omega arith;
  line_fits = omega arith;
  size_fits = omega (arith, enough);
}

pub are_changes : All IsChange (change ∷ [])
are_changes = All-cons IsChange change [] (record { part_fits = omega arith; moment_fits = omega arith; body_is = is_body }) (All-nil IsChange)

pub accepted : AcceptsAll budget house (change ∷ [])
accepted = (record { next = refl; unrefused = refl }, tt)

abbrev base : List ℕ
base = state_bytes house

abbrev added : List ℕ
added = changes_bytes (change ∷ [])

added_length : length added ≡ 23
unfolding part_bytes byte counted long_bytes
added_length = refl

-- ---- the images

abbrev base_at : Site
base_at = base_site half root

abbrev change_at : Site
change_at = change_site half root 2 5

abbrev blanks : Image
blanks = λ n. blank

-- a group of one page, at the site
abbrev grouped : Site → List ℕ → Image → Image
grouped site payload image = put (put image site.first (page_bytes site 1 0 (piece 0 payload))) (site.first + 1) (commit_bytes site 1 1)

abbrev pub image_0 : Image
image_0 = put (grouped base_at base blanks) 2 (root_bytes root)

abbrev pub image_1 : Image
image_1 = grouped change_at added image_0

base_page : IsPage base_at 1 0 (piece 0 base) (Bytes (page_bytes base_at 1 0 (piece 0 base)))
unfolding page_bytes head_bytes number_bytes meter_bytes parts_bytes part_bytes wire_of decimal_digits byte counted count_bytes long_bytes
base_page = record {
  bytes = page_bytes base_at 1 0 (piece 0 base);
  readable = refl;
  head = record { kind_is = refl; version_is = refl; used_is = refl; index_is = refl; session_is = refl; sequence_is = refl };
  content_is = refl;
}

base_commit : IsCommit base_at 1 1 (Bytes (commit_bytes base_at 1 1))
unfolding page_bytes head_bytes number_bytes
base_commit = record {
  bytes = commit_bytes base_at 1 1;
  readable = refl;
  head = record { kind_is = refl; version_is = refl; used_is = refl; index_is = refl; session_is = refl; sequence_is = refl };
}

change_page : IsPage change_at 1 0 (piece 0 added) (Bytes (page_bytes change_at 1 0 (piece 0 added)))
unfolding page_bytes head_bytes number_bytes meter_bytes parts_bytes part_bytes wire_of decimal_digits byte counted count_bytes long_bytes
change_page = record {
  bytes = page_bytes change_at 1 0 (piece 0 added);
  readable = refl;
  head = record { kind_is = refl; version_is = refl; used_is = refl; index_is = refl; session_is = refl; sequence_is = refl };
  content_is = refl;
}

change_commit : IsCommit change_at 1 1 (Bytes (commit_bytes change_at 1 1))
unfolding page_bytes head_bytes number_bytes
change_commit = record {
  bytes = commit_bytes change_at 1 1;
  readable = refl;
  head = record { kind_is = refl; version_is = refl; used_is = refl; index_is = refl; session_is = refl; sequence_is = refl };
}

base_group : IsGroup base_at 1 base 1 image_0
base_group = record {
  some = omega (arith, state_some house);
  all = omega (arith, state_fits (is_state 488 (omega arith)));
  fits = omega arith;
  page = pages;
  commit = base_commit;
}
  where
    pages : (i : ℕ) → i < 1 → IsPage base_at 1 i (piece i base) (image_0 (3 + i))
    pages zero low = base_page
    pages (suc i) low = absurd (omega (arith, low))

change_group : IsGroup change_at 1 added 1 image_1
change_group = record {
  some = omega (arith, added_length);
  all = omega (arith, added_length);
  fits = omega arith;
  page = pages;
  commit = change_commit;
}
  where
    pages : (i : ℕ) → i < 1 → IsPage change_at 1 i (piece i added) (image_1 (5 + i))
    pages zero low = change_page
    pages (suc i) low = absurd (omega (arith, low))

-- sectors that aren't the group's
outside : (site : Site) (payload : List ℕ) (image : Image) (k : ℕ) → k ≢ site.first → k ≢ site.first + 1 → grouped site payload image k ≡ image k
outside site payload image k page commit =
    put_elsewhere (put image site.first (page_bytes site 1 0 (piece 0 payload))) (site.first + 1) (commit_bytes site 1 1) k commit
    ∙ put_elsewhere image site.first (page_bytes site 1 0 (piece 0 payload)) k page

formatted : IsFormatted register half base 1 house image_0
formatted = record {
  root_is = root_bytes-is_root root (omega arith) (omega arith) (omega arith) (omega arith) (omega arith);
  group = base_group;
  spells = record { spelled = refl; is_state = is_state budget (omega arith) };
  other_slot = refl;
  behind = λ k low up.
      put_elsewhere (grouped base_at base blanks) 2 (root_bytes root) k (λ e. omega (arith, e, low))
      ∙ outside base_at base blanks k (λ e. omega (arith, e, low)) (λ e. omega (arith, e, low));
}

pub ready_0 : IsReady register half root 0 5 house image_0
ready_0 = formatted_ready register half base 1 house image_0 formatted

written : IsWritten change_at 1 added 2 image_0 image_1
written = record {
  pages = 1;
  count_is = refl;
  group = change_group;
  outside = λ k either. ⊎_elim
      (λ (low : k < 5). outside change_at added image_0 k (λ e. omega (arith, e, low)) (λ e. omega (arith, e, low)))
      (λ (past : 5 + (1 + 1) ≤ k). outside change_at added image_0 k (λ e. omega (arith, e, past)) (λ e. omega (arith, e, past)))
      either;
}

pub ready_1 : IsReady register half root 1 7 house_read image_1
ready_1 = appended_ready register half root 0 change_at house added (change ∷ []) image_0 (record {
  ready = ready_0;
  site_is = refl;
  is_sequence = omega arith;
  spells = record { spelled = refl; are_changes = are_changes };
  accepted = accepted;
}) 2 image_1 written
