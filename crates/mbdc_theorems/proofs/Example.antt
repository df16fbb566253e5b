-- A telegram without records: its header, and how it ends.
use Rattle.std.proofs.Common.{◌≡◌, ℕ, suc, ◌+◌, Ok, List, [], ◌∷◌, ◌++◌, length, take, drop, get_or, arith, refl, sym, ◌∙◌, ap, length-append, zero, ◌≤◌, Bool, true, Option, Some, None, cond}
use Rattle.std.specs.Prelude.{slice_index, slice_get}
use Rattle.std.proofs.Math.Seq.{take-append_seam}
use Rattle.std.proofs.lemmas.List.{get_or-append-add}
use Rattle.std.specs.BTreeMap.{is_at}
use Rattle.std.specs.Ordering.{is_eq}
use Rattle.dc_address.specs.declared.identity.Identity.{Identity}
use Rattle.dc_address.specs.Identity.{wire_of, identity_cmp}
use Rattle.dc_address.proofs.Identities.{length-wire_of}
use Rattle.dc_records.specs.declared.header.Header.{Header}
use Rattle.dc_records.specs.Body.{Ending, IsEnd, plain, more, continues}
use Rattle.dc_records.specs.Header.{BeginsWithHeader}
use Rattle.dc_records.specs.Telegram.{Parsed, IsTelegram, telegram_at}
use Rattle.dc_records.proofs.Spellings.Telegrams.{telegram_again}
use Rattle.dc_address.proofs.Order.{equal_to_itself}
use Rattle.dc_readout.specs.Meter.{Meter, Position}
use Rattle.dc_readout.specs.Regular.{IsOwnOnly}
use Rattle.dc_readout.specs.World.{AreRegular, more_in, more_after, whole_readout}
use Rattle.mbdc_change.specs.State.{State, MeterRow, row_of}
use Rattle.mbdc_change.specs.Size.{size_of}
use Rattle.mbdc_theorems.specs.HouseMet.{bare_body, first_body, last_body}
use Rattle.mbdc_theorems.specs.Readout.{IsOwnTelegram, IsThere, MayBeMet, PremisesAreMet, room_for}

drop_past : (xs ys : List ℕ) (k : ℕ) → drop (length xs + k) (xs ++ ys) ≡ drop k ys
drop_past [] ys k = let e : 0 + k ≡ k = omega arith in ap (λ (n : ℕ). drop n ys) e
drop_past (x ∷ xs) ys k =
    let e : length (x ∷ xs) + k ≡ suc (length xs + k) = omega arith in
    ap (λ (n : ℕ). drop n (x ∷ xs ++ ys)) e ∙ drop_past xs ys k

module _ (identity : Identity) (end : List ℕ) (ending : Ending) (ends : IsEnd end ending) where
  abbrev wire : List ℕ
  wire = wire_of identity

  eight : length wire ≡ 8
  eight = length-wire_of identity

  abbrev behind : List ℕ
  behind = 1 ∷ 0 ∷ 0 ∷ 0 ∷ end

  abbrev header : Header
  header = record { identity = identity; access = 1; status = 0; config = 0 }

  abbrev pub telegram : Parsed
  telegram = record { body = bare_body identity end; header = header; records = []; ending = ending }

  byte_at : (k : ℕ) → slice_index (bare_body identity end) (8 + k) ≡ get_or behind k 0
  byte_at k = ap (λ (n : ℕ). get_or (bare_body identity end) (n + k) 0) (sym eight) ∙ get_or-append-add wire behind k 0

  begins : BeginsWithHeader (bare_body identity end) header
  begins = record {
    enough = let sum = length-append wire behind in omega (arith, sum, eight);
    identity = ap (λ (n : ℕ). take n (bare_body identity end)) (sym eight) ∙ take-append_seam wire behind;
    access = sym (byte_at 0);
    status = sym (byte_at 1);
    config = let low = byte_at 2 in let high = byte_at 3 in omega (arith, low, high);
  }

  content_is : drop 12 (bare_body identity end) ≡ end
  content_is = let e : 12 ≡ length wire + 4 = omega (arith, eight) in ap (λ (n : ℕ). drop n (bare_body identity end)) e ∙ drop_past wire behind 4

  is_telegram : IsTelegram (bare_body identity end) telegram
  is_telegram = record {
    header = begins;
    unencrypted = refl;
    content = record { items = []; tail = end; parts = content_is; each = tt; ends = ends; records_are = refl };
    body = refl;
  }

  pub reads : telegram_at (bare_body identity end) ≡ Ok telegram
  reads = telegram_again (bare_body identity end) telegram is_telegram

  pub long_as : length (bare_body identity end) ≡ 12 + length end
  long_as =
      let sum = length-append wire behind in
      omega (arith, sum, eight)

-- A house whose meter may be read.

module _ (identity : Identity) (address : Option ℕ) (position : Position) (own_only : IsOwnOnly address) where
  follows : (end : List ℕ) (ending : Ending) → IsEnd end ending → more_after (bare_body identity end) ≡ continues ending
  follows end ending ends = ap more_in (reads identity end ending ends)

  abbrev pub parts : List (List ℕ)
  parts = first_body identity ∷ last_body identity ∷ []

  abbrev pub meter : Meter
  meter = record { identity = identity; address = address; bodies = parts }

  abbrev pub row : MeterRow
  row = record { line = 1; address = address; flat = 65 ∷ []; parts = [] }

  abbrev pub state : State
  state = record { meters = (identity, row) ∷ []; readings = []; next_serial = 1; confirmed = 0; last_number = 0; last_line = [] }

  pub registered : row_of identity state ≡ Some row
  registered =
      let itself : is_at (identity_cmp identity) identity ≡ true = ap is_eq (equal_to_itself identity) in
      ap (λ (b : Bool). cond b (Some row) None) itself

  only : (i : ℕ) (m : Meter) → slice_get (meter ∷ []) i ≡ Some m → (i ≡ 0) × (meter ≡ m)
  only zero m e = (refl, cc)
  only (suc i) m e = absurd cc

  pub fits : (j : ℕ) (b : List ℕ) → slice_get parts j ≡ Some b → length b ≤ 252
  fits zero b e =
      let same : first_body identity ≡ b = cc in
      let size = long_as identity (0x1F ∷ []) (more []) refl in
      let one = ap length same in
      omega (arith, size, one)
  fits (suc zero) b e =
      let same : last_body identity ≡ b = cc in
      let size = long_as identity [] plain refl in
      let one = ap length same in
      omega (arith, size, one)
  fits (suc (suc j)) b e = absurd cc

  regular : AreRegular (meter ∷ [])
  regular = record {
    fit = λ i j m b at there. fits j b (ap (λ (x : Meter). slice_get x.bodies j) (only i m at).1 ∙ there);
    primary = λ i a m at is. own_only a (ap (λ (x : Meter). x.address) (only i m at).1 ∙ is);
    addresses = λ i j a one other at there is also. (only i one at).0 ∙ sym (only j other there).0;
    apart = λ i j one other at there is. (only i one at).0 ∙ sym (only j other there).0;
  }

  whole : whole_readout parts ≡ Some parts
  whole = rw (follows (0x1F ∷ []) (more []) refl, follows [] plain refl) refl

  own_part : (end : List ℕ) (ending : Ending) → IsEnd end ending → IsOwnTelegram identity (bare_body identity end)
  own_part end ending ends = record { telegram = telegram identity end ending ends; is_read = reads identity end ending ends; own = refl }

  pub there : IsThere (meter ∷ []) (position ∷ []) 0 meter parts
  there = record {
    regular = regular;
    counted = refl;
    stands = refl;
    whole = whole;
    few = omega arith;
    own = (own_part (0x1F ∷ []) (more []) refl, (own_part [] plain refl, tt));
  }

  pub room : size_of state + room_for row.flat parts ≤ 1000
  room =
      let one = long_as identity (0x1F ∷ []) (more []) refl in
      let two = long_as identity [] plain refl in
      omega (arith, one, two)

  pub met : MayBeMet identity address position
  met = record {
    state = state;
    meter = meter;
    row = row;
    parts = parts;
    who = refl;
    whom = refl;
    two = refl;
    may = record {
      begins = record { there = there; lines = refl; may_start = rw registered refl; registered = registered; address = refl };
      room = room;
      serial = omega arith;
    };
  }

pub premises_are_met : PremisesAreMet
premises_are_met identity address position own_only = met identity address position own_only
