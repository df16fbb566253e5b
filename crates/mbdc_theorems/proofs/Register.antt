-- What the register has of a readout that goes on.
use Rattle.std.proofs.Common.{◌≡◌, ◌⊎◌, inl, inr, ℕ, ◌+◌, ◌≤◌, ◌<◌, Bool, true, false, List, [], ◌∷◌, ◌++◌, length, map, Option, Some, None, cond, arith, refl, sym, ◌∙◌, ap, subst}
use Rattle.std.specs.Prelude.{◌==◌, ◌||◌, ◌&&◌, not, nat_lt, nat_le}
use Rattle.std.proofs.lemmas.Bool.{eq-eqb, ne_eqb, le-ltb, lt-leb, or_from, or_left, or_right, and_right}
use Rattle.std.proofs.lemmas.List.{map-append, length-map}
use Rattle.std.proofs.lemmas.List.Sums.{sum_by-cons}
use Rattle.std.specs.BTreeMap.{is_at}
use Rattle.std.specs.Map.{lookup, set_value}
use Rattle.dc_address.specs.declared.identity.Identity.{Identity}
use Rattle.dc_address.specs.Identity.{identity_cmp}
use Rattle.dc_records.specs.Body.{continues}
use Rattle.dc_records.specs.Telegram.{Parsed}
use Rattle.mbdc_change.specs.declared.fault.ChangeFault.TheVariants.{Full}
use Rattle.mbdc_change.specs.Accepts.{continues as is_continued, refusal, telegram_stands}
use Rattle.mbdc_change.specs.Apply.{applied, told, heard, joined, with_row}
use Rattle.mbdc_change.specs.Body.{body_of}
use Rattle.mbdc_change.specs.Size.{part_size, parts_size, size_of}
use Rattle.mbdc_change.specs.State.{State, MeterRow, PartRow, row_of}
use Rattle.mbdc_change.specs.Fields.{end_of_numbers}
use Rattle.dc_meters.proofs.Sizes.{size_of-heard_open, size_of-heard_last, parts_size-joined}
use Rattle.dc_core.specs.Taking.{change_of}
use Rattle.dc_core.proofs.Registered.{row_of_same}
use Rattle.mbdc_theorems.specs.Readout.{body_size, room_for, with_reading}

abbrev pub bodies_of : List PartRow → List (List ℕ)
bodies_of parts = map (λ (part : PartRow). part.body) parts

-- what is open is what is acknowledged; before the first telegram anything may be open
abbrev pub IsOpen : List (List ℕ) → List PartRow → Type 0
IsOpen past opened = (past ≡ []) ⊎ (bodies_of opened ≡ past)

-- The register is the first one with the acknowledged bodies open at the meter, and has room for
-- the rest.
pub record Holds (budget : ℕ) (meter : Identity) (row : MeterRow) (first : State) (past left : List (List ℕ)) (state : State) : Type 0 where
  pub opened : List PartRow
  pub state_is : state ≡ with_row meter (record row { parts = opened }) first
  pub are_open : IsOpen past opened
  pub room : size_of state + room_for row.flat left ≤ budget

-- ---- a row that is written again

module _ {K X : Type 0} (test : K → Bool) where
  set_same : (w : X) (es : List (K × X)) → lookup test es ≡ Some w → set_value test es w ≡ es
  set_same w [] found = absurd cc
  set_same w (e ∷ es) found = here (test e.0) refl (set_same w es)
    where
      here : (b : Bool) → test e.0 ≡ b → (lookup test es ≡ Some w → set_value test es w ≡ es) → set_value test (e ∷ es) w ≡ e ∷ es
      here true at rest =
          let same : e.1 ≡ w = (let f = rw at at found in cc) in
          rw at (ap (λ (x : X). (e.0, x) ∷ es) (sym same))
      here false at rest = rw at (ap (λ (r : List (K × X)). e ∷ r) (rest (rw at at found)))

  set_again : (v w : X) (es : List (K × X)) → set_value test (set_value test es v) w ≡ set_value test es w
  set_again v w [] = refl
  set_again v w (e ∷ es) = here (test e.0) refl (set_again v w es)
    where
      here : (b : Bool) → test e.0 ≡ b → set_value test (set_value test es v) w ≡ set_value test es w → set_value test (set_value test (e ∷ es) v) w ≡ set_value test (e ∷ es) w
      here true at rest = rw (at, at) refl
      here false at rest = rw (at, at) (ap (λ (r : List (K × X)). e ∷ r) rest)

pub row_same : (meter : Identity) (row : MeterRow) (s : State) → row_of meter s ≡ Some row → with_row meter row s ≡ s
row_same meter row s found = ap (λ (meters : List (Identity × MeterRow)). record s { meters = meters }) (set_same (is_at (identity_cmp meter)) row s.meters found)

row_again : (meter : Identity) (old row : MeterRow) (s : State) → with_row meter row (with_row meter old s) ≡ with_row meter row s
row_again meter old row s = ap (λ (meters : List (Identity × MeterRow)). record s { meters = meters }) (set_again (is_at (identity_cmp meter)) old row s.meters)

-- ---- parts

pub joined_bodies : (n : ℕ) (piece : PartRow) (past : List (List ℕ)) (old : List PartRow) → length past ≡ n → IsOpen past old
    → bodies_of (joined (n + 1) piece old) ≡ past ++ piece.body ∷ []
joined_bodies n piece [] old count opened =
    let one : (n + 1 == 1) ≡ true = eq-eqb (n + 1) 1 (omega (arith, count)) in
    rw one refl
joined_bodies n piece (x ∷ past) old count (inl none) = absurd cc
joined_bodies n piece (x ∷ past) old count (inr same) =
    let other : (n + 1 == 1) ≡ false = ne_eqb (n + 1) 1 (λ e. omega (arith, count, e)) in
    rw other (map-append (λ (part : PartRow). part.body) old (piece ∷ []) ∙ ap (λ (bodies : List (List ℕ)). bodies ++ piece.body ∷ []) same)

known_next : (n : ℕ) (past : List (List ℕ)) (old : List PartRow) → length past ≡ n → IsOpen past old → (n + 1 == 1 || n + 1 == length old + 1) ≡ true
known_next n [] old count opened = or_left (n + 1 == 1) (n + 1 == length old + 1) (eq-eqb (n + 1) 1 (omega (arith, count)))
known_next n (x ∷ past) old count (inl none) = absurd cc
known_next n (x ∷ past) old count (inr same) =
    let many : length old ≡ n = sym (length-map old (λ (part : PartRow). part.body)) ∙ ap length same ∙ count in
    or_right (n + 1 == 1) (n + 1 == length old + 1) (eq-eqb (n + 1) (length old + 1) (omega (arith, many)))

-- ---- sizes

no_more : (b : Bool) (n : ℕ) → cond b 0 n ≤ n
no_more true n = omega arith
no_more false n = omega arith

pub size_open : (meter : Identity) (number : ℕ) (piece : PartRow) (now : MeterRow) (state : State) → row_of meter state ≡ Some now
    → size_of (heard meter true number piece (Some now) state) ≤ size_of state + part_size piece
size_open meter number piece now state found =
    omega (arith, size_of-heard_open meter number piece now state found, parts_size-joined number piece now.parts, no_more (number == 1) (parts_size now.parts))

pub size_last : (meter : Identity) (number : ℕ) (piece : PartRow) (now : MeterRow) (state : State) → row_of meter state ≡ Some now
    → size_of (heard meter false number piece (Some now) state) ≤ size_of state + (18 + length now.flat + part_size piece)
size_last meter number piece now state found =
    omega (arith, size_of-heard_last meter number piece now state found, parts_size-joined number piece now.parts, no_more (number == 1) (parts_size now.parts))

-- ---- the next telegram

module _ (budget n moment : ℕ) (meter : Identity) (row : MeterRow) (first : State) (past rest : List (List ℕ)) (body : List ℕ) (t : Parsed) (state : State) (registered : row_of meter first ≡ Some row) (count : length past ≡ n) (own : t.header.identity ≡ meter) (is : t.body ≡ body) (serial : first.next_serial < end_of_numbers) (holds : Holds budget meter row first past (body ∷ rest) state) where
  abbrev piece : PartRow
  piece = record { moment = moment; body = t.body }

  abbrev now : MeterRow
  now = record row { parts = holds.opened }

  found : row_of meter state ≡ Some now
  found = ap (row_of meter) holds.state_is ∙ row_of_same meter row now first registered

  abbrev pub told_by : Bool → State
  told_by more = heard meter more (n + 1) piece (Some now) state

  row_there : row_of t.header.identity state ≡ Some now
  row_there = ap (λ (m : Identity). row_of m state) own ∙ found

  pub told_is : applied (change_of moment (n + 1) t) state ≡ told_by (continues t.ending)
  told_is =
      ap (λ (o : Option MeterRow). heard t.header.identity (continues t.ending) (n + 1) piece o state) row_there
      ∙ ap (λ (m : Identity). heard m (continues t.ending) (n + 1) piece (Some now) state) own

  piece_size : part_size piece ≡ body_size body
  piece_size = ap (λ (b : List ℕ). 9 + length b) is

  pub less_room : (more : Bool) → size_of (told_by more) ≤ budget
  less_room true =
      let room = holds.room in
      omega (arith, size_open meter (n + 1) piece now state found, piece_size, sum_by-cons body_size body rest, room)
  less_room false =
      let room = holds.room in
      omega (arith, size_last meter (n + 1) piece now state found, piece_size, sum_by-cons body_size body rest, room)

  known : is_continued (n + 1) (row_of t.header.identity state) ≡ true
  known = ap (is_continued (n + 1)) row_there ∙ known_next n past holds.opened count holds.are_open

  not_full : telegram_stands budget (n + 1) moment (body_of t) state Full ≡ false
  not_full =
      let small : size_of (told (n + 1) moment (body_of t) state) ≤ budget = subst (λ (s : State). size_of s ≤ budget) (sym told_is) (less_room (continues t.ending)) in
      let early : state.next_serial < end_of_numbers = subst (λ (s : State). s.next_serial < end_of_numbers) (sym holds.state_is) serial in
      or_from (nat_lt budget (size_of (told (n + 1) moment (body_of t) state))) (not (continues t.ending) && nat_le end_of_numbers state.next_serial)
      (le-ltb budget (size_of (told (n + 1) moment (body_of t) state)) small)
      (and_right (not (continues t.ending)) (nat_le end_of_numbers state.next_serial) (lt-leb end_of_numbers state.next_serial early))

  -- it is accepted
  pub unrefused : refusal budget (change_of moment (n + 1) t) state ≡ None
  unrefused = rw (known, not_full) refl

  abbrev pub read_now : List PartRow
  read_now = joined (n + 1) piece holds.opened

  pub joined_is : bodies_of read_now ≡ past ++ body ∷ []
  joined_is = joined_bodies n piece past holds.opened count holds.are_open ∙ ap (λ (b : List ℕ). past ++ b ∷ []) is

  -- where more follow, it stays open
  pub holds_more : Holds budget meter row first (past ++ body ∷ []) rest (told_by true)
  holds_more = record {
    opened = read_now;
    state_is = ap (with_row meter (record row { parts = read_now })) holds.state_is ∙ row_again meter now (record row { parts = read_now }) first;
    are_open = inr joined_is;
    room =
        let room = holds.room in
        omega (arith, size_open meter (n + 1) piece now state found, piece_size, sum_by-cons body_size body rest, room);
  }

  -- else the reading is there
  pub reads : told_by false ≡ with_reading meter row read_now first
  reads =
      ap (λ (s : State). heard meter false (n + 1) piece (Some now) s) holds.state_is
      ∙ ap (λ (s : State). record s {
        readings = first.readings ++ record { serial = first.next_serial; meter = meter; flat = row.flat; parts = read_now } ∷ [];
        next_serial = first.next_serial + 1;
      }) (row_again meter now (record row { parts = [] }) first)
