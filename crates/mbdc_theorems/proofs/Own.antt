-- What a telegram of the readout makes of the register.
use Rattle.std.proofs.Common.{◌≡◌, inr, ℕ, ◌+◌, ◌≤◌, Bool, true, false, Option, Some, Ok, List, [], ◌∷◌, ◌++◌, length, drop, arith, refl, sym, ◌∙◌, ap, subst, length-append}
use Rattle.std.specs.List.{AllByRecursion}
use Rattle.std.specs.Ordering.{is_eq}
use Rattle.std.proofs.lemmas.List.Elements.{filter-append}
use Rattle.dc_address.specs.declared.identity.Identity.{Identity}
use Rattle.dc_address.proofs.Order.{equal_to_itself}
use Rattle.dc_records.specs.Body.{continues}
use Rattle.dc_records.specs.Telegram.{Parsed, telegram_at}
use Rattle.dc_records.proofs.Spellings.Telegrams.{telegram_takes}
use Rattle.dc_readout.specs.Answer.{max_parts}
use Rattle.dc_readout.specs.Meter.{Meter}
use Rattle.dc_readout.specs.World.{more_in, more_after, whole_readout}
use Rattle.mbdc_change.specs.Apply.{applied, heard as told_at, joined as joined_rows}
use Rattle.mbdc_change.specs.State.{State, MeterRow, PartRow, ReadingRow, row_of}
use Rattle.dc_meters.specs.Orders.{is_of}
use Rattle.dc_core.specs.Taking.{change_of}
use Rattle.dc_core.proofs.Registered.{row_of_same}
use Rattle.mbdc_theorems.specs.Beside.{readings_of, HasRead}
use Rattle.mbdc_theorems.specs.Readout.{IsOwnTelegram}
use Rattle.mbdc_theorems.proofs.Parts.{Next, next_of}
use Rattle.mbdc_theorems.proofs.Register.{bodies_of, IsOpen, joined_bodies}
use Rattle.mbdc_theorems.proofs.Others.{one_of}

module _ (first : State) (meter : Meter) (row : MeterRow) (parts : List (List ℕ)) where
  -- the acknowledged bodies are open at the meter, and it has no new reading
  pub record Open (past : List (List ℕ)) (state : State) : Type 0 where
    pub opened : List PartRow
    pub found : row_of meter.identity state ≡ Some (record row { parts = opened })
    pub are_open : IsOpen past opened
    pub readings : readings_of meter.identity state ≡ readings_of meter.identity first

  -- ---- the next telegram

  pub record Telegram (settled : ℕ) (left : List (List ℕ)) : Type 0 where
    pub next_one : Next meter.bodies settled left
    pub t : Parsed
    pub read : telegram_at next_one.body ≡ Ok t
    pub own : t.header.identity ≡ meter.identity
    pub others : AllByRecursion (IsOwnTelegram meter.identity) next_one.rest
    pub body_is : t.body ≡ next_one.body
    pub more_is : more_after next_one.body ≡ continues t.ending
    pub last : settled + 1 ≡ max_parts → continues t.ending ≡ false

  unless_true : (more : Bool) → (more ≡ true → ⊥) → more ≡ false
  unless_true true never = absurd (never refl)
  unless_true false never = refl

  pub some_left : (settled : ℕ) (left : List (List ℕ)) → whole_readout (drop settled meter.bodies) ≡ Some left → 1 ≤ length left
  some_left settled left whole =
      let n = next_of meter.bodies settled left whole in
      let one = ap length n.left_is in
      omega (arith, one)

  pub telegram : (few : length parts ≤ max_parts) (settled : ℕ) (past left : List (List ℕ)) → length past ≡ settled → past ++ left ≡ parts → whole_readout (drop settled meter.bodies) ≡ Some left → AllByRecursion (IsOwnTelegram meter.identity) left → Telegram settled left
  telegram few settled past left count parts_are whole own =
      let n = next_of meter.bodies settled left whole in
      let all : AllByRecursion (IsOwnTelegram meter.identity) (n.body ∷ n.rest) = subst (AllByRecursion (IsOwnTelegram meter.identity)) n.left_is own in
      let t : Parsed = all.0.telegram in
      let more_is : more_after n.body ≡ continues t.ending = ap more_in all.0.is_read in
      record {
        next_one = n;
        t = t;
        read = all.0.is_read;
        own = all.0.own;
        others = all.1;
        body_is = (telegram_takes n.body t all.0.is_read).body;
        more_is = more_is;
        last = λ full. unless_true (continues t.ending) (λ more.
            let behind = next_of meter.bodies (settled + 1) n.rest (n.goes (more_is ∙ more)) in
            let sum = sym (length-append past left) ∙ ap length parts_are in
            let one = ap length n.left_is in
            let two = ap length behind.left_is in
            omega (arith, full, sum, one, two, count, few));
      }

  -- it comes to the register
  module _ (n moment : ℕ) (past : List (List ℕ)) (body : List ℕ) (t : Parsed) (state : State) (count : length past ≡ n) (own : t.header.identity ≡ meter.identity) (is : t.body ≡ body) (held : Open past state) where
    abbrev pub piece : PartRow
    piece = record { moment = moment; body = t.body }

    abbrev pub now_row : MeterRow
    now_row = record row { parts = held.opened }

    abbrev pub told_by : Bool → State
    told_by more = told_at meter.identity more (n + 1) piece (Some now_row) state

    pub told_is : applied (change_of moment (n + 1) t) state ≡ told_by (continues t.ending)
    told_is =
        ap (λ (o : Option MeterRow). told_at t.header.identity (continues t.ending) (n + 1) piece o state) (ap (λ (m : Identity). row_of m state) own ∙ held.found)
        ∙ ap (λ (m : Identity). told_at m (continues t.ending) (n + 1) piece (Some now_row) state) own

    abbrev pub read_now : List PartRow
    read_now = joined_rows (n + 1) piece held.opened

    joined_is : bodies_of read_now ≡ past ++ body ∷ []
    joined_is = joined_bodies n piece past held.opened count held.are_open ∙ ap (λ (b : List ℕ). past ++ b ∷ []) is

    pub open_more : Open (past ++ body ∷ []) (told_by true)
    open_more = record {
      opened = read_now;
      found = row_of_same meter.identity now_row (record now_row { parts = read_now }) state held.found;
      are_open = inr joined_is;
      readings = held.readings;
    }

    pub is_read : past ++ body ∷ [] ≡ parts → HasRead meter.identity row parts first (told_by false)
    is_read all =
        let reading : ReadingRow = record { serial = state.next_serial; meter = meter.identity; flat = row.flat; parts = read_now } in
        record {
          serial = state.next_serial;
          read = read_now;
          bodies_are = joined_is ∙ all;
          one_more =
              filter-append (is_of meter.identity) state.readings (reading ∷ [])
              ∙ ap (λ (rs : List ReadingRow). readings_of meter.identity state ++ rs) (one_of meter.identity reading (ap is_eq (equal_to_itself meter.identity)))
              ∙ ap (λ (rs : List ReadingRow). rs ++ reading ∷ []) held.readings;
          none_open = row_of_same meter.identity now_row (record now_row { parts = [] }) state held.found;
        }
