-- A house in which a meter of two telegrams is registered and read, though a reply is lost; the reading is lost by a
-- crash, and the meter is read anew.
use Rattle.std.proofs.Common.{◌≡◌, ℕ, zero, suc, Bool, true, false, eqb, Some, None, Ok, List, [], ◌∷◌, length, cond, arith, refl, sym, ◌∙◌, ap, subst}
use Rattle.std.specs.Prelude.{slice_get}
use Rattle.std.specs.BTreeMap.{is_at}
use Rattle.std.specs.Ordering.{is_eq}
use Rattle.std.proofs.lemmas.Bool.{ne_eqb}
use Rattle.std.proofs.lemmas.Slice.Eq.{bytes_eq-Decides}
use Rattle.std.specs.Str.{bytes_eq}
use Rattle.dc_address.specs.declared.identity.Identity.{Identity}
use Rattle.dc_address.specs.Identity.{identity_cmp}
use Rattle.dc_address.proofs.Order.{equal_to_itself}
use Rattle.dc_records.specs.Body.{plain, more}
use Rattle.dc_records.specs.Telegram.{Parsed, telegram_at}
use Rattle.dc_readout.specs.Meter.{Meter, Position, first_position}
use Rattle.dc_readout.specs.Standing.{Standing}
use Rattle.mbdc_change.specs.Fields.{IsOfBytes}
use Rattle.mbdc_change.specs.State.{State, MeterRow, empty_state, row_of}
use Rattle.mbdc_change.specs.Apply.{applied}
use Rattle.mbdc_change.specs.declared.change.Change.{Change}
use Rattle.mbdc_change.specs.declared.change.Change.TheVariants.{Command as Numbered}
use Rattle.mbdc_change.specs.declared.command.Command.{Command}
use Rattle.mbdc_change.specs.declared.command.Command.TheVariants.{Fit}
use Rattle.dc_upload.specs.declared.line.OfficeLine.{OfficeLine}
use Rattle.dc_upload.specs.declared.line.OfficeLine.TheVariants.{Command as Ordered}
use Rattle.dc_upload.specs.declared.verdict.Verdict.TheVariants.{Do}
use Rattle.dc_upload.specs.Line.{office_text}
use Rattle.dc_upload.specs.Verdict.{verdict_of}
use Rattle.dc_core.specs.Core.{Core, opened}
use Rattle.dc_core.specs.Event.{offices, replied, obeyed}
use Rattle.dc_core.specs.Step.{May, held}
use Rattle.mbdc_theorems.specs.House.{Bus, Buses, House, formatted, goes_on, opens_again, HaveBodies, put_bus, SpeakForThemselves}
use Rattle.mbdc_theorems.specs.HouseMet.{first_body, last_body, sends_two, IsRead, PremisesAreMet}
use Rattle.dc_linkframe.specs.Control.{selected}
use Rattle.dc_readout.specs.declared.world.event.Outcome.TheVariants.{AsSent, ReplyLost}
use Rattle.mbdc_theorems.specs.Readout.{MayBeRead}
use Rattle.mbdc_theorems.proofs.HouseReads.{Lives, WasRead, is_read_in}
use Rattle.mbdc_theorems.proofs.Example.{telegram, reads, long_as, there}

abbrev one : Identity → Parsed
one meter = telegram meter (0x1F ∷ []) (more []) refl

abbrev two : Identity → Parsed
two meter = telegram meter [] plain refl

names : (meter : Identity) (body own : List ℕ) (t is : Parsed) → bytes_eq body own ≡ true → telegram_at own ≡ Ok is → is.header.identity ≡ meter → telegram_at body ≡ Ok t → t.header.identity ≡ meter
names meter body mine t is same reads_as who read =
    let e : body ≡ mine = (bytes_eq-Decides body mine).0 same in
    let both : Ok t ≡ Ok is = sym read ∙ ap telegram_at e ∙ reads_as in
    let t_is : t ≡ is = cc in
    ap (λ (x : Parsed). x.header.identity) t_is ∙ who

pub speaks : SpeakForThemselves sends_two
speaks meter zero body t is read = names meter body (first_body meter) t (one meter) is (reads meter (0x1F ∷ []) (more []) refl) refl read
speaks meter (suc k) body t is read =
    let later : eqb (suc k) 0 ≡ false = ne_eqb (suc k) 0 (λ e. omega (arith, e)) in
    let same : bytes_eq body (last_body meter) ≡ true = ap (λ (b : Bool). cond b (bytes_eq body (first_body meter)) (bytes_eq body (last_body meter))) (sym later) ∙ is in
    names meter body (last_body meter) t (two meter) same (reads meter [] plain refl) refl read

module _ (identity : Identity) (of_bytes : IsOfBytes identity) where
  -- ---- the office's command

  abbrev command : Command
  command = Fit identity 1 (Some 1) (65 ∷ [])

  abbrev line : OfficeLine
  line = Ordered (record { number = 1; command = command })

  abbrev change : Change
  change = Numbered 1 command

  abbrev row : MeterRow
  row = record { line = 1; address = Some 1; flat = 65 ∷ []; parts = [] }

  itself : is_at (identity_cmp identity) identity ≡ true
  itself = ap is_eq (equal_to_itself identity)

  found_row : (r : MeterRow) (s : State) → row_of identity (record s { meters = (identity, r) ∷ [] }) ≡ Some r
  found_row r s = ap (λ (b : Bool). cond b (Some r) None) itself

  verdict_is : verdict_of (held 1000 (opened empty_state)) line ≡ Do change
  unfolding verdict_of
  verdict_is = refl

  may_fit : May 1000 (opened empty_state) (offices (office_text line)) (replied (obeyed 1 change))
  may_fit = record {
    line = line;
    spells = record {
      is_line = (record { low = omega arith; high = omega arith }, (record { low = omega arith; high = omega arith }, record { low = omega arith; high = omega arith }, record { some = omega arith; fits = omega arith; bytes_are = refl }), of_bytes);
      text_is = refl;
    };
    running = refl;
    answer = (verdict_is, refl);
  }

  -- ---- the register and the bus line

  abbrev fitted_state : State
  fitted_state = applied change empty_state

  registered : row_of identity fitted_state ≡ Some row
  registered = found_row row fitted_state

  abbrev bodies : List (List ℕ)
  bodies = first_body identity ∷ last_body identity ∷ []

  abbrev meter : Meter
  meter = record { identity = identity; address = Some 1; bodies = bodies }

  abbrev nothing : Bus
  nothing = record { meters = []; answer = None }

  abbrev b0 : Buses
  b0 = put_bus 1 (record { meters = record { meter = meter; position = first_position } ∷ []; answer = None }) (λ other. nothing)

  own_bodies : HaveBodies sends_two (record { meter = meter; position = first_position } ∷ [])
  own_bodies zero zero x b there at =
      let same : record { meter = meter; position = first_position } ≡ x = cc in
      let body : first_body identity ≡ b = (let e = ap (λ (y : Standing). slice_get y.meter.bodies 0) same ∙ at in cc) in
      subst (λ (y : Standing). sends_two y.meter.identity 0 b ≡ true) same (subst (λ c. sends_two identity 0 c ≡ true) body ((bytes_eq-Decides (first_body identity) (first_body identity)).1 refl))
  own_bodies zero (suc zero) x b there at =
      let same : record { meter = meter; position = first_position } ≡ x = cc in
      let body : last_body identity ≡ b = (let e = ap (λ (y : Standing). slice_get y.meter.bodies 1) same ∙ at in cc) in
      subst (λ (y : Standing). sends_two y.meter.identity 1 b ≡ true) same (subst (λ c. sends_two identity 1 c ≡ true) body ((bytes_eq-Decides (last_body identity) (last_body identity)).1 refl))
  own_bodies zero (suc (suc k)) x b there at =
      let same : record { meter = meter; position = first_position } ≡ x = cc in
      absurd (let e = ap (λ (y : Standing). slice_get y.meter.bodies (suc (suc k))) same ∙ at in cc)
  own_bodies (suc i) k x b there at = absurd cc

  has_bodies : (other : ℕ) → HaveBodies sends_two (b0 other).meters
  has_bodies other = by (eqb other 1)
    where
      by : (b : Bool) → HaveBodies sends_two (cond b (record { meters = record { meter = meter; position = first_position } ∷ []; answer = None }) nothing).meters
      by true = own_bodies
      by false = λ i k x b there at. absurd cc

  -- ---- it may be read, whatever its position

  apart_from_selected : (a : ℕ) → Some 1 ≡ Some a → a ≡ selected → ⊥
  apart_from_selected a is other = let same : 1 ≡ a = cc in omega (arith, same, other)

  may_read : (positions : List Position) → length positions ≡ 1 → MayBeRead 1000 1 (meter ∷ []) (record { core = opened fitted_state; positions = positions }) 0 meter row bodies
  may_read positions one =
      let t = there identity (Some 1) first_position apart_from_selected in
      record {
        begins = record {
          there = record { regular = t.regular; counted = one; stands = t.stands; whole = t.whole; few = t.few; own = t.own };
          lines = refl;
          may_start = rw registered refl;
          registered = registered;
          address = refl;
        };
        room =
            let first = long_as identity (0x1F ∷ []) (more []) refl in
            let last = long_as identity [] plain refl in
            omega (arith, first, last);
        serial = omega arith;
      }

  -- ---- two lives

  -- registered, and read, though the reply to the first request is lost
  first_life : WasRead 1000 sends_two empty_state (change ∷ []) 1 (meter ∷ []) (record { core = opened fitted_state; positions = first_position ∷ [] }) 0 meter row bodies (may_read (first_position ∷ []) refl) b0
  first_life =
      let l0 : Lives 1000 sends_two empty_state [] 1 (meter ∷ []) [] b0 (first_position ∷ []) (opened empty_state) =
      record { house = formatted refl refl has_bodies; leads_to = refl; has = ([], refl); waits = None; on_line = refl; counted = refl } in
      let house : House 1000 sends_two empty_state ((offices (office_text line), replied (obeyed 1 change)) ∷ []) b0 = goes_on (offices (office_text line)) (replied (obeyed 1 change)) l0.house may_fit refl refl in
      let l1 : Lives 1000 sends_two empty_state (change ∷ []) 1 (meter ∷ []) ((offices (office_text line), replied (obeyed 1 change)) ∷ []) b0 (first_position ∷ []) (opened fitted_state) =
      record { house = house; leads_to = refl; has = ([], refl); waits = None; on_line = refl; counted = refl } in
      is_read_in 1000 sends_two empty_state (change ∷ []) 1 (meter ∷ []) (record { core = opened fitted_state; positions = first_position ∷ [] }) 0 meter row bodies (may_read (first_position ∷ []) refl)
      (AsSent ∷ ReplyLost ∷ []) ((offices (office_text line), replied (obeyed 1 change)) ∷ []) b0 l1 (omega arith, (omega arith, tt))

  -- the crash leaves the register without the reading, and the meter where it stands
  pub met : IsRead identity
  met =
      let was = first_life in
      let before = was.moved.lives in
      let l2 : Lives 1000 sends_two fitted_state [] 1 (meter ∷ []) [] was.moved.buses was.positions (opened fitted_state) = record {
        house = opens_again (change ∷ []) before.house before.has refl refl;
        leads_to = refl;
        has = ([], refl);
        waits = before.waits;
        on_line = before.on_line;
        counted = before.counted;
      } in
      let again = is_read_in 1000 sends_two fitted_state [] 1 (meter ∷ []) (record { core = opened fitted_state; positions = was.positions }) 0 meter row bodies (may_read was.positions before.counted) [] [] was.moved.buses l2 tt in
      let now = again.moved.lives in
      record {
        state = fitted_state;
        turns = again.moved.turns;
        buses = again.moved.buses;
        speak = speaks;
        house = now.house;
        parts = again.read.read;
        bodies = again.read.bodies_are;
        read = ap (λ (c : Core). c.committed.readings) now.leads_to ∙ ap (λ (s : State). s.readings) again.read.register;
      }

pub premises_are_met : PremisesAreMet
premises_are_met meter of_bytes = met meter of_bytes
