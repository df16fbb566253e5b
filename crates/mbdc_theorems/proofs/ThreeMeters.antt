-- A house with three meters on two lines, one without a primary address: all are registered and read, though a reply is
-- lost, and the house crashes.
use Rattle.std.proofs.Common.{◌≡◌, ◌≢◌, ◌⊎◌, inl, inr, ℕ, zero, suc, ◌≤◌, ◌<◌, Bool, true, false, Option, Some, None, List, [], ◌∷◌, length, map, cond, eqb, arith, refl, sym, ◌∙◌, ap, subst}
use Rattle.std.specs.Prelude.{slice_get, is_some}
use Rattle.std.proofs.lemmas.Slice.Eq.{bytes_eq-Decides}
use Rattle.dc_linkframe.specs.Control.{selected}
use Rattle.dc_address.specs.Digits.{decimal_digits}
use Rattle.dc_address.specs.Mask.{mask_of, matches}
use Rattle.dc_address.specs.declared.identity.Identity.{Identity}
use Rattle.dc_records.specs.Body.{plain, more}
use Rattle.dc_readout.specs.declared.world.event.Outcome.TheVariants.{AsSent, ReplyLost}
use Rattle.dc_readout.specs.Meter.{Meter, Position, first_position}
use Rattle.dc_readout.specs.Regular.{IsOwnOnly}
use Rattle.dc_readout.specs.Standing.{Standing}
use Rattle.dc_readout.specs.World.{AreRegular}
use Rattle.mbdc_change.specs.Apply.{applied}
use Rattle.mbdc_change.specs.Fields.{end_of_numbers}
use Rattle.mbdc_change.specs.Size.{size_of}
use Rattle.mbdc_change.specs.State.{State, MeterRow, empty_state, row_of}
use Rattle.mbdc_change.specs.declared.change.Change.{Change}
use Rattle.mbdc_change.specs.declared.change.Change.TheVariants.{Command as Numbered}
use Rattle.mbdc_change.specs.declared.command.Command.TheVariants.{Fit}
use Rattle.dc_upload.specs.declared.line.OfficeLine.{OfficeLine}
use Rattle.dc_upload.specs.declared.line.OfficeLine.TheVariants.{Command as Ordered}
use Rattle.dc_upload.specs.declared.verdict.Verdict.TheVariants.{Do}
use Rattle.dc_upload.specs.Line.{office_text}
use Rattle.dc_upload.specs.Verdict.{verdict_of}
use Rattle.dc_core.specs.Core.{Core, opened, present, session_of}
use Rattle.dc_core.specs.Event.{offices, replied, obeyed}
use Rattle.dc_core.specs.Lines.{line_count}
use Rattle.dc_core.specs.Step.{May, held, is_on}
use Rattle.dc_core.specs.Transcript.{Turn, leads}
use Rattle.mbdc_theorems.specs.House.{Bus, Buses, House, formatted, goes_on, opens_again, HaveBodies, put_bus}
use Rattle.mbdc_theorems.specs.HouseMet.{first_body, last_body, sends_two, wiring_of, ThreeAreRead}
use Rattle.mbdc_theorems.specs.Readout.{IsThere, MayBeRead, Scene, room_for, with_reading}
use Rattle.mbdc_theorems.proofs.Example.{fits, long_as, there}
use Rattle.mbdc_theorems.proofs.HouseLife.{speaks}
use Rattle.mbdc_theorems.proofs.HouseReads.{Lives, WasRead, is_read_in}
use Rattle.mbdc_theorems.proofs.Houses.{every_house}
use Rattle.mbdc_theorems.proofs.Rounds.{lines_are_kept}
use Rattle.mbdc_theorems.proofs.Rows.{present_is, start_ok}

-- ---- the meters

-- 12345678.PAD.01.07, 23456789.PAD.01.07 and 34567890.PAD.01.07
abbrev m1 : Identity
m1 = record { number = 12_345_678; maker = 0x4024; version = 1; kind = 7; has_eight_digits = omega arith; has_letters = record { first = record { low = omega arith; high = omega arith }; second = record { low = omega arith; high = omega arith }; third = record { low = omega arith; high = omega arith } } }

abbrev m2 : Identity
m2 = record { number = 23_456_789; maker = 0x4024; version = 1; kind = 7; has_eight_digits = omega arith; has_letters = record { first = record { low = omega arith; high = omega arith }; second = record { low = omega arith; high = omega arith }; third = record { low = omega arith; high = omega arith } } }

abbrev m3 : Identity
m3 = record { number = 34_567_890; maker = 0x4024; version = 1; kind = 7; has_eight_digits = omega arith; has_letters = record { first = record { low = omega arith; high = omega arith }; second = record { low = omega arith; high = omega arith }; third = record { low = omega arith; high = omega arith } } }

abbrev bodies : Identity → List (List ℕ)
bodies m = first_body m ∷ last_body m ∷ []

abbrev meter : Identity → Option ℕ → Meter
meter m address = record { identity = m; address = address; bodies = bodies m }

abbrev pair : List Meter
pair = meter m1 (Some 1) ∷ meter m2 None ∷ []

abbrev row : ℕ → Option ℕ → ℕ → MeterRow
row line address letter = record { line = line; address = address; flat = letter ∷ []; parts = [] }

primary_only : IsOwnOnly (Some 1)
primary_only a is other = let same : 1 ≡ a = cc in omega (arith, same, other)

none_only : IsOwnOnly None
none_only a is other = absurd (let bad : None ≡ Some a = is in cc)

one_of : (i : ℕ) (m : Meter) → slice_get pair i ≡ Some m → ((i ≡ 0) × (meter m1 (Some 1) ≡ m)) ⊎ ((i ≡ 1) × (meter m2 None ≡ m))
one_of zero m at = inl (refl, cc)
one_of (suc zero) m at = inr (refl, cc)
one_of (suc (suc i)) m at = absurd cc

not_second : matches (mask_of m1) m2 ≡ false
unfolding matches decimal_digits
not_second = refl

not_first : matches (mask_of m2) m1 ≡ false
unfolding matches decimal_digits
not_first = refl

pair_fits : (i j : ℕ) (m : Meter) (b : List ℕ) → slice_get pair i ≡ Some m → slice_get m.bodies j ≡ Some b → length b ≤ 252
pair_fits i j m b at is = by (one_of i m at)
  where
    by : ((i ≡ 0) × (meter m1 (Some 1) ≡ m)) ⊎ ((i ≡ 1) × (meter m2 None ≡ m)) → length b ≤ 252
    by (inl e) = fits m1 (Some 1) first_position primary_only j b (ap (λ (x : Meter). slice_get x.bodies j) e.1 ∙ is)
    by (inr e) = fits m2 None first_position none_only j b (ap (λ (x : Meter). slice_get x.bodies j) e.1 ∙ is)

pair_primary : (i a : ℕ) (m : Meter) → slice_get pair i ≡ Some m → m.address ≡ Some a → a ≢ selected
pair_primary i a m at is = by (one_of i m at)
  where
    by : ((i ≡ 0) × (meter m1 (Some 1) ≡ m)) ⊎ ((i ≡ 1) × (meter m2 None ≡ m)) → a ≢ selected
    by (inl e) = primary_only a (ap (λ (x : Meter). x.address) e.1 ∙ is)
    by (inr e) = none_only a (ap (λ (x : Meter). x.address) e.1 ∙ is)

no_address : (a : ℕ) (m : Meter) → meter m2 None ≡ m → m.address ≡ Some a → ⊥
no_address a m e is = let bad : None ≡ Some a = ap (λ (x : Meter). x.address) e ∙ is in cc

pair_addresses : (i j a : ℕ) (one other : Meter) → slice_get pair i ≡ Some one → slice_get pair j ≡ Some other → one.address ≡ Some a → other.address ≡ Some a → i ≡ j
pair_addresses i j a one other at there is also = by (one_of i one at) (one_of j other there)
  where
    by : ((i ≡ 0) × (meter m1 (Some 1) ≡ one)) ⊎ ((i ≡ 1) × (meter m2 None ≡ one)) → ((j ≡ 0) × (meter m1 (Some 1) ≡ other)) ⊎ ((j ≡ 1) × (meter m2 None ≡ other)) → i ≡ j
    by (inl e) (inl f) = e.0 ∙ sym f.0
    by (inl e) (inr f) = absurd (no_address a other f.1 also)
    by (inr e) f = absurd (no_address a one e.1 is)

pair_apart : (i j : ℕ) (one other : Meter) → slice_get pair i ≡ Some one → slice_get pair j ≡ Some other → matches (mask_of one.identity) other.identity ≡ true → i ≡ j
pair_apart i j one other at there is = by (one_of i one at) (one_of j other there)
  where
    match : (x y : Meter) → x ≡ one → y ≡ other → matches (mask_of x.identity) y.identity ≡ true
    match x y e f = ap (λ (z : Meter). matches (mask_of z.identity) y.identity) e ∙ ap (λ (z : Meter). matches (mask_of one.identity) z.identity) f ∙ is

    by : ((i ≡ 0) × (meter m1 (Some 1) ≡ one)) ⊎ ((i ≡ 1) × (meter m2 None ≡ one)) → ((j ≡ 0) × (meter m1 (Some 1) ≡ other)) ⊎ ((j ≡ 1) × (meter m2 None ≡ other)) → i ≡ j
    by (inl e) (inl f) = e.0 ∙ sym f.0
    by (inr e) (inr f) = e.0 ∙ sym f.0
    by (inl e) (inr f) = absurd (let bad : false ≡ true = sym not_second ∙ match (meter m1 (Some 1)) (meter m2 None) e.1 f.1 in cc)
    by (inr e) (inl f) = absurd (let bad : false ≡ true = sym not_first ∙ match (meter m2 None) (meter m1 (Some 1)) e.1 f.1 in cc)

regular : AreRegular pair
regular = record { fit = pair_fits; primary = pair_primary; addresses = pair_addresses; apart = pair_apart }

first_there : (positions : List Position) → length positions ≡ 2 → IsThere pair positions 0 (meter m1 (Some 1)) (bodies m1)
first_there positions two = let t = there m1 (Some 1) first_position primary_only in record { regular = regular; counted = two; stands = refl; whole = t.whole; few = t.few; own = t.own }

second_there : (positions : List Position) → length positions ≡ 2 → IsThere pair positions 1 (meter m2 None) (bodies m2)
second_there positions two = let t = there m2 None first_position none_only in record { regular = regular; counted = two; stands = refl; whole = t.whole; few = t.few; own = t.own }

third_there : IsThere (meter m3 (Some 1) ∷ []) (first_position ∷ []) 0 (meter m3 (Some 1)) (bodies m3)
third_there = there m3 (Some 1) first_position primary_only

-- ---- the bus lines

abbrev bus_1 : Bus
bus_1 = record { meters = record { meter = meter m1 (Some 1); position = first_position } ∷ record { meter = meter m2 None; position = first_position } ∷ []; answer = None }

abbrev bus_2 : Bus
bus_2 = record { meters = record { meter = meter m3 (Some 1); position = first_position } ∷ []; answer = None }

abbrev nothing : Bus
nothing = record { meters = []; answer = None }

abbrev b0 : Buses
b0 = put_bus 1 bus_1 (put_bus 2 bus_2 (λ other. nothing))

sends_own : (m : Identity) (k : ℕ) (b : List ℕ) → slice_get (bodies m) k ≡ Some b → sends_two m k b ≡ true
sends_own m zero b at = let same : first_body m ≡ b = cc in subst (λ c. sends_two m 0 c ≡ true) same ((bytes_eq-Decides (first_body m) (first_body m)).1 refl)
sends_own m (suc zero) b at = let same : last_body m ≡ b = cc in subst (λ c. sends_two m 1 c ≡ true) same ((bytes_eq-Decides (last_body m) (last_body m)).1 refl)
sends_own m (suc (suc k)) b at = absurd cc

own_at : (m : Identity) (address : Option ℕ) (k : ℕ) (x : Standing) (b : List ℕ) → record { meter = meter m address; position = first_position } ≡ x → slice_get x.meter.bodies k ≡ Some b → sends_two x.meter.identity k b ≡ true
own_at m address k x b same at =
    subst (λ (y : Standing). sends_two y.meter.identity k b ≡ true) same (sends_own m k b (ap (λ (y : Standing). slice_get y.meter.bodies k) same ∙ at))

has_first : HaveBodies sends_two bus_1.meters
has_first zero k x b is at = own_at m1 (Some 1) k x b (cc) at
has_first (suc zero) k x b is at = own_at m2 None k x b (cc) at
has_first (suc (suc i)) k x b is at = absurd cc

has_second : HaveBodies sends_two bus_2.meters
has_second zero k x b is at = own_at m3 (Some 1) k x b (cc) at
has_second (suc i) k x b is at = absurd cc

has_bodies : (other : ℕ) → HaveBodies sends_two (b0 other).meters
has_bodies other = by (eqb other 1) (eqb other 2)
  where
    by : (one two : Bool) → HaveBodies sends_two (cond one bus_1 (cond two bus_2 nothing)).meters
    by true two = has_first
    by false true = has_second
    by false false = λ i k x b there at. absurd cc

-- ---- the register

abbrev fit_line : ℕ → Identity → ℕ → Option ℕ → ℕ → OfficeLine
fit_line n m line address letter = Ordered (record { number = n; command = Fit m line address (letter ∷ []) })

abbrev fit : ℕ → Identity → ℕ → Option ℕ → ℕ → Change
fit n m line address letter = Numbered n (Fit m line address (letter ∷ []))

abbrev fit_turn : ℕ → Identity → ℕ → Option ℕ → ℕ → Turn
fit_turn n m line address letter = (offices (office_text (fit_line n m line address letter)), replied (obeyed n (fit n m line address letter)))

abbrev c1 : Change
c1 = fit 1 m1 1 (Some 1) 65

abbrev c2 : Change
c2 = fit 2 m2 1 None 66

abbrev c3 : Change
c3 = fit 3 m3 2 (Some 1) 67

abbrev s1 : State
s1 = applied c1 empty_state

abbrev s2 : State
s2 = applied c2 s1

abbrev s3 : State
s3 = applied c3 s2

first_is : verdict_of (held 1000 (opened empty_state)) (fit_line 1 m1 1 (Some 1) 65) ≡ Do c1
unfolding verdict_of
first_is = refl

second_is : verdict_of (held 1000 (opened s1)) (fit_line 2 m2 1 None 66) ≡ Do c2
unfolding verdict_of
second_is = refl

third_is : verdict_of (held 1000 (opened s2)) (fit_line 3 m3 2 (Some 1) 67) ≡ Do c3
unfolding verdict_of
third_is = refl

may_first : May 1000 (opened empty_state) (fit_turn 1 m1 1 (Some 1) 65).0 (fit_turn 1 m1 1 (Some 1) 65).1
may_first = record {
  line = fit_line 1 m1 1 (Some 1) 65;
  spells = record {
    is_line = (record { low = omega arith; high = omega arith }, (record { low = omega arith; high = omega arith }, record { low = omega arith; high = omega arith }, record { some = omega arith; fits = omega arith; bytes_are = refl }), record { version = omega arith; kind = omega arith });
    text_is = refl;
  };
  running = refl;
  answer = (first_is, refl);
}

may_second : May 1000 (opened s1) (fit_turn 2 m2 1 None 66).0 (fit_turn 2 m2 1 None 66).1
may_second = record {
  line = fit_line 2 m2 1 None 66;
  spells = record {
    is_line = (record { low = omega arith; high = omega arith }, (record { low = omega arith; high = omega arith }, tt, record { some = omega arith; fits = omega arith; bytes_are = refl }), record { version = omega arith; kind = omega arith });
    text_is = refl;
  };
  running = refl;
  answer = (second_is, refl);
}

may_third : May 1000 (opened s2) (fit_turn 3 m3 2 (Some 1) 67).0 (fit_turn 3 m3 2 (Some 1) 67).1
may_third = record {
  line = fit_line 3 m3 2 (Some 1) 67;
  spells = record {
    is_line = (record { low = omega arith; high = omega arith }, (record { low = omega arith; high = omega arith }, record { low = omega arith; high = omega arith }, record { some = omega arith; fits = omega arith; bytes_are = refl }), record { version = omega arith; kind = omega arith });
    text_is = refl;
  };
  running = refl;
  answer = (third_is, refl);
}

abbrev fits_all : List Turn
fits_all = fit_turn 1 m1 1 (Some 1) 65 ∷ fit_turn 2 m2 1 None 66 ∷ fit_turn 3 m3 2 (Some 1) 67 ∷ []

all_fitted : House 1000 sends_two empty_state fits_all b0
all_fitted =
    let h0 : House 1000 sends_two empty_state [] b0 = formatted refl refl has_bodies in
    let h1 : House 1000 sends_two empty_state (fit_turn 1 m1 1 (Some 1) 65 ∷ []) b0 = goes_on (fit_turn 1 m1 1 (Some 1) 65).0 (fit_turn 1 m1 1 (Some 1) 65).1 h0 may_first refl refl in
    let h2 : House 1000 sends_two empty_state (fit_turn 1 m1 1 (Some 1) 65 ∷ fit_turn 2 m2 1 None 66 ∷ []) b0 = goes_on (fit_turn 2 m2 1 None 66).0 (fit_turn 2 m2 1 None 66).1 h1 may_second refl refl in
    goes_on (fit_turn 3 m3 2 (Some 1) 67).0 (fit_turn 3 m3 2 (Some 1) 67).1 h2 may_third refl refl

s3_small : size_of s3 ≤ 600
s3_small = omega arith

parts_small : (m : Identity) (letter : ℕ) → room_for (letter ∷ []) (bodies m) ≤ 100
parts_small m letter =
    let first = long_as m (0x1F ∷ []) (more []) refl in
    let last = long_as m [] plain refl in
    omega (arith, first, last)

-- ---- the first meter, in both lives

may_first_be_read : (positions : List Position) → length positions ≡ 2 → MayBeRead 1000 1 pair (record { core = opened s3; positions = positions }) 0 (meter m1 (Some 1)) (row 1 (Some 1) 65) (bodies m1)
may_first_be_read positions two = record {
  begins = record { there = first_there positions two; lines = refl; may_start = refl; registered = refl; address = refl };
  room = let one = s3_small in let two = parts_small m1 65 in omega (arith, one, two);
  serial = omega arith;
}

abbrev scene_1 : Scene
scene_1 = record { core = opened s3; positions = first_position ∷ first_position ∷ [] }

-- the reply to its first request is lost
lost_life : WasRead 1000 sends_two empty_state (c1 ∷ c2 ∷ c3 ∷ []) 1 pair scene_1 0 (meter m1 (Some 1)) (row 1 (Some 1) 65) (bodies m1) (may_first_be_read (first_position ∷ first_position ∷ []) refl) b0
lost_life =
    is_read_in 1000 sends_two empty_state (c1 ∷ c2 ∷ c3 ∷ []) 1 pair scene_1 0 (meter m1 (Some 1)) (row 1 (Some 1) 65) (bodies m1) (may_first_be_read (first_position ∷ first_position ∷ []) refl)
    (AsSent ∷ ReplyLost ∷ []) fits_all b0 (record { house = all_fitted; leads_to = refl; has = ([], refl); waits = None; on_line = refl; counted = refl }) (omega arith, (omega arith, tt))

-- ---- a crash loses that reading, and all are read in the second life

lives_anew : Lives 1000 sends_two s3 [] 1 pair [] lost_life.moved.buses lost_life.positions (opened s3)
lives_anew =
    let before = lost_life.moved.lives in
    record { house = opens_again (c1 ∷ c2 ∷ c3 ∷ []) before.house before.has refl refl; leads_to = refl; has = ([], refl); waits = before.waits; on_line = before.on_line; counted = before.counted }

abbrev scene_2 : Scene
scene_2 = record { core = opened s3; positions = lost_life.positions }

read_1 : WasRead 1000 sends_two s3 [] 1 pair scene_2 0 (meter m1 (Some 1)) (row 1 (Some 1) 65) (bodies m1) (may_first_be_read lost_life.positions lost_life.moved.lives.counted) lost_life.moved.buses
read_1 =
    is_read_in 1000 sends_two s3 [] 1 pair scene_2 0 (meter m1 (Some 1)) (row 1 (Some 1) 65) (bodies m1) (may_first_be_read lost_life.positions lost_life.moved.lives.counted) [] [] lost_life.moved.buses lives_anew tt

register_1 : present read_1.core ≡ with_reading m1 (row 1 (Some 1) 65) read_1.read.read s3
register_1 = present_is read_1.core read_1.read.none_waits ∙ read_1.read.register

eight : (turns : List Turn) (buses : Buses) (core : Core) → House 1000 sends_two s3 turns buses → leads (opened s3) turns ≡ core → length core.lines ≡ line_count
eight turns buses core house is = ap (λ (c : Core). length c.lines) (sym is) ∙ lines_are_kept 1000 s3 turns (every_house 1000 sends_two s3 turns buses speaks house).chain

-- ---- the second, which has no primary address

row_2 : row_of m2 (present read_1.core) ≡ Some (row 1 None 66)
row_2 = ap (row_of m2) register_1

abbrev scene_3 : Scene
scene_3 = record { core = read_1.core; positions = read_1.positions }

may_second_be_read : MayBeRead 1000 1 pair scene_3 1 (meter m2 None) (row 1 None 66) (bodies m2)
may_second_be_read = record {
  begins = record {
    there = second_there read_1.positions read_1.moved.lives.counted;
    lines = eight read_1.moved.turns read_1.moved.buses read_1.core read_1.moved.lives.house read_1.moved.lives.leads_to;
    may_start = start_ok true read_1.core.stopped (is_on 1 (row_of m2 (present read_1.core))) (is_some (session_of read_1.core 1)) refl read_1.runs (ap (is_on 1) row_2) (ap is_some read_1.read.free);
    registered = row_2;
    address = refl;
  };
  room =
      let small = read_1.small in
      let same : size_of (present read_1.core) ≡ size_of read_1.core.committed = ap size_of (present_is read_1.core read_1.read.none_waits) in
      let all = s3_small in
      let one = parts_small m1 65 in
      let two = parts_small m2 66 in
      omega (arith, small, same, all, one, two);
  serial = subst (λ (s : State). s.next_serial < end_of_numbers) (sym register_1) (omega arith);
}

read_2 : WasRead 1000 sends_two s3 [] 1 pair scene_3 1 (meter m2 None) (row 1 None 66) (bodies m2) may_second_be_read read_1.moved.buses
read_2 = is_read_in 1000 sends_two s3 [] 1 pair scene_3 1 (meter m2 None) (row 1 None 66) (bodies m2) may_second_be_read [] read_1.moved.turns read_1.moved.buses read_1.moved.lives tt

register_2 : present read_2.core ≡ with_reading m2 (row 1 None 66) read_2.read.read (with_reading m1 (row 1 (Some 1) 65) read_1.read.read s3)
register_2 = present_is read_2.core read_2.read.none_waits ∙ read_2.read.register ∙ ap (with_reading m2 (row 1 None 66) read_2.read.read) register_1

-- ---- the third, on the other line

two_one : ◌≢◌ {A = ℕ} 2 1
two_one e = omega (arith, e)

buses_2 : read_2.moved.buses 2 ≡ bus_2
buses_2 = read_2.moved.others 2 two_one ∙ read_1.moved.others 2 two_one ∙ lost_life.moved.others 2 two_one

row_3 : row_of m3 (present read_2.core) ≡ Some (row 2 (Some 1) 67)
row_3 = ap (row_of m3) register_2

free_3 : session_of read_2.core 2 ≡ None
free_3 = read_2.moved.free 2 refl two_one (read_1.moved.free 2 refl two_one refl)

abbrev scene_4 : Scene
scene_4 = record { core = read_2.core; positions = first_position ∷ [] }

may_third_be_read : MayBeRead 1000 2 (meter m3 (Some 1) ∷ []) scene_4 0 (meter m3 (Some 1)) (row 2 (Some 1) 67) (bodies m3)
may_third_be_read = record {
  begins = record {
    there = third_there;
    lines = eight read_2.moved.turns read_2.moved.buses read_2.core read_2.moved.lives.house read_2.moved.lives.leads_to;
    may_start = start_ok true read_2.core.stopped (is_on 2 (row_of m3 (present read_2.core))) (is_some (session_of read_2.core 2)) refl read_2.runs (ap (is_on 2) row_3) (ap is_some free_3);
    registered = row_3;
    address = refl;
  };
  room =
      let first = read_1.small in
      let small = read_2.small in
      let was : size_of (present read_1.core) ≡ size_of read_1.core.committed = ap size_of (present_is read_1.core read_1.read.none_waits) in
      let same : size_of (present read_2.core) ≡ size_of read_2.core.committed = ap size_of (present_is read_2.core read_2.read.none_waits) in
      let all = s3_small in
      let one = parts_small m1 65 in
      let two = parts_small m2 66 in
      let three = parts_small m3 67 in
      omega (arith, first, small, was, same, all, one, two, three);
  serial = subst (λ (s : State). s.next_serial < end_of_numbers) (sym register_2) (omega arith);
}

read_3 : WasRead 1000 sends_two s3 [] 2 (meter m3 (Some 1) ∷ []) scene_4 0 (meter m3 (Some 1)) (row 2 (Some 1) 67) (bodies m3) may_third_be_read read_2.moved.buses
read_3 =
    let l : Lives 1000 sends_two s3 [] 2 (meter m3 (Some 1) ∷ []) read_2.moved.turns read_2.moved.buses (first_position ∷ []) read_2.core = record {
      house = read_2.moved.lives.house;
      leads_to = read_2.moved.lives.leads_to;
      has = read_2.moved.lives.has;
      waits = None;
      on_line = buses_2;
      counted = refl;
    } in
    is_read_in 1000 sends_two s3 [] 2 (meter m3 (Some 1) ∷ []) scene_4 0 (meter m3 (Some 1)) (row 2 (Some 1) 67) (bodies m3) may_third_be_read [] read_2.moved.turns read_2.moved.buses l tt

committed_is : (leads (opened s3) read_3.moved.turns).committed ≡ with_reading m3 (row 2 (Some 1) 67) read_3.read.read (with_reading m2 (row 1 None 66) read_2.read.read (with_reading m1 (row 1 (Some 1) 65) read_1.read.read s3))
committed_is = ap (λ (c : Core). c.committed) read_3.moved.lives.leads_to ∙ read_3.read.register ∙ ap (with_reading m3 (row 2 (Some 1) 67) read_3.read.read) register_2

pub three_are_read : ThreeAreRead
three_are_read = record {
  state = s3;
  turns = read_3.moved.turns;
  buses = read_3.moved.buses;
  speak = speaks;
  house = read_3.moved.lives.house;
  first = m1;
  second = m2;
  third = m3;
  registered = ap (λ (s : State). map wiring_of s.meters) committed_is;
  one = read_1.read.read;
  two = read_2.read.read;
  three = read_3.read.read;
  bodies = (read_1.read.bodies_are, read_2.read.bodies_are, read_3.read.bodies_are);
  read = ap (λ (s : State). s.readings) committed_is;
}
