-- As many meters are counted as read as the queues have (for the theorem of specs/Every).
use Rattle.std.proofs.Common.{◌≡◌, ◌⊎◌, inl, inr, ℕ, ◌+◌, ◌<◌, ◌≤◌, Bool, true, false, List, [], ◌∷◌, ◌++◌, length, get_or, map, arith, refl, ◌∙◌, ap, length-append, zero, suc, ◌-◌, ◌*◌, ◌/◌, Option, Some, None, sym, ◌≢◌, ⊎_elim, ◌^◌, min, take, drop, subst, append-nil}
use Rattle.std.specs.Prelude.{sum, if◌then◌else◌, ◌==◌, sum_by}
use Rattle.std.specs.List.{AllByRecursion, All}
use Rattle.std.proofs.lemmas.Bool.{eq-eqb, ne_eqb, cases_lt}
use Rattle.std.proofs.lemmas.List.Concat.{flat_map-append}
use Rattle.std.proofs.lemmas.List.Sums.{sum_by-cons}
use Rattle.std.proofs.Math.Nat.{div-mul-le_self, mul-le-mul_right, suc-mul}
use Rattle.std.proofs.lemmas.Bool.Decides.{nat_tests}
use Rattle.std.proofs.lemmas.List.{length-map, length-take, take_all, drop_all, get_or_past, get_or_default}
use Rattle.std.proofs.lemmas.List.Elements.{recursion_from_All}
use Rattle.dc_core.specs.Transcript.{Turn, leads, IsChain}
use Rattle.mbdc_poll.specs.Happening.{Happening, does, tells, is_on, kept_on, happened_on, counts_read, reads_in, failures_in, happened_turns, happened_events}
use Rattle.mbdc_poll.specs.declared.event.Event.{Event as Told}
use Rattle.mbdc_poll.specs.declared.event.Event.TheVariants.{Read as was_read, Failed as has_failed, Refused as was_refused, Lost as is_lost, Late as came_late, End as has_ended, Read as told_read}
use Rattle.mbdc_poll.specs.Queue.{read_by, read_in, read_of, AreApart, Goes, GoesWell, Part, part, starts_in, stays, passes_on, starts_it, is_refused, asks_it, has_no_request, is_given_up, goes_on, is_accepted, is_put_off, fails_at_last, is_faulty, is_stored, is_unstored, stands_by, is_told, loses_it}
use Rattle.mbdc_poll.specs.Round.{IsCommitTurn, meters_left, HasFew, IsFresh, IsOver, IsSilent, LineGoes, lates_from, most_lines}
use Rattle.mbdc_poll.specs.declared.station.Station.{Station}
use Rattle.dc_address.specs.declared.identity.Identity.{Identity}
use Rattle.mbdc_change.specs.Size.{size_of}
use Rattle.mbdc_change.specs.State.{State, MeterRow, row_of}
use Rattle.mbdc_shown.specs.Room.{bytes_a_reading}
use Rattle.mbdc_poll.specs.Bus.{Bus}
use Rattle.dc_core.specs.Lines.{is_line}
use Rattle.dc_core.specs.Core.{opened}
use Rattle.dc_core.specs.Event.{asks, asked}
use Rattle.dc_core.specs.Images.{IsAt}
use Rattle.dc_sectors.specs.Disk.{IsImage}
use Rattle.dc_sectors.specs.declared.device.Disk.{Ghosts}
use Rattle.mbdc_log.specs.Halves.{half_of}
use Rattle.dc_core.specs.PendingImages.{Stands}
use Rattle.mbdc_poll.specs.Keeping.{AreTrue, Store, all_kept, some_wait, unkept}
use Rattle.mbdc_poll.specs.Planned.{asked_for, has_bus, queue_on, refused_count, refused_events}
use Rattle.mbdc_poll.specs.Polls.{store_of}
use Rattle.mbdc_poll.specs.Station.{part_of}
use Rattle.mbdc_poll.specs.declared.phase.Phase.TheVariants.{Free}
use Rattle.mbdc_poll.specs.declared.phase.Request.TheVariants.{Quiet}
use Rattle.mbdc_poll.proofs.Apart.{queue_apart}
use Rattle.mbdc_poll.proofs.Meanings.{none_pends}
use Rattle.mbdc_poll.proofs.Queues.{part_is}
use Rattle.mbdc_poll.proofs.Reading.{all_read}
use Rattle.mbdc_poll.proofs.Taking.{takes_both}
use Rattle.mbdc_theorems.proofs.Facts.{all_right, Facts, IsWiredOn, WasNew, WasRead, wired_on, all_as, all_with, all_both, all_left, PartsIn, AreRoomy, AreSupplied, IsRoomyIn, IsSuppliedIn}
use Rattle.mbdc_theorems.proofs.Rooms.{sum_from, sum_none, sum_both, sum_one, sum_total, total, AllHave, LineHas, all_roomy, first_has}
use Rattle.mbdc_theorems.proofs.Turns.{first_of, told_here, queue_of_line, are_supplied, no_fault, none_pends_at, roomy_on, rounds_of_lines, starts_same, supplied_on, IsWellOn, all_running, all_well, none_failed, none_left}
use Rattle.mbdc_theorems.specs.Carried.{Wire}
use Rattle.mbdc_theorems.specs.Every.{room_of, room_on, AreUsual, RoomRowSuffices, EveryMeterIsRead, HasRoom, IsInOrder, IsOfNew, IsRead, IsWired, LineIsRead}
use Rattle.mbdc_theorems.specs.Beside.{IsOfLines, bus_at_first}
use Rattle.mbdc_theorems.proofs.Carried.{along_first}
use Rattle.mbdc_theorems.proofs.Following.{IsNew, follow, OrderOn, alone_on, orders, orders_on}
use Rattle.mbdc_theorems.proofs.Rows.{free_at_first, starts_on, is_read}

-- ---- what is counted on a line

abbrev pub reads_on : ℕ → List Happening → ℕ
reads_on line happened = length (read_in (happened_on line happened))

-- something happens on one of so many lines, or there are only commits
abbrev pub IsHere : ℕ → ℕ → List Happening → Type 0
IsHere n line happened = ((1 ≤ line) × (line ≤ n)) ⊎ AllByRecursion IsCommitTurn (happened_on line happened)

rest_here : (n line : ℕ) (h : Happening) (happened : List Happening) → IsHere n line (h ∷ happened) → IsHere n line happened
rest_here n line h happened (inl here) = inl here
rest_here n line h happened (inr none) = inr (all_right IsCommitTurn (kept_on line h) (happened_on line happened) none)

first_here : (n line : ℕ) (told : Told) (happened : List Happening) → IsHere n line (tells line told ∷ happened) → (1 ≤ line) × (line ≤ n)
first_here n line told happened (inl here) = here
first_here n line told happened (inr none) = absurd (first_of IsCommitTurn line (tells line told) happened (told_here line told) none)

reads_append : (line : ℕ) (h : Happening) (happened : List Happening) → reads_on line (h ∷ happened) ≡ length (read_in (kept_on line h)) + reads_on line happened
reads_append line h happened =
    ap length (flat_map-append read_of (kept_on line h) (happened_on line happened)) ∙ length-append (read_in (kept_on line h)) (read_in (happened_on line happened))

turn_none : (line : ℕ) (turn : Turn) → length (read_in (kept_on line (does turn))) ≡ 0
turn_none line turn = by (is_on line turn.0)
  where
    by : (b : Bool) → length (read_in (if b then does turn ∷ [] else [])) ≡ 0
    by true = refl
    by false = refl

told_counts : (line : ℕ) (told : Told) → length (read_by told ++ []) ≡ counts_read (tells line told)
told_counts line (was_read meter serial parts last) = refl
told_counts line (has_failed at meter why brought) = refl
told_counts line (was_refused meter refusal) = refl
told_counts line (is_lost lost) = refl
told_counts line (came_late late answers) = refl
told_counts line (has_ended read failed) = refl

told_once : (n line : ℕ) (told : Told) → 1 ≤ line → line ≤ n → sum_from (λ (other : ℕ). length (read_in (kept_on other (tells line told)))) 1 n ≡ counts_read (tells line told)
told_once n line told some few =
    sum_one (λ (other : ℕ). length (read_in (kept_on other (tells line told)))) 1 n line some (omega (arith, few))
    (λ other not. ap (λ (b : Bool). length (read_in (if b then tells line told ∷ [] else []))) (ne_eqb line other not))
    ∙ (ap (λ (b : Bool). length (read_in (if b then tells line told ∷ [] else []))) (eq-eqb line line refl) ∙ told_counts line told)

pub reads_over : (n : ℕ) (happened : List Happening) → ((line : ℕ) → IsHere n line happened) → sum_from (λ (line : ℕ). reads_on line happened) 1 n ≡ reads_in happened
reads_over n [] here = sum_none (λ (line : ℕ). reads_on line []) 1 n (λ k low. refl)
reads_over n (does turn ∷ happened) here =
    let both = sum_both (λ (line : ℕ). reads_on line (does turn ∷ happened)) (λ (line : ℕ). length (read_in (kept_on line (does turn)))) (λ (line : ℕ). reads_on line happened) 1 n (λ line. reads_append line (does turn) happened) in
    let none = sum_none (λ (line : ℕ). length (read_in (kept_on line (does turn)))) 1 n (λ k low. turn_none (1 + k) turn) in
    let rest = reads_over n happened (λ line. rest_here n line (does turn) happened (here line)) in
    omega (arith, both, none, rest)
reads_over n (tells l told ∷ happened) here =
    let both = sum_both (λ (line : ℕ). reads_on line (tells l told ∷ happened)) (λ (line : ℕ). length (read_in (kept_on line (tells l told)))) (λ (line : ℕ). reads_on line happened) 1 n (λ line. reads_append line (tells l told) happened) in
    let at = first_here n l told happened (here l) in
    let one = told_once n l told at.0 at.1 in
    let rest = reads_over n happened (λ line. rest_here n line (tells l told) happened (here line)) in
    omega (arith, both, one, rest)

-- ---- as many as the queues have

module _ {B : Type 0} where
  abbrev pub count_by : ℕ → Station B → ℕ
  count_by line station = length station.left.now

  pub count_is : (line : ℕ) (stations : List (Station B)) → total count_by line stations ≡ meters_left stations
  count_is line [] = refl
  count_is line (s ∷ stations) =
      let count : Station B → ℕ = λ x. length x.left.now in
      let sums : sum (count s ∷ map count stations) ≡ count s + sum (map count stations) = sum_by-cons (λ (n : ℕ). n) (count s) (map count stations) in
      let rest = count_is (line + 1) stations in
      omega (arith, sums, rest)

  pub queues_over : (stations : List (Station B)) (count : ℕ → ℕ) → ((k : ℕ) (d : Station B) → k < length stations → count (k + 1) ≡ length (get_or stations k d).left.now) → sum_from count 1 (length stations) ≡ meters_left stations
  queues_over stations count each =
      sum_total count_by count 1 (length stations) stations (omega arith)
      (λ k d low. let one : 1 + k ≡ k + 1 = omega arith in ap count one ∙ each k d low) (λ k past low. absurd (omega (arith, past, low)))
      ∙ count_is 1 stations

-- A register whose row ROOM suffices has room for a reading of each meter (the law of specs/Every).

times_both : (a b each : ℕ) → (a + b) * each ≡ a * each + b * each
times_both zero b each = let same : 0 + b ≡ b = omega arith in let one : (0 + b) * each ≡ b * each = ap (λ (n : ℕ). n * each) same in omega (arith, one)
times_both (suc a) b each =
    let same : suc a + b ≡ suc (a + b) = omega arith in
    let one : (suc a + b) * each ≡ (a + b) * each + each = ap (λ (n : ℕ). n * each) same ∙ suc-mul (a + b) each in
    let rest = times_both a b each in
    let other = suc-mul a each in
    omega (arith, one, rest, other)

queue_most : (f : Identity → ℕ) (each : ℕ) (xs : List Identity) → AllByRecursion (λ (x : Identity). f x ≤ each) xs → sum_by f xs ≤ length xs * each
queue_most f each [] all = omega arith
queue_most f each (x ∷ xs) all =
    let sums = sum_by-cons f x xs in
    let rest = queue_most f each xs all.1 in
    let count : suc (length xs) * each ≡ length xs * each + each = suc-mul (length xs) each in
    let one = all.0 in
    omega (arith, sums, rest, count, one)

room_most : {B : Type 0} (state : State) (wires : ℕ → Wire) (line : ℕ) (stations : List (Station B)) → AreUsual state wires line stations → room_on state wires line stations ≤ meters_left stations * bytes_a_reading state
room_most state wires line [] usual = omega arith
room_most {B} state wires line (s ∷ stations) usual =
    let each : ℕ = bytes_a_reading state in
    let count : Station B → ℕ = λ x. length x.left.now in
    let sums : sum (count s ∷ map count stations) ≡ count s + sum (map count stations) = sum_by-cons (λ (n : ℕ). n) (count s) (map count stations) in
    let all : meters_left (s ∷ stations) * each ≡ length s.left.now * each + meters_left stations * each = ap (λ (n : ℕ). n * each) sums ∙ times_both (length s.left.now) (meters_left stations) each in
    let one = queue_most (room_of state (wires line)) each s.left.now usual.0 in
    let rest = room_most state wires (line + 1) stations usual.1 in
    omega (arith, all, one, rest)

left_is : (none : Bool) (n readings : ℕ) → ◌≡◌ {A = Option ℕ} (if none then None else Some n) (Some readings) → readings ≡ n
left_is true n readings e = absurd cc
left_is false n readings e = let same : n ≡ readings = cc in sym same

pub room_row_suffices : {B : Type 0} (g : Bus B) → RoomRowSuffices g
room_row_suffices g budget readings state wires stations within row few usual serials =
    let each : ℕ = bytes_a_reading state in
    let free : ℕ = budget - size_of state in
    let is : readings ≡ free / each = left_is (each == 0) (free / each) readings row in
    let most = room_most state wires 1 stations usual in
    let more : meters_left stations * each ≤ readings * each = mul-le-mul_right each few in
    let all : readings * each ≡ free / each * each = ap (λ (n : ℕ). n * each) is in
    let fits : free / each * each ≤ free = div-mul-le_self free each in
    record { room = omega (arith, most, more, all, fits, within); serials = serials }

-- Every meter is read (the theorem of specs/Every).

-- ---- which meters are started

module _ (P : Identity → Type 0) where
  abbrev AreThey : Part → Type 0
  AreThey (part left failed pass phase) = AllByRecursion P (left ++ failed)

  moved : (x : Identity) (xs ys : List Identity) → AllByRecursion P (x ∷ (xs ++ ys)) → AllByRecursion P (xs ++ (ys ++ x ∷ []))
  moved x xs ys all = all_both P xs (ys ++ x ∷ []) (all_left P xs ys all.1) (all_both P ys (x ∷ []) (all_right P xs ys all.1) (all.0, tt))

  -- what holds of each of a queue holds of each that is started
  started_of : {tries line : ℕ} {old last : Part} {happened : List Happening} → Goes tries line old happened last → AreThey old → AllByRecursion P (starts_in happened)
  started_of stays a = tt
  started_of (passes_on {meter = x} {failed = xs} less goes) a = started_of goes (subst (AllByRecursion P) (sym (append-nil (x ∷ xs))) a)
  started_of (starts_it few goes) a = (a.0, started_of goes a)
  started_of (is_refused few goes) a = (a.0, started_of goes a.1)
  started_of (asks_it goes) a = started_of goes a
  started_of (has_no_request goes) a = started_of goes a.1
  started_of (is_given_up goes) a = started_of goes a.1
  started_of (goes_on on goes) a = started_of goes a
  started_of (is_accepted goes) a = started_of goes a
  started_of (is_put_off {meter = x} {left = xs} {failed = ys} less goes) a = started_of goes (moved x xs ys a)
  started_of (fails_at_last most goes) a = started_of goes a.1
  started_of (is_faulty goes) a = started_of goes a.1
  started_of (is_stored goes) a = started_of goes a
  started_of (is_unstored goes) a = started_of goes a.1
  started_of (stands_by not goes) a = started_of goes a
  started_of (is_told says goes) a = started_of goes a
  started_of (loses_it goes) a = started_of goes a

-- ---- a line

module _ {B : Type 0} where
  part_first : (s : Station B) → IsFresh s → part_of s ≡ part s.left.now [] 1 Free
  part_first s fresh =
      let q = s.left.now in
      part_is s q (length q) 1 Free refl fresh.all fresh.first fresh.free
      ∙ ap (λ (xs : List Identity). part xs (drop (length q) q) 1 Free) (take_all (length q) q (omega arith)) ∙ ap (λ (xs : List Identity). part q xs 1 Free) (drop_all (length q) q (omega arith))

  part_last : (s : Station B) → IsOver s → part_of s ≡ part [] [] s.pass Free
  part_last s over =
      part_is s [] s.due s.pass Free over.0 refl refl over.1
      ∙ ap (λ (xs : List Identity). part xs (drop s.due []) s.pass Free) (take_all s.due [] (omega arith)) ∙ ap (λ (xs : List Identity). part [] xs s.pass Free) (drop_all s.due [] (omega arith))

module _ (budget : ℕ) (state : State) (happened : List Happening) (chain : IsChain budget (opened state) (happened_turns happened)) (of : AllByRecursion IsOfLines (happened_turns happened)) (well : AreSupplied happened)
    (none : (line : ℕ) (front back : List Turn) → happened_turns happened ≡ front ++ (asks line, asked None) ∷ back → (leads (opened state) front).pending ≡ []) (none_last : (leads (opened state) (happened_turns happened)).pending ≡ []) (truth : AreTrue (opened state) some_wait happened) where
  abbrev now : State
  now = (leads (opened state) (happened_turns happened)).committed

  abbrev Was : ℕ → Wire → Identity → Type 0
  Was line wire x = WasRead line state wire (happened_turns happened) x

  abbrev New : ℕ → Wire → Identity → ℕ → Type 0
  New line wire x serial = WasNew line state wire (happened_turns happened) x serial

  -- what is known of a line in order, also where a telegram is refused for want of room
  record LineKnown (wire : Wire) (queue : List Identity) (line : ℕ) : Type 0 where
    facts : Facts (Was line wire) (New line wire) None 0 true (happened_on line happened)
    parts : PartsIn line wire (opened state) (happened_turns happened)
    order : OrderOn line queue (happened_turns happened)

  line_known : {B : Type 0} (g : Bus B) (tries line : ℕ) (wire : Wire) (old new : Station B) (goes : LineGoes g tries line old new (happened_on line happened)) → IsFresh old → is_line line ≡ true
      → IsInOrder g tries line state wire old new happened goes → AllByRecursion (λ (x : Identity). (row : MeterRow) → row_of x state ≡ Some row → row.line ≡ line) old.left.now → LineKnown wire old.left.now line
  line_known g tries line wire old new goes fresh is_one order of_line =
      let q : List Identity = old.left.now in
      let on : List Happening = happened_on line happened in
      let turns : List Turn = happened_turns happened in
      let queue : Goes tries line (part q [] 1 Free) on (part_of new) = subst (λ (p : Part). Goes tries line p on (part_of new)) (part_first old fresh) goes.queue in
      let on_line : AllByRecursion (IsWiredOn line state wire) q = all_with (IsWired state wire) (λ (x : Identity). (row : MeterRow) → row_of x state ≡ Some row → row.line ≡ line) (IsWiredOn line state wire) q (wired_on line state wire) order.wired of_line in
      let wired : AllByRecursion (IsWiredOn line state wire) (starts_in on) = started_of (IsWiredOn line state wire) queue (subst (AllByRecursion (IsWiredOn line state wire)) (sym (append-nil q)) on_line) in
      let supplied = supplied_on line happened well in
      let two = along_first budget line state wire turns chain of is_one well (none line) goes.talk 0 true happened [] (bus_at_first wire.positions) refl of refl truth order.counted (free_at_first line state) order.carried supplied wired in
      record {
        facts = two.0;
        parts = two.1;
        order = orders_on line q happened of (orders (Was line wire) (New line wire) queue refl supplied (record { meter = None; asks_before = 0; facts = two.0 }));
      }

  -- ---- where no telegram is refused for want of room

  record LineWell (wire : Wire) (queue : List Identity) (line : ℕ) : Type 0 where
    line_read : LineIsRead state now wire queue (happened_on line happened)
    line_well : AllByRecursion GoesWell (happened_on line happened)

  new_of : (line : ℕ) (wire : Wire) → AreApart (starts_on line (happened_turns happened)) → (h : Happening) → IsNew (Was line wire) (New line wire) h → IsOfNew state now wire h
  new_of line wire once (does turn) new = tt
  new_of line wire once (tells other (told_read m serial parts last)) new = (is_read budget line state wire (happened_turns happened) chain of once m new.was none_last, new.serial_is)
  new_of line wire once (tells other (has_failed at m why brought)) new = tt
  new_of line wire once (tells other (was_refused m refusal)) new = tt
  new_of line wire once (tells other (is_lost lost)) new = tt
  new_of line wire once (tells other (came_late late answers)) new = tt
  new_of line wire once (tells other (has_ended read failed)) new = tt

  line_is_read : {B : Type 0} (g : Bus B) (tries line : ℕ) (wire : Wire) (old new : Station B) → LineGoes g tries line old new (happened_on line happened) → IsFresh old → IsOver new → AreRoomy happened
      → LineKnown wire old.left.now line → AreApart old.left.now → LineWell wire old.left.now line
  line_is_read g tries line wire old new goes fresh over roomy known apart =
      let q : List Identity = old.left.now in
      let on : List Happening = happened_on line happened in
      let turns : List Turn = happened_turns happened in
      let from_first : Goes tries line (part q [] 1 Free) on (part_of new) = subst (λ (p : Part). Goes tries line p on (part_of new)) (part_first old fresh) goes.queue in
      let queue : Goes tries line (part q [] 1 Free) on (part [] [] new.pass Free) = subst (λ (p : Part). Goes tries line (part q [] 1 Free) on p) (part_last new over) from_first in
      let fine : AllByRecursion (λ (h : Happening). IsSuppliedIn h × IsRoomyIn h) on = all_with IsSuppliedIn IsRoomyIn (λ (h : Happening). IsSuppliedIn h × IsRoomyIn h) on (λ h a b. (a, b)) (supplied_on line happened well) (roomy_on line happened roomy) in
      let done = follow (Was line wire) (New line wire) queue (refl, refl) refl fine (record { meter = None; asks_before = 0; facts = known.facts }) in
      let both = all_read tries line q on new.pass done.well queue in
      let once : AreApart (starts_on line turns) = subst AreApart (sym both.0 ∙ starts_same line happened) apart in
      record {
        line_read = record {
          in_order = both.1;
          each = all_as (Was line wire) (IsRead state now wire) q (λ x w. is_read budget line state wire turns chain of once x w none_last) done.reads;
          told = all_as (IsNew (Was line wire) (New line wire)) (IsOfNew state now wire) on (λ h new. new_of line wire once h new) done.told;
        };
        line_well = done.well;
      }

-- ---- all lines

over_at : {B : Type 0} (stations : List (Station B)) (k : ℕ) (d : Station B) → All IsOver stations → IsOver d → IsOver (get_or stations k d)
over_at stations k d over last = ⊎_elim
    (λ (low : k < length stations). over k d low)
    (λ (past : length stations ≤ k). subst IsOver (sym (get_or_past stations k d past)) last)
    (cases_lt k (length stations))

ends_over : {B : Type 0} (olds news : List (Station B)) (store : Store) → store ≡ all_kept → (store ≡ unkept) ⊎ (All IsFresh olds → All HasFew olds → All IsOver news × All IsSilent news) → All IsFresh olds → All HasFew olds → All IsOver news × All IsSilent news
ends_over olds news store kept (inl lost) fresh few = absurd (let bad : all_kept ≡ unkept = sym kept ∙ lost in cc)
ends_over olds news store kept (inr ends) fresh few = ends fresh few

well_on : (happened : List Happening) (n : ℕ) → ((k : ℕ) → k < n → AllByRecursion GoesWell (happened_on (k + 1) happened)) → ((other : ℕ) → ((k : ℕ) → k < n → other ≢ k + 1) → All IsCommitTurn (happened_on other happened)) → (line : ℕ) → IsWellOn line happened
well_on happened n each alone zero = inr (recursion_from_All IsCommitTurn (happened_on zero happened) (alone zero (λ k low e. omega (arith, e))))
well_on happened n each alone (suc j) = ⊎_elim
    (λ (low : j < n). inl (subst (λ (m : ℕ). AllByRecursion GoesWell (happened_on m happened)) (next_line j) (each j low)))
    (λ (past : n ≤ j). inr (recursion_from_All IsCommitTurn (happened_on (suc j) happened) (alone (suc j) (λ k low e. omega (arith, past, low, e)))))
    (cases_lt j n)
  where
    next_line : (k : ℕ) → k + 1 ≡ suc k
    next_line k = omega arith

-- there are eight lines
is_one_of : (k : ℕ) → k < 8 → is_line (k + 1) ≡ true
is_one_of k low = grind (arith, nat_tests)

line_is : {B : Type 0} (olds : List (Station B)) (buses : List B) → map (λ (s : Station B). s.bus) olds ≡ take most_lines buses → (k : ℕ) → k < length olds → is_line (k + 1) ≡ true
line_is {B} olds buses are k low =
    let one = ap length are in
    let two = length-map olds (λ (s : Station B). s.bus) in
    let three = length-take most_lines buses in
    is_one_of k (omega (arith, low, one, two, three))

few_are : {B : Type 0} (olds : List (Station B)) (buses : List B) → map (λ (s : Station B). s.bus) olds ≡ take most_lines buses → length olds ≤ 8
few_are {B} olds buses are =
    let one = ap length are in
    let two = length-map olds (λ (s : Station B). s.bus) in
    let three = length-take most_lines buses in
    omega (arith, one, two, three)

one_of : {X : Type 0} (xs : List X) (k : ℕ) → k < length xs → X
one_of [] k low = absurd (omega (arith, low))
one_of (x ∷ xs) k low = x

-- each event is of one of these lines
here_on : (happened : List Happening) (n : ℕ) → ((other : ℕ) → ((k : ℕ) → k < n → other ≢ k + 1) → All IsCommitTurn (happened_on other happened)) → (line : ℕ) → IsHere n line happened
here_on happened n alone zero = inr (recursion_from_All IsCommitTurn (happened_on zero happened) (alone zero (λ k low e. omega (arith, e))))
here_on happened n alone (suc j) = ⊎_elim
    (λ (low : j < n). inl (omega arith, omega (arith, low)))
    (λ (past : n ≤ j). inr (recursion_from_All IsCommitTurn (happened_on (suc j) happened) (alone (suc j) (λ k low e. omega (arith, past, low, e)))))
    (cases_lt j n)

counted_read : (out between counts reads left : ℕ) → out ≡ between → between ≡ counts → counts ≡ 0 + reads → reads ≡ left → out ≡ left
counted_read out between counts reads left a b c d = omega (arith, a, b, c, d)

counted_failed : (out between counts refused failures left : ℕ) → out ≡ min (2 ^ 64 - 1) (between + left) → between ≡ counts → counts ≡ min (2 ^ 32 - 1) refused + failures → failures ≡ 0 → left ≡ 0 → out ≡ min (2 ^ 32 - 1) refused
counted_failed out between counts refused failures left a b c d e = omega (arith, a, b, c, d, e)

-- a station with nothing left
abbrev over_by : {B : Type 0} → Station B → Station B
over_by station = record station { left = record station.left { now = [] }; phase = Free; request = Quiet }

-- ---- the room of the queues

queue_in : {B : Type 0} → List (Station B) → ℕ → List Identity
queue_in [] k = []
queue_in (s ∷ stations) zero = s.left.now
queue_in (s ∷ stations) (suc k) = queue_in stations k

queue_at : {B : Type 0} (stations : List (Station B)) (k : ℕ) (d : Station B) → k < length stations → queue_in stations k ≡ (get_or stations k d).left.now
unfolding queue_in
queue_at [] k d low = absurd (omega (arith, low))
queue_at (s ∷ stations) zero d low = refl
queue_at (s ∷ stations) (suc k) d low = queue_at stations k d (omega (arith, low))

queue_past : {B : Type 0} (stations : List (Station B)) (k : ℕ) → length stations ≤ k → queue_in stations k ≡ []
unfolding queue_in
queue_past [] k past = refl
queue_past (s ∷ stations) zero past = absurd (omega (arith, past))
queue_past (s ∷ stations) (suc k) past = queue_past stations k (omega (arith, past))

abbrev room_at : State → (ℕ → Wire) → ℕ → List Identity → ℕ
room_at state wires line queue = sum_by (room_of state (wires line)) queue

module _ {B : Type 0} (state : State) (wires : ℕ → Wire) where
  abbrev room_by : ℕ → Station B → ℕ
  room_by line station = room_at state wires line station.left.now

  room_is : (line : ℕ) (stations : List (Station B)) → total room_by line stations ≡ room_on state wires line stations
  room_is line [] = refl
  room_is line (s ∷ stations) = ap (λ (n : ℕ). room_by line s + n) (room_is (line + 1) stations)

  module _ (stations : List (Station B)) (few : length stations ≤ 8) where
    abbrev rooms : ℕ → ℕ
    rooms line = room_at state wires line (queue_in stations (line - 1))

    abbrev counts : ℕ → ℕ
    counts line = length (queue_in stations (line - 1))

    place : (k : ℕ) → 1 + k - 1 ≡ k
    place k = omega arith

    all_rooms : sum_from rooms 1 8 ≡ room_on state wires 1 stations
    all_rooms =
        sum_total room_by rooms 1 8 stations few
        (λ k d low. ap (λ (j : ℕ). room_at state wires (1 + k) (queue_in stations j)) (place k) ∙ ap (room_at state wires (1 + k)) (queue_at stations k d low))
        (λ k past low. ap (λ (j : ℕ). room_at state wires (1 + k) (queue_in stations j)) (place k) ∙ ap (room_at state wires (1 + k)) (queue_past stations k past))
        ∙ room_is 1 stations

    all_counts : sum_from counts 1 8 ≡ meters_left stations
    all_counts =
        sum_total count_by counts 1 8 stations few
        (λ k d low. ap (λ (j : ℕ). length (queue_in stations j)) (place k) ∙ ap length (queue_at stations k d low))
        (λ k past low. ap (λ (j : ℕ). length (queue_in stations j)) (place k) ∙ ap length (queue_past stations k past))
        ∙ count_is 1 stations

-- at first there is room for all
module _ {B : Type 0} (budget : ℕ) (state : State) (wires : ℕ → Wire) (stations : List (Station B)) (happened : List Happening) (few : length stations ≤ 8) (of : AllByRecursion IsOfLines (happened_turns happened))
    (each : (k : ℕ) (d : Station B) → k < length stations → OrderOn (k + 1) (get_or stations k d).left.now (happened_turns happened) × PartsIn (k + 1) (wires (k + 1)) (opened state) (happened_turns happened))
    (alone : (other : ℕ) → ((k : ℕ) → k < length stations → other ≢ k + 1) → All IsCommitTurn (happened_on other happened)) where
  abbrev Has : ℕ → Type 0
  Has line = LineHas budget state wires line (rooms state wires stations few line) (counts state wires stations few line) (opened state) (happened_turns happened)

  line_place : (line : ℕ) → is_line line ≡ true → line - 1 + 1 ≡ line
  line_place line is = grind (arith, nat_tests)

  has_queue : (line : ℕ) (queue : List Identity) → queue_in stations (line - 1) ≡ queue → OrderOn line queue (happened_turns happened) → PartsIn line (wires line) (opened state) (happened_turns happened) → Has line
  has_queue line queue is order parts =
      first_has budget state wires line (rooms state wires stations few line) (counts state wires stations few line) queue (happened_turns happened)
      (ap (room_at state wires line) (sym is)) (ap length (sym is)) order parts

  at_line : (k : ℕ) → k + 1 - 1 ≡ k
  at_line k = omega arith

  has_line : (line : ℕ) (k : ℕ) → k + 1 ≡ line → Has line
  has_line line k place = subst Has place (⊎_elim
      (λ (low : k < length stations).
      let d : Station B = one_of stations k low in
      let known = each k d low in
      has_queue (k + 1) (get_or stations k d).left.now (ap (queue_in stations) (at_line k) ∙ queue_at stations k d low) known.0 known.1)
      (λ (past : length stations ≤ k).
      let none = alone_on (k + 1) (wires (k + 1)) (opened state) happened of (recursion_from_All IsCommitTurn (happened_on (k + 1) happened) (alone (k + 1) (λ j low e. omega (arith, past, low, e)))) in
      has_queue (k + 1) [] (ap (queue_in stations) (at_line k) ∙ queue_past stations k past) none.0 none.1)
      (cases_lt k (length stations)))

  first_have : HasRoom budget state wires stations → AllHave budget state wires (opened state) (happened_turns happened)
  first_have room = record {
    rooms = rooms state wires stations few;
    counts = counts state wires stations few;
    room = let sums = all_rooms state wires stations few in let most = room.room in omega (arith, sums, most);
    serials = let sums = all_counts state wires stations few in let most = room.serials in omega (arith, sums, most);
    flats = λ m. refl;
    each = λ line is. has_line line (line - 1) (line_place line is);
  }

pub each_is_read : {D B T N : Type 0} (g : Ghosts D) (bus : Bus B) (told : T → ℕ → T → Type 0) (passes : T → Bool → T → Type 0) (warned : T → T → Type 0) (takes : N → Told → N → Type 0) → EveryMeterIsRead g bus told passes warned takes
each_is_read {D = D} {B = B} g bus told passes warned takes disk new buses only tries first last old fresh outcome wires poll sorted wanting rooms_are order =
    let state : State = poll.state in
    let happened : List Happening = poll.happens.happened in
    let turns : List Turn = happened_turns happened in
    let plan = poll.happens.are_such in
    let polled = plan.polls.polled in
    let polls = polled.polls in
    let olds : List (Station B) = plan.olds in
    let news : List (Station B) = plan.news in
    let budget : ℕ = poll.first.house.budget in
    let chain : IsChain budget (opened state) turns = subst (IsChain budget (opened state)) poll.happens.went.turns_are poll.happens.went.ran.chain in
    let of : AllByRecursion IsOfLines turns = rounds_of_lines polls.keeps in
    let well : AreSupplied happened = are_supplied told passes plan.begun last budget (opened state) [] turns refl chain polls.keeps wanting in
    let no : plan.polls.between.fault ≡ None = no_fault plan.polls.between.fault turns polled.fault well in
    let kept : store_of plan.polls.between.fault ≡ all_kept = ap store_of no in
    let none_last : (leads (opened state) turns).pending ≡ [] = none_pends budget (opened state) turns refl chain (polls.stored ∙ kept) in
    let none : (line : ℕ) (front back : List Turn) → turns ≡ front ++ (asks line, asked None) ∷ back → (leads (opened state) front).pending ≡ [] =
    λ line front back is. none_pends_at budget (opened state) line refl chain of well polls.keeps front back is in
    let fresh_all : All IsFresh olds = λ k d low. (plan.planned.each k d low).fresh in
    let few_all : All HasFew olds = λ k d low. (order k d low).few in
    let over : All IsOver news × All IsSilent news = ends_over olds news (store_of plan.polls.between.fault) kept polled.ended fresh_all few_all in
    let known : (k : ℕ) (d : Station B) → k < length olds → LineKnown budget state happened chain of well none none_last polls.are_true (wires (k + 1)) (get_or olds k d).left.now (k + 1) =
    λ k d low.
    let station : Station B = get_or olds k d in
    let planned = plan.planned.each k d low in
    let of_line = subst (AllByRecursion (λ (x : Identity). (row : MeterRow) → row_of x state ≡ Some row → row.line ≡ k + 1)) (sym planned.queue) (queue_of_line state only (k + 1) (bus.lost station.bus) sorted) in
    line_known budget state happened chain of well none none_last polls.are_true bus tries (k + 1) (wires (k + 1)) station (get_or news k d) (polls.rounds.goes k d low) planned.fresh (line_is olds buses plan.planned.buses_are k low) (order k d low) of_line in
    let few_lines : length olds ≤ 8 = few_are olds buses plan.planned.buses_are in
    let have : AllHave budget state wires (opened state) turns = first_have budget state wires olds happened few_lines of (λ k d low. ((known k d low).order, (known k d low).parts)) polls.rounds.alone rooms_are in
    let roomy : AreRoomy happened = all_roomy budget state wires [] turns chain of well have in
    let lines : (k : ℕ) (d : Station B) → k < length olds → LineWell budget state happened chain of well none none_last polls.are_true (wires (k + 1)) (queue_on state only (k + 1) (bus.lost (get_or olds k d).bus)) (k + 1) =
    λ k d low.
    let e : Station B = over_by (get_or olds k d) in
    let station : Station B = get_or olds k e in
    let planned = plan.planned.each k e low in
    let apart : AreApart station.left.now = subst AreApart (sym planned.queue) (queue_apart state only (k + 1) (bus.lost station.bus) sorted) in
    let one = line_is_read budget state happened chain of well none none_last polls.are_true bus tries (k + 1) (wires (k + 1)) station (get_or news k e) (polls.rounds.goes k e low) planned.fresh (over_at news k e over.0 (refl, refl)) roomy (known k e low) apart in
    let queue : station.left.now ≡ queue_on state only (k + 1) (bus.lost (get_or olds k d).bus) = planned.queue ∙ ap (λ (s : Station B). queue_on state only (k + 1) (bus.lost s.bus)) (get_or_default olds k e d low) in
    subst (λ (q : List Identity). LineWell budget state happened chain of well none none_last polls.are_true (wires (k + 1)) q (k + 1)) queue one in
    let each_well : (k : ℕ) → k < length olds → AllByRecursion GoesWell (happened_on (k + 1) happened) = λ k low. (lines k (one_of olds k low) low).line_well in
    let in_queues : (k : ℕ) (d : Station B) → k < length olds → length (read_in (happened_on (k + 1) happened)) ≡ length (get_or olds k d).left.now =
    λ k d low. ap length ((lines k d low).line_read.in_order ∙ sym (plan.planned.each k d low).queue) in
    let running : (leads (opened state) turns).stopped ≡ false = all_running (opened state) turns of well refl in
    let at : IsAt g poll.first.store.disk poll.last (leads (opened state) turns) =
    subst (λ (ts : List Turn). IsAt g poll.first.store.disk poll.last (leads (opened state) ts)) poll.happens.went.turns_are poll.happens.went.ran.at in
    let all : AllByRecursion GoesWell happened = all_well budget (opened state) happened of chain well (well_on happened (length olds) each_well polls.rounds.alone) in
    record {
      lines = λ k d low. (lines k d low).line_read;
      committed = none_last;
      running = running;
      stored = λ keeps image. subst (λ (d : D). IsImage (g.choices d) image → Stands (half_of g d) (leads (opened state) turns).committed image) (sym poll.disk_is) (at.stands keeps running image);
      well = all;
      told = takes_both takes old plan.between fresh (refused_events (has_bus bus.lost (take most_lines buses)) state (asked_for only state))
          (happened_events happened ++ (lates_from bus 1 news ++ has_ended outcome.read outcome.failed ∷ [])) plan.refuses polls.events;
      read = counted_read outcome.read plan.polls.between.read polled.counts.read (reads_in happened) (meters_left olds) plan.polls.read polled.read polls.read (sym (reads_over (length olds) happened (here_on happened (length olds) polls.rounds.alone)) ∙ queues_over olds (λ (line : ℕ). length (read_in (happened_on line happened))) in_queues);
      failed = counted_failed outcome.failed plan.polls.between.failed polled.counts.failed (refused_count (has_bus bus.lost (take most_lines buses)) state (asked_for only state)) (failures_in happened) (meters_left news)
          plan.polls.failed polled.failed polls.failed (none_failed happened all) (none_left news (recursion_from_All IsOver news over.0));
      fault = plan.polls.fault ∙ no;
    }
