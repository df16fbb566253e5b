-- Sums over the lines, one of which changes (for the theorem of specs/Every).
use Rattle.std.proofs.Common.{◌≡◌, ◌≢◌, ⊎_elim, ℕ, zero, suc, ◌+◌, ◌<◌, ◌≤◌, Bool, List, [], ◌∷◌, length, get_or, arith, refl, sym, ◌∙◌, ap, subst, if◌then◌else◌, true, false, Option, Some, None, drop, inl, inr, ◌-◌, not, Result, Ok, Err, ◌++◌, append_assoc, get_or-set_same, get_or-set_other}
use Rattle.std.specs.Prelude.{◌==◌, sum_by, ◌&&◌, nat_le, nat_lt, is_some}
use Rattle.std.proofs.lemmas.Bool.{cases_eq, eq-eqb, ne_eqb, and_right, le-ltb, lt-leb, or_from}
use Rattle.std.proofs.lemmas.List.Sums.{sum_by-cons}
use Rattle.std.specs.List.{AllByRecursion}
use Rattle.std.proofs.Math.ListN.{set}
use Rattle.std.proofs.lemmas.Bool.Decides.{nat_tests}
use Rattle.std.specs.Ordering.{is_eq}
use Rattle.dc_address.specs.declared.identity.Identity.{Identity}
use Rattle.dc_records.specs.Body.{continues}
use Rattle.dc_records.specs.Telegram.{Parsed}
use Rattle.dc_readout.specs.declared.stage.Stage.{Stage}
use Rattle.dc_readout.specs.declared.stage.Stage.TheVariants.{Resets, Selects, Requests, Pending, Ended}
use Rattle.dc_readout.specs.Summary.{Summary, ready, new, after_command, asked_at, heard_by, stage_settled, Verdict, again, failed, asked_by, begun, verdict_by}
use Rattle.mbdc_change.specs.Apply.{applied, heard as told_at, joined, told}
use Rattle.mbdc_change.specs.Size.{part_size, size_of}
use Rattle.mbdc_change.specs.State.{State, MeterRow, PartRow, row_of}
use Rattle.dc_core.specs.Lines.{settled_at, settled_on, is_line, line_count}
use Rattle.dc_core.specs.Taking.{change_of}
use Rattle.dc_address.specs.Identity.{identity_cmp}
use Rattle.dc_address.proofs.Order.{same_from_tie}
use Rattle.dc_readout.proofs.Taken.{taken}
use Rattle.mbdc_change.specs.Accepts.{continues as is_continued, refusal, telegram_stands}
use Rattle.mbdc_change.specs.Body.{body_of}
use Rattle.mbdc_change.specs.Fields.{end_of_numbers}
use Rattle.mbdc_change.specs.declared.change.Change.{Change}
use Rattle.mbdc_change.specs.declared.fault.ChangeFault.TheVariants.{Full as RegisterFull, Unknown as RegisterUnknown}
use Rattle.mbdc_change.proofs.History.{after_of_push}
use Rattle.dc_core.specs.declared.fault.StartFault.{StartFault}
use Rattle.dc_core.specs.declared.fault.HearFault.{HearFault}
use Rattle.dc_core.specs.declared.fault.HearFault.TheVariants.{Full, Idle, NoLine, NoMemory, PendingFull, Stopped}
use Rattle.dc_core.specs.declared.line_heard.LineHeard.{LineHeard}
use Rattle.dc_core.specs.Core.{Core, present, session_of, opened}
use Rattle.dc_core.specs.Event.{Event, Answer, starts, asks, hears, commits, offices, started, asked, heard, committed}
use Rattle.dc_core.specs.Known.{IsForWantOfRoom}
use Rattle.dc_core.specs.Step.{May, MayHear, next, is_on, address_in, answer_on, hear_answer, judged, heard_on, settled_core, session_after}
use Rattle.dc_core.specs.Transcript.{Turn, leads, IsChain}
use Rattle.dc_core.proofs.Followed.{none_is_unknown, get_settled}
use Rattle.dc_core.proofs.Going.{leads_push}
use Rattle.dc_core.proofs.Registered.{row_of_same, row_of_other}
use Rattle.dc_core.proofs.Told.{chain_parts}
use Rattle.mbdc_theorems.specs.Beside.{IsNextPart, IsOfLines}
use Rattle.mbdc_theorems.specs.Readout.{body_size, room_for}
use Rattle.mbdc_theorems.proofs.Parts.{drop_next}
use Rattle.mbdc_theorems.proofs.Register.{size_open, size_last}
use Rattle.mbdc_theorems.specs.Carried.{Wire}
use Rattle.mbdc_theorems.specs.Every.{flat_in, room_of}
use Rattle.mbdc_theorems.proofs.Rounds.{lines_are_kept}
use Rattle.mbdc_theorems.proofs.Others.{start_parts, heard_line, low_place, places_differ}
use Rattle.mbdc_theorems.proofs.Rows.{free_at_first}
use Rattle.mbdc_theorems.proofs.Following.{OrderOn, StartsIt, todo_on}
use Rattle.mbdc_theorems.proofs.Facts.{CutBy, PartsIn, uncut, IsRoomy, IsSupplied}

-- this number on a line, and the others as before
abbrev pub set_at : ℕ → ℕ → (ℕ → ℕ) → ℕ → ℕ
set_at line v f k = if k == line then v else f k

pub set_here : (line v : ℕ) (f : ℕ → ℕ) → set_at line v f line ≡ v
set_here line v f = ap (λ (b : Bool). if b then v else f line) (eq-eqb line line refl)

pub set_other : (line other v : ℕ) (f : ℕ → ℕ) → line ≢ other → set_at line v f other ≡ f other
set_other line other v f ne = ap (λ (b : Bool). if b then v else f other) (ne_eqb other line (λ e. ne (sym e)))

-- as many lines, from the first one on
abbrev pub sum_from : (ℕ → ℕ) → ℕ → ℕ → ℕ
sum_from f first zero = 0
sum_from f first (suc n) = f first + sum_from f (first + 1) n

sum_past : (line v : ℕ) (f : ℕ → ℕ) (first n : ℕ) → line < first → sum_from (set_at line v f) first n ≡ sum_from f first n
sum_past line v f first zero less = refl
sum_past line v f first (suc n) less =
    let one = set_other line first v f (λ e. omega (arith, less, e)) in
    let rest = sum_past line v f (first + 1) n (omega (arith, less)) in
    omega (arith, one, rest)

pub sum_set : (line v : ℕ) (f : ℕ → ℕ) (first n : ℕ) → first ≤ line → line < first + n → sum_from (set_at line v f) first n + f line ≡ sum_from f first n + v
sum_set line v f first zero low high = absurd (omega (arith, low, high))
sum_set line v f first (suc n) low high = ⊎_elim
    (λ (e : first ≡ line).
    let one : set_at line v f first ≡ v = ap (set_at line v f) e ∙ set_here line v f in
    let rest = sum_past line v f (first + 1) n (omega (arith, e)) in
    let same : f first ≡ f line = ap f e in
    omega (arith, one, rest, same))
    (λ (ne : first ≢ line).
    let one = set_other line first v f (λ e. ne (sym e)) in
    let rest = sum_set line v f (first + 1) n (next_low first line low ne) (omega (arith, high)) in
    omega (arith, one, rest))
    (cases_eq first line)
  where
    next_low : (a b : ℕ) → a ≤ b → a ≢ b → a + 1 ≤ b
    next_low zero zero low ne = absurd (ne refl)
    next_low zero (suc b) low ne = omega arith
    next_low (suc a) zero low ne = absurd (omega (arith, low))
    next_low (suc a) (suc b) low ne = let rest = next_low a b (omega (arith, low)) (λ e. ne (ap suc e)) in omega (arith, rest)

pub sum_most : (line : ℕ) (f : ℕ → ℕ) (first n : ℕ) → first ≤ line → line < first + n → f line ≤ sum_from f first n
sum_most line f first n low high =
    let same = sum_set line 0 f first n low high in
    omega (arith, same)

pub sum_none : (f : ℕ → ℕ) (first n : ℕ) → ((k : ℕ) → k < n → f (first + k) ≡ 0) → sum_from f first n ≡ 0
sum_none f first zero none = refl
sum_none f first (suc n) none =
    let here : first + 0 ≡ first = omega arith in
    let one : f first ≡ 0 = ap f (sym here) ∙ none 0 (omega arith) in
    let rest = sum_none f (first + 1) n (λ k low. let there : first + 1 + k ≡ first + (k + 1) = omega arith in ap f there ∙ none (k + 1) (omega (arith, low))) in
    omega (arith, one, rest)

pub sum_both : (f one other : ℕ → ℕ) (first n : ℕ) → ((k : ℕ) → f k ≡ one k + other k) → sum_from f first n ≡ sum_from one first n + sum_from other first n
sum_both f one other first zero both = refl
sum_both f one other first (suc n) both =
    let here = both first in
    let rest = sum_both f one other (first + 1) n both in
    omega (arith, here, rest)

-- where only this line counts
pub sum_one : (f : ℕ → ℕ) (first n line : ℕ) → first ≤ line → line < first + n → ((other : ℕ) → line ≢ other → f other ≡ 0) → sum_from f first n ≡ f line
sum_one f first n line low high others =
    let same = sum_set line 0 f first n low high in
    let none = sum_none (set_at line 0 f) first n (λ k less. zero_at (first + k)) in
    omega (arith, same, none)
  where
    zero_at : (k : ℕ) → set_at line 0 f k ≡ 0
    zero_at k = ⊎_elim
        (λ (e : line ≡ k). ap (set_at line 0 f) (sym e) ∙ set_here line 0 f)
        (λ (ne : line ≢ k). set_other line k 0 f ne ∙ others k ne)
        (cases_eq line k)

-- ---- of a list

module _ {X : Type 0} (count : ℕ → X → ℕ) where
  abbrev pub total : ℕ → List X → ℕ
  total line [] = 0
  total line (x ∷ xs) = count line x + total (line + 1) xs

  pub sum_total : (f : ℕ → ℕ) (first n : ℕ) (xs : List X) → length xs ≤ n → ((k : ℕ) (d : X) → k < length xs → f (first + k) ≡ count (first + k) (get_or xs k d)) → ((k : ℕ) → length xs ≤ k → k < n → f (first + k) ≡ 0) → sum_from f first n ≡ total first xs
  sum_total f first n [] few each past = sum_none f first n (λ k low. past k (omega arith) low)
  sum_total f first zero (x ∷ xs) few each past = absurd (omega (arith, few))
  sum_total f first (suc n) (x ∷ xs) few each past =
      let here : first + 0 ≡ first = omega arith in
      let one : f first ≡ count first x = subst (λ (j : ℕ). f j ≡ count j x) here (each 0 x (omega arith)) in
      let rest = sum_total f (first + 1) n xs (omega (arith, few))
      (λ k d low. let there : first + suc k ≡ first + 1 + k = omega arith in subst (λ (j : ℕ). f j ≡ count j (get_or xs k d)) there (each (suc k) d (omega (arith, low))))
      (λ k low less. let there : first + 1 + k ≡ first + suc k = omega arith in ap f there ∙ past (suc k) (omega (arith, low)) (omega (arith, less))) in
      omega (arith, one, rest)

-- How much room in the register a readout needs yet, and what its next telegram leaves of that (for the theorem of
-- specs/Every).

-- ---- what is left of a readout

-- the room of these parts and of the reading that they make; none where all are accepted
abbrev pub left_room : List ℕ → List (List ℕ) → ℕ
left_room flat [] = 0
left_room flat (body ∷ more) = room_for flat (body ∷ more)

-- the serials that it needs yet
abbrev pub left_count : List (List ℕ) → ℕ
left_count [] = 0
left_count (body ∷ more) = 1

pub left_most : (flat : List ℕ) (parts : List (List ℕ)) → (left_room flat parts ≤ room_for flat parts) × (left_count parts ≤ 1)
left_most flat [] = (omega arith, omega arith)
left_most flat (body ∷ more) = (omega arith, omega arith)

-- the parts that aren't accepted yet
abbrev pub parts_left : Stage → ℕ → List (List ℕ) → List (List ℕ)
parts_left Resets n parts = drop n parts
parts_left Selects n parts = drop n parts
parts_left Requests n parts = drop n parts
parts_left (Pending true) n parts = drop (n + 1) parts
parts_left (Pending false) n parts = []
parts_left Ended n parts = []

module _ (state : State) (wire : Wire) where
  abbrev pub unread : Summary → List (List ℕ)
  unread s = parts_left s.stage s.settled (wire.parts s.meter)

  abbrev pub flat_of : Summary → List ℕ
  flat_of s = flat_in (row_of s.meter state)

  abbrev pub session_room : Option Summary → ℕ
  session_room None = 0
  session_room (Some s) = left_room (flat_of s) (unread s)

  abbrev pub session_count : Option Summary → ℕ
  session_count None = 0
  session_count (Some s) = left_count (unread s)

  -- ---- what a commit leaves

  settled_by_stage : (stage : Stage) (s : Summary) → s.stage ≡ stage → (session_room (settled_at stage s) ≡ left_room (flat_of s) (parts_left stage s.settled (wire.parts s.meter))) × (session_count (settled_at stage s) ≡ left_count (parts_left stage s.settled (wire.parts s.meter)))
  settled_by_stage Resets s is = (ap (λ (x : Stage). left_room (flat_of s) (parts_left x s.settled (wire.parts s.meter))) is, ap (λ (x : Stage). left_count (parts_left x s.settled (wire.parts s.meter))) is)
  settled_by_stage Selects s is = (ap (λ (x : Stage). left_room (flat_of s) (parts_left x s.settled (wire.parts s.meter))) is, ap (λ (x : Stage). left_count (parts_left x s.settled (wire.parts s.meter))) is)
  settled_by_stage Requests s is = (ap (λ (x : Stage). left_room (flat_of s) (parts_left x s.settled (wire.parts s.meter))) is, ap (λ (x : Stage). left_count (parts_left x s.settled (wire.parts s.meter))) is)
  settled_by_stage Ended s is = (ap (λ (x : Stage). left_room (flat_of s) (parts_left x s.settled (wire.parts s.meter))) is, ap (λ (x : Stage). left_count (parts_left x s.settled (wire.parts s.meter))) is)
  settled_by_stage (Pending true) s is =
      (ap (λ (x : Stage). left_room (flat_of s) (parts_left (stage_settled x) (s.settled + 1) (wire.parts s.meter))) is, ap (λ (x : Stage). left_count (parts_left (stage_settled x) (s.settled + 1) (wire.parts s.meter))) is)
  settled_by_stage (Pending false) s is = (refl, refl)

  pub settled_room : (session : Option Summary) → (session_room (settled_on session) ≡ session_room session) × (session_count (settled_on session) ≡ session_count session)
  settled_room None = (refl, refl)
  settled_room (Some s) = settled_by_stage s.stage s refl

  -- ---- what an answer leaves that is no telegram

  ready_by_stage : (stage : Stage) (address : Option ℕ) (n : ℕ) (meter : Identity) (parts : List (List ℕ)) → (asked_at stage meter address n ≡ None → ⊥) → parts_left (after_command stage address) n parts ≡ parts_left stage n parts
  ready_by_stage Resets None n meter parts due = refl
  ready_by_stage Resets (Some a) n meter parts due = refl
  ready_by_stage Selects None n meter parts due = refl
  ready_by_stage Selects (Some a) n meter parts due = refl
  ready_by_stage Requests None n meter parts due = refl
  ready_by_stage Requests (Some a) n meter parts due = refl
  ready_by_stage (Pending more) address n meter parts due = absurd (due refl)
  ready_by_stage Ended address n meter parts due = absurd (due refl)

  pub ready_left : (s : Summary) → (asked_at s.stage s.meter s.address s.settled ≡ None → ⊥) → unread (heard_by s ready) ≡ unread s
  ready_left s due = ready_by_stage s.stage s.address s.settled s.meter (wire.parts s.meter) due

  -- ---- and a telegram

  told_grows : (more : Bool) (number : ℕ) (piece : PartRow) (m : Identity) (row : Option MeterRow) (s : State) → row_of m s ≡ row
      → (size_of (told_at m more number piece row s) ≤ size_of s + ((if more then 0 else 18 + length (flat_in row)) + part_size piece)) × ((told_at m more number piece row s).next_serial ≤ s.next_serial + (if more then 0 else 1))
  told_grows more number piece m None s found = (omega arith, omega arith)
  told_grows true number piece m (Some r) s found = (let most = size_open m number piece r s found in omega (arith, most), omega arith)
  told_grows false number piece m (Some r) s found = (let most = size_last m number piece r s found in omega (arith, most), omega arith)

  -- what the register has, and what the session needs yet, don't grow together
  pub record Spends (s : Summary) (part : ℕ) (t : Parsed) (moment : ℕ) (now : State) : Type 0 where
    pub some : size_of (applied (change_of moment part t) now) + session_room (Some (heard_by s (new part t))) ≤ size_of now + session_room (Some s)
    pub serials : (applied (change_of moment part t) now).next_serial + session_count (Some (heard_by s (new part t))) ≤ now.next_serial + session_count (Some s)
    pub last : continues t.ending ≡ false → session_count (Some s) ≡ 1

  module _ (s : Summary) (part moment : ℕ) (t : Parsed) (now : State) (stage : s.stage ≡ Requests) (own : t.header.identity ≡ s.meter) (flats : flat_in (row_of s.meter now) ≡ flat_of s) where
    abbrev parts : List (List ℕ)
    parts = wire.parts s.meter

    left_is : unread s ≡ drop s.settled parts
    left_is = ap (λ (x : Stage). parts_left x s.settled parts) stage

    flat_is : flat_in (row_of t.header.identity now) ≡ flat_of s
    flat_is = ap (λ (m : Identity). flat_in (row_of m now)) own ∙ flats

    abbrev then_state : State
    then_state = applied (change_of moment part t) now

    abbrev Grown : Bool → List ℕ → Type 0
    Grown more flat = (size_of then_state ≤ size_of now + ((if more then 0 else 18 + length flat) + (9 + length t.body))) × (then_state.next_serial ≤ now.next_serial + (if more then 0 else 1))

    grows : Grown (continues t.ending) (flat_of s)
    grows = subst (Grown (continues t.ending)) flat_is (told_grows (continues t.ending) part (record { moment = moment; body = t.body }) t.header.identity (row_of t.header.identity now) now refl)

    module _ (rest : List (List ℕ)) (here : drop s.settled parts ≡ t.body ∷ rest) where
      room_before : session_room (Some s) ≡ 18 + length (flat_of s) + ((9 + length t.body) + sum_by body_size rest)
      room_before = ap (left_room (flat_of s)) (left_is ∙ here) ∙ ap (λ (n : ℕ). 18 + length (flat_of s) + n) (sum_by-cons body_size t.body rest)

      count_before : session_count (Some s) ≡ 1
      count_before = ap left_count (left_is ∙ here)

      room_then : (more : Bool) → continues t.ending ≡ more → session_room (Some (heard_by s (new part t))) ≡ left_room (flat_of s) (parts_left (Pending more) s.settled parts)
      room_then more is = ap (λ (x : Bool). left_room (flat_of s) (parts_left (Pending x) s.settled parts)) is

      count_then : (more : Bool) → continues t.ending ≡ more → session_count (Some (heard_by s (new part t))) ≡ left_count (parts_left (Pending more) s.settled parts)
      count_then more is = ap (λ (x : Bool). left_count (parts_left (Pending x) s.settled parts)) is

      by_more : (more : Bool) → continues t.ending ≡ more → (more ≡ false → rest ≡ []) → Spends s part t moment now
      by_more true is ends =
          let grown : Grown true (flat_of s) = subst (λ (b : Bool). Grown b (flat_of s)) is grows in
          let size = grown.0 in
          let serial = grown.1 in
          let next : drop (s.settled + 1) parts ≡ rest = drop_next s.settled parts t.body rest here in
          let room : session_room (Some (heard_by s (new part t))) ≡ left_room (flat_of s) rest = room_then true is ∙ ap (left_room (flat_of s)) next in
          let count : session_count (Some (heard_by s (new part t))) ≡ left_count rest = count_then true is ∙ ap left_count next in
          let most = left_most (flat_of s) rest in
          let most_room = most.0 in
          let most_count = most.1 in
          record {
            some = omega (arith, room_before, room, most_room, size);
            serials = omega (arith, count_before, count, most_count, serial);
            last = λ none. count_before;
          }
      by_more false is ends =
          let grown : Grown false (flat_of s) = subst (λ (b : Bool). Grown b (flat_of s)) is grows in
          let size = grown.0 in
          let serial = grown.1 in
          let room : session_room (Some (heard_by s (new part t))) ≡ 0 = room_then false is in
          let count : session_count (Some (heard_by s (new part t))) ≡ 0 = count_then false is in
          record {
            some = omega (arith, room_before, room, size);
            serials = omega (arith, count_before, count, serial);
            last = λ none. count_before;
          }

    pub spends : IsNextPart (drop s.settled parts) (new part t) → Spends s part t moment now
    spends next = by_more next.0 next.1 (continues t.ending) refl next.2

-- Where the register has room for one reading of each meter of the queues, no telegram is refused for want of room (for
-- the theorem of specs/Every).

-- an answer that was given, of a line that exists, where nothing has stopped
asked_one : (on stopped : Bool) (s : Summary) (budget : ℕ) (core : Core) (moment : ℕ) (bytes : List ℕ) (good : LineHeard) → MayHear (if not on then Err NoLine else if stopped then Err Stopped else answer_on budget core moment bytes (Some s)) (Ok good) → (asked_by s ≡ None → ⊥)
asked_one false stopped s budget core moment bytes good (inl e) none = cc
asked_one true true s budget core moment bytes good (inl e) none = cc
asked_one true false s budget core moment bytes good (inl e) none =
    let idle : answer_on budget core moment bytes (Some s) ≡ Err Idle = (let no : is_some (asked_by s) ≡ false = ap is_some none in rw no refl) in
    let bad : Ok good ≡ Err Idle = e ∙ idle in
    cc
asked_one on stopped s budget core moment bytes good (inr none_left) none = let bad = none_left.0 in cc

right_full : (right : Result LineHeard HearFault) → MayHear right (Err Full) → right ≡ Err Full
right_full right (inl e) = sym e
right_full right (inr none) = absurd (let bad = none.0 in cc)

-- ---- flats stay

told_flat : (m meter : Identity) (more : Bool) (number : ℕ) (part : PartRow) (row : Option MeterRow) (s : State) → row_of meter s ≡ row → flat_in (row_of m (told_at meter more number part row s)) ≡ flat_in (row_of m s)
told_flat m meter more number part None s found = refl
told_flat m meter more number part (Some row) s found = by (is_eq (identity_cmp m meter)) refl more
  where
    own : (b : Bool) → flat_in (row_of meter (told_at meter b number part (Some row) s)) ≡ flat_in (row_of meter s)
    own true = ap flat_in (row_of_same meter row (record row { parts = joined number part row.parts }) s found) ∙ sym (ap flat_in found)
    own false = ap flat_in (row_of_same meter row (record row { parts = [] }) s found) ∙ sym (ap flat_in found)

    by : (b : Bool) → is_eq (identity_cmp m meter) ≡ b → (c : Bool) → flat_in (row_of m (told_at meter c number part (Some row) s)) ≡ flat_in (row_of m s)
    by true at c = subst (λ (x : Identity). flat_in (row_of x (told_at meter c number part (Some row) s)) ≡ flat_in (row_of x s)) (sym (same_from_tie m meter at)) (own c)
    by false at true = ap flat_in (row_of_other m meter (record row { parts = joined number part row.parts }) s at)
    by false at false = ap flat_in (row_of_other m meter (record row { parts = [] }) s at)

flats_stay : (moment part : ℕ) (t : Parsed) (m : Identity) (s : State) → flat_in (row_of m (applied (change_of moment part t) s)) ≡ flat_in (row_of m s)
flats_stay moment part t m s = told_flat m t.header.identity (continues t.ending) part (record { moment = moment; body = t.body }) (row_of t.header.identity s) s refl

-- ---- lines

line_low : (line : ℕ) → is_line line ≡ true → (1 ≤ line) × (line < 1 + 8)
line_low line is =
    let low : 1 ≤ line = grind (arith, nat_tests) in
    let high : line < 1 + 8 = grind (arith, nat_tests) in
    (low, high)

line_of_full : (on : Bool) (right : Result LineHeard HearFault) → (if not on then Err NoLine else right) ≡ Err Full → on ≡ true
line_of_full true right e = refl
line_of_full false right e = absurd cc

module _ (budget : ℕ) (state : State) (wires : ℕ → Wire) where
  abbrev core_at : List Turn → Core
  core_at turns = leads (opened state) turns

  abbrev room_in : ℕ → Option Summary → ℕ
  room_in line session = session_room state (wires line) session

  abbrev count_in : ℕ → Option Summary → ℕ
  count_in line session = session_count state (wires line) session

  -- what a line needs yet is no more than this
  pub record LineHas (line room count : ℕ) (core : Core) (turns : List Turn) : Type 0 where
    pub todo : List Identity
    pub order : OrderOn line todo turns
    pub parts : PartsIn line (wires line) core turns
    pub fits : room_in line (session_of core line) + sum_by (room_of state (wires line)) todo ≤ room
    pub counts : count_in line (session_of core line) + length todo ≤ count

  -- and there is as much
  pub record AllHave (core : Core) (turns : List Turn) : Type 0 where
    pub rooms : ℕ → ℕ
    pub counts : ℕ → ℕ
    pub room : size_of (present core) + sum_from rooms 1 8 ≤ budget
    pub serials : (present core).next_serial + sum_from counts 1 8 ≤ end_of_numbers
    pub flats : (m : Identity) → flat_in (row_of m (present core)) ≡ flat_in (row_of m state)
    pub each : (line : ℕ) → is_line line ≡ true → LineHas line (rooms line) (counts line) core turns

  -- ---- a line on which the turn takes nothing

  abbrev Passes : ℕ → Core → Core → Type 0
  Passes line old fresh = (room_in line (session_of fresh line) ≤ room_in line (session_of old line)) × (count_in line (session_of fresh line) ≤ count_in line (session_of old line))

  same_passes : (line : ℕ) (old fresh : Core) → session_of fresh line ≡ session_of old line → Passes line old fresh
  same_passes line old fresh same = (
    subst (λ (session : Option Summary). room_in line session ≤ room_in line (session_of old line)) (sym same) (omega arith),
    subst (λ (session : Option Summary). count_in line session ≤ count_in line (session_of old line)) (sym same) (omega arith),
  )

  line_passes : (line room count : ℕ) (core : Core) (event : Event) (answer : Answer) (turns : List Turn) → ((P : Type 0) → CutBy line event answer P → P) → ((todo : List Identity) → todo_on line event todo ≡ todo) → Passes line core (next core event answer)
      → LineHas line room count core ((event, answer) ∷ turns) → LineHas line room count (next core event answer) turns
  line_passes line room count core event answer turns lift same less has =
      let less_room = less.0 in
      let less_count = less.1 in
      let fits = has.fits in
      let counts = has.counts in
      record {
        todo = has.todo;
        order = subst (λ (xs : List Identity). OrderOn line xs turns) (same has.todo) (lift (OrderOn line (todo_on line event has.todo) turns) has.order.1);
        parts = lift (PartsIn line (wires line) (next core event answer) turns) has.parts.1;
        fits = omega (arith, fits, less_room);
        counts = omega (arith, counts, less_count);
      }

  -- ---- one turn

  module _ (front : List Turn) (turns : List Turn) (chain_front : IsChain budget (opened state) front) where
    abbrev core : Core
    core = core_at front

    eight : length core.lines ≡ line_count
    eight = lines_are_kept budget state front chain_front

    -- another session is on a line
    other_session : (line other : ℕ) (session : Option Summary) → is_line line ≡ true → is_line other ≡ true → other ≢ line → get_or (set core.lines (other - 1) session) (line - 1) None ≡ session_of core line
    other_session line other session is are ne = get_or-set_other core.lines (other - 1) (line - 1) session None (places_differ line other is are ne)

    own_session : (line : ℕ) (session : Option Summary) → is_line line ≡ true → get_or (set core.lines (line - 1) session) (line - 1) None ≡ session
    own_session line session is = get_or-set_same core.lines (line - 1) session None (low_place line core.lines is eight)

    -- the register stays, and no line needs more
    same_register : (event : Event) (answer : Answer) → present (next core event answer) ≡ present core → (has : AllHave core ((event, answer) ∷ turns))
        → ((line : ℕ) → is_line line ≡ true → LineHas line (has.rooms line) (has.counts line) (next core event answer) turns) → AllHave (next core event answer) turns
    same_register event answer same has each = record {
      rooms = has.rooms;
      counts = has.counts;
      room = subst (λ (s : State). size_of s + sum_from has.rooms 1 8 ≤ budget) (sym same) has.room;
      serials = subst (λ (s : State). s.next_serial + sum_from has.counts 1 8 ≤ end_of_numbers) (sym same) has.serials;
      flats = λ m. ap (λ (s : State). flat_in (row_of m s)) same ∙ has.flats m;
      each = each;
    }

    -- ---- a readout begins

    todo_here : (line : ℕ) (x : Identity) (todo : List Identity) → todo_on line (starts line x) todo ≡ drop 1 todo
    todo_here line x todo = ap (λ (b : Bool). if b then drop 1 todo else todo) (eq-eqb line line refl)

    todo_there : (line other : ℕ) (x : Identity) (todo : List Identity) → other ≢ line → todo_on line (starts other x) todo ≡ todo
    todo_there line other x todo ne = ap (λ (b : Bool). if b then drop 1 todo else todo) (ne_eqb other line ne)

    begun_here : (line room count : ℕ) (x : Identity) (done : Unit {0}) → is_line line ≡ true → LineHas line room count core ((starts line x, started (Ok done)) ∷ turns) → LineHas line room count (next core (starts line x) (started (Ok done))) turns
    begun_here line room count x done is has = by has.todo (has.order.0 refl) has.order.1 has.fits has.counts
      where
        session : Summary
        session = begun x (address_in (row_of x (present core)))

        now : Core
        now = next core (starts line x) (started (Ok done))

        by : (todo : List Identity) → StartsIt (starts line x) (started (Ok done)) todo → OrderOn line (todo_on line (starts line x) todo) turns
            → room_in line (session_of core line) + sum_by (room_of state (wires line)) todo ≤ room → count_in line (session_of core line) + length todo ≤ count → LineHas line room count now turns
        by [] starts_it order fits counts = absurd starts_it
        by (y ∷ todo) starts_it order fits counts =
            let on : session_of now line ≡ Some session = own_session line (Some session) is in
            let most = left_most (flat_of state (wires line) session) ((wires line).parts x) in
            let most_room = most.0 in
            let most_count = most.1 in
            let room_then : room_in line (session_of now line) ≡ room_in line (Some session) = ap (room_in line) on in
            let count_then : count_in line (session_of now line) ≡ count_in line (Some session) = ap (count_in line) on in
            let sums = sum_by-cons (room_of state (wires line)) y todo in
            let who : room_of state (wires line) x ≡ room_of state (wires line) y = ap (room_of state (wires line)) starts_it in
            record {
              todo = todo;
              order = subst (λ (xs : List Identity). OrderOn line xs turns) (todo_here line x (y ∷ todo)) order;
              parts = has.parts.1;
              fits = omega (arith, fits, room_then, most_room, sums, who);
              counts = omega (arith, counts, count_then, most_count);
            }

    begins : (line : ℕ) (x : Identity) (done : Unit {0}) → is_line line ≡ true → AllHave core ((starts line x, started (Ok done)) ∷ turns) → AllHave (next core (starts line x) (started (Ok done))) turns
    begins line x done is has = same_register (starts line x) (started (Ok done)) refl has (λ other are. ⊎_elim
        (λ (same : line ≡ other). subst (λ (k : ℕ). LineHas k (has.rooms k) (has.counts k) (next core (starts line x) (started (Ok done))) turns) same (begun_here line (has.rooms line) (has.counts line) x done is (has.each line is)))
        (λ (ne : line ≢ other). line_passes other (has.rooms other) (has.counts other) core (starts line x) (started (Ok done)) turns (λ P c. uncut other (starts line x) (started (Ok done)) P ne c) (λ todo. todo_there other line x todo ne)
        (same_passes other core (next core (starts line x) (started (Ok done))) (other_session other line (Some (begun x (address_in (row_of x (present core))))) are is ne)) (has.each other are))
        (cases_eq line other))

    -- ---- an answer

    module _ (line moment : ℕ) (bytes : List ℕ) (good : LineHeard) (is : is_line line ≡ true) (has : AllHave core ((hears line moment bytes, heard (Ok good)) ∷ turns)) (s : Summary) (there : session_of core line ≡ Some s) (asking : asked_by s ≡ None → ⊥) where
      abbrev now_is : Core
      now_is = next core (hears line moment bytes) (heard (Ok good))

      abbrev by_verdict : Verdict → Core
      by_verdict v = judged core line moment s v

      now_by : (v : Verdict) → verdict_by s bytes ≡ v → now_is ≡ by_verdict v
      now_by v e = ap (heard_on core line moment bytes) there ∙ ap by_verdict e

      on_now : (v : Verdict) → verdict_by s bytes ≡ v → session_of now_is line ≡ session_after s v
      on_now v e = ap (λ (c : Core). session_of c line) (now_by v e) ∙ own_session line (session_after s v) is

      others_stay : (v : Verdict) → verdict_by s bytes ≡ v → (other : ℕ) → is_line other ≡ true → line ≢ other → LineHas other (has.rooms other) (has.counts other) now_is turns
      others_stay v e other are ne = line_passes other (has.rooms other) (has.counts other) core (hears line moment bytes) (heard (Ok good)) turns (λ P c. c) (λ todo. refl)
          (same_passes other core now_is (ap (λ (c : Core). session_of c other) (now_by v e) ∙ other_session other line (session_after s v) are is ne)) (has.each other are)

      -- no telegram came
      no_more : (v : Verdict) → verdict_by s bytes ≡ v → present (by_verdict v) ≡ present core → (room_in line (session_after s v) ≤ room_in line (Some s)) × (count_in line (session_after s v) ≤ count_in line (Some s)) → AllHave now_is turns
      no_more v e same less = same_register (hears line moment bytes) (heard (Ok good)) (ap present (now_by v e) ∙ same) has (λ other are. ⊎_elim
          (λ (at : line ≡ other). subst (λ (k : ℕ). LineHas k (has.rooms k) (has.counts k) now_is turns) at
          (line_passes line (has.rooms line) (has.counts line) core (hears line moment bytes) (heard (Ok good)) turns (λ P c. c) (λ todo. refl) passes (has.each line is)))
          (λ (ne : line ≢ other). others_stay v e other are ne)
          (cases_eq line other))
        where
          passes : Passes line core now_is
          passes =
              let on = on_now v e in (
                subst (λ (o : Option Summary). room_in line o ≤ room_in line (session_of core line)) (sym on) (subst (λ (o : Option Summary). room_in line (session_after s v) ≤ room_in line o) (sym there) less.0),
                subst (λ (o : Option Summary). count_in line o ≤ count_in line (session_of core line)) (sym on) (subst (λ (o : Option Summary). count_in line (session_after s v) ≤ count_in line o) (sym there) less.1),
              )

      flats_told : (part : ℕ) (t : Parsed) (m : Identity) → flat_in (row_of m (applied (change_of moment part t) (present core))) ≡ flat_in (row_of m (present core))
      flats_told part t m = flats_stay moment part t m (present core)

      -- a telegram came
      one_more : (part : ℕ) (t : Parsed) → verdict_by s bytes ≡ new part t → AllHave now_is turns
      one_more part t e =
          let here = has.each line is in
          let took = taken s bytes part t e in
          let next_one : IsNextPart (drop s.settled ((wires line).parts s.meter)) (new part t) = subst (IsNextPart (drop s.settled ((wires line).parts s.meter))) e (here.parts.0 refl s there) in
          let spent = spends state (wires line) s part moment t (present core) took.was_asked took.own (has.flats s.meter) next_one in
          let room_now : ℕ = room_in line (session_of now_is line) + sum_by (room_of state (wires line)) here.todo in
          let count_now : ℕ = count_in line (session_of now_is line) + length here.todo in
          let told_now : present now_is ≡ applied (change_of moment part t) (present core) = ap present (now_by (new part t) e) ∙ after_of_push core.committed core.pending (change_of moment part t) in
          let size : size_of (present now_is) ≡ size_of (applied (change_of moment part t) (present core)) = ap size_of told_now in
          let serial : (present now_is).next_serial ≡ (applied (change_of moment part t) (present core)).next_serial = ap (λ (x : State). x.next_serial) told_now in
          let on = on_now (new part t) e in
          let room_then : room_in line (session_of now_is line) ≡ room_in line (Some (heard_by s (new part t))) = ap (room_in line) on in
          let count_then : count_in line (session_of now_is line) ≡ count_in line (Some (heard_by s (new part t))) = ap (count_in line) on in
          let room_was : room_in line (session_of core line) ≡ room_in line (Some s) = ap (room_in line) there in
          let count_was : count_in line (session_of core line) ≡ count_in line (Some s) = ap (count_in line) there in
          let low = line_low line is in
          let low_first : 1 ≤ line = low.0 in
          let low_last : line < 1 + 8 = low.1 in
          let sum_room = sum_set line room_now has.rooms 1 8 low_first low_last in
          let sum_count = sum_set line count_now has.counts 1 8 low_first low_last in
          let room = has.room in
          let serials = has.serials in
          let fits = here.fits in
          let counts = here.counts in
          let some = spent.some in
          let some_serials = spent.serials in
          record {
            rooms = set_at line room_now has.rooms;
            counts = set_at line count_now has.counts;
            room = omega (arith, sum_room, room, fits, some, size, room_then, room_was);
            serials = omega (arith, sum_count, serials, counts, some_serials, serial, count_then, count_was);
            flats = λ m. ap (λ (x : State). flat_in (row_of m x)) told_now ∙ flats_told part t m ∙ has.flats m;
            each = λ other are. ⊎_elim
                (λ (at : line ≡ other). subst (λ (k : ℕ). LineHas k (set_at line room_now has.rooms k) (set_at line count_now has.counts k) now_is turns) at
                (record {
                  todo = here.todo;
                  order = here.order.1;
                  parts = here.parts.1;
                  fits = subst (λ (n : ℕ). room_now ≤ n) (sym (set_here line room_now has.rooms)) (omega arith);
                  counts = subst (λ (n : ℕ). count_now ≤ n) (sym (set_here line count_now has.counts)) (omega arith);
                }))
                (λ (ne : line ≢ other). subst (λ (n : ℕ). LineHas other n (set_at line count_now has.counts other) now_is turns) (sym (set_other line other room_now has.rooms ne))
                (subst (λ (n : ℕ). LineHas other (has.rooms other) n now_is turns) (sym (set_other line other count_now has.counts ne)) (others_stay (new part t) e other are ne)))
                (cases_eq line other);
          }

      by_each : (v : Verdict) → verdict_by s bytes ≡ v → AllHave now_is turns
      by_each again e = no_more again e refl (omega arith, omega arith)
      by_each ready e =
          let same = ready_left state (wires line) s asking in
          no_more ready e refl (
            subst (λ (n : ℕ). n ≤ room_in line (Some s)) (sym (ap (left_room (flat_of state (wires line) s)) same)) (omega arith),
            subst (λ (n : ℕ). n ≤ count_in line (Some s)) (sym (ap left_count same)) (omega arith),
          )
      by_each (failed why) e = no_more (failed why) e refl (omega arith, omega arith)
      by_each (new part t) e = one_more part t e

    hears_ok : (line moment : ℕ) (bytes : List ℕ) (good : LineHeard) → May budget core (hears line moment bytes) (heard (Ok good)) → AllHave core ((hears line moment bytes, heard (Ok good)) ∷ turns) → AllHave (next core (hears line moment bytes) (heard (Ok good))) turns
    hears_ok line moment bytes good may has = by (session_of core line) refl
      where
        is : is_line line ≡ true
        is = heard_line (is_line line) (if core.stopped then Err Stopped else answer_on budget core moment bytes (session_of core line)) good may

        stays : session_of core line ≡ None → next core (hears line moment bytes) (heard (Ok good)) ≡ core
        stays none = ap (heard_on core line moment bytes) none

        by : (session : Option Summary) → session_of core line ≡ session → AllHave (next core (hears line moment bytes) (heard (Ok good))) turns
        by None none = same_register (hears line moment bytes) (heard (Ok good)) (ap present (stays none)) has
            (λ other are. line_passes other (has.rooms other) (has.counts other) core (hears line moment bytes) (heard (Ok good)) turns (λ P c. c) (λ todo. refl)
            (same_passes other core (next core (hears line moment bytes) (heard (Ok good))) (ap (λ (c : Core). session_of c other) (stays none))) (has.each other are))
        by (Some s) there =
            by_each line moment bytes good is has s there
            (asked_one (is_line line) core.stopped s budget core moment bytes good (subst (λ (o : Option Summary). MayHear (if not (is_line line) then Err NoLine else if core.stopped then Err Stopped else answer_on budget core moment bytes o) (Ok good)) there may))
            (verdict_by s bytes) refl

    -- ---- a telegram is refused for want of room: it isn't

    module _ (line moment : ℕ) (bytes : List ℕ) (answer : Answer) (is : is_line line ≡ true) (has : AllHave core ((hears line moment bytes, answer) ∷ turns)) (want : IsForWantOfRoom budget core line moment bytes) where
      abbrev s : Summary
      s = want.is_telegram.session

      abbrev part : ℕ
      part = want.part

      abbrev t : Parsed
      t = want.telegram

      here : LineHas line (has.rooms line) (has.counts line) core ((hears line moment bytes, answer) ∷ turns)
      here = has.each line is

      spent : Spends state (wires line) s part t moment (present core)
      spent =
          let took = taken s bytes part t want.is_telegram.is_new in
          spends state (wires line) s part moment t (present core) took.was_asked took.own (has.flats s.meter)
          (subst (IsNextPart (drop s.settled ((wires line).parts s.meter))) want.is_telegram.is_new (here.parts.0 refl s want.is_telegram.on_line))

      fits : size_of (applied (change_of moment part t) (present core)) ≤ budget
      fits =
          let low = line_low line is in
          let most = sum_most line has.rooms 1 8 low.0 low.1 in
          let was : room_in line (session_of core line) ≡ room_in line (Some s) = ap (room_in line) want.is_telegram.on_line in
          let some = spent.some in
          let room = has.room in
          let own = here.fits in
          omega (arith, most, was, some, room, own)

      serial : continues t.ending ≡ false → (present core).next_serial < end_of_numbers
      serial last =
          let low = line_low line is in
          let most = sum_most line has.counts 1 8 low.0 low.1 in
          let was : count_in line (session_of core line) ≡ count_in line (Some s) = ap (count_in line) want.is_telegram.on_line in
          let one = spent.last last in
          let room = has.serials in
          let own = here.counts in
          omega (arith, most, was, one, room, own)

      serial_fits : (more : Bool) → continues t.ending ≡ more → (not (continues t.ending) && nat_le end_of_numbers (present core).next_serial) ≡ false
      serial_fits true more = ap (λ (b : Bool). not b && nat_le end_of_numbers (present core).next_serial) more
      serial_fits false last = and_right (not (continues t.ending)) (nat_le end_of_numbers (present core).next_serial) (lt-leb end_of_numbers (present core).next_serial (serial last))

      not_full : telegram_stands budget part moment (body_of t) (present core) RegisterFull ≡ false
      not_full =
          or_from (nat_lt budget (size_of (told part moment (body_of t) (present core)))) (not (continues t.ending) && nat_le end_of_numbers (present core).next_serial)
          (le-ltb budget (size_of (told part moment (body_of t) (present core))) fits) (serial_fits (continues t.ending) refl)

      pub never_wanting : ⊥
      never_wanting = by (is_continued part (row_of t.header.identity (present core))) refl
        where
          by : (known : Bool) → is_continued part (row_of t.header.identity (present core)) ≡ known → ⊥
          by true known =
              let none : refusal budget (change_of moment part t) (present core) ≡ None = rw (known, not_full) refl in
              let bad : Some RegisterFull ≡ None = sym want.full ∙ none in
              cc
          by false known =
              let other : refusal budget (change_of moment part t) (present core) ≡ Some RegisterUnknown = rw known refl in
              let bad : Some RegisterFull ≡ Some RegisterUnknown = sym want.full ∙ other in
              cc

    never_full : (line moment : ℕ) (bytes : List ℕ) → May budget core (hears line moment bytes) (heard (Err Full)) → AllHave core ((hears line moment bytes, heard (Err Full)) ∷ turns) → ⊥
    never_full line moment bytes may has =
        let right = right_full (hear_answer budget core line moment bytes) may in
        let is = line_of_full (is_line line) (if core.stopped then Err Stopped else answer_on budget core moment bytes (session_of core line)) right in
        never_wanting line moment bytes (heard (Err Full)) is has ((none_is_unknown budget state front chain_front).full line moment bytes right)

    -- ---- the other turns

    still : (event : Event) (answer : Answer) → next core event answer ≡ core → ((line : ℕ) (P : Type 0) → CutBy line event answer P → P) → ((line : ℕ) (todo : List Identity) → todo_on line event todo ≡ todo) → AllHave core ((event, answer) ∷ turns) → AllHave (next core event answer) turns
    still event answer same lift todo has = same_register event answer (ap present same) has (λ line is.
        line_passes line (has.rooms line) (has.counts line) core event answer turns (lift line) (todo line) (same_passes line core (next core event answer) (ap (λ (c : Core). session_of c line) same)) (has.each line is))

    settled_present : (pending : List Change) → core.pending ≡ pending → present (settled_core core pending) ≡ present core
    settled_present [] is = refl
    settled_present (change ∷ changes) is = refl

    settled_passes : (line : ℕ) (pending : List Change) → Passes line core (settled_core core pending)
    settled_passes line [] = same_passes line core core refl
    settled_passes line (change ∷ changes) =
        let on : session_of (settled_core core (change ∷ changes)) line ≡ settled_on (session_of core line) = get_settled core.lines (line - 1) in
        let same = settled_room state (wires line) (session_of core line) in (
          subst (λ (n : ℕ). n ≤ room_in line (session_of core line)) (sym (ap (room_in line) on ∙ same.0)) (omega arith),
          subst (λ (n : ℕ). n ≤ count_in line (session_of core line)) (sym (ap (count_in line) on ∙ same.1)) (omega arith),
        )

    commits_ok : (count : ℕ) → AllHave core ((commits, committed (Ok count)) ∷ turns) → AllHave (next core commits (committed (Ok count))) turns
    commits_ok count has = same_register commits (committed (Ok count)) (settled_present core.pending refl) has (λ line is.
        line_passes line (has.rooms line) (has.counts line) core commits (committed (Ok count)) turns (λ P c. c) (λ todo. refl) (settled_passes line core.pending) (has.each line is))

    -- a start is refused on no line that has a queue
    refused : (line : ℕ) (x : Identity) (fault : StartFault) → AllHave core ((starts line x, started (Err fault)) ∷ turns) → AllHave (next core (starts line x) (started (Err fault))) turns
    refused line x fault has = by (is_line line) refl
      where
        by : (b : Bool) → is_line line ≡ b → AllHave (next core (starts line x) (started (Err fault))) turns
        by true is = absurd ((has.each line is).order.0 refl)
        by false off = same_register (starts line x) (started (Err fault)) refl has (λ other are.
            let ne : line ≢ other = λ e. (let bad : false ≡ true = sym off ∙ ap is_line e ∙ are in cc) in
            line_passes other (has.rooms other) (has.counts other) core (starts line x) (started (Err fault)) turns (λ P c. uncut other (starts line x) (started (Err fault)) P ne c) (λ todo. todo_there other line x todo ne)
            (same_passes other core core refl) (has.each other are))

    step : (event : Event) (answer : Answer) → IsOfLines (event, answer) → May budget core event answer → IsSupplied answer → AllHave core ((event, answer) ∷ turns) → IsRoomy answer × AllHave (next core event answer) turns
    step (starts line x) (started (Ok done)) of may well has =
        (tt, begins line x done (start_parts (is_line line) core.stopped (is_on line (row_of x (present core))) (is_some (session_of core line)) done may).0 has)
    step (starts line x) (started (Err fault)) of may well has = (tt, refused line x fault has)
    step (starts line x) answer of may well has = absurd may
    step (asks line) (asked request) of may well has = (tt, still (asks line) (asked request) refl (λ other P c. c) (λ other todo. refl) has)
    step (asks line) answer of may well has = absurd may
    step (hears line moment bytes) (heard (Ok good)) of may well has = (tt, hears_ok line moment bytes good may has)
    step (hears line moment bytes) (heard (Err Full)) of may well has = absurd (never_full line moment bytes may has)
    step (hears line moment bytes) (heard (Err PendingFull)) of may well has = absurd well
    step (hears line moment bytes) (heard (Err NoMemory)) of may well has = absurd well
    step (hears line moment bytes) (heard (Err NoLine)) of may well has = (tt, still (hears line moment bytes) (heard (Err NoLine)) refl (λ other P c. c) (λ other todo. refl) has)
    step (hears line moment bytes) (heard (Err Idle)) of may well has = (tt, still (hears line moment bytes) (heard (Err Idle)) refl (λ other P c. c) (λ other todo. refl) has)
    step (hears line moment bytes) (heard (Err Stopped)) of may well has = (tt, still (hears line moment bytes) (heard (Err Stopped)) refl (λ other P c. c) (λ other todo. refl) has)
    step (hears line moment bytes) answer of may well has = absurd may
    step commits (committed (Ok count)) of may well has = (tt, commits_ok count has)
    step commits (committed (Err fault)) of may well has = absurd well
    step commits answer of may well has = absurd may
    step (offices text) answer of may well has = absurd of

  -- ---- all turns

  pub all_roomy : (front turns : List Turn) → IsChain budget (opened state) (front ++ turns) → AllByRecursion IsOfLines turns → AllByRecursion (λ (turn : Turn). IsSupplied turn.1) turns → AllHave (core_at front) turns → AllByRecursion (λ (turn : Turn). IsRoomy turn.1) turns
  all_roomy front [] chain of well has = tt
  all_roomy front (turn ∷ turns) chain of well has =
      let cut = chain_parts budget (opened state) front (turn ∷ turns) chain in
      let one = step front turns cut.0 turn.0 turn.1 of.0 cut.1.0 well.0 has in
      let more : front ++ turn ∷ turns ≡ (front ++ turn ∷ []) ++ turns = sym (append_assoc front (turn ∷ []) turns) in (
        one.0,
        all_roomy (front ++ turn ∷ []) turns (subst (IsChain budget (opened state)) more chain) of.1 well.1
            (subst (λ (c : Core). AllHave c turns) (sym (leads_push (opened state) front turn)) one.1),
      )

  -- ---- at first

  -- a line of which no readout was started
  pub first_has : (line room count : ℕ) (queue : List Identity) (turns : List Turn) → sum_by (room_of state (wires line)) queue ≡ room → length queue ≡ count → OrderOn line queue turns → PartsIn line (wires line) (opened state) turns → LineHas line room count (opened state) turns
  first_has line room count queue turns is are order parts =
      let free : session_of (opened state) line ≡ None = free_at_first line state in
      let none : room_in line (session_of (opened state) line) ≡ 0 = ap (room_in line) free in
      let none_count : count_in line (session_of (opened state) line) ≡ 0 = ap (count_in line) free in
      record { todo = queue; order = order; parts = parts; fits = omega (arith, none, is); counts = omega (arith, none_count, are) }
