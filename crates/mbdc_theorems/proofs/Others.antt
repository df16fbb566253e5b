-- What turns of other lines leave as it is.
use Rattle.std.proofs.Common.{◌≡◌, ◌≢◌, inl, inr, ℕ, ◌-◌, ◌≤◌, ◌<◌, Bool, true, false, not, Option, Some, None, Result, Ok, Err, List, [], ◌∷◌, ◌++◌, length, arith, refl, sym, ◌∙◌, ap, subst}
use Rattle.std.specs.Prelude.{filter, if◌then◌else◌}
use Rattle.std.specs.Ordering.{is_eq}
use Rattle.std.proofs.lemmas.List.{append-nil}
use Rattle.std.proofs.lemmas.List.Elements.{filter-append}
use Rattle.std.proofs.lemmas.Bool.{eqb-true}
use Rattle.std.proofs.lemmas.Bool.Decides.{nat_tests}
use Rattle.dc_address.specs.declared.identity.Identity.{Identity}
use Rattle.dc_address.specs.Identity.{identity_cmp}
use Rattle.dc_address.proofs.Order.{same_from_tie}
use Rattle.dc_readout.specs.declared.stage.Stage.{Stage}
use Rattle.dc_readout.specs.declared.stage.Stage.TheVariants.{Resets, Selects, Requests, Pending, Ended}
use Rattle.dc_records.specs.Body.{continues}
use Rattle.dc_records.specs.Telegram.{Parsed}
use Rattle.dc_readout.specs.Summary.{Summary, Verdict, again, ready, new, failed, heard_by, settled_by, verdict_by}
use Rattle.dc_readout.proofs.Taken.{taken}
use Rattle.mbdc_change.specs.declared.change.Change.{Change}
use Rattle.mbdc_change.proofs.History.{after_of_push}
use Rattle.dc_core.specs.Core.{Core, present}
use Rattle.dc_core.specs.Taking.{change_of}
use Rattle.mbdc_change.specs.Apply.{applied, heard as told_at, joined as joined_rows}
use Rattle.mbdc_change.specs.State.{State, MeterRow, PartRow, ReadingRow, row_of}
use Rattle.dc_meters.specs.Orders.{is_of}
use Rattle.dc_core.specs.Lines.{is_line, line_count, settled_at, settled_on}
use Rattle.dc_core.specs.declared.fault.StartFault.{StartFault}
use Rattle.dc_core.specs.declared.fault.StartFault.TheVariants.{NoLine as StartNoLine, Unknown, Busy, Stopped as StartStopped}
use Rattle.dc_core.specs.declared.fault.HearFault.{HearFault}
use Rattle.dc_core.specs.declared.fault.HearFault.TheVariants.{NoLine}
use Rattle.dc_core.specs.declared.line_heard.LineHeard.{LineHeard}
use Rattle.dc_core.specs.Step.{MayHear, and_pending, is_on, judged, session_after}
use Rattle.dc_core.proofs.Registered.{row_of_other, row_of_same}
use Rattle.dc_core.specs.Event.{Event, starts, asks, hears, commits, offices}
use Rattle.mbdc_theorems.specs.Beside.{IsElsewhere, IsHeardOn}
use Rattle.mbdc_theorems.specs.Beside.{readings_of}

-- ---- the answers of other turns

-- a start is answered `started` where the line exists, nothing has stopped and the meter is registered on it
pub start_parts : (a b c d : Bool) (done : Unit {0}) → ◌≡◌ {A = Result (Unit {0}) StartFault} (Ok done) (if not a then Err StartNoLine else if b then Err StartStopped else if not c then Err Unknown else if d then Err Busy else Ok tt)
    → (a ≡ true) × (b ≡ false) × (c ≡ true)
start_parts false b c d done e = absurd (cc e)
start_parts true true c d done e = absurd (cc e)
start_parts true false false d done e = absurd (cc e)
start_parts true false true true done e = absurd (cc e)
start_parts true false true false done e = (refl, refl, refl)

pub row_line : (line : ℕ) (found : Option MeterRow) (row : MeterRow) → found ≡ Some row → is_on line found ≡ true → row.line ≡ line
row_line line None row found on = absurd cc
row_line line (Some r) row found on =
    let same : r ≡ row = cc in
    ap (λ (x : MeterRow). x.line) (sym same) ∙ eqb-true r.line line on

pub heard_line : (a : Bool) (rest : Result LineHeard HearFault) (good : LineHeard) → MayHear (if not a then Err NoLine else rest) (Ok good) → a ≡ true
heard_line true rest good may = refl
heard_line false rest good (inl e) = absurd cc
heard_line false rest good (inr none) = absurd (let bad = none.0 in cc)

pub places_differ : (line other : ℕ) → is_line line ≡ true → is_line other ≡ true → other ≢ line → line - 1 ≢ other - 1
places_differ line other is are ne e =
    let one : 1 ≤ line = grind (arith, nat_tests) in
    let two : 1 ≤ other = grind (arith, nat_tests) in
    ne (omega (arith, e, one, two))

pub low_place : (line : ℕ) (lines : List (Option Summary)) → is_line line ≡ true → length lines ≡ line_count → line - 1 < length lines
low_place line lines is eight =
    let below : line - 1 < 8 = grind (arith, nat_tests) in
    omega (arith, eight, below)

-- a commit leaves each session its meter
pub settled_meter : (session : Option Summary) (s : Summary) → settled_on session ≡ Some s → (old : Summary) × (session ≡ Some old) × (old.meter ≡ s.meter)
settled_meter None s e = absurd cc
settled_meter (Some x) s e = by x.stage refl
  where
    by : (stage : Stage) → x.stage ≡ stage → (old : Summary) × (Some x ≡ Some old) × (old.meter ≡ s.meter)
    by Resets is = let there : Some x ≡ Some s = sym (ap (λ (y : Stage). settled_at y x) is) ∙ e in let same : x ≡ s = cc in (x, refl, ap (λ (y : Summary). y.meter) same)
    by Selects is = let there : Some x ≡ Some s = sym (ap (λ (y : Stage). settled_at y x) is) ∙ e in let same : x ≡ s = cc in (x, refl, ap (λ (y : Summary). y.meter) same)
    by Requests is = let there : Some x ≡ Some s = sym (ap (λ (y : Stage). settled_at y x) is) ∙ e in let same : x ≡ s = cc in (x, refl, ap (λ (y : Summary). y.meter) same)
    by Ended is = let there : Some x ≡ Some s = sym (ap (λ (y : Stage). settled_at y x) is) ∙ e in let same : x ≡ s = cc in (x, refl, ap (λ (y : Summary). y.meter) same)
    by (Pending true) is = let there : Some (settled_by x) ≡ Some s = sym (ap (λ (y : Stage). settled_at y x) is) ∙ e in let same : settled_by x ≡ s = cc in (x, refl, ap (λ (y : Summary). y.meter) same)
    by (Pending false) is = let there : None ≡ Some s = sym (ap (λ (y : Stage). settled_at y x) is) ∙ e in absurd cc

-- by whatever it judges a session keeps its meter
pub session_meter : (s x : Summary) (v : Verdict) → session_after s v ≡ Some x → x.meter ≡ s.meter
session_meter s x again e = let there : Some (heard_by s again) ≡ Some x = e in let same : heard_by s again ≡ x = cc in ap (λ (y : Summary). y.meter) (sym same)
session_meter s x ready e = let there : Some (heard_by s ready) ≡ Some x = e in let same : heard_by s ready ≡ x = cc in ap (λ (y : Summary). y.meter) (sym same)
session_meter s x (new part t) e = let there : Some (heard_by s (new part t)) ≡ Some x = e in let same : heard_by s (new part t) ≡ x = cc in ap (λ (y : Summary). y.meter) (sym same)
session_meter s x (failed why) e = absurd (let bad : None ≡ Some x = e in cc)

-- a list with one more isn't empty
pub some_more : {X : Type 0} (xs : List X) (x : X) → xs ++ x ∷ [] ≡ [] → ⊥
some_more [] x e = cc
some_more (y ∷ xs) x e = cc

pub pending_none : (moment : ℕ) (pending : List Change) (v : Verdict) → and_pending moment pending v ≡ [] → pending ≡ []
pending_none moment pending again e = e
pending_none moment pending ready e = e
pending_none moment pending (new part t) e = absurd (some_more pending (change_of moment part t) e)
pending_none moment pending (failed why) e = e

-- ---- what each telegram leaves, each verdict leaves

module _ (P : State → Type 0) (leaves : (moment part : ℕ) (t : Parsed) (s : State) → P s → P (applied (change_of moment part t) s)) where
  pub judged_leaves : (core : Core) (line moment : ℕ) (s : Summary) (v : Verdict) → P (present core) → P (present (judged core line moment s v))
  judged_leaves core line moment s again p = p
  judged_leaves core line moment s ready p = p
  judged_leaves core line moment s (failed why) p = p
  judged_leaves core line moment s (new part t) p = subst P (sym (after_of_push core.committed core.pending (change_of moment part t))) (leaves moment part t (present core) p)

-- a meter that is registered, with what of its row no telegram changes
pub record HasRow (P : MeterRow → Type 0) (m : Identity) (s : State) : Type 0 where
  pub row : MeterRow
  pub found : row_of m s ≡ Some row
  pub is : P row

module _ (P : MeterRow → Type 0) (keeps : (row : MeterRow) (parts : List PartRow) → P row → P (record row { parts = parts })) where
  told_has : (m meter : Identity) (more : Bool) (number : ℕ) (part : PartRow) (row : Option MeterRow) (s : State) → row_of meter s ≡ row → HasRow P m s → HasRow P m (told_at meter more number part row s)
  told_has m meter more number part None s found has = has
  told_has m meter more number part (Some row) s found has = by (is_eq (identity_cmp m meter)) refl more
    where
      same : is_eq (identity_cmp m meter) ≡ true → has.row ≡ row
      same at =
          let rows : Some has.row ≡ Some row = sym has.found ∙ ap (λ (x : Identity). row_of x s) (same_from_tie m meter at) ∙ found in
          cc

      own : is_eq (identity_cmp m meter) ≡ true → (parts : List PartRow) → P (record row { parts = parts })
      own at parts = keeps row parts (subst P (same at) has.is)

      by : (b : Bool) → is_eq (identity_cmp m meter) ≡ b → (c : Bool) → HasRow P m (told_at meter c number part (Some row) s)
      by true at true =
          let parts : List PartRow = joined_rows number part row.parts in
          subst (λ (x : Identity). HasRow P x (told_at meter true number part (Some row) s)) (sym (same_from_tie m meter at))
          (record { row = record row { parts = parts }; found = row_of_same meter row (record row { parts = parts }) s found; is = own at parts })
      by true at false =
          subst (λ (x : Identity). HasRow P x (told_at meter false number part (Some row) s)) (sym (same_from_tie m meter at))
          (record { row = record row { parts = [] }; found = row_of_same meter row (record row { parts = [] }) s found; is = own at [] })
      by false at true = record { row = has.row; found = row_of_other m meter (record row { parts = joined_rows number part row.parts }) s at ∙ has.found; is = has.is }
      by false at false = record { row = has.row; found = row_of_other m meter (record row { parts = [] }) s at ∙ has.found; is = has.is }

  -- a telegram leaves it
  pub row_leaves : (m : Identity) (moment part : ℕ) (t : Parsed) (s : State) → HasRow P m s → HasRow P m (applied (change_of moment part t) s)
  row_leaves m moment part t s = told_has m t.header.identity (continues t.ending) part (record { moment = moment; body = t.body }) (row_of t.header.identity s) s refl

-- ---- the register, by one meter

module _ (meter : Identity) where
  -- the meter's row and its readings stay
  pub record Keeps (old new : State) : Type 0 where
    pub rows : (row : MeterRow) → row_of meter old ≡ Some row → row_of meter new ≡ Some row
    pub readings : readings_of meter new ≡ readings_of meter old

  pub apart : (m : Identity) → m ≢ meter → is_eq (identity_cmp meter m) ≡ false
  apart m ne = by (is_eq (identity_cmp meter m)) refl
    where
      by : (b : Bool) → is_eq (identity_cmp meter m) ≡ b → b ≡ false
      by false e = refl
      by true e = absurd (ne (sym (same_from_tie meter m e)))

  pub none_of : (reading : ReadingRow) → is_of meter reading ≡ false → filter (is_of meter) (reading ∷ []) ≡ []
  none_of reading e = rw e refl

  pub one_of : (reading : ReadingRow) → is_of meter reading ≡ true → filter (is_of meter) (reading ∷ []) ≡ reading ∷ []
  one_of reading e = rw e refl

  -- a telegram of another meter
  pub other_keeps : (m : Identity) (more : Bool) (number : ℕ) (part : PartRow) (row : Option MeterRow) (s : State) → m ≢ meter → Keeps s (told_at m more number part row s)
  other_keeps m more number part None s ne = record { rows = λ r found. found; readings = refl }
  other_keeps m true number part (Some row) s ne =
      record { rows = λ r found. row_of_other meter m (record row { parts = joined_rows number part row.parts }) s (apart m ne) ∙ found; readings = refl }
  other_keeps m false number part (Some row) s ne = record {
    rows = λ r found. row_of_other meter m (record row { parts = [] }) s (apart m ne) ∙ found;
    readings =
        let reading : ReadingRow = record { serial = s.next_serial; meter = m; flat = row.flat; parts = joined_rows number part row.parts } in
        filter-append (is_of meter) s.readings (reading ∷ [])
        ∙ ap (λ (rs : List ReadingRow). filter (is_of meter) s.readings ++ rs) (none_of reading (apart m ne))
        ∙ append-nil (filter (is_of meter) s.readings);
  }

  -- what a session of another meter judges
  pub judged_keeps : (core : Core) (line moment : ℕ) (bytes : List ℕ) (s : Summary) (v : Verdict) → s.meter ≢ meter → verdict_by s bytes ≡ v → Keeps (present core) (present (judged core line moment s v))
  judged_keeps core line moment bytes s again ne e = record { rows = λ r found. found; readings = refl }
  judged_keeps core line moment bytes s ready ne e = record { rows = λ r found. found; readings = refl }
  judged_keeps core line moment bytes s (failed why) ne e = record { rows = λ r found. found; readings = refl }
  judged_keeps core line moment bytes s (new part t) ne e =
      subst (Keeps (present core)) (sym (after_of_push core.committed core.pending (change_of moment part t)))
      (other_keeps t.header.identity (continues t.ending) part (record { moment = moment; body = t.body }) (row_of t.header.identity (present core)) (present core)
      (λ same. ne (sym (taken s bytes part t e).own ∙ same)))

-- ---- failures

pub not_both : (line : ℕ) (event : Event) → IsElsewhere line event → IsHeardOn line event → ⊥
not_both line (starts other meter) away on = on
not_both line (asks other) away on = on
not_both line (hears other moment bytes) away on = away on
not_both line commits away on = on
not_both line (offices text) away on = on
