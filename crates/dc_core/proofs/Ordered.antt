-- A command leaves each session that goes on at its meter's row (for the theorem of specs/Known).
use Rattle.std.proofs.Common.{◌≡◌, ◌⊎◌, ◌+◌, ℕ, length, zero, suc, Bool, true, false, cond, Option, None, Some, List, [], ◌∷◌, get_or, refl, ap, sym, subst, ◌∙◌}
use Rattle.std.specs.Prelude.{is_some}
use Rattle.std.specs.BTreeMap.{is_at, insert_entry}
use Rattle.std.specs.Map.{lookup, remove_entry}
use Rattle.std.specs.Ordering.{match_ordering}
use Rattle.std.specs.declared.cmp.Ordering.{Ordering}
use Rattle.std.specs.declared.cmp.Ordering.TheVariants.{Less, Equal, Greater}
use Rattle.std.proofs.lemmas.Bool.{and_from, eq-eqb}
use Rattle.dc_address.specs.declared.identity.Identity.{Identity}
use Rattle.dc_address.specs.Identity.{identity_cmp}
use Rattle.dc_address.proofs.Order.{same_from_tie, same_from_equal}
use Rattle.dc_readout.specs.Answer.{is_meter}
use Rattle.dc_readout.specs.declared.stage.Stage.{Stage}
use Rattle.dc_readout.specs.declared.stage.Stage.TheVariants.{Resets, Selects, Requests, Pending, Ended}
use Rattle.dc_readout.specs.Summary.{Summary}
use Rattle.mbdc_change.specs.State.{State, MeterRow, row_of}
use Rattle.mbdc_change.specs.Apply.{applied, commanded, moved, swapped}
use Rattle.mbdc_change.specs.Accepts.{Accepts, is_known}
use Rattle.mbdc_change.specs.declared.change.Change.{Change}
use Rattle.mbdc_change.specs.declared.change.Change.TheVariants.{Command as Numbered}
use Rattle.mbdc_change.specs.declared.command.Command.{Command}
use Rattle.mbdc_change.specs.declared.command.Command.TheVariants.{Fit, Move, Out, Confirm, Swap}
use Rattle.mbdc_change.specs.declared.fault.ChangeFault.{ChangeFault}
use Rattle.mbdc_change.specs.declared.fault.ChangeFault.TheVariants.{Known}
use Rattle.dc_core.specs.Lines.{unless_of}
use Rattle.dc_core.specs.Step.{removed_by, lines_after}
use Rattle.dc_core.proofs.Registered.{IsFollowed, FollowsAt, Follows, row_of_same, row_of_other}

-- ---- another meter's row

abbrev pub at_meter : Identity → Identity → Bool
at_meter m = is_at (identity_cmp m)

pub insert_other : (m meter : Identity) (row : MeterRow) (es : List (Identity × MeterRow)) → at_meter m meter ≡ false → lookup (at_meter m) (insert_entry identity_cmp es meter row) ≡ lookup (at_meter m) es
insert_other m meter row [] apart = rw apart refl
insert_other m meter row (e ∷ es) apart = by_order (insert_other m meter row es apart) (identity_cmp meter e.0) refl
  where
    by_order : lookup (at_meter m) (insert_entry identity_cmp es meter row) ≡ lookup (at_meter m) es → (o : Ordering) → identity_cmp meter e.0 ≡ o
        → lookup (at_meter m) (match_ordering o ((meter, row) ∷ e ∷ es) ((e.0, row) ∷ es) (e ∷ insert_entry identity_cmp es meter row)) ≡ lookup (at_meter m) (e ∷ es)
    by_order rest Less at = rw apart refl
    by_order rest Equal at =
        let there : at_meter m e.0 ≡ false = ap (at_meter m) (sym (same_from_equal meter e.0 at)) ∙ apart in
        rw there refl
    by_order rest Greater at = ap (λ (o : Option MeterRow). cond (at_meter m e.0) (Some e.1) o) rest

pub remove_other : (m meter : Identity) (es : List (Identity × MeterRow)) → at_meter m meter ≡ false → lookup (at_meter m) (remove_entry (at_meter meter) es) ≡ lookup (at_meter m) es
remove_other m meter [] apart = refl
remove_other m meter (e ∷ es) apart = by_test (remove_other m meter es apart) (at_meter meter e.0) refl
  where
    by_test : lookup (at_meter m) (remove_entry (at_meter meter) es) ≡ lookup (at_meter m) es → (b : Bool) → at_meter meter e.0 ≡ b → lookup (at_meter m) (remove_entry (at_meter meter) (e ∷ es)) ≡ lookup (at_meter m) (e ∷ es)
    by_test rest true at =
        let there : at_meter m e.0 ≡ false = ap (at_meter m) (sym (same_from_tie meter e.0 at)) ∙ apart in
        rw (at, there) refl
    by_test rest false at = rw at (ap (λ (o : Option MeterRow). cond (at_meter m e.0) (Some e.1) o) rest)

-- a registered meter isn't one that isn't registered
pub apart_from_new : (m meter : Identity) (row : MeterRow) (s : State) → row_of m s ≡ Some row → is_some (row_of meter s) ≡ false → at_meter m meter ≡ false
apart_from_new m meter row s found absent = by_test (at_meter m meter) refl
  where
    by_test : (b : Bool) → at_meter m meter ≡ b → b ≡ false
    by_test false at = refl
    by_test true at =
        let there : row_of meter s ≡ Some row = ap (λ (x : Identity). row_of x s) (sym (same_from_tie m meter at)) ∙ found in
        sym (ap is_some there) ∙ absent

-- ---- a command

-- this meter isn't removed
abbrev Stays : Option Identity → Identity → Type 0
Stays None m = Unit {0}
Stays (Some meter) m = at_meter m meter ≡ false

-- of a state whose row of the meter is the same
at_same_row : (line count : ℕ) (m : Identity) (s new : State) → row_of m new ≡ row_of m s → IsFollowed line m count s → IsFollowed line m count new
at_same_row line count m s new same is = record { row = is.row; found = same ∙ is.found; on_line = is.on_line; counted = is.counted }

moved_followed : (line count : ℕ) (m meter : Identity) (flat : List ℕ) (s : State) (found : Option MeterRow) → row_of meter s ≡ found → IsFollowed line m count s → IsFollowed line m count (moved meter flat found s)
moved_followed line count m meter flat s None e is = is
moved_followed line count m meter flat s (Some row) e is = by_test (at_meter m meter) refl
  where
    new : MeterRow
    new = record row { flat = flat }

    by_test : (b : Bool) → at_meter m meter ≡ b → IsFollowed line m count (moved meter flat (Some row) s)
    by_test false at = at_same_row line count m s _ (row_of_other m meter new s at) is
    by_test true at =
        let same : m ≡ meter = same_from_tie m meter at in
        let rows : Some is.row ≡ Some row = sym is.found ∙ ap (λ (x : Identity). row_of x s) same ∙ e in
        let row_is : is.row ≡ row = cc rows in
        let mine : IsFollowed line meter count (moved meter flat (Some row) s) = record {
          row = new;
          found = row_of_same meter row new s e;
          on_line = ap (λ (r : MeterRow). r.line) (sym row_is) ∙ is.on_line;
          counted = subst (λ (r : MeterRow). (count ≡ 0) ⊎ (length r.parts ≡ count)) row_is is.counted;
        } in
        subst (λ (x : Identity). IsFollowed line x count (moved meter flat (Some row) s)) (sym same) mine

swapped_followed : (line count : ℕ) (m old other : Identity) (address : Option ℕ) (s : State) (found : Option MeterRow) → at_meter m old ≡ false → at_meter m other ≡ false → IsFollowed line m count s → IsFollowed line m count (swapped old other address found s)
swapped_followed line count m old other address s None gone new is = is
swapped_followed line count m old other address s (Some row) gone new is =
    let come : MeterRow = record { line = row.line; address = address; flat = row.flat; parts = [] } in
    at_same_row line count m s _ (remove_other m old (insert_entry identity_cmp s.meters other come) gone ∙ insert_other m other come s.meters new) is

command_followed : (line count : ℕ) (m : Identity) (number : ℕ) (command : Command) (s : State) → is_known command s ≡ false → Stays (removed_by (Numbered number command)) m → IsFollowed line m count s → IsFollowed line m count (commanded command s)
command_followed line count m number (Fit meter at address flat) s new stays is =
    let come : MeterRow = record { line = at; address = address; flat = flat; parts = [] } in
    at_same_row line count m s _ (insert_other m meter come s.meters (apart_from_new m meter is.row s is.found new)) is
command_followed line count m number (Move meter flat) s new stays is = moved_followed line count m meter flat s (row_of meter s) refl is
command_followed line count m number (Out meter) s new stays is = at_same_row line count m s _ (remove_other m meter s.meters stays) is
command_followed line count m number (Confirm serial) s new stays is = at_same_row line count m s _ refl is
command_followed line count m number (Swap old other address) s new stays is =
    swapped_followed line count m old other address s (row_of old s) stays (apart_from_new m other is.row s is.found new) is

-- ---- what a session has at its meter

followed_at : (stage : Stage) (line count : ℕ) (m : Identity) (s new : State) → ((n : ℕ) → IsFollowed line m n s → IsFollowed line m n new) → FollowsAt stage line m count s → FollowsAt stage line m count new
followed_at Resets line count m s new each is = each count is
followed_at Selects line count m s new each is = each count is
followed_at Requests line count m s new each is = each count is
followed_at (Pending true) line count m s new each is = each (count + 1) is
followed_at (Pending false) line count m s new each is = tt
followed_at Ended line count m s new each is = tt

-- who is on a line then
abbrev pub left_on : Option Identity → Option Summary → Option Summary
left_on None session = session
left_on (Some meter) session = unless_of meter session

pub get_left : (removed : Option Identity) (lines : List (Option Summary)) (place : ℕ) → get_or (lines_after removed lines) place None ≡ left_on removed (get_or lines place None)
get_left None lines place = refl
get_left (Some meter) [] place = refl
get_left (Some meter) (x ∷ lines) zero = refl
get_left (Some meter) (x ∷ lines) (suc place) = get_left (Some meter) lines place

pub own : (m : Identity) → is_meter m m ≡ true
own m = and_from _ _ (and_from _ _ (and_from _ _ (eq-eqb m.number m.number refl) (eq-eqb m.maker m.maker refl)) (eq-eqb m.version m.version refl)) (eq-eqb m.kind m.kind refl)

-- a session that another meter's end leaves is of another meter
pub other_meter : (meter m : Identity) → is_meter meter m ≡ false → at_meter m meter ≡ false
other_meter meter m other = by_test (at_meter m meter) refl
  where
    by_test : (b : Bool) → at_meter m meter ≡ b → b ≡ false
    by_test false at = refl
    by_test true at = sym (own m) ∙ ap (λ (x : Identity). is_meter x m) (same_from_tie m meter at) ∙ other

module _ (line number : ℕ) (command : Command) (s : State) (new : is_known command s ≡ false) where
  abbrev change : Change
  change = Numbered number command

  session_stays : (x : Summary) → Stays (removed_by change) x.meter → FollowsAt x.stage line x.meter x.settled s → FollowsAt x.stage line x.meter x.settled (applied change s)
  session_stays x stays is = followed_at x.stage line x.settled x.meter s (applied change s)
      (λ n followed. at_same_row line n x.meter (commanded command s) (applied change s) refl (command_followed line n x.meter number command s new stays followed)) is

  left_follows : (removed : Option Identity) → removed_by change ≡ removed → (session : Option Summary) → Follows line session s → Follows line (left_on removed session) (applied change s)
  left_follows None e None is = tt
  left_follows None e (Some x) is = session_stays x (subst (λ (r : Option Identity). Stays r x.meter) (sym e) tt) is
  left_follows (Some meter) e None is = tt
  left_follows (Some meter) e (Some x) is = by_test (is_meter meter x.meter) refl
    where
      by_test : (b : Bool) → is_meter meter x.meter ≡ b → Follows line (left_on (Some meter) (Some x)) (applied change s)
      by_test true at = rw at tt
      by_test false at = rw at (session_stays x (subst (λ (r : Option Identity). Stays r x.meter) (sym e) (other_meter meter x.meter at)) is)

  pub order_follows : (session : Option Summary) → Follows line session s → Follows line (left_on (removed_by change) session) (applied change s)
  order_follows session is = left_follows (removed_by change) refl session is

-- an accepted command fits no meter that is registered
first_fault : (b : Bool) (rest : Option ChangeFault) → cond b (Some Known) rest ≡ None → b ≡ false
first_fault true rest e = absurd (cc e)
first_fault false rest e = refl

pub accepted_new : (budget number : ℕ) (command : Command) (s : State) → Accepts budget (Numbered number command) s → is_known command s ≡ false
accepted_new budget number command s accepts = first_fault (is_known command s) _ accepts.unrefused
