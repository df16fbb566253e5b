-- A telegram that is asked for is of a registered meter, and its readout's next part (the theorem of specs/Known).
use Rattle.std.proofs.Common.{◌≡◌, ◌≢◌, ◌⊎◌, ⊎_elim, inr, ◌+◌, ℕ, Bool, true, false, cond, eqb, Option, None, Some, List, [], ◌∷◌, ◌++◌, length, refl, ap, sym, arith, ◌∙◌, length-append}
use Rattle.std.specs.Prelude.{is_some}
use Rattle.std.specs.BTreeMap.{is_at}
use Rattle.std.specs.Map.{lookup, set_value}
use Rattle.std.proofs.lemmas.Bool.{eq-eqb, eqb-true}
use Rattle.dc_address.specs.declared.identity.Identity.{Identity}
use Rattle.dc_address.specs.Identity.{identity_cmp}
use Rattle.dc_readout.specs.declared.stage.Stage.{Stage}
use Rattle.dc_readout.specs.declared.stage.Stage.TheVariants.{Resets, Selects, Requests, Pending, Ended}
use Rattle.dc_readout.specs.Summary.{Summary, asked_at, after_command}
use Rattle.mbdc_change.specs.State.{State, MeterRow, PartRow, row_of}
use Rattle.mbdc_change.specs.Apply.{with_row, joined, heard as told_at}
use Rattle.dc_address.proofs.Order.{same_from_tie}

-- ---- a register in which one row is another

lookup_other : {K X : Type 0} (f g : K → Bool) (w : X) (es : List (K × X)) → ((k : K) → g k ≡ true → f k ≡ false) → lookup f (set_value g es w) ≡ lookup f es
lookup_other f g w [] apart = refl
lookup_other {K} {X} f g w (e ∷ es) apart = here (g e.0) refl (lookup_other f g w es apart)
  where
    here : (b : Bool) → g e.0 ≡ b → lookup f (set_value g es w) ≡ lookup f es → lookup f (set_value g (e ∷ es) w) ≡ lookup f (e ∷ es)
    here true at rest = rw (at, apart e.0 at) refl
    here false at rest = rw at (ap (λ (o : Option X). cond (f e.0) (Some e.1) o) rest)

lookup_same : {K X : Type 0} (g : K → Bool) (w old : X) (es : List (K × X)) → lookup g es ≡ Some old → lookup g (set_value g es w) ≡ Some w
lookup_same g w old [] found = absurd (cc found)
lookup_same {K} {X} g w old (e ∷ es) found = here (g e.0) refl (lookup_same g w old es)
  where
    here : (b : Bool) → g e.0 ≡ b → (lookup g es ≡ Some old → lookup g (set_value g es w) ≡ Some w) → lookup g (set_value g (e ∷ es) w) ≡ Some w
    here true at rest = rw (at, at) refl
    here false at rest = rw (at, at) (rest (rw at at found))

pub row_of_same : (meter : Identity) (old row : MeterRow) (s : State) → row_of meter s ≡ Some old → row_of meter (with_row meter row s) ≡ Some row
row_of_same meter old row s found = lookup_same (is_at (identity_cmp meter)) row old s.meters found

pub row_of_other : (m meter : Identity) (row : MeterRow) (s : State) → is_at (identity_cmp m) meter ≡ false → row_of m (with_row meter row s) ≡ row_of m s
row_of_other m meter row s apart =
    lookup_other (is_at (identity_cmp m)) (is_at (identity_cmp meter)) row s.meters (λ k at. ap (is_at (identity_cmp m)) (sym (same_from_tie meter k at)) ∙ apart)

-- ---- what a session's meter has in the register

-- The meter is registered on this bus line, and has as many open parts as telegrams were acknowledged, or none was.
pub record IsFollowed (line : ℕ) (meter : Identity) (count : ℕ) (s : State) : Type 0 where
  pub row : MeterRow
  pub found : row_of meter s ≡ Some row
  pub on_line : row.line ≡ line
  pub counted : (count ≡ 0) ⊎ (length row.parts ≡ count)

-- So it is of a session that asks, and of one whose telegram waits, with that telegram counted; after its last one nothing is said.
abbrev pub FollowsAt : Stage → ℕ → Identity → ℕ → State → Type 0
FollowsAt Resets line meter count s = IsFollowed line meter count s
FollowsAt Selects line meter count s = IsFollowed line meter count s
FollowsAt Requests line meter count s = IsFollowed line meter count s
FollowsAt (Pending true) line meter count s = IsFollowed line meter (count + 1) s
FollowsAt (Pending false) line meter count s = Unit {0}
FollowsAt Ended line meter count s = Unit {0}

abbrev pub Follows : ℕ → Option Summary → State → Type 0
Follows line None state = Unit {0}
Follows line (Some s) state = FollowsAt s.stage line s.meter s.settled state

pub asks_followed : (stage : Stage) (line : ℕ) (meter : Identity) (address : Option ℕ) (count : ℕ) (s : State) → is_some (asked_at stage meter address count) ≡ true → FollowsAt stage line meter count s → IsFollowed line meter count s
asks_followed Resets line meter address count s asks follows = follows
asks_followed Selects line meter address count s asks follows = follows
asks_followed Requests line meter address count s asks follows = follows
asks_followed (Pending more) line meter address count s asks follows = absurd (cc asks)
asks_followed Ended line meter address count s asks follows = absurd (cc asks)

pub ready_follows : (stage : Stage) (line : ℕ) (meter : Identity) (address : Option ℕ) (count : ℕ) (s : State) → IsFollowed line meter count s → FollowsAt (after_command stage address) line meter count s
ready_follows Resets line meter None count s is = is
ready_follows Resets line meter (Some address) count s is = is
ready_follows Selects line meter address count s is = is
ready_follows Requests line meter address count s is = is
ready_follows (Pending more) line meter address count s is = is
ready_follows Ended line meter address count s is = is

-- ---- a telegram that is taken

joined_length : (count number : ℕ) (part : PartRow) (parts : List PartRow) → number ≡ count + 1 → (count ≡ 0) ⊎ (length parts ≡ count) → length (joined number part parts) ≡ count + 1
joined_length count number part parts is counted = by_first (eqb number 1) refl
  where
    by_first : (b : Bool) → eqb number 1 ≡ b → length (cond b (part ∷ []) (parts ++ part ∷ [])) ≡ count + 1
    by_first true first = let one = eqb-true number 1 first in omega (arith, one, is)
    by_first false first = ⊎_elim
        (λ none. let one : eqb number 1 ≡ true = eq-eqb number 1 (omega (arith, none, is)) in absurd (cc (sym one ∙ first)))
        (λ same. let sum = length-append parts (part ∷ []) in omega (arith, same, sum))
        counted

-- of the meter itself
pub told_own : (line : ℕ) (meter : Identity) (count number : ℕ) (part : PartRow) (s : State) (is : IsFollowed line meter count s) → number ≡ count + 1
    → IsFollowed line meter (count + 1) (told_at meter true number part (Some is.row) s)
told_own line meter count number part s is at =
    let row : MeterRow = record is.row { parts = joined number part is.row.parts } in
    record { row = row; found = row_of_same meter is.row row s is.found; on_line = is.on_line; counted = inr (joined_length count number part is.row.parts at is.counted) }

-- of a meter on another line
pub apart : (line other : ℕ) (meter m : Identity) (row : MeterRow) (count : ℕ) (s : State) → row_of meter s ≡ Some row → row.line ≡ line → IsFollowed other m count s → other ≢ line → is_at (identity_cmp m) meter ≡ false
apart line other meter m row count s found on is ne = by_test (is_at (identity_cmp m) meter) refl
  where
    by_test : (b : Bool) → is_at (identity_cmp m) meter ≡ b → b ≡ false
    by_test false at = refl
    by_test true at =
        let same = same_from_tie m meter at in
        let rows : Some is.row ≡ Some row = sym is.found ∙ ap (λ (x : Identity). row_of x s) same ∙ found in
        let row_is : is.row ≡ row = cc rows in
        absurd (ne (sym is.on_line ∙ ap (λ (r : MeterRow). r.line) row_is ∙ on))

told_other : (line other : ℕ) (meter m : Identity) (row : MeterRow) (count : ℕ) (more : Bool) (number : ℕ) (part : PartRow) (s : State) → row_of meter s ≡ Some row → row.line ≡ line → IsFollowed other m count s → other ≢ line
    → IsFollowed other m count (told_at meter more number part (Some row) s)
told_other line other meter m row count true number part s found on is ne = record {
  row = is.row;
  found = row_of_other m meter (record row { parts = joined number part row.parts }) s (apart line other meter m row count s found on is ne) ∙ is.found;
  on_line = is.on_line;
  counted = is.counted;
}
told_other line other meter m row count false number part s found on is ne = record {
  row = is.row;
  found = row_of_other m meter (record row { parts = [] }) s (apart line other meter m row count s found on is ne) ∙ is.found;
  on_line = is.on_line;
  counted = is.counted;
}

told_follows : (line other : ℕ) (meter : Identity) (row : MeterRow) (more : Bool) (number : ℕ) (part : PartRow) (s : State) (stage : Stage) (m : Identity) (count : ℕ) → row_of meter s ≡ Some row → row.line ≡ line → other ≢ line
    → FollowsAt stage other m count s → FollowsAt stage other m count (told_at meter more number part (Some row) s)
told_follows line other meter row more number part s Resets m count found on ne is = told_other line other meter m row count more number part s found on is ne
told_follows line other meter row more number part s Selects m count found on ne is = told_other line other meter m row count more number part s found on is ne
told_follows line other meter row more number part s Requests m count found on ne is = told_other line other meter m row count more number part s found on is ne
told_follows line other meter row more number part s (Pending true) m count found on ne is = told_other line other meter m row (count + 1) more number part s found on is ne
told_follows line other meter row more number part s (Pending false) m count found on ne is = tt
told_follows line other meter row more number part s Ended m count found on ne is = tt

pub told_session : (line other : ℕ) (meter : Identity) (row : MeterRow) (more : Bool) (number : ℕ) (part : PartRow) (s : State) (session : Option Summary) → row_of meter s ≡ Some row → row.line ≡ line → other ≢ line
    → Follows other session s → Follows other session (told_at meter more number part (Some row) s)
told_session line other meter row more number part s None found on ne is = tt
told_session line other meter row more number part s (Some x) found on ne is = told_follows line other meter row more number part s x.stage x.meter x.settled found on ne is
