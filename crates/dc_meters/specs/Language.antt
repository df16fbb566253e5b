-- The register's states and changes as what a store keeps.
use Rattle.std.proofs.Common.{◌<◌, ◌^◌, ◌≡◌, ◌≤◌, ◌+◌, ℕ, List, [], ◌∷◌, ◌++◌, length, replicate, refl, subst, sym, arith}
use Rattle.mbdc_io.specs.declared.kept.kept.Language.{Ghosts as Language}
use Rattle.mbdc_change.specs.State.{State, Held, empty_state}
use Rattle.mbdc_change.specs.declared.change.Change.{Change}
use Rattle.mbdc_change.specs.Pieces.{long_bytes, count_bytes, byte, counted}
use Rattle.mbdc_change.specs.Encoding.{state_bytes}
use Rattle.mbdc_change.specs.Spelled.{SpellsState, SpellsChanges}
use Rattle.mbdc_change.specs.History.{after, AcceptsAll}
use Rattle.mbdc_change.specs.Valid.{IsState}
use Rattle.mbdc_change.proofs.StateSpellings.{spelled_once}
use Rattle.mbdc_change.proofs.CommandSpellings.{changes_spelled_once}
use Rattle.mbdc_change.proofs.Lengths.{state_some, state_fits}
use Rattle.mbdc_change.proofs.History.{after_of_append}
use Rattle.std.specs.List.Sorted.{IsStrictlySortedBy}
use Rattle.std.specs.Ordering.{nat_cmp}
use Rattle.std.specs.declared.cmp.Ordering.{Ordering}
use Rattle.std.proofs.lemmas.List.Elements.{All-nil}
use Rattle.dc_address.specs.Identity.{identity_cmp}
use Rattle.mbdc_change.specs.State.{ReadingRow}
use Rattle.mbdc_change.specs.Valid.{IsMeter, IsReading, IsOpenSerial}

-- an empty list is in strict order
sorted_nothing : {K : Type 0} (c : K → K → Ordering) → IsStrictlySortedBy c []
unfolding IsStrictlySortedBy
sorted_nothing c = tt

-- the empty register is a state within any budget of at least 153 bytes
pub IsState-empty : (budget : ℕ) → 153 ≤ budget → IsState budget empty_state
IsState-empty budget room = record {
  meters_ascend = sorted_nothing identity_cmp;
  meters_are = All-nil IsMeter;
  readings_ascend = sorted_nothing nat_cmp;
  readings_are = All-nil IsReading;
  serials_are = All-nil (λ (r : ReadingRow). IsOpenSerial 0 1 r.serial);
  next_fits = omega arith;
  confirmed_fits = omega arith;
  number_fits = omega arith;
  line_fits = omega arith;
  size_fits = room;
}

-- the encoding of the empty register: the next serial is 1, everything after it is zero
abbrev pub empty_text : List ℕ
empty_text = 1 ∷ replicate 32 0

-- the empty text is the encoding of the empty register
spelled : empty_text ≡ state_bytes empty_state
unfolding long_bytes count_bytes byte counted
spelled = refl

-- the empty text spells the empty register within the smallest budget, that of a half of 64 sectors
pub empty_register : SpellsState 15616 empty_text empty_state
empty_register = record { spelled = spelled; is_state = IsState-empty 15616 (omega arith) }

-- bytes spell at most one state, in budgets below 2^32
pub one_register : (budget : ℕ) (bytes : List ℕ) (s t : State) → budget < 2 ^ 32 →
    SpellsState budget bytes s → SpellsState budget bytes t → s ≡ t
one_register budget bytes s t small a b = spelled_once budget budget bytes s t small small a b

-- bytes spell at most one list of changes
pub one_history : (bytes : List ℕ) (cs ds : List Change) → SpellsChanges bytes cs → SpellsChanges bytes ds → cs ≡ ds
one_history bytes cs ds a b = changes_spelled_once bytes cs ds a b

-- a state within a budget is one within a greater budget
wider : (small great : ℕ) (state : State) → small ≤ great → IsState small state → IsState great state
wider small great state le is = record {
  meters_ascend = is.meters_ascend;
  meters_are = is.meters_are;
  readings_ascend = is.readings_ascend;
  readings_are = is.readings_are;
  serials_are = is.serials_are;
  next_fits = is.next_fits;
  confirmed_fits = is.confirmed_fits;
  number_fits = is.number_fits;
  line_fits = is.line_fits;
  size_fits = (let fits = is.size_fits in omega arith);
}

-- what spells a state within a budget spells it within a greater one
pub wider_register : (small great : ℕ) (bytes : List ℕ) (s : State) → small ≤ great → SpellsState small bytes s → SpellsState great bytes s
wider_register small great bytes s le is = record { spelled = is.spelled; is_state = wider small great s le is.is_state }

-- a state is spelled by at least one byte
pub some_register : (budget : ℕ) (bytes : List ℕ) (s : State) → SpellsState budget bytes s → 0 < length bytes
some_register budget bytes s is = subst (λ (l : List ℕ). 0 < length l) (sym is.spelled) (omega (arith, state_some s))

-- the bytes of a state fit its budget
pub fits_register : (budget : ℕ) (bytes : List ℕ) (s : State) → SpellsState budget bytes s → length bytes ≤ budget
fits_register budget bytes s is = subst (λ (l : List ℕ). length l ≤ budget) (sym is.spelled) (state_fits is.is_state)

-- no changes leave the state as it is
pub nothing_after : (s : State) → after s [] ≡ s
nothing_after s = refl

-- changes may be applied in two steps: the first ones, then the rest
pub all_after : (s : State) (first then : List Change) → after s (first ++ then) ≡ after (after s first) then
all_after = after_of_append

-- THE REGISTER AS WHAT A STORE KEEPS
abbrev pub register : Language Held
register = record {
  State = State;
  Change = Change;
  empty = empty_state;
  after = after;
  Accepts = AcceptsAll;
  bytes_of = state_bytes;
  empty_bytes = empty_text;
  SpellsState = SpellsState;
  SpellsChanges = SpellsChanges;
  state = λ h. h.state;
  limit = λ h. h.budget;
  one_state = one_register;
  one_list = one_history;
  wider = wider_register;
  some = some_register;
  fits = fits_register;
  empty_spelled = empty_register;
  after_none = nothing_after;
  after_append = all_after;
}
