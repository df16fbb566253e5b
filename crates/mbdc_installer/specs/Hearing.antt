-- What a search believes of what comes where several meters may answer (EN 13757-3, selection with wildcards; this product).
use Rattle.std.specs.Prelude.{◌≡◌, ◌⊎◌, ◌+◌, ◌-◌, ◌^◌, min, ℕ, Bool, true, false, not, ◌&&◌, ◌||◌, ◌==◌, List, [], ◌∷◌, ◌++◌, length, take}
use Rattle.std.specs.Prelude.{Option, None, Some, if◌then◌else◌, nat_le, nat_lt}
use Rattle.std.specs.Bool.{then_some}
use Rattle.dc_address.specs.declared.identity.Identity.{Identity}
use Rattle.dc_linkframe.specs.Frame.{FrameSeen, ack, short, long}
use Rattle.dc_linkframe.specs.Reading.{frame_of}
use Rattle.dc_readout.specs.Misses.{is_silent}
use Rattle.dc_search.specs.Answer.{answer_of}
use Rattle.mbdc_bus.specs.Windows.{noise}
use Rattle.mbdc_installer.specs.Confirming.{Confirms, could_be_in_step, is_open}
use Rattle.mbdc_installer.specs.Other.{Looks, is_closed, most_others}
use Rattle.mbdc_installer.specs.Scan.{is_ack}
use Rattle.mbdc_installer.specs.declared.hearing.Wildcard.{Wildcard}
use Rattle.mbdc_installer.specs.declared.other.Looked.{Looked}
use Rattle.mbdc_installer.specs.declared.other.Looked.TheVariants.{Closed, Kept}

-- the eight bytes of a selection
abbrev pub selection_in : Option FrameSeen → Option (List ℕ)
selection_in None = None
selection_in (Some ack) = None
selection_in (Some (short control address)) = None
selection_in (Some (long control address ci body)) =
    if ci == 0x52 && nat_le 8 (length body) then Some (take 8 body) else None

-- what is known before anything is asked
abbrev pub new_wildcard : Bool → Wildcard
new_wildcard confirms = record { confirms = confirms; wire = None; held = None; last = None; others = record { items = [] }; strays = 0 }

-- ---- a selection

-- ONE METER MAY ANSWER ALONE: where one acknowledged, or where bytes came and no digit is open. Only in a search, and while
-- one more can be noted.
abbrev pub is_looked : Wildcard → List ℕ → List ℕ → Bool
is_looked w wire answer = w.confirms && (nat_lt (length w.others.items) most_others
    && (is_ack (frame_of answer) || (not (is_open wire 7) && not (is_silent answer))))

-- what is known after a selection whose data isn't requested at once
abbrev pub selected_by : List ℕ → Wildcard → Wildcard
selected_by wire before = record before { wire = then_some before.confirms wire; held = None }

-- A STRAY ACKNOWLEDGEMENT: nothing came to three requests for the data of who gave it. Their number saturates.
abbrev pub strays_with : List ℕ → ℕ → ℕ
strays_with answer strays = if is_silent answer then min (strays + 1) (2 ^ 64 - 1) else strays

-- what came is held for the search's own request; or the wildcard is closed, and noted
abbrev pub looked_at : List ℕ → Wildcard → Looked → Wildcard
looked_at wire before (Kept answer) =
    record before { wire = then_some before.confirms wire; held = Some answer; strays = strays_with answer before.strays }
looked_at wire before (Closed format) = record before {
  wire = None;
  held = None;
  others = record { items = before.others.items ++ record { wire = wire; format = format } ∷ [] };
}

-- nobody acknowledged whose wildcard is closed
abbrev pub acknowledged : Looked → List ℕ → List ℕ
acknowledged (Kept answer) acknowledgement = acknowledgement
acknowledged (Closed format) acknowledgement = []

-- A SELECTION. Of a wildcard that is closed nothing goes out. Where one meter may answer alone, it is asked at once.
pub data Selects {B : Type 0} (asks_all : B → List ℕ → List ℕ → B → Type 0) (wire request : List ℕ)
    (old : B) (before : Wildcard) (heard : List ℕ) (new : B) (after : Wildcard) : Type 0 where
  is_over : is_closed wire before.others.items ≡ true → heard ≡ [] → new ≡ old → after ≡ before
      → Selects asks_all wire request old before heard new after
  is_believed : is_closed wire before.others.items ≡ false → asks_all old request heard new
      → is_looked before wire heard ≡ false → after ≡ selected_by wire before
      → Selects asks_all wire request old before heard new after
  looks : {between : B} (answer : List ℕ) (looked : Looked) → is_closed wire before.others.items ≡ false
      → asks_all old request answer between → is_looked before wire answer ≡ true
      → Looks asks_all wire between looked new → heard ≡ acknowledged looked answer
      → after ≡ looked_at wire before looked
      → Selects asks_all wire request old before heard new after

-- ---- any request

-- what was held, or else what comes to the request
abbrev pub Takes : {B : Type 0} → (B → List ℕ → List ℕ → B → Type 0) → List ℕ → Option (List ℕ) → B
    → List ℕ → B → Type 0
Takes asks_all request None old answer new = asks_all old request answer new
Takes asks_all request (Some held) old answer new = (answer ≡ held) × (new ≡ old)

-- A REQUEST AND WHAT IS BELIEVED OF ITS ANSWER: the first telegram after a selection only where its meter is confirmed.
pub data Hears {B : Type 0} (lost : B → Bool) (asks_all : B → List ℕ → List ℕ → B → Type 0)
    (request : List ℕ) (old : B) (before : Wildcard) (heard : List ℕ) (new : B) (after : Wildcard)
    : Type 0 where
  is_lost : lost old ≡ true → heard ≡ [] → new ≡ old → after ≡ before
      → Hears lost asks_all request old before heard new after
  selects : {wire : List ℕ} → selection_in (frame_of request) ≡ Some wire
      → Selects asks_all wire request old before heard new after
      → Hears lost asks_all request old before heard new after
  passes : selection_in (frame_of request) ≡ None
      → Takes asks_all request before.held old heard new → after ≡ record before { held = None }
      → (before.wire ≡ None) ⊎ (answer_of heard ≡ None)
      → Hears lost asks_all request old before heard new after
  is_judged : {between : B} {wire : List ℕ} {meter : Identity} {is_due is_so : Bool} (answer : List ℕ)
      → before.wire ≡ Some wire → answer_of answer ≡ Some meter
      → Takes asks_all request before.held old answer between
      → is_due ≡ could_be_in_step before.last meter answer
      → Confirms asks_all wire meter is_due between is_so new
      → heard ≡ (if is_so then answer else noise)
      → after ≡ record before {
        wire = None;
        held = None;
        last = if is_so then Some (record { meter = meter; telegram = answer }) else before.last;
      } → Hears lost asks_all request old before heard new after
