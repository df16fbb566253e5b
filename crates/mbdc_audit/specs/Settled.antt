-- The values of a window once they are looked at beside each other, and what its parts say then (this product).
use Rattle.std.specs.Prelude.{◌≡◌, ◌≤◌, ◌↔◌, ◌&&◌, ℕ, true, All, List, Ok, Some, flat_map, length, map, slice_get, zip}
use Rattle.std.specs.List.{list_any}
use Rattle.mbdc_audit.specs.Consumption.Order.{IsInOrder}
use Rattle.mbdc_audit.specs.Amount.{entries, known, of_run}
use Rattle.mbdc_audit.specs.File.{bare_window}
use Rattle.mbdc_audit.specs.House.{Place, Run, Struck, Use, Window}
use Rattle.mbdc_audit.specs.Sound.{Falls, IfAnew, IsRead}
use Rattle.mbdc_audit.specs.View.{found_of, is_told_word, known_in, run_of, seen_value, source_of, window_of}
use Rattle.mbdc_audit.specs.Walk.{AreFound, AreGraded, IsOneValue, IsSmall, is_found, is_read, is_repeat}
use Rattle.mbdc_audit.specs.declared.house.Place as place_type
use Rattle.mbdc_audit.specs.declared.house.Value as value_type
use Rattle.mbdc_audit.specs.declared.house.Window as window_type
use Rattle.mbdc_audit.specs.declared.uses.Counted.{Counted}

-- A VALUE BESIDE OTHERS: it is found where a counter that is to have begun anew did, and is known as a repeat of earlier telegrams
abbrev pub IsSettled : List value_type.Value → value_type.Value → value_type.Value → Type 0
IsSettled values v w = (w ≡ record v { found = w.found; is_again = w.is_again })
    × ((n : ℕ) → (w.found ≡ Ok n) ↔ ((v.found ≡ Ok n) × IfAnew (source_of v) (Falls (flat_map found_of values) (seen_value v))))
    × (w.is_again ≡ (is_read v.word && (is_found v.found && list_any (is_repeat v) values)))

abbrev pub AreSettled : List value_type.Value → List value_type.Value → Type 0
AreSettled old new = (length new ≡ length old) × All (λ p. IsSettled old p.0 p.1) (zip old new)

-- nothing is wrong with a value
abbrev pub IsTold : List Run → List value_type.Value → List Struck → value_type.Value → Type 0
IsTold runs values struck v = IsSmall (of_run (λ r. r.size) runs v.run) v × (is_told_word v.word ≡ true → IsOneValue values struck v)

-- all values of a window are found, and are those that definitions know
abbrev pub AreKnown : {A : Type 0} → window_type.Window A → Type 0
AreKnown w = AreFound w.values.items × (known_in w.values.items ≡ known (window_of w).values)

-- parts that have a time say what their place consumed, where its values are in order
abbrev pub AreCounted : {A : Type 0} → List Run → window_type.Window A → Type 0
AreCounted runs w = IsInOrder (entries runs (known_in w.values.items)) → All (λ x. x.from ≤ x.to) w.parts.items
    → AreGraded runs (known_in w.values.items) w.parts.items

-- the values of a place have evidence, where these are a house's uses
abbrev pub IsReadBy : List Use → Place → Type 0
IsReadBy uses p = (u : Use) × (slice_get uses p.used ≡ Some u) × All (IsRead p.runs u.counts) p.windows

-- A WINDOW HAS THE AMOUNTS that its lines have evidence of, and no others
abbrev pub IsOnly : {A : Type 0} → List Run → Counted → window_type.Window A → Type 0
IsOnly runs q x = (w : Window) → bare_window w ≡ bare_window (window_of x) → IsRead runs q w → w ≡ window_of x

-- the windows of a place, where these are a house's uses
abbrev pub AreOnly : {A : Type 0} → List Use → place_type.Place A → Type 0
AreOnly uses p = (u : Use) → slice_get uses p.used ≡ Some u → All (IsOnly (map run_of p.runs.items) u.counts) p.windows.items
