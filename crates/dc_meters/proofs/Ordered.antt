-- Readings and their orders, where one comes and where one goes.
use Rattle.std.proofs.Common.{◌≡◌, ℕ, ◌<◌, ◌^◌, Bool, List, [], ◌∷◌, ◌++◌, refl, ap, ◌∙◌, map}
use Rattle.std.specs.Prelude.{All, ◌&&◌, ◌||◌, not}
use Rattle.std.specs.List.Sorted.{IsStrictlySortedBy}
use Rattle.std.specs.Ordering.{nat_cmp}
use Rattle.std.proofs.lemmas.List.Elements.{All-nil, All-push, All-tail}
use Rattle.std.proofs.lemmas.Map.Keys.{sorted_tail}
use Rattle.dc_address.specs.declared.identity.Identity.{Identity}
use Rattle.dc_address.specs.Identity.{identity_cmp}
use Rattle.dc_units.specs.Date.{Day}
use Rattle.mbdc_change.specs.State.{ReadingRow}
use Rattle.dc_meters.specs.declared.filed.Filed.{Filed}
use Rattle.dc_meters.specs.Due.{day_cmp, due_days, has_value}
use Rattle.dc_meters.specs.Points.{points_of}
use Rattle.dc_meters.specs.Orders.{found, is_of, is_under_meter, is_under_days, IsUnfiled, AreOrdered}
use Rattle.dc_meters.proofs.Readings.{sorted_of_pushed}
use Rattle.dc_meters.proofs.FiledReadings.{filed_more, filed_less, none_yet}
use Rattle.dc_meters.proofs.FiledDays.{under_days}

pub ordered_nothing : AreOrdered [] [] []
unfolding IsStrictlySortedBy
ordered_nothing = record { ascend = tt; fit = All-nil (λ (r : ReadingRow). r.serial < 2 ^ 64); of_meters = λ q. refl; of_days = λ q. refl }

module _ (meters : List (Filed Identity)) (days : List (Filed Day)) (readings : List ReadingRow) (ordered : AreOrdered meters days readings) where
  -- a serial above all is filed under nothing
  pub unfiled_meter : (n : ℕ) → All (λ (r : ReadingRow). r.serial < n) readings → IsUnfiled identity_cmp n meters
  unfiled_meter n later q e = ordered.of_meters q ∙ none_yet is_of q n readings later e

  pub unfiled_day : (n : ℕ) → All (λ (r : ReadingRow). r.serial < n) readings → IsUnfiled day_cmp n days
  unfiled_day n later q e = ordered.of_days q ∙ none_yet has_value q n readings later e

  -- nothing was filed
  pub ordered_same : (new_meters : List (Filed Identity)) (new_days : List (Filed Day)) → ((q : Filed Identity) → found identity_cmp new_meters q ≡ found identity_cmp meters q) → ((q : Filed Day) → found day_cmp new_days q ≡ found day_cmp days q)
      → AreOrdered new_meters new_days readings
  ordered_same new_meters new_days same_meters same_days = record {
    ascend = ordered.ascend;
    fit = ordered.fit;
    of_meters = λ q. same_meters q ∙ ordered.of_meters q;
    of_days = λ q. same_days q ∙ ordered.of_days q;
  }

  pub ordered_more : (new_meters : List (Filed Identity)) (new_days : List (Filed Day)) (r : ReadingRow) (due : List Day) → All (λ (x : ReadingRow). x.serial < r.serial) readings → r.serial < 2 ^ 64 → due ≡ due_days (points_of r.parts)
      → ((q : Filed Identity) → found identity_cmp new_meters q ≡ (found identity_cmp meters q || is_under_meter r.meter r.serial q))
      → ((q : Filed Day) → found day_cmp new_days q ≡ (found day_cmp days q || is_under_days due r.serial q)) → AreOrdered new_meters new_days (readings ++ r ∷ [])
  ordered_more new_meters new_days r due later fit are meters_is days_is = record {
    ascend = sorted_of_pushed readings r ordered.ascend later;
    fit = All-push (λ (x : ReadingRow). x.serial < 2 ^ 64) readings r ordered.fit fit;
    of_meters = filed_more identity_cmp is_of meters new_meters readings r ordered.of_meters meters_is;
    of_days = filed_more day_cmp has_value days new_days readings r ordered.of_days (λ q. days_is q ∙ ap (λ (b : Bool). found day_cmp days q || b) (under_days r due q are));
  }

pub ordered_less : (meters new_meters : List (Filed Identity)) (days new_days : List (Filed Day)) (r : ReadingRow) (readings : List ReadingRow) (due : List Day) → AreOrdered meters days (r ∷ readings) → due ≡ due_days (points_of r.parts)
    → ((q : Filed Identity) → found identity_cmp new_meters q ≡ (found identity_cmp meters q && not (is_under_meter r.meter r.serial q)))
    → ((q : Filed Day) → found day_cmp new_days q ≡ (found day_cmp days q && not (is_under_days due r.serial q))) → AreOrdered new_meters new_days readings
ordered_less meters new_meters days new_days r readings due ordered are meters_is days_is = record {
  ascend = sorted_tail nat_cmp r.serial (map (λ (x : ReadingRow). x.serial) readings) ordered.ascend;
  fit = All-tail (λ (x : ReadingRow). x.serial < 2 ^ 64) r readings ordered.fit;
  of_meters = filed_less identity_cmp is_of meters new_meters r readings ordered.of_meters ordered.ascend meters_is;
  of_days = filed_less day_cmp has_value days new_days r readings ordered.of_days ordered.ascend (λ q. days_is q ∙ ap (λ (b : Bool). found day_cmp days q && not b) (under_days r due q are));
}
