-- The laws of specs/Laws.
use Rattle.std.proofs.Common.{◌≡◌, ℕ, ◌+◌, ◌-◌, ◌*◌, ◌/◌, ◌≤◌, Bool, true, false, Option, Some, None, arith, sym, ap, if◌then◌else◌}
use Rattle.std.proofs.Math.Nat.{div-mul-le_self}
use Rattle.std.proofs.lemmas.Bool.Decides.{nat_tests}
use Rattle.mbdc_change.specs.Size.{size_of}
use Rattle.mbdc_shown.specs.Room.{bytes_a_reading}
use Rattle.mbdc_json.specs.Status.{bytes_a_day, first_moment}
use Rattle.mbdc_json.specs.Laws.{DaysLast, RoomIsEnough, SilenceLasts, SilentWasNotHeard}

left_is : (none : Bool) (n left : ℕ) → ◌≡◌ {A = Option ℕ} (if none then None else Some n) (Some left) → left ≡ n
left_is true n left e = absurd cc
left_is false n left e = let same : n ≡ left = cc in sym same

fits : (budget size each n : ℕ) → size ≤ budget → n ≡ (budget - size) / each → size + n * each ≤ budget
fits budget size each n within is =
    let most = div-mul-le_self (budget - size) each in
    let same : n * each ≡ (budget - size) / each * each = ap (λ (k : ℕ). k * each) is in
    omega (arith, most, same)

pub room : RoomIsEnough
room budget readings s within is = fits budget (size_of s) (bytes_a_reading s) readings within (left_is _ _ readings is)

pub lasting : DaysLast
lasting budget now count s within is = fits budget (size_of s) (bytes_a_day now s (first_moment s)) count within (left_is _ _ count is)

pub silent : SilentWasNotHeard
silent patience now confirmed moment failing is = grind (arith, nat_tests)

pub lasts : SilenceLasts
lasts patience now later confirmed None None le is = is
lasts patience now later confirmed (Some since) None le is = grind (arith, nat_tests)
lasts patience now later confirmed failing (Some moment) le is = grind (arith, nat_tests)
