-- A meter that is confirmed is there, and none hides behind it.
use Rattle.std.proofs.Common.{◌≡◌, ◌≢◌, ◌⊎◌, inl, inr, ◌<◌, ◌≤◌, ℕ, zero, suc, ◌+◌, Bool, true, false, ◌&&◌, List, [], length, refl, sym, ◌∙◌, ap, subst, arith}
use Rattle.std.proofs.lemmas.Bool.{eqb-true}
use Rattle.std.proofs.lemmas.List.{nil_from_length}
use Rattle.std.specs.Prelude.{Contains, slice_index}
use Rattle.dc_address.specs.Mask.{MaskParts, are_sent, mask_at, mask_of, matches, with_digit}
use Rattle.dc_address.specs.Text.{text_of}
use Rattle.dc_address.specs.declared.identity.Identity.{Identity}
use Rattle.dc_linkframe.specs.Reading.{frame_of}
use Rattle.dc_readout.specs.Misses.{is_silent}
use Rattle.mbdc_bus.specs.Windows.{Insists}
use Rattle.mbdc_installer.specs.Confirming.{AsksDigit, AsksDigits, AsksHidden, AsksPlace, AsksPlaces, Confirms, HasMeters, IsKnown, can_hide, is_open, selection_of}
use Rattle.mbdc_installer.specs.Number.{digit_of}
use Rattle.mbdc_installer.specs.Scan.{is_ack}

never : {X : Type 0} (b : Bool) → b ≡ true → b ≡ false → X
never true so not_so = absurd (cc not_so)
never false so not_so = absurd (cc so)

by_either : {P Q X : Type 0} → P ⊎ Q → (P → X) → (Q → X) → X
by_either (inl p) left right = left p
by_either (inr q) left right = right q

silent : (answer : List ℕ) → is_silent answer ≡ true → answer ≡ []
silent answer e = nil_from_length answer (eqb-true (length answer) 0 e)

this_or_later : (d v : ℕ) → d ≤ v → (v ≡ d) ⊎ (d + 1 ≤ v)
this_or_later zero zero le = inl refl
this_or_later zero (suc v) le = inr (omega arith)
this_or_later (suc d) zero le = absurd (omega (arith, le))
this_or_later (suc d) (suc v) le = go (this_or_later d v (omega (arith, le))) where
  go : (v ≡ d) ⊎ (d + 1 ≤ v) → (suc v ≡ suc d) ⊎ (suc d + 1 ≤ suc v)
  go (inl is) = inl (ap suc is)
  go (inr later) = inr (omega (arith, later))

module _ {B : Type 0} (asks_all : B → List ℕ → List ℕ → B → Type 0) (meters : List Identity) (line : HasMeters asks_all meters) where
  unmatched : (b : Bool) (answer : List ℕ) → (b ≡ true → answer ≢ []) → answer ≡ [] → b ≡ false
  unmatched true answer heard none = absurd (heard refl none)
  unmatched false answer heard none = refl

  at_digit : (mask : MaskParts) (place own digit : ℕ) {old new : B} {nobody : Bool} → AsksDigit asks_all mask place own digit old nobody new → nobody ≡ true
      → can_hide own digit ≡ true → (m : Identity) → Contains meters m → matches (with_digit mask place digit) m ≡ false
  at_digit mask place own digit (AsksDigit.is_harmless not is same) free can m there = never (can_hide own digit) can not
  at_digit mask place own digit {old} {new} (AsksDigit.is_selected answer hides asked is) free can m there =
      unmatched (matches (with_digit mask place digit) m) answer (line.each old new (with_digit mask place digit) answer asked m there) (silent answer (sym is ∙ free))

  at_digits : (mask : MaskParts) (place own : ℕ) {digit : ℕ} {old new : B} {nobody : Bool} → AsksDigits asks_all mask place own digit old nobody new → nobody ≡ true
      → (v : ℕ) → digit ≤ v → v < 10 → can_hide own v ≡ true → (m : Identity) → Contains meters m → matches (with_digit mask place v) m ≡ false
  at_digits mask place own (AsksDigits.are_over is free same) nobody v from below can m there = absurd (omega (arith, is, from, below))
  at_digits mask place own {digit} (AsksDigits.go_on first free more) nobody v from below can m there =
      by_either (this_or_later digit v from)
      (λ is. subst (λ (d : ℕ). can_hide own d ≡ true → matches (with_digit mask place d) m ≡ false) (sym is) (λ hides. at_digit mask place own digit first free hides m there) can)
      (λ later. at_digits mask place own more nobody v later below can m there)
  at_digits mask place own {digit} {old} {new} {nobody} (AsksDigits.have_somebody first not_so) so v from below can m there = never nobody so not_so

  at_place : (wire : List ℕ) (mask : MaskParts) (text : List ℕ) (place : ℕ) {old new : B} {nobody : Bool} → AsksPlace asks_all wire mask text place old nobody new → nobody ≡ true
      → is_open wire place ≡ true → (v : ℕ) → v < 10 → can_hide (digit_of (slice_index text place)) v ≡ true → (m : Identity) → Contains meters m → matches (with_digit mask place v) m ≡ false
  at_place wire mask text place (AsksPlace.is_fixed closed free same) nobody opens v below can m there = never (is_open wire place) opens closed
  at_place wire mask text place (AsksPlace.is_asked is digits) nobody opens v below can m there =
      at_digits mask place (digit_of (slice_index text place)) digits nobody v (omega arith) below can m there

  at_places : (wire : List ℕ) (mask : MaskParts) (text : List ℕ) {place : ℕ} {old new : B} {nobody : Bool} → AsksPlaces asks_all wire mask text place old nobody new → nobody ≡ true
      → (p v : ℕ) → place ≤ p → p < 8 → is_open wire p ≡ true → v < 10 → can_hide (digit_of (slice_index text p)) v ≡ true
      → (m : Identity) → Contains meters m → matches (with_digit mask p v) m ≡ false
  at_places wire mask text (AsksPlaces.are_over is free same) nobody p v from in_number opens below can m there = absurd (omega (arith, is, from, in_number))
  at_places wire mask text {place} (AsksPlaces.go_on first free more) nobody p v from in_number opens below can m there =
      by_either (this_or_later place p from)
      (λ is. subst (λ (q : ℕ). is_open wire q ≡ true → can_hide (digit_of (slice_index text q)) v ≡ true → matches (with_digit mask q v) m ≡ false) (sym is)
      (λ is_so hides. at_place wire mask text place first free is_so v below hides m there) opens can)
      (λ later. at_places wire mask text more nobody p v later in_number opens below can m there)
  at_places wire mask text {place} {old} {new} {nobody} (AsksPlaces.have_somebody first not_so) so p v from in_number opens below can m there = never nobody so not_so

  acknowledged : (meter : Identity) {most : ℕ} {old new : B} {answer : List ℕ} → Insists asks_all (selection_of meter) most old answer new
      → is_ack (frame_of answer) ≡ true → (m : Identity) × Contains meters m × (matches (mask_of meter) m ≡ true)
  acknowledged meter {most} {old} {new} (Insists.hears answer why asked) ack = line.one old new (mask_of meter) answer asked ack
  acknowledged meter (Insists.repeats some asked more) ack = acknowledged meter more ack

  none_hidden : (wire : List ℕ) (meter : Identity) (is_due : Bool) {old new : B} {nobody : Bool} → AsksHidden asks_all wire meter is_due old nobody new → nobody ≡ true
      → (is_due && are_sent wire ≡ true) → (place digit : ℕ) → place < 8 → is_open wire place ≡ true → digit < 10
      → can_hide (digit_of (slice_index (text_of meter) place)) digit ≡ true → (m : Identity) → Contains meters m → matches (with_digit (mask_at wire) place digit) m ≡ false
  none_hidden wire meter is_due (AsksHidden.is_undue not free same) nobody due place digit in_number opens below can m there = never (is_due && are_sent wire) due not
  none_hidden wire meter is_due (AsksHidden.is_asked due places) nobody also place digit in_number opens below can m there =
      at_places wire (mask_at wire) (text_of meter) places nobody place digit (omega arith) in_number opens below can m there

  pub known : (wire : List ℕ) (meter : Identity) (is_due : Bool) {old new : B} {is_so : Bool} → Confirms asks_all wire meter is_due old is_so new → is_so ≡ true
      → IsKnown meters wire meter is_due
  known wire meter is_due {old} {new} {is_so} (Confirms.has_hidden hidden not_so) so = never is_so so not_so
  known wire meter is_due (Confirms.is_selected answer hidden free insisted is) so = record {
    there = acknowledged meter insisted (sym is ∙ so);
    alone = none_hidden wire meter is_due hidden free;
  }
