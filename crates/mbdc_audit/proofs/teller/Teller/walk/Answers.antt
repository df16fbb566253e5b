use Rattle.std.proofs.Common.{◌≡◌, ◌∙◌, ◌<◌, All, inl, inr, IsTrue, false, get_or, length, refl, subst, sym, true}
use Rattle.std.proofs.lemmas.Bool.{true≢false}
use Rattle.mbdc_io.specs.Lines.{lines_of}
use Rattle.mbdc_audit.specs.View.{house_of}
use Rattle.mbdc_audit.specs.File.{AsksNothing, all_numbers, all_opened}
use Rattle.mbdc_audit.specs.House.{House}
use Rattle.mbdc_audit.specs.Published.{IsNumber, IsNumberOf}
use Rattle.mbdc_audit.specs.Sound.{IsHouse}
use Rattle.mbdc_audit.specs.Walk.{IsQuiet, is_clean}
use Rattle.mbdc_audit.proofs.GradedParts.{found_all, graded_all}
use Rattle.mbdc_audit.proofs.Nested.{flat, given}
use Rattle.mbdc_audit.proofs.OneHouse.{bare_one}
use Rattle.mbdc_audit.proofs.OneReading.{house_is}
use Rattle.mbdc_audit.proofs.Same.{same_asked, same_asked_of, same_built, same_quiet, same_steps}
use Rattle.mbdc_audit.proofs.Same.{same_within}
use Rattle.mbdc_audit.proofs.teller.Teller.walk.Goals.{then-is_read, else-is_read, then-is_sound, else-is_sound}
use Rattle.mbdc_audit.proofs.teller.Teller.walk.Goals as goal

pub returns : goal.returns
returns g c = record {
  right = λ asks input audited holds.
      let all : (c.is_clean-is_read.result ≡ true) × (c.is_clean-is_sound.result ≡ true)
      × IsTrue (is_clean c.check_numbers.new.self.counts) = elim c.if-is_sound.branch [
        | then-is_sound w ↦ (
          w.if-is_sound.true.0,
          w.if-is_sound.true.1,
          sym w.is_clean.ensures ∙ (sym w.result-is ∙ holds),
        )
        | else-is_sound w ↦ elim c.if-is_read.branch [
          | then-is_read u ↦ elim w.if-is_sound.either [
            | inl x ↦ absurd (true≢false (sym holds ∙ (w.result-is ∙ (u.t-118-is ∙ x.1))))
            | inr x ↦ absurd (true≢false (sym u.if-is_read.true ∙ x))
          ]
          | else-is_read u ↦ absurd (true≢false (sym holds ∙ (w.result-is ∙ (u.t-118-is ∙ u.if-is_read.false))))
        ]
      ] in
      let read : IsTrue (is_clean c.read_values.new.self.counts) = sym c.is_clean-is_read.ensures ∙ all.0 in
      let sound : IsTrue (is_clean c.check_house.new.self.counts) = sym c.is_clean-is_sound.ensures ∙ all.1 in
      let numbers : IsTrue (is_clean c.check_numbers.new.self.counts) = all.2 in
      let values = c.in_ok-read_values.ensures in
      let old = house_of c.args.house.now in
      let h = house_of c.read_values.new.house in
      let same = sym values.kept in
      let house = ((c.in_ok-check_house.ensures (same_built old h same audited.read.built) (values.found.0 read).1
      (found_all c.read_values.new.house.places.items (values.values read))).0 sound).1 in
      let grades = graded_all h c.read_values.new.house.places.items house.0.places (values.values read) values.parts in
      let may_of = same_asked_of old h same audited.read.of_places in
      let may = same_asked old h same audited.read.of_house in
      let quiet : asks ≡ false → IsQuiet h = λ may. same_quiet old h same (audited.quiet may) in
      let are = ((c.in_ok-check_numbers.ensures.right house.0 grades may_of may).0 numbers).1 in
      record {
        house = h;
        spelled = same_steps (lines_of input) old h same audited.read.spells.steps;
        plain = audited.read.spells.plain;
        within = same_within old h same audited.read.within;
        sound = house.0;
        of_places = λ k d lt. given asks (IsNumberOf h (get_or (all_opened h) k d)) (get_or (all_opened h) k d).window.numbers
            (λ may. flat h (λ o. All AsksNothing o.window.numbers) (quiet may).of_places k d lt) (are.0 k d lt);
        of_house = given asks (IsNumber h) h.numbers (λ may. (quiet may).of_house) are.1;
        asked = house.1;
      };
  all = λ input audited right.
      let values = c.in_ok-read_values.ensures in
      let old = house_of c.args.house.now in
      let h = house_of c.read_values.new.house in
      let same = sym values.kept in
      let is : right.house ≡ h = house_is c.read_values.new.house.places.items h right.house refl
      (bare_one (lines_of input) right.house old right.spelled audited.read.spells.steps ∙ same) values.only right.sound.read in
      let house : IsHouse h = subst IsHouse is right.sound in
      let read : IsTrue (is_clean c.read_values.new.self.counts) = values.found.1 (audited.clean, house.read) in
      let asked : 0 < length (all_numbers h) = subst (λ (g : House). 0 < length (all_numbers g)) is right.asked in
      let sound : IsTrue (is_clean c.check_house.new.self.counts) =
      (c.in_ok-check_house.ensures (same_built old h same audited.read.built) house.read
      (found_all c.read_values.new.house.places.items (values.values read))).1 (read, (house, asked)) in
      let grades = graded_all h c.read_values.new.house.places.items house.places (values.values read) values.parts in
      let may_of = same_asked_of old h same audited.read.of_places in
      let may = same_asked old h same audited.read.of_house in
      let quiet : IsQuiet h = same_quiet old h same (audited.quiet refl) in
      let of_places : All (λ o. All (IsNumberOf h o) o.window.numbers) (all_opened h) =
      subst (λ (g : House). All (λ o. All (IsNumberOf g o) o.window.numbers) (all_opened g)) is right.of_places in
      let of_house : All (IsNumber h) h.numbers = subst (λ (g : House). All (IsNumber g) g.numbers) is right.of_house in
      let numbers : IsTrue (is_clean c.check_numbers.new.self.counts) =
      (c.in_ok-check_numbers.ensures.right house grades may_of may).1 quiet
      (sound, (λ k d lt j e lt' none. of_places k d lt j e lt', λ k d lt none. of_house k d lt)) in
      elim c.if-is_sound.branch [
        | then-is_sound w ↦ w.result-is ∙ (w.is_clean.ensures ∙ numbers)
        | else-is_sound w ↦ elim c.if-is_read.branch [
          | then-is_read u ↦ elim w.if-is_sound.either [
            | inl x ↦ absurd (true≢false (sym (c.is_clean-is_sound.ensures ∙ sound) ∙ x.1))
            | inr x ↦ absurd (true≢false (sym u.if-is_read.true ∙ x))
          ]
          | else-is_read u ↦ absurd (true≢false (sym (c.is_clean-is_read.ensures ∙ read) ∙ u.if-is_read.false))
        ]
      ];
}
