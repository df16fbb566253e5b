-- For the crates above: images that stand for the state after a prefix of some changes.
use Rattle.std.proofs.Common.{⊎_elim, ◌+◌, ℕ, List, ◌++◌, length, take, ap, sym, subst, ◌∙◌, arith, length-append}
use Rattle.std.proofs.lemmas.List.{take-append-le, take_all}
use Rattle.std.proofs.Math.Seq.{take-append-add}
use Rattle.dc_sectors.specs.Disk.{Image, Choices, IsImage}
use Rattle.mbdc_log.specs.Stands.{Stands, EachStands, StandsForEither, StandsForFront}
use Rattle.mbdc_io.specs.declared.kept.kept.Language.{Ghosts as Language}

module _ {K : Type 0} (lang : Language K) where
  -- before or after all of the changes
  pub either_is_front : (half_len : ℕ) (state : lang.State) (changes : List lang.Change) (image : Image) → StandsForEither lang half_len state (lang.after state changes) image → StandsForFront lang half_len state changes image
  either_is_front half_len state changes image either = ⊎_elim
      (λ before. record { count = 0; within = omega arith; stands = subst (λ (s : lang.State). Stands lang half_len s image) (sym (lang.after_none state)) before })
      (λ done. record { count = length changes; within = omega arith; stands = subst (λ (l : List lang.Change). Stands lang half_len (lang.after state l) image) (sym (take_all (length changes) changes (omega arith))) done })
      either

  -- a prefix of a list is one of a longer list
  pub longer_front : (half_len : ℕ) (state : lang.State) (changes more : List lang.Change) (image : Image) → StandsForFront lang half_len state changes image → StandsForFront lang half_len state (changes ++ more) image
  longer_front half_len state changes more image front =
      let within = front.within in
      record {
        count = front.count;
        within = omega (arith, within, length-append changes more);
        stands = subst (λ (l : List lang.Change). Stands lang half_len (lang.after state l) image) (sym (take-append-le front.count changes more front.within)) front.stands;
      }

  -- a prefix of what comes after some changes is one of all
  pub front_behind : (half_len : ℕ) (state : lang.State) (done more : List lang.Change) (image : Image) → StandsForFront lang half_len (lang.after state done) more image → StandsForFront lang half_len state (done ++ more) image
  front_behind half_len state done more image front =
      let within = front.within in
      record {
        count = length done + front.count;
        within = omega (arith, within, length-append done more);
        stands = subst (λ (s : lang.State). Stands lang half_len s image)
            (sym (lang.after_append state done (take front.count more)) ∙ ap (lang.after state) (sym (take-append-add done more front.count))) front.stands;
      }

  -- such images may each be opened
  pub fronts_each_stand : (half_len : ℕ) (choices : Choices) (state : lang.State) (changes : List lang.Change) → ((image : Image) → IsImage choices image → StandsForFront lang half_len state changes image) → EachStands lang half_len choices
  fronts_each_stand half_len choices state changes fronts image is = let front = fronts image is in (lang.after state (take front.count changes), front.stands)
