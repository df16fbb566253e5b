-- Events that a teller took, one after the other.
use Rattle.std.proofs.Common.{◌≡◌, ◌⊎◌, inl, inr, true, false, List, [], ◌∷◌, refl, ap, sym, subst, ◌∙◌}
use Rattle.mbdc_io.specs.Stream.{Puts}
use Rattle.mbdc_io.specs.declared.stream.Sink.{Ghosts as SinkGhosts}
use Rattle.mbdc_io.proofs.Pieces.{puts-both, puts-none}
use Rattle.mbdc_poll.specs.Telling.{TakesAll}
use Rattle.mbdc_poll.specs.declared.event.Event.{Event}
use Rattle.mbdc_poll.specs.declared.teller.Teller.{Ghosts}
use Rattle.mbdc_poll.specs.Printed.{ArePrinted, AreTakenUpToAFailure, IsCutShort, event_as, events_as}
use Rattle.mbdc_poll.specs.Unfailing.{GoesOn}
use Rattle.mbdc_poll.specs.declared.events.printer.Form.{Form}
use Rattle.mbdc_poll.specs.declared.events.printer.Printer.{Printer}
use Rattle.mbdc_poll.specs.declared.events.unfailing.Unfailing.{Unfailing}

module _ {W : Type 0} (g : SinkGhosts W) where
  pub are_printed : ArePrinted g
  are_printed old new [] same = subst (λ (t : Printer W). Puts (g.written old.out) (g.written t.out) []) (sym same) (puts-none (g.written old.out))
  are_printed old new (event ∷ more) (next, took, rest) =
      puts-both (g.written old.out) (g.written next.out) (g.written new.out) (event_as old.form event) (events_as old.form more) took.puts
      (subst (λ (f : Form). Puts (g.written next.out) (g.written new.out) (events_as f more)) took.form (are_printed next new more rest))

module _ {N : Type 0} (g : Ghosts N) where
  -- once it has failed, it gets nothing more
  none_more : (old new : Unfailing N) (events : List Event) → TakesAll (GoesOn g) old new events → old.has_failed ≡ true → new ≡ old
  none_more old new [] same failed = same
  none_more old new (event ∷ more) (next, inl on, rest) failed = absurd (let no : true ≡ false = sym failed ∙ on.was_well in cc)
  none_more old new (event ∷ more) (next, inr (inl first), rest) failed = absurd (let no : true ≡ false = sym failed ∙ first.was_well in cc)
  none_more old new (event ∷ more) (next, inr (inr dropped), rest) failed =
      none_more next new more rest (ap (λ (u : Unfailing N). u.has_failed) dropped.same ∙ failed) ∙ dropped.same

  -- the first event was taken
  and_more : (old between new : N) (event : Event) (more : List Event) → g.takes old event between → IsCutShort g between new more → IsCutShort g old new (event ∷ more)
  and_more old between new event more took cut = record {
    front = event ∷ cut.front;
    event = cut.event;
    rest = cut.rest;
    parts = ap (λ (es : List Event). event ∷ es) cut.parts;
    between = cut.between;
    takes = (between, took, cut.takes);
    breaks = cut.breaks;
  }

  -- the first event failed
  at_once : (old new : N) (event : Event) (more : List Event) → g.breaks old event new → IsCutShort g old new (event ∷ more)
  at_once old new event more broke = record { front = []; event = event; rest = more; parts = refl; between = old; takes = refl; breaks = broke }

  abbrev UpToAFailure : Unfailing N → Unfailing N → List Event → Type 0
  UpToAFailure old new events = ((new.has_failed ≡ false) × TakesAll g.takes old.teller new.teller events) ⊎ ((new.has_failed ≡ true) × IsCutShort g old.teller new.teller events)

  on_from : (old next new : Unfailing N) (event : Event) (more : List Event) → g.takes old.teller event next.teller → UpToAFailure next new more → UpToAFailure old new (event ∷ more)
  on_from old next new event more took (inl (well, all)) = inl (well, (next.teller, took, all))
  on_from old next new event more took (inr (failed, cut)) = inr (failed, and_more old.teller next.teller new.teller event more took cut)

  pub up_to_a_failure : AreTakenUpToAFailure g
  up_to_a_failure old new [] same well = inl (ap (λ (u : Unfailing N). u.has_failed) same ∙ well, ap (λ (u : Unfailing N). u.teller) same)
  up_to_a_failure old new (event ∷ more) (next, inl on, rest) well = on_from old next new event more on.takes (up_to_a_failure next new more rest on.is_well)
  up_to_a_failure old new (event ∷ more) (next, inr (inl first), rest) well =
      let same : new ≡ next = none_more next new more rest first.failed in
      inr (ap (λ (u : Unfailing N). u.has_failed) same ∙ first.failed, subst (λ (u : Unfailing N). IsCutShort g old.teller u.teller (event ∷ more)) (sym same) (at_once old.teller next.teller event more first.breaks))
  up_to_a_failure old new (event ∷ more) (next, inr (inr dropped), rest) well = absurd (let no : true ≡ false = sym dropped.had_failed ∙ well in cc)
