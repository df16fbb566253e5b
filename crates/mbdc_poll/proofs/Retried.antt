-- Where nobody is busy, nothing is dropped.
use Rattle.std.proofs.Common.{◌≡◌, ℕ, Bool, true, false, ◌&&◌, List, [], ◌∷◌, refl, sym, subst, ◌∙◌, if◌then◌else◌}
use Rattle.std.specs.Prelude.{nat_lt}
use Rattle.std.specs.Bool.{⊤}
use Rattle.dc_core.specs.declared.line_heard.LineHeard.{LineHeard}
use Rattle.dc_core.specs.declared.line_heard.LineHeard.TheVariants.{Again}
use Rattle.dc_linkframe.specs.Reading.{frame_of}
use Rattle.mbdc_poll.specs.Bus.{Bus}
use Rattle.mbdc_poll.specs.Filtered.{Gives, Sends, filtered_over, goes_out, of_bus}
use Rattle.mbdc_poll.specs.Retrying.{DropsNothing, Hears, IsAskedAgain, answer_by, busy_frame, dropped_by, giving, is_busy, most_dropped, retrying, scripted_bus, tried}
use Rattle.mbdc_poll.proofs.Through.{Passes, lets_through}
use Rattle.mbdc_poll.specs.Talking.{Talks, rests, sends_it, takes_it, hears_it}
use Rattle.mbdc_poll.specs.declared.filtered.Filtered.{Filtered}
use Rattle.mbdc_poll.specs.declared.phase.Request.TheVariants.{Quiet}
use Rattle.mbdc_poll.specs.declared.retrying.Retrying.{Retrying}

not_both : (a b : Bool) → b ≡ false → (a && b) ≡ false
not_both true b e = e
not_both false b e = refl

kept : (dropped : ℕ) (given : List ℕ) → is_busy (frame_of given) ≡ false → answer_by dropped given ≡ given
kept dropped given free =
    subst (λ (b : Bool). (if b then [] else given) ≡ given) (sym (not_both (nat_lt dropped most_dropped) (is_busy (frame_of given)) free)) refl

passes : Passes retrying (λ r. ⊤) (λ r given. is_busy (frame_of given) ≡ false)
passes = record {
  asks = λ old request out new clear asks. (asks.0, tt);
  hears = λ old given answer new clear free heard. (heard.is_answer ∙ kept old.dropped given free, tt);
}

pub drops_nothing : {B : Type 0} (g : Bus B) → DropsNothing g
drops_nothing g = lets_through g retrying (λ r. ⊤) (λ r given. is_busy (frame_of given) ≡ false) passes

-- ---- a meter is asked again

module _ (request third : List ℕ) (answer : LineHeard) where
  abbrev at_bus : List (List ℕ) → ℕ → Filtered (List (List ℕ)) Retrying
  at_bus answers dropped = record { bus = answers; filter = record { dropped = dropped }; withholds = false }

  abbrev first : Filtered (List (List ℕ)) Retrying
  first = at_bus (busy_frame ∷ busy_frame ∷ third ∷ []) 0

  abbrev second : Filtered (List (List ℕ)) Retrying
  second = at_bus (busy_frame ∷ third ∷ []) 1

  abbrev before_third : Filtered (List (List ℕ)) Retrying
  before_third = at_bus (third ∷ []) 2

  abbrev last : Filtered (List (List ℕ)) Retrying
  last = at_bus [] (dropped_by 2 third)

  is_busy_frame : is_busy (frame_of busy_frame) ≡ true
  unfolding frame_of
  is_busy_frame = refl

  sends : (bus : Filtered (List (List ℕ)) Retrying) → bus.withholds ≡ false → Sends scripted_bus retrying bus request bus
  sends bus goes = goes_out request refl (refl, refl) refl goes

  hears_first : Hears first.filter busy_frame [] second.filter
  unfolding frame_of
  hears_first = record { is_answer = refl; counts = refl }

  hears_second : Hears second.filter busy_frame [] before_third.filter
  unfolding frame_of
  hears_second = record { is_answer = refl; counts = refl }

  hears_third : Hears before_third.filter third third last.filter
  hears_third = record { is_answer = refl; counts = refl }

  gives_first : Gives scripted_bus retrying first [] second
  gives_first = of_bus busy_frame refl refl refl hears_first refl

  gives_second : Gives scripted_bus retrying second [] before_third
  gives_second = of_bus busy_frame refl refl refl hears_second refl

  gives_third : Gives scripted_bus retrying before_third third last
  gives_third = of_bus third refl refl refl hears_third refl

  talk : Talks (filtered_over scripted_bus retrying) 1 (giving first.bus) (tried request [] Again (tried request [] Again (tried request third answer []))) (record { bus = last; request = Quiet; said = false })
  talk = sends_it {next = first} (sends first refl) (takes_it {next = second} gives_first (hears_it (sends_it {next = second} (sends second refl) (takes_it {next = before_third} gives_second (hears_it (sends_it {next = before_third} (sends before_third refl) (takes_it {next = last} gives_third (hears_it rests))))))))

  pub is_asked_again : IsAskedAgain request third answer
  is_asked_again = record { last = record { bus = last; request = Quiet; said = false }; busy = is_busy_frame; talk = talk }
