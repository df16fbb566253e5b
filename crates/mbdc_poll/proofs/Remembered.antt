-- Where no telegram comes twice and no checksum is wrong, nothing is dropped; and what is dropped is heard when it comes again.
use Rattle.std.proofs.Common.{◌≡◌, ℕ, Bool, true, false, ◌&&◌, ◌||◌, List, [], ◌∷◌, refl, sym, subst, ◌∙◌, if◌then◌else◌}
use Rattle.std.specs.Prelude.{◌≢◌, Some, bytes_eq, is_some, nat_lt, not, take}
use Rattle.dc_core.specs.declared.line_heard.LineHeard.{LineHeard}
use Rattle.dc_core.specs.declared.line_heard.LineHeard.TheVariants.{Again}
use Rattle.dc_linkframe.specs.Fault.{fault_of}
use Rattle.dc_linkframe.specs.Reading.{frame_of}
use Rattle.dc_linkframe.specs.declared.fault.FrameFault.TheVariants.{Checksum}
use Rattle.mbdc_poll.proofs.Confirmed.{agree_self, bytes_self, is_one as is_telegram_in, stays}
use Rattle.mbdc_poll.proofs.Through.{Passes, lets_through}
use Rattle.mbdc_poll.specs.Bus.{Bus}
use Rattle.mbdc_poll.specs.Confirming.{agree, clear_by, is_unconfirmed, most_clear, telegram_in}
use Rattle.mbdc_poll.specs.Filtered.{Gives, Sends, filtered_over, goes_out, of_bus}
use Rattle.mbdc_poll.specs.Remembering.{DropsNothing, Hears, IsDropped, IsTakenTwice, answer_by, asked_by, giving, has, is_copy, is_repeat, is_telegram, most_before, noted_by, remembering, request_by, telegram}
use Rattle.mbdc_poll.specs.Retrying.{scripted_bus, tried}
use Rattle.mbdc_poll.specs.Talking.{Talk, Talks, rests, sends_it, takes_it, hears_it}
use Rattle.mbdc_poll.specs.declared.filtered.Filtered.{Filtered}
use Rattle.mbdc_poll.specs.declared.phase.Request.TheVariants.{Quiet}
use Rattle.mbdc_poll.specs.declared.remembering.Remembering.{Remembering}

not_copy : (repeated any : Bool) → any ≡ false → (if repeated then false else any) ≡ false
not_copy true any e = refl
not_copy false any e = e

not_dropped : (b copy any : Bool) (clear : ℕ) (given : List ℕ) → (b ≡ true → copy ≡ false) → clear ≡ most_clear → (if b && (copy || (nat_lt clear most_clear && any)) then [] else given) ≡ given
not_dropped true copy any clear given e c =
    subst (λ (few : ℕ). (if copy || (nat_lt few most_clear && any) then [] else given) ≡ given) (sym c)
    (subst (λ (b : Bool). (if b || (nat_lt most_clear most_clear && any) then [] else given) ≡ given) (sym (e refl)) refl)
not_dropped false copy any clear given e c = refl

abbrev IsClear : Remembering → Type 0
IsClear old = old.clear ≡ most_clear

-- it isn't among the remembered ones, and has no wrong checksum
abbrev IsNew : Remembering → List ℕ → Type 0
IsNew old given = (is_telegram (frame_of given) ≡ true → has old.telegrams.items given ≡ false) × (fault_of given ≢ Some Checksum)

still_clear : (b : Bool) (request : List ℕ) (old : Remembering) → IsClear old → IsClear (if b then old else record old { request = request; is_answered = false })
still_clear true request old clear = clear
still_clear false request old clear = clear

passes : Passes remembering IsClear IsNew
passes = record {
  asks = λ old request out new clear asks. (
    asks.0,
    subst IsClear (sym asks.1) (still_clear (bytes_eq old.request request) request old clear),
  );
  hears = λ old given answer new clear is_new heard. (
    heard.0
        ∙ not_dropped (is_telegram (frame_of given)) (is_copy old.is_answered old.telegrams.items given) (is_unconfirmed old.telegrams.items given) old.clear given
        (λ e. not_copy (is_repeat old.is_answered old.telegrams.items given) (has old.telegrams.items given) (is_new.0 e)) clear,
    subst IsClear (sym heard.1) (stays old.clear (fault_of given) clear is_new.1),
  );
}

pub drops_nothing : {B : Type 0} (g : Bus B) → DropsNothing g
drops_nothing g = lets_through g remembering IsClear IsNew passes

-- ---- a copy is dropped

module _ (byte : ℕ) (answer : LineHeard) where
  abbrev holds : List (List ℕ) → List ℕ → Bool → List (List ℕ) → Filtered (List (List ℕ)) Remembering
  holds answers request answered telegrams = record {
    bus = answers;
    filter = record { request = request; is_answered = answered; clear = most_clear; telegrams = record { items = telegrams } };
    withholds = false;
  }

  abbrev at_first : Filtered (List (List ℕ)) Remembering
  at_first = holds (telegram 1 ∷ telegram 2 ∷ telegram 1 ∷ telegram byte ∷ []) (request_by true) false []

  abbrev has_first : Filtered (List (List ℕ)) Remembering
  has_first = holds (telegram 2 ∷ telegram 1 ∷ telegram byte ∷ []) (request_by true) true (telegram 1 ∷ [])

  abbrev at_second : Filtered (List (List ℕ)) Remembering
  at_second = holds (telegram 2 ∷ telegram 1 ∷ telegram byte ∷ []) (request_by false) false (telegram 1 ∷ [])

  abbrev has_second : Filtered (List (List ℕ)) Remembering
  has_second = holds (telegram 1 ∷ telegram byte ∷ []) (request_by false) true (telegram 2 ∷ telegram 1 ∷ [])

  abbrev at_third : Filtered (List (List ℕ)) Remembering
  at_third = holds (telegram 1 ∷ telegram byte ∷ []) (request_by true) false (telegram 2 ∷ telegram 1 ∷ [])

  abbrev has_copy : Filtered (List (List ℕ)) Remembering
  has_copy = holds (telegram byte ∷ []) (request_by true) true (telegram 1 ∷ telegram 2 ∷ telegram 1 ∷ [])

  abbrev last : Filtered (List (List ℕ)) Remembering
  last = record has_copy { bus = []; filter = noted_by (telegram byte) has_copy.filter }

  is_one : is_telegram (frame_of (telegram 1)) ≡ true
  unfolding frame_of
  is_one = refl

  hears_first : Hears at_first.filter (telegram 1) (telegram 1) has_first.filter
  unfolding frame_of
  hears_first = (refl, refl)

  hears_second : Hears at_second.filter (telegram 2) (telegram 2) has_second.filter
  unfolding frame_of
  hears_second = (refl, refl)

  hears_copy : Hears at_third.filter (telegram 1) [] has_copy.filter
  unfolding frame_of
  hears_copy = (refl, refl)

  gives_first : Gives scripted_bus remembering at_first (telegram 1) has_first
  gives_first = of_bus (telegram 1) refl refl refl hears_first refl

  gives_second : Gives scripted_bus remembering at_second (telegram 2) has_second
  gives_second = of_bus (telegram 2) refl refl refl hears_second refl

  gives_copy : Gives scripted_bus remembering at_third [] has_copy
  gives_copy = of_bus (telegram 1) refl refl refl hears_copy refl

  sends : (old new : Filtered (List (List ℕ)) Remembering) (request : List ℕ) → new.bus ≡ old.bus → new.filter ≡ asked_by request old.filter → new.withholds ≡ false → Sends scripted_bus remembering old request new
  sends old new request same asks goes = goes_out request refl (refl, asks) same goes

  -- where the fourth answer isn't dropped
  is_dropped_first : telegram byte ≡ answer_by has_copy.filter (telegram byte) → IsDropped byte answer
  is_dropped_first kept =
      let gives_last : Gives scripted_bus remembering has_copy (telegram byte) last = of_bus (telegram byte) refl refl refl (kept, refl) refl in
      record {
        last = record { bus = last; request = Quiet; said = false };
        is_one = is_one;
        talk = sends_it {next = at_first} (sends (holds at_first.bus [] false []) at_first (request_by true) refl refl refl) (takes_it {next = has_first} gives_first (hears_it (sends_it {next = at_second} (sends has_first at_second (request_by false) refl refl refl) (takes_it {next = has_second} gives_second (hears_it (sends_it {next = at_third} (sends has_second at_third (request_by true) refl refl refl) (takes_it {next = has_copy} gives_copy (hears_it (sends_it {next = has_copy} (sends has_copy has_copy (request_by true) refl refl refl) (takes_it {next = last} gives_last (hears_it rests)))))))))));
      }

pub another_is_heard : (answer : LineHeard) → IsDropped 3 answer
unfolding frame_of
another_is_heard answer = is_dropped_first 3 answer refl

pub a_repeat_is_heard : (answer : LineHeard) → IsDropped 1 answer
unfolding frame_of
a_repeat_is_heard answer = is_dropped_first 1 answer refl

-- ---- a telegram comes twice

module _ (sent : List ℕ) (answer : LineHeard) (some : is_some (telegram_in (frame_of sent)) ≡ true) where
  abbrev clear_first : ℕ
  clear_first = clear_by 0 (fault_of sent)

  abbrev keeps : List (List ℕ) → Bool → ℕ → List (List ℕ) → Filtered (List (List ℕ)) Remembering
  keeps answers answered clear telegrams = record {
    bus = answers;
    filter = record { request = request_by true; is_answered = answered; clear = clear; telegrams = record { items = telegrams } };
    withholds = false;
  }

  abbrev before_first : Filtered (List (List ℕ)) Remembering
  before_first = keeps (sent ∷ sent ∷ []) false 0 []

  abbrev after_first : Filtered (List (List ℕ)) Remembering
  after_first = keeps (sent ∷ []) true clear_first (sent ∷ [])

  abbrev ended : Filtered (List (List ℕ)) Remembering
  ended = keeps [] true (clear_by clear_first (fault_of sent)) (sent ∷ sent ∷ [])

  noted : (b : Bool) (old : Remembering) (clear : ℕ) → b ≡ true → record old { is_answered = true; clear = clear; telegrams = record { items = sent ∷ take most_before old.telegrams.items } } ≡ record old { is_answered = b || old.is_answered; clear = clear; telegrams = if b then record { items = sent ∷ take most_before old.telegrams.items } else old.telegrams }
  noted true old clear e = refl
  noted false old clear e = absurd cc

  held : (b c : Bool) → b ≡ true → c ≡ true → [] ≡ (if b && (c && true) then [] else sent)
  held true true e ec = refl
  held false c e ec = absurd cc
  held true false e ec = absurd cc

  passed : (b same has few c d : Bool) → same ≡ true → d ≡ true → sent ≡ (if b && ((if same then false else has) || (few && (c && not (d || false)))) then [] else sent)
  passed b same has few c false es e = absurd cc
  passed b false has few c true es e = absurd cc
  passed false true has few c true es e = refl
  passed true true has false c true es e = refl
  passed true true has true false true es e = refl
  passed true true has true true true es e = refl

  is_it : is_telegram (frame_of sent) ≡ true
  is_it = is_telegram_in (frame_of sent) some

  hears_before : Hears before_first.filter sent [] after_first.filter
  hears_before = (
    held (is_telegram (frame_of sent)) (is_some (telegram_in (frame_of sent))) is_it some,
    noted (is_telegram (frame_of sent)) before_first.filter clear_first is_it,
  )

  hears_again : Hears after_first.filter sent sent ended.filter
  hears_again = (
    passed (is_telegram (frame_of sent)) (bytes_eq sent sent) (has (sent ∷ []) sent) (nat_lt clear_first most_clear) (is_some (telegram_in (frame_of sent))) (agree sent sent) (bytes_self sent) (agree_self sent some),
    noted (is_telegram (frame_of sent)) after_first.filter (clear_by clear_first (fault_of sent)) is_it,
  )

  abbrev at_rest : Filtered (List (List ℕ)) Remembering → Talk (Filtered (List (List ℕ)) Remembering)
  at_rest bus = record { bus = bus; request = Quiet; said = false }

  talk : Talks (filtered_over scripted_bus remembering) 1 (giving (sent ∷ sent ∷ []) 0) (tried (request_by true) [] Again (tried (request_by true) sent answer [])) (at_rest ended)
  talk = sends_it {next = before_first} (goes_out (request_by true) refl (refl, refl) refl refl) (takes_it {next = after_first} (of_bus sent refl refl refl hears_before refl)
      (hears_it (sends_it {next = after_first} (goes_out (request_by true) refl (refl, refl) refl refl) (takes_it {next = ended} (of_bus sent refl refl refl hears_again refl) (hears_it rests)))))

  pub is_taken_twice : IsTakenTwice sent answer
  is_taken_twice = record { last = at_rest ended; talk = talk; all_given = refl }
