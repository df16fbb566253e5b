-- Where first questions are answered, nothing is spared.
use Rattle.std.proofs.Common.{◌≡◌, ◌≢◌, ℕ, Bool, true, false, ◌&&◌, ◌||◌, ◌==◌, List, [], ◌∷◌, map, length, arith, refl, sym, subst, ◌∙◌, ap, if◌then◌else◌, None, Some, Ok}
use Rattle.std.specs.Prelude.{bytes_eq}
use Rattle.std.proofs.lemmas.Bool.{ne_eqb}
use Rattle.std.proofs.lemmas.Slice.Eq.{bytes_eq-Decides}
use Rattle.dc_core.specs.Event.{asks, hears, asked, heard}
use Rattle.dc_core.specs.declared.line_heard.LineHeard.TheVariants.{Again}
use Rattle.mbdc_poll.proofs.Through.{Passes, lets_through}
use Rattle.mbdc_poll.specs.Bus.{Bus}
use Rattle.mbdc_poll.specs.Happening.{Happening, does}
use Rattle.mbdc_poll.specs.Sparing.{AnswersFirst, IsAskedOnce, NoneIsSilent, SparesNothing, at_rest, counting_bus, fate_after, is_first, is_silent, is_spared, is_unasked, noted_by, sparing}
use Rattle.mbdc_poll.specs.Filtered.{Gives, Sends, filtered_over, goes_out, of_bus, of_none, stays}
use Rattle.mbdc_poll.specs.Talking.{Talks, rests, sends_it, takes_it, hears_it}
use Rattle.mbdc_poll.specs.declared.filtered.Filtered.{Filtered}
use Rattle.mbdc_poll.specs.declared.sparing.Doubt.{Doubt}
use Rattle.mbdc_poll.specs.declared.sparing.Fate.{Fate}
use Rattle.mbdc_poll.specs.declared.sparing.Fate.TheVariants.{Unasked, Silent, Answered}
use Rattle.mbdc_poll.specs.declared.sparing.Sparing.{Sparing}

or_first : (a b : Bool) → a ≡ true → (a || b) ≡ true
or_first true b e = refl
or_first false b e = absurd cc

or_second : (a b : Bool) → b ≡ true → (a || b) ≡ true
or_second true b e = refl
or_second false b e = e

-- ---- what is clear stays clear

none_spared : (doubts : List Doubt) (request : List ℕ) → NoneIsSilent doubts → is_spared doubts request ≡ false
none_spared [] request clear = refl
none_spared (doubt ∷ doubts) request clear =
    subst (λ (b : Bool). ((b && bytes_eq doubt.question request) || is_spared doubts request) ≡ false) (sym clear.0) (none_spared doubts request clear.1)

fate_open : (fate : Fate) (answer : List ℕ) → is_silent fate ≡ false → ((is_unasked fate && true) ≡ true → answer ≢ []) → is_silent (fate_after fate (length answer == 0)) ≡ false
fate_open Unasked [] clear answered = absurd (answered refl refl)
fate_open Unasked (byte ∷ bytes) clear answered =
    let some : (length (byte ∷ bytes) == 0) ≡ false = ne_eqb (length (byte ∷ bytes)) 0 (λ e. omega (arith, e)) in
    subst (λ (b : Bool). is_silent (fate_after Unasked b) ≡ false) (sym some) refl
fate_open Silent answer clear answered = absurd cc
fate_open Answered answer clear answered = refl

one_open : (b : Bool) (doubt : Doubt) (answer : List ℕ) → is_silent doubt.fate ≡ false → ((is_unasked doubt.fate && b) ≡ true → answer ≢ [])
    → is_silent (if b then record doubt { fate = fate_after doubt.fate (length answer == 0) } else doubt).fate ≡ false
one_open true doubt answer clear answered = fate_open doubt.fate answer clear answered
one_open false doubt answer clear answered = clear

all_open : (request answer : List ℕ) (doubts : List Doubt) → NoneIsSilent doubts → (is_first doubts request ≡ true → answer ≢ []) → NoneIsSilent (map (noted_by request (length answer == 0)) doubts)
all_open request answer [] clear answered = tt
all_open request answer (doubt ∷ doubts) clear answered =
    let here : Bool = is_unasked doubt.fate && bytes_eq doubt.question request in
    let later : Bool = is_first doubts request in (
      one_open (bytes_eq doubt.question request) doubt answer clear.0 (λ e. answered (or_first here later e)),
      all_open request answer doubts clear.1 (λ e. answered (or_second here later e)),
    )

passes : Passes sparing (λ s. NoneIsSilent s.doubts.now) AnswersFirst
passes = record {
  asks = λ old request out new clear asks. (asks.goes_out ∙ ap (λ (b : Bool). if b then None else Some request) (none_spared old.doubts.now request clear), subst NoneIsSilent (sym asks.doubts) clear);
  hears = λ old given answer new clear answers heard. (heard.same, subst NoneIsSilent (sym heard.doubts) (all_open old.out given old.doubts.now clear answers));
}

pub spares_nothing : {B : Type 0} (g : Bus B) → SparesNothing g
spares_nothing g = lets_through g sparing (λ s. NoneIsSilent s.doubts.now) AnswersFirst passes

-- ---- one is spared

module _ (question : List ℕ) where
  abbrev unasked : Doubt
  unasked = record { question = question; fate = Unasked }

  abbrev holds : ℕ → List Doubt → List ℕ → Bool → Filtered ℕ Sparing
  holds sent doubts out withholds = record {
    bus = sent;
    filter = record { doubts = record { ref_ptr = (0, 0); ghost_name = 0; now = doubts }; out = out };
    withholds = withholds;
  }

  abbrev at_first : Filtered ℕ Sparing
  at_first = holds 0 (unasked ∷ []) [] false

  abbrev asked_it : Filtered ℕ Sparing
  asked_it = holds 1 (unasked ∷ []) question false

  abbrev silent : Filtered ℕ Sparing
  silent = holds 1 (map (noted_by question true) (unasked ∷ [])) question false

  abbrev held : Filtered ℕ Sparing
  held = holds 1 (map (noted_by question true) (unasked ∷ [])) question true

  by_same : (b : Bool) → b ≡ true → is_spared ((if b then record unasked { fate = Silent } else unasked) ∷ []) question ≡ true
  by_same true e = or_first (bytes_eq question question) false ((bytes_eq-Decides question question).1 refl)
  by_same false e = absurd cc

  is_same : is_spared silent.filter.doubts.now question ≡ true
  is_same = by_same (bytes_eq question question) ((bytes_eq-Decides question question).1 refl)

  sends_one : Sends counting_bus sparing at_first question asked_it
  sends_one = goes_out question refl (record { doubts = refl; last = refl; goes_out = refl }) refl refl

  gives_one : Gives counting_bus sparing asked_it [] silent
  gives_one = of_bus [] refl refl refl (record { same = refl; out = refl; doubts = refl }) refl

  spares_one : Sends counting_bus sparing silent question held
  spares_one = stays refl (record { doubts = refl; last = refl; goes_out = sym (ap (λ (b : Bool). if b then None else Some question) is_same) }) refl refl

  gives_none : Gives counting_bus sparing held [] held
  gives_none = of_none refl refl refl

  abbrev happened : List Happening
  happened = does (asks 1, asked (Some question)) ∷ does (hears 1 0 [], heard (Ok Again)) ∷ does (asks 1, asked (Some question)) ∷ does (hears 1 0 [], heard (Ok Again)) ∷ []

  talk : Talks (filtered_over counting_bus sparing) 1 (at_rest at_first) happened (at_rest held)
  talk = sends_it {next = asked_it} sends_one (takes_it {next = silent} gives_one (hears_it (sends_it {next = held} spares_one (takes_it {next = held} gives_none (hears_it rests)))))

  pub is_asked_once : IsAskedOnce question
  is_asked_once = record { first = at_first; last = held; happened = happened; talk = talk; none_silent = (refl, tt); requests = refl; sent = refl }
