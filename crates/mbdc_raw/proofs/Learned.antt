-- What is learned of a line fits it, and then its window is long enough.
use Rattle.std.proofs.Common.{◌≡◌, ℕ, ◌+◌, ◌-◌, ◌*◌, ◌^◌, ◌≤◌, ◌<◌, min, max, Bool, true, false, not, ◌&&◌, ◌||◌, List, Option, Some, None, is_some, length, nat_le, refl, subst, sym, arith, if◌then◌else◌}
use Rattle.std.proofs.lemmas.Nat.{le-div}
use Rattle.std.proofs.lemmas.Bool.{false≢true, leb-false}
use Rattle.mbdc_raw.specs.Pace.{ComesInTime, Fits, acknowledged, acknowledging, answered_after, answering, begins_as, came_with, delay_with, each_took, is_measured, most_byte, most_count, or_most, or_none, pace_begun, pace_with, paused_with, reach_of, short_frame, shown_by, showing, slowest_of, soonest_with, window_by, window_of}
use Rattle.mbdc_raw.specs.declared.pace.Pace.{Pace}

-- ---- a request begins

byte_begun : (byte : ℕ) (known : Option ℕ) (each : ℕ) (shows : Bool) → byte ≤ or_most known → byte ≤ each → byte ≤ or_most (if shows then Some (min (or_most known) each) else known)
byte_begun byte known each true so is = omega (arith, so, is)
byte_begun byte known each false so is = so

pub fits_begun : (byte delay : ℕ) (request : List ℕ) (late : ℕ) (pace : Pace) → Fits byte delay pace → Fits byte delay (pace_begun request late pace)
fits_begun byte delay request late pace fits = record {
  counts = fits.counts;
  most = byte_begun byte pace.byte pace.least (nat_le showing pace.came) fits.most fits.each;
  each = omega (arith, fits.counts);
  soonest = fits.soonest;
  selected = fits.selected;
}

-- ---- bytes come

soonest_by : (least spent : ℕ) (selects : Bool) (soonest : Option ℕ) → selects ≡ true → least ≤ spent → least ≤ or_most soonest → least ≤ or_most (soonest_with selects spent soonest)
soonest_by least spent true soonest is now before = omega (arith, now, before)
soonest_by least spent false soonest is now before = absurd (false≢true is)

selected_by : (spent : ℕ) (selects : Bool) (soonest : Option ℕ) → selects ≡ true → true ≡ is_some (soonest_with selects spent soonest)
selected_by spent true soonest is = refl
selected_by spent false soonest is = absurd (false≢true is)

-- with what an acknowledgement shows
abbrev delayed : ℕ → Pace → Bool → Pace
delayed spent pace is = if is
    then record pace {
      delay = Some (max (or_none pace.delay) spent);
      soonest = soonest_with pace.selects spent pace.soonest;
      last = spent;
      acks = false;
    }
    else record pace { acks = false }

module _ (byte delay spent : ℕ) (bytes : List ℕ) (pace : Pace) (comes : ComesInTime byte delay spent bytes pace) (fits : Fits byte delay pace) where
  fits_delay : (is : Bool) → (pace.acks && begins_as acknowledged bytes) ≡ is → Fits byte delay (delayed spent pace is)
  fits_delay true is = record {
    counts = fits.counts;
    most = fits.most;
    each = fits.each;
    soonest = soonest_by (delay + byte * acknowledging) spent pace.selects pace.soonest (comes.selected is) (comes.acknowledged is) fits.soonest;
    selected = selected_by spent pace.selects pace.soonest (comes.selected is);
  }
  fits_delay false is = record { counts = fits.counts; most = fits.most; each = fits.each; soonest = fits.soonest; selected = fits.selected }

  given : (is : Bool) → is_measured bytes (delayed spent pace is) ≡ true → byte * min (came_with (length bytes) (delayed spent pace is) + short_frame) most_count ≤ spent
  given true m = comes.given m
  given false m = comes.given m

-- with what bytes show
abbrev counted : ℕ → List ℕ → Pace → Bool → Pace
counted spent bytes pace is = if is
    then record pace {
      measured = true;
      came = came_with (length bytes) pace;
      spent = spent;
      paused = paused_with spent pace;
      least = min pace.least (each_took spent (came_with (length bytes) pace));
    }
    else record pace { measured = false; paused = paused_with spent pace }

fits_bytes : (byte delay spent : ℕ) (bytes : List ℕ) (pace : Pace) (is : Bool) → is_measured bytes pace ≡ is → (is_measured bytes pace ≡ true → byte * min (came_with (length bytes) pace + short_frame) most_count ≤ spent) → Fits byte delay pace → Fits byte delay (counted spent bytes pace is)
fits_bytes byte delay spent bytes pace true is takes fits =
    let each : byte ≤ each_took spent (came_with (length bytes) pace) = le-div byte spent (min (came_with (length bytes) pace + short_frame) most_count) (omega arith) (takes is) in
    record { counts = fits.counts; most = fits.most; each = omega (arith, each, fits.each); soonest = fits.soonest; selected = fits.selected }
fits_bytes byte delay spent bytes pace false is takes fits =
    record { counts = fits.counts; most = fits.most; each = fits.each; soonest = fits.soonest; selected = fits.selected }

pub fits_with : (byte delay spent : ℕ) (bytes : List ℕ) (pace : Pace) → ComesInTime byte delay spent bytes pace → Fits byte delay pace → Fits byte delay (pace_with spent bytes pace)
fits_with byte delay spent bytes pace comes fits =
    fits_bytes byte delay spent bytes (delay_with spent bytes pace) (is_measured bytes (delay_with spent bytes pace)) refl
    (given byte delay spent bytes pace comes fits (pace.acks && begins_as acknowledged bytes))
    (fits_delay byte delay spent bytes pace comes fits (pace.acks && begins_as acknowledged bytes) refl)

-- ---- the window

more_of : (early near : Bool) (slowest soonest delay wait : ℕ) → slowest ≤ most_count → near ≡ nat_le delay (min (slowest + wait) most_count) → slowest ≤ (if early then max slowest delay else if near then slowest else min (delay + (delay - soonest)) most_count)
more_of true near slowest soonest delay wait few is = omega arith
more_of false true slowest soonest delay wait few is = omega arith
more_of false false slowest soonest delay wait few is = let far = leb-false delay (min (slowest + wait) most_count) (sym is) in omega (arith, few, far)

as_most : (least : ℕ) (late : Bool) (soonest : Option ℕ) → least ≤ or_most soonest → least ≤ most_count → least ≤ or_most (shown_by late soonest)
as_most least true soonest is few = few
as_most least false soonest is few = is

-- where a byte takes `most`, and an acknowledgement `reach`, at most
long_enough : (byte delay more wait patience most soonest pause reach least : ℕ) → byte ≤ most → delay + byte * acknowledging ≤ soonest → more ≤ pause → min (soonest + pause) most_count ≤ reach → wait ≤ answering byte → patience < 2 ^ 64
    → min patience (answered_after byte (delay + more) wait) ≤ min patience (max (min (answering most + reach) most_count) least)
long_enough byte delay more wait patience most soonest pause reach least byte_is soonest_is pause_is reach_is wait_is few =
    omega (arith, byte_is, soonest_is, pause_is, reach_is, wait_is, few)

covers_by : (byte delay more wait patience : ℕ) (pace : Pace) (known : Option ℕ) (soonest : Option ℕ) → soonest ≡ pace.soonest → is_some known ≡ is_some soonest → delay + byte * acknowledging ≤ or_most soonest → Fits byte delay pace → more ≤ or_none pace.longest_pause → wait ≤ answering byte → patience < 2 ^ 64
    → min patience (answered_after byte (delay + more) wait) ≤ window_by (shown_by pace.late pace.soonest) known pace patience
covers_by byte delay more wait patience pace None soonest same is least fits pause_is wait_is few = omega arith
covers_by byte delay more wait patience pace (Some slowest) None same is least fits pause_is wait_is few = absurd (false≢true (sym is))
covers_by byte delay more wait patience pace (Some slowest) (Some soonest) same is least fits pause_is wait_is few =
    let shown = shown_by pace.late pace.soonest in
    let shows : byte * acknowledging ≤ or_most shown = as_most (byte * acknowledging) pace.late pace.soonest (omega (arith, fits.soonest)) (omega (arith, fits.counts)) in
    let most : byte ≤ most_byte shown pace.byte = omega (arith, fits.most, le-div byte (or_most shown) acknowledging (omega arith) shows) in
    long_enough byte delay more wait patience (most_byte shown pace.byte) soonest (or_none pace.longest_pause) (reach_of shown pace.soonest pace.longest_pause (most_byte shown pace.byte) slowest) (min (slowest + 50_000) most_count) most least pause_is
    (subst (λ (o : Option ℕ). min (or_none o + or_none pace.longest_pause) most_count ≤ reach_of shown pace.soonest pace.longest_pause (most_byte shown pace.byte) slowest) (sym same)
    (more_of (not (is_some shown) || not (is_some pace.longest_pause)) _ (slowest_of pace.soonest pace.longest_pause) (or_none pace.soonest) slowest (answering (most_byte shown pace.byte)) (omega arith) refl))
    wait_is few

pub covers : (byte delay more wait patience : ℕ) (pace : Pace) → Fits byte delay pace → more ≤ or_none pace.longest_pause → wait ≤ answering byte → patience < 2 ^ 64
    → min patience (answered_after byte (delay + more) wait) ≤ window_of pace patience
covers byte delay more wait patience pace fits pause_is wait_is few =
    covers_by byte delay more wait patience pace pace.delay pace.soonest refl fits.selected fits.soonest fits pause_is wait_is few
