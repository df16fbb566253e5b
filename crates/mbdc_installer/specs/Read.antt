-- The readout of one meter on a bus, as its telegrams are printed (EN 13757-2, frame count bit; EN 13757-3).
use Rattle.std.specs.Prelude.{◌≡◌, ◌≤◌, ℕ, Bool, true, false, ◌||◌, List, [], ◌∷◌, ◌++◌, None, Some}
use Rattle.std.specs.Prelude.{length, option_map, if◌then◌else◌}
use Rattle.dc_linkframe.specs.Frame.{spelling}
use Rattle.dc_readout.specs.Summary.{Summary, Verdict, again, ready, new, failed, asked_by}
use Rattle.dc_readout.specs.Summary.{heard_by, settled_by, verdict_by}
use Rattle.dc_readout.specs.Bound.{requests_left}
use Rattle.mbdc_bus.specs.Bus.{AreExchanged, Exchange}
use Rattle.dc_core.specs.Text.{failed_text}
use Rattle.mbdc_decode.specs.Frames.{all_shown, frames_of}
use Rattle.dc_readout.specs.Misses.{and_missed, misses_of}
use Rattle.dc_readout.specs.Missing.{is_missing}
use Rattle.dc_readout.specs.declared.misses.misses.Misses.{Misses}
use Rattle.mbdc_installer.specs.declared.reading.Readout.{Readout}
use Rattle.mbdc_installer.specs.declared.reading.Readout.TheVariants.{Whole, Failed}

-- The text printed for an answer: a telegram as `decode` prints it, or why the readout failed.
abbrev pub printed : Verdict → List ℕ → List ℕ
printed again answer = []
printed ready answer = []
printed (new part telegram) answer = all_shown (frames_of answer)
printed (failed why) answer = failed_text why

-- The session after an answer: a printed telegram is acknowledged, so the frame count bit changes.
abbrev pub after_verdict : Summary → Verdict → Summary
after_verdict session again = heard_by session again
after_verdict session ready = heard_by session ready
after_verdict session (new part telegram) = settled_by (heard_by session (new part telegram))
after_verdict session (failed why) = heard_by session (failed why)

abbrev pub after : Summary → List ℕ → Summary
after session answer = after_verdict session (verdict_by session answer)

-- EACH REQUEST IS THE SESSION'S, in turn: these exchanges are printed as this text, and lead to this session.
abbrev pub AreRead : Summary → List Exchange → List ℕ → Summary → Type 0
AreRead session [] text last = (text ≡ []) × (last ≡ session)
AreRead session (exchange ∷ more) text last =
    (option_map spelling (asked_by session) ≡ Some exchange.request)
    × (rest : List ℕ) × (text ≡ printed (verdict_by session exchange.answer) exchange.answer
    ++ rest)
    × AreRead (after session exchange.answer) more rest last

-- These exchanges are all that happened to the bus, and this was printed of them.
pub record Reads {B : Type 0} (asks : B → List ℕ → List ℕ → B → Type 0) (old new : B)
    (session : Summary)
    (wrote : List ℕ → Type 0) : Type 0 where
  pub exchanges : List Exchange
  pub happened : AreExchanged asks old exchanges new
  pub text : List ℕ
  pub last : Summary
  pub are_read : AreRead session exchanges text last
  pub printed_it : wrote text

-- ---- failed tries

-- THE TRY FAILED: the readout asks again, or it fails as the meter's own answer didn't come.
abbrev pub is_miss : Verdict → Bool
is_miss again = true
is_miss ready = false
is_miss (new part telegram) = false
is_miss (failed why) = is_missing why

abbrev pub is_failure : Verdict → Bool
is_failure again = false
is_failure ready = false
is_failure (new part telegram) = false
is_failure (failed why) = true

-- what the failed tries of a session brought, in order
abbrev pub missed_in : Summary → List Exchange → List (List ℕ)
missed_in session [] = []
missed_in session (exchange ∷ more) =
    (if is_miss (verdict_by session exchange.answer) then exchange.answer ∷ [] else [])
    ++ missed_in (after session exchange.answer) more

-- whether it failed
abbrev pub has_failed : Summary → List Exchange → Bool
has_failed session [] = false
has_failed session (exchange ∷ more) = is_failure (verdict_by session exchange.answer)
    || has_failed (after session exchange.answer) more

-- WHAT IS TOLD OF A READOUT: whether it failed, and then how many of its failed tries brought what.
abbrev pub Tells : Readout → List (List ℕ) → Bool → Type 0
Tells Whole missed is_failed = is_failed ≡ false
Tells (Failed misses) missed is_failed = (is_failed ≡ true) × (misses ≡ misses_of missed)

-- the same, with what failed tries before brought
abbrev pub TellsFrom : Misses → Readout → List (List ℕ) → Bool → Type 0
TellsFrom misses readout missed is_failed = (before : List (List ℕ)) → misses ≡ misses_of before
    → Tells readout (before ++ missed) is_failed

abbrev pub and_heard : Verdict → List ℕ → Misses → Misses
and_heard verdict answer misses = if is_miss verdict then and_missed answer misses else misses

-- ---- a readout that ended

-- It makes no more requests than a session, and its failed tries are counted.
pub record IsReadOn {B : Type 0} (asks : B → List ℕ → List ℕ → B → Type 0) (old new : B)
    (session : Summary) (wrote : List ℕ → Type 0) (tells : List (List ℕ) → Bool → Type 0)
    : Type 0 where
  pub reads : Reads asks old new session wrote
  pub ended : asked_by reads.last ≡ None
  pub few : length reads.exchanges ≤ requests_left session
  pub told : tells (missed_in session reads.exchanges) (has_failed session reads.exchanges)

-- A failed write ended it: no request went out after the answer whose text failed.
abbrev pub IsCutOff : {B : Type 0} → (B → List ℕ → List ℕ → B → Type 0) → B → B → Summary
    → (List ℕ → Type 0) → Type 0
IsCutOff asks first last session wrote = Reads asks first last session wrote
