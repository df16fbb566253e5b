-- What is received as an answer on a wire, on which nothing marks its end (this product; the frames
-- of EN 13757-2).
use Rattle.std.specs.Prelude.{◌≡◌, ℕ, ◌-◌, ◌<◌, ◌≤◌, Bool, true, false, List, [], ◌∷◌, ◌++◌, drop}
use Rattle.std.specs.Prelude.{length, take, min, ◌==◌, nat_eq, if◌then◌else◌, Option, Some, None}
use Rattle.std.specs.List.{All, concat, starts_with}
use Rattle.dc_linkframe.specs.declared.needs.Need.{Need}
use Rattle.dc_linkframe.specs.declared.needs.Need.TheVariants.{More, Whole, Bad}
use Rattle.dc_linkframe.specs.Need.{need_of}
use Rattle.mbdc_bus.specs.Limits.{most_answer}
use Rattle.mbdc_raw.specs.Turn.{late_by, state_by}
use Rattle.mbdc_raw.specs.Wire.{Sound, piece, nothing, gap, overdue, silence, pieces, bytes_in, AreHeard}
use Rattle.mbdc_raw.specs.declared.state.State.{State}

-- ---- the bytes

-- The first frame, if the bytes begin with a whole one, and otherwise all that is kept: bytes that
-- begin no frame are read until the line is silent.
abbrev pub front_by : Need → List ℕ → List ℕ
front_by (Whole count) bytes = take count bytes
front_by (More count) bytes = take most_answer bytes
front_by Bad bytes = take most_answer bytes

-- WHAT IS RECEIVED AS THE ANSWER, of these bytes and then silence
abbrev pub heard_of : List ℕ → List ℕ
heard_of bytes = front_by (need_of bytes) bytes

-- the number of bytes that an answer lacks: 0 if it is whole or as long as is kept
abbrev pub missing_by : Need → ℕ → ℕ
missing_by (Whole count) room = 0
missing_by (More count) room = min count room
missing_by Bad room = room

abbrev pub missing_of : List ℕ → ℕ
missing_of answer = missing_by (need_of answer) (most_answer - length answer)

-- an answer that needs no silence after it: its frame is whole, or it is as long as is kept
abbrev pub is_over : List ℕ → Bool
is_over answer = missing_of answer == 0

-- ---- the echo

abbrev pub begins : List ℕ → List ℕ → Bool
begins front bytes = starts_with nat_eq bytes front

-- A converter may echo the request: if the bytes begin with it, the answer is what follows.
abbrev pub past_echo : List ℕ → List ℕ → List ℕ
past_echo request bytes = if begins request bytes then drop (length request) bytes else bytes

-- bytes that may become an echo are read to its end at most
abbrev pub echo_room : List ℕ → List ℕ → ℕ
echo_room request bytes =
    if begins request bytes then most_answer
    else if begins bytes request then length request - length bytes
    else most_answer

-- the number of bytes to read next: never more than the answer lacks
abbrev pub wanted_of : List ℕ → List ℕ → ℕ
wanted_of request bytes = min (missing_of (past_echo request bytes)) (echo_room request bytes)

-- ---- the answer to a request

-- a request, and the bytes received since
pub record Hearing : Type 0 where
  pub request : List ℕ
  pub bytes : List ℕ

abbrev pub answer_of : Hearing → List ℕ
answer_of hearing = past_echo hearing.request hearing.bytes

-- the answer is kept without the echo, and is as long as the answer that its bytes spell
pub record IsKept (request answer : List ℕ) (echoed : Bool) : Type 0 where
  pub fits : length answer ≤ most_answer
  pub exact : heard_of answer ≡ answer
  pub plain : echoed ≡ false → begins request answer ≡ false

-- the bytes received, which may begin with the echo
abbrev pub came_by : List ℕ → List ℕ → Bool → List ℕ
came_by request answer echoed = (if echoed then request else []) ++ answer

abbrev pub and_bytes : Hearing → List (List ℕ) → Hearing
and_bytes hearing bursts = record hearing { bytes = hearing.bytes ++ concat bursts }

abbrev pub HasByte : List ℕ → Type 0
HasByte burst = 0 < length burst

-- how an answer ends: it is over, silence follows it, a gap follows its first byte, or it is overdue
pub data Ends (answer : List ℕ) : List Sound → Type 0 where
  is_whole : is_over answer ≡ true → Ends answer []
  is_silent : is_over answer ≡ false → Ends answer (silence ∷ [])
  has_gap : is_over answer ≡ false → 0 < length answer → Ends answer (gap ∷ [])
  is_late : answer ≡ [] → Ends answer (overdue ∷ [])

-- whether it ended since it is overdue
abbrev pub is_overdue : Sound → Bool
is_overdue (piece bytes) = false
is_overdue nothing = false
is_overdue gap = false
is_overdue overdue = true
is_overdue silence = false

abbrev pub ends_early : List Sound → Bool
ends_early [] = false
ends_early (sound ∷ more) = is_overdue sound

-- why it isn't complete yet: nothing more came, a gap came before its first byte, or it is begun and overdue
pub data Lasts (answer : List ℕ) : Sound → Type 0 where
  still : Lasts answer nothing
  still_none : answer ≡ [] → Lasts answer gap
  still_some : 0 < length answer → Lasts answer overdue

-- AN ANSWER WAS RECEIVED by a wire that gave these bytes in this step: no byte is missing and none
-- is added.
pub record Answers {W : Type 0} (hears : W → Sound → W → Type 0) (old : W) (before : Hearing)
    (answer : List ℕ)
    (new : W) (after : Hearing) : Type 0 where
  pub bursts : List (List ℕ)
  pub each : All HasByte bursts
  pub end : List Sound
  pub gave : AreHeard hears old (pieces bursts ++ end) new
  pub heard : answer ≡ answer_of (and_bytes before bursts)
  pub exact : heard_of answer ≡ answer
  pub ends : Ends answer end
  pub kept : after ≡ record before { bytes = [] }

-- NO ANSWER IS COMPLETE YET, and the bytes that came are kept.
pub record Waits {W : Type 0} (hears : W → Sound → W → Type 0) (old : W) (before : Hearing)
    (new : W) (after : Hearing)
    : Type 0 where
  pub bursts : List (List ℕ)
  pub each : All HasByte bursts
  pub last : Sound
  pub gave : AreHeard hears old (pieces bursts ++ last ∷ []) new
  pub kept : after ≡ and_bytes before bursts
  pub lasts : Lasts (answer_of after) last
  pub unfinished : is_over (answer_of after) ≡ false

-- ---- what is dropped, and what several meters answer

-- maximum number of pieces taken in one call
abbrev pub most_pieces : ℕ
most_pieces = 512

abbrev pub state_with : List Sound → State → State
state_with [] state = state
state_with (sound ∷ more) state = state_with more (state_by sound state)

abbrev pub late_with : List Sound → State → ℕ → ℕ
late_with [] state late = late
late_with (sound ∷ more) state late = late_with more (state_by sound state) (late_by sound state late)

-- bytes still come, or nothing followed them yet
pub data IsDrained (bursts : List (List ℕ)) : Bool → List Sound → Type 0 where
  not_yet : IsDrained bursts false (nothing ∷ [])
  at_gap : IsDrained bursts false (gap ∷ [])
  when_late : IsDrained bursts false (overdue ∷ [])
  at_silence : IsDrained bursts false (silence ∷ [])
  never_quiet : length bursts ≡ most_pieces → IsDrained bursts true []

-- WHAT CAME WAS DROPPED; each sound moves the line, and late bytes count.
pub record Drains {W : Type 0} (hears : W → Sound → W → Type 0) (old : W) (state : State) (late : ℕ)
    (loud : Bool) (new : W) (after : State) (lates : ℕ) : Type 0 where
  pub bursts : List (List ℕ)
  pub each : All HasByte bursts
  pub end : List Sound
  pub gave : AreHeard hears old (pieces bursts ++ end) new
  pub ends : IsDrained bursts loud end
  pub moved : after ≡ state_with (pieces bursts ++ end) state
  pub counted : lates ≡ late_with (pieces bursts ++ end) state late

-- whether silence came; not yet, if nothing followed the bytes
pub data IsGathered (bursts : List (List ℕ)) : Option Bool → List Sound → Type 0 where
  may_go_on : IsGathered bursts None (nothing ∷ [])
  goes_on : IsGathered bursts None (gap ∷ [])
  may_be_late : IsGathered bursts None (overdue ∷ [])
  is_quiet : IsGathered bursts (Some true) (silence ∷ [])
  is_loud : length bursts ≡ most_pieces → IsGathered bursts (Some false) []

-- the bytes with these pieces; those that don't fit are dropped
abbrev pub gathered_by : List (List ℕ) → List ℕ → List ℕ
gathered_by [] bytes = bytes
gathered_by (burst ∷ more) bytes = gathered_by more (take most_answer (bytes ++ burst))

-- ALL BYTES WERE KEPT, as many as an answer has room for.
pub record Gathers {W : Type 0} (hears : W → Sound → W → Type 0) (old : W) (before : List ℕ)
    (quiet : Option Bool) (new : W) (after : List ℕ) : Type 0 where
  pub bursts : List (List ℕ)
  pub each : All HasByte bursts
  pub end : List Sound
  pub gave : AreHeard hears old (pieces bursts ++ end) new
  pub ends : IsGathered bursts quiet end
  pub kept : after ≡ gathered_by bursts before

-- ---- the whole exchange, from the request on

-- THESE SOUNDS GIVE THIS ANSWER: every byte received belongs to it or to the echo, it is no longer
-- than the answer that its bytes spell, and it ends as an answer ends.
pub record Heard (request : List ℕ) (sounds : List Sound) (answer : List ℕ) : Type 0 where
  pub front : List Sound
  pub end : List Sound
  pub parts : sounds ≡ front ++ end
  pub heard : answer ≡ past_echo request (bytes_in sounds)
  pub exact : heard_of answer ≡ answer
  pub ends : Ends answer end

-- these bytes came, and if the answer isn't over, no more of them
pub record ComesFrom (bytes : List ℕ) (sounds : List Sound) (answer : List ℕ) : Type 0 where
  pub rest : List ℕ
  pub came : bytes ≡ bytes_in sounds ++ rest
  pub all : is_over answer ≡ false → rest ≡ []

abbrev pub IsByte : ℕ → Type 0
IsByte byte = byte < 256

-- its length is the one that its first bytes state
abbrev pub IsFrame : List ℕ → Type 0
IsFrame request = need_of request ≡ Whole (length request)
