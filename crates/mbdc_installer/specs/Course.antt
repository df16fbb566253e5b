-- How far a search is, by what goes over its bus (this product).
use Rattle.std.specs.Prelude.{◌≡◌, ℕ, ◌+◌, ◌-◌, ◌^◌, min, Bool, true, false, not, ◌&&◌, ◌||◌, List, [], ◌∷◌}
use Rattle.std.specs.Prelude.{◌==◌, Option, None, Some, if◌then◌else◌, is_some, count_by}
use Rattle.std.specs.Option.{option_or}
use Rattle.mbdc_bus.specs.Bus.{Exchange}
use Rattle.dc_linkframe.specs.Control.{selection, snd_nke}
use Rattle.dc_linkframe.specs.Frame.{FrameSeen, ack, short, long}
use Rattle.dc_linkframe.specs.Reading.{frame_of}
use Rattle.dc_readout.specs.Misses.{is_noise, is_silent}
use Rattle.dc_search.specs.Answer.{answer_of}
use Rattle.mbdc_installer.specs.Other.{format_of}
use Rattle.mbdc_installer.specs.declared.course.Course.{Course}

abbrev pub new_course : Course
new_course = record {
  selections = 0;
  resets = 0;
  address = 0;
  is_request = false;
  silent = 0;
  unreadable = 0;
  collided = 0;
  is_answered = false;
  is_understood = false;
  is_other = false;
  meter = None;
}

-- counts stay at the greatest number of 64 bits
abbrev pub most : ℕ
most = 2 ^ 64 - 1

abbrev pub one_if : Bool → ℕ → ℕ
one_if true count = min most (count + 1)
one_if false count = count

-- ---- requests

abbrev pub is_selection : Option FrameSeen → Bool
is_selection None = false
is_selection (Some ack) = false
is_selection (Some (short control address)) = false
is_selection (Some (long control address ci body)) = ci == selection

abbrev pub is_reset : Option FrameSeen → Bool
is_reset None = false
is_reset (Some ack) = false
is_reset (Some (short control address)) = control == snd_nke
is_reset (Some (long control address ci body)) = false

-- neither a selection nor a reset: it asks for a telegram
abbrev pub is_request : List ℕ → Bool
is_request bytes = not (is_selection (frame_of bytes)) && not (is_reset (frame_of bytes))

-- a reset names its address
abbrev pub address_after : Option FrameSeen → ℕ → ℕ
address_after None before = before
address_after (Some ack) before = before
address_after (Some (short control address)) before =
    if control == snd_nke then address else before
address_after (Some (long control address ci body)) before = before

abbrev pub after_request : List ℕ → Course → Course
after_request request c = record c {
  selections = one_if (is_selection (frame_of request)) c.selections;
  resets = one_if (is_reset (frame_of request)) c.resets;
  address = address_after (frame_of request) c.address;
  is_request = is_request request;
}

-- ---- answers

-- the meter of a telegram stays until the next one
abbrev pub after_answer : List ℕ → Course → Course
after_answer answer c = record c {
  silent = one_if (not c.is_request && is_silent answer) c.silent;
  unreadable = one_if (not c.is_request && is_noise answer) c.unreadable;
  collided = one_if (c.is_request && is_noise answer) c.collided;
  is_answered = c.is_answered || not (is_silent answer);
  is_understood = c.is_understood || is_some (frame_of answer);
  is_other = c.is_other || is_some (format_of answer);
  meter = option_or (answer_of answer) c.meter;
}

-- ---- all of them

abbrev pub course_of : Course → List Exchange → Course
course_of c [] = c
course_of c (exchange ∷ more) =
    course_of (after_answer exchange.answer (after_request exchange.request c)) more

-- a selection or a reset that was met by silence, or by bytes that are no frame
abbrev pub met_silence : Exchange → Bool
met_silence e = not (is_request e.request) && is_silent e.answer

abbrev pub met_noise : Exchange → Bool
met_noise e = not (is_request e.request) && is_noise e.answer

-- a request for a telegram that was met by bytes that are no frame
abbrev pub met_collision : Exchange → Bool
met_collision e = is_request e.request && is_noise e.answer

-- THE COUNTS ARE THOSE OF THE ANSWERS of a search, in whatever order they came.
pub record CountsAnswers (exchanges : List Exchange) : Type 0 where
  pub silent : (course_of new_course exchanges).silent ≡ min most (count_by met_silence exchanges)
  pub unreadable :
      (course_of new_course exchanges).unreadable ≡ min most (count_by met_noise exchanges)
  pub collided :
      (course_of new_course exchanges).collided ≡ min most (count_by met_collision exchanges)
