-- Lines with wrong bits: an answer has a fault or is a frame, and a telegram agrees with itself.
use Rattle.std.proofs.Common.{◌≡◌, ℕ, Bool, true, false, ◌||◌, List, [], ◌∷◌, refl, ap, if◌then◌else◌}
use Rattle.std.specs.Prelude.{◌≢◌, Option, None, Some, bytes_eq, is_some}
use Rattle.std.proofs.lemmas.Bool.{and_from, eq-eqb}
use Rattle.std.proofs.lemmas.Slice.Eq.{bytes_eq-Decides}
use Rattle.dc_address.specs.Identity.{wire_of}
use Rattle.dc_linkframe.specs.Fault.{fault_of}
use Rattle.dc_linkframe.specs.Frame.{FrameSeen, ack, short, long}
use Rattle.dc_linkframe.specs.Reading.{fields_of, frame_of, unless_faulty}
use Rattle.dc_linkframe.specs.declared.fault.FrameFault.{FrameFault}
use Rattle.dc_linkframe.specs.declared.fault.FrameFault.TheVariants.{Empty, Start, Truncated, Lengths, Trailing, Stop, Checksum}
use Rattle.dc_records.specs.Body.{Ending, plain, last, more}
use Rattle.dc_records.specs.Record.{Entry}
use Rattle.dc_records.specs.Telegram.{Parsed}
use Rattle.mbdc_poll.specs.Confirming.{agree, all_agree, both_agree, clear_by, ends_agree, most_clear, one_more, records_agree, telegram_in, telegrams_agree}
use Rattle.mbdc_poll.specs.Remembering.{is_telegram}

-- a frame has no fault
unless : (fault : Option FrameFault) (fields frame : FrameSeen) → unless_faulty fault fields ≡ Some frame → fault ≡ None
unless None fields frame e = refl
unless (Some fault) fields frame e = absurd cc

pub faultless : (text : List ℕ) (frame : FrameSeen) → frame_of text ≡ Some frame → fault_of text ≡ None
unfolding frame_of
faultless text frame e = unless (fault_of text) (fields_of text) frame e

-- where no checksum is wrong, a line stays clear
pub stays : (clear : ℕ) (fault : Option FrameFault) → clear ≡ most_clear → fault ≢ Some Checksum → clear_by clear fault ≡ most_clear
stays clear None e right = ap one_more e
stays clear (Some Empty) e right = e
stays clear (Some Start) e right = ap one_more e
stays clear (Some Truncated) e right = ap one_more e
stays clear (Some Lengths) e right = ap one_more e
stays clear (Some Trailing) e right = ap one_more e
stays clear (Some Stop) e right = ap one_more e
stays clear (Some Checksum) e right = absurd (right refl)

-- ---- a telegram agrees with itself

or_last : (a b : Bool) → b ≡ true → (a || b) ≡ true
or_last true b e = refl
or_last false b e = e

pub bytes_self : (bytes : List ℕ) → bytes_eq bytes bytes ≡ true
bytes_self bytes = (bytes_eq-Decides bytes bytes).1 refl

record_self : (changed : Bool) (one : Entry) → records_agree changed one one ≡ true
record_self changed one =
    and_from _ _ (eq-eqb one.storage one.storage refl) (and_from _ _ (eq-eqb one.tariff one.tariff refl)
    (and_from _ _ (eq-eqb one.subunit one.subunit refl) (and_from _ _ (eq-eqb one.function one.function refl)
    (and_from _ _ (eq-eqb one.field one.field refl) (and_from _ _ (bytes_self one.vib)
    (or_last _ _ (bytes_self one.content)))))))

all_self : (changed : Bool) (records : List Entry) → all_agree changed records records ≡ true
all_self changed [] = refl
all_self changed (one ∷ others) = and_from _ _ (record_self changed one) (all_self changed others)

ends_self : (changed : Bool) (ending : Ending) → ends_agree changed ending ending ≡ true
ends_self changed plain = refl
ends_self changed (last bytes) = or_last _ _ (bytes_self bytes)
ends_self changed (more bytes) = or_last _ _ (bytes_self bytes)

telegram_self : (changed : Bool) (one : Parsed) → telegrams_agree changed one one ≡ true
telegram_self changed one =
    and_from _ _ (bytes_self (wire_of one.header.identity)) (and_from _ _ (eq-eqb one.header.status one.header.status refl)
    (and_from _ _ (eq-eqb one.header.config one.header.config refl)
    (and_from _ _ (ends_self changed one.ending) (all_self changed one.records))))

both_self : (telegram : List ℕ) (some : Option Parsed) → is_some some ≡ true → both_agree telegram telegram some some ≡ true
both_self telegram None e = absurd cc
both_self telegram (Some one) e = telegram_self _ one

pub agree_self : (telegram : List ℕ) → is_some (telegram_in (frame_of telegram)) ≡ true → agree telegram telegram ≡ true
unfolding agree
agree_self telegram e = both_self telegram (telegram_in (frame_of telegram)) e

-- what is read of a frame is in a telegram
by_kind : (b : Bool) (read : Option Parsed) → is_some (if b then read else None) ≡ true → b ≡ true
by_kind true read e = refl
by_kind false read e = absurd cc

pub is_one : (frame : Option FrameSeen) → is_some (telegram_in frame) ≡ true → is_telegram frame ≡ true
is_one None e = absurd cc
is_one (Some ack) e = absurd cc
is_one (Some (short control address)) e = absurd cc
is_one (Some (long control address ci body)) e = by_kind _ _ e
