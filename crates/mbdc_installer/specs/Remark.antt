-- What standard error says after a command over one bus (this product).
use Rattle.std.specs.Prelude.{◌==◌, ◌&&◌, ◌++◌, ℕ, Bool, true, false, not, List, [], codes}
use Rattle.std.specs.Prelude.{Option, None, Some, if◌then◌else◌}
use Rattle.mbdc_installer.specs.declared.bench.command.Done.{Done}
use Rattle.mbdc_installer.specs.declared.bench.command.Done.TheVariants.{Searched, Asked, ReadOut, Addressed}
use Rattle.mbdc_installer.specs.declared.bench.command.Work.{Work}
use Rattle.mbdc_installer.specs.declared.bench.command.Work.TheVariants.{Search, Read, Address}
use Rattle.mbdc_installer.specs.Unread.{is_all_read, unread_text}
use Rattle.mbdc_installer.specs.declared.course.Course.{Course}
use Rattle.mbdc_installer.specs.declared.reading.Readout.TheVariants.{Whole, Failed}
use Rattle.mbdc_installer.specs.declared.wildcards.Count.{Count}
use Rattle.dc_readout.specs.Reason.{reason_text}
use Rattle.dc_readout.specs.declared.misses.reason.Owner.{Owner}
use Rattle.dc_readout.specs.declared.misses.reason.Owner.TheVariants.{Meter as OfMeter, Address as OfAddress, Number as OfNumber}
use Rattle.mbdc_installer.specs.declared.bench.command.MeterName.{MeterName}
use Rattle.mbdc_installer.specs.declared.bench.command.MeterName.TheVariants.{Identity as ByIdentity, Address as ByAddress}
use Rattle.mbdc_installer.specs.declared.bench.command.MeterName.TheVariants.{Number as ByNumber}

-- of what was counted: numbers of several meters come first, then frames of another CI
abbrev pub other_hint : List ℕ
other_hint =
    codes "telegrams of another CI than 72 came, which mbdc doesn't read: can these meters send 72?\n"

abbrev pub counted_hint : Course → Option Count → List ℕ
counted_hint course None = if course.is_other then other_hint else codes ""
counted_hint course (Some count) = if not (count.shared == 0) then
    codes "SHARED: find these meters by scan --primary, and read each by its address\n"
    else if course.is_other then other_hint
    else if count.meters == 0 && is_all_read course then
    codes "answers came, but of no meter: look at speed, parity and noise\n"
    else codes ""

-- what a person does next; nothing where no person reads it
abbrev pub hint : Course → Option Count → (is_watched : Bool) → List ℕ
hint course count false = codes ""
hint course count true = if course.is_answered then counted_hint course count
    else codes "nobody answered: is the bus powered, are speed and parity right?\n"

-- after a search: how many answers can't be read, and the hint
unfoldable pub advice_text : Course → Option Count → (is_watched : Bool) → List ℕ
advice_text course count is_watched = unread_text course ++ hint course count is_watched

-- whose readout it is, in the words of the person who asked for it
abbrev pub owner_of : MeterName → Owner
owner_of (ByIdentity meter) = OfMeter meter
owner_of (ByAddress address) = OfAddress address
owner_of (ByNumber digits) = OfNumber digits

-- WHAT IS SAID: advice after a search, what the failed tries brought after a failed readout, and else nothing
abbrev pub remark_text : Work → Done → Course → (is_watched : Bool) → List ℕ
remark_text work (Searched count) course is_watched = advice_text course (Some count) is_watched
remark_text work (Asked late) course is_watched = advice_text course None is_watched
remark_text (Read meter) (ReadOut (Failed misses)) course is_watched = reason_text (owner_of meter) misses
remark_text (Read meter) (ReadOut Whole) course is_watched = []
remark_text (Search what) (ReadOut readout) course is_watched = []
remark_text (Address target to) (ReadOut readout) course is_watched = []
remark_text work (Addressed outcome) course is_watched = []
