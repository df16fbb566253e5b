-- What an image of a counter reads as: the store's definitions, of a counter.
use Rattle.std.specs.Prelude.{ℕ}
use Rattle.byteorder.specs.Endian.{little_bytes}
use Rattle.dc_sectors.specs.Disk.{Image}
use Rattle.mbdc_io.specs.declared.kept.kept.Language.{Ghosts as Language}
use Rattle.mbdc_log.specs.Stands.{Reads}
use Rattle.mbdc_theorems.specs.declared.counter.counter.Counter.{Counter}
use Rattle.mbdc_theorems.specs.Counting.{SpellsNumber, SpellsStep, IsWithin, counted, zeros}
use Rattle.mbdc_theorems.specs.Laws.{one_number, one_step, wider_number, some_number, fits_number, zero_spelled, counted_append}
use Rattle.std.specs.Prelude.{refl}

-- the ghosts of a counter, written out
abbrev pub counter : Language Counter
counter = record {
  State = ℕ;
  Change = ℕ;
  empty = 0;
  after = counted;
  Accepts = IsWithin;
  bytes_of = λ s. little_bytes 8 s;
  empty_bytes = zeros;
  SpellsState = SpellsNumber;
  SpellsChanges = SpellsStep;
  state = λ c. c.count;
  limit = λ c. c.budget;
  one_state = one_number;
  one_list = one_step;
  wider = wider_number;
  some = some_number;
  fits = fits_number;
  empty_spelled = zero_spelled;
  after_none = λ s. refl;
  after_append = counted_append;
}

-- the image reads as the number
abbrev pub ReadsCount : ℕ → ℕ → Image → Type 0
ReadsCount half_len n image = Reads counter half_len n image
