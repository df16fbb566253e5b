-- The file of an image (this product): what it asks of std's file.
use Rattle.std.specs.Prelude.{◌≡◌, ◌&&◌, nat_lt, ℕ, Bool, true, false, List, ◌∷◌, ◌++◌, Result, Ok, Err}
use Rattle.dc_sectors.specs.declared.sector.ReadFault.{ReadFault}
use Rattle.dc_sectors.specs.declared.sector.ReadFault.TheVariants.{Unreadable, Failed}
use Rattle.dc_sectors.specs.FileCalls.{Call, Got}
use Rattle.dc_sectors.specs.Over.{Step, is_durable, told}
use Rattle.mbdc_files.specs.Syncs.{syncs_in}

-- later steps of the same file
abbrev pub Follows : List Step → List Step → Type 0
Follows old new = (later : List Step) × (new ≡ later ++ old)

-- nothing was done but reads of std's file for the own use of an image's file
pub record HasLooked (old new : List Step) : Type 0 where
  pub follows : Follows old new
  pub told_same : told new ≡ told old
  pub durable_same : is_durable new ≡ is_durable old

-- A file that is written under its name is opened with its second sync.
abbrev pub is_opened : Bool → List Call → Bool
is_opened is_named calls = is_named && nat_lt 1 (syncs_in calls)

-- once it is opened, a sector that the drive can't read is a failure
abbrev pub strictly : Result (List ℕ) ReadFault → Bool → Result (List ℕ) ReadFault
strictly (Ok bytes) is_strict = Ok bytes
strictly (Err Failed) is_strict = Err Failed
strictly (Err Unreadable) true = Err Failed
strictly (Err Unreadable) false = Err Unreadable

-- a read is one read of std's file, with its result but for such a sector
abbrev pub IsReadOf : Bool → ℕ → ℕ → Result (List ℕ) ReadFault → List Call → List Call → Type 0
IsReadOf is_strict at n came old new =
    (got : Result (List ℕ) ReadFault) × (new ≡ Got at n got ∷ old) × (came ≡ strictly got is_strict)
