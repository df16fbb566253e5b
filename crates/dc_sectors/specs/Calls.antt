-- The calls of a disk in memory that a test makes fail.
use Rattle.std.specs.Prelude.{◌+◌, ◌-◌, ◌^◌, ◌&&◌, min, ℕ, zero, suc, Bool, true, false, Option}
use Rattle.std.specs.Prelude.{Some, None}
use Rattle.dc_sectors.specs.declared.calls.Calls.{Calls}

-- a call passes while passes are left, or no limit is set
abbrev pub are_left : Option ℕ → Bool
are_left None = true
are_left (Some zero) = false
are_left (Some (suc left)) = true

-- a used-up fuse stays so
abbrev pub fuse_next : Option ℕ → Option ℕ
fuse_next None = None
fuse_next (Some left) = Some (left - 1)

-- a failure that is set occurs once
abbrev pub fails_next : Option ℕ → Option ℕ
fails_next None = None
fails_next (Some zero) = None
fails_next (Some (suc left)) = Some left

abbrev pub passes : Calls → Bool
passes calls = are_left calls.fuse && are_left calls.fails_at

-- after one more call
abbrev pub counted : Calls → Calls
counted calls = record {
  made = min (calls.made + 1) (2 ^ 64 - 1);
  failed = calls.failed;
  fuse = fuse_next calls.fuse;
  fails_at =
      fails_next calls.fails_at;
}

-- after one more failure
abbrev pub failed_once_more : Calls → Calls
failed_once_more calls = record calls { failed = min (calls.failed + 1) (2 ^ 64 - 1) }
