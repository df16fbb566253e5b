-- A table that is being written with `csv`.
use Rattle.std.specs.Prelude.{◌≡◌, ℕ, false, List, ◌++◌}
use Rattle.csv.specs.declared.writer.Writer.{Writer}
use Rattle.csv.specs.Writing.{default_writer, writer_under, writer_pending, writer_setup}
use Rattle.csv.specs.Writing.{fields_written, has_written, needs_quotes}
use Rattle.std.specs.List.{AllByRecursion}

-- the bytes of a writer: those written, and those it still holds back
abbrev pub so_far : {W : Type 0} → (W → List ℕ) → Writer W → List ℕ
so_far items w = items (writer_under w) ++ writer_pending w

-- a writer between two lines
pub record IsAtLine {W : Type 0} (w : Writer W) : Type 0 where
  pub setup : writer_setup w ≡ default_writer
  pub fields : fields_written w ≡ 0
  pub clean : has_written w ≡ false

-- no field needs quotes
abbrev pub IsPlain : List ℕ → Type 0
IsPlain field = needs_quotes default_writer field ≡ false

abbrev pub ArePlain : List (List ℕ) → Type 0
ArePlain fields = AllByRecursion IsPlain fields
