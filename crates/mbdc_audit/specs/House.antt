-- The house that a file of published numbers spells (this product). Units: Unix seconds, smallest units of the
-- quantity, millionths for ratios.
use Rattle.std.specs.Prelude.{ℕ, ◌+◌, ◌-◌, ◌*◌, Bool, List, Option}
use Rattle.dc_address.specs.declared.identity.Identity.{Identity}
use Rattle.mbdc_audit.specs.declared.house.Declared.{Declared}
use Rattle.mbdc_audit.specs.declared.line.Word.{Word}
use Rattle.mbdc_audit.specs.declared.uses.Counted.{Counted}
use Rattle.mbdc_audit.specs.declared.uses.Unit.{Unit}

-- the end of a day: its number since 1970, and its minutes ahead of a week behind UTC
pub record End : Type 0 where
  pub day : ℕ
  pub offset : ℕ

abbrev pub at : End → ℕ
at e = (e.day + 1) * 86400 + 604800 - 60 * e.offset

-- a decimal as it is spelled, and the name of its unit
pub record Spelled : Type 0 where
  pub digits : ℕ
  pub decimals : ℕ
  pub unit : List ℕ

-- The source of a value. Telegrams give a current value, one stored at the end of a day, and one stored at a run's end;
-- their bodies are hex digits, with commas between them. A restarted counter begins at 0. A person or an estimate puts a
-- value at any moment, at a run's begin, or at its end.
pub data Source : Type 0 where
  current : List ℕ → Source
  stored : End → List ℕ → Source
  ended : End → List ℕ → Source
  anew : Source
  put : Bool → Spelled → Source
  first : Bool → Spelled → Source
  last : Bool → Spelled → Source

-- a value of a run, counted from 0
pub record Value : Type 0 where
  pub run : ℕ
  pub moment : ℕ
  pub amount : ℕ
  pub source : Source

-- 0 for most and size, and no digit for the VIB (in hex digits), where none is declared
pub record Run : Type 0 where
  pub identity : Identity
  pub begin : ℕ
  pub over : Option ℕ
  pub most : ℕ
  pub size : ℕ
  pub vib : List ℕ

pub record Part : Type 0 where
  pub from : ℕ
  pub to : ℕ
  pub user : Option ℕ

pub record Struck : Type 0 where
  pub run : ℕ
  pub moment : ℕ
  pub why : List ℕ

-- Which number is published: its word and, where the word has it, what it is of. Spans and uses are given by their index
-- from 0, users by number; `from` and `to` are the ends of a period, or a run (from 1) and a moment.
pub record Key : Type 0 where
  pub word : Word
  pub span : ℕ
  pub other : ℕ
  pub user : ℕ
  pub flat : List ℕ
  pub used : ℕ
  pub unit : Unit
  pub size : ℕ
  pub from : ℕ
  pub to : ℕ

-- a published number: its text, and what is beside it
pub record Number : Type 0 where
  pub key : Key
  pub text : List ℕ
  pub beside : List (List ℕ)

pub record Window : Type 0 where
  pub span : ℕ
  pub values : List Value
  pub struck : List Struck
  pub parts : List Part
  pub numbers : List Number

pub record Place : Type 0 where
  pub flat : List ℕ
  pub used : ℕ
  pub weight : ℕ
  pub runs : List Run
  pub windows : List Window

pub record Span : Type 0 where
  pub from : End
  pub to : End

pub record Use : Type 0 where
  pub name : List ℕ
  pub counts : Counted

-- a device type that counts a use, and why
pub record Allowed : Type 0 where
  pub used : ℕ
  pub kind : ℕ
  pub why : List ℕ

pub record User : Type 0 where
  pub number : ℕ
  pub flat : List ℕ
  pub area : Option ℕ

pub record House : Type 0 where
  pub label : List ℕ
  pub uses : List Use
  pub allowed : List Allowed
  pub spans : List Span
  pub facts : List Declared
  pub users : List User
  pub places : List Place
  pub numbers : List Number
