-- The parts of a house as definitions have them, of those that the code has (this product).
use Rattle.std.specs.Prelude.{ℕ, List, [], ◌∷◌, map, flat_map, Bool, true, false, if◌then◌else◌, Option, None, Some, Result, Ok, Err, take}
use Rattle.mbdc_audit.specs.Amount.{no_text}
use Rattle.mbdc_audit.specs.declared.line.Word.{Word}
use Rattle.mbdc_audit.specs.declared.line.Word.TheVariants as word
use Rattle.mbdc_audit.specs.declared.moment.DayEnd.{DayEnd}
use Rattle.mbdc_audit.specs.declared.curve.Run as run_type
use Rattle.mbdc_audit.specs.declared.house.Value as value_type
use Rattle.mbdc_audit.specs.declared.house.Typed.{Typed}
use Rattle.mbdc_audit.specs.declared.house.Part as part_type
use Rattle.mbdc_audit.specs.declared.house.Span as span_type
use Rattle.mbdc_audit.specs.declared.house.User as user_type
use Rattle.mbdc_audit.specs.declared.house.Use as use_type
use Rattle.mbdc_audit.specs.declared.house.Allowed as allowed_type
use Rattle.mbdc_audit.specs.declared.house.House as house_type
use Rattle.mbdc_audit.specs.declared.house.Number as number_type
use Rattle.mbdc_audit.specs.declared.house.Place as place_type
use Rattle.mbdc_audit.specs.declared.house.Struck as struck_type
use Rattle.mbdc_audit.specs.declared.house.Window as window_type
use Rattle.mbdc_audit.specs.House.{Allowed, House, Key, Number, Place, Struck, Window}
use Rattle.mbdc_audit.specs.House.{End, Spelled, Source, current, stored, ended, anew, put, first, last, Value, Run, Part, Span, Use, User}

abbrev pub end_of : DayEnd → End
end_of e = record { day = e.day; offset = e.offset }

abbrev pub end_or : Option DayEnd → End
end_or None = record { day = 0; offset = 0 }
end_or (Some e) = end_of e

abbrev pub spelled_of : Typed → Spelled
spelled_of t = record { digits = t.spelled.digits; decimals = t.spelled.decimals; unit = t.unit.now }

abbrev pub spelled_in : Option Typed → Spelled
spelled_in None = no_text
spelled_in (Some t) = spelled_of t

abbrev pub put_as : (Bool → Spelled → Source) → Option Typed → Source
put_as put_by None = put_by false no_text
put_as put_by (Some t) = put_by t.is_guess (spelled_of t)

abbrev pub of_word : Word → List ℕ → Option DayEnd → Option Typed → Source
of_word word.Read bodies e t = current bodies
of_word word.Stored bodies e t = stored (end_or e) bodies
of_word word.Ended bodies e t = ended (end_or e) bodies
of_word word.First bodies e t = put_as first t
of_word word.Last bodies e t = put_as last t
of_word word.Hand bodies e t = put_as put t
of_word word.Estimated bodies e t = put_as put t
of_word _ bodies e t = anew

abbrev pub source_of : value_type.Value → Source
source_of v = of_word v.word v.bodies.now v.end v.typed

abbrev pub value_of : ℕ → value_type.Value → Value
value_of amount v = record { run = v.run; moment = v.moment; amount = amount; source = source_of v }

-- a value that has evidence
abbrev pub value_by : {E : Type 0} → value_type.Value → Result ℕ E → List Value
value_by v (Ok amount) = value_of amount v ∷ []
value_by v (Err why) = []

abbrev pub found_of : value_type.Value → List Value
found_of v = value_by v v.found

-- the same, where a telegram that came at an earlier moment too is an estimate
abbrev pub as_known : Bool → Value → Value
as_known again v = if again then record v { source = put true no_text } else v

abbrev pub known_of : value_type.Value → List Value
known_of v = map (as_known v.is_again) (found_of v)

abbrev pub known_in : List value_type.Value → List Value
known_in values = flat_map known_of values

abbrev pub run_of : run_type.Run → Run
run_of r = record { identity = r.identity; begin = r.begin; over = r.end; most = r.most; size = r.size; vib = r.vib.now }

abbrev pub part_of : part_type.Part → Part
part_of p = record { from = p.from; to = p.to; user = p.user }

abbrev pub span_of : span_type.Span → Span
span_of s = record { from = end_of s.from; to = end_of s.to }

abbrev pub user_of : user_type.User → User
user_of u = record { number = u.number; flat = u.flat.now; area = u.area }

abbrev pub use_of : use_type.Use → Use
use_of u = record { name = u.name.now; counts = u.counts }

abbrev pub struck_of : struck_type.Struck → Struck
struck_of x = record { run = x.run; moment = x.moment; why = x.why.now }

abbrev pub allowed_of : allowed_type.Allowed → Allowed
allowed_of a = record { used = a.used; kind = a.kind; why = a.why.now }

abbrev pub key_of : number_type.Number → Key
key_of n = record {
  word = n.word;
  span = n.span;
  other = n.other;
  user = n.user;
  flat = n.flat.now;
  used = n.used;
  unit = n.unit;
  size = n.size;
  from = n.from;
  to = n.to;
}

-- how many fields are beside the text
abbrev pub beside_count : Word → ℕ
beside_count word.Shown = 1
beside_count word.OfUser = 1
beside_count word.OfFlat = 1
beside_count word.OfHouse = 2
beside_count _ = 0

abbrev pub number_by : number_type.Number → List (List ℕ) → Number
number_by n [] = record { key = key_of n; text = []; beside = [] }
number_by n (text ∷ more) = record { key = key_of n; text = text; beside = take (beside_count n.word) more }

abbrev pub number_of : number_type.Number → Number
number_of n = number_by n (map (λ f. f.now) n.said)

-- a value; 0 where it has no evidence
abbrev pub amount_or_0 : {E : Type 0} → Result ℕ E → ℕ
amount_or_0 (Ok amount) = amount
amount_or_0 (Err why) = 0

abbrev pub seen_value : value_type.Value → Value
seen_value v = value_of (amount_or_0 v.found) v

abbrev pub window_of : {A : Type 0} → window_type.Window A → Window
window_of w = record {
  span = w.span;
  values = map seen_value w.values.items;
  struck = map struck_of w.struck.items;
  parts = map part_of w.parts.items;
  numbers = map number_of w.numbers.items;
}

abbrev pub place_of : {A : Type 0} → place_type.Place A → Place
place_of p = record {
  flat = p.flat.now;
  used = p.used;
  weight = p.weight;
  runs = map run_of p.runs.items;
  windows = map window_of p.windows.items;
}

-- THE HOUSE that the code has
abbrev pub house_of : {A : Type 0} → house_type.House A → House
house_of h = record {
  label = h.label.now;
  uses = map use_of h.uses.items;
  allowed = map allowed_of h.allowed.items;
  spans = map span_of h.spans.items;
  facts = h.facts.items;
  users = map user_of h.users.items;
  places = map place_of h.places.items;
  numbers = map number_of h.numbers.items;
}

-- words of telegrams, and of what is put
abbrev pub is_told_word : Word → Bool
is_told_word word.Read = true
is_told_word word.Stored = true
is_told_word word.Ended = true
is_told_word _ = false
