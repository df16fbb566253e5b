-- One reading more.
use Rattle.std.proofs.Common.{◌≡◌, ◌<◌, ℕ, ◌+◌, List, [], ◌∷◌, ◌++◌, length, suc, take, drop, Option, Some, None, Result, Ok, Err}
use Rattle.std.proofs.Common.{◌∙◌, ap, refl, sym, subst, arith}
use Rattle.std.specs.List.{All}
use Rattle.std.proofs.lemmas.List.Elements.{All-cons, All-nil, All-append}
use Rattle.std.proofs.Math.ListN.{get_or}
use Rattle.std.proofs.Math.Seq.{split_at, take-suc}
use Rattle.std.proofs.lemmas.Option.{none-some}
use Rattle.dc_sectors.specs.File.{FileState, IsReadOf}
use Rattle.dc_sectors.specs.FileCalls.{Call, Measured}
use Rattle.dc_sectors.specs.declared.sector.Sector.{Sector}
use Rattle.dc_sectors.specs.declared.sector.Sector.TheVariants.{Bytes, Unreadable}
use Rattle.dc_sectors.specs.declared.sector.ReadFault.{ReadFault}
use Rattle.dc_sectors.specs.declared.sector.ReadFault.TheVariants.{Unreadable as CannotRead, Failed}
use Rattle.dc_sectors.specs.Readings.{Reading, IsSampled, call_of, calls_after, given, measured}

pub calls_push : (kept : List Reading) (n : ℕ) (content : Sector) (before : List Call)
    → calls_after (kept ++ (n, content) ∷ []) before ≡ call_of n content ∷ calls_after kept before
calls_push [] n content before = refl
calls_push (first ∷ kept) n content before = calls_push kept n content (call_of first.0 first.1 ∷ before)

content_in : Option Sector → Sector
content_in None = Unreadable
content_in (Some content) = content

-- what a read of the disk called
pub read_called : (old : FileState) (n : ℕ) (answer : Result (List ℕ) ReadFault) (calls : List Call) (content : Sector)
    → IsReadOf old n answer calls → given answer ≡ Some content → calls ≡ call_of n content ∷ old.calls
unfolding content_in
read_called old n (Ok bytes) calls content made is =
    made.2 ∙ ap (λ (o : Option Sector). call_of n (content_in o) ∷ old.calls) is
read_called old n (Err CannotRead) calls content made is =
    made.1 ∙ ap (λ (o : Option Sector). call_of n (content_in o) ∷ old.calls) is
read_called old n (Err Failed) calls content made is = absurd (none-some content is)

measured_past : (n : ℕ) (content : Sector) (calls : List Call) → measured (call_of n content ∷ calls) ≡ measured calls
measured_past n (Bytes bytes) calls = refl
measured_past n Unreadable calls = refl

pub sampled_push : (kept : List Reading) (old new : FileState) (n : ℕ) (content : Sector) → IsSampled kept old
    → n < old.sectors → new.sectors ≡ old.sectors → new.calls ≡ call_of n content ∷ old.calls
    → IsSampled (kept ++ (n, content) ∷ []) new
sampled_push kept old new n content sampled below same called =
    let past : measured new.calls ≡ measured old.calls = ap measured called ∙ measured_past n content old.calls in
    record {
      calls = called ∙ ap (λ (calls : List Call). call_of n content ∷ calls) sampled.calls
          ∙ sym (calls_push kept n content (Measured (measured old.calls) ∷ []))
          ∙ ap (λ (m : Option ℕ). calls_after (kept ++ (n, content) ∷ []) (Measured m ∷ [])) (sym past);
      within = subst (λ (sectors : ℕ). All (λ (reading : Reading). reading.0 < sectors) (kept ++ (n, content) ∷ []))
          (sym same)
          (All-append (λ (reading : Reading). reading.0 < old.sectors) kept ((n, content) ∷ []) sampled.within
          (All-cons (λ (reading : Reading). reading.0 < old.sectors) (n, content) []
          below (All-nil (λ (reading : Reading). reading.0 < old.sectors))));
    }

-- the list of readings at one of them
pub split_reading : (kept : List Reading) (i : ℕ) → i < length kept
    → kept ≡ take i kept ++ ((get_or kept i (0, Bytes [])).0, (get_or kept i (0, Bytes [])).1) ∷ drop (i + 1) kept
split_reading kept i below =
    let next : suc i ≡ i + 1 = omega arith in
    split_at kept i (0, Bytes []) below
    ∙ ap (λ (k : ℕ). take i kept ++ get_or kept i (0, Bytes []) ∷ drop k kept) next

-- the readings up to the next one
pub again_push : (kept : List Reading) (i : ℕ) (before : List Call) → i < length kept
    → calls_after (take (i + 1) kept) before
    ≡ call_of (get_or kept i (0, Bytes [])).0 (get_or kept i (0, Bytes [])).1 ∷ calls_after (take i kept) before
again_push kept i before below =
    let one : i + 1 ≡ suc i = omega arith in
    let next : take (i + 1) kept ≡ take i kept ++ get_or kept i (0, Bytes []) ∷ [] =
    ap (λ (k : ℕ). take k kept) one ∙ take-suc kept i (0, Bytes []) below in
    ap (λ (readings : List Reading). calls_after readings before) next
    ∙ calls_push (take i kept) (get_or kept i (0, Bytes [])).0 (get_or kept i (0, Bytes [])).1 before
