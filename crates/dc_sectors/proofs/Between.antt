-- A file in which no sector returns to what it held.
use Rattle.std.proofs.Common.{◌≡◌, ℕ, List, [], ◌∷◌, Option, ◌∙◌, refl, sym, subst, arith}
use Rattle.std.proofs.lemmas.List.Elements.{All-head, All-tail}
use Rattle.std.specs.List.{All}
use Rattle.dc_sectors.specs.Disk.{Image}
use Rattle.dc_sectors.specs.File.{AnswersAs, KeepsRule, events_of, noted}
use Rattle.dc_sectors.specs.FileCalls.{Call, Measured}
use Rattle.dc_sectors.specs.Record.{reads_after}
use Rattle.dc_sectors.specs.declared.event.Event.{Event}
use Rattle.dc_sectors.specs.declared.sector.Sector.{Sector}
use Rattle.dc_sectors.specs.declared.sector.Sector.TheVariants.{Bytes, Unreadable}
use Rattle.dc_sectors.specs.Instant.{NeverReturns, StandsAcross}
use Rattle.dc_sectors.specs.Readings.{Reading, call_of, calls_after}

at_instant : (file : ℕ → Image) (instant : ℕ) (reading : Reading) → NeverReturns file
    → StandsAcross file instant reading → file instant reading.0 ≡ reading.1
at_instant file instant reading never across =
    never reading.0 across.0 instant across.1 across.2 across.3 (across.4 ∙ sym across.5) ∙ across.4

answered : (image : Image) (n : ℕ) (content : Sector) → image n ≡ content → AnswersAs image (call_of n content)
answered image n (Bytes bytes) is = λ m at whole.
    let same : n ≡ m = omega (arith, at) in
    subst (λ (k : ℕ). image k ≡ Bytes bytes) same is
answered image n Unreadable is = λ m at whole.
    let same : n ≡ m = omega (arith, at) in
    subst (λ (k : ℕ). image k ≡ Unreadable) same is

no_event : (events : List Event) (n : ℕ) (content : Sector) → noted events (call_of n content) ≡ events
no_event events n (Bytes bytes) = refl
no_event events n Unreadable = refl

keeps_more : (file : ℕ → Image) (instant : ℕ) (kept : List Reading) (earlier : List Call) → NeverReturns file
    → All (StandsAcross file instant) kept → events_of earlier ≡ [] → KeepsRule (file instant) earlier
    → KeepsRule (file instant) (calls_after kept earlier)
keeps_more file instant [] earlier never across none keeps = keeps
keeps_more file instant (reading ∷ kept) earlier never across none keeps =
    let image = file instant in
    let here : AnswersAs image (call_of reading.0 reading.1) =
    answered image reading.0 reading.1 (at_instant file instant reading never (All-head (StandsAcross file instant) reading kept across)) in
    let then : AnswersAs (reads_after image (events_of earlier)) (call_of reading.0 reading.1) =
    subst (λ (events : List Event). AnswersAs (reads_after image events) (call_of reading.0 reading.1)) (sym none) here in
    keeps_more file instant kept (call_of reading.0 reading.1 ∷ earlier) never (All-tail (StandsAcross file instant) reading kept across)
    (no_event (events_of earlier) reading.0 reading.1 ∙ none) (keeps, then)

pub stood_between : (file : ℕ → Image) (instant : ℕ) (bytes : Option ℕ) (kept : List Reading) → NeverReturns file
    → All (StandsAcross file instant) kept → KeepsRule (file instant) (calls_after kept (Measured bytes ∷ []))
stood_between file instant bytes kept never across = keeps_more file instant kept (Measured bytes ∷ []) never across refl (_, _)
