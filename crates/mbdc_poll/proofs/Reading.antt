-- Where nothing fails, every meter of a queue is read.
use Rattle.std.proofs.Common.{◌≡◌, ℕ, List, [], ◌∷◌, ◌++◌, drop, refl, ap, sym, subst, ◌∙◌}
use Rattle.std.specs.List.{AllByRecursion}
use Rattle.dc_address.specs.declared.identity.Identity.{Identity}
use Rattle.mbdc_poll.specs.Happening.{Happening, tells}
use Rattle.mbdc_poll.specs.declared.event.Event.{Event as Told}
use Rattle.mbdc_poll.specs.declared.event.Event.TheVariants.{Lost as is_lost}
use Rattle.mbdc_poll.specs.declared.end.End.{End}
use Rattle.mbdc_poll.specs.declared.end.End.TheVariants.{Read, Failed, Refused}
use Rattle.mbdc_poll.specs.declared.phase.Phase.{Phase}
use Rattle.mbdc_poll.specs.declared.phase.Phase.TheVariants.{Free, Busy, Pending, Over}
use Rattle.mbdc_poll.specs.Queue.{Part, part, Goes, GoesWell, IsWellTold, IsToldAs, meter_of, read_by, read_in, starts_in, stays, passes_on, starts_it, is_refused, asks_it, has_no_request, is_given_up, goes_on, is_accepted, is_put_off, fails_at_last, is_faulty, is_stored, is_unstored, stands_by, is_told, loses_it}

-- the meters that are to be started yet, and those of which it is to be written that they were read
abbrev to_start : List Identity → Phase → List Identity
to_start left Free = left
to_start left (Busy n) = drop 1 left
to_start left (Pending n) = drop 1 left
to_start left (Over end) = left

abbrev to_read : List Identity → Phase → List Identity
to_read left Free = left
to_read left (Busy n) = left
to_read left (Pending n) = left
to_read left (Over end) = meter_of end ∷ left

abbrev failed_of : Part → List Identity
failed_of (part left failed pass phase) = failed

record ReadIn (left : List Identity) (phase : Phase) (happened : List Happening) : Type 0 where
  starts : starts_in happened ≡ to_start left phase
  reads : read_in happened ≡ to_read left phase

abbrev AreRead : Part → List Happening → Type 0
AreRead (part left failed pass phase) happened = ReadIn left phase happened

told_read : (end : End) (told : Told) → IsToldAs end told → IsWellTold told → read_by told ≡ meter_of end ∷ []
told_read (Read meter) told is well = ap read_by is.3
told_read (Failed meter why) told is well = absurd (subst IsWellTold is.2 well)
told_read (Refused meter refusal) told is well = absurd (subst IsWellTold is well)

abbrev IsAtEnd : Part → Type 0
IsAtEnd (part left failed pass phase) = (left ≡ []) × (phase ≡ Free)

at_end : (last : Part) → IsAtEnd last → AreRead last []
at_end (part left failed pass phase) end =
    subst (λ (p : Phase). ReadIn left p []) (sym end.1) (record { starts = sym end.0; reads = sym end.0 })

-- the loss of a line is of no account
lost_in : (line : ℕ) (old : Part) (more : List Happening) → AreRead old more → AreRead old (tells line (is_lost line) ∷ more)
lost_in line (part left failed pass phase) more rest = record { starts = rest.starts; reads = rest.reads }

read_all : {tries line : ℕ} {old last : Part} {happened : List Happening} → Goes tries line old happened last → IsAtEnd last → failed_of old ≡ [] → AllByRecursion GoesWell happened → AreRead old happened
read_all {last = l} stays end none well = at_end l end
read_all (passes_on less goes) end none well = absurd cc
read_all (starts_it {meter = m} few goes) end none well =
    let rest = read_all goes end none well.1 in
    record { starts = ap (λ (xs : List Identity). m ∷ xs) rest.starts; reads = rest.reads }
read_all (is_refused few goes) end none well = absurd well.0
read_all (asks_it goes) end none well = let rest = read_all goes end none well.1 in record { starts = rest.starts; reads = rest.reads }
read_all (has_no_request goes) end none well = let rest = read_all goes end none well.1 in record { starts = rest.starts; reads = rest.reads }
read_all (is_given_up goes) end none well = let rest = read_all goes end none well in record { starts = rest.starts; reads = rest.reads }
read_all (goes_on on goes) end none well = let rest = read_all goes end none well.1 in record { starts = rest.starts; reads = rest.reads }
read_all (is_accepted goes) end none well = let rest = read_all goes end none well.1 in record { starts = rest.starts; reads = rest.reads }
read_all (is_put_off less goes) end none well = absurd well.0
read_all (fails_at_last most goes) end none well = absurd well.0
read_all (is_faulty goes) end none well = absurd well.0
read_all (is_stored goes) end none well = let rest = read_all goes end none well.1 in record { starts = rest.starts; reads = rest.reads }
read_all (is_unstored goes) end none well = absurd well.0
read_all (stands_by not goes) end none well = let rest = read_all goes end none well.1 in record { starts = rest.starts; reads = rest.reads }
read_all (is_told {left = ms} {end = e} {told = said} {more = hs} says goes) end none well =
    let rest = read_all goes end none well.1 in
    record { starts = rest.starts; reads = ap (λ (xs : List Identity). xs ++ read_in hs) (told_read e said says well.0) ∙ ap (λ (xs : List Identity). meter_of e ∷ xs) rest.reads }
read_all {line = l} {old = o} (loses_it {more = hs} goes) end none well = lost_in l o hs (read_all goes end none well.1)

pub all_read : (tries line : ℕ) (meters : List Identity) (happened : List Happening) (pass : ℕ) → AllByRecursion GoesWell happened → Goes tries line (part meters [] 1 Free) happened (part [] [] pass Free)
    → (starts_in happened ≡ meters) × (read_in happened ≡ meters)
all_read tries line meters happened pass well goes = let rest = read_all goes (refl, refl) refl well in (rest.starts, rest.reads)
