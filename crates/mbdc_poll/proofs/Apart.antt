-- The meters of a line's queue are apart, where those of the register ascend.
use Rattle.std.proofs.Common.{◌≡◌, ◌≢◌, ℕ, Bool, true, false, List, [], ◌∷◌, map, filter, sym, ap, ◌∙◌, if◌then◌else◌}
use Rattle.std.specs.List.{AllByRecursion}
use Rattle.std.specs.List.Sorted.{IsStrictlySortedBy}
use Rattle.std.specs.Map.{keys_of}
use Rattle.std.specs.declared.cmp.Ordering.TheVariants.{Less, Equal}
use Rattle.dc_address.specs.Identity.{identity_cmp}
use Rattle.dc_address.specs.declared.identity.Identity.{Identity}
use Rattle.dc_address.proofs.Order.{equal_to_itself}
use Rattle.mbdc_change.specs.State.{State, MeterRow}
use Rattle.mbdc_poll.specs.Planned.{is_queued, queue_on}
use Rattle.mbdc_poll.specs.Queue.{AreApart, Lacks}

less_differs : (m other : Identity) → identity_cmp m other ≡ Less → other ≢ m
less_differs m other less same = absurd (let both : Less ≡ Equal = sym less ∙ ap (identity_cmp m) same ∙ equal_to_itself m in cc)

module _ (such : (Identity × MeterRow) → Bool) where
  lacks_kept : (m : Identity) (rows : List (Identity × MeterRow)) → AllByRecursion (λ (other : Identity). identity_cmp m other ≡ Less) (keys_of rows) → Lacks m (map (λ (row : Identity × MeterRow). row.0) (filter such rows))
  lacks_kept m [] less = tt
  lacks_kept m (row ∷ rows) less = by_such (lacks_kept m rows less.1) (such row)
    where
      by_such : Lacks m (map (λ (r : Identity × MeterRow). r.0) (filter such rows)) → (b : Bool) → Lacks m (map (λ (r : Identity × MeterRow). r.0) (if b then row ∷ filter such rows else filter such rows))
      by_such rest true = (less_differs m row.0 less.0, rest)
      by_such rest false = rest

  apart_kept : (rows : List (Identity × MeterRow)) → IsStrictlySortedBy identity_cmp (keys_of rows) → AreApart (map (λ (row : Identity × MeterRow). row.0) (filter such rows))
  unfolding IsStrictlySortedBy
  apart_kept [] sorted = tt
  apart_kept (row ∷ rows) sorted = by_such (lacks_kept row.0 rows sorted.0) (apart_kept rows sorted.1) (such row)
    where
      by_such : Lacks row.0 (map (λ (r : Identity × MeterRow). r.0) (filter such rows)) → AreApart (map (λ (r : Identity × MeterRow). r.0) (filter such rows)) → (b : Bool) → AreApart (map (λ (r : Identity × MeterRow). r.0) (if b then row ∷ filter such rows else filter such rows))
      by_such lacks rest true = (lacks, rest)
      by_such lacks rest false = rest

pub queue_apart : (state : State) (only : List Identity) (line : ℕ) (lost : Bool) → IsStrictlySortedBy identity_cmp (keys_of state.meters) → AreApart (queue_on state only line lost)
queue_apart state only line true sorted = tt
queue_apart state only line false sorted = apart_kept (is_queued line only) state.meters sorted
