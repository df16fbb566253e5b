-- The requests that are left of a readout, after this many exchanges and losses.
use Rattle.std.proofs.Common.{◌≡◌, ℕ, ◌+◌, ◌*◌, ◌≤◌, ◌<◌, Option, Some, None, arith, refl}
use Rattle.dc_readout.specs.declared.stage.Stage.{Stage}
use Rattle.dc_readout.specs.declared.stage.Stage.TheVariants.{Resets, Selects, Requests, Pending, Ended}
use Rattle.dc_readout.specs.Session.{commands}
use Rattle.dc_readout.specs.declared.world.event.Outcome.{Outcome}
use Rattle.mbdc_theorems.specs.Readout.{losses_by, row_after}
use Rattle.dc_linkframe.specs.Frame.{FrameSeen}
use Rattle.dc_address.specs.declared.identity.Identity.{Identity}
use Rattle.dc_readout.specs.Summary.{reset_of, selection_of, request_of, asked_at}

module _ (total : ℕ) where
  -- after this many exchanges with this many losses, of which the last ones were in a row
  pub record IsLeft (done lost tries left : ℕ) : Type 0 where
    pub least : total ≤ done + left
    pub most : done + left ≤ total + lost
    pub thrice : done + 3 * left ≤ 3 * total + tries

  abbrev pub IsDue : Stage → Option ℕ → ℕ → ℕ → ℕ → ℕ → Type 0
  IsDue Resets address done lost tries left = IsLeft done lost tries (commands address + left)
  IsDue Selects None done lost tries left = IsLeft done lost tries (1 + left)
  IsDue Selects (Some a) done lost tries left = ⊥
  IsDue Requests address done lost tries left = IsLeft done lost tries left
  IsDue (Pending more) address done lost tries left = ⊥
  IsDue Ended address done lost tries left = ⊥

  pub within_due : (stage : Stage) (address : Option ℕ) (done lost tries left : ℕ) → tries < 3 → 1 ≤ left → IsDue stage address done lost tries left → (done < total + lost) × (done < 3 * total)
  within_due Resets address done lost tries left few some due = let most = due.most in let thrice = due.thrice in (omega (arith, most, some), omega (arith, thrice, few, some))
  within_due Selects None done lost tries left few some due = let most = due.most in let thrice = due.thrice in (omega (arith, most, some), omega (arith, thrice, few, some))
  within_due Selects (Some a) done lost tries left few some due = absurd due
  within_due Requests address done lost tries left few some due = let most = due.most in let thrice = due.thrice in (omega (arith, most, some), omega (arith, thrice, few, some))
  within_due (Pending more) address done lost tries left few some due = absurd due
  within_due Ended address done lost tries left few some due = absurd due

  pub one_less : (done lost tries n left : ℕ) (outcome : Outcome) → tries < 3 → IsLeft done lost tries n → n ≡ 1 + left → IsLeft (done + 1) (lost + losses_by outcome) (row_after tries outcome) left
  one_less done lost tries n left outcome few due one =
      let least = due.least in
      let most = due.most in
      let thrice = due.thrice in
      record { least = omega (arith, least, one); most = omega (arith, most, one); thrice = omega (arith, thrice, one, few) }

  pub one_lost : (done lost tries n : ℕ) (outcome : Outcome) → IsLeft done lost tries n → losses_by outcome ≡ 1 → row_after tries outcome ≡ tries + 1 → IsLeft (done + 1) (lost + losses_by outcome) (row_after tries outcome) n
  one_lost done lost tries n outcome due one more =
      let least = due.least in
      let most = due.most in
      let thrice = due.thrice in
      record { least = omega (arith, least); most = omega (arith, most, one); thrice = omega (arith, thrice, more) }

  pub some_asked : (stage : Stage) (address : Option ℕ) (done lost tries left settled : ℕ) (who : Identity) → IsDue stage address done lost tries left → (frame : FrameSeen) × (asked_at stage who address settled ≡ Some frame)
  some_asked Resets address done lost tries left settled who due = (reset_of address, refl)
  some_asked Selects address done lost tries left settled who due = (selection_of who, refl)
  some_asked Requests address done lost tries left settled who due = (request_of address settled, refl)
  some_asked (Pending more) address done lost tries left settled who due = absurd due
  some_asked Ended address done lost tries left settled who due = absurd due
