-- What a look before opening establishes.
use Rattle.std.proofs.Common.{◌≡◌, ◌∙◌, ◌<◌, ◌≤◌, ℕ, Bool, true, false, Option, None, Result, Ok, Err, refl, sym, subst}
use Rattle.std.specs.Prelude.{nat_lt}
use Rattle.std.proofs.lemmas.Bool.{ltb-true, ltb-false}
use Rattle.mbdc_commands.specs.Guard.{IsReady}
use Rattle.dc_sectors.specs.Disk.{IsImage}
use Rattle.dc_sectors.specs.Runs.{IsSettled, LeavesOnly}
use Rattle.dc_sectors.specs.declared.device.Disk.{Ghosts}
use Rattle.mbdc_log.specs.Halves.{fewest_sectors, half_of}
use Rattle.mbdc_log.specs.declared.fault.OpenFault.{OpenFault}
use Rattle.mbdc_log.specs.declared.fault.OpenFault.TheVariants.{NotImage}
use Rattle.dc_core.specs.PendingImages.{EachStands}

at_least : (a b : ℕ) → (a < b → ⊥) → b ≤ a
at_least a b not = by (nat_lt a b) refl where
  by : (less : Bool) → nat_lt a b ≡ less → b ≤ a
  by true is = absurd (not (ltb-true a b is))
  by false is = ltb-false a b is

module _ {D : Type 0} (g : Ghosts D) (disk ready : D) (result : Result (Option ℕ) OpenFault) where
  -- nothing is ahead
  pub ready_so : result ≡ Ok None → (g.sectors disk < fewest_sectors → result ≡ Err NotImage) → g.sectors ready ≡ g.sectors disk
      → (g.keeps ready → result ≡ Ok None → EachStands (half_of g ready) (g.choices ready)) → g.reads ready ≡ g.reads disk → IsSettled g ready
      → LeavesOnly g disk ready (IsImage (g.choices disk)) → (g.keeps ready → g.keeps disk) → IsReady g disk ready
  ready_so is small count stands same durable spares before = record {
    stands = λ h. stands h is;
    enough = subst (λ (n : ℕ). fewest_sectors ≤ n) (sym count) (at_least (g.sectors disk) fewest_sectors (λ few. let no : Ok None ≡ Err NotImage = sym is ∙ small few in cc));
    same = same;
    durable = durable;
    spares = spares;
    before = before;
  }
