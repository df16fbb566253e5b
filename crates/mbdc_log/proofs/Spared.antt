-- Which writes leave the sectors outside an image as they read.
use Rattle.std.proofs.Common.{⊎_elim, ◌≡◌, ◌≢◌, ◌⊎◌, ◌<◌, ◌≤◌, ℕ, ◌+◌, ◌*◌, inl, inr, ap, ◌∙◌, arith}
use Rattle.dc_sectors.specs.Disk.{Image}
use Rattle.dc_pages.specs.declared.site.Site.{Site}
use Rattle.dc_pages.specs.PagesWriting.{SameOutside}
use Rattle.dc_roots.specs.Root.{slot}
use Rattle.mbdc_log.specs.Halves.{SparesRest}

module _ (half_len : ℕ) where
  -- no write
  pub spared_same : (old new : Image) → new ≡ old → SparesRest half_len old new
  spared_same old new same m out = ap (λ (image : Image). image m) same

  -- writes, and then others
  pub spared_through : (old mid new : Image) → SparesRest half_len old mid → SparesRest half_len mid new → SparesRest half_len old new
  spared_through old mid new first second m out = second m out ∙ first m out

  -- the write of a root
  pub spared_slot : (generation : ℕ) (old new : Image) → ((m : ℕ) → m ≢ slot generation → new m ≡ old m) → SparesRest half_len old new
  spared_slot generation old new elsewhere m out =
      elsewhere m (⊎_elim (λ (first : m < 1) (same : m ≡ slot generation). absurd (omega arith)) (λ (after : 3 + 2 * half_len ≤ m) (same : m ≡ slot generation). absurd (omega arith)) out)

  -- writes to a site within the halves
  pub spared_site : (site : Site) (old new : Image) → 1 ≤ site.first → site.limit ≤ 3 + 2 * half_len → SameOutside site old new → SparesRest half_len old new
  spared_site site old new low high elsewhere m out =
      elsewhere m (⊎_elim (λ (first : m < 1). inl (omega arith)) (λ (after : 3 + 2 * half_len ≤ m). inr (omega arith)) out)
