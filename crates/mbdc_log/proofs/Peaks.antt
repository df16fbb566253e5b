-- The greatest number that sectors carry, one sector more.
use Rattle.std.proofs.Common.{◌≡◌, ◌⊎◌, inl, inr, ⊎_elim, ℕ, ◌<◌, ◌≤◌, ◌+◌, arith, sym, subst}
use Rattle.std.proofs.lemmas.Bool.{cases_eq, cases_lt}
use Rattle.dc_sectors.specs.Disk.{Image}
use Rattle.dc_sectors.specs.declared.sector.Sector.{Sector}
use Rattle.mbdc_log.specs.Greatest.{IsPeak}
use Rattle.mbdc_log.specs.declared.greatest.Peak.{Peak}

-- the numbers of the sectors before n, and of sector n, are at most this
most_on : (Has : ℕ → Sector → Type 0) (n top : ℕ) (image : Image) → ((m w : ℕ) → 3 ≤ m → m < n → Has w (image m) → w ≤ top) → ((w : ℕ) → Has w (image n) → w ≤ top)
    → (m w : ℕ) → 3 ≤ m → m < n + 1 → Has w (image m) → w ≤ top
most_on Has n top image before here m w low lt has = ⊎_elim
    (λ (e : m ≡ n). here w (subst (λ (k : ℕ). Has w (image k)) e has))
    (λ (other : m ≡ n → ⊥). before m w low (⊎_elim (λ (below : m < n). below) (λ (ge : n ≤ m). absurd (other (omega (arith, ge, lt)))) (cases_lt m n)) has)
    (cases_eq m n)

stays : (Has : ℕ → Sector → Type 0) (n : ℕ) (peak : Peak) (image : Image) → IsPeak Has n peak image → ((w : ℕ) → Has w (image n) → w ≤ peak.number) → IsPeak Has (n + 1) peak image
stays Has n peak image is here = record {
  most = most_on Has n peak.number image is.most here;
  there = ⊎_elim (λ (none : peak.number ≡ 0). inl none) (λ (at : (3 ≤ peak.sector) × (peak.sector < n) × Has peak.number (image peak.sector)). let lt = at.1 in inr (at.0, omega (arith, lt), at.2)) is.there;
}

-- a sector that carries none
pub past : (Has : ℕ → Sector → Type 0) (n : ℕ) (peak : Peak) (image : Image) → IsPeak Has n peak image → ((w : ℕ) → Has w (image n) → ⊥) → IsPeak Has (n + 1) peak image
past Has n peak image is none = stays Has n peak image is (λ w has. absurd (none w has))

-- a sector that carries one
pub over : (Has : ℕ → Sector → Type 0) (n number : ℕ) (was now : Peak) (image : Image) → 3 ≤ n → IsPeak Has n was image → Has number (image n) → ((w : ℕ) → Has w (image n) → w ≡ number)
    → (was.number < number → (now.number ≡ number) × (now.sector ≡ n)) → (number ≤ was.number → now ≡ was) → IsPeak Has (n + 1) now image
over Has n number was now image from is has only greater same = ⊎_elim
    (λ (lt : was.number < number).
    let taller = greater lt in
    let at = taller.1 in
    let top = taller.0 in
    record {
      most = most_on Has n now.number image (λ m w low before it. let le = is.most m w low before it in omega (arith, le, lt, top)) (λ w it. let e = only w it in omega (arith, e, top));
      there = inr (omega (arith, at, from), omega (arith, at), subst (λ (k : ℕ). Has now.number (image k)) (sym at) (subst (λ (v : ℕ). Has v (image n)) (sym top) has));
    })
    (λ (le : number ≤ was.number). subst (λ (p : Peak). IsPeak Has (n + 1) p image) (sym (same le)) (stays Has n was image is (λ w it. let e = only w it in omega (arith, e, le))))
    (cases_lt was.number number)

-- no sector yet
pub no_peak : (Has : ℕ → Sector → Type 0) (peak : Peak) (image : Image) → peak.number ≡ 0 → IsPeak Has 3 peak image
no_peak Has peak image none = record { most = λ m w low lt has. absurd (omega (arith, low, lt)); there = inl none }
