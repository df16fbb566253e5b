-- Sectors that are ahead of what an image reads as.
use Rattle.std.proofs.Common.{◌≡◌, ◌⊎◌, inl, inr, ⊎_elim, ℕ, ◌<◌, ◌≤◌, ◌+◌, ◌-◌, ◌*◌, arith, sym, subst}
use Rattle.std.proofs.lemmas.Bool.{cases_eq, cases_lt}
use Rattle.dc_sectors.specs.Disk.{Image}
use Rattle.dc_sectors.specs.declared.sector.Sector.{Sector}
use Rattle.dc_sectors.specs.declared.sector.Sector.TheVariants.{Unreadable}
use Rattle.dc_pages.specs.Group.{Carries}
use Rattle.dc_pages.proofs.OneSync.{one_stamp, lost_carries_none}
use Rattle.mbdc_log.specs.Stands.{IsFresh, IsAhead, IsFirst}

-- by the one stamp of its sector
pub ahead_by : (session last s q : ℕ) (sector : Sector) → Carries s q sector → (session < s) ⊎ (1 < q - last) → IsAhead session (last + 1) sector
ahead_by session last s q sector carries ahead = record {
  its_session = s;
  its_sequence = q;
  carries = carries;
  ahead = ⊎_elim (λ (lt : session < s). inl lt) (λ (lt : 1 < q - last). inr (omega (arith, lt))) ahead;
}

pub ahead_only : (session last s q : ℕ) (sector : Sector) → Carries s q sector → IsAhead session (last + 1) sector → (session < s) ⊎ (1 < q - last)
ahead_only session last s q sector carries is =
    let one = one_stamp s q is.its_session is.its_sequence sector carries is.carries in
    ⊎_elim (λ (lt : session < is.its_session). inl (omega (arith, lt, one.0))) (λ (lt : last + 1 < is.its_sequence). inr (omega (arith, lt, one.1))) is.ahead

pub unstamped : (session sequence : ℕ) (sector : Sector) → ((s q : ℕ) → Carries s q sector → ⊥) → IsAhead session sequence sector → ⊥
unstamped session sequence sector none is = none is.its_session is.its_sequence is.carries

pub lost_is_not : (session sequence : ℕ) (sector : Sector) → sector ≡ Unreadable → IsAhead session sequence sector → ⊥
lost_is_not session sequence sector lost is = lost_carries_none is.its_session is.its_sequence sector lost is.carries

-- no sector before this one is ahead
abbrev pub NoneBefore : ℕ → ℕ → ℕ → Image → Type 0
NoneBefore session sequence n image = (k : ℕ) → 3 ≤ k → k < n → IsAhead session sequence (image k) → ⊥

pub none_before_more : (session sequence n : ℕ) (image : Image) → NoneBefore session sequence n image → (IsAhead session sequence (image n) → ⊥) → NoneBefore session sequence (n + 1) image
none_before_more session sequence n image before not k low lt = ⊎_elim
    (λ (e : k ≡ n). subst (λ (j : ℕ). IsAhead session sequence (image j) → ⊥) (sym e) not)
    (λ (other : k ≡ n → ⊥). before k low (below other))
    (cases_eq k n)
  where
    below : (k ≡ n → ⊥) → k < n
    below other = ⊎_elim (λ (lt : k < n). lt) (λ (ge : n ≤ k). absurd (other (omega (arith, ge, lt)))) (cases_lt k n)

-- and so the image is fresh
pub none_is_fresh : (half_len session sequence : ℕ) (image : Image) → NoneBefore session sequence (3 + 2 * half_len) image → IsFresh half_len session sequence image
none_is_fresh half_len session sequence image none m s q from to carries = (
  ⊎_elim (λ (lt : session < s). absurd (none m from to (record { its_session = s; its_sequence = q; carries = carries; ahead = inl lt }))) (λ (le : s ≤ session). le) (cases_lt session s),
  ⊎_elim (λ (lt : sequence < q). absurd (none m from to (record { its_session = s; its_sequence = q; carries = carries; ahead = inr lt }))) (λ (le : q ≤ sequence). le) (cases_lt sequence q),
)

-- a fresh image has none
pub none_ahead : (half_len session sequence n : ℕ) (image : Image) → IsFresh half_len session sequence image → IsFirst half_len session sequence n image → ⊥
none_ahead half_len session sequence n image fresh first =
    let here = first.here in
    let low = fresh n here.its_session here.its_sequence first.from first.within here.carries in
    ⊎_elim (λ (lt : session < here.its_session). omega (arith, lt, low.0)) (λ (lt : sequence < here.its_sequence). omega (arith, lt, low.1)) here.ahead

-- the first is one
pub one_first : (half_len session sequence n n' : ℕ) (image : Image) → IsFirst half_len session sequence n image → IsFirst half_len session sequence n' image → n ≡ n'
one_first half_len session sequence n n' image a b = ⊎_elim
    (λ (lt : n < n'). absurd (b.before n a.from lt a.here))
    (λ (le : n' ≤ n). ⊎_elim
    (λ (lt : n' < n). absurd (a.before n' b.from lt b.here))
    (λ (ge : n ≤ n'). omega (arith, le, ge))
    (cases_lt n' n))
    (cases_lt n n')
