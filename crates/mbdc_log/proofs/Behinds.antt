-- One answer is right for an image: the first sector that is ahead, or none.
use Rattle.std.proofs.Common.{◌≡◌, ℕ, suc, ◌+◌, ◌≤◌, Option, Some, None, ap, subst, refl}
use Rattle.dc_sectors.specs.Disk.{Image}
use Rattle.dc_roots.specs.declared.root.Root.{Root}
use Rattle.mbdc_log.specs.Behind.{IsBehind, IsBehindAt}
use Rattle.mbdc_log.specs.Stands.{IsFirst, IsFirstAhead, IsRead, StandsBy}
use Rattle.mbdc_log.proofs.Ahead.{none_ahead, one_first}
use Rattle.mbdc_log.proofs.Refusals.{one_reading}
use Rattle.mbdc_log.proofs.Steps.{read_behind, read_fresh}
use Rattle.mbdc_io.specs.declared.kept.kept.Language.{Ghosts as Language}

module _ {K : Type 0} (lang : Language K) where
  -- what was read, and the first sector that is ahead of it
  pub read_tells : (half_len : ℕ) (root : Root) (place last : ℕ) (state : lang.State) (image : Image) (ahead : Option ℕ) → IsRead lang half_len root place last state image
      → IsFirstAhead half_len root.session (last + 1) ahead image → IsBehindAt lang half_len ahead image
  read_tells half_len root place last state image None read fresh =
      (state, record { root = root; m = read.m; place = place; by = read_fresh lang half_len root place last state image read fresh })
  read_tells half_len root place last state image (Some n) read first = read_behind lang half_len root place last n state image read first

  module _ (half_len : ℕ) (most : half_len ≤ 65536) (image : Image) where
    -- what stands is not behind
    stands_not_behind : (n : ℕ) (root : Root) (m place : ℕ) (state : lang.State) → IsBehind lang half_len n image → StandsBy lang half_len root m place state image → ⊥
    stands_not_behind n root m place state behind by =
        let same = one_reading lang half_len most image root behind.root m behind.m place behind.place state behind.state by.reads behind.by in
        let there : IsFirst half_len root.session (root.base_sequence + suc behind.m) n image = subst (λ (r : Root). IsFirst half_len r.session (r.base_sequence + suc behind.m) n image) same.0 behind.first in
        none_ahead half_len root.session (root.base_sequence + suc m) n image by.fresh (subst (λ (j : ℕ). IsFirst half_len root.session (root.base_sequence + suc j) n image) same.1 there)

    one_sector : (n n' : ℕ) → IsBehind lang half_len n image → IsBehind lang half_len n' image → n ≡ n'
    one_sector n n' a b =
        let same = one_reading lang half_len most image a.root b.root a.m b.m a.place b.place a.state b.state a.by b.by in
        let there : IsFirst half_len a.root.session (a.root.base_sequence + suc b.m) n' image = subst (λ (r : Root). IsFirst half_len r.session (r.base_sequence + suc b.m) n' image) same.0 b.first in
        one_first half_len a.root.session (a.root.base_sequence + suc a.m) n n' image a.first
        (subst (λ (j : ℕ). IsFirst half_len a.root.session (a.root.base_sequence + suc j) n' image) same.1 there)

    pub one_behind : (ahead other : Option ℕ) → IsBehindAt lang half_len ahead image → IsBehindAt lang half_len other image → ahead ≡ other
    one_behind None None a b = refl
    one_behind None (Some n) a b = absurd (stands_not_behind n a.1.root a.1.m a.1.place a.0 b a.1.by)
    one_behind (Some n) None a b = absurd (stands_not_behind n b.1.root b.1.m b.1.place b.0 a b.1.by)
    one_behind (Some n) (Some n') a b = ap Some (one_sector n n' a b)
