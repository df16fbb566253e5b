-- The steps of an image's file, some more.
use Rattle.std.proofs.Common.{◌≡◌, ◌<◌, List, [], ◌∷◌, ◌++◌, length, drop, refl, sym, ap, ◌∙◌, append_assoc, arith}
use Rattle.dc_sectors.specs.Over.{Step}
use Rattle.mbdc_files.specs.ImageFile.{Follows}

pub follows_same : (old : List Step) → Follows old old
follows_same old = ([], refl)

pub follows_to : (old mid new : List Step) → Follows old mid → new ≡ mid → Follows old new
follows_to old mid new so_far is = (so_far.0, is ∙ so_far.1)

-- one more
pub follows_more : (old mid new : List Step) → Follows old mid → 0 < length new → drop 1 new ≡ mid → Follows old new
follows_more old mid [] so_far some is = absurd (omega (arith, some))
follows_more old mid (step ∷ new) so_far some is = (step ∷ so_far.0, ap (λ (l : List Step). step ∷ l) (is ∙ so_far.1))

pub follows_then : (old mid new : List Step) → Follows old mid → Follows mid new → Follows old new
follows_then old mid new so_far next =
    (next.0 ++ so_far.0, next.1 ∙ ap (λ (l : List Step). next.0 ++ l) so_far.1 ∙ sym (append_assoc next.0 so_far.0 old))
