-- What parts say, part by part.
use Rattle.std.proofs.Common.{◌≡◌, ◌<◌, ◌+◌, ℕ, List, [], ◌∷◌, ◌++◌, length, map, take, get_or, refl, sym, ap, ◌∙◌}
use Rattle.std.specs.Prelude.{All}
use Rattle.std.proofs.lemmas.List.{take_more}
use Rattle.mbdc_audit.specs.House.{Part}
use Rattle.mbdc_audit.specs.View.{part_of}
use Rattle.mbdc_audit.specs.declared.house.Part as part_type
use Rattle.mbdc_audit.proofs.Checks.{all_push}

map_more : (xs : List part_type.Part) (x : part_type.Part) → map part_of (xs ++ (x ∷ [])) ≡ map part_of xs ++ (part_of x ∷ [])
map_more [] x = refl
map_more (y ∷ xs) x = ap (λ (l : List Part). part_of y ∷ l) (map_more xs x)

pub same_more : (cs ps : List part_type.Part) (i : ℕ) (d new : part_type.Part) → i < length ps → map part_of cs ≡ map part_of (take i ps)
    → part_of new ≡ part_of (get_or ps i d) → map part_of (cs ++ (new ∷ [])) ≡ map part_of (take (i + 1) ps)
same_more cs ps i d new lt e is = map_more cs new
    ∙ (ap (λ (l : List Part). l ++ (part_of new ∷ [])) e
    ∙ (ap (λ (x : Part). map part_of (take i ps) ++ (x ∷ [])) is
    ∙ sym (ap (λ (l : List part_type.Part). map part_of l) (take_more ps i d lt) ∙ map_more (take i ps) (get_or ps i d))))

pub told_more : (P : Type 0) (T Q : part_type.Part → Type 0) (cs : List part_type.Part) (new : part_type.Part)
    → (P → All T cs → All Q cs) → (P → T new → Q new) → P → All T (cs ++ (new ∷ [])) → All Q (cs ++ (new ∷ []))
told_more P T Q cs new f g p all = let a = (all_push T cs new).0 all in (all_push Q cs new).1 (f p a.0, g p a.1)
