-- Lemmas for callers: how writes and syncs change the possible contents, and which images they
-- allow.
use Rattle.std.proofs.Common.{◌≡◌, ◌≢◌, ◌⊎◌, ⊎_elim, inl, inr, refl, ℕ, true, false, ◌==◌, List, []}
use Rattle.std.proofs.Common.{◌∷◌, ◌++◌, sym, subst, arith}
use Rattle.std.specs.Prelude.{if◌then◌else◌, Contains}
use Rattle.std.proofs.lemmas.Bool.Decides.{nat_tests}
use Rattle.std.proofs.lemmas.List.Elements.{Contains-append_left, Contains-append_right}
use Rattle.std.proofs.lemmas.List.Elements.{Contains-append_cases, Contains-push}
use Rattle.std.proofs.lemmas.List.Elements.{Contains-push_cases}
use Rattle.dc_sectors.specs.declared.sector.Sector.{Sector}
use Rattle.dc_sectors.specs.declared.sector.Sector.TheVariants.{Bytes, Unreadable}
use Rattle.dc_sectors.specs.Disk.{Image, Choices, IsImage, put, added, settled}

-- what is read after a write

pub put_here : (image : Image) (n : ℕ) (bytes : List ℕ) (m : ℕ) → m ≡ n
    → put image n bytes m ≡ Bytes bytes
put_here image n bytes m same = grind (arith, nat_tests)

pub put_elsewhere : (image : Image) (n : ℕ) (bytes : List ℕ) (m : ℕ) → m ≢ n
    → put image n bytes m ≡ image m
put_elsewhere image n bytes m other = grind (arith, nat_tests)

-- the possible contents after a write

pub added_here : (choices : Choices) (n : ℕ) (bytes : List ℕ) (m : ℕ) → m ≡ n
    → added choices n bytes m ≡ choices m ++ Bytes bytes ∷ Unreadable ∷ []
added_here choices n bytes m same = grind (arith, nat_tests)

pub added_elsewhere : (choices : Choices) (n : ℕ) (bytes : List ℕ) (m : ℕ) → m ≢ n
    → added choices n bytes m ≡ choices m
added_elsewhere choices n bytes m other = grind (arith, nat_tests)

-- each of these contents is one of those
abbrev pub Within : Choices → Choices → Type 0
Within c d = (m : ℕ) (s : Sector) → Contains (c m) s → Contains (d m) s

pub image_within : (c d : Choices) → Within c d → (image : Image) → IsImage c image
    → IsImage d image
image_within c d within image is = λ m. within m (image m) (is m)

-- a write removes none of the possible contents
pub within_added : (c : Choices) (n : ℕ) (bytes : List ℕ) → Within c (added c n bytes)
within_added c n bytes m s is =
    elim (m == n) as (λ here. Contains
    (if here then c m ++ Bytes bytes ∷ Unreadable ∷ [] else c m) s) [
      | true ↦ Contains-append_left (c m) (Bytes bytes ∷ Unreadable ∷ []) s is
      | false ↦ is
    ]

pub only_one : (r s : Sector) → Contains (r ∷ []) s → s ≡ r
only_one r s is = ⊎_elim (λ none. absurd (omega (arith, none.1)))
    (λ e. sym e) (Contains-push_cases [] r s is)

-- a possible image of sector n after a write is one of the old contents, the bytes or `Unreadable`
pub added_cases : (c : Choices) (n : ℕ) (bytes : List ℕ) (image : Image)
    → IsImage (added c n bytes) image → (Contains (c n) (image n) ⊎ (image n ≡ Bytes bytes))
    ⊎ (image n ≡ Unreadable)
added_cases c n bytes image is = ⊎_elim (λ old. inl (inl old))
    (λ new. ⊎_elim (λ first. inl (inr (only_one (Bytes bytes) (image n) first)))
    (λ e. inr (sym e)) (Contains-push_cases (Bytes bytes ∷ []) Unreadable (image n) new))
    (Contains-append_cases (c n) (Bytes bytes ∷ Unreadable ∷ []) (image n)
    (subst (λ (l : List Sector). Contains l (image n)) (added_here c n bytes n refl) (is n)))

-- after a sync

-- one image is possible, the one that is read
pub settled_image : (reads image : Image) → IsImage (settled reads) image → image ≡ reads
settled_image reads image is = λ i n. only_one (reads n) (image n) (is n) i

pub settled_is_image : (reads : Image) → IsImage (settled reads) reads
settled_is_image reads n = Contains-push [] (reads n)

-- a sync adds no contents, since what is read is one of them
pub settled_within : (c : Choices) (image : Image) → IsImage c image → Within (settled image) c
settled_within c image is m s only =
    subst (λ x. Contains (c m) x) (sym (only_one (image m) s only)) (is m)

-- what is read after a write is one of the possible contents
pub put_added : (c : Choices) (image : Image) (n : ℕ) (bytes : List ℕ) → IsImage c image
    → IsImage (added c n bytes) (put image n bytes)
put_added c image n bytes is m =
    let two = Bytes bytes ∷ Unreadable ∷ [] in
    elim (m == n) as (λ here. Contains (if here then c m ++ two else c m)
    (if here then Bytes bytes else image m)) [
      | true ↦ Contains-append_right (c m) two (Bytes bytes)
          (Contains-append_left (Bytes bytes ∷ []) (Unreadable ∷ []) (Bytes bytes)
          (Contains-push [] (Bytes bytes)))
      | false ↦ is m
    ]
