-- For the crates above: which root is chosen, and what the next one changes.
use Rattle.std.proofs.Common.{◌≡◌, ◌≢◌, ◌⊎◌, inl, inr, ⊎_elim, ◌≤◌, ◌+◌, ℕ, List, sym, ap, subst, ◌∙◌, arith}
use Rattle.std.specs.Prelude.{slice_index}
use Rattle.std.proofs.lemmas.Bool.{cases_eq}
use Rattle.dc_sectors.specs.declared.sector.Sector.{Sector}
use Rattle.dc_sectors.specs.declared.sector.Sector.TheVariants.{Unreadable}
use Rattle.dc_sectors.specs.Disk.{Image}
use Rattle.dc_roots.specs.declared.root.Root.{Root}
use Rattle.dc_sectors.specs.Fields.{field}
use Rattle.dc_roots.specs.Root.{IsRoot, slot}
use Rattle.dc_roots.specs.Choice.{IsChosen, IsRootWrite}
use Rattle.dc_sectors.proofs.Texts.{one_text}

-- the next generation has the other slot
pub other_slot : (generation : ℕ) → slot (generation + 1) ≢ slot generation
other_slot generation e = omega (arith, e)

pub slot_range : (generation : ℕ) → (1 ≤ slot generation) × (slot generation ≤ 2)
slot_range generation = (omega arith, omega arith)

-- a sector says one generation
pub one_generation : (a b : Root) (sector : Sector) → IsRoot a sector → IsRoot b sector → a.generation ≡ b.generation
one_generation a b sector is is' =
    let same = one_text sector is.bytes is'.bytes is.readable is'.readable in
    sym is.generation_is ∙ ap (λ (bytes : List ℕ). field 8 8 bytes) same ∙ is'.generation_is

-- an image has one chosen root
pub one_root : (a b : Root) (image : Image) → IsChosen a image → IsChosen b image → a ≡ b
one_root a b image is is' =
    let le = is.greatest b is'.here in
    let ge = is'.greatest a is.here in
    let same : b.generation ≡ a.generation = omega arith in
    let here' = subst (λ (g : ℕ). IsRoot b (image (slot g))) same is'.here in
    let text = one_text (image (slot a.generation)) is.here.bytes here'.bytes is.here.readable here'.readable in
    let version : a.version ≡ b.version = sym is.here.version_is ∙ ap (λ (bytes : List ℕ). slice_index bytes 4) text ∙ here'.version_is in
    let half : a.half ≡ b.half = sym is.here.half_is ∙ ap (λ (bytes : List ℕ). slice_index bytes 5) text ∙ here'.half_is in
    let session : a.session ≡ b.session = sym is.here.session_is ∙ ap (λ (bytes : List ℕ). field 8 16 bytes) text ∙ here'.session_is in
    let base : a.base_sequence ≡ b.base_sequence = sym is.here.base_is ∙ ap (λ (bytes : List ℕ). field 8 24 bytes) text ∙ here'.base_is in
    let half_len : a.half_len ≡ b.half_len = sym is.here.length_is ∙ ap (λ (bytes : List ℕ). field 4 32 bytes) text ∙ here'.length_is in
    let generation = sym same in
    λ i. record { version = version i; half = half i; generation = generation i; session = session i; base_sequence = base i; half_len = half_len i }

-- images that agree on the slots choose the same root
pub same_chosen : (root : Root) (a b : Image) → ((m : ℕ) → 1 ≤ m → m ≤ 2 → a m ≡ b m) → IsChosen root a → IsChosen root b
same_chosen root a b same chosen = record {
  here = subst (IsRoot root) (same (slot root.generation) (omega arith) (slot_range root.generation).1) chosen.here;
  greatest = λ other is. chosen.greatest other (subst (IsRoot other) (sym (same (slot other.generation) (omega arith) (slot_range other.generation).1)) is);
}

-- while the next root is written, the chosen one is the old one or the next one
pub chosen_step : (root next : Root) (old image : Image) → IsChosen root old → next.generation ≡ root.generation + 1 → IsRootWrite next old image
    → IsChosen root image ⊎ IsChosen next image
chosen_step root next old image chosen up write = ⊎_elim
    (λ either. inl (⊎_elim
    (λ (e : image (slot next.generation) ≡ old (slot next.generation)). same_chosen root old image (λ k low high. sym (all_old e k)) chosen)
    (λ (lost : image (slot next.generation) ≡ Unreadable). record {
      here = still;
      greatest = λ other is. ⊎_elim
          (λ (same : slot other.generation ≡ slot next.generation). absurd (no_root other (image (slot next.generation)) lost (subst (λ (k : ℕ). IsRoot other (image k)) same is)))
          (λ (not : slot other.generation ≡ slot next.generation → ⊥). chosen.greatest other (subst (IsRoot other) (write.elsewhere (slot other.generation) not) is))
          (cases_eq (slot other.generation) (slot next.generation));
    }) either))
    (λ (is_new : IsRoot next (image (slot next.generation))). inr (record {
      here = is_new;
      greatest = λ other is. ⊎_elim
          (λ (same : slot other.generation ≡ slot next.generation). let e = one_generation other next (image (slot next.generation)) (subst (λ (k : ℕ). IsRoot other (image k)) same is) is_new in omega arith)
          (λ (not : slot other.generation ≡ slot next.generation → ⊥). let le = chosen.greatest other (subst (IsRoot other) (write.elsewhere (slot other.generation) not) is) in omega arith)
          (cases_eq (slot other.generation) (slot next.generation));
    }))
    write.here
  where
    apart : slot root.generation ≢ slot next.generation
    apart e = other_slot root.generation (ap slot (sym up) ∙ sym e)

    still : IsRoot root (image (slot root.generation))
    still = subst (IsRoot root) (sym (write.elsewhere (slot root.generation) apart)) chosen.here

    no_root : (other : Root) (sector : Sector) → sector ≡ Unreadable → IsRoot other sector → ⊥
    no_root other sector lost is = let readable = is.readable in cc

    all_old : image (slot next.generation) ≡ old (slot next.generation) → (k : ℕ) → image k ≡ old k
    all_old e k = ⊎_elim (λ (here : k ≡ slot next.generation). subst (λ (j : ℕ). image j ≡ old j) (sym here) e) (λ not. write.elsewhere k not) (cases_eq k (slot next.generation))
