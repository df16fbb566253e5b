-- Parts that tile a time, one after another.
use Rattle.std.proofs.Common.{arith, ◌≡◌, ◌↔◌, ◌<◌, ◌≤◌, ℕ, List, [], ◌∷◌, ◌++◌, refl, sym, ◌∙◌, subst, All}
use Rattle.std.proofs.Common.{◌+◌, length, map, take, get_or}
use Rattle.std.proofs.lemmas.List.{map_more}
use Rattle.mbdc_audit.specs.House.{House, Part, Place, Span, Window}
use Rattle.mbdc_audit.specs.declared.house.Part as part_type
use Rattle.mbdc_audit.specs.Sound.{AreParts, IsUserOf, Tile, from, to}
use Rattle.mbdc_audit.specs.View.{part_of}
use Rattle.mbdc_audit.proofs.Checks.{all_cons, all_nil, all_push, link}

-- where parts have come that begin at a moment
abbrev pub end_after : ℕ → List Part → ℕ
end_after a [] = a
end_after a (p ∷ ps) = end_after p.to ps

pub end_after_push : (a : ℕ) (ps : List Part) (p : Part) → end_after a (ps ++ p ∷ []) ≡ p.to
end_after_push a [] p = refl
end_after_push a (q ∷ ps) p = end_after_push q.to ps p

pub tile_push : (a : ℕ) (ps : List Part) (p : Part)
    → (Tile a (end_after a ps) ps × ((p.from ≡ end_after a ps) × (p.from < p.to))) ↔ Tile a p.to (ps ++ p ∷ [])
tile_push a [] p = (λ r. (r.1.0, r.1.1, refl), λ t. (refl, (t.0, t.1)))
tile_push a (q ∷ ps) p =
    let more = tile_push q.to ps p in
    (λ r. (r.0.0, r.0.1, more.0 (r.0.2, r.1)), λ t. let b = more.1 t.2 in ((t.0, t.1, b.0), b.1))

rises : (a c : ℕ) (ps : List Part) → Tile a c ps → a ≤ c
rises a c [] t = omega arith
rises a c (p ∷ ps) t = let more = rises p.to c ps t.2 in omega (arith, t.0, t.1, more)

pub within : (a c : ℕ) (ps : List Part) → Tile a c ps → All (λ p. p.to ≤ c) ps
within a c [] t = all_nil (λ p. p.to ≤ c)
within a c (p ∷ ps) t = (all_cons (λ p. p.to ≤ c) p ps).1 (rises p.to c ps t.2, within p.to c ps t.2)

pub ends_there : (a c : ℕ) (ps : List Part) → Tile a c ps → end_after a ps ≡ c
ends_there a c [] t = t
ends_there a c (p ∷ ps) t = ends_there p.to c ps t.2

-- all that was checked of parts
pub tiled : (a c : ℕ) (ps : List Part) → ((Tile a (end_after a ps) ps × All (λ p. p.to ≤ c) ps) × (end_after a ps ≡ c)) ↔ Tile a c ps
tiled a c ps = (
  λ r. subst (λ (t : ℕ). Tile a t ps) r.1 r.0.0,
  λ t. ((subst (λ (e : ℕ). Tile a e ps) (sym (ends_there a c ps t)) t, within a c ps t), ends_there a c ps t),
)

-- what was checked of the first parts
abbrev pub SoFar : House → List ℕ → ℕ → ℕ → List Part → Type 0
SoFar h flat a c ps = (Tile a (end_after a ps) ps × All (λ p. p.to ≤ c) ps) × All (λ x. IsUserOf h flat x.user) ps

pub so_far_push : (h : House) (flat : List ℕ) (a c : ℕ) (ps : List Part) (p : Part)
    → SoFar h flat a c (ps ++ p ∷ [])
    ↔ (SoFar h flat a c ps × ((p.from ≡ end_after a ps) × (p.from < p.to) × (p.to ≤ c) × IsUserOf h flat p.user))
so_far_push h flat a c ps p =
    let tile = tile_push a ps p in
    let ends = all_push (λ p. p.to ≤ c) ps p in
    let users = all_push (λ x. IsUserOf h flat x.user) ps p in
    let last = end_after_push a ps p in (
      λ s.
          let t = tile.1 (subst (λ (e : ℕ). Tile a e (ps ++ p ∷ [])) last s.0.0) in
          let e = ends.0 s.0.1 in
          let u = users.0 s.1 in
          (((t.0, e.0), u.0), (t.1.0, t.1.1, e.1, u.1)),
      λ r. ((subst (λ (e : ℕ). Tile a e (ps ++ p ∷ [])) (sym last) (tile.0 (r.0.0.0, (r.1.0, r.1.1))), ends.1 (r.0.0.1, r.1.2)), users.1 (r.0.1, r.1.3)),
    )

pub so_far_step : {A B C : Type 0} (h : House) (flat : List ℕ) (a c r : ℕ) (parts : List part_type.Part) (i : ℕ) (d : part_type.Part)
    → i < length parts → r ≡ end_after a (map part_of (take i parts)) → B ↔ (A × SoFar h flat a c (map part_of (take i parts)))
    → C ↔ (B × (((get_or parts i d).from ≡ r) × ((get_or parts i d).from < (get_or parts i d).to) × ((get_or parts i d).to ≤ c)
    × IsUserOf h flat (get_or parts i d).user))
    → ((get_or parts i d).to ≡ end_after a (map part_of (take (i + 1) parts)))
    × (C ↔ (A × SoFar h flat a c (map part_of (take (i + 1) parts))))
so_far_step {A} {B} {C} h flat a c r parts i d below is before one =
    let x : Part = part_of (get_or parts i d) in
    let ps : List Part = map part_of (take i parts) in
    let more : map part_of (take (i + 1) parts) ≡ ps ++ x ∷ [] = map_more part_of parts i d below in
    let one' = subst (λ (e : ℕ). C ↔ (B × ((x.from ≡ e) × (x.from < x.to) × (x.to ≤ c) × IsUserOf h flat x.user))) is one in (
      subst (λ (qs : List Part). x.to ≡ end_after a qs) (sym more) (sym (end_after_push a ps x)),
      subst (λ (qs : List Part). C ↔ (A × SoFar h flat a c qs)) (sym more) (link before one' (so_far_push h flat a c ps x)),
    )

pub all_parts : (h : House) (p : Place) (s : Span) (w : Window) (a c r : ℕ) → a ≡ from p s → c ≡ to p s → r ≡ end_after a w.parts
    → (SoFar h p.flat a c w.parts × (r ≡ c)) ↔ AreParts h p s w
all_parts h p s w a c r is_from is_to is = (
  λ x. record {
    tile = subst (λ (t : ℕ). Tile t (to p s) w.parts) is_from (subst (λ (t : ℕ). Tile a t w.parts) is_to
        ((tiled a c w.parts).0 (x.0.0, sym is ∙ x.1)));
    users = x.0.1;
  },
  λ x.
      let t = (tiled a c w.parts).1 (subst (λ (t : ℕ). Tile t c w.parts) (sym is_from) (subst (λ (t : ℕ). Tile (from p s) t w.parts) (sym is_to) x.tile)) in
      ((t.0, x.users), is ∙ t.1),
)
