-- The text of a line, and what is beside it.
use Rattle.std.proofs.Common.{arith, ◌≡◌, ◌+◌, ◌<◌, ◌≤◌, ℕ, List, [], ◌∷◌, length, map, take, drop, get_or, refl, sym, ap, ◌∙◌}
use Rattle.std.proofs.lemmas.List.{drop_more}
use Rattle.std.proofs.lemmas.Option.{slice_get-get_or}
use Rattle.mbdc_audit.specs.House.{Number}
use Rattle.mbdc_audit.specs.declared.house.Number as number_type
use Rattle.mbdc_audit.specs.declared.line.Line.{Line}
use Rattle.mbdc_audit.specs.declared.line.Word.{Word}
use Rattle.mbdc_audit.specs.declared.line.Word.TheVariants as word
use Rattle.mbdc_audit.specs.File.{or_empty, text_at}
use Rattle.mbdc_audit.specs.View.{beside_count, key_of, number_by}

text_here : (l : Line) (n : ℕ) → n < length (map (λ f. f.now) l.fields) → get_or (map (λ f. f.now) l.fields) n [] ≡ text_at n l
text_here l n lt = ap or_empty (sym (slice_get-get_or (map (λ f. f.now) l.fields) n [] lt))

pub one_beside : (l : Line) (n : ℕ) → n < length (map (λ f. f.now) l.fields)
    → take 1 (drop n (map (λ f. f.now) l.fields)) ≡ text_at n l ∷ []
one_beside l n lt = ap (take 1) (drop_more (map (λ f. f.now) l.fields) n [] lt) ∙ ap (λ (t : List ℕ). t ∷ []) (text_here l n lt)

pub two_beside : (l : Line) (n : ℕ) → n + 1 < length (map (λ f. f.now) l.fields)
    → take 2 (drop n (map (λ f. f.now) l.fields)) ≡ text_at n l ∷ text_at (n + 1) l ∷ []
two_beside l n lt =
    ap (take 2) (drop_more (map (λ f. f.now) l.fields) n [] (omega arith))
    ∙ (ap (λ (t : List ℕ). t ∷ take 1 (drop (n + 1) (map (λ f. f.now) l.fields))) (text_here l n (omega arith))
    ∙ ap (λ (ts : List (List ℕ)). text_at n l ∷ ts) (one_beside l (n + 1) lt))

abbrev pub Beside : ℕ → Line → ℕ → Type 0
Beside c l n = take (length (take c (text_at n l ∷ text_at (n + 1) l ∷ []))) (drop n (map (λ f. f.now) l.fields))
    ≡ take c (text_at n l ∷ text_at (n + 1) l ∷ [])

pub beside : (w : Word) (l : Line) (n : ℕ) → n + beside_count w ≤ length (map (λ f. f.now) l.fields) → Beside (beside_count w) l n
beside word.Shown l n lt = one_beside l n (omega arith)
beside word.OfUser l n lt = one_beside l n (omega arith)
beside word.OfFlat l n lt = one_beside l n (omega arith)
beside word.OfHouse l n lt = two_beside l n (omega arith)
beside _ l n lt = refl

pub few : (w : Word) (a b : List ℕ) → length (take (beside_count w) (a ∷ b ∷ [])) ≡ beside_count w
few word.Shown a b = refl
few word.OfUser a b = refl
few word.OfFlat a b = refl
few word.OfHouse a b = refl
few _ a b = refl

abbrev with_beside : number_type.Number → List ℕ → List (List ℕ) → Number
with_beside n t b = record { key = key_of n; text = t; beside = b }

-- a number by the pieces of another one with its texts
pub by_texts : (n m : number_type.Number) (ts : List (List ℕ)) → n.word ≡ m.word
    → number_by n ts ≡ record { key = key_of n; text = (number_by m ts).text; beside = (number_by m ts).beside }
by_texts n m [] same = refl
by_texts n m (t ∷ more) same = ap (λ (w : Word). with_beside n t (take (beside_count w) more)) same

pub by_key : (m : number_type.Number) (ts : List (List ℕ)) → (number_by m ts).key ≡ key_of m
by_key m [] = refl
by_key m (t ∷ more) = refl
