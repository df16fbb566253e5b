-- The pieces of a list's elements, one after the other.
use Rattle.std.proofs.Common.{◌≡◌, ℕ, ◌+◌, ◌<◌, List, [], ◌∷◌, ◌++◌, Option, length, take, drop, get_or, sym, ap, subst, ◌∙◌}
use Rattle.std.specs.List.{flat_map}
use Rattle.std.proofs.lemmas.List.{append-nil, take-append-drop, take_more, drop_more}
use Rattle.std.proofs.lemmas.List.Concat.{flat_map-append}
use Rattle.mbdc_io.specs.Written.{IsWritten, IsStopped}
use Rattle.mbdc_io.specs.declared.stream.Sink.{Ghosts}
use Rattle.mbdc_io.proofs.Writes.{written_both, stopped_first, stopped_second}

module _ {X : Type 0} (f : X → List ℕ) (xs : List X) (i : ℕ) (x : X) where
  front_more : i < length xs → x ≡ get_or xs i x → flat_map f (take (i + 1) xs) ≡ flat_map f (take i xs) ++ f x
  front_more within is =
      ap (flat_map f) (take_more xs i x within) ∙ flat_map-append f (take i xs) (get_or xs i x ∷ [])
      ∙ ap (λ (y : X). flat_map f (take i xs) ++ (f y ++ [])) (sym is) ∙ ap (λ (bytes : List ℕ). flat_map f (take i xs) ++ bytes) (append-nil (f x))

  all_parts : i < length xs → x ≡ get_or xs i x → flat_map f xs ≡ flat_map f (take i xs) ++ (f x ++ flat_map f (drop (i + 1) xs))
  all_parts within is =
      ap (flat_map f) (sym (take-append-drop i xs)) ∙ flat_map-append f (take i xs) (drop i xs)
      ∙ ap (λ (ys : List X). flat_map f (take i xs) ++ flat_map f ys) (drop_more xs i x within)
      ∙ ap (λ (y : X). flat_map f (take i xs) ++ (f y ++ flat_map f (drop (i + 1) xs))) (sym is)

  module _ {S : Type 0} {g : Ghosts S} (old mid new : S) where
    pub written_more : i < length xs → x ≡ get_or xs i x → IsWritten g old mid (flat_map f (take i xs)) → IsWritten g mid new (f x)
        → IsWritten g old new (flat_map f (take (i + 1) xs))
    written_more within is first second = subst (IsWritten g old new) (sym (front_more within is)) (written_both first second)

    pub stopped_within : i < length xs → x ≡ get_or xs i x → IsWritten g old mid (flat_map f (take i xs)) → IsStopped g mid new (f x)
        → IsStopped g old new (flat_map f xs)
    stopped_within within is first stopped =
        subst (IsStopped g old new) (sym (all_parts within is)) (stopped_second first (stopped_first (flat_map f (drop (i + 1) xs)) stopped))
