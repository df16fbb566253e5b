-- Bytes that are taken one after the other.
use Rattle.std.proofs.Common.{◌≡◌, ℕ, ◌+◌, ◌<◌, ◌≤◌, List, [], ◌++◌, Option, Some, None, length, take, arith, refl, ap, sym, ◌∙◌, append_assoc, length-append}
use Rattle.std.specs.Io.KnownBytes.{prepend_known}
use Rattle.mbdc_io.specs.Stream.{Takes}
use Rattle.mbdc_io.proofs.Pieces.{takes-both}
use Rattle.mbdc_bus.specs.Limits.{most_answer}
use Rattle.mbdc_bus.specs.Talk.{IsContent, IsCut}
use Rattle.mbdc_bus.proofs.Keeping.{kept_none, take-take-append}

-- no byte was taken
pub takes-none : (left : Option (List ℕ)) → Takes left left []
takes-none None = refl
takes-none (Some bytes) = refl

pub same_left : (old new : Option (List ℕ)) → Takes old new [] → new ≡ old
same_left None None is = refl
same_left None (Some bytes) is = cc
same_left (Some bytes) None is = cc
same_left (Some bytes) (Some left) is = sym is

-- a prefix of the content of a block, while this many bytes are to come
pub record SoFar (old new : Option (List ℕ)) (count left : ℕ) (before after : List ℕ) : Type 0 where
  pub bytes : List ℕ
  pub long : length bytes + left ≡ count
  pub taken : Takes old new bytes
  pub kept : after ≡ take most_answer (before ++ bytes)

pub so_far_none : (old : Option (List ℕ)) (count left : ℕ) (before : List ℕ) → left ≡ count → length before ≤ most_answer → SoFar old old count left before before
so_far_none old count left before is fits = record { bytes = []; long = omega (arith, is); taken = takes-none old; kept = kept_none most_answer before fits }

pub so_far_more : (old between new : Option (List ℕ)) (count left next : ℕ) (before held after given : List ℕ) → SoFar old between count left before held
    → Takes between new given → length given + next ≡ left → after ≡ take most_answer (held ++ given) → SoFar old new count next before after
so_far_more old between new count left next before held after given so takes long is = record {
  bytes = so.bytes ++ given;
  long = omega (arith, so.long, long, length-append so.bytes given);
  taken = takes-both old between new so.bytes given so.taken takes;
  kept = is ∙ ap (λ (xs : List ℕ). take most_answer (xs ++ given)) so.kept ∙ take-take-append most_answer (before ++ so.bytes) given ∙ ap (take most_answer) (append_assoc before so.bytes given);
}

pub so_far_all : (old new : Option (List ℕ)) (count left : ℕ) (before after : List ℕ) → left ≡ 0 → SoFar old new count left before after → IsContent old new count before after
so_far_all old new count left before after none so = record { bytes = so.bytes; long = omega (arith, none, so.long); taken = so.taken; kept = so.kept }

-- it breaks off
pub so_far_cut : (old between new : Option (List ℕ)) (count left : ℕ) (before after : List ℕ) → 0 < left → new ≡ between → SoFar old between count left before after → IsCut old new count
so_far_cut old between new count left before after some same so = record { bytes = so.bytes; short = omega (arith, some, so.long); taken = so.taken ∙ ap (prepend_known so.bytes) (sym same) }
