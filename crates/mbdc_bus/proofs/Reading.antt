-- An answer is taken block by block.
use Rattle.std.proofs.Common.{◌≡◌, ℕ, ◌+◌, ◌<◌, ◌≤◌, List, [], ◌∷◌, ◌++◌, Option, length, take, arith, refl, ap, sym, ◌∙◌, append-nil, length-append, subst}
use Rattle.std.specs.List.{All, concat}
use Rattle.std.specs.Io.KnownBytes.{prepend_known}
use Rattle.std.proofs.lemmas.List.Elements.{All-append, All-cons, All-nil}
use Rattle.std.proofs.lemmas.List.Folds.{concat-append}
use Rattle.std.proofs.lemmas.List.Concat.{flat_map-append}
use Rattle.mbdc_io.specs.Stream.{Takes}
use Rattle.mbdc_io.proofs.Pieces.{takes-both}
use Rattle.mbdc_bus.specs.Blocks.{AreBlocks, IsBlock, block, blocks_bytes, kept_of, most_block, most_blocks}
use Rattle.mbdc_bus.specs.Limits.{most_answer}
use Rattle.mbdc_bus.specs.Talk.{IsContent, IsCut, TakesAnswer, TakesFront}
use Rattle.mbdc_bus.proofs.Keeping.{length-kept, take-take-append}
use Rattle.mbdc_bus.proofs.Taking.{takes-none}

-- this many blocks were taken
pub record Reading (old new : Option (List ℕ)) (count : ℕ) (answer : List ℕ) : Type 0 where
  pub blocks : List (List ℕ)
  pub each : All IsBlock blocks
  pub many : length blocks ≡ count
  pub taken : Takes old new (blocks_bytes blocks)
  pub kept : answer ≡ kept_of blocks

pub are : {old new : Option (List ℕ)} {count : ℕ} {answer : List ℕ} → (so : Reading old new count answer) → count ≤ most_blocks → AreBlocks so.blocks
are so few = record { each = so.each; few = omega (arith, so.many, few) }

pub reading_none : (old : Option (List ℕ)) (answer : List ℕ) → answer ≡ [] → Reading old old 0 answer
reading_none old answer is = record { blocks = []; each = All-nil IsBlock; many = refl; taken = takes-none old; kept = is }

-- what is kept has room
pub reading_fits : (old new : Option (List ℕ)) (count : ℕ) (answer : List ℕ) → Reading old new count answer → length answer ≤ most_answer
reading_fits old new count answer so = subst (λ (xs : List ℕ). length xs ≤ most_answer) (sym so.kept) (length-kept most_answer (concat so.blocks))

-- one block more
blocks_more : (blocks : List (List ℕ)) (bytes : List ℕ) → blocks_bytes blocks ++ (length bytes ∷ bytes) ≡ blocks_bytes (blocks ++ bytes ∷ [])
blocks_more blocks bytes = sym (flat_map-append block blocks (bytes ∷ []) ∙ ap (λ (xs : List ℕ). blocks_bytes blocks ++ xs) (append-nil (block bytes)))

concat_more : (blocks : List (List ℕ)) (bytes : List ℕ) → concat blocks ++ bytes ≡ concat (blocks ++ bytes ∷ [])
concat_more blocks bytes = sym (concat-append blocks (bytes ∷ []) ∙ ap (λ (xs : List ℕ). concat blocks ++ xs) (append-nil bytes))

pub reading_more : (old a b new : Option (List ℕ)) (number count next : ℕ) (held after : List ℕ) → Reading old a number held → Takes a b (count ∷ []) → 0 < count → count ≤ most_block
    → IsContent b new count held after → next ≡ number + 1 → Reading old new next after
reading_more old a b new number count next held after so length_is some fits content next_is =
    let long : count ∷ [] ≡ length content.bytes ∷ [] = ap (λ (n : ℕ). n ∷ []) (sym content.long) in
    let both = takes-both a b new (count ∷ []) content.bytes length_is content.taken in
    let whole = takes-both old a new (blocks_bytes so.blocks) (count ∷ content.bytes) so.taken both in
    record {
      blocks = so.blocks ++ content.bytes ∷ [];
      each = All-append IsBlock so.blocks (content.bytes ∷ []) so.each (All-cons IsBlock content.bytes [] (omega (arith, some, content.long), omega (arith, fits, content.long)) (All-nil IsBlock));
      many = length-append so.blocks (content.bytes ∷ []) ∙ omega (arith, so.many, next_is);
      taken = subst (λ (xs : List ℕ). Takes old new xs) (ap (λ (n : ℕ). blocks_bytes so.blocks ++ (n ∷ content.bytes)) (sym content.long) ∙ blocks_more so.blocks content.bytes) whole;
      kept = content.kept ∙ ap (λ (xs : List ℕ). take most_answer (xs ++ content.bytes)) so.kept ∙ take-take-append most_answer (concat so.blocks) content.bytes ∙ ap (take most_answer) (concat_more so.blocks content.bytes);
    }

-- the block of length 0
pub reading_done : (old a new : Option (List ℕ)) (number count : ℕ) (held : List ℕ) → Reading old a number held → number ≤ most_blocks → Takes a new (count ∷ []) → count ≡ 0 → TakesAnswer old new held
reading_done old a new number count held so few length_is zero_is = record {
  blocks = so.blocks;
  are = are so few;
  taken = takes-both old a new (blocks_bytes so.blocks) (0 ∷ []) so.taken (subst (λ (n : ℕ). Takes a new (n ∷ [])) zero_is length_is);
  kept = so.kept;
}

-- ---- it breaks off

-- before a length
pub front_none : (old a new : Option (List ℕ)) (number : ℕ) (held : List ℕ) → Reading old a number held → number ≤ most_blocks → new ≡ a → TakesFront old new
front_none old a new number held so few same = record {
  blocks = so.blocks;
  are = are so few;
  front = [];
  is_front = tt;
  taken = subst (λ (xs : List ℕ). Takes old new xs) (sym (append-nil (blocks_bytes so.blocks))) (so.taken ∙ ap (prepend_known (blocks_bytes so.blocks)) (sym same));
}

-- before anything
pub front_nothing : (old : Option (List ℕ)) → TakesFront old old
front_nothing old = front_none old old old 0 [] (reading_none old [] refl) (omega arith) refl

-- within a content
pub front_cut : (old a b new : Option (List ℕ)) (number count : ℕ) (held : List ℕ) → Reading old a number held → number < most_blocks → Takes a b (count ∷ []) → IsCut b new count → TakesFront old new
front_cut old a b new number count held so few length_is cut = record {
  blocks = so.blocks;
  are = are so (omega (arith, few));
  front = count ∷ cut.bytes;
  is_front = (cut.short, λ all. absurd (omega (arith, all, so.many, few)));
  taken = takes-both old a new (blocks_bytes so.blocks) (count ∷ cut.bytes) so.taken (takes-both a b new (count ∷ []) cut.bytes length_is cut.taken);
}

-- after the length of one too many
pub front_past : (old a new : Option (List ℕ)) (number count : ℕ) (held : List ℕ) → Reading old a number held → number ≡ most_blocks → Takes a new (count ∷ []) → 0 < count → TakesFront old new
front_past old a new number count held so all length_is some = record {
  blocks = so.blocks;
  are = are so (omega (arith, all));
  front = count ∷ [];
  is_front = (some, λ _. refl);
  taken = takes-both old a new (blocks_bytes so.blocks) (count ∷ []) so.taken length_is;
}
