-- The blocks that an answer is cut into.
use Rattle.std.proofs.Common.{◌≡◌, ℕ, ◌+◌, ◌≤◌, List, [], ◌∷◌, ◌++◌, Option, length, take, arith, refl, sym, ◌∙◌, ap, subst, length-append}
use Rattle.std.specs.List.{All, concat}
use Rattle.std.proofs.lemmas.List.{append-nil, take_all}
use Rattle.std.proofs.lemmas.List.Elements.{All-append, All-cons, All-nil}
use Rattle.std.proofs.lemmas.List.Folds.{concat-append}
use Rattle.std.proofs.lemmas.List.Concat.{flat_map-append}
use Rattle.mbdc_io.specs.Stream.{Puts, Takes}
use Rattle.mbdc_io.proofs.Pieces.{puts-both, takes-both}
use Rattle.mbdc_bus.specs.Blocks.{Answers, IsBlock, block, blocks_bytes, most_block, most_blocks}
use Rattle.mbdc_bus.specs.Limits.{most_answer}
use Rattle.mbdc_bus.specs.Talk.{IsContent}
use Rattle.dc_readout.specs.Standing.{Standing}
use Rattle.mbdc_bus.specs.WorldLine.{Hears}
use Rattle.mbdc_bus.specs.Serving.{PutsAnswer, Serves, blocks_with}

content : (bytes : List ℕ) → concat (blocks_with bytes) ≡ bytes
content [] = refl
content (x ∷ xs) = append-nil (x ∷ xs)

together : (front back : List ℕ) → concat (blocks_with front ++ blocks_with back) ≡ front ++ back
together front back =
    concat-append (blocks_with front) (blocks_with back) ∙ ap (λ (xs : List ℕ). xs ++ concat (blocks_with back)) (content front)
    ∙ ap (λ (xs : List ℕ). front ++ xs) (content back)

each : (bytes : List ℕ) → length bytes ≤ most_block → All IsBlock (blocks_with bytes)
each [] fits = All-nil IsBlock
each (x ∷ xs) fits = All-cons IsBlock (x ∷ xs) [] (omega arith, fits) (All-nil IsBlock)

few : (front back : List ℕ) → length (blocks_with front ++ blocks_with back) ≤ most_blocks
few [] [] = omega arith
few [] (y ∷ ys) = omega arith
few (x ∷ xs) [] = omega arith
few (x ∷ xs) (y ∷ ys) = omega arith

-- the blocks of both parts, and the one of length 0
pub answered : (answer front back : List ℕ) → front ++ back ≡ answer → length front ≤ most_block → length back ≤ most_block → length answer ≤ most_answer
    → Answers (blocks_bytes (blocks_with front ++ blocks_with back) ++ 0 ∷ []) answer []
answered answer front back parts a b fits = record {
  blocks = blocks_with front ++ blocks_with back;
  are = record { each = All-append IsBlock (blocks_with front) (blocks_with back) (each front a) (each back b); few = few front back };
  parts = refl;
  kept = sym (take_all most_answer answer fits) ∙ ap (take most_answer) (sym parts ∙ sym (together front back));
}

-- one after the other they are put
pub put_in_turn : (w w1 w2 w3 : Option (List ℕ)) (answer front back : List ℕ) (n m : ℕ) → Answers (blocks_bytes (blocks_with front ++ blocks_with back) ++ 0 ∷ []) answer []
    → Puts w w1 (blocks_bytes (blocks_with front)) → Puts w1 w2 (blocks_bytes (blocks_with back)) → Puts w2 w3 (0 ∷ [])
    → n ≡ length (blocks_bytes (blocks_with front)) → m ≡ length (blocks_bytes (blocks_with back)) → PutsAnswer w w3 answer (n + m + 1)
put_in_turn w w1 w2 w3 answer front back n m blocks first second last n_is m_is =
    let a = blocks_bytes (blocks_with front) in
    let b = blocks_bytes (blocks_with back) in
    let parts : a ++ b ≡ blocks_bytes (blocks_with front ++ blocks_with back) = sym (flat_map-append block (blocks_with front) (blocks_with back)) in
    record {
      bytes = blocks_bytes (blocks_with front ++ blocks_with back) ++ 0 ∷ [];
      puts = subst (λ (xs : List ℕ). Puts w w3 (xs ++ 0 ∷ [])) parts (puts-both w w2 w3 (a ++ b) (0 ∷ []) (puts-both w w1 w2 a b first second) last);
      blocks = blocks;
      counted = omega (arith, n_is, m_is, length-append a b, length-append (a ++ b) (0 ∷ []), ap (λ (xs : List ℕ). length (xs ++ 0 ∷ [])) parts);
    }

-- a request is taken and answered
pub served : (left l1 l2 written written_after : Option (List ℕ)) (before after : List Standing) (heard request answer : List ℕ) (count put : ℕ) → Takes left l1 (count ∷ [])
    → IsContent l1 l2 count [] request → count ≤ most_block → heard ≡ request → Hears heard before after answer → PutsAnswer written written_after answer put
    → Serves left l2 written written_after before after put
served left l1 l2 written written_after before after heard request answer count put first content fits same hears puts =
    let bytes = content.bytes in
    let is : heard ≡ bytes = same ∙ content.kept ∙ take_all most_answer bytes (omega (arith, content.long, fits)) in
    record {
      request = bytes;
      takes = subst (λ n. Takes left l2 (n ∷ bytes)) (sym content.long) (takes-both left l1 l2 (count ∷ []) bytes first content.taken);
      answer = answer;
      hears = subst (λ (text : List ℕ). Hears text before after answer) is hears;
      puts = puts;
    }
