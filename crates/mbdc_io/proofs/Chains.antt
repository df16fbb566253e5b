-- Puts one after the other: no put, one put, one chain and then another; and where a chain breaks.
use Rattle.std.proofs.Common.{◌≡◌, ℕ, List, [], ◌∷◌, ◌++◌, refl, ap, ◌∙◌, sym, append_assoc, subst}
use Rattle.std.proofs.lemmas.List.{append-nil}
use Rattle.mbdc_io.specs.Chain.{IsRun, joined, IsChain, IsBroken}

pub joined-append : (front back : List (List ℕ)) → joined (front ++ back) ≡ joined front ++ joined back
joined-append [] back = refl
joined-append (piece ∷ pieces) back = ap (λ (xs : List ℕ). piece ++ xs) (joined-append pieces back) ∙ sym (append_assoc piece (joined pieces) (joined back))

module _ {S : Type 0} (puts : S → List ℕ → S → Type 0) where
  pub run-append : (old between new : S) (front back : List (List ℕ)) → IsRun puts old front between → IsRun puts between back new → IsRun puts old (front ++ back) new
  run-append old between new [] back same second = let P : S → Type 0 = λ s. IsRun puts s back new in subst P same second
  run-append old between new (piece ∷ pieces) back first second = (first.0, first.1, run-append first.0 between new pieces back first.2 second)

  -- no put
  pub chain-none : (old : S) → IsChain puts old old []
  chain-none old = record { pieces = []; parts = refl; run = refl }

  -- one put
  pub chain-one : {old new : S} {bytes : List ℕ} → puts old bytes new → IsChain puts old new bytes
  chain-one {old} {new} {bytes} put = record { pieces = bytes ∷ []; parts = sym (append-nil bytes); run = (new, put, refl) }

  -- one chain, and then another
  pub chain-both : {old between new : S} {a b : List ℕ} → IsChain puts old between a → IsChain puts between new b → IsChain puts old new (a ++ b)
  chain-both {old} {between} {new} {a} {b} first second = record {
    pieces = first.pieces ++ second.pieces;
    parts = ap (λ (xs : List ℕ). xs ++ b) first.parts ∙ ap (λ (xs : List ℕ). joined first.pieces ++ xs) second.parts ∙ sym (joined-append first.pieces second.pieces);
    run = run-append old between new first.pieces second.pieces first.run second.run;
  }

module _ {S : Type 0} (puts breaks : S → List ℕ → S → Type 0) where
  -- the put of all fails
  pub broken-one : {old new : S} {bytes : List ℕ} → breaks old bytes new → IsBroken puts breaks old new bytes
  broken-one {old} {new} {bytes} put = record { front = []; piece = bytes; rest = []; parts = sym (append-nil bytes); between = old; chain = chain-none puts old; broken = put }

  -- it breaks within the first part
  pub broken-first : {old new : S} {a : List ℕ} (b : List ℕ) → IsBroken puts breaks old new a → IsBroken puts breaks old new (a ++ b)
  broken-first b broken = record {
    front = broken.front;
    piece = broken.piece;
    rest = broken.rest ++ b;
    parts = ap (λ (xs : List ℕ). xs ++ b) broken.parts ∙ append_assoc broken.front (broken.piece ++ broken.rest) b ∙ ap (λ (xs : List ℕ). broken.front ++ xs) (append_assoc broken.piece broken.rest b);
    between = broken.between;
    chain = broken.chain;
    broken = broken.broken;
  }

  -- the first part went in, and it breaks within the second
  pub broken-second : {old between new : S} {a b : List ℕ} → IsChain puts old between a → IsBroken puts breaks between new b → IsBroken puts breaks old new (a ++ b)
  broken-second {old} {between} {new} {a} {b} first broken = record {
    front = a ++ broken.front;
    piece = broken.piece;
    rest = broken.rest;
    parts = ap (λ (xs : List ℕ). a ++ xs) broken.parts ∙ sym (append_assoc a broken.front (broken.piece ++ broken.rest));
    between = broken.between;
    chain = chain-both puts first broken.chain;
    broken = broken.broken;
  }
