-- Tokens that a loop writes: those so far, and those that are left.
use Rattle.std.proofs.Common.{◌≡◌, List, [], ◌++◌, ap, sym, ◌∙◌, append_assoc, append-nil}
use Rattle.json.specs.Token.{Token}
use Rattle.mbdc_io.specs.declared.stream.Sink.{Ghosts}
use Rattle.mbdc_decode.specs.declared.tokens.writer.TokenWriter.{TokenWriter}
use Rattle.mbdc_decode.specs.Writing.{Added}
use Rattle.mbdc_decode.proofs.Adding.{◌>>◌, unchanged, said}

-- the tokens so far and those that are left make the whole
pub record Rest {S : Type 0} (g : Ghosts S) (old new : TokenWriter S) (left all : List Token) : Type 0 where
  pub done : List Token
  pub added : Added g old new done
  pub rest : done ++ left ≡ all

module _ {S : Type 0} {g : Ghosts S} where
  pub rest_begun : {old : TokenWriter S} {left all : List Token} → left ≡ all → Rest g old old left all
  rest_begun {old} {left} {all} is = record { done = []; added = unchanged; rest = is }

  pub rest_more : {old mid new : TokenWriter S} {left others all piece : List Token} → Rest g old mid left all → left ≡ piece ++ others → Added g mid new piece → Rest g old new others all
  rest_more {old} {mid} {new} {left} {others} {all} {piece} before is added = record {
    done = before.done ++ piece;
    added = before.added >> added;
    rest = append_assoc before.done piece others ∙ ap (λ (ts : List Token). before.done ++ ts) (sym is) ∙ before.rest;
  }

  pub rest_all : {old new : TokenWriter S} {left all : List Token} → Rest g old new left all → left ≡ [] → Added g old new all
  rest_all {old} {new} {left} {all} before is =
      said all before.added (sym (append-nil before.done) ∙ ap (λ (ts : List Token). before.done ++ ts) (sym is) ∙ before.rest)
