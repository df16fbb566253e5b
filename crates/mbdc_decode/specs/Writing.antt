-- What the tokens that are written make of a sink (RFC 8259; this product).
use Rattle.std.specs.Prelude.{◌≡◌, ℕ, List, Bool, true, false, fold}
use Rattle.json.specs.Print.{ends, print_from}
use Rattle.json.specs.Token.{Token}
use Rattle.mbdc_io.specs.Failures.{HasRisen}
use Rattle.mbdc_io.specs.Stream.{Puts, PutsFront}
use Rattle.mbdc_io.specs.declared.stream.Sink.{Ghosts}
use Rattle.mbdc_decode.specs.declared.tokens.writer.TokenWriter.{TokenWriter}

-- These bytes went in; if a put has failed, a prefix of them did. Where one had failed before, nothing did.
abbrev pub Went : {S : Type 0} → Ghosts S → S → S → List ℕ → Bool → Bool → Type 0
Went g old new bytes false false = Puts (g.written old) (g.written new) bytes
    × (g.put_failures new ≡ g.put_failures old)
Went g old new bytes false true = PutsFront (g.written old) (g.written new) bytes
    × HasRisen (g.put_failures old) (g.put_failures new)
Went g old new bytes true stopped = (new ≡ old) × (stopped ≡ true)

-- these bytes of a token were put
pub record Sent {S : Type 0} (g : Ghosts S) (old new : TokenWriter S) (bytes : List ℕ) : Type 0 where
  pub name : new.out.ghost_name ≡ old.out.ghost_name
  pub after_value : new.after_value ≡ old.after_value
  pub went : Went g old.out.now new.out.now bytes old.is_stopped new.is_stopped

-- whether the last of tokens ended a value
abbrev pub ended : Bool → List Token → Bool
ended after_value tokens = fold (λ _ t. ends t) after_value tokens

-- these tokens were written, with the commas and colons between them
pub record Added {S : Type 0} (g : Ghosts S) (old new : TokenWriter S) (tokens : List Token) : Type 0 where
  pub name : new.out.ghost_name ≡ old.out.ghost_name
  pub after_value : new.after_value ≡ ended old.after_value tokens
  pub went : Went g old.out.now new.out.now
      (print_from old.after_value tokens) old.is_stopped new.is_stopped
