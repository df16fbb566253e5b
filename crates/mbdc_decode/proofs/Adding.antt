-- Tokens that are written one after the other.
use Rattle.std.proofs.Common.{◌≡◌, ℕ, List, [], ◌∷◌, ◌++◌, Bool, true, false, cond, refl, ap, sym, ◌∙◌, subst, append-nil, append_assoc}
use Rattle.json.specs.Print.{begins, ends, print, print_from, quoted, separator, token_text}
use Rattle.json.specs.Token.{Token, key}
use Rattle.json.proofs.Printed.Tokens.{print_from-append}
use Rattle.mbdc_io.specs.Failures.{HasRisen}
use Rattle.mbdc_io.specs.Stream.{PutsFront}
use Rattle.mbdc_io.specs.declared.stream.Sink.{Ghosts}
use Rattle.mbdc_io.proofs.Pieces.{puts-both, puts-none, puts_front-first, puts_front-second}
use Rattle.mbdc_decode.specs.declared.tokens.writer.TokenWriter.{TokenWriter}
use Rattle.mbdc_decode.specs.Writing.{Went, Sent, Added, ended}

-- ---- bytes

module _ {S : Type 0} (g : Ghosts S) where
  pub went-none : (s : S) (stopped : Bool) → Went g s s [] stopped stopped
  went-none s false = (puts-none (g.written s), refl)
  went-none s true = (refl, refl)

  pub went-both : (os ms ns : S) (o m n : Bool) (a b : List ℕ) → Went g os ms a o m → Went g ms ns b m n → Went g os ns (a ++ b) o n
  went-both os ms ns false false false a b first second =
      (puts-both (g.written os) (g.written ms) (g.written ns) a b first.0 second.0, second.1 ∙ first.1)
  went-both os ms ns false false true a b first second =
      (puts_front-second a first.0 second.0, let P : ℕ → Type 0 = λ k. HasRisen k (g.put_failures ns) in subst P first.1 second.1)
  went-both os ms ns false true false a b first second = absurd cc
  went-both os ms ns false true true a b first second =
      let P : S → Type 0 = λ s. PutsFront (g.written os) (g.written s) (a ++ b) × HasRisen (g.put_failures os) (g.put_failures s) in
      subst P (sym second.0) (puts_front-first b first.0, first.1)
  went-both os ms ns true true n a b first second = (second.0 ∙ first.0, second.1)
  went-both os ms ns true false n a b first second = absurd cc

  pub said_bytes : (os ns : S) (o n : Bool) (a b : List ℕ) → Went g os ns a o n → a ≡ b → Went g os ns b o n
  said_bytes os ns o n a b went is = let P : List ℕ → Type 0 = λ s. Went g os ns s o n in subst P is went

module _ {S : Type 0} {g : Ghosts S} where
  infixr 10 ◌&&&◌
  pub ◌&&&◌ : {old mid new : TokenWriter S} {a b : List ℕ} → Sent g old mid a → Sent g mid new b → Sent g old new (a ++ b)
  ◌&&&◌ {old} {mid} {new} {a} {b} first second = record {
    name = second.name ∙ first.name;
    after_value = second.after_value ∙ first.after_value;
    went = went-both g old.out.now mid.out.now new.out.now old.is_stopped mid.is_stopped new.is_stopped a b first.went second.went;
  }

  pub sent_as : {old new : TokenWriter S} {a : List ℕ} (b : List ℕ) → Sent g old new a → a ≡ b → Sent g old new b
  sent_as {old} {new} {a} b sent is = let P : List ℕ → Type 0 = λ s. Sent g old new s in subst P is sent

  -- ---- tokens

  infixr 10 ◌>>◌
  pub ◌>>◌ : {old mid new : TokenWriter S} {a b : List Token} → Added g old mid a → Added g mid new b → Added g old new (a ++ b)
  ◌>>◌ {old} {mid} {new} {a} {b} first second = record {
    name = second.name ∙ first.name;
    after_value = second.after_value ∙ ap (λ (v : Bool). ended v b) first.after_value ∙ sym (ended-append old.after_value a b);
    went =
        said_bytes g old.out.now new.out.now old.is_stopped new.is_stopped _ _
        (went-both g old.out.now mid.out.now new.out.now old.is_stopped mid.is_stopped new.is_stopped (print_from old.after_value a) (print_from mid.after_value b) first.went second.went)
        (ap (λ (v : Bool). print_from old.after_value a ++ print_from v b) first.after_value ∙ sym (print_from-append old.after_value a b));
  }
    where
      ended-append : (v : Bool) (ts us : List Token) → ended v (ts ++ us) ≡ ended (ended v ts) us
      ended-append v [] us = refl
      ended-append v (t ∷ ts) us = ended-append (ends t) ts us

  -- no tokens
  pub unchanged : {old : TokenWriter S} → Added g old old []
  unfolding print_from
  unchanged {old} = record { name = refl; after_value = refl; went = went-none g old.out.now old.is_stopped }

  -- by other words
  pub said : {old new : TokenWriter S} {a : List Token} (b : List Token) → Added g old new a → a ≡ b → Added g old new b
  said {old} {new} {a} b added is = let P : List Token → Type 0 = λ ts. Added g old new ts in subst P is added

  -- a token, with the comma before it
  pub token_added : {old mid new : TokenWriter S} {bytes : List ℕ} (t : Token) → Sent g old mid bytes → new ≡ record mid { after_value = ends t }
      → bytes ≡ separator old.after_value t ++ token_text t → Added g old new (t ∷ [])
  unfolding print_from
  token_added {old} {mid} {new} {bytes} t sent is text = record {
    name = ap (λ (w : TokenWriter S). w.out.ghost_name) is ∙ sent.name;
    after_value = ap (λ (w : TokenWriter S). w.after_value) is;
    went =
        let P : TokenWriter S → Type 0 = λ w. Went g old.out.now w.out.now (print_from old.after_value (t ∷ [])) old.is_stopped w.is_stopped in
        subst P (sym is) (said_bytes g old.out.now mid.out.now old.is_stopped mid.is_stopped bytes (print_from old.after_value (t ∷ [])) sent.went
        (text ∙ ap (λ (s : List ℕ). separator old.after_value t ++ s) (sym (append-nil (token_text t)))));
  }

comma : (v : Bool) (t : Token) → begins t ≡ true → cond v (44 ∷ []) [] ≡ separator v t
comma true t is = ap (λ (b : Bool). cond b (44 ∷ []) []) (sym is)
comma false t is = refl

no_comma : (v : Bool) (t : Token) → begins t ≡ false → [] ≡ separator v t
no_comma true t is = ap (λ (b : Bool). cond b (44 ∷ []) []) (sym is)
no_comma false t is = refl

module _ {S : Type 0} {g : Ghosts S} where
  -- a token that begins a value or a member
  pub first_added : {old mid new : TokenWriter S} {bytes : List ℕ} (t : Token) → begins t ≡ true → Sent g old mid bytes → new ≡ record mid { after_value = ends t }
      → bytes ≡ cond old.after_value (44 ∷ []) [] ++ token_text t → Added g old new (t ∷ [])
  first_added {old} {mid} {new} {bytes} t begun sent is text =
      token_added t sent is (text ∙ ap (λ (s : List ℕ). s ++ token_text t) (comma old.after_value t begun))

  -- a token that ends one
  pub last_added : {old mid new : TokenWriter S} {bytes : List ℕ} (t : Token) → begins t ≡ false → Sent g old mid bytes → new ≡ record mid { after_value = ends t }
      → bytes ≡ token_text t → Added g old new (t ∷ [])
  last_added {old} {mid} {new} {bytes} t begun sent is text =
      token_added t sent is (text ∙ ap (λ (s : List ℕ). s ++ token_text t) (no_comma old.after_value t begun))

  -- a name and its value
  pub field_added : {old mid new : TokenWriter S} {bytes : List ℕ} (name : List ℕ) (t : Token) → ends t ≡ true → Sent g old mid bytes → new ≡ record mid { after_value = true }
      → bytes ≡ cond old.after_value (44 ∷ []) [] ++ (quoted name ++ 58 ∷ token_text t) → Added g old new (key name ∷ t ∷ [])
  unfolding print_from
  field_added {old} {mid} {new} {bytes} name t ended sent is text = record {
    name = ap (λ (w : TokenWriter S). w.out.ghost_name) is ∙ sent.name;
    after_value = ap (λ (w : TokenWriter S). w.after_value) is ∙ sym ended;
    went =
        let P : TokenWriter S → Type 0 = λ w. Went g old.out.now w.out.now (print_from old.after_value (key name ∷ t ∷ [])) old.is_stopped w.is_stopped in
        let value : (quoted name ++ 58 ∷ []) ++ (token_text t ++ []) ≡ quoted name ++ 58 ∷ token_text t =
        append_assoc (quoted name) (58 ∷ []) (token_text t ++ []) ∙ ap (λ (s : List ℕ). quoted name ++ 58 ∷ s) (append-nil (token_text t)) in
        subst P (sym is) (said_bytes g old.out.now mid.out.now old.is_stopped mid.is_stopped bytes (print_from old.after_value (key name ∷ t ∷ [])) sent.went
        (text ∙ ap (λ (s : List ℕ). s ++ (quoted name ++ 58 ∷ token_text t)) (comma old.after_value (key name) refl)
        ∙ ap (λ (s : List ℕ). separator old.after_value (key name) ++ s) (sym value)));
  }

  -- all tokens of a writer that was new
  pub whole : {old new : TokenWriter S} {tokens : List Token} → Added g old new tokens → old.after_value ≡ false → old.is_stopped ≡ false
      → Went g old.out.now new.out.now (print tokens) false new.is_stopped
  whole {old} {new} {tokens} added begins well =
      let P : Bool → Bool → Type 0 = λ v s. Went g old.out.now new.out.now (print_from v tokens) s new.is_stopped in
      subst (λ s. P false s) well (subst (λ v. P v old.is_stopped) begins added.went)
