-- What was printed of a command's text, and what is left of its writer.
use Rattle.std.proofs.Common.{◌≡◌, arith, ℕ, Bool, true, false, List, [], ◌++◌, Option, None, Some, Result, Ok, Err, ◌==◌, IsTrue, eq-eqb, refl, sym, ap, subst, ◌∙◌}
use Rattle.std.specs.Prelude.{is_some, OnOk, OnErr}
use Rattle.std.specs.Io.KnownBytes.{Appends, Keeps}
use Rattle.mbdc_commands.specs.Bytes.{IsPrinted, IsWrittenOut, text_of}
use Rattle.mbdc_io.proofs.Pieces.{puts-none}
use Rattle.mbdc_io.specs.Stream.{Puts}
use Rattle.mbdc_io.specs.Failures.{HasRisen}

-- the bytes of an input that contracts know are those that its reader had
pub known_so : (known : Bool) (bytes : Option (List ℕ)) → known ≡ is_some bytes → text_of known true bytes ≡ bytes
known_so false None is = refl
known_so true None is = cc
known_so false (Some xs) is = cc
known_so true (Some xs) is = refl

-- what a sink over a buffer got, once the buffer was written out
pub written_out : {O : Type 0} (contents : O → Option (List ℕ)) (known : Bool) (held now : Option (List ℕ)) (before behind : ℕ) (printed : Bool) (text : List ℕ) → before ≡ 0
    → (IsTrue printed → Puts (text_of known (before == 0) held) (text_of known (behind == 0) now) text) → (IsTrue printed → behind ≡ 0)
    → (IsTrue printed → (left : O) × Keeps now (contents left)) → IsWrittenOut contents known held printed text
written_out contents known held now before behind false text well put still left = tt
written_out contents known held now before behind true text well put still left =
    let zero : (before == 0) ≡ true = eq-eqb before 0 well in
    let nil : (behind == 0) ≡ true = eq-eqb behind 0 (still refl) in
    let rest = left refl in
    let puts = subst (λ (b : Bool). Puts (text_of known true held) (text_of known b now) text) nil (subst (λ (b : Bool). Puts (text_of known b held) (text_of known (behind == 0) now) text) zero (put refl)) in
    (rest.0, λ is. held_so known held now (contents rest.0) text is puts rest.1) where
      held_some : (ys : List ℕ) (left : Option (List ℕ)) (text : List ℕ) → Keeps (Some (ys ++ text)) left → Appends (Some ys) left text
      held_some ys None text rest = absurd rest
      held_some ys (Some zs) text rest = rest

      held_so : (known : Bool) (held now left : Option (List ℕ)) (text : List ℕ) → known ≡ true → Puts (text_of known true held) (text_of known true now) text → Keeps now left → Appends held left text
      held_so known None now left text is put rest = tt
      held_so false (Some ys) now left text is put rest = cc
      held_so true (Some ys) now left text is put rest = held_some ys left text (subst (λ (n : Option (List ℕ)). Keeps n left) put rest)

-- what was written is in a sink of which no put has failed
pub put_unless_failed : {X E : Type 0} (result : Result X E) (held now : Option (List ℕ)) (before behind : ℕ) (text : List ℕ) → OnOk result (Puts held now text)
    → OnErr result (HasRisen before behind) → behind ≡ 0 → Puts held now text
put_unless_failed (Ok x) held now before behind text puts risen none = puts
put_unless_failed (Err e) held now before behind text puts risen none = absurd (omega (arith, risen, none))

-- what was written out of the buffer of a writer was printed after what the writer had
pub printed_so : {O : Type 0} (contents : O → Option (List ℕ)) (known : Bool) (out : O) (held : Option (List ℕ)) (printed : Bool) (text : List ℕ) → known ≡ is_some (contents out) → Keeps (contents out) held
    → IsWrittenOut contents known held printed text → IsPrinted contents out printed text
printed_so contents known out held false text is kept written = tt
printed_so contents known out held true text is kept (left, appends) =
    (left, behind_so known (contents out) held (contents left) text is kept appends) where
      behind_some : (xs : List ℕ) (held left : Option (List ℕ)) (text : List ℕ) → Keeps (Some xs) held → Appends held left text → Appends (Some xs) left text
      behind_some xs None left text kept put = absurd kept
      behind_some xs (Some ys) None text kept put = absurd put
      behind_some xs (Some ys) (Some zs) text kept put = put ∙ ap (λ (l : List ℕ). l ++ text) kept

      behind_so : (known : Bool) (out held left : Option (List ℕ)) (text : List ℕ) → known ≡ is_some out → Keeps out held → (known ≡ true → Appends held left text) → Appends out left text
      behind_so known None held left text is kept put = tt
      behind_so known (Some xs) held left text is kept put = behind_some xs held left text kept (put is)

-- a sink that is as before got nothing
pub nothing_put : {S : Type 0} (old new : S) (written : S → Option (List ℕ)) → new ≡ old → Puts (written old) (written new) []
nothing_put old new written same = subst (λ (w : Option (List ℕ)). Puts (written old) w []) (sym (ap written same)) (puts-none (written old))

-- the reader and the writer of a script, wrapped
pub read_so : {R : Type 0} (remaining : R → Option (List ℕ)) (known : Bool) (reader wrapped : R) → known ≡ is_some (remaining reader) → wrapped ≡ reader → text_of known true (remaining wrapped) ≡ remaining reader
read_so remaining known reader wrapped is same = ap (λ (b : Option (List ℕ)). text_of known true b) (ap remaining same) ∙ known_so known (remaining reader) is

pub kept_so : {W : Type 0} (contents : W → Option (List ℕ)) (had : Option (List ℕ)) (writer wrapped : W) → Keeps had (contents writer) → wrapped ≡ writer → Keeps had (contents wrapped)
kept_so contents had writer wrapped kept same = subst (λ (b : Option (List ℕ)). Keeps had b) (sym (ap contents same)) kept
