-- What a field of a form spells, and nothing else.
use Rattle.std.proofs.Common.{◌≡◌, ℕ, ◌<◌, List, Bool, true, false, refl, ap, sym, ◌∙◌, subst, arith, Option, None, Some, ◌⊎◌, inl, inr, is_some, rules, Result, Ok, Err, is_ok}
use Rattle.std.specs.Prelude.{◌↔◌, IfOk, IfSome, IsSome, IsTrue, codes, if◌then◌else◌, option_map}
use Rattle.std.specs.Bool.{then_some}
use Rattle.std.specs.Str.{bytes_eq}
use Rattle.std.proofs.lemmas.Bool.{false≢true}
use Rattle.std.proofs.lemmas.Option.{none-some, same_Some}
use Rattle.std.proofs.lemmas.Slice.Eq.{bytes_eq-Decides}
use Rattle.std.proofs.lemmas.Grind.{common_steps}
use Rattle.dc_address.specs.Text.{text_of}
use Rattle.dc_address.specs.declared.fault.IdentityFault.{IdentityFault}
use Rattle.dc_address.specs.declared.identity.Identity.{Identity}
use Rattle.mbdc_audit.specs.declared.field.Kind.{Kind}
use Rattle.mbdc_audit.specs.declared.field.Kind.TheVariants as kind
use Rattle.mbdc_audit.specs.declared.smallest.Spelled.{Spelled}
use Rattle.mbdc_audit.specs.Line.{Reads, Says, SaysAbove0, SaysDecimal, spelled}
use Rattle.mbdc_audit.specs.Smallest.{decimal_in, ratio_in, whole_in}

-- the result is what is spelled, and what is spelled is the result
pub record IsForm (P : Option Spelled → Type 0) (r : Option (Option Spelled)) : Type 0 where
  pub found : IfSome r P
  pub only : (said : Option Spelled) → P said → r ≡ Some said

moved : (P : Option Spelled → Type 0) (r s : Option (Option Spelled)) → r ≡ s → IsForm P s → IsForm P r
moved P r s is form = subst (λ (t : Option (Option Spelled)). IsForm P t) (sym is) form

-- ---- nothing

nothing_by : (P : Type 0) (b : Bool) → IsTrue b ↔ P → IsForm (λ said. (said ≡ None) × P) (then_some b None)
nothing_by P true iff = record { found = (refl, iff.0 refl); only = λ said is. ap Some (sym is.0) }
nothing_by P false iff = record { found = tt; only = λ said is. absurd (false≢true (iff.1 is.1)) }

pub nothing : (P : Type 0) (b : Bool) (r : Option (Option Spelled)) → r ≡ then_some b None → IsTrue b ↔ P
    → IsForm (λ said. (said ≡ None) × P) r
nothing P b r is iff = moved (λ said. (said ≡ None) × P) r (then_some b None) is (nothing_by P b iff)

pub any : IsForm (λ said. said ≡ None) (Some None)
any = record { found = refl; only = λ said is. ap Some (sym is) }

-- ---- numbers

says_by : (o : Option ℕ) → IsForm (Says o) (option_map spelled o)
says_by None = record { found = tt; only = λ said is. absurd is }
says_by (Some n) = record { found = refl; only = λ said is. ap Some (sym is) }

pub says : (o : Option ℕ) (r : Option (Option Spelled)) → r ≡ option_map spelled o → IsForm (Says o) r
says o r is = moved (Says o) r (option_map spelled o) is (says_by o)

decimal_by : (o : Option Spelled) → IsForm (SaysDecimal o) (option_map Some o)
decimal_by None = record { found = tt; only = λ said is. absurd is }
decimal_by (Some s) = record { found = refl; only = λ said is. ap Some (sym is) }

pub says_decimal : (o : Option Spelled) (r : Option (Option Spelled)) → r ≡ option_map Some o → IsForm (SaysDecimal o) r
says_decimal o r is = moved (SaysDecimal o) r (option_map Some o) is (decimal_by o)

number_by : (P : ℕ → Type 0) (o : Option ℕ) → IfSome o P → ((n : ℕ) → P n → o ≡ Some n)
    → IsForm (λ said. (n : ℕ) × P n × (said ≡ spelled n)) (option_map spelled o)
number_by P None found only = record { found = tt; only = λ said is. absurd (none-some is.0 (only is.0 is.1)) }
number_by P (Some m) found only = record {
  found = (m, found, refl);
  only = λ said is. ap (λ (n : ℕ). Some (spelled n)) (same_Some m is.0 (only is.0 is.1)) ∙ ap Some (sym is.2);
}

pub number_of : (P : ℕ → Type 0) (o : Option ℕ) (r : Option (Option Spelled)) → r ≡ option_map spelled o → IfSome o P
    → ((n : ℕ) → P n → o ≡ Some n) → IsForm (λ said. (n : ℕ) × P n × (said ≡ spelled n)) r
number_of P o r is found only = moved (λ said. (n : ℕ) × P n × (said ≡ spelled n)) r (option_map spelled o) is (number_by P o found only)

-- ---- a word, or else

same : (a b : List ℕ) → bytes_eq a b ≡ true → a ≡ b
same a b is = grind (arith, common_steps, bytes_eq-Decides)

pub equal : (a b : List ℕ) → a ≡ b → bytes_eq a b ≡ true
equal a b is = grind (arith, common_steps, bytes_eq-Decides)

pub word_iff : (a b : List ℕ) → IsTrue (bytes_eq a b) ↔ (a ≡ b)
word_iff a b = (same a b, equal a b)

or_word_by : (P : Type 0) (Q : Option Spelled → Type 0) (b : Bool) (other : Option (Option Spelled)) → IsTrue b ↔ P → IsForm Q other
    → (P → (said : Option Spelled) → Q said → ⊥) → IsForm (λ said. (P × (said ≡ None)) ⊎ Q said) (if b then Some None else other)
or_word_by P Q true other iff form not_both = record {
  found = inl (iff.0 refl, refl);
  only = λ said is. elim is [ inl p ↦ ap Some (sym p.1) | inr q ↦ absurd (not_both (iff.0 refl) said q) ];
}
or_word_by P Q false None iff form not_both = record {
  found = tt;
  only = λ said is. elim is [ inl p ↦ absurd (false≢true (iff.1 p.0)) | inr q ↦ form.only said q ];
}
or_word_by P Q false (Some s) iff form not_both = record {
  found = inr form.found;
  only = λ said is. elim is [ inl p ↦ absurd (false≢true (iff.1 p.0)) | inr q ↦ form.only said q ];
}

pub or_word : (w : List ℕ) (Q : Option Spelled → Type 0) (field : List ℕ) (other r : Option (Option Spelled))
    → r ≡ (if bytes_eq field w then Some None else other) → IsForm Q other → (field ≡ w → (said : Option Spelled) → Q said → ⊥)
    → IsForm (λ said. ((field ≡ w) × (said ≡ None)) ⊎ Q said) r
or_word w Q field other r is form not_both =
    moved (λ said. ((field ≡ w) × (said ≡ None)) ⊎ Q said) r (if bytes_eq field w then Some None else other) is
    (or_word_by (field ≡ w) Q (bytes_eq field w) other (word_iff field w) form not_both)

pub dash_no_whole : (field : List ℕ) → field ≡ codes "-" → (said : Option Spelled) → Says (whole_in field) said → ⊥
dash_no_whole field is said says = subst (λ (f : List ℕ). Says (whole_in f) said) is says

pub dash_no_ratio : (field : List ℕ) → field ≡ codes "-" → (said : Option Spelled) → SaysAbove0 (ratio_in field) said → ⊥
unfolding ratio_in decimal_in
dash_no_ratio field is said says = subst (λ (f : List ℕ). SaysAbove0 (ratio_in f) said) is says

pub mark_no_decimal : (field : List ℕ) → field ≡ codes "?" → (said : Option Spelled) → SaysDecimal (decimal_in 9 field) said → ⊥
unfolding decimal_in
mark_no_decimal field is said says = subst (λ (f : List ℕ). SaysDecimal (decimal_in 9 f) said) is says

-- ---- how a value was put

how_by : (P Q : Type 0) (b d : Bool) → IsTrue b ↔ P → IsTrue d ↔ Q → (P → Q → ⊥)
    → IsForm (λ said. (P × (said ≡ spelled 0)) ⊎ (Q × (said ≡ spelled 1))) (option_map spelled (if b then Some 0 else if d then Some 1 else None))
how_by P Q true d iff iff' apart = record {
  found = inl (iff.0 refl, refl);
  only = λ said is. elim is [ inl p ↦ ap Some (sym p.1) | inr q ↦ absurd (apart (iff.0 refl) q.0) ];
}
how_by P Q false true iff iff' apart = record {
  found = inr (iff'.0 refl, refl);
  only = λ said is. elim is [ inl p ↦ absurd (false≢true (iff.1 p.0)) | inr q ↦ ap Some (sym q.1) ];
}
how_by P Q false false iff iff' apart = record {
  found = tt;
  only = λ said is. elim is [ inl p ↦ absurd (false≢true (iff.1 p.0)) | inr q ↦ absurd (false≢true (iff'.1 q.0)) ];
}

pub not_both : (field : List ℕ) → field ≡ codes "hand" → field ≡ codes "estimated" → ⊥
not_both field one other = let e : codes "hand" ≡ codes "estimated" = sym one ∙ other in cc

pub how : (field : List ℕ) (o : Option ℕ) (r : Option (Option Spelled)) → r ≡ option_map spelled o
    → o ≡ (if bytes_eq field (codes "hand") then Some 0 else if bytes_eq field (codes "estimated") then Some 1 else None)
    → IsForm (λ said. ((field ≡ codes "hand") × (said ≡ spelled 0)) ⊎ ((field ≡ codes "estimated") × (said ≡ spelled 1))) r
how field o r is o_is = moved (λ said. ((field ≡ codes "hand") × (said ≡ spelled 0)) ⊎ ((field ≡ codes "estimated") × (said ≡ spelled 1))) r _
    (is ∙ ap (λ (x : Option ℕ). option_map spelled x) o_is)
    (how_by (field ≡ codes "hand") (field ≡ codes "estimated") (bytes_eq field (codes "hand")) (bytes_eq field (codes "estimated"))
    (word_iff field (codes "hand")) (word_iff field (codes "estimated")) (not_both field))

-- ---- where a form is that of a kind

pub as_kind : (k l : Kind) (field : List ℕ) (r : Option (Option Spelled)) → k ≡ l → IsForm (Reads l field) r → IsForm (Reads k field) r
as_kind k l field r is form = subst (λ (x : Kind). IsForm (Reads x field) r) (sym is) form

pub any_kind : (k : Kind) (field : List ℕ) → (k ≡ kind.Any) ⊎ (k ≡ kind.Beside) → IsForm (Reads k field) (Some None)
any_kind k field (inl is) = as_kind k kind.Any field (Some None) is any
any_kind k field (inr is) = as_kind k kind.Beside field (Some None) is any

pub some_iff : {X : Type 0} (o : Option X) (b : Bool) → b ≡ is_some o → IsTrue b ↔ IsSome o
some_iff None b is = ((λ yes. absurd (false≢true (sym is ∙ yes))), (λ some. absurd (search (rules, some))))
some_iff (Some x) b is = ((λ yes. search rules), (λ some. is))

err-ok : (fault : IdentityFault) (i : Identity) → ◌≡◌ {A = Result Identity IdentityFault} (Err fault) (Ok i) → ⊥
err-ok fault i is = cc

pub identity_iff : (field : List ℕ) (r : Result Identity IdentityFault) (b : Bool) → b ≡ is_ok r
    → IfOk r (λ i. (i.version < 256) × (i.kind < 256)) → IfOk r (λ i. field ≡ text_of i)
    → ((i : Identity) → i.version < 256 → i.kind < 256 → field ≡ text_of i → r ≡ Ok i)
    → IsTrue b ↔ ((i : Identity) × (i.version < 256) × (i.kind < 256) × (field ≡ text_of i))
identity_iff field (Ok i) b is few found only = ((λ yes. (i, few.0, few.1, found)), (λ there. is))
identity_iff field (Err fault) b is few found only =
    ((λ yes. absurd (false≢true (sym is ∙ yes))), (λ there. absurd (err-ok fault there.0 (only there.0 there.1 there.2 there.3))))

pub same_test : (a b : Bool) → a ≡ b → IsTrue a ↔ IsTrue b
same_test a b is = ((λ yes. sym is ∙ yes), (λ yes. is ∙ yes))

pub says_as : (o p : Option ℕ) (r : Option (Option Spelled)) → r ≡ option_map spelled o → o ≡ p → IsForm (Says p) r
says_as o p r is same = subst (λ (x : Option ℕ). IsForm (Says x) r) same (says o r is)

pub above_0_as : (o p : Option ℕ) (r : Option (Option Spelled)) → o ≡ p → IfSome r (SaysAbove0 o)
    → ((said : Option Spelled) → SaysAbove0 o said → r ≡ Some said) → IsForm (SaysAbove0 p) r
above_0_as o p r same found only = subst (λ (x : Option ℕ). IsForm (SaysAbove0 x) r) same (record { found = found; only = only })
