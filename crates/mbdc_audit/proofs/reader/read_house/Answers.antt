use Rattle.std.proofs.Common.{All, ◌≡◌, ◌∷◌, ◌++◌, ◌∙◌, ℕ, List, [], map, refl, ap, sym, subst, arith, inl, inr}
use Rattle.std.proofs.lemmas.List.{append-nil}
use Rattle.mbdc_audit.specs.File.{Steps, bare_house, empty}
use Rattle.mbdc_audit.specs.House.{House}
use Rattle.mbdc_io.specs.Lines.{lines_of}
use Rattle.mbdc_audit.specs.Line.{IsAsked}
use Rattle.mbdc_audit.specs.Walk.{IsQuiet}
use Rattle.mbdc_audit.proofs.Grown.{all_none, all_push}
use Rattle.mbdc_audit.specs.View.{allowed_of, house_of, number_of, place_of, span_of, use_of, user_of}
use Rattle.mbdc_audit.proofs.OneHouse.{all_mid, none_follows, one_house}
use Rattle.mbdc_audit.proofs.Steps.{next_lines, one_step}
use Rattle.mbdc_audit.proofs.Quiet.{quiet_empty}
use Rattle.mbdc_audit.proofs.ReadAs.{begun, no_lines, none_left, read_as}
use Rattle.mbdc_audit.proofs.reader.read_house.Goals as goal

pub lines-init : goal.lines-init
lines-init g c =
    let is = begun _ _ _ _ _ _ _ (ap (map use_of) c.new.ensures.items) (ap (map allowed_of) c.new-2.ensures.items)
    (ap (map span_of) c.new-3.ensures.items) c.new-4.ensures.items (ap (map user_of) c.new-5.ensures.items)
    (ap (map place_of) c.new-6.ensures.items) (ap (map number_of) c.new-7.ensures.items) in
    ([], refl, (refl, is), omega arith, λ may. (subst IsQuiet (sym is) quiet_empty, all_none (λ line. IsAsked line → ⊥)))

pub lines-preserved : goal.lines-preserved
lines-preserved g c =
    let inv = c.lines.invariant in
    let shorter = c.first_line.ensures.shorter in (
      inv.0 ++ c.first_line.result.0.now ∷ [],
      next_lines _ inv.0 (lines_of c.first_line.result.1.now) c.first_line.result.0.now _ inv.1 c.first_line.ensures.lines,
      one_step 0 empty inv.0 c.lines.stage (house_of c.lines.house) c.first_line.result.0.now _ _ inv.2 c.in-Ok.ensures.ok,
      omega (arith, inv.3, shorter),
      (λ may.
          let one = c.in-Ok.ensures.asks may in
          (one.1 (inv.4 may).0, all_push (λ line. IsAsked line → ⊥) inv.0 c.first_line.result.0.now (inv.4 may).1 one.0)),
    )

all_read : (input : List ℕ) (before : List (List ℕ)) (left : List ℕ) → lines_of input ≡ before ++ lines_of left → left ≡ [] → lines_of input ≡ before
all_read input before left is none =
    is ∙ (ap (λ (bytes : List ℕ). before ++ lines_of bytes) none ∙ (ap (λ (ls : List (List ℕ)). before ++ ls) no_lines ∙ append-nil before))

pub returns-clause-ok : goal.returns-clause-ok
returns-clause-ok g c =
    let inv = c.lines.invariant in
    let h : House = house_of c.lines.house in
    let all = all_read c.args.file.now inv.0 c.lines.left.now inv.1 (none_left c.lines.left.now c.is_empty.ensures c.lines-test.false) in
    let steps : Steps 0 empty (lines_of c.args.file.now) c.lines.stage h =
    subst (λ (ls : List (List ℕ)). Steps 0 empty ls c.lines.stage h) (sym all) inv.2 in
    read_as c.args.may_ask c.args.file.now c.lines.stage h (c.is_fed.ensures.0 c.if-not-is_fed.false) c.if-stage-ne-ENDED.false steps
    (λ may. subst (λ (ls : List (List ℕ)). All (λ line. IsAsked line → ⊥) ls) (sym all) (inv.4 may).1)

pub returns-in-Err-clause-err : goal.returns-in-Err-clause-err
returns-in-Err-clause-err g c = λ fault h s.
    let inv = c.lines.invariant in
    let line = c.first_line.result.0.now in
    let rest = lines_of c.first_line.result.1.now in
    let all : lines_of c.args.file.now ≡ inv.0 ++ line ∷ rest = inv.1 ∙ ap (λ (ls : List (List ℕ)). inv.0 ++ ls) c.first_line.ensures.lines in
    elim (c.in-Err.ensures.err fault) [
      | inl cant ↦ none_follows 0 empty inv.0 line rest c.lines.stage (house_of c.lines.house) inv.2 cant 12 (bare_house h)
          (subst (λ (ls : List (List ℕ)). Steps 0 empty ls 12 (bare_house h)) all s.steps)
      | inr asked ↦ all_mid (λ l. IsAsked l → ⊥) inv.0 line rest
          (subst (λ (ls : List (List ℕ)). All (λ l. IsAsked l → ⊥) ls) all (s.plain asked.0)) asked.1
    ]

pub returns-then-stage-ne-ENDED-clause-err : goal.returns-then-stage-ne-ENDED-clause-err
returns-then-stage-ne-ENDED-clause-err g c = λ fault h s.
    let inv = c.lines.invariant in
    let all = all_read c.args.file.now inv.0 c.lines.left.now inv.1 (none_left c.lines.left.now c.is_empty.ensures c.lines-test.false) in
    c.if-stage-ne-ENDED.true (one_house 0 empty empty inv.0 c.lines.stage 12 (house_of c.lines.house) (bare_house h) refl inv.2
    (subst (λ (ls : List (List ℕ)). Steps 0 empty ls 12 (bare_house h)) all s.steps)).0
