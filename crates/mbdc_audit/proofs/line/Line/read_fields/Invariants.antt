use Rattle.std.proofs.Common.{◌≡◌, drop, length, map, option_map}
use Rattle.mbdc_audit.specs.Field.{left_fields}
use Rattle.mbdc_audit.specs.Line.{AreBlank}
use Rattle.mbdc_audit.proofs.Lines.{Reading}
use Rattle.mbdc_audit.proofs.line.Line.read_fields.Given as goal

abbrev pub invariant-fields : goal.invariant-fields
invariant-fields l = record {
  so_far : Reading l.kinds (left_fields (option_map (λ s. s.now) l.initial.rest)) l.i (left_fields (option_map (λ s. s.now) l.rest))
      (map (λ f. f.now) l.self.fields) l.self.numbers;
  counted : (length l.self.fields ≡ 7) × (length l.self.numbers ≡ 7);
  blank : AreBlank (drop l.i (map (λ f. f.now) l.self.fields)) (drop l.i l.self.numbers);
  kept : (l.self.word ≡ l.initial.self.word) × (l.self.stage ≡ l.initial.self.stage) × (l.self.text ≡ l.initial.self.text);
}
