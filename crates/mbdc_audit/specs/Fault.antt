-- The numbers and names of the faults of a file of published numbers (this product).
use Rattle.std.specs.Prelude.{ℕ, List, codes}
use Rattle.mbdc_audit.specs.declared.fault.AuditFault.{AuditFault}
use Rattle.mbdc_audit.specs.declared.fault.AuditFault.TheVariants.{Header, Row, Order}
use Rattle.mbdc_audit.specs.declared.fault.AuditFault.TheVariants.{Unit as NoUnit, Fact, TooMany, TooLarge, End}

abbrev pub number_of : AuditFault → ℕ
number_of Header = 1
number_of Row = 2
number_of Order = 3
number_of NoUnit = 6
number_of Fact = 7
number_of TooMany = 8
number_of TooLarge = 9
number_of End = 10

abbrev pub name_of : AuditFault → List ℕ
name_of Header = codes "Header"
name_of Row = codes "Row"
name_of Order = codes "Order"
name_of NoUnit = codes "Unit"
name_of Fact = codes "Fact"
name_of TooMany = codes "TooMany"
name_of TooLarge = codes "TooLarge"
name_of End = codes "End"
