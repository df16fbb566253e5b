-- What is said of a result where it is Ok.
use Rattle.std.specs.Prelude.{Result, Ok, Err, IfOk}

pub each_ok : {X E : Type 0} {Q R : X → Type 0} (r : Result X E) → ((x : X) → Q x → R x) → IfOk r Q → IfOk r R
each_ok (Ok x) then q = then x q
each_ok (Err e) then q = tt
