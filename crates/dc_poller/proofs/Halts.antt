-- What ends a script, by what a put gave.
use Rattle.std.proofs.Common.{◌≡◌, Result, Ok, Err, subst, sym}
use Rattle.std.specs.Prelude.{OnOk, OnErr}
use Rattle.mbdc_io.specs.declared.stream.IoFault.{IoFault}
use Rattle.dc_poller.specs.Halt.{OnNoMemory, OnWrite, halted_by}
use Rattle.dc_poller.specs.declared.halt.Halt.{Halt}
use Rattle.dc_poller.specs.declared.halt.Halt.TheVariants.{Write, NoMemory}

ok_by : {X : Type 0} (put : Result X IoFault) (P : Type 0) → OnOk put P → OnOk (halted_by put) P
ok_by (Ok x) P p = p
ok_by (Err fault) P p = tt

pub halted_ok : {X : Type 0} (put : Result X IoFault) (r : Result X Halt) (P : Type 0) → r ≡ halted_by put → OnOk put P → OnOk r P
halted_ok put r P is p = subst (λ (x : Result _ Halt). OnOk x P) (sym is) (ok_by put P p)

write_by : {X : Type 0} (put : Result X IoFault) (P : Type 0) → OnErr put P → OnWrite (halted_by put) P
write_by (Ok x) P p = tt
write_by (Err fault) P p = p

pub halted_write : {X : Type 0} (put : Result X IoFault) (r : Result X Halt) (P : Type 0) → r ≡ halted_by put → OnErr put P → OnWrite r P
halted_write put r P is p = subst (λ (x : Result _ Halt). OnWrite x P) (sym is) (write_by put P p)

-- ---- what is said of a halt

pub on_write : (X Y : Type 0) (halt : Halt) (A B : Type 0) → (A → B) → OnWrite {X = X} (Err halt) A → OnWrite {X = Y} (Err halt) B
on_write X Y Write A B f a = f a
on_write X Y NoMemory A B f a = tt

pub on_no_memory : (X Y : Type 0) (halt : Halt) (A B : Type 0) → (A → B) → OnNoMemory {X = X} (Err halt) A → OnNoMemory {X = Y} (Err halt) B
on_no_memory X Y Write A B f a = tt
on_no_memory X Y NoMemory A B f a = f a

pub of_write : (X : Type 0) (halt : Halt) (A : Type 0) → halt ≡ Write → OnWrite {X = X} (Err halt) A → A
of_write X Write A is a = a
of_write X NoMemory A is a = cc

pub of_no_memory : (X : Type 0) (halt : Halt) (A : Type 0) → halt ≡ NoMemory → OnNoMemory {X = X} (Err halt) A → A
of_no_memory X Write A is a = cc
of_no_memory X NoMemory A is a = a

never_by : {X : Type 0} (put : Result X IoFault) (P : Type 0) → OnNoMemory (halted_by put) P
never_by (Ok done) P = tt
never_by (Err fault) P = tt

-- memory is never refused to a put
pub halted_never : {X : Type 0} (put : Result X IoFault) (r : Result X Halt) (P : Type 0) → r ≡ halted_by put → OnNoMemory r P
halted_never put r P is = subst (λ (x : Result _ Halt). OnNoMemory x P) (sym is) (never_by put P)

-- what holds anyway holds there too
pub no_memory_so : {X : Type 0} (r : Result X Halt) (P : Type 0) → P → OnNoMemory r P
no_memory_so (Ok x) P p = tt
no_memory_so (Err Write) P p = tt
no_memory_so (Err NoMemory) P p = p

pub on_starved : {X : Type 0} (r : Result X Halt) (A B : Type 0) → (A → B) → OnNoMemory r A → OnNoMemory r B
on_starved (Ok x) A B f a = tt
on_starved (Err Write) A B f a = tt
on_starved (Err NoMemory) A B f a = f a
