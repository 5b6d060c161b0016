-- What the code answers, seen as a reading.
use Rattle.std.specs.Prelude.{ℕ, ◌≡◌, Bool, List, nat_le, Result, Ok, Err}
use Rattle.std.specs.Borrow.{Bor}
use Rattle.c_tree.specs.declared.token.Token.{Token}
use Rattle.c_grammar.specs.Words.{lexemes}
use Rattle.c_reading.specs.declared.fault.Fault.{Fault}
use Rattle.c_reading.specs.declared.fault.Fault.TheVariants as fault
use Rattle.c_reading.specs.Parsers.{Read, Trouble, Wrong, Deep, Out}

abbrev pub shallow : ℕ → Bool
shallow n = nat_le n 200

-- want of memory tells nothing
abbrev pub Fails : {A : Type 0} → Read A → Fault → Type 0
Fails r fault.NoMemory = Unit {0}
Fails r (fault.Wrong n) = r ≡ Err (Wrong n)
Fails r (fault.Deep n) = r ≡ Err (Deep n)
Fails r fault.Out = r ≡ Err Out

-- the code answers what is read, how deep the next token stands, and the tokens that are left
abbrev pub Reads : {A : Type 0} → Read A → Result (A × ℕ × Bor (List Token)) Fault → Type 0
Reads r (Ok x) = r ≡ Ok (x.0, x.1, lexemes x.2.now)
Reads r (Err e) = Fails r e

-- what is read stands as deep as what follows it
abbrev pub ReadsAt : {A : Type 0} → ℕ → Read A → Result (A × Bor (List Token)) Fault → Type 0
ReadsAt n r (Ok x) = r ≡ Ok (x.0, n, lexemes x.1.now)
ReadsAt n r (Err e) = Fails r e

-- tokens are passed over
abbrev pub Passes : ℕ → Read (Unit {0}) → Result (Bor (List Token)) Fault → Type 0
Passes n r (Ok rest) = r ≡ Ok (tt, n, lexemes rest.now)
Passes n r (Err e) = Fails r e

-- what is read, alone
abbrev pub value_of : {A : Type 0} → Read A → Result A Trouble
value_of (Ok x) = Ok x.0
value_of (Err e) = Err e

abbrev pub Answers : {A : Type 0} → Read A → Result A Fault → Type 0
Answers r (Ok a) = value_of r ≡ Ok a
Answers r (Err e) = Fails r e

-- the bound on calls didn't run out
abbrev pub NotOut : {A : Type 0} → Result A Fault → Type 0
NotOut (Ok a) = Unit {0}
NotOut (Err fault.Out) = ⊥
NotOut (Err _) = Unit {0}
