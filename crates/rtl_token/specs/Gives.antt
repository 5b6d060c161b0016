-- What the program's reading has in common with the reading of tokens: all but want of memory.
use Rattle.std.specs.Prelude.{◌≡◌, Result, Ok, Err}
use Rattle.rtl_spelling.specs.Reading.{Trouble, Wrong, Deep}
use Rattle.rtl_token.specs.declared.trouble.Trouble.{Trouble as Stop}
use Rattle.rtl_token.specs.declared.trouble.Trouble.TheVariants as stop

abbrev pub Fails : {A : Type 0} → Stop → Result A Trouble → Type 0
Fails stop.NoMemory read = Unit {0}
Fails (stop.Wrong n) read = read ≡ Err (Wrong n)
Fails (stop.Deep n) read = read ≡ Err (Deep n)

abbrev pub Gives : {X A : Type 0} → (X → A) → Result X Stop → Result A Trouble → Type 0
Gives view (Ok x) read = read ≡ Ok (view x)
Gives view (Err e) read = Fails e read
