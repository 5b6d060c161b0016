-- Trouble, told at the front of the hole where it is the name of a whole hole that isn't open, or its depth.
use Rattle.std.specs.Prelude.{List}
use Rattle.rtl_spelling.specs.Tokens.{Token}
use Rattle.rtl_spelling.specs.Spelling.{Context}
use Rattle.rtl_spelling.specs.Reading.{Trouble, Wrong, Deep, settled}
use Rattle.rtl_token.specs.declared.trouble.Trouble.{Trouble as Stop}
use Rattle.rtl_token.specs.declared.trouble.Trouble.TheVariants as stop

abbrev pub stop_of : Trouble → Stop
stop_of (Wrong n) = stop.Wrong n
stop_of (Deep n) = stop.Deep n

abbrev pub settles : Context → List Token → Stop → Stop
settles c ts stop.NoMemory = stop.NoMemory
settles c ts (stop.Wrong n) = stop_of (settled c ts (Wrong n))
settles c ts (stop.Deep n) = stop_of (settled c ts (Deep n))
