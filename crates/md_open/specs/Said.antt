-- What is said by assignments that are read one by one.
use Rattle.std.specs.Prelude.{List, ◌++◌, Result, Ok, Err}
use Rattle.rtl_spelling.specs.Spelling.{Said}
use Rattle.rtl_spelling.specs.Reading.{Read, Trouble}

-- these, and then what is read
abbrev pub adds : List Said → Read (List Said) → Result (List Said) Trouble
adds ms (Ok x) = Ok (ms ++ x.0)
adds ms (Err e) = Err e
