-- What the words of the command line ask for.
use Rattle.std.specs.Prelude.{◌≡◌, ℕ, Bool, true, false, not, cond, ◌&&◌, ◌==◌, nat_le, ◌^◌, List, [], ◌∷◌, map, Option, Some, None, Result, Ok, Err, bytes_eq, codes, decimal, string_bytes, String, ⊤}
use Rattle.std.specs.Str.Parse.{digits_value}
use Rattle.std.specs.declared.alloc.Global.{Global}
use Rattle.vp_io.specs.declared.answers.Which.{Which}
use Rattle.vp_io.specs.declared.answers.Which.TheVariants.{Description, Text, Assembly}
use Rattle.shipped.specs.declared.Shipped.TheVariants.{Pdp11, Mips}
use Rattle.shipped.specs.Shipped.{name_of}
use Rattle.vpo_top.specs.declared.request.Request.{Request}
use Rattle.vpo_top.specs.declared.request.Request.TheVariants.{Check as CheckOf, Show as ShowOf, Cc as CcOf, Run as RunOf}
use Rattle.vpo_top.specs.declared.request.WordsFault.{WordsFault}
use Rattle.vpo_top.specs.declared.request.WordsFault.TheVariants.{NoMemory, BadWords}

-- the bytes of each word
abbrev pub bytes_of_words : List (String Global) → List (List ℕ)
bytes_of_words words = map string_bytes words

-- a word that may name a file: it isn't empty, and no option
abbrev pub is_file_word : List ℕ → Bool
is_file_word [] = false
is_file_word (c ∷ cs) = not (c == 45)

-- what is asked for: whether a description is accepted; the description of a machine that comes with the program, 0 for pdp11 and 1
-- for mips; a source, compiled for the machine that a file describes; or an assembly text, run on such a machine for up to so many steps
pub data Asked : Type 0 where
  Check : (desc : List ℕ) → Asked
  Show : (which : ℕ) → Asked
  Cc : (dump plain : Bool) (desc src : List ℕ) → Asked
  Run : (steps : ℕ) (desc asm : List ℕ) → Asked

abbrev pub asked : Request → Asked
asked (CheckOf desc) = Check (string_bytes desc)
asked (ShowOf which) = Show which
asked (CcOf dump plain desc src) = Cc dump plain (string_bytes desc) (string_bytes src)
asked (RunOf steps desc asm) = Run steps (string_bytes desc) (string_bytes asm)

-- check DESC
abbrev pub check_of : List ℕ → Option Asked
check_of desc = cond (is_file_word desc) (Some (Check desc)) None

-- show NAME
abbrev pub show_of : List ℕ → Option Asked
show_of name = cond (bytes_eq name (name_of Pdp11)) (Some (Show 0)) (cond (bytes_eq name (name_of Mips)) (Some (Show 1)) None)

-- the compilation of these two, with plain code where that is asked for
abbrev pub compilation : Bool → List ℕ → List ℕ → Option Asked
compilation plain desc src = Some (Cc false plain desc src)

-- cc DESC SRC
abbrev pub is_compilation_form : List ℕ → List ℕ → List ℕ → Bool
is_compilation_form command desc src = bytes_eq command (codes "cc") && (is_file_word desc && is_file_word src)

abbrev pub compilation_of : Bool → List ℕ → List ℕ → List ℕ → Option Asked
compilation_of plain command desc src = cond (is_compilation_form command desc src) (compilation plain desc src) None

-- the steps of a run where none are asked for, and the most that may be
abbrev pub usual_steps : ℕ
usual_steps = 10 ^ 9

abbrev pub step_limit : ℕ
step_limit = 10 ^ 18

-- a number of steps in decimal, without a sign or leading zeros
abbrev pub are_steps : List ℕ → ℕ → Bool
are_steps word n = (nat_le 1 n && nat_le n step_limit) && bytes_eq (decimal n) word

abbrev pub steps_of : List ℕ → Option ℕ
steps_of word = cond (are_steps word (digits_value 10 word)) (Some (digits_value 10 word)) None

-- run DESC ASM
abbrev pub is_run_form : List ℕ → List ℕ → List ℕ → Bool
is_run_form command desc asm = bytes_eq command (codes "run") && (is_file_word desc && is_file_word asm)

abbrev pub run_of : List ℕ → ℕ → List ℕ → List ℕ → Option Asked
run_of command steps desc asm = cond (is_run_form command desc asm) (Some (Run steps desc asm)) None

-- run --steps N DESC ASM
abbrev pub run_with_steps : Option ℕ → List ℕ → List ℕ → List ℕ → Option Asked
run_with_steps (Some steps) command desc asm = run_of command steps desc asm
run_with_steps None command desc asm = None

abbrev pub three_words : List ℕ → List ℕ → List ℕ → Option Asked
three_words command first second =
    cond (bytes_eq command (codes "cc")) (compilation_of false command first second) (run_of command usual_steps first second)

-- cc --plain DESC SRC
abbrev pub four_words : List ℕ → List ℕ → List ℕ → List ℕ → Option Asked
four_words command option desc src = cond (bytes_eq option (codes "--plain")) (compilation_of true command desc src) None

abbrev pub five_words : List ℕ → List ℕ → List ℕ → List ℕ → List ℕ → Option Asked
five_words command option steps desc asm = cond (bytes_eq option (codes "--steps")) (run_with_steps (steps_of steps) command desc asm) None

-- what the words ask for; other words are no plain form
abbrev pub request_of : List (List ℕ) → Option Asked
request_of (command ∷ word ∷ []) =
    cond (bytes_eq command (codes "check")) (check_of word) (cond (bytes_eq command (codes "show")) (show_of word) None)
request_of (command ∷ first ∷ second ∷ []) = three_words command first second
request_of (command ∷ option ∷ first ∷ second ∷ []) = four_words command option first second
request_of (command ∷ option ∷ steps ∷ desc ∷ asm ∷ []) = five_words command option steps desc asm
request_of _ = None

-- the name that is asked for as this input
abbrev pub name_asked : Option Asked → Which → Option (List ℕ)
name_asked (Some (Check desc)) Description = Some desc
name_asked (Some (Check desc)) _ = None
name_asked (Some (Show which)) _ = None
name_asked (Some (Cc dump plain desc src)) Description = Some desc
name_asked (Some (Cc dump plain desc src)) Text = Some src
name_asked (Some (Cc dump plain desc src)) _ = None
name_asked (Some (Run steps desc asm)) Description = Some desc
name_asked (Some (Run steps desc asm)) Assembly = Some asm
name_asked (Some (Run steps desc asm)) _ = None
name_asked None _ = None

-- some file is asked for
abbrev pub names_a_file : Option Asked → Bool
names_a_file (Some (Check desc)) = true
names_a_file (Some (Show which)) = false
names_a_file (Some (Cc dump plain desc src)) = true
names_a_file (Some (Run steps desc asm)) = true
names_a_file None = false

-- what is asked for leaves the input alone: all but a run does
abbrev pub ReadsNoInput : Option Asked → Type 0
ReadsNoInput (Some (Check desc)) = ⊤
ReadsNoInput (Some (Show which)) = ⊤
ReadsNoInput (Some (Cc dump plain desc src)) = ⊤
ReadsNoInput (Some (Run steps desc asm)) = ⊥
ReadsNoInput None = ⊤

-- what is read of words that ask for this; the names of files take memory
abbrev pub IsReadAs : Option Asked → Result Request WordsFault → Type 0
IsReadAs wanted (Ok request) = wanted ≡ Some (asked request)
IsReadAs wanted (Err BadWords) = wanted ≡ None
IsReadAs wanted (Err NoMemory) = names_a_file wanted ≡ true
