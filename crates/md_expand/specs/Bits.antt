-- The registers of classes as bits.
use Rattle.std.specs.Prelude.{◌<◌, ◌^◌, ℕ, List, [], ◌∷◌, Option, Some, cond, Bool, ◌==◌, ◌||◌}
use Rattle.std.specs.Str.{bytes_eq}
use Rattle.std.specs.Borrow.{Bor}
use Rattle.std.specs.HashMap.{HashMap, get_by}
use Rattle.md_rows.specs.declared.description.Register.{Register}
use Rattle.md_text.specs.Forms.{Form, RegisterLine, ClassLine}
use Rattle.md_text.specs.Declarations.{Declaration, number_of, register_bits}

-- the bits under a name
abbrev pub bits_at : {S : Type 0} → HashMap (Bor (List ℕ)) ℕ S → List ℕ → Option ℕ
bits_at bits name = get_by (λ k. bytes_eq name k.now) bits

-- the bit of a name, with the register that a form declares
abbrev pub bit_among : Form → (List ℕ → Option ℕ) → List ℕ → Option ℕ
bit_among (RegisterLine k register role) before name = cond (bytes_eq register name) (Some (2 ^ number_of k)) (before name)
bit_among _ before name = before name

-- the bits of a name, with the class that a form declares
abbrev pub bits_among : List Register → Form → (List ℕ → Option ℕ) → List ℕ → Option ℕ
bits_among rs (ClassLine class registers) before name = cond (bytes_eq class name) (Some (register_bits rs registers)) (before name)
bits_among rs _ before name = before name

-- if it is a register's line, the number is below 64
abbrev pub FitsIn64 : Form → Type 0
FitsIn64 (RegisterLine k name role) = number_of k < 64
FitsIn64 _ = Unit {0}

-- each register's number is below 64
abbrev pub FitIn64 : List Declaration → Type 0
FitIn64 [] = Unit {0}
FitIn64 (d ∷ ds) = FitsIn64 d.form × FitIn64 ds

-- a word has 16 or 32 bits
abbrev pub is_size : ℕ → Bool
is_size w = w == 16 || w == 32
