-- Names and numbers that are declared.
use Rattle.std.specs.Prelude.{ℕ, Bool, false, List, map}
use Rattle.std.specs.Option.{option_to_list, option_map_or}
use Rattle.std.specs.Str.{bytes_eq}
use Rattle.std.specs.Borrow.{Bor}
use Rattle.std.specs.HashSet.{HashSet, contains_by}
use Rattle.md_rows.specs.declared.description.Register.{Register}
use Rattle.md_rows.specs.declared.description.FlagName.{FlagName}
use Rattle.md_text.specs.Forms.{Form}
use Rattle.md_text.specs.Declarations.{Declaration, register_of, registers_in, flag_of, flags_in, class_of, alternative_of}
use Rattle.md_rules.specs.declared.names.Numbered.{Numbered}

-- whether a set has a name of these bytes
abbrev pub has_bytes : {S : Type 0} → HashSet (Bor (List ℕ)) S → List ℕ → Bool
has_bytes names bytes = contains_by (λ k. bytes_eq bytes k.now) names

abbrev pub numbered_of : Numbered → ℕ × List ℕ
numbered_of n = (n.number, n.name.now)

abbrev pub key_of_register : Register → ℕ × List ℕ
key_of_register r = (r.number, r.name)

abbrev pub register_key : Form → List (ℕ × List ℕ)
register_key form = map key_of_register (option_to_list (register_of form))

abbrev pub register_keys : List Declaration → List (ℕ × List ℕ)
register_keys ds = map key_of_register (registers_in ds)

abbrev pub key_of_flag : FlagName → ℕ × List ℕ
key_of_flag f = (f.number, f.name)

abbrev pub flag_key : Form → List (ℕ × List ℕ)
flag_key form = map key_of_flag (option_to_list (flag_of form))

abbrev pub flag_keys : List Declaration → List (ℕ × List ℕ)
flag_keys ds = map key_of_flag (flags_in ds)

-- whether a form declares a class of this name
abbrev pub names_class : Form → List ℕ → Bool
names_class form name = option_map_or (λ c. bytes_eq c.name name) (class_of form) false

-- whether a form gives an alternative of the mode of this name
abbrev pub names_mode : Form → List ℕ → Bool
names_mode form name = option_map_or (λ a. bytes_eq a.mode name) (alternative_of form) false
