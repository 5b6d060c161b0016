-- The bits of registers and classes, from the last declaration to the first.
use Rattle.std.proofs.Common.{◌≡◌, ℕ, suc, ◌+◌, ◌^◌, ◌<◌, ◌≤◌, ◌-◌, Bool, true, false, cond, List, [], ◌∷◌, length, drop, get_or, refl, sym, ap, ◌∙◌, subst, arith}
use Rattle.std.specs.declared.option.Option.{Option}
use Rattle.std.specs.declared.option.Option.TheVariants.{Some}
use Rattle.std.specs.Prelude.{zero}
use Rattle.std.specs.List.{find}
use Rattle.std.specs.Option.{option_map}
use Rattle.std.specs.Str.{bytes_eq}
use Rattle.std.proofs.lemmas.List.{drop_more}
use Rattle.md_rows.specs.declared.description.Register.{Register}
use Rattle.md_text.specs.Forms.{Form, Version, MachineName, WordBits, MemorySize, DataBegin, StackSize, RegisterLine, FlagLine, ClassLine, ModeLine, RowLine}
use Rattle.md_text.specs.Declarations.{Declaration, Class, number_of, register_bits, registers_in, classes_in}
use Rattle.md_forms.specs.Seen.{declaration_of, declarations_of}
use Rattle.md_forms.specs.declared.declarations.Declaration.{Declaration as Read}
use Rattle.md_expand.specs.Bits.{bits_among, bit_among, FitsIn64, FitIn64}

-- the bits of the first class of a name
abbrev pub first_bits : List Register → List Declaration → List ℕ → Option ℕ
first_bits rs ds name = option_map (λ c. register_bits rs c.registers) (find (λ c. bytes_eq c.name name) (classes_in ds))

choose :
    (b : Bool) (rs : List Register) (c : Class) (rest : Option Class)
    → cond b (Some (register_bits rs c.registers)) (option_map (λ c. register_bits rs c.registers) rest)
    ≡ option_map (λ c. register_bits rs c.registers) (cond b (Some c) rest)
choose true rs c rest = refl
choose false rs c rest = refl

among :
    (rs : List Register) (form : Form) (line : ℕ) (ds : List Declaration) (before : List ℕ → Option ℕ) (name : List ℕ)
    → before name ≡ first_bits rs ds name → bits_among rs form before name ≡ first_bits rs (record { line = line; form = form } ∷ ds) name
among rs Version line ds before name e = e
among rs (MachineName n) line ds before name e = e
among rs (WordBits z) line ds before name e = e
among rs (MemorySize z) line ds before name e = e
among rs (DataBegin z) line ds before name e = e
among rs (StackSize z) line ds before name e = e
among rs (RegisterLine k n role) line ds before name e = e
among rs (FlagLine k n) line ds before name e = e
among rs (ClassLine n registers) line ds before name e =
    ap (λ x. cond (bytes_eq n name) (Some (register_bits rs registers)) x) e
    ∙ choose (bytes_eq n name) rs (record { name = n; registers = registers }) (find (λ c. bytes_eq c.name name) (classes_in ds))
among rs (ModeLine n text tree) line ds before name e = e
among rs (RowLine text transfer) line ds before name e = e

pub one_before :
    (rs : List Register) (all : List Read) (left : ℕ) (d : Read) (before : List ℕ → Option ℕ) (name : List ℕ)
    → 0 < left → left ≤ length all → before name ≡ first_bits rs (declarations_of (drop left all)) name
    → bits_among rs (declaration_of (get_or all (left - 1) d)).form before name ≡ first_bits rs (declarations_of (drop (left - 1) all)) name
one_before rs all left d before name some within e =
    let i = left - 1 in
    let next : i + 1 ≡ left = omega arith in
    let split : drop i all ≡ get_or all i d ∷ drop left all =
    drop_more all i d (omega arith) ∙ ap (λ n. get_or all i d ∷ drop n all) next in
    among rs (declaration_of (get_or all i d)).form (get_or all i d).line (declarations_of (drop left all)) before name e
    ∙ ap (λ x. first_bits rs (declarations_of x) name) (sym split)

-- the bit of the first register of a name
abbrev pub first_bit : List Declaration → List ℕ → Option ℕ
first_bit ds name = option_map (λ r. 2 ^ r.number) (find (λ r. bytes_eq r.name name) (registers_in ds))

choose_register : (b : Bool) (r : Register) (rest : Option Register) → cond b (Some (2 ^ r.number)) (option_map (λ r. 2 ^ r.number) rest) ≡ option_map (λ r. 2 ^ r.number) (cond b (Some r) rest)
choose_register true r rest = refl
choose_register false r rest = refl

among_registers :
    (form : Form) (line : ℕ) (ds : List Declaration) (before : List ℕ → Option ℕ) (name : List ℕ)
    → before name ≡ first_bit ds name → bit_among form before name ≡ first_bit (record { line = line; form = form } ∷ ds) name
among_registers Version line ds before name e = e
among_registers (MachineName n) line ds before name e = e
among_registers (WordBits z) line ds before name e = e
among_registers (MemorySize z) line ds before name e = e
among_registers (DataBegin z) line ds before name e = e
among_registers (StackSize z) line ds before name e = e
among_registers (RegisterLine k n role) line ds before name e =
    ap (λ x. cond (bytes_eq n name) (Some (2 ^ number_of k)) x) e
    ∙ choose_register (bytes_eq n name) (record { number = number_of k; name = n; role = role }) (find (λ r. bytes_eq r.name name) (registers_in ds))
among_registers (FlagLine k n) line ds before name e = e
among_registers (ClassLine n registers) line ds before name e = e
among_registers (ModeLine n text tree) line ds before name e = e
among_registers (RowLine text transfer) line ds before name e = e

pub one_register_before :
    (all : List Read) (left : ℕ) (d : Read) (before : List ℕ → Option ℕ) (name : List ℕ)
    → 0 < left → left ≤ length all → before name ≡ first_bit (declarations_of (drop left all)) name
    → bit_among (declaration_of (get_or all (left - 1) d)).form before name ≡ first_bit (declarations_of (drop (left - 1) all)) name
one_register_before all left d before name some within e =
    let i = left - 1 in
    let next : i + 1 ≡ left = omega arith in
    let split : drop i all ≡ get_or all i d ∷ drop left all =
    drop_more all i d (omega arith) ∙ ap (λ n. get_or all i d ∷ drop n all) next in
    among_registers (declaration_of (get_or all i d)).form (get_or all i d).line (declarations_of (drop left all)) before name e
    ∙ ap (λ x. first_bit (declarations_of x) name) (sym split)

fits_before : (all : List Read) (i : ℕ) → FitIn64 (declarations_of all) → FitIn64 (declarations_of (drop i all))
fits_before all zero fit = fit
fits_before [] (suc i) fit = fit
fits_before (d ∷ all) (suc i) fit = fits_before all i fit.1

pub fits_at : (all : List Read) (i : ℕ) (d : Read) → FitIn64 (declarations_of all) → i < length all → FitsIn64 (declaration_of (get_or all i d)).form
fits_at all i d fit lt =
    (subst (λ (ds : List Read). FitIn64 (declarations_of ds)) (drop_more all i d lt) (fits_before all i fit)).0
