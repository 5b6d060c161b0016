-- What words ask for.
use Rattle.std.proofs.Common.{◌≡◌, ◌≢◌, ℕ, List, [], ◌∷◌, Option, None, Some, refl, sym, subst, Bool, true, false, bytes_eq, Decides, cond, codes}
use Rattle.std.specs.Prelude.{⊤, String, string_bytes}
use Rattle.std.specs.declared.alloc.Global.{Global}
use Rattle.std.proofs.lemmas.Slice.Eq.{bytes_eq-Decides}
use Rattle.shipped.specs.declared.Shipped.{Shipped}
use Rattle.shipped.specs.declared.Shipped.TheVariants.{Pdp11, Mips}
use Rattle.shipped.specs.Shipped.{name_of}
use Rattle.vpo_top.specs.declared.request.Request.{Request}
use Rattle.vpo_top.specs.declared.request.Request.TheVariants.{Check as CheckOf, Cc as CcOf}
use Rattle.vpo_top.specs.Request.{Asked, asked, is_file_word, is_compilation_form, check_of, show_of, compilation, compilation_of, request_of, steps_of, usual_steps, is_run_form, run_of, run_with_steps, names_a_file}
use Rattle.vpo_top.specs.Request.Asked.{Check, Show, Cc, Run}

-- the name of no machine that comes with the program
pub not_shown : (name : List ℕ) → ((s : Shipped) → name ≢ name_of s) → show_of name ≡ None
not_shown name other =
    by_names (bytes_eq name (name_of Pdp11)) (bytes_eq-Decides name (name_of Pdp11)) (bytes_eq name (name_of Mips)) (bytes_eq-Decides name (name_of Mips))
  where
    by_names : (p : Bool) → Decides p (name ≡ name_of Pdp11) → (m : Bool) → Decides m (name ≡ name_of Mips)
        → cond p (Some (Show 0)) (cond m (Some (Show 1)) None) ≡ None
    by_names true d m e = absurd (other Pdp11 (d.0 refl))
    by_names false d true e = absurd (other Mips (e.0 refl))
    by_names false d false e = refl

-- words of these forms name a file
pub check_names : (desc : List ℕ) → true ≡ is_file_word desc → names_a_file (check_of desc) ≡ true
check_names desc is = let P : Bool → Type 0 = λ b. names_a_file (cond b (Some (Check desc)) None) ≡ true in subst P is refl

pub compilation_names : (plain : Bool) (command desc src : List ℕ) → true ≡ is_compilation_form command desc src
    → names_a_file (compilation_of plain command desc src) ≡ true
compilation_names plain command desc src is =
    let P : Bool → Type 0 = λ b. names_a_file (cond b (compilation plain desc src) None) ≡ true in subst P is refl

-- where a compilation is asked for, it has no dumps
abbrev HasNoDumps : Option Asked → Type 0
HasNoDumps (Some (Check desc)) = ⊤
HasNoDumps (Some (Show which)) = ⊤
HasNoDumps (Some (Cc dump plain desc src)) = dump ≡ false
HasNoDumps (Some (Run steps desc asm)) = ⊤
HasNoDumps None = ⊤

in_cond : (b : Bool) (first other : Option Asked) → HasNoDumps first → HasNoDumps other → HasNoDumps (cond b first other)
in_cond true first other is is_other = is
in_cond false first other is is_other = is_other

no_dumps_of_run : (command : List ℕ) (steps : ℕ) (desc asm : List ℕ) → HasNoDumps (run_of command steps desc asm)
no_dumps_of_run command steps desc asm = in_cond (is_run_form command desc asm) (Some (Run steps desc asm)) None tt tt

no_dumps_with_steps : (steps : Option ℕ) (command desc asm : List ℕ) → HasNoDumps (run_with_steps steps command desc asm)
no_dumps_with_steps (Some steps) command desc asm = no_dumps_of_run command steps desc asm
no_dumps_with_steps None command desc asm = tt

no_dumps_of_compilation : (plain : Bool) (command desc src : List ℕ) → HasNoDumps (compilation_of plain command desc src)
no_dumps_of_compilation plain command desc src = in_cond (is_compilation_form command desc src) (compilation plain desc src) None refl tt

no_dumps : (words : List (List ℕ)) → HasNoDumps (request_of words)
no_dumps [] = tt
no_dumps (command ∷ []) = tt
no_dumps (command ∷ word ∷ []) =
    in_cond (bytes_eq command (codes "check")) (check_of word) (cond (bytes_eq command (codes "show")) (show_of word) None)
    (in_cond (is_file_word word) (Some (Check word)) None tt tt)
    (in_cond (bytes_eq command (codes "show")) (show_of word) None
    (in_cond (bytes_eq word (name_of Pdp11)) (Some (Show 0)) (cond (bytes_eq word (name_of Mips)) (Some (Show 1)) None) tt
    (in_cond (bytes_eq word (name_of Mips)) (Some (Show 1)) None tt tt))
    tt)
no_dumps (command ∷ desc ∷ src ∷ []) =
    in_cond (bytes_eq command (codes "cc")) (compilation_of false command desc src) (run_of command usual_steps desc src)
    (no_dumps_of_compilation false command desc src)
    (no_dumps_of_run command usual_steps desc src)
no_dumps (command ∷ option ∷ desc ∷ src ∷ []) =
    in_cond (bytes_eq option (codes "--plain")) (compilation_of true command desc src) None (no_dumps_of_compilation true command desc src) tt
no_dumps (command ∷ option ∷ steps ∷ desc ∷ asm ∷ []) =
    in_cond (bytes_eq option (codes "--steps")) (run_with_steps (steps_of steps) command desc asm) None
    (no_dumps_with_steps (steps_of steps) command desc asm) tt
no_dumps (command ∷ option ∷ steps ∷ desc ∷ asm ∷ more ∷ rest) = tt

is_compilation : (words : List (List ℕ)) (dump plain : Bool) (desc src : List ℕ)
    → request_of words ≡ Some (Cc dump plain desc src) → request_of words ≡ compilation plain desc src
is_compilation words false plain desc src is = is
is_compilation words true plain desc src is =
    let none : HasNoDumps (Some (Cc true plain desc src)) = subst HasNoDumps is (no_dumps words) in absurd (cc none)

-- what a request that was read asks for
pub check_wanted : (wanted : Option Asked) (request : Request) (desc : String Global) (name : List ℕ)
    → wanted ≡ Some (asked request) → request ≡ CheckOf desc → name ≡ string_bytes desc → wanted ≡ Some (Check name)
check_wanted wanted request desc name read is named =
    let P : Request → Type 0 = λ r. wanted ≡ Some (asked r) in
    let Q : List ℕ → Type 0 = λ n. wanted ≡ Some (Check n) in
    subst Q (sym named) (subst P is read)

pub compilation_wanted : (words : List (List ℕ)) (request : Request) (dump plain : Bool) (desc src : String Global) (d s : List ℕ)
    → request_of words ≡ Some (asked request) → request ≡ CcOf dump plain desc src → d ≡ string_bytes desc → s ≡ string_bytes src
    → request_of words ≡ compilation plain d s
compilation_wanted words request dump plain desc src d s read is d_is s_is =
    let P : Request → Type 0 = λ r. request_of words ≡ Some (asked r) in
    let Q : List ℕ → Type 0 = λ n. request_of words ≡ compilation plain n (string_bytes src) in
    let R : List ℕ → Type 0 = λ n. request_of words ≡ compilation plain d n in
    subst R (sym s_is) (subst Q (sym d_is) (is_compilation words dump plain (string_bytes desc) (string_bytes src) (subst P is read)))
