-- What is known with one more declaration.
use Rattle.std.proofs.Common.{◌≡◌, ℕ, ◌+◌, ◌<◌, Bool, true, false, cond, ◌||◌, List, [], ◌∷◌, ◌++◌, map, take, length, get_or, refl, sym, ap, ◌∙◌}
use Rattle.std.proofs.lemmas.List.{take_more, map-append}
use Rattle.std.proofs.lemmas.List.Elements.{filter_map-append}
use Rattle.std.proofs.lemmas.List.Folds.{list_any-append}
use Rattle.std.specs.List.{list_any, filter_map}
use Rattle.std.specs.Option.{option_to_list, option_map_or}
use Rattle.std.specs.declared.option.Option.{Option}
use Rattle.std.specs.declared.option.Option.TheVariants.{Some, None}
use Rattle.std.specs.Str.{bytes_eq}
use Rattle.md_text.specs.Forms.{Form}
use Rattle.md_text.specs.Pieces.{has_name}
use Rattle.md_text.specs.Declarations.{Declaration, register_of, registers_in, flag_of, flags_in, class_of, alternative_of, class_names, mode_names}
use Rattle.md_forms.specs.Seen.{declaration_of, declarations_of}
use Rattle.md_forms.specs.declared.declarations.Declaration.{Declaration as Read}
use Rattle.md_rules.specs.Names.{numbered_of, register_key, register_keys, key_of_register, flag_key, flag_keys, key_of_flag, names_class, names_mode}
use Rattle.md_rules.specs.declared.names.Numbered.{Numbered}
use Rattle.md_rules.proofs.Lists.{list_any-map, or_false}

pub keyed :
    {X : Type 0} (t : ℕ × List ℕ → Bool) (ns : List Numbered) (key : X → ℕ × List ℕ) (xs : List X) → map numbered_of ns ≡ map key xs
    → list_any (λ n. t (numbered_of n)) ns ≡ list_any (λ x. t (key x)) xs
keyed t ns key xs e = sym (list_any-map t numbered_of ns) ∙ ap (list_any t) e ∙ list_any-map t key xs

pub one_more :
    (all before : List Read) (d : Read) → before ≡ take (length before) all → length before < length all
    → declarations_of (take (length before + 1) all) ≡ declarations_of before ++ declaration_of (get_or all (length before) d) ∷ []
one_more all before d front lt =
    ap declarations_of (take_more all (length before) d lt) ∙ map-append declaration_of (take (length before) all) (get_or all (length before) d ∷ [])
    ∙ ap (λ x. declarations_of x ++ declaration_of (get_or all (length before) d) ∷ []) (sym front)

alone : {A : Type 0} (o : Option A) (f : Form → Option A) (d : Declaration) → f d.form ≡ o → filter_map (λ d. f d.form) (d ∷ []) ≡ option_to_list o
alone None f d e = rw e refl
alone (Some x) f d e = rw e refl

-- what a form gives, in a list with one more declaration
listed :
    {A : Type 0} (f : Form → Option A) (ds : List Declaration) (d : Declaration)
    → filter_map (λ d. f d.form) (ds ++ d ∷ []) ≡ filter_map (λ d. f d.form) ds ++ option_to_list (f d.form)
listed f ds d =
    filter_map-append (λ d. f d.form) ds (d ∷ []) ∙ ap (λ x. filter_map (λ d. f d.form) ds ++ x) (alone (f d.form) f d refl)

pub register_keys-push : (ds : List Declaration) (d : Declaration) → register_keys (ds ++ d ∷ []) ≡ register_keys ds ++ register_key d.form
register_keys-push ds d =
    ap (map key_of_register) (listed register_of ds d) ∙ map-append key_of_register (registers_in ds) (option_to_list (register_of d.form))

pub flag_keys-push : (ds : List Declaration) (d : Declaration) → flag_keys (ds ++ d ∷ []) ≡ flag_keys ds ++ flag_key d.form
flag_keys-push ds d = ap (map key_of_flag) (listed flag_of ds d) ∙ map-append key_of_flag (flags_in ds) (option_to_list (flag_of d.form))

-- a name among those that a form gives, in a list with one more declaration
named :
    {A : Type 0} (f : Form → Option A) (name_of : A → List ℕ) (ds : List Declaration) (d : Declaration) (name : List ℕ)
    → has_name (map name_of (filter_map (λ d. f d.form) (ds ++ d ∷ []))) name
    ≡ (has_name (map name_of (filter_map (λ d. f d.form) ds)) name || option_map_or (λ a. bytes_eq (name_of a) name) (f d.form) false)
named f name_of ds d name =
    ap (λ xs. has_name (map name_of xs) name) (listed f ds d)
    ∙ ap (λ xs. has_name xs name) (map-append name_of (filter_map (λ d. f d.form) ds) (option_to_list (f d.form)))
    ∙ list_any-append (λ other. bytes_eq other name) (map name_of (filter_map (λ d. f d.form) ds)) (map name_of (option_to_list (f d.form)))
    ∙ ap (λ b. has_name (map name_of (filter_map (λ d. f d.form) ds)) name || b) (only name_of (f d.form) name)
  where
    only :
        {A : Type 0} (name_of : A → List ℕ) (o : Option A) (name : List ℕ)
        → has_name (map name_of (option_to_list o)) name ≡ option_map_or (λ a. bytes_eq (name_of a) name) o false
    only name_of None name = refl
    only name_of (Some a) name = or_false (bytes_eq (name_of a) name)

pub class_names-push :
    (ds : List Declaration) (d : Declaration) (name : List ℕ)
    → has_name (class_names (ds ++ d ∷ [])) name ≡ (has_name (class_names ds) name || names_class d.form name)
class_names-push ds d name = named class_of (λ c. c.name) ds d name

pub mode_names-push :
    (ds : List Declaration) (d : Declaration) (name : List ℕ)
    → has_name (mode_names (ds ++ d ∷ [])) name ≡ (has_name (mode_names ds) name || names_mode d.form name)
mode_names-push ds d name = named alternative_of (λ a. a.mode) ds d name

pub or_swap : (a b : Bool) → cond a true b ≡ (b || a)
or_swap true true = refl
or_swap true false = refl
or_swap false true = refl
or_swap false false = refl
