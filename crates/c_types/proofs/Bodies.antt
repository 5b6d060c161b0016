-- The body of a definition stands behind its parameters, and leaves the names of the file.
use Rattle.std.proofs.Common.{◌≡◌, ℕ, Bool, true, Option, Result, Ok, Err, List, [], map, length, sym, ap, ◌∙◌}
use Rattle.c_tree.specs.declared.token.At.{At}
use Rattle.c_tree.specs.declared.types.CType.{CType}
use Rattle.c_tree.specs.declared.syntax.Return.{Return}
use Rattle.c_tree.specs.declared.syntax.External.{External}
use Rattle.c_tree.specs.declared.syntax.External.TheVariants as external
use Rattle.c_tree.specs.declared.syntax.Identifier.{Identifier}
use Rattle.c_tree.specs.declared.syntax.Parameters.{Parameters}
use Rattle.c_tree.specs.declared.syntax.Statement.{Statement}
use Rattle.c_tree.specs.declared.typed.Object.{Object}
use Rattle.c_tree.specs.declared.typed.Function.{Function}
use Rattle.c_tree.specs.declared.typed.Stat.{Stat}
use Rattle.c_typing.specs.declared.names.Around.{Around}
use Rattle.c_typing.specs.declared.names.Fault.{Fault}
use Rattle.c_typing.specs.declared.names.Signature.{Signature}
use Rattle.c_typing.specs.Faults.{notes}
use Rattle.c_typing.specs.Expressions.{one}
use Rattle.c_typing.specs.Functions.{heading, parameter_list, return_type}
use Rattle.c_functions.specs.Files.{of_name}
use Rattle.std.specs.Result.{IfOk, OnOk}
use Rattle.c_typing.specs.Statements as st
use Rattle.c_typing.specs.Program as spec

module _ (f : spec.File) (ps : Parameters) (none : List Object) (empty : none ≡ []) where
  abbrev before : List Object → spec.Params
  before os = record { names = f.names; objects = os }

  abbrev behind : List Object → spec.Params
  behind os = spec.with_parameters (before os) (parameter_list ps)

  pub parameters_are : (q : spec.Params) → q ≡ behind none → q ≡ spec.parameters_of f ps
  parameters_are q is = is ∙ ap behind empty

  pub told_of_parameters : (start : ℕ) (defines : Bool) (old new : Option Fault) → start ≡ length f.names
      → new ≡ notes old (spec.parameters_faults f.included start defines (before none) (parameter_list ps)) → new ≡ notes old (spec.faults_of_parameters f defines ps)
  told_of_parameters start defines old new begins told =
      told ∙ ap (λ os. notes old (spec.parameters_faults f.included start defines (before os) (parameter_list ps))) empty
      ∙ ap (λ n. notes old (spec.parameters_faults f.included n defines (before []) (parameter_list ps))) begins

module _ (ss : List Signature) (w : ℕ) (f : spec.File) (r : Return) (n : Identifier) (ps : Parameters) (brace : At) (body : List Statement)
    (q : spec.Params) (is : q ≡ spec.parameters_of f ps) (start : ℕ) (begins : start ≡ length f.names) (of : CType) (gives : of ≡ return_type r)
    (around : Around) (stands : around ≡ spec.around_body of start) where
  abbrev here : spec.Params → st.Here
  here p = record { names = p.names; locals = []; labels = [] }

  abbrev walked : Around → spec.Params → st.Walked (List Stat)
  walked c p = st.sequence (spec.within ss w f) c (here p) (map (st.walk (spec.within ss w f)) body)

  same_around : around ≡ spec.around_body (return_type r) (length f.names)
  same_around = stands ∙ ap (λ t. spec.around_body t start) gives ∙ ap (spec.around_body (return_type r)) begins

  same_walk : walked around q ≡ walked (spec.around_body (return_type r) (length f.names)) (spec.parameters_of f ps)
  same_walk = ap (λ c. walked c q) same_around ∙ ap (walked (spec.around_body (return_type r) (length f.names))) is

  pub told_of_body : (old mid new : Option Fault) → mid ≡ notes old (spec.faults_of_parameters f true ps) → new ≡ notes mid (walked around q).faults
      → new ≡ notes old (spec.with_body ss w f r n ps brace body).faults
  told_of_body old mid new first then_ =
      then_ ∙ ap (λ m. notes m (walked around q).faults) first
      ∙ ap (λ (x : st.Walked (List Stat)). notes (notes old (spec.faults_of_parameters f true ps)) x.faults) same_walk

  abbrev tree : CType → spec.Params → st.Walked (List Stat) → Option (List Function)
  tree t p x = st.single (one (spec.function_tree brace n t p.objects x.here.locals) x.tree)

  pub tree_of_body : (locals : List Object) (trees : Option (List Stat)) (out : Option (List Function)) → trees ≡ (walked around q).tree → locals ≡ (walked around q).here.locals
      → out ≡ st.single (one (spec.function_tree brace n of q.objects locals) trees) → out ≡ (spec.with_body ss w f r n ps brace body).functions
  tree_of_body locals trees out e l made =
      made ∙ ap (λ ls. st.single (one (spec.function_tree brace n of q.objects ls) trees)) l
      ∙ ap (λ ts. st.single (one (spec.function_tree brace n of q.objects (walked around q).here.locals) ts)) e
      ∙ ap (λ t. tree t q (walked around q)) gives ∙ ap (λ p. tree (return_type r) p (walked around q)) is
      ∙ ap (tree (return_type r) (spec.parameters_of f ps)) same_walk

-- a definition of a function, as a part of the file
module _ (first : List ℕ → Option ℕ) (ss : List Signature) (w : ℕ) (f g : spec.File) (x : External) (at : At) (r : Return) (n : Identifier) (name : List ℕ) (ps : Parameters) (brace : At)
    (body list : List Statement) (is : x ≡ external.Defined at r n ps brace body) (own : name ≡ n.bytes) (file : g ≡ spec.with_heading f (of_name name true)) (same : list ≡ body) where
  behind_heading : g ≡ spec.with_heading f (heading n.bytes r ps true)
  behind_heading = file ∙ ap (λ m. spec.with_heading f (of_name m true)) own

  abbrev defined : spec.File → List Statement → spec.Parts
  defined k b = spec.with_body ss w k r n ps brace b

  same_body : defined g list ≡ defined (spec.with_heading f (heading n.bytes r ps true)) body
  same_body = ap (λ k. defined k list) behind_heading ∙ ap (defined (spec.with_heading f (heading n.bytes r ps true))) same

  pub functions_of_part : (out : Option (List Function)) → out ≡ (defined g list).functions → out ≡ (spec.part first ss w f x).functions
  functions_of_part out made = made ∙ ap (λ (p : spec.Parts). p.functions) same_body ∙ ap (λ y. (spec.part first ss w f y).functions) (sym is)

  pub told_of_part : (old mid new : Option Fault) → mid ≡ notes old (spec.heading_faults first ss f (heading n.bytes r ps true) at n.at) → new ≡ notes mid (defined g list).faults
      → new ≡ notes old (spec.part first ss w f x).faults
  told_of_part old mid new before_ then_ =
      then_ ∙ ap (λ m. notes m (defined g list).faults) before_
      ∙ ap (λ (p : spec.Parts). notes (notes old (spec.heading_faults first ss f (heading n.bytes r ps true) at n.at)) p.faults) same_body
      ∙ ap (λ y. notes old (spec.part first ss w f y).faults) (sym is)

pub where_ok : {A E : Type 0} {P Q : A → Type 0} (r : Result A E) → ((x : A) → P x → Q x) → IfOk r P → IfOk r Q
where_ok (Ok x) h p = h x p
where_ok (Err e) h p = tt

pub on_ok : {A E : Type 0} {P Q : Type 0} (r : Result A E) → (P → Q) → OnOk r P → OnOk r Q
on_ok (Ok x) h p = h p
on_ok (Err e) h p = tt
