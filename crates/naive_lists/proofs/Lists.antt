-- A local array is initialised by a list of the values of its first elements (C11 6.7.9).
use Rattle.std.proofs.Common.{◌≡◌, ℕ, ◌+◌, ◌≤◌, List, [], ◌∷◌, Option, Some, None, refl, sym, ap, ◌∙◌, subst, arith}
use Rattle.std.specs.Prelude.{true, nat_le, take, slice_get, length}
use Rattle.std.specs.List.{list_all}
use Rattle.std.proofs.lemmas.Bool.Decides.{nat_tests}
use Rattle.md_shapes.specs.Shapes.{Frame as Fixed}
use Rattle.c_tree.specs.declared.types.CType.{CType}
use Rattle.c_tree.specs.declared.typed.Variable.TheVariants as variable
use Rattle.c_tree.specs.declared.typed.Object.{Object}
use Rattle.c_tree.specs.declared.typed.TypedExpr.{TypedExpr}
use Rattle.c_tree.specs.declared.typed.LocalInit.TheVariants as init
use Rattle.c_tree.specs.declared.typed.Function.{Function}
use Rattle.c_tree.specs.declared.typed.Typed.{Typed}
use Rattle.c_limits.specs.Depths.{in_list, arguments_of}
use Rattle.c_limits.specs.Frames.{arrays, scalars}
use Rattle.c_limits.specs.Sums.{or_0}
use Rattle.c_limits.specs.Weights.{length_of}
use Rattle.c_meaning.specs.Parts.{give, fill}
use Rattle.c_meaning.specs.Expressions.{Kind, array, type_in, Calls as SourceCalls, World}
use Rattle.c_meaning.specs.Run.{kind_in, kind_of, kind_by}
use Rattle.c_meaning.specs.Statements.{next, elements, initialise}
use Rattle.temp_machine.specs.Routines.{Image, Target}
use Rattle.naive_code.specs.Storage.{Frame, Elements, storage_of, local_in, local_storage, arrays_from}
use Rattle.naive_code.specs.Functions.{site_of}
use Rattle.naive_code.specs.Statements.{put_elements, cleared_rest, init_steps}
use Rattle.naive_run.specs.Sound.{alike, has_type}
use Rattle.naive_step.proofs.Doing.{does_then, does_on}
use Rattle.naive_step.proofs.Making.{Call as Active}
use Rattle.naive_assigned.proofs.Ready.{Ready, outgoing}
use Rattle.naive_assigns.proofs.Assigning.{world}
use Rattle.naive_calls.proofs.Calling.{CallsDo}
use Rattle.naive_nodes.proofs.Nodes.{both_so, left_few, right_few}
use Rattle.naive_nodes.proofs.Expressions.{expression_related}
use Rattle.naive_values.proofs.Getting.{stands_split}
use Rattle.naive_statements.proofs.Asked.{Past, past_since}
use Rattle.naive_statements.proofs.For.{PastDo}
use Rattle.naive_lists.proofs.Elements.{IsLocalArray, All_listed, elements_do}
use Rattle.naive_lists.proofs.Clearing.{rest_cleared}

abbrev pub array_length : Kind → ℕ
array_length (array of n) = n
array_length g = 0

-- where an array of the function is kept, and how long it is
record Room_for (temp offset : ℕ) (of : CType) (size : ℕ) (o : Option Object) : Type 0 where
  place : local_in temp offset o ≡ Elements (Frame offset) of
  count : length_of o ≡ size

local_room : (temp offset size : ℕ) (of : CType) (o : Option Object) → kind_of o ≡ array of size → Room_for temp offset of size o
local_room temp offset size of None e = absurd (grind (arith, e))
local_room temp offset size of (Some o) e = by_length o.length refl e
  where
    by_length : (l : Option ℕ) → o.length ≡ l → kind_by o.element l ≡ array of size → Room_for temp offset of size (Some o)
    by_length None l g = absurd (grind (arith, g))
    by_length (Some n) l g = record {
      place = ap (local_storage temp offset o.element) l ∙ ap (Elements (Frame offset)) (ap type_in g);
      count = ap or_0 l ∙ ap array_length g;
    }

pub le_of : (a b : ℕ) → nat_le a b ≡ true → a ≤ b
le_of a b e = grind (arith, nat_tests, e)

module _ (t : Target) (u : Image) (m : Fixed) (source : Typed) (f : Function) (k : Active) (ready : Ready t u m source f k) (n : ℕ) (call : SourceCalls) (calls : CallsDo t u m source f k ready n call) where
  abbrev own_world : World
  own_world = world t u m source f k ready n call

  -- each sound expression of the list does what its code does
  module _ (x : ℕ) (of : CType) (size offset : ℕ) (it : IsLocalArray t u m source f k ready x of size offset) where
    listed : (es : List TypedExpr) → list_all (has_type t.word source f of) es ≡ true → in_list arguments_of es ≤ outgoing t u m source f k ready
        → All_listed t u m source f k ready x of size offset it n own_world refl refl es
    listed [] typed few = tt
    listed (e ∷ es) typed few =
        let p = both_so _ _ typed in
        let q = both_so _ _ p.0 in
        let r = expression_related t u m source f k ready n call calls e in (
          record {
            fresh = r.fresh;
            same = subst (λ z. alike z of ≡ true) r.checked_of q.1;
            does = r.value q.0 (left_few t u m source f k ready n call calls (arguments_of e) (in_list arguments_of es) few);
          },
          listed es p.1 (right_few t u m source f k ready n call calls (arguments_of e) (in_list arguments_of es) few),
        )

  -- the listed elements are set, and then what is left out
  both_do : (x size offset : ℕ) (of : CType) (es : List TypedExpr) → IsLocalArray t u m source f k ready x of size offset → length_of (slice_get f.locals x) ≡ size
      → list_all (has_type t.word source f of) es ≡ true → nat_le (length es) size ≡ true → in_list arguments_of es ≤ outgoing t u m source f k ready
      → PastDo t u m source f k ready n (initialise own_world x (init.List es)) (init_steps (site_of t.kept t.word source f) f.locals x (init.List es))
  both_do x size offset of es it count typed fits few a first label b q c s fresh ops i at rep =
      let place = storage_of t.kept t.word source f (variable.Local x) in
      let listed_steps = put_elements (site_of t.kept t.word source f) place 0 es in
      let rest_steps = cleared_rest t.word place (length es) (length_of (slice_get f.locals x)) in
      let parts = stands_split t u m k (listed_steps.ops a first label) (rest_steps.ops a (first + listed_steps.temps) (label + listed_steps.labels)) b q ops in
      let clears = subst (λ z. PastDo t u m source f k ready n (λ s. give next (fill x (length es) (Some 0) s)) (cleared_rest t.word place (length es) z)) (sym count)
      (rest_cleared t u m source f k ready x of size offset it n (length es)) in
      does_then t u n c (λ fl s d. Past t u m source f k ready parts.0 c s d) (λ fl s d. Past t u m source f k ready q c s d) (elements own_world x 0 es s) (λ fl s1. give next (fill x (length es) (Some 0) s1))
      (elements_do t u m source f k ready x of size offset it n own_world refl refl es (le_of (length es) size fits) (listed x of size offset it es typed few) a first label b parts.0 c s fresh parts.1 i at rep)
      (λ fl s1 d h.
      does_on t u n d (λ fl s e. Past t u m source f k ready q d s e) (λ fl s e. Past t u m source f k ready q c s e) (give next (fill x (length es) (Some 0) s1))
      (clears a (first + listed_steps.temps) (label + listed_steps.labels) parts.0 q d s1 (omega (arith, fresh)) parts.2 h.inside h.at h.rep)
      (λ fl2 s2 e g. past_since t u m source f k ready q c d s2 e h.above g))

  pub lists_do : (x : ℕ) (of : CType) (size : ℕ) (es : List TypedExpr) → kind_in source f (variable.Local x) ≡ array of size
      → list_all (has_type t.word source f of) es ≡ true → nat_le (length es) size ≡ true → in_list arguments_of es ≤ outgoing t u m source f k ready
      → PastDo t u m source f k ready n (initialise (world t u m source f k ready n call) x (init.List es)) (init_steps (site_of t.kept t.word source f) f.locals x (init.List es))
  lists_do x of size es kind typed fits few =
      let offset = arrays_from t.kept t.word f + arrays t.word (take x f.locals) in
      let room = local_room (length f.params + scalars (take x f.locals)) offset size of (slice_get f.locals x) kind in
      both_do x size offset of es (record { kind = kind; place = room.place }) room.count typed fits few
